-- The first lock has its own id in the service, and is free; a take of it may be committed.
use Rattle.std.proofs.Common.{◌≤◌, sym, ◌∙◌, ap, subst}
use Rattle.sg_replay.specs.sg_name.Names.{named_at}
use Rattle.test_replay.proofs.OneLock.{may_commit_take, may_serve_take}
use Rattle.test_replay.specs.Turns.{one_lock}
use Rattle.test_replay.proofs.turns.take.Goals as goal

pub serve-requires : goal.serve-requires
serve-requires c =
    let reserved = c.in_ok-reserve.ensures in
    may_serve_take c.reserve.new.self c.args.take.now c.requires.take
    (record { up = reserved.running ∙ c.requires.rebuilt.up; named = ap (λ known. named_at known 1) reserved.names ∙ c.requires.rebuilt.named }) (reserved.given ∙ c.requires.first.given)
    reserved.cell_room reserved.name_room

pub commit-requires : goal.commit-requires
commit-requires c =
    let reserved = c.in_ok-reserve.ensures in
    let served = c.in-Replied.ensures in
    may_commit_take c.reserve.new.self c.serve.new.self c.serve.new.self c.args.take.now _ _ c.in-Replied.reply c.in-Replied.patch c.requires.take
    (served.outcome one_lock (reserved.running ∙ c.requires.rebuilt.up))
    (subst (λ s. 2 ≤ s.clients) (sym served.stored) (subst (λ n. 2 ≤ n) (sym reserved.clients) c.requires.clients))

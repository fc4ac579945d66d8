-- The map has another mark at the path, which it had before.
use Rattle.std.proofs.Common.{◌≡◌, true, false, is_some, ◌∙◌, ap}
use Rattle.sg_replay.specs.Present.{mark_at, marks_of}
use Rattle.sg_replay.proofs.Marks.{has_found, mark_moved}
use Rattle.sg_replay.proofs.present.set_mark.Goals as goal

pub returns : goal.returns
returns c = λ k.
    ap (λ entries. mark_at (marks_of entries) k) (c.get_mut.follows.holds true).0 ∙ mark_moved c.args.marks.now.entries c.args.key.now true k c.requires

pub unreachable-requires : goal.unreachable-requires
unreachable-requires c =
    let gone : false ≡ true = ap is_some c.in-None.ensures.value ∙ has_found c.args.marks.now.entries c.args.key.now ∙ c.requires in
    cc gone

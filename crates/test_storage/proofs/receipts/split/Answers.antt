-- The descriptor is the next.
use Rattle.std.proofs.Common.{◌≡◌, ◌+◌, ◌≤◌, refl, sym, ◌∙◌, ap, subst, arith}
use Rattle.test_storage.proofs.Committing.{may_split}
use Rattle.test_storage.proofs.receipts.split.Goals as goal

pub commit-requires : goal.commit-requires
commit-requires c =
    let last = subst (λ n. c.args.client ≤ n) (sym c.in_ok-reserve.ensures.clients) c.requires.last in
    may_split c.args.tables.now.iface.facts c.reserve.new.self c.call-tsplit.result c.done.result c.args.client c.args.seq c.args.id c.requires.files c.call-tsplit.ensures c.done.ensures c.requires.first last
    (ap (λ n. n + 1) c.in_ok-reserve.ensures.given ∙ c.requires.next)

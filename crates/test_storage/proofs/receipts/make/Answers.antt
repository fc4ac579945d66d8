-- The lock is the next, and there is room for its row.
use Rattle.std.proofs.Common.{◌≡◌, ◌+◌, ◌≤◌, refl, sym, ◌∙◌, ap, subst, arith}
use Rattle.test_storage.proofs.Committing.{may_make}
use Rattle.test_storage.proofs.receipts.make.Goals as goal

pub commit-requires : goal.commit-requires
commit-requires c =
    let last = subst (λ n. c.args.client ≤ n) (sym c.in_ok-reserve.ensures.clients) c.requires.last in
    may_make c.args.tables.now.iface.facts c.reserve.new.self c.call-lock_alloc.result c.done.result c.args.client c.args.seq c.args.id c.requires.locks c.call-lock_alloc.ensures c.done.ensures c.requires.first last
    (ap (λ n. n + 1) c.in_ok-reserve.ensures.given ∙ c.requires.next) c.in_ok-reserve.ensures.row

-- A refusal asks for nothing.
use Rattle.std.proofs.Common.{◌≡◌, ◌+◌, ◌≤◌, refl, sym, ◌∙◌, ap, subst, arith}
use Rattle.test_tables.specs.sg_facts.sg_base.declared.reply.Reply.TheVariants.{Refused}
use Rattle.test_storage.proofs.Committing.{may_refuse}
use Rattle.test_storage.proofs.receipts.refuse.Goals as goal

pub commit-requires : goal.commit-requires
commit-requires c =
    let last = subst (λ n. c.args.client ≤ n) (sym c.in_ok-reserve.ensures.clients) c.requires.last in
    may_refuse c.args.tables.now.iface.facts c.reserve.new.self c.call-refused.result (Refused c.args.code) c.args.client c.args.seq c.args.code c.call-refused.ensures refl c.requires.first last

-- No rule comes in between, and this one surely applies.
use Rattle.std.proofs.Common.{map, sym, ◌∙◌, ap}
use Rattle.std.specs.List.{list_all}
use Rattle.sg_known.specs.sg_described.Described.{rule_of}
use Rattle.sg_known.specs.sg_described.Known.{surely_applies}
use Rattle.sg_known.specs.sg_described.Waiting.{stays_out, test_lasts}
use Rattle.sg_safe.proofs.Waits.{goes_by}
use Rattle.sg_safe.proofs.waiting.goes_on.Goals as goal

pub returns : goal.returns
returns c =
    let effects = ap (λ f. f.effects) c.fun.ensures in
    goes_by _ _ _ _
    (ap (λ es. list_all (stays_out es) (map rule_of c.args.wait.before.now)) (sym effects) ∙ sym c.all_keep_out.ensures ∙ c.if-not-all_keep_out.false)
    (ap (λ es. list_all (test_lasts es) c.args.wait.rule.now.tests.now) (sym effects) ∙ sym c.all_last.ensures ∙ c.if-all_last.false)
    (c.applies_surely.ensures ∙ ap (λ k. surely_applies k (rule_of c.args.wait.rule.now)) c.in_ok-after.ensures)

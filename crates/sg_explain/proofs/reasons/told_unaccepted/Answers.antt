-- The line of the fault stands before why.
use Rattle.sg_input.specs.declared.refusal.RefusalKind.TheVariants.{Check}
use Rattle.sg_explain.proofs.reasons.told_unaccepted.Goals as goal

pub returns : goal.returns
returns c = (
  c.in_ok-told.told,
  (Check c.args.fault.kind, c.args.fault.at, (c.args.tree.now, c.requires.sentence, c.requires.fault), c.in_ok-told.ensures),
  c.in_ok-put_fault.ensures,
)

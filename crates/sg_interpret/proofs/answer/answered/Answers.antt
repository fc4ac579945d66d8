-- No field has two effects.
use Rattle.std.proofs.Common.{◌∙◌, ap}
use Rattle.sg_described.specs.sg_facts.Allowed.{sets_once}
use Rattle.sg_described.specs.sg_facts.Facts.{Fun}
use Rattle.sg_described.specs.Described.{described_of}
use Rattle.sg_described.proofs.Keeping.Answering.{plain_fun}
use Rattle.sg_interpret.proofs.answer.answered.Goals as goal

pub done-requires-clause-once : goal.done-requires-clause-once
done-requires-clause-once c =
    let its = plain_fun (described_of c.args.description.now) c.requires.plain c.args.call.now.fun c.requires.first c.requires.last in
    ap (λ (f : Fun). sets_once f.effects) c.requires.fun ∙ its.once

pub done-requires-in-None-clause-once : goal.done-requires-in-None-clause-once
done-requires-in-None-clause-once c =
    let its = plain_fun (described_of c.args.description.now) c.requires.plain c.args.call.now.fun c.requires.first c.requires.last in
    ap (λ (f : Fun). sets_once f.effects) c.requires.fun ∙ its.once

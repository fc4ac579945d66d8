-- What is answered is what a text in which nothing is wrong describes, or what is first wrong.
use Rattle.std.proofs.Common.{◌∙◌, ap}
use Rattle.sg_shape.specs.sg_facts.Facts.{facts_of}
use Rattle.sg_described.specs.Safe.{is_plain}
use Rattle.sg_describe.specs.DescribedText.{described_with}
use Rattle.sg_describe.proofs.Few.{few_kinds, few_names}
use Rattle.sg_describe.proofs.Plain.{plain}
use Rattle.sg_describe.proofs.describing.describe.Goals as goal

pub flawless-requires-clause-few : goal.flawless-requires-clause-few
flawless-requires-clause-few c = few_names c.args.tree.now (facts_of c.args.shape.now) c.requires.shape c.requires.sound

pub described-requires-clause-names : goal.described-requires-clause-names
described-requires-clause-names c = few_names c.args.tree.now (facts_of c.args.shape.now) c.requires.shape c.requires.sound

pub described-requires-clause-params : goal.described-requires-clause-params
described-requires-clause-params c = few_kinds c.args.tree.now (facts_of c.args.shape.now) c.requires.shape c.requires.sound

pub returns-clause-plain : goal.returns-clause-plain
returns-clause-plain c =
    ap is_plain (c.in_ok-described.ensures ∙ ap (described_with (facts_of c.args.shape.now)) c.as_slice.ensures ∙ ap (λ facts. described_with facts c.args.tree.now.statements) c.requires.shape) ∙ plain c.args.tree.now c.requires.sound c.in_ok-flawless.ensures

-- The test of values doesn't ask which of the two comes first.
use Rattle.std.proofs.Common.{◌∙◌, ap}
use Rattle.std.specs.Cmp.Lexicographic.{pointwise}
use Rattle.sg_base.specs.Values.{same_value}
use Rattle.sg_base.proofs.SameValues.{either_way}
use Rattle.sg_base.proofs.args.ArgsPartialEq.eq.Goals as goal

pub returns-in-Values-Words : goal.returns-in-Values-Words
returns-in-Values-Words c =
    let these = c.in-Values-Words in
    c.are_words-in-Values-Words.ensures
    ∙ ap (λ xs. pointwise same_value xs these.values.now) these.ensures'
    ∙ ap (pointwise same_value c.args.other.now) these.ensures
    ∙ either_way c.args.other.now c.args.self.now

-- The greatest numbers of the fields so far.
use Rattle.std.proofs.Common.{◌≡◌, map, take}
use Rattle.sg_describe.specs.DescribedText.{most_of}
use Rattle.sg_describe.proofs.making.most_of_all.Given as goal

abbrev pub invariant-fields : goal.invariant-fields
invariant-fields l = l.most.items ≡ map (λ x. most_of l.statements x.name.now) (take l.field-index l.fields)

-- Words are the words of the values that they are.
use Rattle.std.proofs.Common.{◌≡◌, ap, map, refl, subst}
use Rattle.sg_base.specs.declared.value.Value.TheVariants.{Word}
use Rattle.sg_base.specs.Records.{word_of}
use Rattle.sg_base.proofs.SameParts.{word_back}
use Rattle.sg_base.proofs.in_brief.are_words.Goals as goal

pub returns-in-Words : goal.returns-in-Words
returns-in-Words c = (λ _. subst (λ args. map Word (map word_of args) ≡ args) c.in-Words.ensures (ap (map Word) (word_back c.in-Words.field-0.now)), λ _. refl)

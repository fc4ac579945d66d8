-- There is no text among words.
use Rattle.std.proofs.Common.{◌≡◌, ℕ, List, [], ◌∷◌, map, refl}
use Rattle.sg_facts.specs.Object.{first_text}
use Rattle.sg_facts.specs.sg_base.declared.value.Value.TheVariants.{Word}

pub no_text : (words : List ℕ) → [] ≡ first_text (map Word words)
no_text [] = refl
no_text (word ∷ words) = no_text words

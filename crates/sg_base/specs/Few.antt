-- The words that stand in a list itself, without a block of memory.
use Rattle.std.specs.Prelude.{ℕ, List, []}
use Rattle.sg_base.specs.declared.few.FewWords.{FewWords}
use Rattle.sg_base.specs.declared.few.FewWords.TheVariants.{Empty, One, Two}

-- the greatest number of them
abbrev pub most_few : ℕ
most_few = 2

-- the words
abbrev pub few_in : FewWords → List ℕ
few_in Empty = []
few_in (One words) = words
few_in (Two words) = words

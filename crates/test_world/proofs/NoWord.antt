-- A text is no word.
use Rattle.std.proofs.Common.{◌≡◌, ◌≤◌, ℕ, List, [], ◌∷◌, false, length, map, slice_index_or, refl, ap, sym, ◌∙◌, arith}
use Rattle.sg_facts.specs.Kinds.{kinds_fit}
use Rattle.sg_facts.specs.declared.shape.Kind.{Kind}
use Rattle.sg_facts.specs.declared.shape.Kind.TheVariants.{Text as TextKind}
use Rattle.sg_facts.specs.sg_base.declared.value.Value.TheVariants.{Word}

text_first : (kinds : List Kind) (words : List ℕ) → false ≡ kinds_fit (TextKind ∷ kinds) (map Word words)
text_first kinds [] = refl
text_first kinds (word ∷ words) = refl

-- kinds of which the first is a text aren't those of words
pub no_word : (kinds : List Kind) (words : List ℕ) (other : Kind) → 1 ≤ length kinds → slice_index_or kinds 0 other ≡ TextKind → false ≡ kinds_fit kinds (map Word words)
no_word [] words other some is = absurd (omega (arith, some))
no_word (kind ∷ kinds) words other some is = text_first kinds words ∙ ap (λ k. kinds_fit (k ∷ kinds) (map Word words)) (sym is)

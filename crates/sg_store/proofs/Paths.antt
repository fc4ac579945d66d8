-- Whether two paths are one.
use Rattle.std.proofs.Common.{◌≡◌, ℕ, Bool, true, false, List, refl, sym, ◌∙◌, inl, inr, ◌⊎◌}
use Rattle.std.specs.Prelude.{◌≢◌}
use Rattle.std.specs.Str.{bytes_eq}
use Rattle.std.specs.Bool.{Decides}
use Rattle.std.proofs.lemmas.Slice.Eq.{bytes_eq-Decides}

pub told : (a b : List ℕ) → ((bytes_eq a b ≡ true) × (a ≡ b)) ⊎ ((bytes_eq a b ≡ false) × (a ≢ b))
told a b = at (bytes_eq a b) refl (bytes_eq-Decides a b)
  where
    at : (t : Bool) → bytes_eq a b ≡ t → Decides (bytes_eq a b) (a ≡ b) → ((bytes_eq a b ≡ true) × (a ≡ b)) ⊎ ((bytes_eq a b ≡ false) × (a ≢ b))
    at true is d = inl (is, d.0 is)
    at false is d = inr (is, λ same. let also = d.1 same in cc (is, also))

pub one_path : (a b : List ℕ) → bytes_eq a b ≡ true → a ≡ b
one_path a b is = elim (told a b) [ inl same ↦ same.1 | inr apart ↦ absurd (let both : true ≡ false = sym is ∙ apart.0 in cc both) ]

pub two_paths : (a b : List ℕ) → bytes_eq a b ≡ false → a ≢ b
two_paths a b is = elim (told a b) [ inl same ↦ absurd (let both : false ≡ true = sym is ∙ same.0 in cc both) | inr apart ↦ apart.1 ]

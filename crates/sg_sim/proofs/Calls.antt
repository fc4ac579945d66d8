-- Whether a client has a call of a number, and whether it may take a turn.
use Rattle.std.proofs.Common.{◌≡◌, ℕ, zero, suc, ◌≤◌, true, false, not, List, [], ◌∷◌, None, Some, Bor, length, refl, ◌∙◌, ap, arith, is_some, option_copied}
use Rattle.std.specs.Prelude.{◌==◌, nat_lt, slice_get}
use Rattle.std.specs.declared.option.Option.{Option}
use Rattle.std.proofs.lemmas.Bool.Decides.{nat_tests}

is_copied : {T : Type 0} (r : Option (Bor T)) → is_some r ≡ is_some (option_copied r)
is_copied None = refl
is_copied (Some x) = refl

some_at : {T : Type 0} (xs : List T) (k : ℕ) → is_some (slice_get xs k) ≡ nat_lt k (length xs)
some_at [] k = none k
  where
    none : (k : ℕ) → false ≡ nat_lt k 0
    none k = grind (arith, nat_tests)
some_at (x ∷ xs) zero = first (length xs)
  where
    first : (n : ℕ) → true ≡ nat_lt 0 (suc n)
    first n = grind (arith, nat_tests)
some_at (x ∷ xs) (suc k) = some_at xs k ∙ more k (length xs)
  where
    more : (k n : ℕ) → nat_lt k n ≡ nat_lt (suc k) (suc n)
    more k n = grind (arith, nat_tests)

-- an element is there where its place is below the length
pub is_there : {T : Type 0} (xs : List T) (k : ℕ) (r : Option (Bor T)) → option_copied r ≡ slice_get xs k → is_some r ≡ nat_lt k (length xs)
is_there xs k r is = is_copied r ∙ ap is_some is ∙ some_at xs k

pub some_first : {T : Type 0} (xs : List T) (r : Option (Bor T)) → option_copied r ≡ slice_get xs 0 → is_some r ≡ not (length xs == 0)
some_first xs r is = is_there xs 0 r is ∙ some (length xs)
  where
    some : (n : ℕ) → nat_lt 0 n ≡ not (n == 0)
    some zero = refl
    some (suc n) = grind (arith, nat_tests)

pub at_zero : (n : ℕ) → n ≤ 0 → n ≡ 0
at_zero n none = omega (arith, none)

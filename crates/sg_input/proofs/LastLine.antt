-- What stands after the last line end is as long as the run without one at the end.
use Rattle.std.proofs.Common.{◌≡◌, ℕ, ◌-◌, Bool, not, List, length, arith, length-drop}
use Rattle.std.specs.List.{after_last, suffix_len}
use Rattle.std.proofs.lemmas.List.Sums.{suffix_len-le-length}

pub length_after_last : (p : ℕ → Bool) (xs : List ℕ) → length (after_last p xs) ≡ suffix_len (λ x. not (p x)) xs
length_after_last p xs =
    let short = suffix_len-le-length (λ x. not (p x)) xs in
    omega (arith, short, length-drop (length xs - suffix_len (λ x. not (p x)) xs) xs)

-- Parts of lists.
use Rattle.std.proofs.Common.{◌≡◌, ℕ, ◌-◌, List, length, take, drop, arith}
use Rattle.std.proofs.lemmas.List.{length-drop, take_all}

-- the whole of what is left
pub rest_whole : (xs : List ℕ) (k : ℕ) → take (length xs - k) (drop k xs) ≡ drop k xs
rest_whole xs k = take_all (length xs - k) (drop k xs) (omega (arith, length-drop k xs))

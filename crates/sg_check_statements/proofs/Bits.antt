-- The bits of a set's number.
use Rattle.std.proofs.Common.{◌≡◌, ℕ, zero, suc, ◌+◌, ◌*◌, ◌/◌, ◌%◌, Bool, true, false, List, [], ◌∷◌, get_or, ◌∙◌, ap, arith}
use Rattle.std.specs.Prelude.{◌==◌, if◌then◌else◌}
use Rattle.std.specs.Int.{bit_at}
use Rattle.std.proofs.lemmas.Nat.Bits.{bit_at-suc, bit_at-zero, bit_at_lowest}
use Rattle.sg_facts.specs.Fields.{number_of}

first_bit : (b : Bool) (rest : ℕ) → (((if b then 1 else 0) + 2 * rest) % 2 == 1) ≡ b
first_bit true rest = let one : (1 + 2 * rest) % 2 ≡ 1 = omega arith in rw one
first_bit false rest = let none : (0 + 2 * rest) % 2 ≡ 0 = omega arith in rw none

other_bits : (b : Bool) (rest : ℕ) → ((if b then 1 else 0) + 2 * rest) / 2 ≡ rest
other_bits true rest = omega arith
other_bits false rest = omega arith

-- a bit of a set's number
pub bit_of : (set : List Bool) (k : ℕ) → (bit_at (number_of set) k == 1) ≡ get_or set k false
bit_of [] k = ap (λ n. n == 1) (bit_at-zero k)
bit_of (b ∷ set) zero = ap (λ n. n == 1) (bit_at_lowest (number_of (b ∷ set))) ∙ first_bit b (number_of set)
bit_of (b ∷ set) (suc k) =
    ap (λ n. n == 1) (bit_at-suc (number_of (b ∷ set)) k ∙ ap (λ n. bit_at n k) (other_bits b (number_of set))) ∙ bit_of set k

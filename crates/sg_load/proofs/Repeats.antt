-- Calls that fit one after the other, and one call so many times.
use Rattle.std.proofs.Common.{◌≡◌, ℕ, zero, suc, ◌+◌, Bool, true, false, ◌&&◌, List, [], ◌∷◌, ◌++◌, length, refl, ap, subst, arith}
use Rattle.std.specs.Prelude.{replicate}
use Rattle.std.specs.List.{list_all}
use Rattle.std.proofs.lemmas.Bool.{and_parts}
use Rattle.sg_facts.specs.Interface.{Declared}
use Rattle.sg_plain.specs.Script.{call_fits, calls_fit}
use Rattle.sg_plain.specs.sg_script.declared.script.ScriptCall.{ScriptCall}

both : (a b : Bool) → a ≡ true → b ≡ true → (a && b) ≡ true
both true b one other = other
both false b one other = absurd (cc one)

-- calls fit after others
pub fit_both : (i : Declared) (n : ℕ) (xs ys : List ScriptCall) → calls_fit i n xs ≡ true → calls_fit i (n + length xs) ys ≡ true → calls_fit i n (xs ++ ys) ≡ true
fit_both i n [] ys one two = let e : n + 0 ≡ n = omega arith in subst (λ m. calls_fit i m ys ≡ true) e two
fit_both i n (x ∷ xs) ys one two =
    let parts = and_parts (call_fits i n x) (calls_fit i (n + 1) xs) one in
    let e : n + length (x ∷ xs) ≡ n + 1 + length xs = omega arith in
    both (call_fits i n x) (calls_fit i (n + 1) (xs ++ ys)) parts.0 (fit_both i (n + 1) xs ys parts.1 (subst (λ m. calls_fit i m ys ≡ true) e two))

-- ---- one call so many times

pub times_fit : (i : Declared) (c : ScriptCall) → ((n : ℕ) → call_fits i n c ≡ true) → (n count : ℕ) → calls_fit i n (replicate count c) ≡ true
times_fit i c fits n zero = refl
times_fit i c fits n (suc count) = both (call_fits i n c) (calls_fit i (n + 1) (replicate count c)) (fits n) (times_fit i c fits (n + 1) count)

pub times_length : (c : ScriptCall) (count : ℕ) → length (replicate count c) ≡ count
times_length c zero = refl
times_length c (suc count) = ap suc (times_length c count)

pub times_all : (test : ScriptCall → Bool) (c : ScriptCall) → test c ≡ true → (count : ℕ) → list_all test (replicate count c) ≡ true
times_all test c is zero = refl
times_all test c is (suc count) = both (test c) (list_all test (replicate count c)) is (times_all test c is count)

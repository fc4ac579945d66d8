-- Walks in order: shorter ones first, and those as long by function numbers.
use Rattle.std.proofs.Common.{◌≡◌, ◌⊎◌, ℕ, ◌+◌, ◌*◌, ◌-◌, ◌<◌, ◌≤◌, ◌^◌, Bool, true, false, ◌&&◌, ◌||◌, List, [], ◌∷◌, ◌++◌, length, None, Some, refl, sym, ◌∙◌, ap, subst, inl, inr, arith}
use Rattle.std.specs.Prelude.{◌==◌, nat_le, nat_lt, not}
use Rattle.std.proofs.lemmas.Bool.{cases_Bool, cases_lt}
use Rattle.std.proofs.lemmas.Bool.Decides.{nat_tests}
use Rattle.std.proofs.lemmas.Nat.Bits.{bit_at_above}
use Rattle.sg_facts.specs.Facts.{fun_at}
use Rattle.sg_facts.specs.Interface.{Declared, declares, steps_on}
use Rattle.sg_facts.specs.Walks.{Spot as Place, first_spot, next_spot, no_later, spot_from, spot_of}
use Rattle.sg_facts.specs.Inside.Walking.{may_begin, may_go_on, no_worse}
use Rattle.sg_walk.specs.Inside.Arrivals.{order_after, order_of}

-- ---- numbers of functions

and_false : (b : Bool) → (b && false) ≡ false
and_false true = refl
and_false false = refl

-- there are 32 numbers of functions that can be declared
pub undeclared : (i : Declared) (fun : ℕ) → i.declared < 2 ^ 32 → 33 ≤ fun → declares i fun ≡ false
undeclared i fun small past =
    ap (λ n. nat_le 1 fun && (n == 1)) (bit_at_above i.declared 32 (fun - 1) small (omega arith)) ∙ and_false (nat_le 1 fun)

-- all are numbers of functions that can be declared
abbrev pub AreFuns : List ℕ → Type 0
AreFuns [] = Unit {0}
AreFuns (fun ∷ walk) = (1 ≤ fun) × (fun ≤ 32) × AreFuns walk

-- what isn't declared may not be called next
pub stuck : (i : Declared) (s : Place) (fun : ℕ) → declares i fun ≡ false → may_go_on i s fun ≡ false
stuck i s fun no_fun = ap (λ b. b && steps_on i s.state fun && not (fun_at i.facts.funs fun).terminal && not (fun_at i.facts.funs fun).query) no_fun

-- nor may a walk begin with it
pub no_begin : (i : Declared) (fun : ℕ) → declares i fun ≡ false → may_begin i fun ≡ false
no_begin i fun no_fun = ap (λ b. b && (fun_at i.facts.funs fun).creation && not (fun_at i.facts.funs fun).terminal && not (fun_at i.facts.funs fun).query) no_fun

-- function 0 isn't declared
pub zero_undeclared : (i : Declared) (fun : ℕ) → fun < 1 → declares i fun ≡ false
zero_undeclared i fun low = let none : fun ≡ 0 = omega (arith, low) in ap (declares i) none

-- a declared function has a number from 1 to 32
pub fun_low : (i : Declared) (fun : ℕ) → declares i fun ≡ true → 1 ≤ fun
fun_low i fun is = elim (cases_lt fun 1) [
  | inl low ↦ let not_so : declares i fun ≡ false = zero_undeclared i fun low in absurd (cc (is, not_so))
  | inr high ↦ high
]

pub fun_high : (i : Declared) (fun : ℕ) → i.declared < 2 ^ 32 → declares i fun ≡ true → fun ≤ 32
fun_high i fun small is = elim (cases_lt fun 33) [
  | inl low ↦ omega (arith, low)
  | inr high ↦ let not_so : declares i fun ≡ false = undeclared i fun small high in absurd (cc (is, not_so))
]

-- what may be called next is declared
pub called : (i : Declared) (s : Place) (fun : ℕ) → may_go_on i s fun ≡ true → declares i fun ≡ true
called i s fun goes = elim (cases_Bool (declares i fun)) [
  | inl is ↦ is
  | inr is ↦ let not_so : may_go_on i s fun ≡ false = stuck i s fun is in absurd (cc (goes, not_so))
]

pub begins : (i : Declared) (fun : ℕ) → may_begin i fun ≡ true → declares i fun ≡ true
begins i fun goes = elim (cases_Bool (declares i fun)) [
  | inl is ↦ is
  | inr is ↦ let not_so : may_begin i fun ≡ false = no_begin i fun is in absurd (cc (goes, not_so))
]

-- the rest of a walk that leads somewhere
pub funs_from : (i : Declared) (s t : Place) (walk : List ℕ) → i.declared < 2 ^ 32 → spot_from i s walk ≡ Some t → AreFuns walk
funs_from i s t [] small leads = tt
funs_from i s t (fun ∷ walk) small leads = elim (cases_Bool (may_go_on i s fun)) [
  | inl goes ↦
      let is : declares i fun ≡ true = called i s fun goes in
      let rest : spot_from i (next_spot i.facts fun s) walk ≡ Some t = rw goes at leads in
      (fun_low i fun is, fun_high i fun small is, funs_from i (next_spot i.facts fun s) t walk small rest)
  | inr halts ↦ let nowhere : None ≡ Some t = rw halts at leads in absurd (cc nowhere)
]

-- and the whole
pub funs_of : (i : Declared) (t : Place) (walk : List ℕ) → i.declared < 2 ^ 32 → spot_of i walk ≡ Some t → AreFuns walk
funs_of i t [] small leads = tt
funs_of i t (made ∷ walk) small leads = elim (cases_Bool (may_begin i made)) [
  | inl goes ↦
      let is : declares i made ≡ true = begins i made goes in
      let rest : spot_from i (first_spot i.facts made) walk ≡ Some t = rw goes at leads in
      (fun_low i made is, fun_high i made small is, funs_from i (first_spot i.facts made) t walk small rest)
  | inr halts ↦ let nowhere : None ≡ Some t = rw halts at leads in absurd (cc nowhere)
]

-- ---- places in order

pub order_more : (first : ℕ) (walk : List ℕ) (fun : ℕ) → order_after first (walk ++ fun ∷ []) ≡ 33 * order_after first walk + fun
order_more first [] fun = refl
order_more first (f ∷ walk) fun = order_more (33 * first + f) walk fun

pub order_rises : (a b : ℕ) (walk : List ℕ) → a ≤ b → order_after a walk ≤ order_after b walk
order_rises a b [] up = up
order_rises a b (f ∷ walk) up = order_rises (33 * a + f) (33 * b + f) walk (omega (arith, up))

-- what begins later and isn't shorter is later
comes_later : (a b : ℕ) (xs ys : List ℕ) → AreFuns xs → AreFuns ys → a < b → length xs ≤ length ys → order_after a xs < order_after b ys
comes_later a b [] [] fx fy less fits = less
comes_later a b (x ∷ xs) [] fx fy less fits = absurd (omega (arith, fits))
comes_later a b [] (y ∷ ys) fx fy less fits = comes_later a (33 * b + y) [] ys fx fy.2 (omega (arith, less)) (omega arith)
comes_later a b (x ∷ xs) (y ∷ ys) fx fy less fits = elim (cases_lt (length xs) (length ys)) [
  | inl longer ↦ comes_later a (33 * b + y) (x ∷ xs) ys fx fy.2 (omega (arith, less)) (omega (arith, longer))
  | inr same ↦ comes_later (33 * a + x) (33 * b + y) xs ys fx.2 fy.2 (omega (arith, less, fx.1, fy.0)) (omega (arith, fits))
]

-- of lists as long that begin the same, what comes no later is so by its numbers
in_order : (a : ℕ) (xs ys : List ℕ) → AreFuns xs → AreFuns ys → length xs ≡ length ys → order_after a xs ≤ order_after a ys → no_later xs ys ≡ true
in_order a [] [] fx fy same up = refl
in_order a [] (y ∷ ys) fx fy same up = refl
in_order a (x ∷ xs) [] fx fy same up = absurd (omega (arith, same))
in_order a (x ∷ xs) (y ∷ ys) fx fy same up = elim (cases_lt x y) [
  | inl less ↦ let first : nat_lt x y ≡ true = grind (arith, nat_tests) in ap (λ b. b || ((x == y) && no_later xs ys)) first
  | inr far ↦ elim (cases_lt y x) [
    | inl more ↦
        let later : order_after (33 * a + y) ys < order_after (33 * a + x) xs = comes_later (33 * a + y) (33 * a + x) ys xs fy.2 fx.2 (omega (arith, more)) (omega (arith, same)) in
        absurd (omega (arith, later, up))
    | inr near ↦
        let e : x ≡ y = omega (arith, far, near) in
        let not_less : nat_lt x y ≡ false = grind (arith, nat_tests) in
        let one : (x == y) ≡ true = grind (arith, nat_tests) in
        let rest : no_later xs ys ≡ true = in_order (33 * a + x) xs ys fx.2 fy.2 (omega (arith, same)) (subst (λ n. order_after (33 * a + x) xs ≤ order_after (33 * a + n) ys) (sym e) up) in
        simp (not_less, one, rest)
  ]
]

-- a longer list is later
longer_later : (xs ys : List ℕ) → AreFuns xs → AreFuns ys → length xs < length ys → order_of xs < order_of ys
longer_later xs [] fx fy more = absurd (omega (arith, more))
longer_later xs (y ∷ ys) fx fy more = comes_later 0 (33 * 0 + y) xs ys fx fy.2 (omega (arith, fy.0)) (omega (arith, more))

-- a walk that comes no later in order is no worse
pub no_worse_of : (xs ys : List ℕ) → AreFuns xs → AreFuns ys → order_of xs ≤ order_of ys → no_worse xs ys ≡ true
no_worse_of xs ys fx fy up = by (cases_lt (length xs) (length ys)) (cases_lt (length ys) (length xs))
  where
    by : (length xs < length ys) ⊎ (length ys ≤ length xs) → (length ys < length xs) ⊎ (length xs ≤ length ys) → no_worse xs ys ≡ true
    by (inl less) other =
        let first : nat_lt (length xs) (length ys) ≡ true = grind (arith, nat_tests) in
        ap (λ b. b || ((length xs == length ys) && no_later xs ys)) first
    by (inr far) (inl more) = let later : order_of ys < order_of xs = longer_later ys xs fy fx more in absurd (omega (arith, later, up))
    by (inr far) (inr near) =
        let not_less : nat_lt (length xs) (length ys) ≡ false = grind (arith, nat_tests) in
        let one : (length xs == length ys) ≡ true = grind (arith, nat_tests) in
        let rest : no_later xs ys ≡ true = in_order 0 xs ys fx fy (omega (arith, far, near)) up in
        simp (not_less, one, rest)

-- a walk of at most 8 calls is no worse than one of more
pub no_worse_long : (xs ys : List ℕ) → length xs ≤ 8 → 8 < length ys → no_worse xs ys ≡ true
no_worse_long xs ys short long =
    let first : nat_lt (length xs) (length ys) ≡ true = grind (arith, nat_tests) in
    ap (λ b. b || ((length xs == length ys) && no_later xs ys)) first

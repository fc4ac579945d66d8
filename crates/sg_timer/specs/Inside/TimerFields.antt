-- The fields of a timer's row, as its proofs name them.
use Rattle.std.proofs.Common.{◌≡◌, ℕ, ◌+◌, ◌-◌, ◌*◌, ◌/◌, ◌^◌, ◌<◌, ◌≤◌, Bool, true, false, cond, ◌||◌, List, [], ◌∷◌, max, refl, sym, ◌∙◌, ap, arith, mul-add, mul_comm, div-mul-le_self}
use Rattle.std.specs.Prelude.{◌==◌, nat_lt}
use Rattle.std.proofs.lemmas.Bool.Decides.{nat_tests}
use Rattle.sg_facts.specs.sg_base.declared.value.Value.{Value}
use Rattle.sg_facts.specs.sg_base.declared.value.Value.TheVariants.{Word, Text}
use Rattle.sg_facts.specs.Sound.{AreFields, IsOfField}
use Rattle.sg_timer.specs.TimerFacts.{timer_facts}
use Rattle.sg_timer.specs.TimerTable.{skipped}

-- the fields that say so much
abbrev pub five : ℕ → ℕ → ℕ → ℕ → ℕ → List Value
five owner period tag time due = Word owner ∷ Word period ∷ Word tag ∷ Word time ∷ Word due ∷ []

-- fields of a timer: five numbers, each below 2^64
pub record AreFive (fields : List Value) : Type 0 where
  pub owner : ℕ
  pub period : ℕ
  pub tag : ℕ
  pub time : ℕ
  pub due : ℕ
  pub are : fields ≡ five owner period tag time due
  pub owner_is : owner < 2 ^ 64
  pub period_is : period < 2 ^ 64
  pub tag_is : tag < 2 ^ 64
  pub time_is : time < 2 ^ 64
  pub due_is : due < 2 ^ 64

-- the fields of a timer are five numbers
pub are_five : (fields : List Value) → AreFields timer_facts.fields fields → AreFive fields
are_five [] are = absurd are
are_five (a ∷ []) are = absurd are.1
are_five (a ∷ b ∷ []) are = absurd are.1.1
are_five (a ∷ b ∷ c ∷ []) are = absurd are.1.1.1
are_five (a ∷ b ∷ c ∷ d ∷ []) are = absurd are.1.1.1.1
are_five (a ∷ b ∷ c ∷ d ∷ e ∷ f ∷ fields) are = absurd are.1.1.1.1.1
are_five (Text bytes ∷ b ∷ c ∷ d ∷ e ∷ []) are = let no_text = are.0 in absurd (cc no_text)
are_five (Word a ∷ Text bytes ∷ c ∷ d ∷ e ∷ []) are = let no_text = are.1.0 in absurd (cc no_text)
are_five (Word a ∷ Word b ∷ Text bytes ∷ d ∷ e ∷ []) are = let no_text = are.1.1.0 in absurd (cc no_text)
are_five (Word a ∷ Word b ∷ Word c ∷ Text bytes ∷ e ∷ []) are = let no_text = are.1.1.1.0 in absurd (cc no_text)
are_five (Word a ∷ Word b ∷ Word c ∷ Word d ∷ Text bytes ∷ []) are = let no_text = are.1.1.1.1.0 in absurd (cc no_text)
are_five (Word a ∷ Word b ∷ Word c ∷ Word d ∷ Word e ∷ []) are = record {
  owner = a;
  period = b;
  tag = c;
  time = d;
  due = e;
  are = refl;
  owner_is = are.0.1;
  period_is = are.1.0.1;
  tag_is = are.1.1.0.1;
  time_is = are.1.1.1.0.1;
  due_is = are.1.1.1.1.0.1;
}

-- five numbers below 2^64 are fields of a timer
pub are_fields : (owner period tag time due : ℕ) → owner < 2 ^ 64 → period < 2 ^ 64 → tag < 2 ^ 64 → time < 2 ^ 64 → due < 2 ^ 64 → AreFields timer_facts.fields (five owner period tag time due)
are_fields owner period tag time due a b c d e = ((refl, a), ((refl, b), ((refl, c), ((refl, d), ((refl, e), tt)))))

-- ---- skips

times_more : (p q : ℕ) → p * (q + 1) ≡ q * p + p
times_more p q =
    let one = mul-add p q 1 in
    let turned = mul_comm p q in
    omega (arith, one, turned)

-- the least number of whole periods that takes a timer past its time is at most what is behind and one period
pub periods : (behind period : ℕ) → period * (behind / period + 1) ≤ behind + period
periods behind period =
    let more = times_more period (behind / period) in
    let whole = div-mul-le_self behind period in
    omega (arith, more, whole)

-- a skip puts a timer off to no more than one period past its time
pub skip_bound : (time due period : ℕ) → due + skipped time due period ≤ max due (time + period)
skip_bound time due period = at (nat_lt time due) (period == 0) refl
  where
    at : (a b : Bool) → nat_lt time due ≡ a → due + cond (a || b) 0 (period * ((time - due) / period + 1)) ≤ max due (time + period)
    at true b is = omega arith
    at false true is = omega arith
    at false false is =
        let reached : due ≤ time = grind (arith, nat_tests, is) in
        let most = periods (time - due) period in
        omega (arith, reached, most)

-- before it is due a skip leaves a timer
pub skips_none : (time due period : ℕ) → nat_lt time due ≡ true → skipped time due period ≡ 0
skips_none time due period before = ap (λ b. cond (b || (period == 0)) 0 (period * ((time - due) / period + 1))) before

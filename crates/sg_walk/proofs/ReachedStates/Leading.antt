-- The places to which effects lead, field by field.
use Rattle.std.proofs.Common.{◌≡◌, ℕ, suc, ◌+◌, ◌*◌, ◌/◌, ◌%◌, ◌^◌, ◌<◌, Bool, true, false, ◌&&◌, List, length, refl, sym, ◌∙◌, ap, subst, inl, inr, arith}
use Rattle.std.specs.Prelude.{◌==◌, if◌then◌else◌}
use Rattle.std.proofs.lemmas.Bool.{and_parts, cases_Bool}
use Rattle.sg_facts.specs.declared.shape.Effect.{Effect}
use Rattle.sg_facts.specs.Facts.{Fun, fun_at}
use Rattle.sg_facts.specs.Inside.Rows.{left_by}
use Rattle.sg_facts.specs.Interface.{Declared, declares, moves_on}
use Rattle.sg_facts.specs.Walks.{effect_on, may_lead, may_leave}
use Rattle.sg_walk.specs.declared.place.Place.{Place}
use Rattle.sg_walk.specs.ReachedStates.Inside.Bits.{bits}
use Rattle.sg_walk.specs.ReachedStates.Inside.Places.{AddsJust, AddsOnce, IsMadeAt, IsLed, IsLedOn, IsLedWith, LeadsBy, place_with}
use Rattle.sg_walk.proofs.ReachedStates.Adding.{adds_none, adds_one, adds_same, adds_then}
use Rattle.std.proofs.lemmas.Bool.Decides.{nat_tests}

same_place : (p q : Place) → p.state ≡ q.state → p.mask ≡ q.mask → p ≡ q
same_place p q s m = rw (s, m)

both_true : {a b : Bool} → a ≡ true → b ≡ true → (a && b) ≡ true
both_true {a} {b} x y = ap (λ t. t && b) x ∙ y

odd_half : (r : ℕ) → (r % 2 == 1) ≡ true → r ≡ 2 * (r / 2) + 1
odd_half r is = let one : r % 2 ≡ 1 = grind (arith, nat_tests) in omega (arith, one)

even_half : (r : ℕ) → (r % 2 == 1) ≡ false → r ≡ 2 * (r / 2)
even_half r is = let none : r % 2 ≡ 0 = grind (arith, nat_tests) in omega (arith, none)

-- the number of a set, and that of what is left of it after its first field
halved : (is_set : Bool) (r : ℕ) → (r % 2 == 1) ≡ is_set → r ≡ 2 * (r / 2) + (if is_set then 1 else 0)
halved true r is = odd_half r is
halved false r is = even_half r is ∙ omega arith

doubled_half : (is_set : Bool) (h : ℕ) → (2 * h + (if is_set then 1 else 0)) / 2 ≡ h
doubled_half true h = omega arith
doubled_half false h = omega arith

doubled_next : (is_set : Bool) (h : ℕ) → ((2 * h + (if is_set then 1 else 0)) % 2 == 1) ≡ is_set
doubled_next true h = let one : (2 * h + 1) % 2 ≡ 1 = omega arith in ap (λ k. k == 1) one
doubled_next false h = let none : (2 * h + 0) % 2 ≡ 0 = omega arith in ap (λ k. k == 1) none

doubled_few : (is_set : Bool) (c h : ℕ) → h < 2 ^ c → 2 * h + (if is_set then 1 else 0) < 2 ^ suc c
doubled_few true c h few = let p : 2 ^ suc c ≡ 2 * 2 ^ c = omega arith in omega (arith, few, p)
doubled_few false c h few = let p : 2 ^ suc c ≡ 2 * 2 ^ c = omega arith in omega (arith, few, p)

-- a mask by the field and what is left after it
set_out : (w m h : ℕ) → m + w * (2 * h + 1) ≡ (m + w) + (2 * w) * h
set_out w m h = omega arith

clear_out : (w m h : ℕ) → m + w * (2 * h + 0) ≡ (m + 0) + (2 * w) * h
clear_out w m h = omega arith

power : (field : ℕ) → 2 * 2 ^ field ≡ 2 ^ (field + 1)
power field =
    let more : suc field ≡ field + 1 = omega arith in
    let p : 2 ^ suc field ≡ 2 * 2 ^ field = omega arith in
    sym p ∙ ap (λ n. 2 ^ n) more

mask_with : (is_set : Bool) (field m h : ℕ) → m + 2 ^ field * (2 * h + (if is_set then 1 else 0)) ≡ (m + (if is_set then 2 ^ field else 0)) + 2 ^ (field + 1) * h
mask_with true field m h = set_out (2 ^ field) m h ∙ ap (λ w. (m + 2 ^ field) + w * h) (power field)
mask_with false field m h = clear_out (2 ^ field) m h ∙ ap (λ w. (m + 0) + w * h) (power field)

module _ (effects : List (ℕ × Effect)) where
  -- no field is left
  pub led_last : (field old : ℕ) (settled : Place) (a b : List Place) → AddsOnce a b settled → AddsJust (IsLedOn effects field 0 old settled) a b
  led_last field old settled a b once = adds_same (λ q. q ≡ settled) (IsLedOn effects field 0 old settled) a b (adds_one a b settled once)
      (λ q is.
      let few : is.rest < 1 = is.few in
      let none : is.rest ≡ 0 = omega (arith, few) in
      let zero_left : 2 ^ field * is.rest ≡ 0 = ap (λ r. 2 ^ field * r) none ∙ omega arith in
      same_place q settled is.state (is.mask ∙ omega (arith, zero_left)))
      (λ q same. record {
        rest = 0;
        state = ap (λ p. p.state) same;
        mask = ap (λ p. p.mask) same ∙ omega arith;
        few = omega arith;
        leads = refl;
      })

  module _ (field old : ℕ) (settled : Place) where
    -- the next field is set, or it isn't
    pub led_both : (count : ℕ) (a b c : List Place) → AddsJust (IsLedWith effects field count old settled false) a b
        → AddsJust (IsLedWith effects field count old settled true) b c → AddsJust (IsLedOn effects field count old settled) a c
    led_both count a b c first second =
        adds_then (IsLedWith effects field count old settled false) (IsLedWith effects field count old settled true) (IsLedOn effects field count old settled) a b c first second
        (λ q is. elim (cases_Bool (is.rest % 2 == 1)) [
          | inl set ↦ inr (record { led = is; next = set })
          | inr not_set ↦ inl (record { led = is; next = not_set })
        ])
        (λ q is. elim is [ inl with ↦ with.led | inr with ↦ with.led ])

    -- it can't be left so
    pub led_not : (c : ℕ) (is_set : Bool) (a : List Place) → may_leave (effect_on effects field) (old % 2 == 1) is_set ≡ false
        → AddsJust (IsLedWith effects field (suc c) old settled is_set) a a
    led_not c is_set a stays = adds_none (IsLedWith effects field (suc c) old settled is_set) a (λ q is.
        let may : may_leave (effect_on effects field) (old % 2 == 1) (is.led.rest % 2 == 1) ≡ true =
        (and_parts (may_leave (effect_on effects field) (old % 2 == 1) (is.led.rest % 2 == 1)) (may_lead effects (field + 1) (bits c (old / 2)) (bits c (is.led.rest / 2))) is.led.leads).0 in
        let so : may_leave (effect_on effects field) (old % 2 == 1) is_set ≡ true = subst (λ b. may_leave (effect_on effects field) (old % 2 == 1) b ≡ true) is.next may in
        cc (stays, so))

    -- it is left so, and the others follow
    pub led_with : (c : ℕ) (is_set : Bool) (next : Place) (a b : List Place) → may_leave (effect_on effects field) (old % 2 == 1) is_set ≡ true
        → next ≡ place_with settled field is_set → AddsJust (IsLedOn effects (field + 1) c (old / 2) next) a b
        → AddsJust (IsLedWith effects field (suc c) old settled is_set) a b
    led_with c is_set next a b may is adds = adds_same (IsLedOn effects (field + 1) c (old / 2) next) (IsLedWith effects field (suc c) old settled is_set) a b adds to back
      where
        to : (q : Place) → IsLedWith effects field (suc c) old settled is_set q → IsLedOn effects (field + 1) c (old / 2) next q
        to q with =
            let r : ℕ = with.led.rest in
            let whole : r ≡ 2 * (r / 2) + (if is_set then 1 else 0) = halved is_set r with.next in
            let p : 2 ^ suc c ≡ 2 * 2 ^ c = omega arith in
            let few : r < 2 ^ suc c = with.led.few in
            record {
              rest = r / 2;
              state = with.led.state ∙ sym (ap (λ n. n.state) is);
              mask =
                  with.led.mask ∙ ap (λ n. settled.mask + 2 ^ field * n) whole ∙ mask_with is_set field settled.mask (r / 2)
                  ∙ sym (ap (λ n. n.mask + 2 ^ (field + 1) * (r / 2)) is);
              few = omega (arith, few, p);
              leads =
                  (and_parts (may_leave (effect_on effects field) (old % 2 == 1) (r % 2 == 1)) (may_lead effects (field + 1) (bits c (old / 2)) (bits c (r / 2))) with.led.leads).1;
            }

        back : (q : Place) → IsLedOn effects (field + 1) c (old / 2) next q → IsLedWith effects field (suc c) old settled is_set q
        back q on =
            let h : ℕ = on.rest in
            let r : ℕ = 2 * h + (if is_set then 1 else 0) in
            let bit_is : (r % 2 == 1) ≡ is_set = doubled_next is_set h in
            let left : may_lead effects (field + 1) (bits c (old / 2)) (bits c (r / 2)) ≡ true = subst (λ n. may_lead effects (field + 1) (bits c (old / 2)) (bits c n) ≡ true) (sym (doubled_half is_set h)) on.leads in
            let first : may_leave (effect_on effects field) (old % 2 == 1) (r % 2 == 1) ≡ true = subst (λ b. may_leave (effect_on effects field) (old % 2 == 1) b ≡ true) (sym bit_is) may in
            record {
              led = record {
                rest = r;
                state = on.state ∙ ap (λ n. n.state) is;
                mask = on.mask ∙ ap (λ n. n.mask + 2 ^ (field + 1) * h) is ∙ sym (mask_with is_set field settled.mask h);
                few = doubled_few is_set c h on.few;
                leads = both_true first left;
              };
              next = bit_is;
            }

-- all fields are left
pub led_all : (effects : List (ℕ × Effect)) (count old state : ℕ) (a b : List Place) → AddsJust (IsLedOn effects 0 count old (record { state = state; mask = 0 })) a b
    → AddsJust (IsLed effects count old state) a b
led_all effects count old state a b adds = adds_same (IsLedOn effects 0 count old (record { state = state; mask = 0 })) (IsLed effects count old state) a b adds
    (λ q is. record { rest = q.mask; state = is.0; mask = omega arith; few = is.1; leads = is.2 })
    (λ q on.
    let same : q.mask ≡ on.rest = on.mask ∙ omega arith in
    (on.state, subst (λ n. n < 2 ^ count) (sym same) on.few, subst (λ n. may_lead effects 0 (bits count old) (bits count n) ≡ true) (sym same) on.leads))

-- said of the interface's function
pub adds_begins : (i : Declared) (fun : ℕ) (f : Fun) (count state : ℕ) (a b : List Place) → f ≡ fun_at i.facts.funs fun → count ≡ length i.facts.fields
    → state ≡ left_by f.leaves fun fun → declares i fun ≡ true → f.creation ≡ true → AddsJust (IsLed f.effects count 0 state) a b → AddsJust (IsMadeAt i fun) a b
adds_begins i fun f count state a b f_is count_is state_is declared creation adds =
    let same : (q : Place) → IsLed f.effects count 0 state q ≡ IsLed (fun_at i.facts.funs fun).effects (length i.facts.fields) 0 (left_by (fun_at i.facts.funs fun).leaves fun fun) q =
    λ q. ap (λ n. IsLed f.effects n 0 state q) count_is ∙ ap (λ n. IsLed f.effects (length i.facts.fields) 0 n q) state_is
    ∙ ap (λ g. IsLed g.effects (length i.facts.fields) 0 (left_by g.leaves fun fun) q) f_is in
    adds_same (IsLed f.effects count 0 state) (IsMadeAt i fun) a b adds (λ q is. coe 0 1 (k. sym (same q) k) is.led)
    (λ q is. record { declared = declared; creation = sym (ap (λ g. g.creation) f_is) ∙ creation; led = coe 0 1 (k. same q k) is })

pub adds_by : (i : Declared) (fun : ℕ) (p : Place) (f : Fun) (count state : ℕ) (a b : List Place) → f ≡ fun_at i.facts.funs fun → count ≡ length i.facts.fields
    → state ≡ left_by f.leaves fun p.state → moves_on i p.state fun ≡ true → f.terminal ≡ false → AddsJust (IsLed f.effects count p.mask state) a b → AddsJust (LeadsBy i fun p) a b
adds_by i fun p f count state a b f_is count_is state_is moves goes_on adds =
    let same : (q : Place) → IsLed f.effects count p.mask state q ≡ IsLed (fun_at i.facts.funs fun).effects (length i.facts.fields) p.mask (left_by (fun_at i.facts.funs fun).leaves fun p.state) q =
    λ q. ap (λ n. IsLed f.effects n p.mask state q) count_is ∙ ap (λ n. IsLed f.effects (length i.facts.fields) p.mask n q) state_is
    ∙ ap (λ g. IsLed g.effects (length i.facts.fields) p.mask (left_by g.leaves fun p.state) q) f_is in
    adds_same (IsLed f.effects count p.mask state) (LeadsBy i fun p) a b adds (λ q is. coe 0 1 (k. sym (same q) k) is.led)
    (λ q is. record { moves = moves; goes_on = sym (ap (λ g. g.terminal) f_is) ∙ goes_on; led = coe 0 1 (k. same q k) is })

-- Effects by the names and by the numbers of their fields.
use Rattle.std.proofs.Common.{◌≡◌, ℕ, zero, suc, ◌+◌, ◌<◌, ◌≤◌, ◌==◌, Bool, true, false, cond, ◌&&◌, ◌||◌, not, List, [], ◌∷◌, map, drop, None, Some, refl, sym, ◌∙◌, ap, arith}
use Rattle.std.specs.Prelude.{count_by, find, slice_get}
use Rattle.std.specs.declared.option.Option.{Option}
use Rattle.std.specs.List.{cons_option, list_all, list_any}
use Rattle.std.specs.Option.{option_map}
use Rattle.std.specs.Str.{bytes_eq}
use Rattle.std.proofs.lemmas.Bool.{and_from, and_parts, not-true, or_from, or_parts, or_right}
use Rattle.std.proofs.lemmas.Bool.Decides.{nat_tests}
use Rattle.std.proofs.lemmas.List.Sums.{sum_by-cons}
use Rattle.sg_check_statements.specs.sg_facts.declared.shape.Effect.{Effect}
use Rattle.sg_check_statements.specs.sg_facts.declared.shape.Effect.TheVariants.{SetCaller, SetArg, AddArg, SetRet, AddRet, Clear, SubOne, SubRet}
use Rattle.sg_check_statements.specs.sg_facts.Allowed.{sets_once}
use Rattle.sg_check_statements.specs.sg_facts.Facts.{Field}
use Rattle.sg_check_statements.specs.sg_facts.Walks.{sets_caller}
use Rattle.sg_check_statements.specs.sg_facts.Words.{field_name}
use Rattle.sg_check_statements.specs.Effects.{has_effect, same_effect}
use Rattle.sg_check_statements.specs.NameSet.{has_name}
use Rattle.sg_check_statements.specs.Shapes.{all_differ}
use Rattle.sg_shape.specs.Flaws.{clash, has_two}
use Rattle.sg_shape.specs.ShapeOfText.{effect_on_name, numbered}
use Rattle.sg_shape.proofs.Names.{own_bytes, same_bytes}
use Rattle.sg_shape.proofs.Places.{each_fails, each_passes, found_at, some_passes}

-- an effect on the field of a name
abbrev pub On : Type 0
On = List ℕ × Effect

-- ---- what is on a field

-- the effect on a name's field is one of the effects, and is on that
pub on_name : (effects : List On) (name : List ℕ) (effect : Effect) → effect_on_name effects name ≡ Some effect
    → (k : ℕ) × (e : On) × (slice_get effects k ≡ Some e) × (e.0 ≡ name) × (e.1 ≡ effect)
on_name effects name effect is = by (find (λ e. bytes_eq e.0 name) effects) refl is
  where
    by : (o : Option On) → find (λ e. bytes_eq e.0 name) effects ≡ o → option_map (λ e. e.1) o ≡ Some effect
        → (k : ℕ) × (e : On) × (slice_get effects k ≡ Some e) × (e.0 ≡ name) × (e.1 ≡ effect)
    by None told none = absurd (cc none)
    by (Some e) told some =
        let found = found_at (λ e. bytes_eq e.0 name) effects e told in
        (found.0, e, found.1, same_bytes e.0 name found.2, cc some)

-- where one of the effects is on a name's field, there is one
pub some_on : (effects : List On) (k : ℕ) (e : On) (name : List ℕ) → slice_get effects k ≡ Some e → e.0 ≡ name → (effect : Effect) × (effect_on_name effects name ≡ Some effect)
some_on [] k e name at is = absurd (cc at)
some_on (d ∷ effects) zero e name at is =
    let same : d ≡ e = cc at in
    let passes : bytes_eq d.0 name ≡ true = ap (λ m. bytes_eq m name) (ap (λ p. p.0) same ∙ is) ∙ own_bytes name in
    (d.1, ap (λ b. option_map (λ p. p.1) (cond b (Some d) (find (λ p. bytes_eq p.0 name) effects))) passes)
some_on (d ∷ effects) (suc k) e name at is = by (bytes_eq d.0 name) (some_on effects k e name at is)
  where
    by : (b : Bool) → ((effect : Effect) × (effect_on_name effects name ≡ Some effect))
        → (effect : Effect) × (option_map (λ p. p.1) (cond b (Some d) (find (λ p. bytes_eq p.0 name) effects)) ≡ Some effect)
    by true rest = (d.1, refl)
    by false rest = rest

-- ---- effects with the numbers of their fields

-- what all effects pass those with numbers pass
pub numbered_pass : (test : Effect → Bool) (x : ℕ) (fields : List Field) (effects : List On) → list_all (λ e. test e.1) effects ≡ true → list_all (λ e. test e.1) (numbered x fields effects) ≡ true
numbered_pass test x [] effects all = refl
numbered_pass test x (f ∷ fields) effects all = by (effect_on_name effects f.name) refl (numbered_pass test (x + 1) fields effects all)
  where
    by : (o : Option Effect) → effect_on_name effects f.name ≡ o → list_all (λ e. test e.1) (numbered (x + 1) fields effects) ≡ true
        → list_all (λ e. test e.1) (cons_option (option_map (λ e. (x, e)) o) (numbered (x + 1) fields effects)) ≡ true
    by None told rest = rest
    by (Some effect) told rest =
        let on = on_name effects f.name effect told in
        and_from (test effect) (list_all (λ e. test e.1) (numbered (x + 1) fields effects))
        (ap test (sym on.4) ∙ each_passes (λ e. test e.1) effects on.0 on.1 all on.2) rest

-- effects are on fields from the first number on
later_number : (x y : ℕ) (fields : List Field) (effects : List On) → x < y → list_any (λ other. other.0 == x) (numbered y fields effects) ≡ false
later_number x y [] effects less = refl
later_number x y (f ∷ fields) effects less = by (effect_on_name effects f.name) (later_number x (y + 1) fields effects (omega arith))
  where
    apart : (y == x) ≡ false
    apart = grind (arith, nat_tests)

    by : (o : Option Effect) → list_any (λ other. other.0 == x) (numbered (y + 1) fields effects) ≡ false
        → list_any (λ other. other.0 == x) (cons_option (option_map (λ e. (y, e)) o) (numbered (y + 1) fields effects)) ≡ false
    by None rest = rest
    by (Some effect) rest = or_from (y == x) (list_any (λ o. o.0 == x) (numbered (y + 1) fields effects)) apart rest

-- no field has two
pub once : (x : ℕ) (fields : List Field) (effects : List On) → sets_once (numbered x fields effects) ≡ true
once x [] effects = refl
once x (f ∷ fields) effects = by (effect_on_name effects f.name) (once (x + 1) fields effects)
  where
    by : (o : Option Effect) → sets_once (numbered (x + 1) fields effects) ≡ true → sets_once (cons_option (option_map (λ e. (x, e)) o) (numbered (x + 1) fields effects)) ≡ true
    by None rest = rest
    by (Some effect) rest =
        ap (λ b. not b && sets_once (numbered (x + 1) fields effects)) (later_number x (x + 1) fields effects (omega arith)) ∙ rest

-- ---- the caller

-- a caller is set into the field of one name alone
abbrev pub into : List ℕ → On → Bool
into name e = not (sets_caller e.1) || bytes_eq e.0 name

-- how many of some effects set a caller
abbrev callers : List (ℕ × Effect) → ℕ
callers effects = count_by (λ e. sets_caller e.1) effects

one_more : (x : ℕ) (effect : Effect) (effects : List (ℕ × Effect)) → callers ((x, effect) ∷ effects) ≡ cond (sets_caller effect) 1 0 + callers effects
one_more x effect effects = sum_by-cons (λ e. cond (sets_caller e.1) 1 0) (x, effect) effects

none_of : (b : Bool) (n : ℕ) → b ≡ false → n ≡ 0 → cond b 1 0 + n ≡ 0
none_of true n is none = absurd (cc is)
none_of false n is none = ap (λ m. 0 + m) none

module _ (caller : List ℕ) (effects : List On) (all : list_all (into caller) effects ≡ true) where
  set_into : (name : List ℕ) (effect : Effect) → effect_on_name effects name ≡ Some effect → sets_caller effect ≡ true → bytes_eq name caller ≡ true
  set_into name effect told sets =
      let on = on_name effects name effect told in
      let passes : (not (sets_caller on.1.1) || bytes_eq on.1.0 caller) ≡ true = each_passes (into caller) effects on.0 on.1 all on.2 in
      ap (λ m. bytes_eq m caller) (sym on.3) ∙ (ap (λ b. not b || bytes_eq on.1.0 caller) (sym (ap sets_caller on.4 ∙ sets)) ∙ passes)

  -- where a name isn't the caller's, no effect on its field sets a caller
  not_set : (name : List ℕ) (effect : Effect) → effect_on_name effects name ≡ Some effect → bytes_eq name caller ≡ false → sets_caller effect ≡ false
  not_set name effect told apart = by (sets_caller effect) refl
    where
      by : (b : Bool) → sets_caller effect ≡ b → b ≡ false
      by true sets = let wrong : true ≡ false = sym (set_into name effect told sets) ∙ apart in absurd (cc wrong)
      by false sets = refl

  -- where no field has the name, no effect sets a caller
  no_caller : (x : ℕ) (fields : List Field) → has_name (map (λ f. f.name) fields) caller ≡ false → callers (numbered x fields effects) ≡ 0
  no_caller x [] none = refl
  no_caller x (f ∷ fields) none = by (effect_on_name effects f.name) refl (no_caller (x + 1) fields parts.1)
    where
      parts : (bytes_eq f.name caller ≡ false) × (has_name (map (λ f. f.name) fields) caller ≡ false)
      parts = or_parts (bytes_eq f.name caller) (has_name (map (λ f. f.name) fields) caller) none

      by : (o : Option Effect) → effect_on_name effects f.name ≡ o → callers (numbered (x + 1) fields effects) ≡ 0 → callers (cons_option (option_map (λ e. (x, e)) o) (numbered (x + 1) fields effects)) ≡ 0
      by None told rest = rest
      by (Some effect) told rest =
          one_more x effect (numbered (x + 1) fields effects)
          ∙ none_of (sets_caller effect) (callers (numbered (x + 1) fields effects)) (not_set f.name effect told parts.0) rest

  -- where fields differ, at most one effect sets a caller
  pub one_caller : (x : ℕ) (fields : List Field) → all_differ (map (λ f. f.name) fields) ≡ true → count_by (λ e. sets_caller e.1) (numbered x fields effects) ≤ 1
  one_caller x [] differ = omega arith
  one_caller x (f ∷ fields) differ = by (effect_on_name effects f.name) refl (one_caller (x + 1) fields parts.1)
    where
      parts : (not (has_name (map (λ f. f.name) fields) f.name) ≡ true) × (all_differ (map (λ f. f.name) fields) ≡ true)
      parts = and_parts (not (has_name (map (λ f. f.name) fields) f.name)) (all_differ (map (λ f. f.name) fields)) differ

      set_or_not : (effect : Effect) (b : Bool) → effect_on_name effects f.name ≡ Some effect → sets_caller effect ≡ b → callers (numbered (x + 1) fields effects) ≤ 1
          → callers ((x, effect) ∷ numbered (x + 1) fields effects) ≤ 1
      set_or_not effect true told sets rest =
          let own : f.name ≡ caller = same_bytes f.name caller (set_into f.name effect told sets) in
          let none = no_caller (x + 1) fields (ap (has_name (map (λ f. f.name) fields)) (sym own) ∙ not-true (has_name (map (λ f. f.name) fields) f.name) parts.0) in
          let is : callers ((x, effect) ∷ numbered (x + 1) fields effects) ≡ 1 + 0 = one_more x effect (numbered (x + 1) fields effects)
          ∙ ap (λ b. cond b 1 0 + callers (numbered (x + 1) fields effects)) sets ∙ ap (λ n. 1 + n) none in
          omega (arith, is)
      set_or_not effect false told sets rest =
          let is : callers ((x, effect) ∷ numbered (x + 1) fields effects) ≡ 0 + callers (numbered (x + 1) fields effects) = one_more x effect (numbered (x + 1) fields effects)
          ∙ ap (λ b. cond b 1 0 + callers (numbered (x + 1) fields effects)) sets in
          omega (arith, is, rest)

      by : (o : Option Effect) → effect_on_name effects f.name ≡ o → callers (numbered (x + 1) fields effects) ≤ 1 → callers (cons_option (option_map (λ e. (x, e)) o) (numbered (x + 1) fields effects)) ≤ 1
      by None told rest = rest
      by (Some effect) told rest = set_or_not effect (sets_caller effect) told refl rest

-- ---- by the names of the fields again

-- the effects on fields, by their names
abbrev pub by_names : List Field → List On → List On
by_names [] effects = []
by_names (f ∷ fields) effects = cons_option (option_map (λ e. (f.name, e)) (effect_on_name effects f.name)) (by_names fields effects)

name_at : (all : List Field) (x : ℕ) (f : Field) (fields : List Field) → drop x all ≡ f ∷ fields → (field_name all x ≡ f.name) × (drop (x + 1) all ≡ fields)
name_at [] zero f fields is = absurd (cc is)
name_at [] (suc x) f fields is = absurd (cc is)
name_at (g ∷ all) zero f fields is =
    let same : g ≡ f = cc is in
    let rest : all ≡ fields = cc is in
    (ap (λ h. h.name) same, rest)
name_at (g ∷ all) (suc x) f fields is =
    let rest = name_at all x f fields is in
    let more : suc x + 1 ≡ suc (x + 1) = omega arith in
    (rest.0, ap (λ n. drop n (g ∷ all)) more ∙ rest.1)

pub named_again : (all : List Field) (x : ℕ) (fields : List Field) (effects : List On) → drop x all ≡ fields
    → map (λ e. (field_name all e.0, e.1)) (numbered x fields effects) ≡ by_names fields effects
named_again all x [] effects is = refl
named_again all x (f ∷ fields) effects is = by (effect_on_name effects f.name) (named_again all (x + 1) fields effects here.1)
  where
    here : (field_name all x ≡ f.name) × (drop (x + 1) all ≡ fields)
    here = name_at all x f fields is

    by : (o : Option Effect) → map (λ e. (field_name all e.0, e.1)) (numbered (x + 1) fields effects) ≡ by_names fields effects
        → map (λ e. (field_name all e.0, e.1)) (cons_option (option_map (λ e. (x, e)) o) (numbered (x + 1) fields effects))
        ≡ cons_option (option_map (λ e. (f.name, e)) o) (by_names fields effects)
    by None rest = rest
    by (Some effect) rest =
        ap (λ n. (n, effect) ∷ map (λ e. (field_name all e.0, e.1)) (numbered (x + 1) fields effects)) here.0
        ∙ ap (λ l. (f.name, effect) ∷ l) rest

-- an effect is itself
pub own_effect : (effect : Effect) → same_effect effect effect ≡ true
own_effect SetCaller = refl
own_effect (SetArg k) = grind (arith, nat_tests)
own_effect (AddArg k) = grind (arith, nat_tests)
own_effect SetRet = refl
own_effect AddRet = refl
own_effect Clear = refl
own_effect SubOne = refl
own_effect SubRet = refl

-- one of the effects that is on a field and is an effect
has_it : (effects : List On) (k : ℕ) (e : On) (name : List ℕ) (effect : Effect) → slice_get effects k ≡ Some e → e.0 ≡ name → e.1 ≡ effect → has_effect effects (name, effect) ≡ true
has_it effects k e name effect at on is =
    some_passes (λ other. bytes_eq other.0 name && same_effect other.1 effect) effects k e at
    (and_from (bytes_eq e.0 name) (same_effect e.1 effect) (ap (λ m. bytes_eq m name) on ∙ own_bytes name) (ap (λ d. same_effect d effect) is ∙ own_effect effect))

-- the effects on fields are among the effects
pub from_effects : (fields : List Field) (effects : List On) → list_all (has_effect effects) (by_names fields effects) ≡ true
from_effects [] effects = refl
from_effects (f ∷ fields) effects = by (effect_on_name effects f.name) refl (from_effects fields effects)
  where
    by : (o : Option Effect) → effect_on_name effects f.name ≡ o → list_all (has_effect effects) (by_names fields effects) ≡ true
        → list_all (has_effect effects) (cons_option (option_map (λ e. (f.name, e)) o) (by_names fields effects)) ≡ true
    by None told rest = rest
    by (Some effect) told rest =
        let on = on_name effects f.name effect told in
        and_from (has_effect effects (f.name, effect)) (list_all (has_effect effects) (by_names fields effects)) (has_it effects on.0 on.1 f.name effect on.2 on.3 on.4) rest

not_other : (a b : Bool) → a ≡ true → (a && not b) ≡ false → b ≡ true
not_other true true is apart = refl
not_other true false is apart = absurd (cc apart)
not_other false b is apart = absurd (cc is)

-- where no field has two, the effect on a name's field is each that is there
only : (effects : List On) (k : ℕ) (e : On) (effect : Effect) → has_two effects ≡ false → slice_get effects k ≡ Some e → effect_on_name effects e.0 ≡ Some effect → same_effect effect e.1 ≡ true
only effects k e effect one at told =
    let on = on_name effects e.0 effect told in
    let apart : (bytes_eq on.1.0 e.0 && not (same_effect on.1.1 e.1)) ≡ false =
    each_fails (clash e) effects on.0 on.1 (each_fails (λ d. list_any (clash d) effects) effects k e one at) on.2 in
    let on_it : bytes_eq on.1.0 e.0 ≡ true = ap (λ m. bytes_eq m e.0) on.3 ∙ own_bytes e.0 in
    ap (λ d. same_effect d e.1) (sym on.4) ∙ not_other (bytes_eq on.1.0 e.0) (same_effect on.1.1 e.1) on_it apart

-- and so each effect on a field is what is on it
pub to_effects : (fields : List Field) (effects : List On) (k : ℕ) (e : On) → has_two effects ≡ false → slice_get effects k ≡ Some e → has_name (map (λ f. f.name) fields) e.0 ≡ true
    → has_effect (by_names fields effects) e ≡ true
to_effects [] effects k e one at among = absurd (cc among)
to_effects (f ∷ fields) effects k e one at among = by (bytes_eq f.name e.0) refl among (λ later. to_effects fields effects k e one at later)
  where
    later : (o : Option Effect) → has_effect (by_names fields effects) e ≡ true → has_effect (cons_option (option_map (λ d. (f.name, d)) o) (by_names fields effects)) e ≡ true
    later None rest = rest
    later (Some d) rest = or_right (bytes_eq f.name e.0 && same_effect d e.1) (has_effect (by_names fields effects) e) rest

    by : (b : Bool) → bytes_eq f.name e.0 ≡ b → (b || has_name (map (λ g. g.name) fields) e.0) ≡ true
        → (has_name (map (λ g. g.name) fields) e.0 ≡ true → has_effect (by_names fields effects) e ≡ true) → has_effect (by_names (f ∷ fields) effects) e ≡ true
    by true told is rest =
        let own : f.name ≡ e.0 = same_bytes f.name e.0 told in
        let there = some_on effects k e f.name at (sym own) in
        ap (λ o. has_effect (cons_option (option_map (λ d. (f.name, d)) o) (by_names fields effects)) e) there.1
        ∙ ap (λ c. (c && same_effect there.0 e.1) || has_effect (by_names fields effects) e) told
        ∙ ap (λ c. c || has_effect (by_names fields effects) e) (only effects k e there.0 one at (ap (effect_on_name effects) (sym own) ∙ there.1))
    by false told is rest = later (effect_on_name effects f.name) (rest is)

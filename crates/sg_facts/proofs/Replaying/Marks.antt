-- What is known of fields, through the effects of a replayed call.
use Rattle.std.proofs.Common.{◌≡◌, ℕ, zero, suc, ◌+◌, ◌<◌, Bool, true, false, cond, List, [], ◌∷◌, length, map, refl, ◌∙◌, ap, subst, arith}
use Rattle.std.specs.Prelude.{◌==◌, ◌||◌, ◌&&◌, not, slice_get, slice_set, unwrap_or}
use Rattle.std.specs.List.{list_any}
use Rattle.std.proofs.lemmas.Bool.Decides.{nat_tests}
use Rattle.sg_base.specs.Lists.{Each}
use Rattle.sg_base.specs.declared.value.Value.{Value}
use Rattle.sg_base.specs.declared.value.Value.TheVariants.{Word, Text}
use Rattle.sg_base.specs.declared.call.Call.{Call}
use Rattle.sg_base.specs.declared.reply.Good.{Good}
use Rattle.sg_facts.specs.declared.shape.Effect.{Effect}
use Rattle.sg_facts.specs.declared.shape.Effect.TheVariants.{SetCaller, SetArg, AddArg, SetRet, AddRet, Clear, SubOne, SubRet}
use Rattle.sg_facts.specs.Facts.{Field}
use Rattle.sg_facts.specs.Allowed.{sets_once}
use Rattle.sg_facts.specs.Held.{FieldHolds, FieldsHold, SameKind}
use Rattle.sg_facts.specs.Sound.{AreFields, IsOfField}
use Rattle.sg_facts.specs.Track.{arg_at, effect_of, field_at, fields_after, word_of}
use Rattle.sg_facts.specs.Inside.Rows.{cleared}
use Rattle.sg_facts.specs.Fields.{empty_field}
use Rattle.sg_facts.specs.Walks.{FieldMark, good, unknown, unset, mark_after, marks_after}

-- ---- one field of several

abbrev mark_at : List FieldMark → ℕ → FieldMark
mark_at marks x = unwrap_or (slice_get marks x) unset

set_other : (ws : List Value) (x y : ℕ) (w : Value) → (x ≡ y → ⊥) → field_at (slice_set ws x w) y ≡ field_at ws y
set_other [] x y w apart = refl
set_other (v ∷ ws) zero zero w apart = absurd (apart refl)
set_other (v ∷ ws) zero (suc y) w apart = refl
set_other (v ∷ ws) (suc x) zero w apart = refl
set_other (v ∷ ws) (suc x) (suc y) w apart = set_other ws x y w (λ is. apart (ap suc is))

set_own : (ws : List Value) (x : ℕ) (w : Value) → x < length ws → field_at (slice_set ws x w) x ≡ w
set_own [] x w low = absurd (omega (arith, low))
set_own (v ∷ ws) zero w low = refl
set_own (v ∷ ws) (suc x) w low = set_own ws x w (omega (arith, low))

hold_length : (marks : List FieldMark) (vs ws : List Value) → FieldsHold marks vs ws → length ws ≡ length vs
hold_length [] [] [] hold = refl
hold_length [] [] (w ∷ ws) hold = absurd hold
hold_length [] (v ∷ vs) [] hold = absurd hold
hold_length [] (v ∷ vs) (w ∷ ws) hold = absurd hold
hold_length (m ∷ marks) [] [] hold = absurd hold
hold_length (m ∷ marks) [] (w ∷ ws) hold = absurd hold
hold_length (m ∷ marks) (v ∷ vs) [] hold = absurd hold
hold_length (m ∷ marks) (v ∷ vs) (w ∷ ws) hold = ap suc (hold_length marks vs ws hold.1)

hold_at : (marks : List FieldMark) (vs ws : List Value) (x : ℕ) → FieldsHold marks vs ws → FieldHolds (mark_at marks x) (field_at vs x) (field_at ws x)
hold_at [] [] [] x hold = refl
hold_at [] [] (w ∷ ws) x hold = absurd hold
hold_at [] (v ∷ vs) [] x hold = absurd hold
hold_at [] (v ∷ vs) (w ∷ ws) x hold = absurd hold
hold_at (m ∷ marks) [] [] x hold = absurd hold
hold_at (m ∷ marks) [] (w ∷ ws) x hold = absurd hold
hold_at (m ∷ marks) (v ∷ vs) [] x hold = absurd hold
hold_at (m ∷ marks) (v ∷ vs) (w ∷ ws) zero hold = hold.0
hold_at (m ∷ marks) (v ∷ vs) (w ∷ ws) (suc x) hold = hold_at marks vs ws x hold.1

hold_set : (marks : List FieldMark) (vs ws : List Value) (x : ℕ) (m : FieldMark) (w : Value) → FieldsHold marks vs ws → (x < length vs → FieldHolds m (field_at vs x) w)
    → FieldsHold (slice_set marks x m) vs (slice_set ws x w)
hold_set [] [] [] x m w hold so = tt
hold_set [] [] (w' ∷ ws) x m w hold so = absurd hold
hold_set [] (v ∷ vs) [] x m w hold so = absurd hold
hold_set [] (v ∷ vs) (w' ∷ ws) x m w hold so = absurd hold
hold_set (m' ∷ marks) [] [] x m w hold so = absurd hold
hold_set (m' ∷ marks) [] (w' ∷ ws) x m w hold so = absurd hold
hold_set (m' ∷ marks) (v ∷ vs) [] x m w hold so = absurd hold
hold_set (m' ∷ marks) (v ∷ vs) (w' ∷ ws) zero m w hold so = (so (omega arith), hold.1)
hold_set (m' ∷ marks) (v ∷ vs) (w' ∷ ws) (suc x) m w hold so = (hold.0, hold_set marks vs ws x m w hold.1 (λ low. so (omega (arith, low))))

same_kind : (f : Field) (v w : Value) → IsOfField f v → IsOfField f w → SameKind v w
same_kind f (Word m) (Word n) is also = tt
same_kind f (Text m) (Text n) is also = tt
same_kind f (Word m) (Text n) is also = let no = is.0 in absurd (cc (no, also))
same_kind f (Text m) (Word n) is also = let no = also.0 in absurd (cc (no, is))

kind_at : (fs : List Field) (vs ws : List Value) (x : ℕ) → AreFields fs vs → AreFields fs ws → SameKind (field_at vs x) (field_at ws x)
kind_at [] [] [] x are also = tt
kind_at [] [] (w ∷ ws) x are also = absurd also
kind_at [] (v ∷ vs) ws x are also = absurd are
kind_at (f ∷ fs) [] ws x are also = absurd are
kind_at (f ∷ fs) (v ∷ vs) [] x are also = absurd also
kind_at (f ∷ fs) (v ∷ vs) (w ∷ ws) zero are also = same_kind f v w are.0 also.0
kind_at (f ∷ fs) (v ∷ vs) (w ∷ ws) (suc x) are also = kind_at fs vs ws x are.1 also.1

either_false : (a b : Bool) → (a || b) ≡ false → (a ≡ false) × (b ≡ false)
either_false false b is = (refl, is)
either_false true b is = absurd (cc is)

no_test : (m n : ℕ) → (m == n) ≡ false → m ≡ n → ⊥
no_test m n is same = grind (arith, nat_tests, is, same)

-- ---- effects

-- what an effect takes comes from the row's field
abbrev pub IsFrom : Call → Value → Effect → Type 0
IsFrom call v SetCaller = call.client ≡ word_of v
IsFrom call v (SetArg k) = arg_at call k ≡ v
IsFrom call v (AddArg k) = arg_at call k ≡ v
IsFrom call v SetRet = Unit {0}
IsFrom call v AddRet = Unit {0}
IsFrom call v Clear = Unit {0}
IsFrom call v SubOne = Unit {0}
IsFrom call v SubRet = Unit {0}

abbrev pub AreFrom : Call → List Value → List (ℕ × Effect) → Type 0
AreFrom call vs es = Each (λ e. IsFrom call (field_at vs e.0) e.1) es

clear_twice : (v : Value) → cleared (cleared v) ≡ cleared v
clear_twice (Word n) = refl
clear_twice (Text bytes) = refl

clear_kind : (v w : Value) → SameKind v w → cleared w ≡ cleared v
clear_kind (Word m) (Word n) same = refl
clear_kind (Text m) (Text n) same = refl
clear_kind (Word m) (Text n) same = absurd same
clear_kind (Text m) (Word n) same = absurd same

clear_held : (m : FieldMark) (v old : Value) → FieldHolds m v old → cleared old ≡ cleared v
clear_held unset v old holds = ap cleared holds ∙ clear_twice v
clear_held good v old holds = ap cleared holds
clear_held unknown v old holds = clear_kind v old holds

module _ (call : Call) (reply : Good) where
  set_caller : (v : Value) → call.client ≡ word_of v → SameKind v (Word call.client) → Word call.client ≡ v
  set_caller (Word n) from kind = ap Word from
  set_caller (Text bytes) from kind = absurd kind

  add_first : (k : ℕ) (v old : Value) → old ≡ cleared v → arg_at call k ≡ v → SameKind v (Word (word_of old + word_of (arg_at call k))) → Word (word_of old + word_of (arg_at call k)) ≡ v
  add_first k (Word n) old holds from kind = ap (λ x. Word (word_of x + word_of (arg_at call k))) holds ∙ ap (λ x. Word (0 + word_of x)) from ∙ ap Word (let z : 0 + n ≡ n = omega arith in z)
  add_first k (Text bytes) old holds from kind = absurd kind

  pub effect_holds : (e : Effect) (m : FieldMark) (v old : Value) → FieldHolds m v old → IsFrom call v e → SameKind v (effect_of call reply e old) → FieldHolds (mark_after e m) v (effect_of call reply e old)
  effect_holds SetCaller m v old holds from kind = set_caller v from kind
  effect_holds (SetArg k) m v old holds from kind = from
  effect_holds (AddArg k) unset v old holds from kind = add_first k v old holds from kind
  effect_holds (AddArg k) good v old holds from kind = kind
  effect_holds (AddArg k) unknown v old holds from kind = kind
  effect_holds SetRet m v old holds from kind = kind
  effect_holds AddRet m v old holds from kind = kind
  effect_holds Clear m v old holds from kind = clear_held m v old holds
  effect_holds SubOne m v old holds from kind = kind
  effect_holds SubRet m v old holds from kind = kind

  untouched : (es : List (ℕ × Effect)) (ws : List Value) (x : ℕ) → list_any (λ e. e.0 == x) es ≡ false → field_at (fields_after call reply es ws) x ≡ field_at ws x
  untouched [] ws x none = refl
  untouched (e ∷ es) ws x none =
      let parts = either_false (e.0 == x) (list_any (λ o. o.0 == x) es) none in
      untouched es (slice_set ws e.0 (effect_of call reply e.1 (field_at ws e.0))) x parts.1
      ∙ set_other ws e.0 x (effect_of call reply e.1 (field_at ws e.0)) (no_test e.0 x parts.0)

  both_once : (a b : Bool) → (not a && b) ≡ true → (a ≡ false) × (b ≡ true)
  both_once false b is = (refl, is)
  both_once true b is = absurd (cc is)

  -- the effects of a call leave of each field what the marks say
  pub marks_hold : (fs : List Field) (vs : List Value) (es : List (ℕ × Effect)) (marks : List FieldMark) (ws : List Value) → sets_once es ≡ true → AreFrom call vs es → FieldsHold marks vs ws
      → AreFields fs vs → AreFields fs (fields_after call reply es ws) → FieldsHold (marks_after es marks) vs (fields_after call reply es ws)
  marks_hold fs vs [] marks ws once from hold are last = hold
  marks_hold fs vs (e ∷ es) marks ws once from hold are last =
      let parts = both_once (list_any (λ o. o.0 == e.0) es) (sets_once es) once in
      let new = effect_of call reply e.1 (field_at ws e.0) in
      let so : e.0 < length vs → FieldHolds (mark_after e.1 (mark_at marks e.0)) (field_at vs e.0) new
      = λ low. effect_holds e.1 (mark_at marks e.0) (field_at vs e.0) (field_at ws e.0) (hold_at marks vs ws e.0 hold) from.0
      (subst (SameKind (field_at vs e.0))
      (untouched es (slice_set ws e.0 new) e.0 parts.0 ∙ set_own ws e.0 new (let same = hold_length marks vs ws hold in omega (arith, low, same)))
      (kind_at fs vs (fields_after call reply es (slice_set ws e.0 new)) e.0 are last)) in
      marks_hold fs vs es (slice_set marks e.0 (mark_after e.1 (mark_at marks e.0))) (slice_set ws e.0 new) parts.1 from.1
      (hold_set marks vs ws e.0 (mark_after e.1 (mark_at marks e.0)) new hold so) are last

-- ---- a new row

no_field : (f : Field) (v : Value) → IsOfField f v → empty_field f ≡ cleared v
no_field f (Word n) is = ap (λ b. cond b (Text []) (Word 0)) is.0
no_field f (Text bytes) is = ap (λ b. cond b (Text []) (Word 0)) is

pub none_holds : (fs : List Field) (vs : List Value) → AreFields fs vs → FieldsHold (map (λ f. unset) fs) vs (map empty_field fs)
none_holds [] [] are = tt
none_holds [] (v ∷ vs) are = absurd are
none_holds (f ∷ fs) [] are = absurd are
none_holds (f ∷ fs) (v ∷ vs) are = (no_field f v are.0, none_holds fs vs are.1)

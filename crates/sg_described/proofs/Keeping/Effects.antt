-- What effects leave of fields.
use Rattle.std.proofs.Common.{◌≡◌, ℕ, zero, suc, ◌+◌, ◌<◌, ◌≤◌, min, Bool, true, false, cond, not, List, [], ◌∷◌, length, None, Some, refl, sym, ◌∙◌, ap, subst, arith}
use Rattle.std.specs.Prelude.{◌-◌, ◌==◌, ◌&&◌, ◌||◌, nat_lt, slice_get, slice_set, unwrap_or}
use Rattle.std.specs.List.{list_all, list_any}
use Rattle.std.specs.declared.option.Option.{Option}
use Rattle.std.proofs.lemmas.Bool.Decides.{nat_tests}
use Rattle.sg_facts.specs.sg_base.declared.value.Value.{Value}
use Rattle.sg_facts.specs.sg_base.declared.value.Value.TheVariants.{Word, Text}
use Rattle.sg_facts.specs.sg_base.declared.call.Call.{Call}
use Rattle.sg_facts.specs.sg_base.declared.reply.Good.{Good}
use Rattle.sg_facts.specs.declared.shape.Effect.{Effect}
use Rattle.sg_facts.specs.declared.shape.Effect.TheVariants.{SetCaller, SetArg, AddArg, SetRet, AddRet, Clear, SubOne, SubRet}
use Rattle.sg_facts.specs.Allowed.{sets_once}
use Rattle.sg_facts.specs.Track.{effect_of, field_at, fields_after, word_of}
use Rattle.sg_facts.specs.Walks.{effect_on}
use Rattle.sg_described.specs.Meaning.{fits, is_up_to, most_at}
use Rattle.sg_described.proofs.Keeping.Basics.{apart_of, both_true, no_it, same_of}

-- ---- one field of several

pub set_other : (ws : List Value) (x y : ℕ) (w : Value) → (x ≡ y → ⊥) → field_at (slice_set ws x w) y ≡ field_at ws y
set_other [] x y w apart = refl
set_other (v ∷ ws) zero zero w apart = absurd (apart refl)
set_other (v ∷ ws) zero (suc y) w apart = refl
set_other (v ∷ ws) (suc x) zero w apart = refl
set_other (v ∷ ws) (suc x) (suc y) w apart = set_other ws x y w (λ is. apart (ap suc is))

pub set_own : (ws : List Value) (x : ℕ) (w : Value) → x < length ws → field_at (slice_set ws x w) x ≡ w
set_own [] x w low = absurd (omega (arith, low))
set_own (v ∷ ws) zero w low = refl
set_own (v ∷ ws) (suc x) w low = set_own ws x w (omega (arith, low))

pub set_length : (ws : List Value) (x : ℕ) (w : Value) → length (slice_set ws x w) ≡ length ws
set_length [] x w = refl
set_length (v ∷ ws) zero w = refl
set_length (v ∷ ws) (suc x) w = ap suc (set_length ws x w)

-- ---- effects see only the caller, the arguments and the words

effect_same : (call call' : Call) (reply reply' : Good) (e : Effect) (v : Value) → call.client ≡ call'.client → call.args ≡ call'.args → reply.words ≡ reply'.words
    → effect_of call reply e v ≡ effect_of call' reply' e v
effect_same call call' reply reply' SetCaller v client args words = ap Word client
effect_same call call' reply reply' (SetArg k) v client args words = ap (λ l. unwrap_or (slice_get l k) (Word 0)) args
effect_same call call' reply reply' (AddArg k) v client args words = ap (λ l. Word (word_of v + word_of (unwrap_or (slice_get l k) (Word 0)))) args
effect_same call call' reply reply' SetRet v client args words = ap (λ l. Word (unwrap_or (slice_get l 0) 0)) words
effect_same call call' reply reply' AddRet v client args words = ap (λ l. Word (word_of v + unwrap_or (slice_get l 0) 0)) words
effect_same call call' reply reply' Clear v client args words = refl
effect_same call call' reply reply' SubOne v client args words = refl
effect_same call call' reply reply' SubRet v client args words = ap (λ l. Word (word_of v - unwrap_or (slice_get l 0) 0)) words

pub fields_same : (call call' : Call) (reply reply' : Good) → call.client ≡ call'.client → call.args ≡ call'.args → reply.words ≡ reply'.words
    → (es : List (ℕ × Effect)) (fs : List Value) → fields_after call reply es fs ≡ fields_after call' reply' es fs
fields_same call call' reply reply' client args words [] fs = refl
fields_same call call' reply reply' client args words (e ∷ es) fs =
    fields_same call call' reply reply' client args words es (slice_set fs e.0 (effect_of call reply e.1 (field_at fs e.0)))
    ∙ ap (λ v. fields_after call' reply' es (slice_set fs e.0 v)) (effect_same call call' reply reply' e.1 (field_at fs e.0) client args words)

-- they fit alike
pub fits_same : (most : List ℕ) (call call' : Call) (reply reply' : Good) → call.client ≡ call'.client → call.args ≡ call'.args → reply.words ≡ reply'.words
    → (es : List (ℕ × Effect)) (fs : List Value) → fits most call reply es fs ≡ fits most call' reply' es fs
fits_same most call call' reply reply' client args words [] fs = refl
fits_same most call call' reply reply' client args words (e ∷ es) fs =
    ap (λ v. is_up_to (most_at most e.0) v && fits most call reply es fs) (effect_same call call' reply reply' e.1 (field_at fs e.0) client args words)
    ∙ ap (λ b. is_up_to (most_at most e.0) (effect_of call' reply' e.1 (field_at fs e.0)) && b) (fits_same most call call' reply reply' client args words es fs)

module _ (call : Call) (reply : Good) where
  pub after_length : (es : List (ℕ × Effect)) (ws : List Value) → length (fields_after call reply es ws) ≡ length ws
  after_length [] ws = refl
  after_length (e ∷ es) ws = after_length es (slice_set ws e.0 (effect_of call reply e.1 (field_at ws e.0))) ∙ set_length ws e.0 (effect_of call reply e.1 (field_at ws e.0))

  -- a field that no effect is on stays
  pub left_none : (es : List (ℕ × Effect)) (ws : List Value) (x : ℕ) → effect_on es x ≡ None → field_at (fields_after call reply es ws) x ≡ field_at ws x
  left_none [] ws x none = refl
  left_none (e ∷ es) ws x none = at (e.0 == x) refl none (left_none es (slice_set ws e.0 (effect_of call reply e.1 (field_at ws e.0))) x)
    where
      at : (b : Bool) → (e.0 == x) ≡ b → cond b (Some e.1) (effect_on es x) ≡ None
          → (effect_on es x ≡ None → field_at (fields_after call reply (e ∷ es) ws) x ≡ field_at (slice_set ws e.0 (effect_of call reply e.1 (field_at ws e.0))) x)
          → field_at (fields_after call reply (e ∷ es) ws) x ≡ field_at ws x
      at true is none rest = absurd (cc none)
      at false is none rest = rest none ∙ set_other ws e.0 x (effect_of call reply e.1 (field_at ws e.0)) (apart_of e.0 x is)

  none_later : (es : List (ℕ × Effect)) (x : ℕ) → list_any (λ o. o.0 == x) es ≡ false → effect_on es x ≡ None
  none_later [] x none = refl
  none_later (e ∷ es) x none = at (e.0 == x) refl none (none_later es x)
    where
      at : (b : Bool) → (e.0 == x) ≡ b → (b || list_any (λ o. o.0 == x) es) ≡ false → (list_any (λ o. o.0 == x) es ≡ false → effect_on es x ≡ None) → effect_on (e ∷ es) x ≡ None
      at true is none rest = absurd (cc none)
      at false is none rest = ap (λ b. cond b (Some e.1) (effect_on es x)) is ∙ rest none

  -- a field that none of the effects is on
  pub untouched : (es : List (ℕ × Effect)) (ws : List Value) (x : ℕ) → list_any (λ o. o.0 == x) es ≡ false → field_at (fields_after call reply es ws) x ≡ field_at ws x
  untouched es ws x none = left_none es ws x (none_later es x none)

  -- a field after the effect on it
  pub left_some : (n : ℕ) (es : List (ℕ × Effect)) (ws : List Value) (x : ℕ) (effect : Effect) → effect_on es x ≡ Some effect → sets_once es ≡ true → list_all (λ e. nat_lt e.0 n) es ≡ true → length ws ≡ n
      → field_at (fields_after call reply es ws) x ≡ effect_of call reply effect (field_at ws x)
  left_some n [] ws x effect some once within same = absurd (cc some)
  left_some n (e ∷ es) ws x effect some once within same =
      let parts = both_true (not (list_any (λ o. o.0 == e.0) es)) (sets_once es) once in
      let low = both_true (nat_lt e.0 n) (list_all (λ e. nat_lt e.0 n) es) within in
      at (e.0 == x) refl some (no_it (list_any (λ o. o.0 == e.0) es) parts.0) low.0
      (λ further. left_some n es (slice_set ws e.0 (effect_of call reply e.1 (field_at ws e.0))) x effect further parts.1 low.1 (set_length ws e.0 (effect_of call reply e.1 (field_at ws e.0)) ∙ same))
    where
      at : (b : Bool) → (e.0 == x) ≡ b → cond b (Some e.1) (effect_on es x) ≡ Some effect → list_any (λ o. o.0 == e.0) es ≡ false → nat_lt e.0 n ≡ true
          → (effect_on es x ≡ Some effect → field_at (fields_after call reply es (slice_set ws e.0 (effect_of call reply e.1 (field_at ws e.0)))) x
          ≡ effect_of call reply effect (field_at (slice_set ws e.0 (effect_of call reply e.1 (field_at ws e.0))) x))
          → field_at (fields_after call reply (e ∷ es) ws) x ≡ effect_of call reply effect (field_at ws x)
      at true is some none low rest =
          let one : e.0 ≡ x = same_of e.0 x is in
          let less : e.0 < n = grind (arith, nat_tests, low) in
          let its : e.1 ≡ effect = cc some in
          let new = effect_of call reply e.1 (field_at ws e.0) in
          let there : x < length ws = omega (arith, one, less, same) in
          left_none es (slice_set ws e.0 new) x (subst (λ y. effect_on es y ≡ None) one (none_later es e.0 none))
          ∙ ap (λ y. field_at (slice_set ws y new) x) one ∙ set_own ws x new there ∙ ap (λ y. effect_of call reply e.1 (field_at ws y)) one ∙ ap (λ f. effect_of call reply f (field_at ws x)) its
      at false is some none low rest =
          rest some ∙ ap (effect_of call reply effect) (set_other ws e.0 x (effect_of call reply e.1 (field_at ws e.0)) (apart_of e.0 x is))

  pub cleared_none : (v : Value) → word_of (effect_of call reply Clear v) ≡ 0
  cleared_none (Word n) = refl
  cleared_none (Text bytes) = refl

-- what holds of each place of fields that an effect is on, and of each that none is on
module _ (es : List (ℕ × Effect)) (x : ℕ) where
  pub by_effect : (P : Type 0) → (effect_on es x ≡ None → P) → ((e : Effect) → effect_on es x ≡ Some e → P) → P
  by_effect P none some = at (effect_on es x) refl
    where
      at : (o : Option Effect) → effect_on es x ≡ o → P
      at None is = none is
      at (Some e) is = some e is

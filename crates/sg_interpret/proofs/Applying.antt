-- Effects that are done one after the other.
use Rattle.std.proofs.Common.{◌≡◌, ℕ, ◌-◌, ◌≤◌, Bool, true, false, not, List, [], ◌∷◌, length, map, get_or, take, drop, refl, sym, ◌∙◌, ap, subst, arith}
use Rattle.std.proofs.lemmas.List.{take_all}
use Rattle.std.specs.Prelude.{◌==◌, ◌&&◌, slice_set}
use Rattle.std.specs.List.{list_any}
use Rattle.sg_described.specs.sg_facts.sg_base.declared.value.Value.{Value}
use Rattle.sg_described.specs.sg_facts.sg_base.declared.call.Call.{Call}
use Rattle.sg_described.specs.sg_facts.sg_base.declared.reply.Good.{Good}
use Rattle.sg_described.specs.sg_facts.declared.shape.Effect.{Effect}
use Rattle.sg_described.specs.sg_facts.Allowed.{sets_once}
use Rattle.sg_described.specs.sg_facts.Track.{effect_of, field_at}
use Rattle.sg_described.specs.Meaning.{fits, is_up_to, most_at}
use Rattle.sg_described.proofs.Keeping.Basics.{apart_of, both_true, neither, no_it}
use Rattle.sg_described.proofs.Keeping.Effects.{set_other}

-- the others have effects on other fields, each once
pub others_once : (e : ℕ × Effect) (es : List (ℕ × Effect)) → sets_once (e ∷ es) ≡ true → sets_once es ≡ true
others_once e es once = (both_true (not (list_any (λ o. o.0 == e.0) es)) (sets_once es) once).1

module _ (most : List ℕ) (call : Call) (good : Good) where
  -- effects fit as before when a field that has none of them is set
  fits_besides : (es : List (ℕ × Effect)) (vs : List Value) (x : ℕ) (v : Value) → list_any (λ o. o.0 == x) es ≡ false → fits most call good es (slice_set vs x v) ≡ fits most call good es vs
  fits_besides [] vs x v none = refl
  fits_besides (o ∷ es) vs x v none =
      let parts = neither (o.0 == x) (list_any (λ o. o.0 == x) es) none in
      ap (λ f. is_up_to (most_at most o.0) (effect_of call good o.1 f) && fits most call good es (slice_set vs x v)) (set_other vs x o.0 v (λ same. apart_of o.0 x parts.0 (sym same)))
      ∙ ap (λ b. is_up_to (most_at most o.0) (effect_of call good o.1 (field_at vs o.0)) && b) (fits_besides es vs x v parts.1)

  -- one fits and is done, and the others after it
  one_fits : (e : ℕ × Effect) (es : List (ℕ × Effect)) (vs : List Value) (v : Value) → effect_of call good e.1 (field_at vs e.0) ≡ v → is_up_to (most_at most e.0) (effect_of call good e.1 (field_at vs e.0)) ≡ true
      → sets_once (e ∷ es) ≡ true → fits most call good es (slice_set vs e.0 v) ≡ fits most call good (e ∷ es) vs
  one_fits e es vs v is fit once =
      fits_besides es vs e.0 v (no_it (list_any (λ o. o.0 == e.0) es) (both_true (not (list_any (λ o. o.0 == e.0) es)) (sets_once es) once).0)
      ∙ sym (ap (λ b. b && fits most call good es vs) fit)

  -- the same, of effects that are listed: the first was done to the field, and it left this value
  pub all_fit : (xs : List (ℕ × Effect)) (x : ℕ × Effect) (vs new : List Value) (old v : Value) (m : ℕ) (b : Bool) → 1 ≤ length xs → sets_once (map (λ p. (p.0, p.1)) xs) ≡ true
      → old ≡ field_at vs (get_or xs 0 x).0 → m ≡ most_at most (get_or xs 0 x).0 → effect_of call good (get_or xs 0 x).1 old ≡ v → is_up_to m (effect_of call good (get_or xs 0 x).1 old) ≡ true
      → new ≡ slice_set vs (get_or xs 0 x).0 v → b ≡ fits most call good (map (λ p. (p.0, p.1)) (take (length xs - 1) (drop 1 xs))) new
      → b ≡ fits most call good (map (λ p. (p.0, p.1)) xs) vs
  all_fit [] x vs new old v m b some once its_old its_most leaves up is rest = absurd (omega (arith, some))
  all_fit (e ∷ es) x vs new old v m b some once its_old its_most leaves up is rest =
      let there : effect_of call good e.1 (field_at vs e.0) ≡ v = ap (effect_of call good e.1) (sym its_old) ∙ leaves in
      let fit : is_up_to (most_at most e.0) (effect_of call good e.1 (field_at vs e.0)) ≡ true = subst (λ w. is_up_to (most_at most e.0) (effect_of call good e.1 w) ≡ true) its_old (subst (λ n. is_up_to n (effect_of call good e.1 old) ≡ true) its_most up) in
      rest ∙ ap (fits most call good (map (λ p. (p.0, p.1)) (take (length (e ∷ es) - 1) es))) is
      ∙ ap (λ l. fits most call good (map (λ p. (p.0, p.1)) l) (slice_set vs e.0 v)) (take_all (length (e ∷ es) - 1) es (omega arith))
      ∙ one_fits e (map (λ p. (p.0, p.1)) es) vs v there fit once

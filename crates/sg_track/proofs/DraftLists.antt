-- Drafts of fields, one after the other.
use Rattle.std.proofs.Common.{◌≡◌, ℕ, zero, suc, ◌<◌, Bool, true, false, cond, List, [], ◌∷◌, ◌++◌, take, length, map, get_or, refl, sym, ◌∙◌, ap, arith}
use Rattle.std.proofs.Math.ListN.{set}
use Rattle.std.proofs.lemmas.Grind.{common_steps}
use Rattle.std.proofs.lemmas.List.{map-set}
use Rattle.sg_facts.specs.sg_base.declared.value.Value.{Value}
use Rattle.sg_facts.specs.sg_base.declared.call.Call.{Call}
use Rattle.sg_facts.specs.sg_base.declared.reply.Good.{Good}
use Rattle.sg_facts.specs.declared.shape.Effect.{Effect}
use Rattle.sg_facts.specs.declared.shape.FieldShape.{FieldShape}
use Rattle.sg_facts.specs.Track.{effect_of, field_at}
use Rattle.sg_facts.specs.Fields.{empty_field}
use Rattle.sg_facts.specs.sg_base.declared.value.Value.TheVariants.{Word, Text}
use Rattle.sg_track.specs.declared.draft.Draft.{Draft}
use Rattle.sg_track.specs.declared.draft.Draft.TheVariants.{Number, Blank}
use Rattle.sg_track.specs.Drafts.{EachNew, blank_draft, drafted, empty_shape}

pub seen_at : (call : Call) (drafts : List Draft) (at : ℕ) (d : Draft) → at < length drafts → field_at (map (drafted call) drafts) at ≡ drafted call (get_or drafts at d)
seen_at call [] at d in' = absurd (omega arith)
seen_at call (x ∷ drafts) zero d in' = refl
seen_at call (x ∷ drafts) (suc at) d in' = seen_at call drafts at d (omega arith)

-- a draft is written
pub written : (call : Call) (good : Good) (effect : Effect) (drafts : List Draft) (at : ℕ) (d r : Draft) → at < length drafts
    → drafted call r ≡ effect_of call good effect (drafted call (get_or drafts at d))
    → map (drafted call) (set drafts at r) ≡ set (map (drafted call) drafts) at (effect_of call good effect (field_at (map (drafted call) drafts) at))
written call good effect drafts at d r in' is =
    map-set (drafted call) drafts at r ∙ ap (λ v. set (map (drafted call) drafts) at v) (is ∙ ap (effect_of call good effect) (sym (seen_at call drafts at d in')))

-- fields before any effect
pub blank_values : (call : Call) (fields : List FieldShape) → map (drafted call) (map blank_draft fields) ≡ map empty_shape fields
blank_values call [] = refl
blank_values call (f ∷ fields) = at f.text (blank_values call fields)
  where
    at : (b : Bool) → map (drafted call) (map blank_draft fields) ≡ map empty_shape fields
        → drafted call (cond b Blank (Number 0)) ∷ map (drafted call) (map blank_draft fields) ≡ cond b (Text []) (Word 0) ∷ map empty_shape fields
    at true rest = ap (λ l. Text [] ∷ l) rest
    at false rest = ap (λ l. Word 0 ∷ l) rest

pub empty_fields : (fields : List FieldShape) → map empty_field (map (λ f. record { name = f.name.now; text = f.text }) fields) ≡ map empty_shape fields
empty_fields [] = refl
empty_fields (f ∷ fields) = ap (λ l. empty_shape f ∷ l) (empty_fields fields)

-- what was put before a rest
pub front_again : {A : Type 0} (n : ℕ) (xs ys : List A) → length xs ≡ n → take n (xs ++ ys) ≡ xs
front_again n xs ys is = grind (arith, common_steps, is)

-- without effects there is no new value
pub none_new : (P : Value → Type 0) (call : Call) (good : Good) (effects : List (ℕ × Effect)) (fields : List Value) → effects ≡ [] → EachNew P call good effects fields
none_new P call good [] fields none = tt
none_new P call good (e ∷ effects) fields none = absurd (cc none)

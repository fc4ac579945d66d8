-- The boot of one item more is noted.
use Rattle.std.proofs.Common.{◌≡◌, ℕ, ◌+◌, Bool, true, false, ◌||◌, List, [], ◌∷◌, Some, refl, sym, ◌∙◌, ap, take}
use Rattle.std.specs.Prelude.{if◌then◌else◌, slice_get}
use Rattle.std.proofs.lemmas.List.Folds.{list_any-append}
use Rattle.sg_cost.specs.Inside.LastBoots.{has_call}
use Rattle.sg_facts.proofs.Places.{take_next}
use Rattle.sg_facts.specs.Lent.{tag_in}
use Rattle.sg_facts.specs.declared.lent.LentTag.{LentTag}
use Rattle.sg_facts.specs.declared.lent.LentTag.TheVariants.{Walk as WalkLent, Load as LoadLent, Client as ClientLent}
use Rattle.sg_facts.specs.declared.trace.Item.{Item}
use Rattle.sg_report.specs.sg_hist.Reading.{is_tagged}

or_false : (b : Bool) → (b || false) ≡ b
or_false true = refl
or_false false = refl

-- whether the first items and one more are of a call
has_next : (client seq : ℕ) (items : List Item) (at : ℕ) (x : Item) → slice_get items at ≡ Some x
    → has_call client seq (take (at + 1) items) ≡ (has_call client seq (take at items) || is_tagged client seq x.tag)
has_next client seq items at x found =
    ap (has_call client seq) (take_next items at x found) ∙ list_any-append (λ (item : Item). is_tagged client seq item.tag) (take at items) (x ∷ [])
    ∙ ap (λ b. has_call client seq (take at items) || b) (or_false (is_tagged client seq x.tag))

kept_by : (had is has : Bool) (number first old new : ℕ) → has ≡ (had || is) → old ≡ (if had then number else first) → new ≡ (if is then number else old)
    → new ≡ (if has then number else first)
kept_by true true has number first old new e was adds = adds ∙ sym (ap (λ b. if b then number else first) e)
kept_by false true has number first old new e was adds = adds ∙ sym (ap (λ b. if b then number else first) e)
kept_by true false has number first old new e was adds = adds ∙ was ∙ sym (ap (λ b. if b then number else first) e)
kept_by false false has number first old new e was adds = adds ∙ was ∙ sym (ap (λ b. if b then number else first) e)

-- what is kept for a call after one item more, which is noted where it is of the call
pub kept_next : (client seq : ℕ) (items : List Item) (at : ℕ) (x : Item) (number first old new : ℕ) → slice_get items at ≡ Some x
    → old ≡ (if has_call client seq (take at items) then number else first) → new ≡ (if is_tagged client seq x.tag then number else old)
    → new ≡ (if has_call client seq (take (at + 1) items) then number else first)
kept_next client seq items at x number first old new found was adds =
    kept_by (has_call client seq (take at items)) (is_tagged client seq x.tag) (has_call client seq (take (at + 1) items)) number first old new
    (has_next client seq items at x found) was adds

-- an item of no client's call is of none
pub not_tagged : (tag : LentTag) (client seq : ℕ) → ((c s : ℕ) → tag ≡ ClientLent c s → ⊥) → is_tagged client seq (tag_in tag) ≡ false
not_tagged (WalkLent id k c) client seq isn't = refl
not_tagged (LoadLent key c) client seq isn't = refl
not_tagged (ClientLent c s) client seq isn't = absurd (isn't c s refl)

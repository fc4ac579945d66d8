-- The places of calls in a history.
use Rattle.std.proofs.Common.{◌≡◌, ℕ, suc, ◌-◌, ◌<◌, ◌≤◌, Bool, true, false, cond, List, ◌∷◌, Some, drop, length, sym, ◌∙◌, ap, subst, arith}
use Rattle.std.proofs.Math.Seq.{drop-cons}
use Rattle.std.proofs.lemmas.Option.{get_or_from_slice_get, slice_get_within}
use Rattle.std.specs.Prelude.{slice_get}
use Rattle.std.specs.Map.{lookup}
use Rattle.std.specs.Option.{option_and_then}
use Rattle.sg_facts.specs.declared.entry.Entry.{Entry}
use Rattle.sg_draw.specs.Labels.{entry_of}
use Rattle.sg_draw.specs.Inside.Places.{ArePlacesIn, same_call}

-- one more entry at the front is noted
pub places_more : (old new : List ((ℕ × ℕ) × ℕ)) (history later : List Entry) (e : Entry) (at : ℕ) → ArePlacesIn old history later → slice_get history at ≡ Some e
    → ((client seq : ℕ) → lookup (same_call (client, seq)) new ≡ cond (same_call (e.call.client, e.call.seq) (client, seq)) (Some at) (lookup (same_call (client, seq)) old))
    → ArePlacesIn new history (e ∷ later)
places_more old new history later e at kept own noted = λ client seq.
    ap (option_and_then (slice_get history)) (noted client seq) ∙ by client seq (same_call (e.call.client, e.call.seq) (client, seq))
  where
    by : (client seq : ℕ) (t : Bool) → option_and_then (slice_get history) (cond t (Some at) (lookup (same_call (client, seq)) old)) ≡ cond t (Some e) (entry_of later client seq)
    by client seq true = own
    by client seq false = kept client seq

-- the entry before those that are noted is noted
pub places_back : (old new : List ((ℕ × ℕ) × ℕ)) (history : List Entry) (at : ℕ) (e : Entry) → 0 < at → at ≤ length history → ArePlacesIn old history (drop at history)
    → slice_get history (at - 1) ≡ Some e
    → ((client seq : ℕ) → lookup (same_call (client, seq)) new ≡ cond (same_call (e.call.client, e.call.seq) (client, seq)) (Some (at - 1)) (lookup (same_call (client, seq)) old))
    → ArePlacesIn new history (drop (at - 1) history)
places_back old new history at e some low kept own noted =
    let next : suc (at - 1) ≡ at = omega arith in
    let front : drop (at - 1) history ≡ e ∷ drop at history
    = drop-cons history (at - 1) e (slice_get_within history (at - 1) e own) ∙ ap (λ x. x ∷ drop (suc (at - 1)) history) (get_or_from_slice_get history (at - 1) e e own)
    ∙ ap (λ k. e ∷ drop k history) next in
    subst (ArePlacesIn new history) (sym front) (places_more old new history (drop at history) e (at - 1) kept own noted)

-- The places of a run where an item is noted, the service stops or is booted, as far as waits go.
use Rattle.std.proofs.Common.{◌≡◌, ℕ, true, ◌&&◌, List, [], ◌∷◌, ◌++◌, sym, subst}
use Rattle.sg_facts.specs.sg_base.Lists.{Each}
use Rattle.sg_facts.specs.declared.entry.Entry.{Entry}
use Rattle.sg_facts.specs.declared.trace.Item.{Item}
use Rattle.sg_facts.specs.Facts.{Facts}
use Rattle.sg_facts.specs.Trace.{Boot}
use Rattle.sg_plain.specs.sg_hist.Reading.{Position, is_tagged, items_of, last_items, older_items, places_from, places_in}
use Rattle.sg_plain.specs.Inside.Kept.{IsWokenBetween}
use Rattle.sg_plain.specs.sg_hist.Wakes.{has_blocked, wakes_at}
use Rattle.sg_plain.proofs.sg_hist.Growing.{items_more}
use Rattle.sg_world.proofs.sg_recovery_laws.Lists.{each_append, each_split}
use Rattle.sg_plain.specs.sg_hist.Growing.{IsGrown, noted}
use Rattle.sg_play.proofs.Waking.Between.{between_last, between_older}
use Rattle.sg_play.specs.Waking.Waking.{IsWokenSince}

-- what holds of each item holds at each place
pub at_places : (P : Item → Type 0) (older front items newer : List Item) → Each P items → Each (λ p. P p.item) (places_in older front items newer)
at_places P older front [] newer all = tt
at_places P older front (item ∷ items) newer all = (all.0, at_places P older (front ++ item ∷ []) items newer all.1)

-- ---- all places

module _ (facts : Facts) (entries now : List Entry) (x : Item) (same : (id : ℕ) (p q : Position) → IsGrown x p q → wakes_at facts now id q ≡ wakes_at facts entries id p) where
  -- who waits is woken between where an item is noted, if it was woken before it waits there
  pub between_noted : (older : List Item) (b : Boot) (boots : List Boot) → Each (λ p. IsWokenBetween facts entries p p.item.tag) (places_from older (b ∷ boots))
      → ((client seq : ℕ) → (is_tagged client seq x.tag && has_blocked x.outcome) ≡ true
      → Each (IsWokenSince facts entries client seq) (places_in (older_items older (b ∷ boots)) [] (last_items (b ∷ boots)) []))
      → Each (λ p. IsWokenBetween facts now p p.item.tag) (places_from older (noted (b ∷ boots) x))
  between_noted older b [] all again =
      let both = each_split (λ p. IsWokenBetween facts entries p p.item.tag) (places_in older [] b.items []) [] all in
      each_append (λ p. IsWokenBetween facts now p p.item.tag) (places_in older [] (b.items ++ x ∷ []) []) [] (between_last facts entries now x same older [] b.items both.0 again) tt
  between_noted older b (c ∷ boots) all again =
      let both = each_split (λ p. IsWokenBetween facts entries p p.item.tag) (places_in older [] b.items (items_of (c ∷ boots))) (places_from (older ++ b.items) (c ∷ boots)) all in
      each_append (λ p. IsWokenBetween facts now p p.item.tag) (places_in older [] b.items (items_of (noted (c ∷ boots) x))) (places_from (older ++ b.items) (noted (c ∷ boots) x))
      (subst (λ l. Each (λ p. IsWokenBetween facts now p p.item.tag) (places_in older [] b.items l)) (sym (items_more c boots x))
      (between_older facts entries now x same older [] b.items (items_of (c ∷ boots)) both.0))
      (between_noted (older ++ b.items) c boots both.1 again)

-- A boot more is told.
use Rattle.std.proofs.Common.{◌≡◌, ℕ, suc, zero, ◌+◌, ◌<◌, true, false, List, [], ◌∷◌, ◌++◌, Some, append_assoc, drop, length, map, sym, ◌∙◌, ap, refl, subst, take, arith}
use Rattle.std.specs.Prelude.{slice_get, slice_index_or}
use Rattle.std.specs.List.{list_all}
use Rattle.std.proofs.lemmas.List.{drop_more, length-take-le}
use Rattle.sg_cost.proofs.Fronts.{front_opens}
use Rattle.sg_cost.proofs.Indexed.{divided, one_more}
use Rattle.sg_cost.specs.Costs.{all_lengths, boot_costs, opening}
use Rattle.sg_cost.specs.Inside.Pieces.{boot_cost}
use Rattle.sg_report.specs.Report.{replays_for}
use Rattle.sg_cost.specs.Inside.Fronts.{AreInRun, IsFront}
use Rattle.sg_cost.specs.Inside.LastBoots.{AreLastBoots, is_over}
use Rattle.sg_cost.specs.declared.costs.BootCost.{BootCost}
use Rattle.sg_facts.specs.Facts.{Facts}
use Rattle.sg_facts.specs.Trace.{Boot, Run}
use Rattle.sg_facts.specs.declared.entry.Entry.{Entry}
use Rattle.sg_facts.specs.declared.tables.WalkLine.{WalkLine}
use Rattle.sg_needs.specs.sg_track.Tracked.{Tracked}

abbrev told : ℕ → ℕ → BootCost
told walks bound = record { walks = walks; bound = bound }

-- what stands at a place of a mapped list
pub mapped_at : {A B : Type 0} (f : A → B) (xs : List A) (n : ℕ) (d : A) → slice_index_or (map f xs) n (f d) ≡ f (slice_index_or xs n d)
mapped_at f [] n d = refl
mapped_at f (x ∷ xs) zero d = refl
mapped_at f (x ∷ xs) (suc n) d = mapped_at f xs n d

module _ (facts : Facts) (walks : List WalkLine) (history : List Entry) (run : Run) (in_run : AreInRun facts history run) (kept : List ((ℕ × ℕ) × ℕ)) (lasts : AreLastBoots kept run.boots)
    (n : ℕ) (b : Boot) (at : n < length run.boots) (own : b ≡ slice_index_or run.boots n b) where
  abbrev before : List Boot
  before = take n run.boots

  abbrev later : List Boot
  later = drop (suc n) run.boots

  count : length before ≡ n
  count = length-take-le n run.boots (omega (arith, at))

  opens : (place : ℕ) (t : Tracked) → IsFront facts history place t → list_all (is_over kept n) (take place history) ≡ true → ((e : Entry) → slice_get history place ≡ Some e → is_over kept n e ≡ false)
      → (opening facts history before (b ∷ later)).rows ≡ t.rows
  opens place t front over next =
      ap (λ o. o.rows) (front_opens facts history run in_run before b later (divided run.boots n b at own) kept lasts place
      (subst (λ k. list_all (is_over kept k) (take place history) ≡ true) (sym count) over)
      (subst (λ k. (e : Entry) → slice_get history place ≡ Some e → is_over kept k e ≡ false) (sym count) next)) ∙ sym front.rows_of.rows

  rest : boot_costs facts walks history before (drop n run.boots) ≡ boot_cost facts walks history before b later ∷ boot_costs facts walks history (take (n + 1) run.boots) (drop (n + 1) run.boots)
  rest =
      let here : drop n run.boots ≡ b ∷ drop (n + 1) run.boots = drop_more run.boots n b at ∙ ap (λ x. x ∷ drop (n + 1) run.boots) (sym own) in
      let one : n + 1 ≡ suc n = omega arith in
      ap (boot_costs facts walks history before) here
      ∙ ap (λ l. boot_cost facts walks history before b (drop l run.boots) ∷ boot_costs facts walks history (before ++ b ∷ []) (drop (n + 1) run.boots)) one
      ∙ ap (λ l. boot_cost facts walks history before b later ∷ boot_costs facts walks history l (drop (n + 1) run.boots)) (sym (one_more run.boots n b at own))

  pub boot_more : (place : ℕ) (t : Tracked) → IsFront facts history place t → list_all (is_over kept n) (take place history) ≡ true → ((e : Entry) → slice_get history place ≡ Some e → is_over kept n e ≡ false)
      → (walked bound : ℕ) → walked ≡ replays_for (λ id. true) b.items → bound ≡ all_lengths walks t.rows → (costs new : List BootCost) → new ≡ costs ++ told walked bound ∷ []
      → costs ++ boot_costs facts walks history before (drop n run.boots) ≡ boot_costs facts walks history [] run.boots
      → new ++ boot_costs facts walks history (take (n + 1) run.boots) (drop (n + 1) run.boots) ≡ boot_costs facts walks history [] run.boots
  boot_more place t front over next walked bound walked_is bound_is costs new pushed all =
      let later_costs = boot_costs facts walks history (take (n + 1) run.boots) (drop (n + 1) run.boots) in
      let one : told walked bound ≡ boot_cost facts walks history before b later
      = ap (λ k. told k bound) walked_is ∙ ap (told (replays_for (λ id. true) b.items)) (bound_is ∙ ap (all_lengths walks) (sym (opens place t front over next))) in
      ap (λ l. l ++ later_costs) pushed ∙ append_assoc costs (told walked bound ∷ []) later_costs ∙ ap (λ c. costs ++ c ∷ later_costs) one ∙ ap (λ l. costs ++ l) (sym rest) ∙ all

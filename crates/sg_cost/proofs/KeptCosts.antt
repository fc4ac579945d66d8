-- What is kept of rows that were gone over, and what the next costs by it.
use Rattle.std.proofs.Common.{◌≡◌, ℕ, suc, ◌+◌, ◌<◌, ◌^◌, Bool, true, false, cond, ◌||◌, List, [], ◌∷◌, ◌++◌, Some, drop, map, max, refl, sym, ◌∙◌, ap, take, nat_cmp, arith}
use Rattle.std.specs.Prelude.{◌==◌}
use Rattle.std.specs.List.{list_any}
use Rattle.std.specs.Ordering.{ord_max}
use Rattle.std.proofs.lemmas.Bool.Decides.{nat_tests}
use Rattle.std.proofs.lemmas.List.{map-append}
use Rattle.std.proofs.lemmas.List.Folds.{list_any-append}
use Rattle.sg_cost.proofs.Indexed.{greatest_more}
use Rattle.sg_cost.proofs.LineCosts.{line_none, line_step, line_within, no_parent}
use Rattle.sg_cost.proofs.RowsAt.{RowHere}
use Rattle.sg_cost.specs.Costs.{all_lengths, greatest, walk_length}
use Rattle.sg_cost.specs.Inside.Pieces.{row_cost}
use Rattle.sg_cost.specs.Inside.Lines.{AreLineCosts, kept_cost, line_cost}
use Rattle.sg_cost.specs.declared.costs.RowCost.{RowCost}
use Rattle.sg_facts.proofs.Replaying.Found.{met, other_test, same_test}
use Rattle.sg_facts.specs.Track.{row_at}
use Rattle.sg_facts.specs.Inside.Rows.{parent_in}
use Rattle.sg_facts.specs.declared.row.Row.{Row}
use Rattle.sg_facts.specs.declared.tables.WalkLine.{WalkLine}
use Rattle.sg_needs.specs.sg_track.Tracked.{AreTracked, HasLowerParent}

abbrev told : ℕ → ℕ → RowCost
told id walk = record { id = id; walk = walk }

module _ (walks : List WalkLine) (given : ℕ) (rows : List Row) (are : AreTracked given rows) (n id : ℕ) (h : RowHere rows n id) where
  found : row_at rows id ≡ Some h.row
  found = ap (row_at rows) h.its ∙ h.there

  -- a row is told
  told_row : (walk : ℕ) → walk ≡ walk_length walks (row_at rows id) → told id walk ≡ row_cost walks h.row
  told_row walk is = ap (λ k. told k walk) h.its ∙ ap (told h.row.id) (is ∙ ap (walk_length walks) found)

  row_more : map (row_cost walks) (take (n + 1) rows) ≡ map (row_cost walks) (take n rows) ++ row_cost walks h.row ∷ []
  row_more = ap (map (row_cost walks)) h.more ∙ map-append (row_cost walks) (take n rows) (h.row ∷ [])

  pub told_more : (costs new : List RowCost) (walk : ℕ) → costs ≡ map (row_cost walks) (take n rows) → walk ≡ walk_length walks (row_at rows id) → new ≡ costs ++ told id walk ∷ [] → new ≡ map (row_cost walks) (take (n + 1) rows)
  told_more costs new walk are is pushed =
      pushed ∙ ap (λ l. l ++ told id walk ∷ []) are ∙ ap (λ x. map (row_cost walks) (take n rows) ++ x ∷ []) (told_row walk is) ∙ sym row_more

  module _ (kept : List (ℕ × ℕ)) (lines : AreLineCosts walks rows (map (λ r. r.id) (take n rows)) kept) (walk parent above : ℕ) (walk_is : walk ≡ walk_length walks (row_at rows id)) (parent_is : parent ≡ parent_in (row_at rows id))
      (above_is : above ≡ kept_cost kept parent) where
    below : parent < h.row.id
    below =
        let low : h.row.parent < h.row.id = met HasLowerParent 0 given h.row.id rows h.row are h.there in
        let its : parent ≡ h.row.parent = parent_is ∙ ap parent_in found in
        omega (arith, low, its)

    above_line : above ≡ line_cost walks rows parent
    above_line = above_is ∙ lines parent ∙ by (list_any (λ i. i == parent) (map (λ r. r.id) (take n rows))) refl
      where
        by : (b : Bool) → list_any (λ i. i == parent) (map (λ r. r.id) (take n rows)) ≡ b → cond b (line_cost walks rows parent) 0 ≡ line_cost walks rows parent
        by true is = refl
        by false is = sym (line_none walks given rows are parent (no_parent walks given rows are (take n rows) (drop (suc n) rows) h.row parent h.is below is))

    -- it costs the calls of its walk, and what its parent does
    pub costs_line : walk + above ≡ line_cost walks rows id
    costs_line =
        let step = line_step walks given rows are id in
        let line : above ≡ line_cost walks rows (parent_in (row_at rows id)) = above_line ∙ ap (line_cost walks rows) parent_is in
        omega (arith, step, walk_is, line)

    pub costs_fit : all_lengths walks rows < 2 ^ 64 → walk + above < 2 ^ 64
    costs_fit few =
        let line = costs_line in
        let most = line_within walks given rows are id in
        omega (arith, line, most, few)

    -- with it kept, what is kept is so of one row more
    pub kept_more : (new : List (ℕ × ℕ)) → ((q : ℕ) → kept_cost new q ≡ cond (q == id) (walk + above) (kept_cost kept q)) → AreLineCosts walks rows (map (λ r. r.id) (take (n + 1) rows)) new
    kept_more new keeps q = keeps q ∙ by (q == id) refl ∙ sym (ap (λ b. cond b (line_cost walks rows q) 0) more)
      where
        before : Bool
        before = list_any (λ i. i == q) (map (λ r. r.id) (take n rows))

        more : list_any (λ i. i == q) (map (λ r. r.id) (take (n + 1) rows)) ≡ (before || ((h.row.id == q) || false))
        more =
            ap (list_any (λ i. i == q)) (ap (map (λ r. r.id)) h.more ∙ map-append (λ r. r.id) (take n rows) (h.row ∷ []))
            ∙ list_any-append (λ i. i == q) (map (λ r. r.id) (take n rows)) (h.row.id ∷ [])

        or_true : (a : Bool) → (a || true) ≡ true
        or_true true = refl
        or_true false = refl

        or_false : (a : Bool) → (a || false) ≡ a
        or_false true = refl
        or_false false = refl

        by : (b : Bool) → (q == id) ≡ b → cond b (walk + above) (kept_cost kept q) ≡ cond (before || ((h.row.id == q) || false)) (line_cost walks rows q) 0
        by true is =
            let same : q ≡ id = grind (arith, nat_tests, is) in
            let own : (h.row.id == q) ≡ true = same_test h.row.id q (sym (same ∙ h.its)) in
            costs_line ∙ ap (line_cost walks rows) (sym same)
            ∙ sym (ap (λ a. cond (before || (a || false)) (line_cost walks rows q) 0) own ∙ ap (λ a. cond a (line_cost walks rows q) 0) (or_true before))
        by false is =
            let apart : (h.row.id == q) ≡ false = other_test h.row.id q (λ same. absurd (let both : true ≡ false = sym (same_test q id (sym (h.its ∙ same))) ∙ is in cc both)) in
            lines q
            ∙ sym (ap (λ a. cond (before || (a || false)) (line_cost walks rows q) 0) apart ∙ ap (λ a. cond a (line_cost walks rows q) 0) (or_false before))

    -- and the greatest is
    pub greatest_line : (most : ℕ) → most ≡ greatest (map (λ r. line_cost walks rows r.id) (take n rows)) → ord_max nat_cmp most (walk + above) ≡ greatest (map (λ r. line_cost walks rows r.id) (take (n + 1) rows))
    greatest_line most is =
        max_is most (walk + above)
        ∙ ap (λ m. max m (walk + above)) is
        ∙ ap (max (greatest (map (λ r. line_cost walks rows r.id) (take n rows)))) (costs_line ∙ ap (line_cost walks rows) h.its)
        ∙ sym (ap greatest (ap (map (λ r. line_cost walks rows r.id)) h.more ∙ map-append (λ r. line_cost walks rows r.id) (take n rows) (h.row ∷ []))
        ∙ greatest_more (map (λ r. line_cost walks rows r.id) (take n rows)) (line_cost walks rows h.row.id))
      where
        max_is : (a b : ℕ) → ord_max nat_cmp a b ≡ max a b
        max_is a b = grind (arith, nat_tests)

-- Rows stay tracked and counted when a row comes, is changed or ends.
use Rattle.std.proofs.Common.{◌≡◌, ℕ, ◌<◌, false, not, ◌&&◌, ◌||◌, List, [], ◌∷◌, ◌++◌, filter, get_or, refl, sym, ◌∙◌, ap, subst, arith}
use Rattle.std.specs.Prelude.{◌==◌, nat_eq}
use Rattle.std.specs.Map.{remove_entry, values_of}
use Rattle.std.proofs.Math.ListN.{set}
use Rattle.indexmap.specs.IndexMap.{set_value_at}
use Rattle.sg_facts.specs.declared.row.Row.{Row}
use Rattle.sg_facts.proofs.RowLists.{left, more}
use Rattle.sg_track.specs.declared.kept.Kept.{Kept}
use Rattle.sg_facts.specs.sg_base.Lists.{Each}
use Rattle.sg_track.specs.Kept.{AreKeyed, Counts, HasRow, children_of, ends_below, is_marked, more_at, others_of, rows_in, rows_of}
use Rattle.sg_track.specs.Tracked.{AreTracked, HasLowerParent}
use Rattle.sg_track.proofs.Counts.{children-changed, children-left, children-more, children-removed, counts_as, counts_beside, counts_left, each_more, more_other, no_children}
use Rattle.sg_track.proofs.Ends.{removed, rows-left}
use Rattle.sg_track.proofs.Entries.{counts-remove, keyed-filter, keyed-more, keyed-remove, keyed-set, values-filter, values-more, values-set}
use Rattle.sg_track.proofs.KeptLists.{are_changed, changed, rows-more}

-- rows are tracked, each with the number of its children
record AreCounted (given : ℕ) (kept : List Kept) : Type 0 where
  pub tracked : AreTracked given (rows_of kept)
  pub counted : Counts (children_of (rows_of kept)) kept

-- the same, each under its id
pub record AreKept (given : ℕ) (entries : List (ℕ × Kept)) : Type 0 where
  pub tracked : AreTracked given (rows_in entries)
  pub keyed : AreKeyed entries
  pub counted : Counts (children_of (rows_in entries)) (values_of entries)

under : (given : ℕ) (es : List (ℕ × Kept)) (kept : List Kept) → values_of es ≡ kept → AreCounted given kept → AreKeyed es → AreKept given es
under given es kept is are keyed =
    let those = subst (AreCounted given) (sym is) are in
    record { tracked = those.tracked; keyed = keyed; counted = those.counted }

-- ---- a row comes

counted_more : (given : ℕ) (kept counted : List Kept) (new : Kept) → AreTracked given (rows_of kept) → rows_of counted ≡ rows_of kept → Counts (more_at new.row.parent (children_of (rows_of kept))) counted
    → given < new.row.id → HasLowerParent new.row → new.children ≡ 0 → AreCounted new.row.id (counted ++ new ∷ [])
counted_more given kept counted new are same counts next lower none =
    let rows_is = rows-more counted new ∙ ap (λ rows. rows ++ new.row ∷ []) same in
    let tracked = more HasLowerParent 0 given (rows_of kept) new.row are (omega (arith, next)) next lower in
    let after : (id : ℕ) → more_at new.row.parent (children_of (rows_of kept)) id ≡ children_of (rows_of (counted ++ new ∷ [])) id
    = λ id. sym (children-more (rows_of kept) new.row id) ∙ ap (λ rows. children_of rows id) (sym rows_is) in
    let alone = none ∙ sym (no_children 0 given new.row.id (rows_of kept) are next) ∙ more_other (children_of (rows_of kept)) new.row.parent new.row.id (λ is. absurd (omega (arith, is, lower))) in
    record {
      tracked = subst (AreTracked new.row.id) (sym rows_is) tracked;
      counted = each_more (λ k. k.children ≡ children_of (rows_of (counted ++ new ∷ [])) k.row.id) counted new
          (counts_as HasLowerParent 0 given (more_at new.row.parent (children_of (rows_of kept))) (children_of (rows_of (counted ++ new ∷ []))) counted
          (subst (AreTracked given) (sym same) are) (λ id some. after id) counts)
          (alone ∙ after new.row.id);
    }

-- a row comes, and was counted with its parent
pub kept_more : (given : ℕ) (es counted : List (ℕ × Kept)) (new : Kept) → AreTracked given (rows_in es) → rows_in counted ≡ rows_in es → AreKeyed counted
    → Counts (more_at new.row.parent (children_of (rows_in es))) (values_of counted)
    → given < new.row.id → HasLowerParent new.row → new.children ≡ 0 → AreKept new.row.id (counted ++ (new.row.id, new) ∷ [])
kept_more given es counted new are same keyed counts next lower none =
    under new.row.id (counted ++ (new.row.id, new) ∷ []) (values_of counted ++ new ∷ []) (values-more counted (new.row.id, new))
    (counted_more given (values_of es) (values_of counted) new are same counts next lower none)
    (keyed-more counted (new.row.id, new) refl keyed)

-- ---- a row is changed

counted_changed : (change : Row → Row) (id : ℕ) → ((r : Row) → (change r).id ≡ r.id) → ((r : Row) → (change r).parent ≡ r.parent)
    → (given : ℕ) (kept : List Kept) (n : ℕ) (new k : Kept) → AreTracked given (rows_of kept) → Counts (children_of (rows_of kept)) kept → HasRow kept n id → k ≡ get_or kept n k
    → new.row ≡ change k.row → new.children ≡ k.children → AreCounted given (set kept n new)
counted_changed change id same_id same_parent given kept n new k are counts has is made count =
    let rows_is = changed HasLowerParent change id given kept n new k k are has is made in
    let tracked = subst (AreTracked given) (sym rows_is) (are_changed change id same_id same_parent 0 given (rows_of kept) are) in
    record {
      tracked = tracked;
      counted = counts_as HasLowerParent 0 given (children_of (rows_of kept)) (children_of (rows_of (set kept n new))) (set kept n new) tracked
          (λ other some. sym (ap (λ rows. children_of rows other) rows_is ∙ children-changed change id same_parent (rows_of kept) other))
          (counts_beside (children_of (rows_of kept)) kept n new k (ap (λ r. r.id) made ∙ same_id k.row ∙ ap (λ x. x.row.id) is) (count ∙ ap (λ x. x.children) is) counts);
    }

-- a row is changed at its place, under its id and its parent
pub kept_changed : (change : Row → Row) (id : ℕ) → ((r : Row) → (change r).id ≡ r.id) → ((r : Row) → (change r).parent ≡ r.parent)
    → (given : ℕ) (es : List (ℕ × Kept)) (n : ℕ) (new k : Kept) → AreKept given es → HasRow (values_of es) n id → k ≡ get_or (values_of es) n k
    → new.row ≡ change k.row → new.children ≡ k.children → AreKept given (set_value_at es n new)
kept_changed change id same_id same_parent given es n new k are has is made count =
    under given (set_value_at es n new) (set (values_of es) n new) (values-set es n new)
    (counted_changed change id same_id same_parent given (values_of es) n new k are.tracked are.counted has is made count)
    (keyed-set es n new k (ap (λ r. r.id) made ∙ same_id k.row ∙ ap (λ x. x.row.id) is) are.keyed)

-- ---- rows end

counted_below : (given id : ℕ) (rows : List Row) (kept : List Kept) → AreTracked given rows → rows_of kept ≡ rows → Each (λ k. is_marked id k ≡ ends_below rows id k.row.id) kept
    → Counts (others_of id rows) kept → AreCounted given (filter (λ k. not (is_marked id k)) kept)
counted_below given id rows kept are same ends counts =
    let rows_is = rows-left (is_marked id) (ends_below rows id) kept ends ∙ ap (filter (λ r. not (ends_below rows id r.id))) same in
    record {
      tracked = subst (AreTracked given) (sym rows_is) (left HasLowerParent (λ r. not (ends_below rows id r.id)) 0 given rows are);
      counted = counts_left (is_marked id) (others_of id rows) (children_of (rows_of (filter (λ k. not (is_marked id k)) kept))) (ends_below rows id) 0 given kept
          (subst (AreTracked given) (sym same) are) ends
          (λ other some stays. children-left given id other rows are some stays ∙ ap (λ l. children_of l other) (sym rows_is)) counts;
    }

-- an id ends with all below it, and was taken out of its parent's count
pub kept_below : (given id : ℕ) (rows : List Row) (es : List (ℕ × Kept)) → AreTracked given rows → rows_in es ≡ rows → AreKeyed es
    → Each (λ k. is_marked id k ≡ ends_below rows id k.row.id) (values_of es) → Counts (others_of id rows) (values_of es) → AreKept given (filter (λ e. not (is_marked id e.1)) es)
kept_below given id rows es are same keyed ends counts =
    under given (filter (λ e. not (is_marked id e.1)) es) (filter (λ k. not (is_marked id k)) (values_of es)) (values-filter (λ k. not (is_marked id k)) es)
    (counted_below given id rows (values_of es) are same ends counts)
    (keyed-filter (λ e. not (is_marked id e.1)) es keyed)

-- an id ends alone, and was taken out of its parent's count
pub kept_removed : (given id : ℕ) (rows : List Row) (es : List (ℕ × Kept)) → AreTracked given rows → rows_in es ≡ rows → AreKeyed es
    → Counts (others_of id rows) (values_of es) → AreKept given (remove_entry (nat_eq id) es)
kept_removed given id rows es are same keyed counts =
    let are_too = subst (AreTracked given) (sym same) are in
    let rows_is = removed id (λ r. false) 0 given es are_too keyed ∙ ap (filter (λ r. not ((r.id == id) || (false && false)))) same in
    let tracked = subst (AreTracked given) (sym rows_is) (left HasLowerParent (λ r. not ((r.id == id) || (false && false))) 0 given rows are) in
    record {
      tracked = tracked;
      keyed = keyed-remove (nat_eq id) es keyed;
      counted = counts_as HasLowerParent 0 given (others_of id rows) (children_of (rows_in (remove_entry (nat_eq id) es))) (values_of (remove_entry (nat_eq id) es)) tracked
          (λ other some. children-removed given id other (λ r. false) rows are ∙ ap (λ l. children_of l other) (sym rows_is))
          (counts-remove (others_of id rows) (nat_eq id) es counts);
    }

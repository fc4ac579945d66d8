-- Which kept rows end with an id, and what is left of the rest.
use Rattle.std.proofs.Common.{◌≡◌, ℕ, zero, suc, ◌+◌, ◌<◌, ◌≤◌, Bool, true, false, cond, not, ◌&&◌, ◌||◌, List, [], ◌∷◌, None, Some, length, filter, get_or, take, refl, sym, ◌∙◌, ap, inl, inr, arith}
use Rattle.std.specs.Prelude.{◌==◌, nat_eq, nat_le}
use Rattle.std.specs.Map.{remove_entry}
use Rattle.std.proofs.Math.ListN.{set}
use Rattle.std.proofs.lemmas.Bool.{cases_lt}
use Rattle.std.proofs.lemmas.Bool.Decides.{eqb_tells, nat_tests}
use Rattle.std.proofs.lemmas.List.Elements.{filter_agree}
use Rattle.std.proofs.lemmas.List.{get_or-set_other, get_or-set_same}
use Rattle.sg_facts.specs.declared.row.Row.{Row}
use Rattle.sg_facts.specs.Sound.{AreRows}
use Rattle.sg_facts.specs.Track.{is_ancestor, row_at}
use Rattle.sg_facts.specs.Inside.Rows.{has_child}
use Rattle.sg_facts.proofs.RowLists.{id_of_row}
use Rattle.sg_track.specs.declared.kept.Kept.{Kept}
use Rattle.sg_facts.specs.sg_base.Lists.{Each}
use Rattle.sg_track.specs.Kept.{AreKeyed, HasRow, IsTold, TellsAt, ends_below, is_marked, rows_in, rows_of}
use Rattle.sg_track.specs.Tracked.{HasLowerParent}
use Rattle.sg_track.proofs.Above.{childless, ends_child, ends_itself, ends_lower, ends_nowhere, ends_root}
use Rattle.sg_track.proofs.Ascending.{found, later, other_test, same_test}
use Rattle.sg_track.proofs.Counts.{rows_same}
use Rattle.sg_track.proofs.KeptLists.{read, row_read}

-- ---- marks

-- the mark of an id's own row counts, and of those after it
mark_of : (id : ℕ) (k : Kept) → id ≤ k.row.id → is_marked id k ≡ k.ends
mark_of id k from = let test : nat_le id k.row.id ≡ true = grind (arith, nat_tests, from) in ap (λ b. b && k.ends) test

-- no mark of a row before it does
no_mark : (id : ℕ) (k : Kept) → k.row.id < id → is_marked id k ≡ false
no_mark id k less = let test : nat_le id k.row.id ≡ false = grind (arith, nat_tests, less) in ap (λ b. b && k.ends) test

-- a row among the first has a smaller id where each of them has
at_lower : (id : ℕ) (kept : List Kept) (from n : ℕ) (d : Kept) → Each (λ r. r.id < id) (take from (rows_of kept)) → n < from → n < length kept → (get_or kept n d).row.id < id
at_lower id [] from n d before less within = absurd (omega arith)
at_lower id (k ∷ kept) zero n d before less within = absurd (omega arith)
at_lower id (k ∷ kept) (suc from) zero d before less within = before.0
at_lower id (k ∷ kept) (suc from) (suc n) d before less within = at_lower id kept from n d before.1 (omega (arith, less)) (omega (arith, within))

-- ---- what is told of a row

module _ (high : ℕ) (kept : List Kept) (are : AreRows HasLowerParent 0 high (rows_of kept)) (at id : ℕ) (within : at < length kept) (r : Row) (is : (d : Kept) → r ≡ (get_or kept at d).row)
    (differs : r.id ≡ id → ⊥) where
  other : (r.id == id) ≡ false
  other = other_test r.id id differs

  -- the row is that of its id
  at_its_id : (k : Kept) → row_at (rows_of kept) r.id ≡ Some r
  at_its_id k =
      found HasLowerParent 0 high r.id kept at k are within (ap (λ x. x.id) (sym (is k)))
      ∙ read kept at k within ∙ ap (λ x. Some x) (sym (is k))

  ends_as : (b : Bool) → (Kept → b ≡ ends_below (rows_of kept) id r.id) → TellsAt id kept at b
  ends_as b told d = told d ∙ ap (λ x. ends_below (rows_of kept) id x.id) (is d)

  pub tells_root : r.parent ≡ 0 → TellsAt id kept at false
  tells_root root = ends_as false (λ k. sym (ends_root 0 high (rows_of kept) are id r (at_its_id k) other (same_test r.parent 0 root)))

  pub tells_child : (r.parent ≡ 0 → ⊥) → r.parent ≡ id → TellsAt id kept at true
  tells_child child same = ends_as true (λ k. sym (ends_child 0 high (rows_of kept) are id r (at_its_id k) other (other_test r.parent 0 child) ∙ ends_itself 0 high (rows_of kept) are id r.parent (same_test r.parent id same)))

  pub tells_earlier : (r.parent ≡ 0 → ⊥) → r.parent < id → TellsAt id kept at false
  tells_earlier child less = ends_as false (λ k. sym (ends_child 0 high (rows_of kept) are id r (at_its_id k) other (other_test r.parent 0 child) ∙ ends_lower id 0 high (rows_of kept) are r.parent less))

  pub tells_orphan : (r.parent ≡ 0 → ⊥) → (r.parent ≡ id → ⊥) → row_at (rows_of kept) r.parent ≡ None → TellsAt id kept at false
  tells_orphan child apart none =
      ends_as false (λ k. sym (ends_child 0 high (rows_of kept) are id r (at_its_id k) other (other_test r.parent 0 child) ∙ ends_nowhere 0 high (rows_of kept) are id r.parent none (other_test r.parent id apart)))

  pub tells_below : (r.parent ≡ 0 → ⊥) → (place : ℕ) (k : Kept) → HasRow kept place r.parent → k ≡ get_or kept place k → r.parent < r.id → id < r.parent
      → ((n : ℕ) → n < at → IsTold id kept n) → TellsAt id kept at k.ends
  tells_below child place k has read_is lower later_parent before =
      let its = id_of_row (rows_of kept) r.parent k.row (row_read kept place r.parent k k has read_is) in
      let first : place < at = elim (cases_lt place at) [
        | inl less ↦ less
        | inr more ↦ elim (eqb_tells place at) [
          | inl same ↦
              let one : k.row ≡ r = ap (λ x. x.row) read_is ∙ ap (λ n. (get_or kept n k).row) same.1 ∙ sym (is k) in
              let ids : k.row.id ≡ r.id = ap (λ x. x.id) one in
              absurd (omega (arith, its, ids, lower))
          | inr apart ↦
              let after = later HasLowerParent 0 high kept at place k are (omega (arith, more, apart.1)) has.within in
              let ids : (get_or kept at k).row.id ≡ r.id = ap (λ x. x.id) (sym (is k)) in
              let ids_too : k.row.id ≡ (get_or kept place k).row.id = ap (λ x. x.row.id) read_is in
              absurd (omega (arith, after, its, ids, ids_too, lower))
        ]
      ] in
      ends_as k.ends (λ d. sym (mark_of id k (omega (arith, its, later_parent))) ∙ ap (is_marked id) read_is ∙ before place first k ∙ ap (λ x. ends_below (rows_of kept) id x.row.id) (sym read_is)
      ∙ ap (ends_below (rows_of kept) id) its ∙ sym (ends_child 0 high (rows_of kept) are id r (at_its_id d) other (other_test r.parent 0 child)))

-- a row is above its parent
pub lower_at : (low high : ℕ) (kept : List Kept) (n : ℕ) (d : Kept) → AreRows HasLowerParent low high (rows_of kept) → n < length kept → (get_or kept n d).row.parent < (get_or kept n d).row.id
lower_at low high [] n d are within = absurd (omega arith)
lower_at low high (k ∷ kept) zero d are within = are.2
lower_at low high (k ∷ kept) (suc n) d are within = lower_at k.row.id high kept n d are.3 (omega arith)

-- ---- what is told of each row

-- rows before the id's place end with others
pub told_before : (high id : ℕ) (kept : List Kept) → AreRows HasLowerParent 0 high (rows_of kept) → (from : ℕ) → from ≤ length kept → Each (λ r. r.id < id) (take from (rows_of kept))
    → (n : ℕ) → n < from → IsTold id kept n
told_before high id kept are from within before n less d =
    let lower = at_lower id kept from n d before less (omega (arith, less, within)) in
    no_mark id (get_or kept n d) lower ∙ sym (ends_lower id 0 high (rows_of kept) are (get_or kept n d).row.id lower)

-- one more row is told
pub told_more : (high id : ℕ) (kept : List Kept) → AreRows HasLowerParent 0 high (rows_of kept) → (at : ℕ) (new k : Kept) → at < length kept → k ≡ get_or kept at k → new.row ≡ k.row
    → TellsAt id kept at new.ends → ((n : ℕ) → n < at → IsTold id kept n) → (n : ℕ) → n < at + 1 → IsTold id (set kept at new) n
told_more high id kept are at new k within is same tells before n less e = elim (eqb_tells n at) [
  | inl here ↦
      let there = get_or-set_same kept at new e within in
      ap (λ i. is_marked id (get_or changed i e)) here.1 ∙ ap (is_marked id) there ∙ counts (nat_le id new.row.id) refl ∙ tells k
      ∙ ap (λ rows. ends_below rows id (get_or kept at k).row.id) (sym rows_is)
      ∙ ap (λ x. ends_below (rows_of changed) id x.row.id) (sym is) ∙ ap (λ r. ends_below (rows_of changed) id r.id) (sym same)
      ∙ ap (λ x. ends_below (rows_of changed) id x.row.id) (sym there) ∙ ap (λ i. ends_below (rows_of changed) id (get_or changed i e).row.id) (sym here.1)
  | inr other ↦
      let there = get_or-set_other kept at n new e other.1 in
      ap (is_marked id) there ∙ before n (omega (arith, less, other.1)) e
      ∙ ap (λ rows. ends_below rows id (get_or kept n e).row.id) (sym rows_is) ∙ ap (λ x. ends_below (rows_of changed) id x.row.id) (sym there)
]
  where
    changed : List Kept
    changed = set kept at new

    rows_is : rows_of changed ≡ rows_of kept
    rows_is = rows_same kept at new k (same ∙ ap (λ x. x.row) is)

    -- a row that was made before the id's isn't told to end
    counts : (b : Bool) → nat_le id new.row.id ≡ b → (b && new.ends) ≡ new.ends
    counts true from = refl
    counts false from =
        let ids : (get_or kept at k).row.id ≡ new.row.id = ap (λ x. x.row.id) (sym is) ∙ ap (λ r. r.id) (sym same) in
        let less : new.row.id < id = grind (arith, nat_tests, from) in
        sym (tells k ∙ ap (ends_below (rows_of kept) id) ids ∙ ends_lower id 0 high (rows_of kept) are new.row.id less)

-- each is told
pub told_each : (mark : Kept → Bool) (test : ℕ → Bool) (kept : List Kept) → ((n : ℕ) → n < length kept → (d : Kept) → mark (get_or kept n d) ≡ test (get_or kept n d).row.id)
    → Each (λ k. mark k ≡ test k.row.id) kept
told_each mark test [] told = tt
told_each mark test (k ∷ kept) told = (told zero (omega arith) k, told_each mark test kept (λ n within d. told (suc n) (omega (arith, within)) d))

-- ---- what is left

-- an id without children ends alone
pub ends_alone : (id : ℕ) (rows some : List Row) → has_child rows id ≡ false
    → filter (λ r. not ((r.id == id) || (false && is_ancestor rows id r.id))) some ≡ filter (λ r. not (ends_below rows id r.id)) some
ends_alone id rows some none =
    filter_agree _ (λ r. not (ends_below rows id r.id)) (λ r. ap (λ b. not ((r.id == id) || b)) (sym (childless id rows r.id none))) some

-- those that are marked go
pub rows-left : (mark : Kept → Bool) (test : ℕ → Bool) (kept : List Kept) → Each (λ k. mark k ≡ test k.row.id) kept
    → rows_of (filter (λ k. not (mark k)) kept) ≡ filter (λ r. not (test r.id)) (rows_of kept)
rows-left mark test [] told = refl
rows-left mark test (k ∷ kept) told = at (mark k) (rows-left mark test kept told.1) ∙ ap (λ b. cond (not b) (k.row ∷ filter (λ r. not (test r.id)) (rows_of kept)) (filter (λ r. not (test r.id)) (rows_of kept))) told.0
  where
    at : (b : Bool) → rows_of (filter (λ x. not (mark x)) kept) ≡ filter (λ r. not (test r.id)) (rows_of kept)
        → rows_of (cond (not b) (k ∷ filter (λ x. not (mark x)) kept) (filter (λ x. not (mark x)) kept)) ≡ cond (not b) (k.row ∷ filter (λ r. not (test r.id)) (rows_of kept)) (filter (λ r. not (test r.id)) (rows_of kept))
    at true rest = rest
    at false rest = ap (λ l. k.row ∷ l) rest

module _ (id : ℕ) where
  -- a row is told apart
  left_one : (test : Row → Bool) (r : Row) (rows : List Row) (b : Bool) → (r.id == id) ≡ b
      → filter (λ x. not ((x.id == id) || (false && test x))) (r ∷ rows)
      ≡ cond b (filter (λ x. not ((x.id == id) || (false && test x))) rows) (r ∷ filter (λ x. not ((x.id == id) || (false && test x))) rows)
  left_one test r rows b is = ap (λ t. cond (not (t || false)) (r ∷ rest) rest) is ∙ at b
    where
      rest : List Row
      rest = filter (λ x. not ((x.id == id) || (false && test x))) rows

      at : (b : Bool) → cond (not (b || false)) (r ∷ rest) rest ≡ cond b rest (r ∷ rest)
      at true = refl
      at false = refl

  -- rows above the id stay
  left_above : (test : Row → Bool) (low high : ℕ) (rows : List Row) → id ≤ low → AreRows HasLowerParent low high rows → rows ≡ filter (λ x. not ((x.id == id) || (false && test x))) rows
  left_above test low high [] le are = refl
  left_above test low high (r ∷ rows) le are =
      let apart : (r.id == id) ≡ false = grind (arith, nat_tests, are.0) in
      ap (λ l. r ∷ l) (left_above test r.id high rows (omega (arith, are.0)) are.3) ∙ sym (left_one test r rows false apart)

  -- the row under the id goes, if there is one
  pub removed : (test : Row → Bool) (low high : ℕ) (es : List (ℕ × Kept)) → AreRows HasLowerParent low high (rows_in es) → AreKeyed es
      → rows_in (remove_entry (nat_eq id) es) ≡ filter (λ x. not ((x.id == id) || (false && test x))) (rows_in es)
  removed test low high [] are keyed = refl
  removed test low high (e ∷ es) are keyed = elim (eqb_tells e.1.row.id id) [
    | inl same ↦
        ap (λ b. rows_in (cond b es (e ∷ remove_entry (nat_eq id) es))) (same_test id e.0 (sym (keyed.0 ∙ same.1)))
        ∙ left_above test e.1.row.id high (rows_in es) (omega (arith, same.1)) are.3
        ∙ sym (left_one test e.1.row (rows_in es) true same.0)
    | inr apart ↦
        ap (λ b. rows_in (cond b es (e ∷ remove_entry (nat_eq id) es))) (other_test id e.0 (λ is. apart.1 (sym (is ∙ keyed.0))))
        ∙ ap (λ l. e.1.row ∷ l) (removed test e.1.row.id high es are.3 keyed.1)
        ∙ sym (left_one test e.1.row (rows_in es) false apart.0)
  ]

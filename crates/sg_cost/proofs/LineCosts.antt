-- What a row costs with its ancestors: the calls of its walk, and what its parent costs.
use Rattle.std.proofs.Common.{◌≡◌, ℕ, ◌+◌, ◌<◌, ◌≤◌, Bool, true, false, cond, ◌||◌, List, [], ◌∷◌, ◌++◌, None, Some, filter, is_some, map, refl, sym, ◌∙◌, ap, subst, arith}
use Rattle.std.specs.Prelude.{◌==◌, reverse}
use Rattle.std.specs.List.{list_any}
use Rattle.std.specs.declared.option.Option.{Option}
use Rattle.std.proofs.lemmas.Bool.Decides.{nat_tests}
use Rattle.std.proofs.lemmas.List.{reverse-append}
use Rattle.sg_cost.specs.Costs.{all_lengths, walk_length}
use Rattle.sg_cost.specs.Inside.Lines.{line_cost}
use Rattle.sg_facts.proofs.Replaying.Found.{all_found, other_test}
use Rattle.sg_facts.proofs.RowLists.{left}
use Rattle.sg_facts.specs.Sound.{AreRows}
use Rattle.sg_facts.specs.Track.{ancestors, is_ancestor, is_live, row_at}
use Rattle.sg_facts.specs.Inside.Rows.{parent_in}
use Rattle.sg_facts.specs.declared.row.Row.{Row}
use Rattle.sg_facts.specs.declared.tables.WalkLine.{WalkLine}
use Rattle.sg_facts.specs.sg_base.Lists.{Each}
use Rattle.sg_needs.proofs.Lines.{line_needed}
use Rattle.sg_needs.specs.Inside.Lines.{line_to}
use Rattle.sg_needs.specs.sg_track.Tracked.{AreTracked, HasLowerParent}
use Rattle.sg_world_laws.proofs.sg_recovery_laws.sg_track.Above.{from_parent, up_from}
use Rattle.sg_world_laws.proofs.sg_recovery_laws.sg_track.KeptLists.{live_if}

-- the calls of the walks of ids
abbrev sum_at : List WalkLine → List Row → List ℕ → ℕ
sum_at walks rows [] = 0
sum_at walks rows (id ∷ ids) = walk_length walks (row_at rows id) + sum_at walks rows ids

sum_append : (walks : List WalkLine) (rows : List Row) (xs ys : List ℕ) → sum_at walks rows (xs ++ ys) ≡ sum_at walks rows xs + sum_at walks rows ys
sum_append walks rows [] ys = omega arith
sum_append walks rows (x ∷ xs) ys = let rest = sum_append walks rows xs ys in omega (arith, rest)

sum_reverse : (walks : List WalkLine) (rows : List Row) (ids : List ℕ) → sum_at walks rows (reverse ids) ≡ sum_at walks rows ids
sum_reverse walks rows [] = refl
sum_reverse walks rows (id ∷ ids) =
    let turned = ap (sum_at walks rows) (reverse-append (id ∷ []) ids) in
    let two = sum_append walks rows (reverse ids) (id ∷ []) in
    let rest = sum_reverse walks rows ids in
    omega (arith, turned, two, rest)

none_of : (found : Option Row) → is_some found ≡ false → found ≡ None
none_of None is = refl
none_of (Some r) is = absurd (cc is)

sum_live : (walks : List WalkLine) (rows : List Row) (ids : List ℕ) → sum_at walks rows (filter (is_live rows) ids) ≡ sum_at walks rows ids
sum_live walks rows [] = refl
sum_live walks rows (id ∷ ids) = by (is_live rows id) refl (sum_live walks rows ids)
  where
    by : (b : Bool) → is_live rows id ≡ b → sum_at walks rows (filter (is_live rows) ids) ≡ sum_at walks rows ids
        → sum_at walks rows (cond b (id ∷ filter (is_live rows) ids) (filter (is_live rows) ids)) ≡ walk_length walks (row_at rows id) + sum_at walks rows ids
    by true is rest = ap (λ n. walk_length walks (row_at rows id) + n) rest
    by false is rest =
        let none : walk_length walks (row_at rows id) ≡ 0 = ap (walk_length walks) (none_of (row_at rows id) (live_if rows id ∙ is)) in
        omega (arith, rest, none)

-- ---- rows found by their ids

-- each row is that of its id
pub own_rows : (low high : ℕ) (rows : List Row) → AreRows HasLowerParent low high rows → AreRows (λ r. row_at rows r.id ≡ Some r) low high rows
own_rows low high rows are = all_found HasLowerParent (λ r. row_at rows r.id ≡ Some r) low high rows are (λ r there. there)

pub each_of : (P : Row → Type 0) (low high : ℕ) (rows : List Row) → AreRows P low high rows → Each P rows
each_of P low high [] are = tt
each_of P low high (r ∷ rows) are = (are.2, each_of P r.id high rows are.3)

sum_of : (walks : List WalkLine) (all : List Row) (low high : ℕ) (rows : List Row) → AreRows (λ r. row_at all r.id ≡ Some r) low high rows → all_lengths walks rows ≡ sum_at walks all (map (λ r. r.id) rows)
sum_of walks all low high [] are = refl
sum_of walks all low high (r ∷ rows) are =
    let own : walk_length walks (Some r) ≡ walk_length walks (row_at all r.id) = ap (walk_length walks) (sym are.2) in
    let rest = sum_of walks all r.id high rows are.3 in
    omega (arith, own, rest)

-- below the first id there is no row
below_none : (P : Row → Type 0) (low high id : ℕ) (rows : List Row) → AreRows P low high rows → id ≤ low → row_at rows id ≡ None
below_none P low high id [] are less = refl
below_none P low high id (r ∷ rows) are less =
    let apart : (r.id == id) ≡ false = other_test r.id id (λ same. let above = are.0 in absurd (omega (arith, same, less, above))) in
    let rest : id ≤ r.id = let above = are.0 in omega (arith, less, above) in
    ap (λ b. cond b (Some r) (row_at rows id)) apart ∙ below_none P r.id high id rows are.3 rest

-- ---- lines

module _ (walks : List WalkLine) (given : ℕ) (rows : List Row) (are : AreTracked given rows) where
  line_is : (id : ℕ) → line_cost walks rows id ≡ walk_length walks (row_at rows id) + sum_at walks rows (ancestors rows id)
  line_is id =
      sum_of walks rows 0 given (filter (λ r. (r.id == id) || is_ancestor rows r.id id) rows)
      (left (λ r. row_at rows r.id ≡ Some r) (λ r. (r.id == id) || is_ancestor rows r.id id) 0 given rows (own_rows 0 given rows are))
      ∙ ap (sum_at walks rows) (sym (line_needed given rows id are))
      ∙ sum_live walks rows (line_to rows id) ∙ sum_reverse walks rows (id ∷ ancestors rows id)

  nothing_at : row_at rows 0 ≡ None
  nothing_at = below_none HasLowerParent 0 given 0 rows are (omega arith)

  -- without a row nothing is added up
  pub line_none : (id : ℕ) → row_at rows id ≡ None → line_cost walks rows id ≡ 0
  line_none id none =
      let above : ancestors rows id ≡ [] = from_parent 0 given id rows are ∙ ap (λ found. up_from rows (parent_in found)) none in
      let walk : walk_length walks (row_at rows id) ≡ 0 = ap (walk_length walks) none in
      let rest : sum_at walks rows (ancestors rows id) ≡ 0 = ap (sum_at walks rows) above in
      let all = line_is id in
      omega (arith, walk, rest, all)

  pub line_zero : line_cost walks rows 0 ≡ 0
  line_zero = line_none 0 nothing_at

  -- the calls of a row's walk, and what its parent costs
  pub line_step : (id : ℕ) → line_cost walks rows id ≡ walk_length walks (row_at rows id) + line_cost walks rows (parent_in (row_at rows id))
  line_step id =
      line_is id ∙ ap (λ n. walk_length walks (row_at rows id) + n) (ap (sum_at walks rows) (from_parent 0 given id rows are) ∙ by (parent_in (row_at rows id) == 0) refl)
    where
      p : ℕ
      p = parent_in (row_at rows id)

      by : (b : Bool) → (p == 0) ≡ b → sum_at walks rows (cond b [] (p ∷ ancestors rows p)) ≡ line_cost walks rows p
      by true is = let zero_is : p ≡ 0 = grind (arith, nat_tests, is) in sym (ap (line_cost walks rows) zero_is ∙ line_zero)
      by false is = sym (line_is p)

  -- a part of all rows costs no more than all
  pub line_within : (id : ℕ) → line_cost walks rows id ≤ all_lengths walks rows
  line_within id = part (λ r. (r.id == id) || is_ancestor rows r.id id) rows
    where
      part : (test : Row → Bool) (rs : List Row) → all_lengths walks (filter test rs) ≤ all_lengths walks rs
      part test [] = omega arith
      part test (r ∷ rs) = by (test r) (part test rs)
        where
          by : (b : Bool) → all_lengths walks (filter test rs) ≤ all_lengths walks rs → all_lengths walks (cond b (r ∷ filter test rs) (filter test rs)) ≤ all_lengths walks (r ∷ rs)
          by true rest = omega (arith, rest)
          by false rest = omega (arith, rest)

  -- a parent that isn't among the rows before isn't live
  pub no_parent : (before later : List Row) (r : Row) (id : ℕ) → rows ≡ before ++ r ∷ later → id < r.id → list_any (λ i. i == id) (map (λ x. x.id) before) ≡ false → row_at rows id ≡ None
  no_parent before later r id is less none = ap (λ l. row_at l id) is ∙ along 0 before (subst (AreTracked given) is are) none
    where
      along : (low : ℕ) (xs : List Row) → AreRows HasLowerParent low given (xs ++ r ∷ later) → list_any (λ i. i == id) (map (λ x. x.id) xs) ≡ false → row_at (xs ++ r ∷ later) id ≡ None
      along low [] all none =
          let apart : (r.id == id) ≡ false = other_test r.id id (λ same. absurd (omega (arith, same, less))) in
          ap (λ b. cond b (Some r) (row_at later id)) apart ∙ below_none HasLowerParent r.id given id later all.3 (omega (arith, less))
      along low (x ∷ xs) all none = by (x.id == id) none (along x.id xs all.3)
        where
          by : (b : Bool) → (b || list_any (λ i. i == id) (map (λ y. y.id) xs)) ≡ false → (list_any (λ i. i == id) (map (λ y. y.id) xs) ≡ false → row_at (xs ++ r ∷ later) id ≡ None)
              → cond b (Some x) (row_at (xs ++ r ∷ later) id) ≡ None
          by true none rest = absurd (cc none)
          by false none rest = rest none

-- Lists of kept rows.
use Rattle.std.proofs.Common.{◌≡◌, ℕ, zero, suc, ◌<◌, ◌≤◌, Bool, true, false, cond, ◌||◌, List, [], ◌∷◌, ◌++◌, None, Some, is_some, length, map, get_or, refl, sym, ◌∙◌, ap, arith}
use Rattle.std.specs.Prelude.{◌==◌, if◌then◌else◌, slice_get}
use Rattle.std.specs.List.{list_any}
use Rattle.std.proofs.Math.ListN.{set}
use Rattle.std.proofs.lemmas.Bool.Decides.{nat_tests}
use Rattle.sg_facts.specs.declared.row.Row.{Row}
use Rattle.sg_facts.specs.Sound.{AreRows}
use Rattle.sg_facts.specs.sg_base.declared.call.Call.{Call}
use Rattle.sg_facts.specs.sg_base.declared.reply.Good.{Good}
use Rattle.sg_facts.specs.Facts.{Facts, fun_at, takes_parent}
use Rattle.sg_facts.specs.Track.{is_live, new_row, row_at}
use Rattle.sg_facts.specs.Inside.Rows.{has_child}
use Rattle.sg_track.specs.Tracked.{AreTracked, HasLowerParent, HasPlace, Tracked}
use Rattle.sg_facts.proofs.RowLists.{changed as keep_changed, id_of_row}
use Rattle.sg_track.specs.declared.kept.Kept.{Kept}
use Rattle.sg_track.specs.Kept.{HasRow, rows_of}
use Rattle.sg_track.proofs.Ascending.{above}

pub read : (kept : List Kept) (n : ℕ) (d : Kept) → n < length kept → slice_get (rows_of kept) n ≡ Some (get_or kept n d).row
read [] n d within = absurd (omega arith)
read (k ∷ kept) zero d within = refl
read (k ∷ kept) (suc n) d within = read kept n d (omega arith)

-- the row of an id, read at its place
pub row_read : (kept : List Kept) (n id : ℕ) (k d : Kept) → HasRow kept n id → k ≡ get_or kept n d → row_at (rows_of kept) id ≡ Some k.row
row_read kept n id k d has is = has.there ∙ read kept n d has.within ∙ ap (λ x. Some x.row) (sym is)

pub rows-more : (kept : List Kept) (k : Kept) → rows_of (kept ++ k ∷ []) ≡ rows_of kept ++ k.row ∷ []
rows-more [] k = refl
rows-more (x ∷ kept) k = ap (λ rows. x.row ∷ rows) (rows-more kept k)

-- ---- one row is changed

module _ (P : Row → Type 0) (change : Row → Row) (id : ℕ) where
  -- rows above the id stay
  stay : (low high : ℕ) (rows : List Row) → id ≤ low → AreRows P low high rows → rows ≡ map (λ r. if r.id == id then change r else r) rows
  stay low high [] le are = refl
  stay low high (r ∷ rows) le are =
      let other : (r.id == id) ≡ false = grind (arith, nat_tests, are.0) in
      ap (λ l. r ∷ l) (stay r.id high rows (omega (arith, are.0)) are.3)
      ∙ ap (λ b. cond b (change r) r ∷ map (λ x. if x.id == id then change x else x) rows) (sym other)

  changed_at : (low high : ℕ) (kept : List Kept) (n : ℕ) (new d : Kept) → AreRows P low high (rows_of kept) → n < length kept → (get_or kept n d).row.id ≡ id
      → new.row ≡ change (get_or kept n d).row → rows_of (set kept n new) ≡ map (λ r. if r.id == id then change r else r) (rows_of kept)
  changed_at low high [] n new d are within is made = absurd (omega arith)
  changed_at low high (k ∷ kept) zero new d are within is made =
      let same : (k.row.id == id) ≡ true = grind (arith, nat_tests) in
      ap (λ r. r ∷ rows_of kept) made ∙ ap (λ l. change k.row ∷ l) (stay k.row.id high (rows_of kept) (omega (arith, is)) are.3)
      ∙ ap (λ b. cond b (change k.row) k.row ∷ map (λ x. if x.id == id then change x else x) (rows_of kept)) (sym same)
  changed_at low high (k ∷ kept) (suc n) new d are within is made =
      let after : k.row.id < (get_or kept n d).row.id = above P k.row.id high kept n d are.3 (omega arith) in
      let other : (k.row.id == id) ≡ false = grind (arith, nat_tests, after, is) in
      ap (λ l. k.row ∷ l) (changed_at k.row.id high kept n new d are.3 (omega arith) is made)
      ∙ ap (λ b. cond b (change k.row) k.row ∷ map (λ x. if x.id == id then change x else x) (rows_of kept)) (sym other)

  -- the row of the id is changed at its place
  pub changed : (high : ℕ) (kept : List Kept) (n : ℕ) (new k d : Kept) → AreRows P 0 high (rows_of kept) → HasRow kept n id → k ≡ get_or kept n d
      → new.row ≡ change k.row → rows_of (set kept n new) ≡ map (λ r. if r.id == id then change r else r) (rows_of kept)
  changed high kept n new k d are has is made =
      let there = row_read kept n id k d has is in
      let its = id_of_row (rows_of kept) id k.row there in
      changed_at 0 high kept n new d are has.within (ap (λ x. x.row.id) (sym is) ∙ its) (made ∙ ap (λ x. change x.row) is)

  -- no row has the id
  pub none_changed : (rows : List Row) → row_at rows id ≡ None → rows ≡ map (λ r. if r.id == id then change r else r) rows
  none_changed [] none = refl
  none_changed (r ∷ rows) none = at (r.id == id) none (none_changed rows)
    where
      at : (b : Bool) → cond b (Some r) (row_at rows id) ≡ None → (row_at rows id ≡ None → rows ≡ map (λ x. if x.id == id then change x else x) rows)
          → r ∷ rows ≡ cond b (change r) r ∷ map (λ x. if x.id == id then change x else x) rows
      at true none rest = absurd (cc none)
      at false none rest = ap (λ l. r ∷ l) (rest none)

-- ---- a row comes

-- a live id is within the ids given
pub live_within : (P : Row → Type 0) (low high id : ℕ) (rows : List Row) → AreRows P low high rows → is_live rows id ≡ true → id ≤ high
live_within P low high id [] are live = absurd (cc live)
live_within P low high id (r ∷ rows) are live = at (r.id == id) (λ is. grind (arith, nat_tests)) live (live_within P r.id high id rows are.3)
  where
    at : (b : Bool) → (b ≡ true → r.id ≡ id) → (b || is_live rows id) ≡ true → (is_live rows id ≡ true → id ≤ high) → id ≤ high
    at true is live rest = omega (arith, is refl, are.1)
    at false is live rest = rest live

-- an id beyond those given has no row
pub none_beyond : (P : Row → Type 0) (low high id : ℕ) (rows : List Row) → AreRows P low high rows → high < id → row_at rows id ≡ None
none_beyond P low high id [] are beyond = refl
none_beyond P low high id (r ∷ rows) are beyond =
    let apart : (r.id == id) ≡ false = grind (arith, nat_tests, are.1, beyond) in
    ap (λ b. cond b (Some r) (row_at rows id)) apart ∙ none_beyond P r.id high id rows are.3 beyond

-- the row that a creation makes is above its parent
pub below_next : (facts : Facts) (t : Tracked) (call : Call) (good : Good) → HasPlace facts t call good → AreTracked t.given t.rows → HasLowerParent (new_row facts call good)
below_next facts t call good may are = at (takes_parent (fun_at facts.funs call.fun)) may.parent
  where
    within : (b : Bool) → (b ≡ true → call.desc ≡ 0) → (b || is_live t.rows call.desc) ≡ true → call.desc ≤ t.given
    within true zero_is either = omega (arith, zero_is refl)
    within false zero_is either = live_within HasLowerParent 0 t.given call.desc t.rows are either

    at : (b : Bool) → (b ≡ true → ((call.desc == 0) || is_live t.rows call.desc) ≡ true) → cond b call.desc 0 < good.desc
    at true parent = let le = within (call.desc == 0) (λ is. grind (arith, nat_tests)) (parent refl) in omega (arith, le, may.next)
    at false parent = omega (arith, may.next)

-- rows stay tracked when one is changed under its id and its parent
pub are_changed : (change : Row → Row) (id : ℕ) → ((r : Row) → (change r).id ≡ r.id) → ((r : Row) → (change r).parent ≡ r.parent)
    → (low high : ℕ) (rows : List Row) → AreRows HasLowerParent low high rows → AreRows HasLowerParent low high (map (λ r. if r.id == id then change r else r) rows)
are_changed change id same_id same_parent low high rows are =
    keep_changed HasLowerParent HasLowerParent (λ r. if r.id == id then change r else r) (λ r. either_id (r.id == id) r) (λ r lower. either_lower (r.id == id) r lower) low high rows are
  where
    either_id : (b : Bool) (r : Row) → (cond b (change r) r).id ≡ r.id
    either_id true r = same_id r
    either_id false r = refl

    either_lower : (b : Bool) (r : Row) → HasLowerParent r → HasLowerParent (cond b (change r) r)
    either_lower true r lower = omega (arith, same_id r, same_parent r, lower)
    either_lower false r lower = lower

pub child-rows : (kept : List Kept) (id : ℕ) → list_any (λ k. k.row.parent == id) kept ≡ has_child (rows_of kept) id
child-rows [] id = refl
child-rows (k ∷ kept) id = ap (λ b. (k.row.parent == id) || b) (child-rows kept id)

-- an id with a row is live
pub live_if : (rows : List Row) (id : ℕ) → is_some (row_at rows id) ≡ is_live rows id
live_if [] id = refl
live_if (r ∷ rows) id = at (r.id == id) (live_if rows id)
  where
    at : (b : Bool) → is_some (row_at rows id) ≡ is_live rows id → is_some (cond b (Some r) (row_at rows id)) ≡ (b || is_live rows id)
    at true rest = refl
    at false rest = rest

-- The path of a row, by that of its parent; and rows that stand for each other, which have one path.
use Rattle.std.proofs.Common.{◌≡◌, ℕ, zero, suc, ◌<◌, ◌≤◌, Bool, true, false, cond, List, [], ◌∷◌, ◌++◌, None, Some, append-nil, map, filter, refl, sym, ◌∙◌, ap, inl, inr, arith}
use Rattle.std.specs.Prelude.{◌==◌, ◌-◌, reverse}
use Rattle.std.specs.List.{flat_map}
use Rattle.std.specs.declared.option.Option.{Option}
use Rattle.std.proofs.lemmas.Bool.Decides.{eqb_tells}
use Rattle.std.proofs.lemmas.Grind.{flat_map-append, reverse_onto}
use Rattle.sg_facts.specs.declared.row.Row.{Row}
use Rattle.sg_facts.specs.Object.{first_text, path_of}
use Rattle.sg_facts.specs.Inside.Rows.{step_to, has_child, parent_in}
use Rattle.sg_facts.specs.Sound.{AreRows}
use Rattle.sg_facts.specs.Track.{nearest, row_at}
use Rattle.sg_facts.proofs.RowLists.{id_of_row, none_pass, row_at-left}
use Rattle.sg_facts.proofs.Replaying.Found.{above, from_map, last_found, met, other_test, same_test, to_map}

-- the path of an id over so many of its ancestors
abbrev pub path_over : List Row → ℕ → ℕ → List ℕ
path_over rows n id = flat_map (λ a. step_to (row_at rows a)) (reverse (id ∷ nearest rows n id))

-- it is the path of the parent, over one less, and the step to the row; a row without a parent has its step alone
pub path_up : (rows : List Row) (n id : ℕ)
    → path_over rows (suc n) id ≡ cond (parent_in (row_at rows id) == 0) [] (path_over rows n (parent_in (row_at rows id))) ++ step_to (row_at rows id)
path_up rows n id =
    let step : ℕ → List ℕ = λ a. step_to (row_at rows a) in
    let above : List ℕ = nearest rows (suc n) id in
    ap (flat_map step) (reverse_onto above id []) ∙ flat_map-append step (reverse above) (id ∷ [])
    ∙ ap (λ x. flat_map step (reverse above) ++ x) (append-nil (step id)) ∙ at (parent_in (row_at rows id) == 0)
  where
    at : (b : Bool) → flat_map (λ a. step_to (row_at rows a)) (reverse (cond b [] (parent_in (row_at rows id) ∷ nearest rows n (parent_in (row_at rows id))))) ++ step_to (row_at rows id)
        ≡ cond b [] (path_over rows n (parent_in (row_at rows id))) ++ step_to (row_at rows id)
    at true = refl
    at false = refl

-- one id stands for another: the same step leads to both, and their parents are none, or stand for each other
pub record SameStep (name : ℕ → ℕ) (P : ℕ → Type 0) (rows rows' : List Row) (id : ℕ) : Type 0 where
  pub low : 0 < id
  pub low_name : 0 < name id
  pub step : step_to (row_at rows' (name id)) ≡ step_to (row_at rows id)
  pub parent : parent_in (row_at rows' (name id)) ≡ name (parent_in (row_at rows id))
  pub below : parent_in (row_at rows id) < id
  pub below_name : name (parent_in (row_at rows id)) < name id
  pub stands : 0 < parent_in (row_at rows id) → P (parent_in (row_at rows id))

module _ (name : ℕ → ℕ) (none : name 0 ≡ 0) (P : ℕ → Type 0) (rows rows' : List Row) (each : (id : ℕ) → P id → SameStep name P rows rows' id) where
  -- over as many ancestors as there can be, both have one path
  pub same_path : (n m id : ℕ) → P id → id ≤ n → name id ≤ m → path_over rows' m (name id) ≡ path_over rows n id
  same_path zero m id is few also = absurd (omega (arith, (each id is).low, few))
  same_path (suc n) zero id is few also = absurd (omega (arith, (each id is).low_name, also))
  same_path (suc n) (suc m) id is few also =
      let s = each id is in
      let p : ℕ = parent_in (row_at rows id) in
      let p' : ℕ = parent_in (row_at rows' (name id)) in
      let above : cond (name p == 0) [] (path_over rows' m (name p)) ≡ cond (p == 0) [] (path_over rows n p) =
      elim (eqb_tells p 0) [
        | inl root ↦
            ap (λ b. cond b [] (path_over rows' m (name p))) (same_test (name p) 0 (ap name root.1 ∙ none))
            ∙ ap (λ b. cond b [] (path_over rows n p)) (sym root.0)
        | inr some ↦
            let isn't = some.1 in
            let has : 0 < p = omega (arith, isn't) in
            let low_name = (each p (s.stands has)).low_name in
            ap (λ b. cond b [] (path_over rows' m (name p))) (other_test (name p) 0 (λ zero_is. absurd (omega (arith, zero_is, low_name))))
            ∙ same_path n m p (s.stands has) (omega (arith, s.below, few)) (omega (arith, s.below_name, also))
            ∙ ap (λ b. cond b [] (path_over rows n p)) (sym some.0)
      ] in
      path_up rows' m (name id) ∙ ap (λ x. cond (p' == 0) [] (path_over rows' m p') ++ x) s.step
      ∙ ap (λ q. cond (q == 0) [] (path_over rows' m q) ++ step_to (row_at rows id)) s.parent
      ∙ ap (λ x. x ++ step_to (row_at rows id)) above ∙ sym (path_up rows n id)

-- ---- rows whose parents have smaller ids

-- a row's parent has a smaller id than the row
abbrev pub IsBelow : Row → Type 0
IsBelow r = r.parent < r.id

-- where each row's parent has a smaller id, the parent of an id above 0 is smaller; without a row it is 0
pub below : (high id : ℕ) (rows : List Row) → AreRows IsBelow 0 high rows → 0 < id → parent_in (row_at rows id) < id
below high id rows are low = at (row_at rows id) refl
  where
    at : (found : Option Row) → row_at rows id ≡ found → parent_in found < id
    at None is = low
    at (Some r) is =
        let its : r.id ≡ id = id_of_row rows id r is in
        let less : r.parent < r.id = met IsBelow 0 high id rows r are is in
        omega (arith, its, less)

-- no row has the id 0
pub none_at : (P : Row → Type 0) (low high : ℕ) (rows : List Row) → AreRows P low high rows → row_at rows 0 ≡ None
none_at P low high [] are = refl
none_at P low high (r ∷ rows) are =
    ap (λ b. cond b (Some r) (row_at rows 0)) (other_test r.id 0 (λ is. absurd (let above = are.0 in omega (arith, is, above)))) ∙ none_at P r.id high rows are.3

-- so its path is empty
pub no_path : (P : Row → Type 0) (high : ℕ) (rows : List Row) → AreRows P 0 high rows → path_of rows 0 ≡ []
no_path P high rows are = ap (λ x. step_to x ++ []) (none_at P 0 high rows are)

-- ids under which rows have the same step and the same parent before and after a change, up to the root, have one path
module _ (high : ℕ) (rows rows' : List Row) (are : AreRows IsBelow 0 high rows) (P : ℕ → Type 0) (low : (id : ℕ) → P id → 0 < id)
    (step : (id : ℕ) → P id → step_to (row_at rows' id) ≡ step_to (row_at rows id)) (parent : (id : ℕ) → P id → parent_in (row_at rows' id) ≡ parent_in (row_at rows id))
    (up : (id : ℕ) → P id → 0 < parent_in (row_at rows id) → P (parent_in (row_at rows id))) where
  pub path_stays : (n m id : ℕ) → P id → id ≤ n → id ≤ m → path_over rows' m id ≡ path_over rows n id
  path_stays = same_path (λ a. a) refl P rows rows' (λ id is.
      let less = below high id rows are (low id is) in
      record { low = low id is; low_name = low id is; step = step id is; parent = parent id is; below = less; below_name = less; stands = up id is })

-- a row comes under a new id: the others stay
row_at_apart : (rows : List Row) (new : Row) (id : ℕ) → (new.id == id) ≡ false → row_at (rows ++ new ∷ []) id ≡ row_at rows id
row_at_apart [] new id apart = ap (λ b. cond b (Some new) None) apart
row_at_apart (r ∷ rows) new id apart = ap (λ x. cond (r.id == id) (Some r) x) (row_at_apart rows new id apart)

module _ (high : ℕ) (rows : List Row) (new : Row) (are : AreRows IsBelow 0 high rows) (next : high < new.id) where
  abbrev IsOld : ℕ → Type 0
  IsOld id = (0 < id) × (id < new.id)

  old_row : (id : ℕ) → IsOld id → row_at (rows ++ new ∷ []) id ≡ row_at rows id
  old_row id old = row_at_apart rows new id (other_test new.id id (λ is. absurd (omega (arith, is, old.1))))

  old_path : (n m id : ℕ) → IsOld id → id ≤ n → id ≤ m → path_over (rows ++ new ∷ []) m id ≡ path_over rows n id
  old_path = path_stays high rows (rows ++ new ∷ []) are IsOld (λ id old. old.0) (λ id old. ap step_to (old_row id old)) (λ id old. ap parent_in (old_row id old))
      (λ id old has. let less = below high id rows are old.0 in (has, omega (arith, less, old.1)))

  -- their paths stay
  pub path_more : (id : ℕ) → 0 < id → id < new.id → path_of (rows ++ new ∷ []) id ≡ path_of rows id
  path_more id low less = old_path id id id (low, less) (omega arith) (omega arith)

  -- and the path of the new row is its parent's, a slash and its name
  pub path_last : new.parent < new.id → path_of (rows ++ new ∷ []) new.id ≡ path_of rows new.parent ++ 47 ∷ first_text new.fields
  path_last less =
      let all : List Row = rows ++ new ∷ [] in
      let there : row_at all new.id ≡ Some new = last_found IsBelow 0 high rows new are next in
      let fuel : new.id ≡ suc (new.id - 1) = omega (arith, next) in
      let above : cond (new.parent == 0) [] (path_over all (new.id - 1) new.parent) ≡ path_of rows new.parent =
      elim (eqb_tells new.parent 0) [
        | inl root ↦
            ap (λ b. cond b [] (path_over all (new.id - 1) new.parent)) root.0 ∙ sym (ap (path_of rows) root.1 ∙ no_path IsBelow high rows are)
        | inr some ↦
            let isn't = some.1 in
            ap (λ b. cond b [] (path_over all (new.id - 1) new.parent)) some.0
            ∙ old_path new.parent (new.id - 1) new.parent (omega (arith, isn't), less) (omega arith) (omega (arith, less))
      ] in
      ap (λ k. path_over all k new.id) fuel ∙ path_up all (new.id - 1) new.id
      ∙ ap (λ x. cond (parent_in x == 0) [] (path_over all (new.id - 1) (parent_in x)) ++ step_to x) there
      ∙ ap (λ x. x ++ 47 ∷ first_text new.fields) above

-- the path of a row is its parent's, a slash and its name
pub path_below : (high id : ℕ) (rows : List Row) (r : Row) → AreRows IsBelow 0 high rows → row_at rows id ≡ Some r → path_of rows id ≡ path_of rows r.parent ++ 47 ∷ first_text r.fields
path_below high id rows r are there =
    let its : r.id ≡ id = id_of_row rows id r there in
    let low : 0 < r.id = above IsBelow 0 high id rows r are there in
    let less : r.parent < r.id = met IsBelow 0 high id rows r are there in
    let fuel : id ≡ suc (id - 1) = omega (arith, its, low) in
    ap (λ k. path_over rows k id) fuel ∙ path_up rows (id - 1) id
    ∙ ap (λ x. cond (parent_in x == 0) [] (path_over rows (id - 1) (parent_in x)) ++ step_to x) there
    ∙ ap (λ x. x ++ 47 ∷ first_text r.fields) (parent_path (omega (arith, its, less, low)))
  where
    parent_path : r.parent ≤ id - 1 → cond (r.parent == 0) [] (path_over rows (id - 1) r.parent) ≡ path_of rows r.parent
    parent_path few = elim (eqb_tells r.parent 0) [
      | inl root ↦ ap (λ b. cond b [] (path_over rows (id - 1) r.parent)) root.0 ∙ sym (ap (path_of rows) root.1 ∙ no_path IsBelow high rows are)
      | inr some ↦
          let isn't = some.1 in
          ap (λ b. cond b [] (path_over rows (id - 1) r.parent)) some.0
          ∙ path_stays high rows rows are (λ i. 0 < i) (λ i low. low) (λ i low. refl) (λ i low. refl) (λ i low has. has) r.parent (id - 1) r.parent (omega (arith, isn't)) (omega arith) few
    ]

-- an id without a row has no path
pub path_of_none : (high id : ℕ) (rows : List Row) → row_at rows id ≡ None → path_of rows id ≡ []
path_of_none high zero rows none = ap (λ x. step_to x ++ []) none
path_of_none high (suc n) rows none = path_up rows n (suc n) ∙ ap (λ x. cond (parent_in x == 0) [] (path_over rows n (parent_in x)) ++ step_to x) none

-- rows are changed under their ids, and keep their parents and names
pub path_changed : (high : ℕ) (rows : List Row) (change : Row → Row) → AreRows IsBelow 0 high rows → ((r : Row) → (change r).id ≡ r.id) → ((r : Row) → row_at rows r.id ≡ Some r → (change r).parent ≡ r.parent)
    → ((r : Row) → row_at rows r.id ≡ Some r → first_text (change r).fields ≡ first_text r.fields) → (id : ℕ) → 0 < id → path_of (map change rows) id ≡ path_of rows id
path_changed high rows change are same same_parent same_name id low =
    path_stays high rows (map change rows) are (λ i. 0 < i) (λ i above_0. above_0) (λ i above_0. same_step i (row_at rows i) refl) (λ i above_0. parent_stays i (row_at rows i) refl) (λ i above_0 has. has) id id id low (omega arith) (omega arith)
  where
    none_too : (i : ℕ) → row_at rows i ≡ None → row_at (map change rows) i ≡ None
    none_too i none = at (row_at (map change rows) i) refl
      where
        at : (found : Option Row) → row_at (map change rows) i ≡ found → row_at (map change rows) i ≡ None
        at None is = is
        at (Some new) is = let was = from_map change same rows i new is in let both : None ≡ Some was.row = sym none ∙ was.there in absurd (cc both)

    found : (i : ℕ) (r : Row) → row_at rows i ≡ Some r → row_at rows r.id ≡ Some r
    found i r is = ap (row_at rows) (id_of_row rows i r is) ∙ is

    same_step : (i : ℕ) (there : Option Row) → row_at rows i ≡ there → step_to (row_at (map change rows) i) ≡ step_to (row_at rows i)
    same_step i None is = ap step_to (none_too i is) ∙ sym (ap step_to is)
    same_step i (Some r) is = ap step_to (to_map change same rows i r is) ∙ ap (λ name. 47 ∷ name) (same_name r (found i r is)) ∙ sym (ap step_to is)

    parent_stays : (i : ℕ) (there : Option Row) → row_at rows i ≡ there → parent_in (row_at (map change rows) i) ≡ parent_in (row_at rows i)
    parent_stays i None is = ap parent_in (none_too i is) ∙ sym (ap parent_in is)
    parent_stays i (Some r) is = ap parent_in (to_map change same rows i r is) ∙ same_parent r (found i r is) ∙ sym (ap parent_in is)

-- a row that is nobody's parent goes
pub path_left : (high : ℕ) (rows : List Row) (gone : ℕ) (test : ℕ → Bool) → AreRows IsBelow 0 high rows → has_child rows gone ≡ false → ((id : ℕ) → (id == gone) ≡ false → test id ≡ true)
    → (id : ℕ) → 0 < id → test id ≡ true → path_of (filter (λ r. test r.id) rows) id ≡ path_of rows id
path_left high rows gone test are childless passes id low stays =
    path_stays high rows (filter (λ r. test r.id) rows) are (λ i. (0 < i) × (test i ≡ true)) (λ i is. is.0) (λ i is. ap step_to (row_at-left test rows i is.1)) (λ i is. ap parent_in (row_at-left test rows i is.1))
    (λ i is has. (has, passes (parent_in (row_at rows i)) (other_parent i (row_at rows i) refl has))) id id id (low, stays) (omega arith) (omega arith)
  where
    other_parent : (i : ℕ) (found : Option Row) → row_at rows i ≡ found → 0 < parent_in found → (parent_in found == gone) ≡ false
    other_parent i None is has = absurd (omega (arith, has))
    other_parent i (Some r) is has = (met (λ x. IsBelow x × ((x.parent == gone) ≡ false)) 0 high i rows r (none_pass IsBelow (λ x. x.parent == gone) 0 high rows childless are) is).1

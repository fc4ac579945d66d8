-- Answered calls of two clients in a private service: each stays what it is after the other, and their order makes no difference.
use Rattle.std.proofs.Common.{◌≡◌, ℕ, Bool, true, false, cond, List, [], ◌∷◌, ◌++◌, Some, refl, sym, ◌∙◌, ap, subst, inl, inr, ◌⊎◌, arith}
use Rattle.std.specs.Prelude.{◌==◌, ◌||◌, reverse}
use Rattle.std.specs.List.{flat_map, list_any}
use Rattle.std.proofs.lemmas.Bool.Decides.{nat_tests}
use Rattle.std.proofs.lemmas.Grind.{reverse_onto}
use Rattle.sg_facts.specs.sg_base.Lists.{Each}
use Rattle.sg_facts.specs.sg_base.declared.call.Call.{Call}
use Rattle.sg_facts.specs.declared.row.Row.{Row}
use Rattle.sg_facts.specs.Facts.{Facts, fun_at}
use Rattle.sg_facts.specs.Needs.{is_needed}
use Rattle.sg_facts.specs.Object.{path_of}
use Rattle.sg_facts.specs.Inside.Rows.{step_to, has_child}
use Rattle.sg_facts.specs.Track.{ancestors, is_ancestor, nearest, row_at}
use Rattle.sg_facts.proofs.RowLists.{id_of_row}
use Rattle.sg_recovery_laws.proofs.Lists.{each_push}
use Rattle.sg_recovery_laws.specs.Objects.Apart.{AreOwn, SameFor}
use Rattle.sg_recovery_laws.proofs.Objects.Apart.{Ascends, IsOwnRow, above_own, nearest_same, same_back}
use Rattle.sg_facts.proofs.Replaying.Found.{above, other_test, same_test}

-- ---- tests

pub same_bool : (a b : Bool) → (a ≡ true → b ≡ true) → (b ≡ true → a ≡ true) → b ≡ a
same_bool true b so back = so refl
same_bool false true so back = sym (back refl)
same_bool false false so back = refl

either_of : (a b : Bool) → (a || b) ≡ true → (a ≡ true) ⊎ (b ≡ true)
either_of true b is = inl refl
either_of false b is = inr is

record Passing (P : ℕ → Type 0) (test : ℕ → Bool) : Type 0 where
  id : ℕ
  is : test id ≡ true
  meets : P id

any_each : (P : ℕ → Type 0) (test : ℕ → Bool) (ids : List ℕ) → Each P ids → list_any test ids ≡ true → Passing P test
any_each P test [] each any = absurd (cc any)
any_each P test (a ∷ ids) each any = elim (either_of (test a) (list_any test ids) any) [
  | inl is ↦ record { id = a; is = is; meets = each.0 }
  | inr later ↦ any_each P test ids each.1 later
]

record PassingRow (rows : List Row) (test : Row → Bool) : Type 0 where
  row : Row
  there : row_at rows row.id ≡ Some row
  is : test row ≡ true

some_row : (test : Row → Bool) (low high : ℕ) (rows : List Row) → Ascends low high rows → list_any test rows ≡ true → PassingRow rows test
some_row test low high [] are any = absurd (cc any)
some_row test low high (x ∷ rows) are any = elim (either_of (test x) (list_any test rows) any) [
  | inl is ↦ record { row = x; there = ap (λ b. cond b (Some x) (row_at rows x.id)) (same_test x.id x.id refl); is = is }
  | inr later ↦
      let found = some_row test x.id high rows are.3 later in
      let more = above (λ r. Unit {0}) x.id high found.row.id rows found.row are.3 found.there in
      record {
        row = found.row;
        there = ap (λ b. cond b (Some x) (row_at rows found.row.id)) (other_test x.id found.row.id (λ is. absurd (omega (arith, is, more)))) ∙ found.there;
        is = found.is;
      }
]

any_row : (test : Row → Bool) (rows : List Row) (id : ℕ) (r : Row) → row_at rows id ≡ Some r → test r ≡ true → list_any test rows ≡ true
any_row test [] id r there is = absurd (cc there)
any_row test (x ∷ rows) id r there is = at (x.id == id) there (any_row test rows id r)
  where
    at : (b : Bool) → cond b (Some x) (row_at rows id) ≡ Some r → (row_at rows id ≡ Some r → test r ≡ true → list_any test rows ≡ true) → (test x || list_any test rows) ≡ true
    at true there rest = let one : x ≡ r = cc there in ap (λ b. b || list_any test rows) (ap test one ∙ is)
    at false there rest = ap (λ b. test x || b) (rest there is) ∙ turn (test x)
      where
        turn : (b : Bool) → (b || true) ≡ true
        turn true = refl
        turn false = refl

-- ---- a client's rows and what stands below and above them

pub child_same : (c : ℕ) (rows rows' : List Row) (given given' desc : ℕ) → Ascends 0 given rows → Ascends 0 given' rows' → AreOwn rows → AreOwn rows' → SameFor c rows rows'
    → IsOwnRow rows c desc → has_child rows' desc ≡ has_child rows desc
child_same c rows rows' given given' desc are are' own own' same on =
    same_bool (has_child rows desc) (has_child rows' desc)
    (child rows rows' given are own same (record { row = on.row; of = on.of; own = on.own }))
    (child rows' rows given' are' own' (same_back c rows rows' same) (record { row = on.row; of = same.there desc on.row on.of on.own; own = on.own }))
  where
    child : (xs ys : List Row) (n : ℕ) → Ascends 0 n xs → AreOwn xs → SameFor c xs ys → IsOwnRow xs c desc → has_child xs desc ≡ true → has_child ys desc ≡ true
    child xs ys n are own same on any =
        let found = some_row (λ r. r.parent == desc) 0 n xs are any in
        let parent : found.row.parent ≡ desc = let is = found.is in grind (arith, nat_tests, is) in
        let low = above (λ r. Unit {0}) 0 n desc xs on.row are on.of in
        let its = id_of_row xs desc on.row on.of in
        elim (own found.row.id found.row found.there) [
          | inl none ↦ absurd (omega (arith, none, parent, low, its))
          | inr has ↦
              let one : Some has.row ≡ Some on.row = sym has.of ∙ ap (row_at xs) parent ∙ on.of in
              let rows_are : has.row ≡ on.row = cc one in
              let creator : found.row.creator ≡ c = sym has.own ∙ ap (λ r. r.creator) rows_are ∙ on.own in
              any_row (λ r. r.parent == desc) ys found.row.id found.row (same.there found.row.id found.row found.there creator) found.is
        ]

-- what a call on an own row needs is its client's own
pub needed_own : (facts : Facts) (rows : List Row) (call : Call) (r : Row) → (fun_at facts.funs call.fun).all ≡ false → AreOwn rows → IsOwnRow rows call.client call.desc
    → row_at rows r.id ≡ Some r → is_needed facts rows call r ≡ true → r.creator ≡ call.client
needed_own facts rows call r none own on there need =
    elim (either_of (r.id == call.desc) (is_ancestor rows r.id call.desc) (sym (ap (λ b. b || (r.id == call.desc) || is_ancestor rows r.id call.desc) none) ∙ need)) [
      | inl is ↦
          let id : r.id ≡ call.desc = grind (arith, nat_tests, is) in
          let one : Some r ≡ Some on.row = sym there ∙ ap (row_at rows) id ∙ on.of in
          let rows_are : r ≡ on.row = cc one in
          ap (λ x. x.creator) rows_are ∙ on.own
      | inr up ↦
          let found = any_each (IsOwnRow rows on.row.creator) (λ a. a == r.id) (ancestors rows call.desc) (above_own rows call.desc call.desc on.row own on.of) up in
          let id : found.id ≡ r.id = let is = found.is in grind (arith, nat_tests, is) in
          let one : Some r ≡ Some found.meets.row = sym there ∙ ap (row_at rows) (sym id) ∙ found.meets.of in
          let rows_are : r ≡ found.meets.row = cc one in
          ap (λ x. x.creator) rows_are ∙ found.meets.own ∙ on.own
    ]

-- a call on no row needs none
pub needed_none : (facts : Facts) (rows : List Row) (given : ℕ) (call : Call) (r : Row) → (fun_at facts.funs call.fun).all ≡ false → Ascends 0 given rows → call.desc ≡ 0
    → row_at rows r.id ≡ Some r → is_needed facts rows call r ≡ false
needed_none facts rows given call r none are root there =
    let low = above (λ x. Unit {0}) 0 given r.id rows r are there in
    ap (λ b. b || (r.id == call.desc) || is_ancestor rows r.id call.desc) none
    ∙ ap (λ b. b || is_ancestor rows r.id call.desc) (other_test r.id call.desc (λ is. absurd (omega (arith, is, root, low))))
    ∙ ap (λ d. list_any (λ x. x == r.id) (nearest rows d d)) root

-- ---- the path of a client's row

flat_map_same : (f g : ℕ → List ℕ) (ids : List ℕ) → Each (λ a. f a ≡ g a) ids → flat_map f ids ≡ flat_map g ids
flat_map_same f g [] each = refl
flat_map_same f g (a ∷ ids) each = ap (λ x. x ++ flat_map f ids) each.0 ∙ ap (λ x. g a ++ x) (flat_map_same f g ids each.1)

each_reverse : (P : ℕ → Type 0) (ids : List ℕ) → Each P ids → Each P (reverse ids)
each_reverse P [] each = tt
each_reverse P (a ∷ ids) each = subst (Each P) (sym (reverse_onto ids a [])) (each_push P (reverse ids) a (each_reverse P ids each.1) each.0)

pub path_told : (rows rows' : List Row) (id : ℕ) → ancestors rows' id ≡ ancestors rows id → Each (λ a. row_at rows' a ≡ row_at rows a) (id ∷ ancestors rows id) → path_of rows' id ≡ path_of rows id
path_told rows rows' id up each =
    ap (λ ids. flat_map (λ a. step_to (row_at rows' a)) (reverse (id ∷ ids))) up
    ∙ flat_map_same (λ a. step_to (row_at rows' a)) (λ a. step_to (row_at rows a)) (reverse (id ∷ ancestors rows id))
    (each_reverse (λ a. step_to (row_at rows' a) ≡ step_to (row_at rows a)) (id ∷ ancestors rows id) (steps (id ∷ ancestors rows id) each))
  where
    steps : (ids : List ℕ) → Each (λ a. row_at rows' a ≡ row_at rows a) ids → Each (λ a. step_to (row_at rows' a) ≡ step_to (row_at rows a)) ids
    steps [] each = tt
    steps (a ∷ ids) each = (ap step_to each.0, steps ids each.1)

pub path_own : (c : ℕ) (rows rows' : List Row) (id : ℕ) → AreOwn rows → SameFor c rows rows' → IsOwnRow rows c id → path_of rows' id ≡ path_of rows id
path_own c rows rows' id own same on =
    let so : SameFor on.row.creator rows rows' = subst (λ n. SameFor n rows rows') (sym on.own) same in
    path_told rows rows' id (nearest_same rows rows' id id on.row own so on.of)
    (same.there id on.row on.of on.own ∙ sym on.of, each (ancestors rows id) so (above_own rows id id on.row own on.of))
  where
    each : (ids : List ℕ) → SameFor on.row.creator rows rows' → Each (IsOwnRow rows on.row.creator) ids → Each (λ a. row_at rows' a ≡ row_at rows a) ids
    each [] so all = tt
    each (a ∷ ids) so all = (so.there a all.0.row all.0.of all.0.own ∙ sym all.0.of, each ids so all.1)

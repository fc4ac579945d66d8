-- The least wanted row that isn't whole: it is there, and its parent is none or whole.
use Rattle.std.proofs.Common.{◌≡◌, ℕ, zero, suc, ◌<◌, ◌≤◌, Bool, true, false, cond, not, List, [], ◌∷◌, None, Some, map, filter, refl, sym, ◌∙◌, ap, subst, inl, inr, ◌⊎◌, arith}
use Rattle.std.specs.Prelude.{◌==◌, ◌||◌, ◌&&◌, nat_lt, find}
use Rattle.std.specs.List.{list_any}
use Rattle.std.specs.declared.option.Option.{Option}
use Rattle.std.proofs.lemmas.Bool.Decides.{eqb_tells, nat_tests}
use Rattle.sg_facts.specs.sg_base.declared.call.Call.{Call}
use Rattle.sg_facts.specs.declared.row.Row.{Row}
use Rattle.sg_facts.specs.Facts.{Facts, fun_at}
use Rattle.sg_facts.specs.Interface.{Declared}
use Rattle.sg_facts.specs.Needs.{is_needed, is_wanted, wanted}
use Rattle.sg_facts.specs.Object.{Object}
use Rattle.sg_facts.specs.Sound.{IsRow, IsSound}
use Rattle.sg_facts.specs.Track.{is_ancestor, is_live, nearest, row_at}
use Rattle.sg_facts.specs.Inside.Rows.{parent_in}
use Rattle.sg_facts.proofs.RowLists.{id_of_row, row_of_live}
use Rattle.sg_recovery_laws.specs.Midway.Progress.{Told, is_complete}
use Rattle.sg_facts.proofs.Replaying.Above.{one_above}
use Rattle.sg_recovery_laws.proofs.Objects.Apart.{Ascends}
use Rattle.sg_facts.proofs.Replaying.Found.{above, met, other_test, same_test}
use Rattle.sg_recovery_laws.proofs.Objects.Guarded.{both_true}
use Rattle.sg_recovery_laws.proofs.Objects.Steady.{ascends}

-- the first of the ids of rows that pass a test
record IsFirst (test : Row → Bool) (f : ℕ → Bool) (rows : List Row) (id : ℕ) : Type 0 where
  row : Row
  there : row_at rows id ≡ Some row
  passes : test row ≡ true
  is : f id ≡ true
  before : (x : Row) → row_at rows x.id ≡ Some x → test x ≡ true → x.id < id → f x.id ≡ false

first_of : (test : Row → Bool) (f : ℕ → Bool) (low high : ℕ) (rows : List Row) (id : ℕ) → Ascends low high rows → find f (map (λ r. r.id) (filter test rows)) ≡ Some id → IsFirst test f rows id
first_of test f low high [] id are is = absurd (cc is)
first_of test f low high (r ∷ rows) id are is = at (test r) refl is (first_of test f r.id high rows id are.3)
  where
    later : (same : (r.id == id) ≡ false) → IsFirst test f rows id → (test r ≡ true → f r.id ≡ false) → IsFirst test f (r ∷ rows) id
    later apart first own = record {
      row = first.row;
      there = ap (λ b. cond b (Some r) (row_at rows id)) apart ∙ first.there;
      passes = first.passes;
      is = first.is;
      before = λ x there passes less. elim (eqb_tells r.id x.id) [
        | inl same ↦
            let one : Some r ≡ Some x = sym (ap (λ b. cond b (Some r) (row_at rows x.id)) same.0) ∙ there in
            let rows_are : r ≡ x = cc one in
            subst (λ y. test y ≡ true → f y.id ≡ false) rows_are own passes
        | inr other ↦ first.before x (sym (ap (λ b. cond b (Some r) (row_at rows x.id)) other.0) ∙ there) passes less
      ];
    }

    below : IsFirst test f rows id → (r.id == id) ≡ false
    below first =
        let more = above (λ y. Unit {0}) r.id high id rows first.row are.3 first.there in
        let its = id_of_row rows id first.row first.there in
        other_test r.id id (λ same. absurd (omega (arith, same, more, its)))

    found : (b : Bool) → f r.id ≡ b → test r ≡ true → cond b (Some r.id) (find f (map (λ x. x.id) (filter test rows))) ≡ Some id → (find f (map (λ x. x.id) (filter test rows)) ≡ Some id → IsFirst test f rows id)
        → IsFirst test f (r ∷ rows) id
    found true f_is passes is rest =
        let same : r.id ≡ id = cc is in
        record {
          row = r;
          there = ap (λ b. cond b (Some r) (row_at rows id)) (same_test r.id id same);
          passes = passes;
          is = ap f (sym same) ∙ f_is;
          before = λ x there passes_x less. elim (eqb_tells r.id x.id) [
            | inl one ↦ absurd (omega (arith, one.1, same, less))
            | inr other ↦
                let there_rest : row_at rows x.id ≡ Some x = sym (ap (λ b. cond b (Some r) (row_at rows x.id)) other.0) ∙ there in
                let more = above (λ y. Unit {0}) r.id high x.id rows x are.3 there_rest in
                absurd (omega (arith, more, same, less))
          ];
        }
    found false f_is passes is rest = let first = rest is in later (below first) first (λ p. f_is)

    at : (b : Bool) → test r ≡ b → find f (map (λ x. x.id) (cond b (r ∷ filter test rows) (filter test rows))) ≡ Some id → (find f (map (λ x. x.id) (filter test rows)) ≡ Some id → IsFirst test f rows id)
        → IsFirst test f (r ∷ rows) id
    at true passes is rest = found (f r.id) refl passes is rest
    at false passes is rest = let first = rest is in later (below first) first (λ p. absurd (cc (p, passes)))

-- ---- parents are needed with their children

pub either_of : (a b : Bool) → (a || b) ≡ true → (a ≡ true) ⊎ (b ≡ true)
either_of true b is = inl refl
either_of false b is = inr is

pub or_left : (a b : Bool) → a ≡ true → (a || b) ≡ true
or_left true b is = refl
or_left false b is = absurd (cc is)

pub or_right : (a b : Bool) → b ≡ true → (a || b) ≡ true
or_right true b is = refl
or_right false b is = is

module _ (facts : Facts) (o : Object) (sound : IsSound facts o) where
  pub parent_of : (r : Row) → row_at o.rows r.id ≡ Some r → (r.parent ≡ 0 → ⊥) → (r.parent < r.id) × (is_live o.rows r.parent ≡ true)
  parent_of r there some =
      let is_row = met (IsRow facts o.rows) 0 o.given r.id o.rows r sound.rows there in
      let none : (r.parent == 0) ≡ false = other_test r.parent 0 some in
      let meets : (nat_lt r.parent r.id && is_live o.rows r.parent) ≡ true = sym (ap (λ b. b || (nat_lt r.parent r.id && is_live o.rows r.parent)) none) ∙ is_row.parent in
      let parts = both_true (nat_lt r.parent r.id) (is_live o.rows r.parent) meets in
      (less parts.0, parts.1)
    where
      less : nat_lt r.parent r.id ≡ true → r.parent < r.id
      less is = grind (arith, nat_tests, is)

  -- what stands above an id, its parent does too
  pub up_closed : (n d : ℕ) (a : Row) → row_at o.rows a.id ≡ Some a → (a.parent ≡ 0 → ⊥) → d ≤ n → list_any (λ x. x == a.id) (nearest o.rows n d) ≡ true → list_any (λ x. x == a.parent) (nearest o.rows n d) ≡ true
  up_closed zero d a there some few any = absurd (cc any)
  up_closed (suc n) d a there some few any = at (row_at o.rows d) refl (λ p lower. up_closed n p a there some (omega (arith, few, lower)))
    where
      cons : (x : Row) → row_at o.rows d ≡ Some x → (b : Bool) → (x.parent == 0) ≡ b → nearest o.rows (suc n) d ≡ cond b [] (x.parent ∷ nearest o.rows n x.parent)
      cons x there_x b is = one_above o.rows n d x there_x ∙ ap (λ t. cond t [] (x.parent ∷ nearest o.rows n x.parent)) is

      here : (m : ℕ) → a.id ≤ m → list_any (λ x. x == a.parent) (nearest o.rows m a.id) ≡ true
      here zero le = absurd (let low = above (IsRow facts o.rows) 0 o.given a.id o.rows a sound.rows there in omega (arith, low, le))
      here (suc m) le =
          ap (list_any (λ x. x == a.parent)) (one_above o.rows m a.id a there ∙ ap (λ t. cond t [] (a.parent ∷ nearest o.rows m a.parent)) (other_test a.parent 0 some))
          ∙ ap (λ t. t || list_any (λ x. x == a.parent) (nearest o.rows m a.parent)) (same_test a.parent a.parent refl)

      at : (found : Option Row) → row_at o.rows d ≡ found → ((p : ℕ) → p < d → list_any (λ x. x == a.id) (nearest o.rows n p) ≡ true → list_any (λ x. x == a.parent) (nearest o.rows n p) ≡ true)
          → list_any (λ x. x == a.parent) (nearest o.rows (suc n) d) ≡ true
      at None none rest =
          let empty : nearest o.rows (suc n) d ≡ [] = ap (λ x. let parent = parent_in x in cond (parent == 0) [] (parent ∷ nearest o.rows n parent)) none in
          absurd (let wrong : false ≡ true = sym (ap (list_any (λ x. x == a.id)) empty) ∙ any in cc wrong)
      at (Some x) there_x rest = by (eqb_tells x.parent 0)
        where
          by : ((x.parent == 0) ≡ true) × (x.parent ≡ 0) ⊎ ((x.parent == 0) ≡ false) × (x.parent ≡ 0 → ⊥) → list_any (λ y. y == a.parent) (nearest o.rows (suc n) d) ≡ true
          by (inl none) = absurd (let wrong : false ≡ true = sym (ap (list_any (λ y. y == a.id)) (cons x there_x true none.0)) ∙ any in cc wrong)
          by (inr has) =
              let its : x.id ≡ d = id_of_row o.rows d x there_x in
              let low = parent_of x (ap (row_at o.rows) its ∙ there_x) has.1 in
              let list = cons x there_x false has.0 in
              let any_it : (x.parent == a.id) || list_any (λ y. y == a.id) (nearest o.rows n x.parent) ≡ true = sym (ap (list_any (λ y. y == a.id)) list) ∙ any in
              ap (list_any (λ y. y == a.parent)) list
              ∙ elim (either_of (x.parent == a.id) (list_any (λ y. y == a.id) (nearest o.rows n x.parent)) any_it) [
                | inl one ↦
                    let same : x.parent ≡ a.id = grind (arith, nat_tests, one) in
                    or_right (x.parent == a.parent) (list_any (λ y. y == a.parent) (nearest o.rows n x.parent))
                    (ap (λ p. list_any (λ y. y == a.parent) (nearest o.rows n p)) same ∙ here n (omega (arith, same, low.0, its, few)))
                | inr more ↦ or_right (x.parent == a.parent) (list_any (λ y. y == a.parent) (nearest o.rows n x.parent)) (rest x.parent (omega (arith, low.0, its)) more)
              ]

  pub parent_needed : (call : Call) (r x : Row) → row_at o.rows r.id ≡ Some r → row_at o.rows x.id ≡ Some x → x.id ≡ r.parent → (r.parent ≡ 0 → ⊥) → is_needed facts o.rows call r ≡ true → is_needed facts o.rows call x ≡ true
  parent_needed call r x there there_x its some need =
      elim (either_of (fun_at facts.funs call.fun).all ((r.id == call.desc) || is_ancestor o.rows r.id call.desc) (assoc (fun_at facts.funs call.fun).all (r.id == call.desc) (is_ancestor o.rows r.id call.desc) need)) [
        | inl all ↦ or_left2 (fun_at facts.funs call.fun).all (x.id == call.desc) (is_ancestor o.rows x.id call.desc) all
        | inr rest ↦ or_right ((fun_at facts.funs call.fun).all || (x.id == call.desc)) (is_ancestor o.rows x.id call.desc)
            (elim (either_of (r.id == call.desc) (is_ancestor o.rows r.id call.desc) rest) [
              | inl own ↦
                  let same : r.id ≡ call.desc = grind (arith, nat_tests, own) in
                  ap (λ n. is_ancestor o.rows n call.desc) its ∙ ap (λ d. list_any (λ y. y == r.parent) (nearest o.rows d d)) (sym same) ∙ own_parent r.id refl
              | inr above_it ↦ ap (λ n. is_ancestor o.rows n call.desc) its ∙ up_closed call.desc call.desc r there some (omega arith) above_it
            ])
      ]
    where
      assoc : (a b c : Bool) → (a || b || c) ≡ true → (a || (b || c)) ≡ true
      assoc true b c is = refl
      assoc false b c is = is

      or_left2 : (a b c : Bool) → a ≡ true → (a || b || c) ≡ true
      or_left2 true b c is = refl
      or_left2 false b c is = absurd (cc is)

      own_parent : (m : ℕ) → m ≡ r.id → list_any (λ y. y == r.parent) (nearest o.rows m r.id) ≡ true
      own_parent zero is = absurd (let low = above (IsRow facts o.rows) 0 o.given r.id o.rows r sound.rows there in omega (arith, low, is))
      own_parent (suc m) is =
          ap (list_any (λ y. y == r.parent)) (one_above o.rows m r.id r there ∙ ap (λ t. cond t [] (r.parent ∷ nearest o.rows m r.parent)) (other_test r.parent 0 some))
          ∙ ap (λ t. t || list_any (λ y. y == r.parent) (nearest o.rows m r.parent)) (same_test r.parent r.parent refl)

module _ (i : Declared) (o : Object) (sound : IsSound i.facts o) where
  -- a parent is wanted with its child
  parent_wanted : (call : Call) (r x : Row) → row_at o.rows r.id ≡ Some r → row_at o.rows x.id ≡ Some x → x.id ≡ r.parent → (r.parent ≡ 0 → ⊥) → is_wanted i o.rows call r ≡ true → is_wanted i o.rows call x ≡ true
  parent_wanted call r x there there_x its some want =
      elim (either_of i.eager (is_needed i.facts o.rows call r) want) [
        | inl all ↦ or_left i.eager (is_needed i.facts o.rows call x) all
        | inr need ↦ or_right i.eager (is_needed i.facts o.rows call x) (parent_needed i.facts o sound call r x there there_x its some need)
      ]

  -- the least wanted row that isn't whole, with its parent
  pub record IsLeast (told : ℕ → Told) (call : Call) (id : ℕ) : Type 0 where
    pub row : Row
    pub there : row_at o.rows id ≡ Some row
    pub want : is_wanted i o.rows call row ≡ true
    pub part : is_complete (told id) ≡ false
    pub parent : (row.parent ≡ 0) ⊎ ((is_live o.rows row.parent ≡ true) × (is_complete (told row.parent) ≡ true))

  pub least_row : (told : ℕ → Told) (call : Call) (id : ℕ) → find (λ a. not (is_complete (told a))) (wanted i o call).ids ≡ Some id → IsLeast told call id
  least_row told call id is =
      let first = first_of (is_wanted i o.rows call) (λ a. not (is_complete (told a))) 0 o.given o.rows id (ascends i.facts o sound) is in
      record { row = first.row; there = first.there; want = first.passes; part = not_true (is_complete (told id)) first.is; parent = parent first (eqb_tells first.row.parent 0) }
    where
      not_true : (b : Bool) → not b ≡ true → b ≡ false
      not_true true is = absurd (cc is)
      not_true false is = refl

      not_false : (b : Bool) → not b ≡ false → b ≡ true
      not_false true is = refl
      not_false false is = absurd (cc is)

      parent : (first : IsFirst (is_wanted i o.rows call) (λ a. not (is_complete (told a))) o.rows id) → ((first.row.parent == 0) ≡ true) × (first.row.parent ≡ 0) ⊎ ((first.row.parent == 0) ≡ false) × (first.row.parent ≡ 0 → ⊥)
          → (first.row.parent ≡ 0) ⊎ ((is_live o.rows first.row.parent ≡ true) × (is_complete (told first.row.parent) ≡ true))
      parent first (inl none) = inl none.1
      parent first (inr some) =
          let its : first.row.id ≡ id = id_of_row o.rows id first.row first.there in
          let there : row_at o.rows first.row.id ≡ Some first.row = ap (row_at o.rows) its ∙ first.there in
          let low = parent_of i.facts o sound first.row there some.1 in
          let x = row_of_live o.rows first.row.parent low.1 in
          let there_x : row_at o.rows x.0.id ≡ Some x.0 = ap (row_at o.rows) x.2 ∙ x.1 in
          inr (
            low.1,
            ap (λ n. is_complete (told n)) (sym x.2)
                ∙ not_false (is_complete (told x.0.id)) (first.before x.0 there_x (parent_wanted call first.row x.0 there there_x x.2 some.1 first.passes) (omega (arith, x.2, low.0, its))),
          )

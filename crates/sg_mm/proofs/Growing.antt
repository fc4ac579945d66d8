-- The ids that end, as they are found: a set grows by what is below one after the other.
use Rattle.std.proofs.Common.{◌≡◌, ℕ, ◌<◌, Bool, true, false, None, Some, refl, sym, ◌∙◌, ap, subst, inl, inr, ◌⊎◌, arith}
use Rattle.std.specs.Prelude.{◌==◌, ◌||◌, nat_lt}
use Rattle.std.specs.declared.option.Option.{Option}
use Rattle.std.specs.BTreeSet.{BTreeSet}
use Rattle.std.proofs.lemmas.Bool.{cases_Bool, or_cases}
use Rattle.std.proofs.lemmas.Bool.Decides.{nat_tests}
use Rattle.sg_facts.proofs.Replaying.Found.{same_test}
use Rattle.sg_mm.specs.declared.child.Child.{Child}
use Rattle.sg_mm.specs.Inside.Children.{AreAboveParents, IsSubtree, has_id, is_child}
use Rattle.sg_mm.specs.Inside.MmIndex.{IsNext}

-- an id comes before the next that is looked at
abbrev pub IsPassed : Option ℕ → ℕ → Type 0
IsPassed None id = Unit {0}
IsPassed (Some next) id = id < next

-- the next that is looked at is in the set
abbrev pub IsThere : BTreeSet ℕ → Option ℕ → Type 0
IsThere ids None = Unit {0}
IsThere ids (Some next) = has_id ids next ≡ true

-- a set has what is below each of its ids that were looked at
pub record IsGrown (children : BTreeSet Child) (root : ℕ) (next : Option ℕ) (ids : BTreeSet ℕ) : Type 0 where
  pub has_root : has_id ids root ≡ true
  pub there : IsThere ids next
  pub has_children : (parent id : ℕ) → IsPassed next parent → has_id ids parent ≡ true → is_child children parent id ≡ true → has_id ids id ≡ true
  pub no_other : (id : ℕ) → has_id ids id ≡ true → (id == root) ≡ false → (parent : ℕ) × (has_id ids parent ≡ true) × (is_child children parent id ≡ true)

-- at first it has just the one whose subtree is sought
pub begins : (children : BTreeSet Child) (root : ℕ) (ids : BTreeSet ℕ) → ((id : ℕ) → has_id ids id ≡ (root == id)) → IsGrown children root (Some root) ids
begins children root ids alone = record {
  has_root = alone root ∙ same_test root root refl;
  there = alone root ∙ same_test root root refl;
  has_children = λ parent id passed has child. absurd (omega (arith, passed, root_only parent has));
  no_other = λ id has apart. let one = root_only id has in let clash : true ≡ false = sym (same_test id root (sym one)) ∙ apart in absurd (cc clash);
}
  where
    root_only : (id : ℕ) → has_id ids id ≡ true → root ≡ id
    root_only id has = let is : (root == id) ≡ true = sym (alone id) ∙ has in grind (arith, nat_tests, is)

-- then it gains what is below one, and the next is the least above it
module _ (children : BTreeSet Child) (root one : ℕ) (next : Option ℕ) (ids ids' : BTreeSet ℕ) (above : AreAboveParents children) (grown : IsGrown children root (Some one) ids)
    (gains : (id : ℕ) → has_id ids' id ≡ (has_id ids id || is_child children one id)) (least : IsNext ids' one next) where
  stays : (id : ℕ) → has_id ids id ≡ true → has_id ids' id ≡ true
  stays id has = gains id ∙ ap (λ b. b || is_child children one id) has

  comes : (id : ℕ) → is_child children one id ≡ true → has_id ids' id ≡ true
  comes id child = gains id ∙ at (has_id ids id) (is_child children one id) child
    where
      at : (x y : Bool) → y ≡ true → (x || y) ≡ true
      at true y is = refl
      at false y is = is

  -- what was there before, or is new
  which : (id : ℕ) → has_id ids' id ≡ true → (has_id ids id ≡ true) ⊎ (is_child children one id ≡ true)
  which id has = or_cases (has_id ids id) (is_child children one id) (sym (gains id) ∙ has)

  next_there : (o : Option ℕ) → IsNext ids' one o → IsThere ids' o
  next_there None is = tt
  next_there (Some n) is = is.1

  -- nothing lies between the one and the next
  none_between : (o : Option ℕ) → IsNext ids' one o → (id : ℕ) → one < id → IsPassed o id → has_id ids' id ≡ false
  none_between None is id later passed = is id later
  none_between (Some n) is id later passed = is.2 id later passed

  with_children : (parent id : ℕ) → IsPassed next parent → has_id ids' parent ≡ true → is_child children parent id ≡ true → has_id ids' id ≡ true
  with_children parent id passed has child = elim (cases_Bool (nat_lt parent one)) [
    | inl before ↦
        let lower : parent < one = grind (arith, nat_tests, before) in
        elim (which parent has) [
          | inl had ↦ stays id (grown.has_children parent id lower had child)
          | inr new ↦ absurd (omega (arith, lower, (above one parent new).0))
        ]
    | inr behind ↦ elim (cases_Bool (parent == one)) [
      | inl same ↦ let is : parent ≡ one = grind (arith, nat_tests, same) in comes id (subst (λ n. is_child children n id ≡ true) is child)
      | inr apart ↦
          let later : one < parent = grind (arith, nat_tests, behind, apart) in
          let clash : true ≡ false = sym has ∙ none_between next least parent later passed in
          absurd (cc clash)
    ]
  ]

  only_children : (id : ℕ) → has_id ids' id ≡ true → (id == root) ≡ false → (parent : ℕ) × (has_id ids' parent ≡ true) × (is_child children parent id ≡ true)
  only_children id has apart = elim (which id has) [
    | inl had ↦ let under = grown.no_other id had apart in (under.0, stays under.0 under.1, under.2)
    | inr new ↦ (one, stays one grown.there, new)
  ]

  pub grows : IsGrown children root next ids'
  grows = record {
    has_root = stays root grown.has_root;
    there = next_there next least;
    has_children = with_children;
    no_other = only_children;
  }

-- where there is no next, it is the subtree
pub whole : (children : BTreeSet Child) (root : ℕ) (ids : BTreeSet ℕ) → IsGrown children root None ids → IsSubtree children root ids
whole children root ids grown = record {
  has_root = grown.has_root;
  has_children = λ parent id has child. grown.has_children parent id tt has child;
  no_other = grown.no_other;
}

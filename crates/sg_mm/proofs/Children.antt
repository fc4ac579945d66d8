-- The index by parent, when pages come and go, and what it has below one page.
use Rattle.std.proofs.Common.{◌≡◌, ℕ, ◌-◌, ◌^◌, ◌<◌, Bool, true, false, cond, not, nat_eq, List, [], ◌∷◌, ◌++◌, None, Some, filter, refl, sym, ◌∙◌, ap, arith}
use Rattle.std.specs.Prelude.{◌==◌, ◌&&◌, ◌||◌}
use Rattle.std.specs.List.{list_any}
use Rattle.std.specs.BTreeMap.{is_at}
use Rattle.std.specs.BTreeSet.{BTreeSet}
use Rattle.std.specs.BTreeMap.Range.{range_contains}
use Rattle.std.specs.declared.ops.Bound.TheVariants.{Included}
use Rattle.std.specs.declared.option.Option.{Option}
use Rattle.std.proofs.lemmas.Bool.Decides.{nat_tests}
use Rattle.std.proofs.lemmas.Map.Entries.{lookup-filter-keys}
use Rattle.sg_slots.specs.Slots.{AreIds, entry_at}
use Rattle.sg_slots.proofs.Ids.{absent}
use Rattle.sg_facts.proofs.Replaying.Found.{same_test}
use Rattle.sg_facts.proofs.Replaying.Steps.{both_true}
use Rattle.sg_mm.specs.declared.child.Child.{Child}
use Rattle.sg_mm.specs.declared.page.Page.{Page}
use Rattle.sg_mm.specs.Inside.Children.{AreOfPages, child_cmp, is_below, is_child, is_hung}
use Rattle.sg_mm.specs.Inside.MmDoes.{hung}

-- ---- a page comes

-- the entry of an id, when one comes above all
entry_more : (low high id n : ℕ) (es : List (ℕ × Page)) (page : Page) → AreIds low high es → high < id → entry_at (es ++ (id, page) ∷ []) n ≡ cond (nat_eq n id) (Some page) (entry_at es n)
entry_more low high id n [] page ids above = refl
entry_more low high id n (e ∷ es) page ids above = at (nat_eq n e.0) refl (entry_more e.0 high id n es page ids.2 above)
  where
    at : (b : Bool) → nat_eq n e.0 ≡ b → entry_at (es ++ (id, page) ∷ []) n ≡ cond (nat_eq n id) (Some page) (entry_at es n)
        → cond b (Some e.1) (entry_at (es ++ (id, page) ∷ []) n) ≡ cond (nat_eq n id) (Some page) (cond b (Some e.1) (entry_at es n))
    at true is rest =
        let other : nat_eq n id ≡ false = grind (arith, nat_tests, is, ids.1, above) in
        sym (ap (λ b. cond b (Some page) (Some e.1)) other)
    at false is rest = rest

-- the new page is below another just where it hangs below it
new_below : (page : Page) (below : Option ℕ) (id parent : ℕ) → page.parent ≡ 0 → ((above : ℕ) → below ≡ Some above → 0 < above) → is_below (Some (hung page below)) parent ≡ is_hung below id parent id
new_below page None id parent own low = grind (arith, nat_tests, own)
new_below page (Some above) id parent own low = let some = low above refl in let same = same_test id id refl in at (above == parent) (parent == 0) refl refl some same
  where
    at : (b c : Bool) → (above == parent) ≡ b → (parent == 0) ≡ c → 0 < above → (id == id) ≡ true → (not c && b) ≡ (b && (id == id))
    at true true is none some same = absurd (grind (arith, nat_tests, is, none, some))
    at true false is none some same = sym same
    at false true is none some same = refl
    at false false is none some same = refl

-- which pages are below another, when a page comes
pub below_more : (low high id : ℕ) (es : List (ℕ × Page)) (page : Page) (below : Option ℕ) (parent n : ℕ) → AreIds low high es → high < id → page.parent ≡ 0 → ((above : ℕ) → below ≡ Some above → 0 < above)
    → is_below (entry_at (es ++ (id, hung page below) ∷ []) n) parent ≡ (is_below (entry_at es n) parent || is_hung below id parent n)
below_more low high id es page below parent n ids above own some =
    ap (λ o. is_below o parent) (entry_more low high id n es (hung page below) ids above) ∙ at (nat_eq n id) refl
  where
    no_more : (o : Option ℕ) (b : Bool) → (id == n) ≡ false → b ≡ (b || is_hung o id parent n)
    no_more None true apart = refl
    no_more None false apart = refl
    no_more (Some a) true apart = refl
    no_more (Some a) false apart = at (a == parent) (id == n) apart
      where
        at : (x y : Bool) → y ≡ false → false ≡ (x && y)
        at true y is = sym is
        at false y is = refl

    at : (b : Bool) → nat_eq n id ≡ b → is_below (cond b (Some (hung page below)) (entry_at es n)) parent ≡ (is_below (entry_at es n) parent || is_hung below id parent n)
    at true is =
        let one : id ≡ n = grind (arith, nat_tests, is) in
        new_below page below id parent own some ∙ ap (is_hung below id parent) one
        ∙ ap (λ o. is_below o parent || is_hung below id parent n) (sym (ap (entry_at es) (sym one) ∙ absent low high id es ids above))
    at false is = let apart : (id == n) ≡ false = grind (arith, nat_tests, is) in no_more below (is_below (entry_at es n) parent) apart

-- ---- pages go

-- which pages are below another, when pages go
pub below_left : (keep : ℕ → Bool) (es : List (ℕ × Page)) (parent n : ℕ) → is_below (entry_at (filter (λ e. keep e.0) es) n) parent ≡ (is_below (entry_at es n) parent && keep n)
below_left keep es parent n =
    ap (λ o. is_below o parent) (lookup-filter-keys (nat_eq n) keep (keep n) (λ k is. let one : k ≡ n = grind (arith, nat_tests, is) in ap keep one) es) ∙ at (keep n) (is_below (entry_at es n) parent) refl
  where
    at : (b c : Bool) → is_below (entry_at es n) parent ≡ c → is_below (cond b (entry_at es n) None) parent ≡ (c && b)
    at true true is = is
    at true false is = is
    at false true is = refl
    at false false is = refl

-- ---- the children of one page

-- a child that fits 64 bits is of a parent and an id where it lies between the least and the greatest child of the parent, and
-- has the id
between_is : (parent n : ℕ) (c : Child) → c.id < 2 ^ 64
    → (range_contains child_cmp (Included (record { parent = parent; id = 0 })) (Included (record { parent = parent; id = 2 ^ 64 - 1 })) c && (c.id == n)) ≡ is_at (child_cmp (record { parent = parent; id = n })) c
between_is parent n c fits = grind (arith, nat_tests, fits)

itself : (c : Child) → is_at (child_cmp c) c ≡ true
itself c = grind (arith, nat_tests)

-- the children that lie between are those of the parent
pub between : (parent n : ℕ) (keys : List Child) → ((c : Child) → list_any (is_at (child_cmp c)) keys ≡ true → c.id < 2 ^ 64)
    → list_any (λ c. c.id == n) (filter (range_contains child_cmp (Included (record { parent = parent; id = 0 })) (Included (record { parent = parent; id = 2 ^ 64 - 1 }))) keys)
    ≡ list_any (is_at (child_cmp (record { parent = parent; id = n }))) keys
between parent n [] fit = refl
between parent n (c ∷ keys) fit =
    at (range_contains child_cmp (Included (record { parent = parent; id = 0 })) (Included (record { parent = parent; id = 2 ^ 64 - 1 })) c)
    (between_is parent n c (fit c (ap (λ b. b || list_any (is_at (child_cmp c)) keys) (itself c))))
    (between parent n keys (λ d there. fit d (later (is_at (child_cmp d) c) (list_any (is_at (child_cmp d)) keys) there)))
  where
    rest : List Child
    rest = filter (range_contains child_cmp (Included (record { parent = parent; id = 0 })) (Included (record { parent = parent; id = 2 ^ 64 - 1 }))) keys

    later : (x y : Bool) → y ≡ true → (x || y) ≡ true
    later true y is = refl
    later false y is = is

    at : (b : Bool) → (b && (c.id == n)) ≡ is_at (child_cmp (record { parent = parent; id = n })) c
        → list_any (λ d. d.id == n) rest ≡ list_any (is_at (child_cmp (record { parent = parent; id = n }))) keys
        → list_any (λ d. d.id == n) (cond b (c ∷ rest) rest) ≡ (is_at (child_cmp (record { parent = parent; id = n })) c || list_any (is_at (child_cmp (record { parent = parent; id = n }))) keys)
    at true is further = ap (λ x. x || list_any (λ d. d.id == n) rest) is ∙ ap (λ x. is_at (child_cmp (record { parent = parent; id = n })) c || x) further
    at false is further = further ∙ ap (λ x. x || list_any (is_at (child_cmp (record { parent = parent; id = n }))) keys) is

-- ---- one child comes or goes

-- a child is the one where both its numbers are
one_child : (above one parent id : ℕ) → is_at (child_cmp (record { parent = above; id = one })) (record { parent = parent; id = id }) ≡ is_hung (Some above) one parent id
one_child above one parent id = grind (arith, nat_tests)

pub gained : (above one parent id : ℕ) (had : Bool) → cond (is_at (child_cmp (record { parent = above; id = one })) (record { parent = parent; id = id })) true had ≡ (had || is_hung (Some above) one parent id)
gained above one parent id had = ap (λ b. cond b true had) (one_child above one parent id) ∙ at (is_hung (Some above) one parent id) had
  where
    at : (b h : Bool) → cond b true h ≡ (h || b)
    at true true = refl
    at true false = refl
    at false true = refl
    at false false = refl

pub lost : (above one parent id : ℕ) (had : Bool) → cond (is_at (child_cmp (record { parent = above; id = one })) (record { parent = parent; id = id })) false had ≡ (had && not (is_hung (Some above) one parent id))
lost above one parent id had = ap (λ b. cond b false had) (one_child above one parent id) ∙ at (is_hung (Some above) one parent id) had
  where
    at : (b h : Bool) → cond b false h ≡ (h && not b)
    at true true = refl
    at true false = refl
    at false true = refl
    at false false = refl

-- a page is taken off its parent, and no other
pub taken_off : (pages : List (ℕ × Page)) (children : BTreeSet Child) (id : ℕ) (page : Page) → AreOfPages pages children → entry_at pages id ≡ Some page
    → (parent n : ℕ) → cond (is_at (child_cmp (record { parent = page.parent; id = id })) (record { parent = parent; id = n })) false (is_child children parent n) ≡ (is_child children parent n && not (n == id))
taken_off pages children id page are there parent n =
    lost page.parent id parent n (is_child children parent n) ∙ at (is_child children parent n) (page.parent == parent) (id == n) (n == id) refl turned parent_is
  where
    turned : (id == n) ≡ (n == id)
    turned = grind (arith, nat_tests)

    parent_is : is_child children parent n ≡ true → (n == id) ≡ true → (page.parent == parent) ≡ true
    parent_is child same =
        let one : n ≡ id = grind (arith, nat_tests, same) in
        let below : is_below (Some page) parent ≡ true = sym (ap (λ o. is_below o parent) (ap (entry_at pages) one ∙ there)) ∙ are parent n child in
        (both_true (not (parent == 0)) (page.parent == parent) below).1

    at : (h p b d : Bool) → is_child children parent n ≡ h → b ≡ d → (h ≡ true → d ≡ true → p ≡ true) → (h && not (p && b)) ≡ (h && not d)
    at true true b d is same so = ap not same
    at true false b true is same so = absurd (cc (so refl refl))
    at true false b false is same so = refl
    at false p b d is same so = refl

-- where no page has the id, it is below none
pub none_taken_off : (pages : List (ℕ × Page)) (children : BTreeSet Child) (id : ℕ) → AreOfPages pages children → entry_at pages id ≡ None → (parent n : ℕ) → is_child children parent n ≡ (is_child children parent n && not (n == id))
none_taken_off pages children id are none parent n = at (is_child children parent n) (n == id) none_is
  where
    none_is : is_child children parent n ≡ true → (n == id) ≡ true → ⊥
    none_is child same =
        let one : n ≡ id = grind (arith, nat_tests, same) in
        let below : is_below None parent ≡ true = sym (ap (λ o. is_below o parent) (ap (entry_at pages) one ∙ none)) ∙ are parent n child in
        absurd (cc below)

    at : (h d : Bool) → (h ≡ true → d ≡ true → ⊥) → h ≡ (h && not d)
    at true true so = absurd (so refl refl)
    at true false so = refl
    at false d so = refl

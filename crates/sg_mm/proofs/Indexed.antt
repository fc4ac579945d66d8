-- The indexes of the pages, when a page comes and when pages go.
use Rattle.std.proofs.Common.{◌≡◌, ℕ, ◌+◌, ◌^◌, ◌<◌, ◌≤◌, Bool, true, false, cond, not, List, [], ◌∷◌, ◌++◌, None, Some, filter, refl, sym, ◌∙◌, ap, subst, inl, inr, arith}
use Rattle.std.specs.Prelude.{◌==◌, ◌&&◌, ◌||◌, find}
use Rattle.std.specs.List.{list_any}
use Rattle.std.specs.declared.option.Option.{Option}
use Rattle.std.specs.Option.{is_some, option_map}
use Rattle.std.specs.BTreeMap.{BTreeMap}
use Rattle.std.specs.BTreeSet.{BTreeSet}
use Rattle.std.proofs.lemmas.Bool.{cases_Bool}
use Rattle.std.proofs.lemmas.Bool.Decides.{nat_tests}
use Rattle.std.proofs.lemmas.Map.Entries.{option_filter}
use Rattle.sg_facts.specs.declared.row.Row.{Row}
use Rattle.sg_facts.specs.Sound.{AreRows}
use Rattle.sg_facts.specs.Track.{ends_with, is_live, row_at}
use Rattle.sg_facts.proofs.RowLists.{left, more, row_of_live}
use Rattle.sg_slots.specs.Slots.{Held, AreIds, entry_at, row_with, rows_of}
use Rattle.sg_slots.proofs.Ids.{absent}
use Rattle.sg_slots.proofs.Rows.{row_at-rows_of}
use Rattle.sg_facts.proofs.Replaying.Found.{above, met, other_test, same_test, within}
use Rattle.sg_facts.proofs.Replaying.Steps.{both_true}
use Rattle.sg_facts.proofs.Replaying.Subtrees.{IsAboveParent}
use Rattle.sg_mm.specs.declared.child.Child.{Child}
use Rattle.sg_mm.specs.declared.page.Page.{Page}
use Rattle.sg_mm.specs.declared.page.PageKey.{PageKey}
use Rattle.sg_mm.specs.Inside.Children.{AreAboveParents, HangsOne, TakesOneOff, has_id, is_below, is_child, is_hung}
use Rattle.sg_mm.specs.Inside.MmDoes.{MayHang, held_with, held_without, hung}
use Rattle.sg_mm.specs.MmFacts.{mm_facts}
use Rattle.sg_mm.specs.Inside.MmIndex.{AreAscending, AreIndexed, ArePlaced, Gains, Loses, id_in, is_in_place, is_place}
use Rattle.sg_mm.specs.Inside.MmPlaces.{first_at, first_passes, none_left, own_left, own_more, page_is_first, place_of_test, some_first, two_apart}
use Rattle.sg_mm.specs.MmRow.{page_body}
use Rattle.sg_mm.specs.MmSound.{HaveOwnAddresses}
use Rattle.sg_mm.specs.MmTable.{is_at}
use Rattle.sg_mm.specs.Inside.MmAnswer.{addr_of, page_at, space_of}
use Rattle.sg_mm.proofs.Children.{below_left, below_more}
use Rattle.sg_mm.proofs.Places.{one_place}

-- the rows of pages
abbrev pub rows : List (ℕ × Page) → List Row
rows pages = rows_of page_body pages

-- a set has the ids of the pages that end with one
abbrev pub EndWith : List (ℕ × Page) → ℕ → BTreeSet ℕ → Type 0
EndWith pages id ends = (n : ℕ) → has_id ends n ≡ (is_live (rows pages) n && ends_with mm_facts (rows pages) id n)

-- ---- rows and pages

-- pages whose rows are under ascending ids are so themselves
pub ids_of_rows : (P : Row → Type 0) (low high : ℕ) (es : List (ℕ × Page)) → AreRows P low high (rows es) → AreIds low high es
ids_of_rows P low high [] are = tt
ids_of_rows P low high (e ∷ es) are = (are.0, are.1, ids_of_rows P e.0 high es are.3)

pub rows-more : (es : List (ℕ × Page)) (e : ℕ × Page) → rows (es ++ e ∷ []) ≡ rows es ++ row_with e.0 (page_body e.1) ∷ []
rows-more [] e = refl
rows-more (x ∷ es) e = ap (λ l. row_with x.0 (page_body x.1) ∷ l) (rows-more es e)

pub rows-left : (keep : ℕ → Bool) (es : List (ℕ × Page)) → rows (filter (λ e. keep e.0) es) ≡ filter (λ r. keep r.id) (rows es)
rows-left keep [] = refl
rows-left keep (e ∷ es) = at (keep e.0) (rows-left keep es)
  where
    at : (b : Bool) → rows (filter (λ x. keep x.0) es) ≡ filter (λ r. keep r.id) (rows es)
        → rows (cond b (e ∷ filter (λ x. keep x.0) es) (filter (λ x. keep x.0) es)) ≡ cond b (row_with e.0 (page_body e.1) ∷ filter (λ r. keep r.id) (rows es)) (filter (λ r. keep r.id) (rows es))
    at true rest = ap (λ l. row_with e.0 (page_body e.1) ∷ l) rest
    at false rest = rest

-- tests that agree on the ids that are there leave the same
same_left : (keep keep' : ℕ → Bool) (es : List (ℕ × Page)) → ((e : ℕ × Page) → is_live (rows es) e.0 ≡ true → keep e.0 ≡ keep' e.0) → filter (λ e. keep e.0) es ≡ filter (λ e. keep' e.0) es
same_left keep keep' [] same = refl
same_left keep keep' (e ∷ es) same =
    let head : is_live (rows (e ∷ es)) e.0 ≡ true = let here : (e.0 == e.0) ≡ true = grind (arith, nat_tests) in ap (λ b. b || is_live (rows es) e.0) here in
    let rest = same_left keep keep' es (λ x live. same x (later x live)) in
    ap (λ b. cond b (e ∷ filter (λ x. keep x.0) es) (filter (λ x. keep x.0) es)) (same e head) ∙ ap (λ l. cond (keep' e.0) (e ∷ l) l) rest
  where
    later : (x : ℕ × Page) → is_live (rows es) x.0 ≡ true → is_live (rows (e ∷ es)) x.0 ≡ true
    later x live = at (e.0 == x.0)
      where
        at : (b : Bool) → (b || is_live (rows es) x.0) ≡ true
        at true = refl
        at false = live

-- ---- places

mapped_some : (o : Option Row) → is_some (option_map (λ r. r.id) o) ≡ is_some o
mapped_some None = refl
mapped_some (Some r) = refl

-- a place is taken where the index has an id for it
pub taken : (held : Held Page) (places : BTreeMap PageKey ℕ) (children : BTreeSet Child) (place : PageKey) → AreIndexed held places children → is_some (id_in places place) ≡ list_any (is_at place.space place.addr) (rows held.entries)
taken held places children place are =
    ap is_some (are.indexed place ∙ page_is_first IsAboveParent 0 held.given (rows held.entries) place.space place.addr are.rows)
    ∙ mapped_some (first_at (rows held.entries) place.space place.addr) ∙ sym (some_first (is_at place.space place.addr) (rows held.entries))

-- the first that passes a test, with one more
first_more : (test : Row → Bool) (rs : List Row) (new : Row) → list_any test rs ≡ false → find test (rs ++ new ∷ []) ≡ cond (test new) (Some new) None
first_more test [] new none = refl
first_more test (r ∷ rs) new none = at (test r) none (first_more test rs new)
  where
    at : (b : Bool) → (b || list_any test rs) ≡ false → (list_any test rs ≡ false → find test (rs ++ new ∷ []) ≡ cond (test new) (Some new) None) → cond b (Some r) (find test (rs ++ new ∷ [])) ≡ cond (test new) (Some new) None
    at true none rest = absurd (cc none)
    at false none rest = rest none

first_others : (test : Row → Bool) (rs : List Row) (new : Row) → test new ≡ false → find test (rs ++ new ∷ []) ≡ find test rs
first_others test [] new fails = ap (λ b. cond b (Some new) None) fails
first_others test (r ∷ rs) new fails = ap (λ o. cond (test r) (Some r) o) (first_others test rs new fails)

-- where no row is left in a place, none is found
first_none : (test : Row → Bool) (rs : List Row) → list_any test rs ≡ false → find test rs ≡ None
first_none test [] none = refl
first_none test (r ∷ rs) none = at (test r) none (first_none test rs)
  where
    at : (b : Bool) → (b || list_any test rs) ≡ false → (list_any test rs ≡ false → find test rs ≡ None) → cond b (Some r) (find test rs) ≡ None
    at true none rest = absurd (cc none)
    at false none rest = rest none

-- the page in a place, when one comes to a place that is free
page_more : (given : ℕ) (rs : List Row) (new : Row) (space addr : ℕ) → AreRows IsAboveParent 0 given rs → new.id ≡ given + 1 → IsAboveParent new
    → list_any (is_at (space_of new) (addr_of new)) rs ≡ false → page_at (rs ++ new ∷ []) space addr ≡ cond (is_at space addr new) (Some new.id) (page_at rs space addr)
page_more given rs new space addr are id lower free =
    page_is_first IsAboveParent 0 new.id (rs ++ new ∷ []) space addr (more IsAboveParent 0 given rs new are (omega (arith, id)) (omega (arith, id)) lower)
    ∙ at (is_at space addr new) refl ∙ ap (cond (is_at space addr new) (Some new.id)) (sym (page_is_first IsAboveParent 0 given rs space addr are))
  where
    at : (b : Bool) → is_at space addr new ≡ b → option_map (λ r. r.id) (find (is_at space addr) (rs ++ new ∷ [])) ≡ cond b (Some new.id) (option_map (λ r. r.id) (first_at rs space addr))
    at true here =
        let place = place_of_test space addr new here in
        let none : list_any (is_at space addr) rs ≡ false = subst (λ s. list_any (is_at s addr) rs ≡ false) place.0 (subst (λ a. list_any (is_at (space_of new) a) rs ≡ false) place.1 free) in
        ap (option_map (λ r. r.id)) (first_more (is_at space addr) rs new none ∙ ap (λ b. cond b (Some new) None) here)
    at false other = ap (option_map (λ r. r.id)) (first_others (is_at space addr) rs new other)

-- what a page may hang below is no 0
hung_some : (held : Held Page) (places : BTreeMap PageKey ℕ) (children : BTreeSet Child) (below : Option ℕ) → AreIndexed held places children → MayHang held below → (parent : ℕ) → below ≡ Some parent → 0 < parent
hung_some held places children None are may parent is = absurd (cc is)
hung_some held places children (Some one) are may parent is =
    let row = row_of_live (rows held.entries) one may in
    let low = above IsAboveParent 0 held.given one (rows held.entries) row.0 are.rows row.1 in
    let same : one ≡ parent = cc is in
    omega (arith, low, row.2, same)

-- what a page may hang below was given
hung_lower : (held : Held Page) (places : BTreeMap PageKey ℕ) (children : BTreeSet Child) (page : Page) (below : Option ℕ) → AreIndexed held places children → page.parent ≡ 0 → MayHang held below
    → (hung page below).parent < held.given + 1
hung_lower held places children page None are own may = omega (arith, own)
hung_lower held places children page (Some parent) are own may =
    let row = row_of_live (rows held.entries) parent may in
    let most = within IsAboveParent 0 held.given parent (rows held.entries) row.0 are.rows row.1 in
    omega (arith, most, row.2)

-- the indexes have a page more
pub indexed_more : (held : Held Page) (places places' : BTreeMap PageKey ℕ) (children children' : BTreeSet Child) (page : Page) (below : Option ℕ) (place : PageKey) → AreIndexed held places children
    → place.space ≡ page.space → place.addr ≡ page.addr → page.parent ≡ 0 → MayHang held below → list_any (is_at page.space page.addr) (rows held.entries) ≡ false
    → Gains places places' place (held.given + 1) → HangsOne children children' below (held.given + 1) → AreIndexed (held_with held (hung page below)) places' children'
indexed_more held places places' children children' page below place are space addr parentless may free gains hangs = record {
  rows = subst (AreRows IsAboveParent 0 (held.given + 1)) (sym all) (more IsAboveParent 0 held.given (rows held.entries) new are.rows (omega arith) (omega arith) lower);
  apart = subst HaveOwnAddresses (sym all) (own_more (rows held.entries) new own_free are.apart);
  indexed = λ q. gains q ∙ ap (λ b. cond b (Some (held.given + 1)) (id_in places q)) (same q)
      ∙ ap (cond (is_at q.space q.addr new) (Some (held.given + 1))) (are.indexed q)
      ∙ sym (page_more held.given (rows held.entries) new q.space q.addr are.rows refl lower own_free) ∙ ap (λ rs. page_at rs q.space q.addr) (sym all);
  below = λ parent id. hangs parent id ∙ ap (λ b. b || is_hung below (held.given + 1) parent id) (are.below parent id)
      ∙ sym (below_more 0 held.given (held.given + 1) held.entries page below parent id (ids_of_rows IsAboveParent 0 held.given held.entries are.rows) (omega arith) parentless (hung_some held places children below are may));
}
  where
    lower : (hung page below).parent < held.given + 1
    lower = hung_lower held places children page below are parentless may

    new : Row
    new = row_with (held.given + 1) (page_body (hung page below))

    all : rows (held.entries ++ (held.given + 1, hung page below) ∷ []) ≡ rows held.entries ++ new ∷ []
    all = rows-more held.entries (held.given + 1, hung page below)

    -- it hangs in its place
    there : (o : Option ℕ) → ((hung page o).space ≡ page.space) × ((hung page o).addr ≡ page.addr)
    there None = (refl, refl)
    there (Some parent) = (refl, refl)

    same : (q : PageKey) → is_place place q ≡ is_at q.space q.addr new
    same q =
        ap (λ n. (n == q.space) && (place.addr == q.addr)) (space ∙ sym (there below).0)
        ∙ ap (λ n. ((hung page below).space == q.space) && (n == q.addr)) (addr ∙ sym (there below).1)

    own_free : list_any (is_at (space_of new) (addr_of new)) (rows held.entries) ≡ false
    own_free = ap (λ s. list_any (is_at s (addr_of new)) (rows held.entries)) (there below).0 ∙ ap (λ a. list_any (is_at page.space a) (rows held.entries)) (there below).1 ∙ free

-- the page in a place, when pages go
page_left : (low high : ℕ) (rs : List Row) (keep : ℕ → Bool) (space addr : ℕ) → AreRows IsAboveParent low high rs → HaveOwnAddresses rs
    → page_at (filter (λ r. keep r.id) rs) space addr ≡ option_filter keep (page_at rs space addr)
page_left low high rs keep space addr are own =
    page_is_first IsAboveParent low high (filter (λ r. keep r.id) rs) space addr (left IsAboveParent (λ r. keep r.id) low high rs are)
    ∙ first_left rs own ∙ ap (option_filter keep) (sym (page_is_first IsAboveParent low high rs space addr are))
  where
    test : Row → Bool
    test = is_at space addr

    stays : (xs : List Row) → List Row
    stays xs = filter (λ r. keep r.id) xs

    id_of : Option Row → Option ℕ
    id_of o = option_map (λ r. r.id) o

    one : (r : Row) (xs : List Row) (b k : Bool) → test r ≡ b → list_any (is_at (space_of r) (addr_of r)) xs ≡ false → keep r.id ≡ k → id_of (find test (stays xs)) ≡ option_filter keep (id_of (find test xs))
        → id_of (find test (cond k (r ∷ stays xs) (stays xs))) ≡ option_filter keep (id_of (cond b (Some r) (find test xs)))
    one r xs true true here none is rest = ap (λ b. id_of (cond b (Some r) (find test (stays xs)))) here ∙ sym (ap (λ b. cond b (Some r.id) None) is)
    one r xs true false here none is rest =
        let place = place_of_test space addr r here in
        let free : list_any test xs ≡ false = subst (λ s. list_any (is_at s addr) xs ≡ false) place.0 (subst (λ a. list_any (is_at (space_of r) a) xs ≡ false) place.1 none) in
        ap id_of (first_none test (stays xs) (none_left test (λ x. keep x.id) xs free)) ∙ sym (ap (λ b. cond b (Some r.id) None) is)
    one r xs false true here none is rest = ap (λ b. id_of (cond b (Some r) (find test (stays xs)))) here ∙ rest
    one r xs false false here none is rest = rest

    first_left : (xs : List Row) → HaveOwnAddresses xs → id_of (find test (stays xs)) ≡ option_filter keep (id_of (find test xs))
    first_left [] own = refl
    first_left (r ∷ xs) own = one r xs (test r) (keep r.id) refl own.0 refl (first_left xs own.1)

-- the indexes without the pages that end
pub indexed_left : (held : Held Page) (places places' : BTreeMap PageKey ℕ) (children children' : BTreeSet Child) (keep : ℕ → Bool) → AreIndexed held places children
    → ((place : PageKey) → id_in places' place ≡ option_filter keep (id_in places place)) → ((parent id : ℕ) → is_child children' parent id ≡ (is_child children parent id && keep id))
    → AreIndexed (record { entries = filter (λ e. keep e.0) held.entries; given = held.given }) places' children'
indexed_left held places places' children children' keep are loses comes_off = record {
  rows = subst (AreRows IsAboveParent 0 held.given) (sym rest) (left IsAboveParent (λ r. keep r.id) 0 held.given (rows held.entries) are.rows);
  apart = subst HaveOwnAddresses (sym rest) (own_left (λ r. keep r.id) (rows held.entries) are.apart);
  indexed = λ q. loses q ∙ ap (option_filter keep) (are.indexed q) ∙ sym (page_left 0 held.given (rows held.entries) keep q.space q.addr are.rows are.apart) ∙ ap (λ rs. page_at rs q.space q.addr) (sym rest);
  below = λ parent id. comes_off parent id ∙ ap (λ b. b && keep id) (are.below parent id) ∙ sym (below_left keep held.entries parent id);
}
  where
    rest : rows (filter (λ e. keep e.0) held.entries) ≡ filter (λ r. keep r.id) (rows held.entries)
    rest = rows-left keep held.entries

-- those that were told to end are those that end
pub told_left : (held : Held Page) (id : ℕ) (ends : BTreeSet ℕ) → EndWith held.entries id ends → filter (λ e. not (has_id ends e.0)) held.entries ≡ (held_without held id).entries
told_left held id ends told =
    same_left (λ n. not (has_id ends n)) (λ n. not (ends_with mm_facts (rows held.entries) id n)) held.entries
    (λ e live. ap not (told e.0 ∙ ap (λ b. b && ends_with mm_facts (rows held.entries) id e.0) live))

-- indexes that tell the same
indexed_same : (held : Held Page) (places places' : BTreeMap PageKey ℕ) (children children' : BTreeSet Child) → AreIndexed held places children → ((place : PageKey) → id_in places' place ≡ id_in places place)
    → ((parent id : ℕ) → is_child children' parent id ≡ is_child children parent id) → AreIndexed held places' children'
indexed_same held places places' children children' are same same_below = record {
  rows = are.rows;
  apart = are.apart;
  indexed = λ place. same place ∙ are.indexed place;
  below = λ parent id. same_below parent id ∙ are.below parent id;
}

-- the indexes are given back what they took for a page that doesn't come
pub given_back : (held : Held Page) (places places' places'' : BTreeMap PageKey ℕ) (children children' children'' : BTreeSet Child) (below : Option ℕ) (one : PageKey) → AreIndexed held places children → id_in places one ≡ None
    → Gains places places' one (held.given + 1) → Loses places' places'' one → HangsOne children children' below (held.given + 1) → TakesOneOff children' children'' below (held.given + 1) → AreIndexed held places'' children''
given_back held places places' places'' children children' children'' below one are free gains loses hangs takes =
    indexed_same held places places'' children children'' are
    (λ place. loses place ∙ ap (λ o. cond (is_place one place) None o) (gains place) ∙ same_place place (is_place one place) refl)
    (λ parent id. takes parent id ∙ ap (λ b. b && not (is_hung below (held.given + 1) parent id)) (hangs parent id) ∙ same_child (is_child children parent id) (is_hung below (held.given + 1) parent id) (not_both parent id))
  where
    same_place : (place : PageKey) (b : Bool) → is_place one place ≡ b → cond b None (cond b (Some (held.given + 1)) (id_in places place)) ≡ id_in places place
    same_place place true is = sym (ap (id_in places) (sym (one_place one place is)) ∙ free)
    same_place place false is = refl

    same_child : (had more : Bool) → (had ≡ true → more ≡ true → ⊥) → ((had || more) && not more) ≡ had
    same_child true true clash = absurd (clash refl refl)
    same_child true false clash = refl
    same_child false true clash = refl
    same_child false false clash = refl

    -- the id that was to come is below none
    not_both : (parent id : ℕ) → is_child children parent id ≡ true → is_hung below (held.given + 1) parent id ≡ true → ⊥
    not_both parent id child hung = at below hung
      where
        none : id ≡ held.given + 1 → ⊥
        none same =
            let gone : entry_at held.entries id ≡ None = absent 0 held.given id held.entries (ids_of_rows IsAboveParent 0 held.given held.entries are.rows) (omega (arith, same)) in
            let clash : is_below None parent ≡ true = sym (ap (λ o. is_below o parent) gone) ∙ sym (are.below parent id) ∙ child in
            absurd (cc clash)

        at : (o : Option ℕ) → is_hung o (held.given + 1) parent id ≡ true → ⊥
        at None is = absurd (cc is)
        at (Some above) is = let two = both_true (above == parent) (held.given + 1 == id) is in let same = two.1 in none (grind (arith, nat_tests, same))

-- ---- what the indexes say of the pages

-- the pages stand under ascending ids
pub ascending : (held : Held Page) (places : BTreeMap PageKey ℕ) (children : BTreeSet Child) → AreIndexed held places children → AreAscending held.entries
ascending held places children are = record { most = held.given; ids = ids_of_rows IsAboveParent 0 held.given held.entries are.rows }

-- the row of a page
row_of : (pages : List (ℕ × Page)) (id : ℕ) (page : Page) → entry_at pages id ≡ Some page → row_at (rows pages) id ≡ Some (row_with id (page_body page))
row_of pages id page there = row_at-rows_of page_body pages id ∙ ap (option_map (λ e. row_with id (page_body e))) there

-- what is below another is a page of a greater id
pub above_parents : (held : Held Page) (places : BTreeMap PageKey ℕ) (children : BTreeSet Child) → AreIndexed held places children → held.given < 2 ^ 64 → AreAboveParents children
above_parents held places children are fits parent id child = at (entry_at held.entries id) refl (sym (are.below parent id) ∙ child)
  where
    at : (o : Option Page) → entry_at held.entries id ≡ o → is_below o parent ≡ true → (parent < id) × (id < 2 ^ 64)
    at None none is = absurd (cc is)
    at (Some page) there is =
        let found = row_of held.entries id page there in
        let lower : page.parent < id = met IsAboveParent 0 held.given id (rows held.entries) (row_with id (page_body page)) are.rows found in
        let most : id ≤ held.given = within IsAboveParent 0 held.given id (rows held.entries) (row_with id (page_body page)) are.rows found in
        let both = both_true (not (parent == 0)) (page.parent == parent) is in
        let same : page.parent ≡ parent = let b = both.1 in grind (arith, nat_tests, b) in
        (omega (arith, lower, same), omega (arith, most, fits))

-- the row of a page that is found in a place tells of each other page whether it is there
module _ (held : Held Page) (place : PageKey) (n id : ℕ) (apart : HaveOwnAddresses (rows held.entries)) (r : Row) (found : row_at (rows held.entries) r.id ≡ Some r)
    (here : (space_of r ≡ place.space) × (addr_of r ≡ place.addr)) (is : r.id ≡ n) where
  -- it is in the place where it is the one
  in_it : (page : Page) → entry_at held.entries id ≡ Some page → (n == id) ≡ true → is_in_place (Some page) place ≡ true
  in_it page there same =
      let one : n ≡ id = grind (arith, nat_tests, same) in
      let own : Row = row_with id (page_body page) in
      let two : Some own ≡ Some r = sym (row_of held.entries id page there) ∙ ap (row_at (rows held.entries)) (sym one ∙ sym is) ∙ found in
      let both : own ≡ r = cc two in
      let space : page.space ≡ place.space = ap space_of both ∙ here.0 in
      let addr : page.addr ≡ place.addr = ap addr_of both ∙ here.1 in
      ap (λ b. b && (page.addr == place.addr)) (same_test page.space place.space space) ∙ same_test page.addr place.addr addr

  -- and in another where it isn't
  not_in_it : (page : Page) → entry_at held.entries id ≡ Some page → (n == id) ≡ false → is_in_place (Some page) place ≡ false
  not_in_it page there other = elim (cases_Bool (is_in_place (Some page) place)) [
    | inl in_place ↦
        let two = both_true (page.space == place.space) (page.addr == place.addr) in_place in
        let space : page.space ≡ place.space = let b = two.0 in grind (arith, nat_tests, b) in
        let addr : page.addr ≡ place.addr = let b = two.1 in grind (arith, nat_tests, b) in
        let ids : id ≡ r.id → ⊥ = λ same. let clash : true ≡ false = sym (same_test n id (sym is ∙ sym same)) ∙ other in absurd (cc clash) in
        absurd (two_apart (rows held.entries) (row_with id (page_body page)) r apart (row_of held.entries id page there) found ids (space ∙ sym here.0) (addr ∙ sym here.1))
    | inr out ↦ out
  ]

  its_place : (o : Option Page) → entry_at held.entries id ≡ o → (n == id) ≡ is_in_place o place
  its_place None none =
      let gone : row_at (rows held.entries) id ≡ None = row_at-rows_of page_body held.entries id ∙ ap (option_map (λ e. row_with id (page_body e))) none in
      other_test n id (λ same. let there : row_at (rows held.entries) id ≡ Some r = ap (row_at (rows held.entries)) (sym same ∙ sym is) ∙ found in let clash : None ≡ Some r = sym gone ∙ there in absurd (cc clash))
  its_place (Some page) there = elim (cases_Bool (n == id)) [ inl same ↦ same ∙ sym (in_it page there same) | inr other ↦ other ∙ sym (not_in_it page there other) ]

-- just the page whose id is told for a place is there
pub placed : (held : Held Page) (places : BTreeMap PageKey ℕ) (children : BTreeSet Child) → AreIndexed held places children → ArePlaced held.entries places
placed held places children are place n id told =
    at (first_at (rows held.entries) place.space place.addr) refl (sym (page_is_first IsAboveParent 0 held.given (rows held.entries) place.space place.addr are.rows) ∙ sym (are.indexed place) ∙ told)
  where
    at : (o : Option Row) → first_at (rows held.entries) place.space place.addr ≡ o → option_map (λ r. r.id) o ≡ Some n → (n == id) ≡ is_in_place (entry_at held.entries id) place
    at None none is = absurd (cc is)
    at (Some r) first is =
        let passes = first_passes IsAboveParent (is_at place.space place.addr) 0 held.given (rows held.entries) r are.rows first in
        let same : r.id ≡ n = cc is in
        its_place held place n id are.apart r passes.1 (place_of_test place.space place.addr r passes.2) same (entry_at held.entries id) refl

-- ---- one page goes from an index

-- the place of a page is freed, and no other
pub freed : (pages : List (ℕ × Page)) (places : BTreeMap PageKey ℕ) (id : ℕ) (page : Page) (one : PageKey) → ArePlaced pages places → entry_at pages id ≡ Some page → one.space ≡ page.space → one.addr ≡ page.addr
    → (place : PageKey) → cond (is_place one place) None (id_in places place) ≡ option_filter (λ n. not (n == id)) (id_in places place)
freed pages places id page one are there space addr place = at (id_in places place) refl (is_place one place) same
  where
    same : is_place one place ≡ is_in_place (entry_at pages id) place
    same =
        ap (λ n. (n == place.space) && (one.addr == place.addr)) space ∙ ap (λ n. (page.space == place.space) && (n == place.addr)) addr
        ∙ sym (ap (λ o. is_in_place o place) there)

    at : (o : Option ℕ) → id_in places place ≡ o → (b : Bool) → b ≡ is_in_place (entry_at pages id) place → cond b None o ≡ option_filter (λ n. not (n == id)) o
    at None none true is = refl
    at None none false is = refl
    at (Some n) told b is = so b ∙ ap (λ c. cond (not c) (Some n) None) (is ∙ sym (are place n id told))
      where
        so : (c : Bool) → cond c None (Some n) ≡ cond (not c) (Some n) None
        so true = refl
        so false = refl

-- where no page has the id, no place has it
pub none_freed : (pages : List (ℕ × Page)) (places : BTreeMap PageKey ℕ) (id : ℕ) → ArePlaced pages places → entry_at pages id ≡ None → (place : PageKey) → id_in places place ≡ option_filter (λ n. not (n == id)) (id_in places place)
none_freed pages places id are none place = at (id_in places place) refl
  where
    at : (o : Option ℕ) → id_in places place ≡ o → o ≡ option_filter (λ n. not (n == id)) o
    at None free = refl
    at (Some n) told = sym (ap (λ c. cond (not c) (Some n) None) (are place n id told ∙ ap (λ o. is_in_place o place) none))

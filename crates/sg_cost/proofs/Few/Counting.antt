-- How many items pass a test, and sums of that over rows.
use Rattle.std.proofs.Common.{◌≡◌, ℕ, ◌+◌, ◌≤◌, Bool, true, false, cond, ◌&&◌, not, List, [], ◌∷◌, ◌++◌, Some, filter, length, refl, sym, ◌∙◌, ap, subst, append-nil, append_assoc, length-append, arith}
use Rattle.std.specs.Prelude.{◌==◌}
use Rattle.std.proofs.lemmas.Bool.Decides.{nat_tests}
use Rattle.std.proofs.lemmas.List.Elements.{filter-append}
use Rattle.sg_facts.specs.Track.{row_at}
use Rattle.sg_facts.specs.declared.outcome.Outcome.{Outcome}
use Rattle.sg_facts.specs.declared.row.Row.{Row}
use Rattle.sg_facts.specs.declared.tables.WalkLine.{WalkLine}
use Rattle.sg_facts.specs.declared.trace.Item.{Item}
use Rattle.sg_facts.specs.declared.trace.Tag.{Tag}
use Rattle.sg_facts.specs.declared.trace.Tag.TheVariants.{Walk, Load, Client}
use Rattle.sg_report.specs.sg_hist.Recovered.{is_replied}
use Rattle.sg_facts.proofs.Replaying.Found.{same_test}
use Rattle.sg_cost.specs.Costs.{all_lengths, walk_length}
use Rattle.sg_report.specs.Inside.Pieces.{is_replay_for}
use Rattle.sg_report.specs.Report.{replays_for}
use Rattle.sg_cost.proofs.Few.Lists.{both_true}

-- ---- elements that pass

-- what passes the one test passes the other: it is no more
pub fewer : {A : Type 0} (one other : A → Bool) → ((x : A) → one x ≡ true → other x ≡ true) → (xs : List A) → length (filter one xs) ≤ length (filter other xs)
fewer one other so [] = omega arith
fewer one other so (x ∷ xs) = by (one x) (other x) (so x) (fewer one other so xs)
  where
    by : (a b : Bool) → (a ≡ true → b ≡ true) → length (filter one xs) ≤ length (filter other xs)
        → length (cond a (x ∷ filter one xs) (filter one xs)) ≤ length (cond b (x ∷ filter other xs) (filter other xs))
    by true true is rest = omega (arith, rest)
    by true false is rest = let no : false ≡ true = is refl in absurd (cc no)
    by false true is rest = omega (arith, rest)
    by false false is rest = rest

-- each that passes is among the first so many that do: there are no more
pub among_first : {A : Type 0} (test : A → Bool) (most : ℕ) (front xs : List A) → ((f : List A) (y : A) (rest : List A) → front ++ xs ≡ f ++ y ∷ rest → test y ≡ true → length (filter test f) + 1 ≤ most)
    → length (filter test front) ≤ most → length (filter test (front ++ xs)) ≤ most
among_first test most front [] each few = subst (λ l. length (filter test l) ≤ most) (sym (append-nil front)) few
among_first test most front (x ∷ xs) each few =
    subst (λ l. length (filter test l) ≤ most) (append_assoc front (x ∷ []) xs)
    (among_first test most (front ++ x ∷ []) xs (λ f y rest is. each f y rest (sym (append_assoc front (x ∷ []) xs) ∙ is)) (by (test x) refl))
  where
    all : length (filter test (front ++ x ∷ [])) ≡ length (filter test front) + length (filter test (x ∷ []))
    all = ap length (filter-append test front (x ∷ [])) ∙ length-append (filter test front) (filter test (x ∷ []))

    by : (b : Bool) → test x ≡ b → length (filter test (front ++ x ∷ [])) ≤ most
    by true is =
        let one : length (filter test (x ∷ [])) ≡ 1 = ap (λ b. length (cond b (x ∷ []) [])) is in
        let here = each front x xs refl is in
        omega (arith, all, one, here)
    by false is =
        let none : length (filter test (x ∷ [])) ≡ 0 = ap (λ b. length (cond b (x ∷ []) [])) is in
        omega (arith, all, none, few)

-- ---- replayed calls

-- a replayed call of an id that meets the one test is one of an id that meets the other
replay_so : (one other : ℕ → Bool) → ((id : ℕ) → one id ≡ true → other id ≡ true) → (tag : Tag) (outcome : Outcome) → is_replay_for one tag outcome ≡ true → is_replay_for other tag outcome ≡ true
replay_so one other so (Walk id k client) outcome is =
    let two = both_true (one id) (is_replied outcome) is in
    ap (λ a. a && is_replied outcome) (so id two.0) ∙ two.1
replay_so one other so (Load key client) outcome is = absurd (cc is)
replay_so one other so (Client client seq) outcome is = absurd (cc is)

pub fewer_replays : (one other : ℕ → Bool) → ((id : ℕ) → one id ≡ true → other id ≡ true) → (items : List Item) → replays_for one items ≤ replays_for other items
fewer_replays one other so items = fewer (λ item. is_replay_for one item.tag item.outcome) (λ item. is_replay_for other item.tag item.outcome) (λ item is. replay_so one other so item.tag item.outcome is) items

pub no_replays : (items : List Item) → replays_for (λ i. false) items ≡ 0
no_replays [] = refl
no_replays (item ∷ items) = ap (λ b. length (cond b (item ∷ filter (λ x. is_replay_for (λ i. false) x.tag x.outcome) items) (filter (λ x. is_replay_for (λ i. false) x.tag x.outcome) items))) (none item.tag item.outcome) ∙ no_replays items
  where
    none : (tag : Tag) (outcome : Outcome) → is_replay_for (λ i. false) tag outcome ≡ false
    none (Walk id k client) outcome = refl
    none (Load key client) outcome = refl
    none (Client client seq) outcome = refl

-- how many, where the first of some items is counted or not
abbrev counted : (ℕ → Bool) → Bool → Item → List Item → ℕ
counted test here item items = length (cond here (item ∷ filter (λ x. is_replay_for test x.tag x.outcome) items) (filter (λ x. is_replay_for test x.tag x.outcome) items))

-- those of one id, and those of the others
abbrev own_of : (ℕ → Bool) → ℕ → ℕ → Bool
own_of test id i = test i && (i == id)

abbrev others_of : (ℕ → Bool) → ℕ → ℕ → Bool
others_of test id i = test i && not (i == id)

pub replays_split : (test : ℕ → Bool) (id : ℕ) (items : List Item) → replays_for test items ≤ replays_for (λ i. test i && (i == id)) items + replays_for (λ i. test i && not (i == id)) items
replays_split test id [] = omega arith
replays_split test id (item ∷ items) = at item.tag item.outcome (replays_split test id items)
  where
    by : (t e r : Bool) → replays_for test items ≤ replays_for (own_of test id) items + replays_for (others_of test id) items
        → counted test (t && r) item items ≤ counted (own_of test id) (t && e && r) item items + counted (others_of test id) (t && not e && r) item items
    by true true true rest = omega (arith, rest)
    by true false true rest = omega (arith, rest)
    by true true false rest = rest
    by true false false rest = rest
    by false e r rest = rest

    at : (tag : Tag) (outcome : Outcome) → replays_for test items ≤ replays_for (own_of test id) items + replays_for (others_of test id) items
        → counted test (is_replay_for test tag outcome) item items ≤ counted (own_of test id) (is_replay_for (own_of test id) tag outcome) item items + counted (others_of test id) (is_replay_for (others_of test id) tag outcome) item items
    at (Walk i k client) outcome rest = by (test i) (i == id) (is_replied outcome) rest
    at (Load key client) outcome rest = rest
    at (Client client seq) outcome rest = rest

-- where no id that meets a test has one, there is none
none_of : (test : ℕ → Bool) (xs : List Item) → ((id : ℕ) → test id ≡ true → replays_for (λ i. i == id) xs ≤ 0) → replays_for test xs ≤ 0
none_of test [] each = omega arith
none_of test (x ∷ xs) each = at x.tag x.outcome each (none_of test xs)
  where
    drop_one : (p : ℕ → Bool) (b : Bool) → counted p b x xs ≤ 0 → replays_for p xs ≤ 0
    drop_one p true few = absurd (omega (arith, few))
    drop_one p false few = few

    later : (b : ℕ → Bool) → ((id : ℕ) → test id ≡ true → counted (λ i. i == id) (b id) x xs ≤ 0) → (((id : ℕ) → test id ≡ true → replays_for (λ i. i == id) xs ≤ 0) → replays_for test xs ≤ 0) → replays_for test xs ≤ 0
    later b each rest = rest (λ id is. drop_one (λ i. i == id) (b id) (each id is))

    at : (tag : Tag) (outcome : Outcome) → ((id : ℕ) → test id ≡ true → counted (λ i. i == id) (is_replay_for (λ i. i == id) tag outcome) x xs ≤ 0)
        → (((id : ℕ) → test id ≡ true → replays_for (λ i. i == id) xs ≤ 0) → replays_for test xs ≤ 0) → counted test (is_replay_for test tag outcome) x xs ≤ 0
    at (Load key client) outcome each rest = later (λ id. false) each rest
    at (Client client seq) outcome each rest = later (λ id. false) each rest
    at (Walk i k client) outcome each rest = by (test i) (is_replied outcome) refl refl
      where
        by : (t r : Bool) → test i ≡ t → is_replied outcome ≡ r → counted test (t && r) x xs ≤ 0
        by true true t_is r_is =
            let own : ((i == i) && is_replied outcome) ≡ true = ap (λ a. a && is_replied outcome) (same_test i i refl) ∙ r_is in
            let few : counted (λ n. n == i) true x xs ≤ 0 = subst (λ b. counted (λ n. n == i) b x xs ≤ 0) own (each i t_is) in
            absurd (omega (arith, few))
        by true false t_is r_is = later (λ id. (i == id) && is_replied outcome) each rest
        by false r t_is r_is = later (λ id. (i == id) && is_replied outcome) each rest

-- ---- over rows

-- where the replayed calls of each id that meets a test are at most those of its row's walk, all of them are at most those of all rows
pub over_rows : (walks : List WalkLine) (items : List Item) (test : ℕ → Bool) (rows : List Row)
    → ((id : ℕ) → test id ≡ true → replays_for (λ i. i == id) items ≤ walk_length walks (row_at rows id)) → replays_for test items ≤ all_lengths walks rows
over_rows walks items test [] each = none_of test items each
over_rows walks items test (r ∷ rows) each =
    let split = replays_split test r.id items in
    let rest = over_rows walks items (λ i. test i && not (i == r.id)) rows others in
    let one = own (test r.id) refl in
    omega (arith, split, rest, one)
  where
    others : (id : ℕ) → (test id && not (id == r.id)) ≡ true → replays_for (λ i. i == id) items ≤ walk_length walks (row_at rows id)
    others id is =
        let two = both_true (test id) (not (id == r.id)) is in
        let apart : (r.id == id) ≡ false = let t = two.1 in grind (arith, nat_tests, t) in
        subst (λ b. replays_for (λ i. i == id) items ≤ walk_length walks (cond b (Some r) (row_at rows id))) apart (each id two.0)

    own : (t : Bool) → test r.id ≡ t → replays_for (λ i. test i && (i == r.id)) items ≤ walk_length walks (Some r)
    own true is =
        let few = fewer_replays (λ i. test i && (i == r.id)) (λ i. i == r.id) (λ id both. (both_true (test id) (id == r.id) both).1) items in
        let bound : replays_for (λ i. i == r.id) items ≤ walk_length walks (Some r)
        = subst (λ b. replays_for (λ i. i == r.id) items ≤ walk_length walks (cond b (Some r) (row_at rows r.id))) (same_test r.id r.id refl) (each r.id is) in
        omega (arith, few, bound)
    own false is =
        let few = fewer_replays (λ i. test i && (i == r.id)) (λ i. false) (λ id both. absurd (
        let two = both_true (test id) (id == r.id) both in
        let same : id ≡ r.id = let t = two.1 in grind (arith, nat_tests, t) in
        let clash : true ≡ false = sym two.0 ∙ ap test same ∙ is in
        cc clash)) items in
        let none = no_replays items in
        omega (arith, few, none)

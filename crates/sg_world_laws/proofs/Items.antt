-- An entry whose item stands in the last boot has its item.

-- an item is among others
use Rattle.std.proofs.Common.{Bool, List, Some, [], cond, false, find, refl, subst, true, ◌++◌, ◌||◌, ◌∙◌, ◌∷◌, ◌≡◌}
use Rattle.std.proofs.lemmas.List.Folds.{list_any-append}
use Rattle.std.specs.List.{list_any}
use Rattle.std.specs.Prelude.{reverse}
use Rattle.sg_facts.specs.sg_base.Lists.{Each}
use Rattle.sg_facts.proofs.Halving.{found}
use Rattle.sg_facts.specs.Trace.{Boot, Run}
use Rattle.sg_facts.specs.declared.entry.Entry.{Entry}
use Rattle.sg_facts.specs.declared.trace.Item.{Item}
use Rattle.sg_recovery_laws.specs.sg_hist.Reading.{Position, is_by_guard, is_item_of, items_of, last_items, older_items, places_from, places_in, places_of}
use Rattle.sg_recovery_laws.proofs.Lists.{each_append}
use Rattle.sg_recovery_laws.proofs.Served.{Has, each_reverse, found_has}
use Rattle.sg_recovery_laws.specs.sg_hist.Growing.{IsInLast}
use Rattle.sg_facts.proofs.Replaying.Found.{within}

abbrev pub IsAmong : List Item → Position → Type 0
IsAmong items p = (test : Item → Bool) → test p.item ≡ true → list_any test items ≡ true

or_left : (a c : Bool) → a ≡ true → (a || c) ≡ true
or_left true c is = refl
or_left false c is = absurd (cc is)

or_right : (a c : Bool) → c ≡ true → (a || c) ≡ true
or_right true c is = refl
or_right false c is = is

any_left : (test : Item → Bool) (xs ys : List Item) → list_any test xs ≡ true → list_any test (xs ++ ys) ≡ true
any_left test xs ys is = list_any-append test xs ys ∙ or_left (list_any test xs) (list_any test ys) is

any_right : (test : Item → Bool) (xs ys : List Item) → list_any test ys ≡ true → list_any test (xs ++ ys) ≡ true
any_right test xs ys is = list_any-append test xs ys ∙ or_right (list_any test xs) (list_any test ys) is

pub among_in : (all older front items newer : List Item) → ((test : Item → Bool) → list_any test items ≡ true → list_any test all ≡ true) → Each (IsAmong all) (places_in older front items newer)
among_in all older front [] newer within = tt
among_in all older front (item ∷ items) newer within =
    ((λ test is. within test (or_left (test item) (list_any test items) is)), among_in all older (front ++ item ∷ []) items newer (λ test is. within test (or_right (test item) (list_any test items) is)))

within_older : (before : List Item) (boots : List Boot) (test : Item → Bool) → list_any test before ≡ true → list_any test (older_items before boots ++ last_items boots) ≡ true
within_older before [] test is = any_left test before [] is
within_older before (b ∷ []) test is = any_left test before b.items is
within_older before (b ∷ c ∷ boots) test is = within_older (before ++ b.items) (c ∷ boots) test (any_left test before b.items is)

pub among_places : (before : List Item) (boots : List Boot) → Each (IsAmong (older_items before boots ++ last_items boots)) (places_from before boots)
among_places before [] = tt
among_places before (b ∷ []) =
    each_append (IsAmong (before ++ b.items)) (places_in before [] b.items (items_of [])) [] (among_in (before ++ b.items) before [] b.items (items_of []) (λ test is. any_right test before b.items is)) tt
among_places before (b ∷ c ∷ boots) =
    let all = older_items (before ++ b.items) (c ∷ boots) ++ last_items (c ∷ boots) in
    each_append (IsAmong all) (places_in before [] b.items (items_of (c ∷ boots))) (places_from (before ++ b.items) (c ∷ boots))
    (among_in all before [] b.items (items_of (c ∷ boots)) (λ test is. within_older (before ++ b.items) (c ∷ boots) test (any_right test before b.items is)))
    (among_places (before ++ b.items) (c ∷ boots))

pub found_passes : (f : Position → Bool) (ps : List Position) (p : Position) → find f ps ≡ Some p → f p ≡ true
found_passes f [] p is = absurd (cc is)
found_passes f (x ∷ ps) p is = at (f x) refl (found_passes f ps p) is
  where
    at : (t : Bool) → f x ≡ t → (find f ps ≡ Some p → f p ≡ true) → cond t (Some x) (find f ps) ≡ Some p → f p ≡ true
    at true passes rest found = let one : x ≡ p = cc found in subst (λ y. f y ≡ true) one passes
    at false fails rest found = rest found

pub has_item : (run : Run) (e : Entry) → IsInLast run e → (is_by_guard e.reply || list_any (is_item_of e) (older_items [] run.boots ++ last_items run.boots)) ≡ true
has_item run e in_last =
    let all = older_items [] run.boots ++ last_items run.boots in
    let among : Has (IsAmong all) (Some in_last.place) = subst (Has (IsAmong all)) in_last.its
    (found_has (IsAmong all) (λ q. is_item_of e q.item) (reverse (places_of run)) (each_reverse (IsAmong all) (places_of run) (among_places [] run.boots))) in
    or_right (is_by_guard e.reply) (list_any (is_item_of e) all) (among (is_item_of e) (found_passes (λ q. is_item_of e q.item) (reverse (places_of run)) in_last.place in_last.its))

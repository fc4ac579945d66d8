-- The item of an entry that stands in the last boot is one of its items.
use Rattle.std.proofs.Common.{◌≡◌, ◌⊎◌, ℕ, suc, ◌+◌, ◌<◌, ◌≤◌, Bool, true, false, ◌||◌, List, [], ◌∷◌, ◌++◌, length, length-append, refl, sym, ap, subst, inl, inr, arith}
use Rattle.std.specs.Prelude.{reverse}
use Rattle.std.specs.List.{list_any}
use Rattle.sg_facts.specs.sg_base.Lists.{Each}
use Rattle.sg_facts.specs.declared.entry.Entry.{Entry}
use Rattle.sg_facts.specs.declared.trace.Item.{Item}
use Rattle.sg_facts.specs.Trace.{Boot, Run}
use Rattle.sg_plain.specs.sg_hist.Growing.{IsInLast}
use Rattle.sg_plain.specs.sg_hist.Reading.{Position, is_item_of, items_of, last_items, older_items, places_from, places_in, places_of}
use Rattle.sg_world.proofs.sg_recovery_laws.Lists.{each_append}
use Rattle.sg_world.proofs.sg_recovery_laws.Served.{Has, each_reverse, found_has}
use Rattle.sg_world.proofs.sg_world_laws.Items.{found_passes}

grows : (before : List Item) (boots : List Boot) → length before ≤ length (older_items before boots)
grows before [] = omega arith
grows before (b ∷ []) = omega arith
grows before (b ∷ c ∷ boots) = let more = grows (before ++ b.items) (c ∷ boots) in let n = length-append before b.items in omega (arith, more, n)

module _ (test : Item → Bool) where
  -- an item that passes stands after fewer items than those of the last boot, or is one of them
  abbrev IsThere : ℕ → List Item → Position → Type 0
  IsThere most items p = test p.item ≡ true → (length p.older < most) ⊎ (list_any test items ≡ true)

  each_early : (most : ℕ) (items older front all newer : List Item) → length older < most → Each (IsThere most items) (places_in older front all newer)
  each_early most items older front [] newer few = tt
  each_early most items older front (x ∷ all) newer few = ((λ passes. inl few), each_early most items older (front ++ x ∷ []) all newer few)

  each_own : (most : ℕ) (items older front all newer : List Item) → ((x : Item) → test x ≡ true → list_any test all ≡ true → list_any test items ≡ true) → Each (IsThere most items) (places_in older front all newer)
  each_own most items older front [] newer so = tt
  each_own most items older front (x ∷ all) newer so =
      ((λ passes. inr (so x passes (ap (λ b. b || list_any test all) passes))), each_own most items older (front ++ x ∷ []) all newer (λ y passes any. so y passes (more (test x) (list_any test all) any)))
    where
      more : (a d : Bool) → d ≡ true → (a || d) ≡ true
      more true d is = refl
      more false d is = is

  each_there : (before : List Item) (boots : List Boot) → Each (IsThere (length (older_items before boots)) (last_items boots)) (places_from before boots)
  each_there before [] = tt
  each_there before (b ∷ []) =
      each_append (IsThere (length before) b.items) (places_in before [] b.items []) [] (each_own (length before) b.items before [] b.items [] (λ x passes any. any)) tt
  each_there before (b ∷ c ∷ boots) =
      let most = length (older_items (before ++ b.items) (c ∷ boots)) in
      each_append (IsThere most (last_items (c ∷ boots))) (places_in before [] b.items (items_of (c ∷ boots))) (places_from (before ++ b.items) (c ∷ boots))
      (by b.items refl) (each_there (before ++ b.items) (c ∷ boots))
    where
      by : (items : List Item) → items ≡ b.items → Each (IsThere (length (older_items (before ++ b.items) (c ∷ boots))) (last_items (c ∷ boots))) (places_in before [] items (items_of (c ∷ boots)))
      by [] same = tt
      by (x ∷ items) same =
          let more = grows (before ++ b.items) (c ∷ boots) in
          let n = length-append before b.items in
          let one : length b.items ≡ suc (length items) = ap length (sym same) in
          each_early (length (older_items (before ++ b.items) (c ∷ boots))) (last_items (c ∷ boots)) before [] (x ∷ items) (items_of (c ∷ boots)) (omega (arith, more, n, one))

pub in_last_items : (run : Run) (e : Entry) → IsInLast run e → list_any (is_item_of e) (last_items run.boots) ≡ true
in_last_items run e is =
    let test : Item → Bool = is_item_of e in
    let there : IsThere test (length (older_items [] run.boots)) (last_items run.boots) is.place
    = subst (Has (IsThere test (length (older_items [] run.boots)) (last_items run.boots))) is.its
    (found_has (IsThere test (length (older_items [] run.boots)) (last_items run.boots)) (λ q. is_item_of e q.item) (reverse (places_of run))
    (each_reverse (IsThere test (length (older_items [] run.boots)) (last_items run.boots)) (places_of run) (each_there test [] run.boots))) in
    by (there (found_passes (λ q. is_item_of e q.item) (reverse (places_of run)) is.place is.its))
  where
    by : (length is.place.older < length (older_items [] run.boots)) ⊎ (list_any (is_item_of e) (last_items run.boots) ≡ true) → list_any (is_item_of e) (last_items run.boots) ≡ true
    by (inl less) = absurd (let same = ap length is.older in omega (arith, less, same))
    by (inr has) = has

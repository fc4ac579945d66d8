-- Each stop so far stays asked for where a run grows, and at its end.
use Rattle.std.proofs.Common.{◌≡◌, ◌≢◌, ◌⊎◌, ℕ, Bool, true, false, ◌||◌, List, [], ◌∷◌, ◌++◌, None, Some, IfSome, Option, refl, sym, ap, subst, inl, inr}
use Rattle.std.specs.List.{list_any}
use Rattle.sg_facts.specs.sg_base.declared.call.Call.{Call}
use Rattle.sg_facts.specs.declared.entry.Entry.{Entry}
use Rattle.sg_facts.specs.declared.trace.Item.{Item}
use Rattle.sg_facts.specs.Interface.{Declared}
use Rattle.sg_facts.specs.Trace.{Boot}
use Rattle.sg_plain.specs.sg_hist.Ending.{AreAsked, AsksAfter, IsAfterCommit}
use Rattle.sg_plain.specs.sg_hist.Growing.{AreKept, IsLastCall, IsOfNoEntry, booted, last_stop, noted, struck}
use Rattle.sg_plain.specs.sg_hist.Inside.Parts.{EndsQuiet}
use Rattle.sg_plain.specs.sg_hist.Reading.{is_by_guard, is_item_of, items_of, last_items, older_items}
use Rattle.sg_plain.proofs.sg_hist.Growing.{items_booted, items_more, items_struck}
use Rattle.sg_play.proofs.Striking.Asks.{asks_entered, asks_kept, asks_noted}
use Rattle.sg_play.specs.Striking.Striking.{AreAskedSoFar, SomeCallAsks}

abbrev no_boots : List Boot
no_boots = []

if_some : (o : Option ℕ) (P Q : ℕ → Type 0) → ((s : ℕ) → P s → Q s) → IfSome o P → IfSome o Q
if_some None P Q so is = is
if_some (Some s) P Q so is = so s is

-- what asks then asks now
or_asks : (o : Option ℕ) (C : ℕ → Type 0) (A B : Type 0) → (A → B) → IfSome o (λ stop. C stop ⊎ A) → IfSome o (λ stop. C stop ⊎ B)
or_asks o C A B so = if_some o (λ stop. C stop ⊎ A) (λ stop. C stop ⊎ B) (λ stop is. by stop is)
  where
    by : (stop : ℕ) → C stop ⊎ A → C stop ⊎ B
    by stop (inl commit) = inl commit
    by stop (inr asks) = inr (so asks)

no_stop : (o : Option ℕ) (P : ℕ → Type 0) → o ≡ None → IfSome o P
no_stop o P none = subst (λ s. IfSome s P) (sym none) tt

module _ (i : Declared) (h : List Entry) (u u' : List Call) where
  -- as many calls are made, or more
  pub asked_kept : AreKept h u h u' → (older : List Item) (boots : List Boot) → AreAskedSoFar i h u older boots → AreAskedSoFar i h u' older boots
  asked_kept kept older [] is = tt
  asked_kept kept older (b ∷ boots) is = (
    or_asks b.stop (IsAfterCommit i.facts b.items) (SomeCallAsks i h u older b.items (items_of boots)) (SomeCallAsks i h u' older b.items (items_of boots)) (asks_kept i h u u' older b.items (items_of boots) kept) is.0,
    asked_kept kept (older ++ b.items) boots is.1,
  )

  -- an item is noted in a boot that goes on
  pub asked_noted : (x : Item) → IsOfNoEntry x h → AreKept h u h u' → (older : List Item) (b : Boot) (boots : List Boot) → last_stop (b ∷ boots) ≡ None → AreAskedSoFar i h u older (b ∷ boots)
      → AreAskedSoFar i h u' older (noted (b ∷ boots) x)
  asked_noted x none kept older b [] running is = (no_stop b.stop (λ stop. IsAfterCommit i.facts (b.items ++ x ∷ []) stop ⊎ SomeCallAsks i h u' older (b.items ++ x ∷ []) []) running, tt)
  asked_noted x none kept older b (c ∷ boots) running is = (
    subst (λ l. IfSome b.stop (λ stop. IsAfterCommit i.facts b.items stop ⊎ SomeCallAsks i h u' older b.items l)) (sym (items_more c boots x))
        (or_asks b.stop (IsAfterCommit i.facts b.items) (SomeCallAsks i h u older b.items (items_of (c ∷ boots))) (SomeCallAsks i h u' older b.items (items_of (c ∷ boots) ++ x ∷ []))
        (asks_noted i h u u' older b.items (items_of (c ∷ boots)) x none kept) is.0),
    asked_noted x none kept (older ++ b.items) c boots running is.1,
  )

  -- an entry is appended that the guard refused, or whose item stands in the last boot, which goes on
  pub asked_entered : (e : Entry) → IsLastCall h u e.call → AreKept h u (h ++ e ∷ []) u' → (older : List Item) (boots : List Boot)
      → (is_by_guard e.reply ≡ true) ⊎ ((last_stop boots ≡ None) × (list_any (is_item_of e) (last_items boots) ≡ true)) → AreAskedSoFar i h u older boots → AreAskedSoFar i (h ++ e ∷ []) u' older boots
  asked_entered e last kept older [] whose is = tt
  asked_entered e last kept older (b ∷ []) (inl guards) is = (
    or_asks b.stop (IsAfterCommit i.facts b.items) (SomeCallAsks i h u older b.items []) (SomeCallAsks i (h ++ e ∷ []) u' older b.items [])
        (asks_entered i h u u' older b.items [] e (ap (λ g. g || false) guards) last kept) is.0,
    tt,
  )
  asked_entered e last kept older (b ∷ []) (inr held) is = (no_stop b.stop (λ stop. IsAfterCommit i.facts b.items stop ⊎ SomeCallAsks i (h ++ e ∷ []) u' older b.items []) held.0, tt)
  asked_entered e last kept older (b ∷ c ∷ boots) whose is = (
    or_asks b.stop (IsAfterCommit i.facts b.items) (SomeCallAsks i h u older b.items (items_of (c ∷ boots))) (SomeCallAsks i (h ++ e ∷ []) u' older b.items (items_of (c ∷ boots)))
        (asks_entered i h u u' older b.items (items_of (c ∷ boots)) e (elsewhere whose) last kept) is.0,
    asked_entered e last kept (older ++ b.items) (c ∷ boots) whose is.1,
  )
    where
      either : (a d : Bool) → d ≡ true → (a || d) ≡ true
      either true d is = refl
      either false d is = is

      among_last : (test : Item → Bool) (l : List Boot) → list_any test (last_items l) ≡ true → list_any test (items_of l) ≡ true
      among_last test [] is = is
      among_last test (b ∷ []) is = front b.items is
        where
          front : (xs : List Item) → list_any test xs ≡ true → list_any test (xs ++ []) ≡ true
          front [] is = is
          front (x ∷ xs) is = at (test x) is (front xs)
            where
              at : (t : Bool) → (t || list_any test xs) ≡ true → (list_any test xs ≡ true → list_any test (xs ++ []) ≡ true) → (t || list_any test (xs ++ [])) ≡ true
              at true is rest = refl
              at false is rest = rest is
      among_last test (b ∷ c ∷ l) is = behind b.items (among_last test (c ∷ l) is)
        where
          behind : (xs : List Item) → list_any test (items_of (c ∷ l)) ≡ true → list_any test (xs ++ items_of (c ∷ l)) ≡ true
          behind [] is = is
          behind (x ∷ xs) is = either (test x) (list_any test (xs ++ items_of (c ∷ l))) (behind xs is)

      elsewhere : (is_by_guard e.reply ≡ true) ⊎ ((last_stop (c ∷ boots) ≡ None) × (list_any (is_item_of e) (last_items (c ∷ boots)) ≡ true)) → (is_by_guard e.reply || list_any (is_item_of e) (items_of (c ∷ boots))) ≡ true
      elsewhere (inl guards) = ap (λ g. g || list_any (is_item_of e) (items_of (c ∷ boots))) guards
      elsewhere (inr held) = either (is_by_guard e.reply) (list_any (is_item_of e) (items_of (c ∷ boots))) (among_last (is_item_of e) (c ∷ boots) held.1)

module _ (i : Declared) (h : List Entry) (u : List Call) where
  -- the last boot stops, right after a commit or where some call asks
  pub asked_struck : (stop : ℕ) (older : List Item) (b : Boot) (boots : List Boot)
      → IsAfterCommit i.facts (last_items (b ∷ boots)) stop ⊎ SomeCallAsks i h u (older_items older (b ∷ boots)) (last_items (b ∷ boots)) []
      → AreAskedSoFar i h u older (b ∷ boots) → AreAskedSoFar i h u older (struck (b ∷ boots) stop)
  asked_struck stop older b [] own is = (own, tt)
  asked_struck stop older b (c ∷ boots) own is = (
    subst (λ l. IfSome b.stop (λ s. IsAfterCommit i.facts b.items s ⊎ SomeCallAsks i h u older b.items l)) (sym (items_struck (c ∷ boots) stop)) is.0,
    asked_struck stop (older ++ b.items) c boots own is.1,
  )

  -- the service is booted again
  pub asked_booted : (older : List Item) (boots : List Boot) → AreAskedSoFar i h u older boots → AreAskedSoFar i h u older (booted boots)
  asked_booted older [] is = (tt, tt)
  asked_booted older (b ∷ boots) is = (
    subst (λ l. IfSome b.stop (λ s. IsAfterCommit i.facts b.items s ⊎ SomeCallAsks i h u older b.items l)) (sym (items_booted boots)) is.0,
    asked_booted (older ++ b.items) boots is.1,
  )

  -- at the end the last boot stopped right after a commit, if it did
  pub asked_over : (older : List Item) (boots : List Boot) → EndsQuiet i.facts boots → AreAskedSoFar i h u older boots → AreAsked i h u older boots
  asked_over older [] quiet is = tt
  asked_over older (b ∷ []) quiet is = (
    if_some b.stop (IsAfterCommit i.facts b.items) (λ s. IsAfterCommit i.facts b.items s ⊎ ((no_boots ≢ []) × ((call : Call) × AsksAfter i h u older b.items [] call))) (λ s commit. inl commit) quiet,
    tt,
  )
  asked_over older (b ∷ c ∷ boots) quiet is = (
    if_some b.stop (λ s. IsAfterCommit i.facts b.items s ⊎ SomeCallAsks i h u older b.items (items_of (c ∷ boots)))
        (λ s. IsAfterCommit i.facts b.items s ⊎ ((c ∷ boots ≢ []) × ((call : Call) × AsksAfter i h u older b.items (items_of (c ∷ boots)) call))) (λ s one. by s one) is.0,
    asked_over (older ++ b.items) (c ∷ boots) quiet is.1,
  )
    where
      by : (s : ℕ) → IsAfterCommit i.facts b.items s ⊎ SomeCallAsks i h u older b.items (items_of (c ∷ boots))
          → IsAfterCommit i.facts b.items s ⊎ ((c ∷ boots ≢ []) × ((call : Call) × AsksAfter i h u older b.items (items_of (c ∷ boots)) call))
      by s (inl commit) = inl commit
      by s (inr asks) = inr (λ none. cc none, (asks.call, asks.asks))

-- A run recovers whichever held replies are committed first: this is kept when one of them is committed, when a visible call is
-- committed, when the guard refuses, when an item is noted, and when a reply more is held.
use Rattle.std.proofs.Common.{◌≡◌, ℕ, suc, ◌+◌, Bool, true, false, List, [], ◌∷◌, ◌++◌, length, length-append, not, refl, sym, ◌∙◌, ap, subst, inl, inr, append_assoc, arith}
use Rattle.std.specs.Prelude.{◌≢◌, ◌||◌, ◌&&◌}
use Rattle.std.specs.List.{Contains, list_any}
use Rattle.std.proofs.lemmas.List.Elements.{Contains-append_left, Contains-append_right, Contains-append_cases}
use Rattle.sg_facts.specs.sg_base.Lists.{Each}
use Rattle.sg_facts.specs.sg_base.declared.call.Call.{Call}
use Rattle.sg_facts.specs.declared.entry.Entry.{Entry}
use Rattle.sg_facts.specs.declared.trace.Item.{Item}
use Rattle.sg_facts.specs.Facts.{is_visible}
use Rattle.sg_facts.specs.Trace.{Boot, Run}
use Rattle.sg_recovery_laws.specs.sg_hist.Reading.{Position, items_after, is_by_guard, is_item_of, places_from, places_of, stands_before}
use Rattle.sg_recovery_laws.specs.sg_hist.Inside.Reads.{past}
use Rattle.sg_recovery_laws.specs.sg_hist.Recovered.{Stubs, is_visible_reply}
use Rattle.sg_recovery_laws.specs.sg_hist.Growing.{AreKept, IsHeldReply, IsItemOf, IsLastCall, IsNextItem, IsRecovering, IsSettled, IsOfNoEntry, noted, place_after}
use Rattle.sg_recovery_laws.proofs.sg_hist.Growing.{places-more, stands_before-own}
use Rattle.sg_recovery_laws.proofs.Events.{own_item, with_last}
use Rattle.sg_recovery_laws.proofs.Lists.{each_append, each_contains, each_map}
use Rattle.sg_recovery_laws.proofs.Onward.{committed_stays, held_stays, noted_stays, refused_stays}
use Rattle.sg_world_laws.specs.Keeping.{ClientsDiffer, AreDrawn}
use Rattle.sg_recovery_laws.specs.Objects.Waiting.{NoneBy}
use Rattle.sg_world_laws.proofs.Drawn.{none_apart}
use Rattle.sg_recovery_laws.proofs.LastItem.Reorder.{moved_front}

-- whichever held replies are committed first, the run recovers
abbrev pub AllRecover : Stubs → List Entry → List Entry → Run → List Call → Type 0
AllRecover s h ws run u = (es : List Entry) → AreDrawn ws es → IsRecovering s (h ++ es) run u

-- ---- what is drawn

pub drawn_each : (P : Entry → Type 0) (ws es : List Entry) → Each P ws → AreDrawn ws es → Each P es
drawn_each P ws es all drawn = each_map (Contains ws) P es (λ e has. each_contains P ws e all has) drawn.each

around : (pre post : List Entry) (p e : Entry) → Contains (pre ++ post) e → Contains (pre ++ p ∷ post) e
around pre post p e has = elim (Contains-append_cases pre post e has) [
  | inl one ↦ Contains-append_left pre (p ∷ post) e one
  | inr one ↦ Contains-append_right pre (p ∷ post) e (Contains-append_right (p ∷ []) post e one)
]

own_one : (pre post : List Entry) (p : Entry) → Contains (pre ++ p ∷ post) p
own_one pre post p = Contains-append_right pre (p ∷ post) p (0, omega arith, refl)

-- one that is committed goes before those drawn of the others
pub drawn_with : (pre post es : List Entry) (p : Entry) → ClientsDiffer (pre ++ p ∷ post) → AreDrawn (pre ++ post) es → AreDrawn (pre ++ p ∷ post) (p ∷ es)
drawn_with pre post es p apart drawn =
    let none = none_apart pre post p apart in
    record {
      each = (own_one pre post p, each_map (Contains (pre ++ post)) (Contains (pre ++ p ∷ post)) es (around pre post p) drawn.each);
      apart = (drawn_each (λ e. e.call.client ≢ p.call.client) (pre ++ post) es (each_append (λ e. e.call.client ≢ p.call.client) pre post none.0 none.1) drawn, drawn.apart);
      few = let n : length (pre ++ post) ≡ length pre + length post = length-append pre post in
          let m : length (pre ++ p ∷ post) ≡ length pre + suc (length post) = length-append pre (p ∷ post) in omega (arith, n, m, drawn.few);
    }

-- ---- a held reply is committed

pub held_ahead : (s : Stubs) (h pre post : List Entry) (p : Entry) (run : Run) (u : List Call) → ClientsDiffer (pre ++ p ∷ post) → AllRecover s h (pre ++ p ∷ post) run u → AllRecover s (h ++ p ∷ []) (pre ++ post) run u
held_ahead s h pre post p run u apart all es drawn =
    subst (λ l. IsRecovering s l run u) (sym (append_assoc h (p ∷ []) es)) (all (p ∷ es) (drawn_with pre post es p apart drawn))

-- ---- a refusal by the guard

guard_nowhere : (e : Entry) → is_by_guard e.reply ≡ true → (ps : List Position) → Each (λ p. stands_before p e ≡ false) ps
guard_nowhere e guards [] = tt
guard_nowhere e guards (p ∷ ps) = (ap (λ b. not b && list_any (is_item_of e) (past p) && not (list_any (is_item_of e) (p.item ∷ items_after p))) guards, guard_nowhere e guards ps)

pub refused_ahead : (s : Stubs) (h ws : List Entry) (e : Entry) (run : Run) (u u' : List Call) → is_by_guard e.reply ≡ true → NoneBy e.call.client ws → Each (λ x. is_visible s.interface.facts x.call.fun ≡ false) ws
    → ((es : List Entry) → AreDrawn ws es → IsLastCall (h ++ es) u e.call × Each (λ x. IsLastCall (h ++ e ∷ es) u' x.call) es × AreKept (h ++ es) u ((h ++ es) ++ e ∷ []) u') → AllRecover s h ws run u → AllRecover s (h ++ e ∷ []) ws run u'
refused_ahead s h ws e run u u' guards none hidden kept all es drawn =
    subst (λ l. IsRecovering s l run u') (sym (append_assoc h (e ∷ []) es))
    (moved_front s h es e run u' (drawn_each (λ x. x.call.client ≢ e.call.client) ws es none drawn) (guard_nowhere e guards (places_of run)) (drawn_each (λ x. is_visible s.interface.facts x.call.fun ≡ false) ws es hidden drawn) (kept es drawn).1
    (refused_stays s (h ++ es) run u u' e guards (kept es drawn).0 (kept es drawn).2 (all es drawn)))

-- ---- an item is noted

pub noted_ahead : (s : Stubs) (h ws : List Entry) (b : Boot) (boots : List Boot) (points later : ℕ) (u u' : List Call) (item : Item) → is_visible_reply s.interface.facts item ≡ false
    → ((es : List Entry) → AreDrawn ws es → IsOfNoEntry item (h ++ es) × AreKept (h ++ es) u (h ++ es) u' × IsNextItem s (h ++ es) u' (place_after [] (b ∷ boots) item))
    → AllRecover s h ws (record { boots = b ∷ boots; points = points }) u → AllRecover s h ws (record { boots = noted (b ∷ boots) item; points = later }) u'
noted_ahead s h ws b boots points later u u' item plain each all es drawn =
    let so = each es drawn in
    noted_stays s (h ++ es) b boots points later u u' item so.0 plain so.1 so.2 (all es drawn)

-- ---- a visible call is committed with its item

-- the entry stands before no place, as its item is the last
own_nowhere : (b : Boot) (boots : List Boot) (item : Item) (e : Entry) → is_item_of e item ≡ true → Each (λ p. stands_before p e ≡ false) (places_from [] (noted (b ∷ boots) item))
own_nowhere b boots item e own =
    with_last item (place_after [] (b ∷ boots) item) (λ p. Unit {0}) (λ p. stands_before p e ≡ false) (places_from [] (b ∷ boots)) (places_from [] (noted (b ∷ boots) item)) (places-more [] b boots item)
    (λ p q g is. stands_before-own item p q e g own) (last (place_after [] (b ∷ boots) item) (own_item [] b boots item)) (nothing (places_from [] (b ∷ boots)))
  where
    nothing : (ps : List Position) → Each (λ p. Unit {0}) ps
    nothing [] = tt
    nothing (p ∷ ps) = (tt, nothing ps)

    at : (g a o : Bool) → o ≡ true → (g && a && not (o || false)) ≡ false
    at g a false is = absurd (cc is)
    at false a true is = refl
    at true false true is = refl
    at true true true is = refl

    last : (q : Position) → q.item ≡ item → stands_before q e ≡ false
    last q same = three (not (is_by_guard e.reply)) (list_any (is_item_of e) (past q)) (is_item_of e q.item) (list_any (is_item_of e) (items_after q)) (ap (is_item_of e) same ∙ own)
      where
        three : (g a o r : Bool) → o ≡ true → (g && a && not (o || r)) ≡ false
        three g a false r is = absurd (cc is)
        three false a true r is = refl
        three true false true r is = refl
        three true true true r is = refl

pub served_ahead : (s : Stubs) (h ws : List Entry) (b : Boot) (boots : List Boot) (points later : ℕ) (u u' : List Call) (item : Item) (e : Entry) → is_item_of e item ≡ true → NoneBy e.call.client ws
    → Each (λ x. is_visible s.interface.facts x.call.fun ≡ false) ws
    → ((es : List Entry) → AreDrawn ws es
    → IsOfNoEntry item (h ++ es) × IsItemOf s.interface.facts (h ++ es) (place_after [] (b ∷ boots) item) e × IsLastCall (h ++ es) u e.call × AreKept (h ++ es) u ((h ++ es) ++ e ∷ []) u'
    × IsNextItem s ((h ++ es) ++ e ∷ []) u' (place_after [] (b ∷ boots) item) × Each (λ x. IsLastCall (h ++ e ∷ es) u' x.call) es)
    → AllRecover s h ws (record { boots = b ∷ boots; points = points }) u → AllRecover s (h ++ e ∷ []) ws (record { boots = noted (b ∷ boots) item; points = later }) u'
served_ahead s h ws b boots points later u u' item e own none hidden each all es drawn =
    let so = each es drawn in
    let run' : Run = record { boots = noted (b ∷ boots) item; points = later } in
    subst (λ l. IsRecovering s l run' u') (sym (append_assoc h (e ∷ []) es))
    (moved_front s h es e run' u' (drawn_each (λ x. x.call.client ≢ e.call.client) ws es none drawn) (own_nowhere b boots item e own) (drawn_each (λ x. is_visible s.interface.facts x.call.fun ≡ false) ws es hidden drawn) so.5
    (committed_stays s (h ++ es) b boots points later u u' item e so.0 so.1 so.2 so.3 so.4 (all es drawn)))

-- ---- a reply more is held

-- of what is drawn with a reply more, either it is none, or it stands at a place
record HasOne (ws es : List Entry) (p : Entry) : Type 0 where
  front : List Entry
  rest : List Entry
  is : es ≡ front ++ p ∷ rest
  others : AreDrawn ws (front ++ rest)

-- (that a drawn list either leaves the reply out or has it at one place is decided by clients)
pub holds_ahead_with : (s : Stubs) (h front rest : List Entry) (p : Entry) (b : Boot) (boots : List Boot) (points : ℕ) (u : List Call) (item : Item) → is_item_of p item ≡ true → NoneBy p.call.client rest
    → Each (λ x. is_visible s.interface.facts x.call.fun ≡ false) rest → IsHeldReply s.interface.facts (h ++ (front ++ rest)) (record { boots = noted (b ∷ boots) item; points = points }) p → IsLastCall (h ++ (front ++ rest)) u p.call
    → AreKept (h ++ (front ++ rest)) u ((h ++ (front ++ rest)) ++ p ∷ []) u
    → Each (λ x. IsLastCall ((h ++ front) ++ p ∷ rest) u x.call) rest → IsRecovering s (h ++ (front ++ rest)) (record { boots = noted (b ∷ boots) item; points = points }) u
    → IsRecovering s (h ++ (front ++ p ∷ rest)) (record { boots = noted (b ∷ boots) item; points = points }) u
holds_ahead_with s h front rest p b boots points u item own none hidden held last kept lasts r =
    let run' : Run = record { boots = noted (b ∷ boots) item; points = points } in
    let nowhere = own_nowhere b boots item p own in
    let after_all : IsRecovering s ((h ++ (front ++ rest)) ++ p ∷ []) run' u
    = held_stays s (h ++ (front ++ rest)) run' u u p held last kept
    (each_map (λ q. stands_before q p ≡ false) (λ q. stands_before q p ≡ true → IsSettled s ((h ++ (front ++ rest)) ++ p ∷ []) u q) (places_of run') (λ q isn't is. absurd (cc (isn't, is))) nowhere) r in
    subst (λ l. IsRecovering s l run' u) (append_assoc h front (p ∷ rest))
    (moved_front s (h ++ front) rest p run' u none nowhere hidden lasts (subst (λ l. IsRecovering s (l ++ p ∷ []) run' u) (sym (append_assoc h front rest)) after_all))

-- Where the trigger is answered client 1 made two calls, and the wait is its fourth.
use Rattle.std.proofs.Common.{◌≡◌, ◌≢◌, ℕ, ◌+◌, ◌≤◌, true, List, [], ◌∷◌, ◌++◌, length, refl, sym, ◌∙◌, ap, subst, arith, append-nil, append_assoc}
use Rattle.std.specs.Prelude.{drop, slice_get, take}
use Rattle.sg_multi.proofs.Merging.{at_mapped}
use Rattle.sg_multi.specs.Merged.{MultiEntry, number_over_all, own_in}
use Rattle.sg_multi.specs.Played.{IsAskedInTurn}
use Rattle.sg_multi.specs.sg_sim.sg_play.sg_hist.declared.ended.Ended.{Ended}
use Rattle.sg_plain.specs.sg_hist.Reading.{Position, places_of, stands_before}
use Rattle.sg_plain.specs.sg_hist.Recovered.{is_answered_later}
use Rattle.test_recovery.specs.EventRuns.{event_stubs}
use Rattle.test_recovery.specs.Written.{bare_call, call_with, called, replied, word}
use Rattle.test_recovery.specs.sg_facts.Facts.{is_visible}
use Rattle.test_recovery.specs.sg_facts.declared.trace.Item.{Item}
use Rattle.test_recovery.specs.sg_facts.Trace.{run_of}
use Rattle.test_recovery.specs.sg_facts.sg_base.Lists.{Each}
use Rattle.test_recovery.specs.test_histories.Written.{entry, ok, ok_at}
use Rattle.test_recovery.specs.test_histories.sg_event.EventFacts.{event_facts}
use Rattle.test_plays.specs.SeveralPlays.{taken_then_waited, waited_early}
use Rattle.test_plays.proofs.several.earlier_calls_first.Goals as goal

-- something holds of each entry, with those before it
abbrev EachAfter : (List MultiEntry → MultiEntry → Type 0) → List MultiEntry → List MultiEntry → Type 0
EachAfter P front [] = Unit {0}
EachAfter P front (e ∷ es) = P front e × EachAfter P (front ++ e ∷ []) es

after_front : (P : List MultiEntry → MultiEntry → Type 0) (front es : List MultiEntry) → EachAfter P front es → (before : List MultiEntry) (e : MultiEntry) (later : List MultiEntry) → es ≡ before ++ e ∷ later → P (front ++ before) e
after_front P front [] all [] e later same = absurd (cc same)
after_front P front [] all (b ∷ before) e later same = absurd (cc same)
after_front P front (x ∷ es) all [] e later same = let its : x ≡ e = cc same in subst (P (front ++ [])) its (subst (λ l. P l x) (sym (append-nil front)) all.0)
after_front P front (x ∷ es) all (b ∷ before) e later same =
    let head : x ≡ b = cc same in
    let tail : es ≡ before ++ e ∷ later = cc same in
    subst (λ l. P l e) (append_assoc front (x ∷ []) before ∙ ap (λ y. front ++ y ∷ before) head) (after_front P (front ++ x ∷ []) es all.1 before e later tail)

-- what is asked of an entry of the second member, with those before it
abbrev IsBehind : Position → ℕ → ℕ → List MultiEntry → MultiEntry → Type 0
IsBehind p client seq before e = e.member ≡ 2 → is_visible event_facts e.entry.call.fun ≡ true → is_answered_later (stands_before p) e.entry ≡ true → number_over_all taken_then_waited 2 client seq ≤ length (own_in client before) + 1

behind : (p : Position) (client seq : ℕ) → EachAfter (IsBehind p client seq) [] taken_then_waited → (before : List MultiEntry) (e : MultiEntry) (later : List MultiEntry) → taken_then_waited ≡ before ++ e ∷ later
    → e.member ≡ 2 → is_visible event_facts e.entry.call.fun ≡ true → is_answered_later (stands_before p) e.entry ≡ true → number_over_all taken_then_waited 2 client seq ≤ length (own_in client before) + 1
behind p client seq all = after_front (IsBehind p client seq) [] taken_then_waited all

-- where the items of the second member stand
abbrev made : Item
made = called (bare_call 1 1 1 0) 0 4 (replied (ok_at 1))

abbrev triggered : Item
triggered = called (call_with 2 1 3 1 (word 1 ∷ [])) 1 8 (replied ok)

abbrev waited : Item
waited = called (bare_call 1 2 2 1) 1 12 (replied ok)

abbrev at_made : Position
at_made = record { older = []; front = []; item = made; rest = triggered ∷ waited ∷ []; newer = [] }

abbrev at_triggered : Position
at_triggered = record { older = []; front = made ∷ []; item = triggered; rest = waited ∷ []; newer = [] }

abbrev at_waited : Position
at_waited = record { older = []; front = made ∷ triggered ∷ []; item = waited; rest = []; newer = [] }

other : {A : Type 0} → ◌≡◌ {A = ℕ} 1 2 → A
other same = absurd (cc same)

pub returns-clause-asked : goal.returns-clause-asked
returns-clause-asked c = (
  behind at_made 1 1 ((λ its visible answered. other its), ((λ its visible answered. omega arith), ((λ its visible answered. omega arith), ((λ its visible answered. other its), ((λ its visible answered. omega arith), tt))))),
  (
    behind at_triggered 2 1 ((λ its visible answered. other its), ((λ its visible answered. omega arith), ((λ its visible answered. omega arith), ((λ its visible answered. other its), ((λ its visible answered. omega arith), tt))))),
    (
      behind at_waited 1 2 ((λ its visible answered. other its), ((λ its visible answered. absurd (cc answered)), ((λ its visible answered. absurd (cc answered)), ((λ its visible answered. other its), ((λ its visible answered. omega arith), tt))))),
      tt,
    ),
  ),
)

-- the entry of the trigger, before which client 1 has two
abbrev the_trigger : MultiEntry
the_trigger = record { member = 2; entry = entry (call_with 2 1 3 1 (word 1 ∷ [])) ok }

pub returns-clause-wrong : goal.returns-clause-wrong
returns-clause-wrong c = λ k same.
    let found = at_mapped (λ (e : Ended). run_of e.trace) k.came.members 1 waited_early (ap (λ l. slice_get l 1) k.runs_are) in
    let all : Each (λ p. IsAskedInTurn event_facts taken_then_waited 2 p p.item.tag) (places_of waited_early)
    = subst (λ l. Each (λ p. IsAskedInTurn event_facts l 2 p p.item.tag) (places_of waited_early)) same
    (subst (λ r. Each (λ p. IsAskedInTurn event_facts k.play.merged 2 p p.item.tag) (places_of r)) found.2 (k.play.asked 1 event_stubs found.0 refl found.1)) in
    let few : 4 ≤ 3 = all.1.0 (take 2 taken_then_waited) the_trigger (drop 3 taken_then_waited) refl refl refl refl in
    omega (arith, few)

-- Whose turn it is in the stage that a play is at, by look-ups in the schedule and by the clients' numbers.
use Rattle.std.proofs.Common.{◌≡◌, ◌⊎◌, ℕ, zero, suc, ◌+◌, ◌-◌, ◌<◌, ◌≤◌, Bool, true, false, cond, List, [], ◌∷◌, ◌++◌, None, Some, drop, length, refl, sym, ◌∙◌, ap, subst, inl, inr, arith, drop-drop}
use Rattle.std.specs.Prelude.{nat_le, nat_lt, slice_get}
use Rattle.std.specs.List.{list_all}
use Rattle.std.proofs.lemmas.Bool.{and_parts, cases_lt}
use Rattle.std.proofs.lemmas.Bool.Decides.{nat_tests}
use Rattle.sg_facts.specs.Interface.{Declared}
use Rattle.sg_plain.specs.Calls.{ascending_from}
use Rattle.sg_plain.specs.OneService.{workload_of}
use Rattle.sg_facts.specs.declared.entry.Entry.{Entry}
use Rattle.sg_plain.specs.Plain.{Stage, left_after_first, left_schedule, may_turn, next_turn, player_of}
use Rattle.sg_plain.specs.Inside.Turns.{first_of, in_a_circle, some_or}
use Rattle.sg_plain.specs.Playing.Callers.{is_setting_up}
use Rattle.sg_plain.specs.Playing.Plays.{IsPlaying}
use Rattle.sg_plain.specs.Playing.Turns.{NobodyGoes}
use Rattle.sg_plain.specs.sg_script.declared.script.Script.{Script}
use Rattle.sg_plain.specs.sg_clients.WorldView.{WorldView}
use Rattle.sg_play.specs.Following.Stages.{IsNextTurn, stage_of}
use Rattle.sg_play.proofs.Following.Turns.{clients_alike, setup_alike, turns_alike, turns_beyond}

-- ---- the first of some clients

module _ (s : Stage Entry) where
  -- none of these clients can take a turn
  abbrev pub NoneMay : List ℕ → Type 0
  NoneMay clients = (k client : ℕ) → slice_get clients k ≡ Some client → may_turn s client ≡ false

  none_first : (clients : List ℕ) → NoneMay clients → (first_of s clients ≡ None) × (left_after_first s clients ≡ [])
  none_first [] none = (refl, refl)
  none_first (c ∷ clients) none =
      let here : may_turn s c ≡ false = none zero c refl in
      let rest = none_first clients (λ k client there. none (suc k) client there) in
      (ap (λ b. cond b (Some c) (first_of s clients)) here ∙ rest.0, ap (λ b. cond b clients (left_after_first s clients)) here ∙ rest.1)

  first_at : (clients : List ℕ) (k client : ℕ) → slice_get clients k ≡ Some client → may_turn s client ≡ true → ((j other : ℕ) → j < k → slice_get clients j ≡ Some other → may_turn s other ≡ false)
      → (first_of s clients ≡ Some client) × (left_after_first s clients ≡ drop (k + 1) clients)
  first_at [] k client there may before = absurd (cc there)
  first_at (c ∷ clients) zero client there may before =
      let same : c ≡ client = cc there in
      let here : may_turn s c ≡ true = ap (may_turn s) same ∙ may in
      (ap (λ b. cond b (Some c) (first_of s clients)) here ∙ there, ap (λ b. cond b clients (left_after_first s clients)) here)
  first_at (c ∷ clients) (suc k) client there may before =
      let here : may_turn s c ≡ false = before zero c (omega arith) refl in
      let rest = first_at clients k client there may (λ j other below at. before (suc j) other (omega (arith, below)) at) in (
        ap (λ b. cond b (Some c) (first_of s clients)) here ∙ rest.0,
        ap (λ b. cond b clients (left_after_first s clients)) here ∙ rest.1 ∙ ap (λ n. drop n (c ∷ clients)) (let same : suc (k + 1) ≡ suc k + 1 = omega arith in same),
      )

  -- those of numbers one after the other
  first_above : (n count client : ℕ) → n ≤ client → client < n + count → may_turn s client ≡ true → ((other : ℕ) → n ≤ other → other < client → may_turn s other ≡ false)
      → first_of s (ascending_from n count) ≡ Some client
  first_above n zero client from below may before = absurd (omega (arith, from, below))
  first_above n (suc count) client from below may before =
      by (cases_lt n client) (λ less. first_above (n + 1) count client (omega (arith, less)) (omega (arith, below)) may (λ other above. before other (omega (arith, above))))
    where
      by : (n < client) ⊎ (client ≤ n) → (n < client → first_of s (ascending_from (n + 1) count) ≡ Some client) → first_of s (ascending_from n (suc count)) ≡ Some client
      by (inl less) rest = ap (λ b. cond b (Some n) (first_of s (ascending_from (n + 1) count))) (before n (omega arith) less) ∙ rest less
      by (inr most) rest =
          let same : n ≡ client = omega (arith, from, most) in
          ap (λ b. cond b (Some n) (first_of s (ascending_from (n + 1) count))) (ap (may_turn s) same ∙ may) ∙ ap (λ m. Some m) same

  none_above : (n count : ℕ) → ((other : ℕ) → n ≤ other → other < n + count → may_turn s other ≡ false) → first_of s (ascending_from n count) ≡ None
  none_above n zero none = refl
  none_above n (suc count) none =
      ap (λ b. cond b (Some n) (first_of s (ascending_from (n + 1) count))) (none n (omega arith) (omega arith))
      ∙ none_above (n + 1) count (λ other from below. none other (omega (arith, from)) (omega (arith, below)))

  first_front : (xs ys : List ℕ) (client : ℕ) → first_of s xs ≡ Some client → first_of s (xs ++ ys) ≡ Some client
  first_front [] ys client is = absurd (cc is)
  first_front (x ∷ xs) ys client is = by (may_turn s x) is (first_front xs ys client)
    where
      by : (b : Bool) → cond b (Some x) (first_of s xs) ≡ Some client → (first_of s xs ≡ Some client → first_of s (xs ++ ys) ≡ Some client) → cond b (Some x) (first_of s (xs ++ ys)) ≡ Some client
      by true is rest = is
      by false is rest = rest is

  first_back : (xs ys : List ℕ) → first_of s xs ≡ None → first_of s (xs ++ ys) ≡ first_of s ys
  first_back [] ys none = refl
  first_back (x ∷ xs) ys none = by (may_turn s x) none (first_back xs ys)
    where
      by : (b : Bool) → cond b (Some x) (first_of s xs) ≡ None → (first_of s xs ≡ None → first_of s (xs ++ ys) ≡ first_of s ys) → cond b (Some x) (first_of s (xs ++ ys)) ≡ first_of s ys
      by true none rest = absurd (cc none)
      by false none rest = rest none

get_drop : (l : List ℕ) (n k : ℕ) → slice_get (drop n l) k ≡ slice_get l (n + k)
get_drop l zero k = ap (slice_get l) (let same : k ≡ 0 + k = omega arith in same)
get_drop [] (suc n) k = refl
get_drop (x ∷ l) (suc n) k = get_drop l n k ∙ ap (slice_get (x ∷ l)) (let same : suc (n + k) ≡ suc n + k = omega arith in same)

drop_whole : (l : List ℕ) → drop (length l) l ≡ []
drop_whole [] = refl
drop_whole (x ∷ l) = drop_whole l

-- ---- the turn

module _ (script : Script) (w : WorldView) (passed last : ℕ) where
  abbrev s : Stage Entry
  s = stage_of script w passed last

  -- client 1 until the setup is done
  pub setup_turn : is_setting_up script w.seats ≡ true → IsNextTurn script s 1 passed
  setup_turn is =
      let same = setup_alike script w passed last ∙ is in
      record {
        turn = ap (λ b. cond b (Some 1) (some_or (first_of s s.schedule) (first_of s (in_a_circle s)))) same;
        schedule = sym (ap (λ b. cond b s.schedule (left_after_first s s.schedule)) same);
      }

  module _ (over : is_setting_up script w.seats ≡ false) where
    no_setup : nat_lt (player_of s 1).done (length script.setup) ≡ false
    no_setup = setup_alike script w passed last ∙ over

    turn_is : next_turn (workload_of script) s ≡ some_or (first_of s s.schedule) (first_of s (in_a_circle s))
    turn_is = ap (λ b. cond b (Some 1) (some_or (first_of s s.schedule) (first_of s (in_a_circle s)))) no_setup

    left_is : left_schedule (workload_of script) s ≡ left_after_first s s.schedule
    left_is = ap (λ b. cond b s.schedule (left_after_first s s.schedule)) no_setup

    -- then the first of the schedule that can
    pub scheduled_turn : (at client : ℕ) → passed ≤ at → slice_get script.schedule at ≡ Some client → may_turn s client ≡ true
        → ((k other : ℕ) → passed ≤ k → k < at → slice_get script.schedule k ≡ Some other → may_turn s other ≡ false) → IsNextTurn script s client (at + 1)
    scheduled_turn at client from there may before =
        let found = first_at s (drop passed script.schedule) (at - passed) client
        (get_drop script.schedule passed (at - passed) ∙ ap (slice_get script.schedule) (let same : passed + (at - passed) ≡ at = omega (arith, from) in same) ∙ there) may
        (λ j other below is. before (passed + j) other (omega arith) (omega (arith, below, from)) (sym (get_drop script.schedule passed j) ∙ is)) in
        record {
          turn = turn_is ∙ ap (λ o. some_or o (first_of s (in_a_circle s))) found.0;
          schedule = sym (left_is ∙ found.1 ∙ drop-drop (at - passed + 1) passed script.schedule ∙ ap (λ n. drop n script.schedule) (let same : passed + (at - passed + 1) ≡ at + 1 = omega (arith, from) in same));
        }

    module _ (none : (k other : ℕ) → passed ≤ k → slice_get script.schedule k ≡ Some other → may_turn s other ≡ false) where
      skipped : (first_of s s.schedule ≡ None) × (left_after_first s s.schedule ≡ [])
      skipped = none_first s (drop passed script.schedule) (λ k client there. none (passed + k) client (omega arith) (sym (get_drop script.schedule passed k) ∙ there))

      circle_is : next_turn (workload_of script) s ≡ first_of s (in_a_circle s)
      circle_is = turn_is ∙ ap (λ o. some_or o (first_of s (in_a_circle s))) skipped.0

      ends_schedule : drop (length script.schedule) script.schedule ≡ left_schedule (workload_of script) s
      ends_schedule = drop_whole script.schedule ∙ sym (left_is ∙ skipped.1)

      -- then the next after the last turn's client that can
      pub next_after : (client : ℕ) → last < client → client ≤ length w.seats → may_turn s client ≡ true → ((other : ℕ) → last < other → other < client → may_turn s other ≡ false)
          → IsNextTurn script s client (length script.schedule)
      next_after client above within may before = record {
        turn = circle_is ∙ first_front s (ascending_from (last + 1) (length s.players - last)) (ascending_from 1 last) client
            (first_above s (last + 1) (length s.players - last) client (omega (arith, above)) (omega (arith, above, within, clients_alike script w passed last)) may
            (λ other from. before other (omega (arith, from))));
        schedule = ends_schedule;
      }

      module _ (none_later : (other : ℕ) → last < other → other ≤ length w.seats → may_turn s other ≡ false) where
        back : first_of s (in_a_circle s) ≡ first_of s (ascending_from 1 last)
        back = first_back s (ascending_from (last + 1) (length s.players - last)) (ascending_from 1 last)
            (none_above s (last + 1) (length s.players - last) (λ other from below. none_later other (omega (arith, from)) (omega (arith, from, below, clients_alike script w passed last))))

        -- and then the first from 1 on
        pub next_around : (client : ℕ) → 1 ≤ client → client ≤ last → may_turn s client ≡ true → ((other : ℕ) → 1 ≤ other → other < client → may_turn s other ≡ false)
            → IsNextTurn script s client (length script.schedule)
        next_around client first within may before = record {
          turn = circle_is ∙ back ∙ first_above s 1 last client first (omega (arith, within)) may before;
          schedule = ends_schedule;
        }

        -- and then none
        pub no_next : ((other : ℕ) → 1 ≤ other → other ≤ last → may_turn s other ≡ false) → next_turn (workload_of script) s ≡ None
        no_next none_around = circle_is ∙ back ∙ none_above s 1 last (λ other from below. none_around other from (omega (arith, below)))

-- ---- nobody

pub from_one : (l : List ℕ) (k n : ℕ) → list_all (λ client. nat_le 1 client) l ≡ true → slice_get l k ≡ Some n → 1 ≤ n
from_one [] k n all there = absurd (cc there)
from_one (x ∷ l) zero n all there = let same : x ≡ n = cc there in subst (λ m. 1 ≤ m) same (least x (and_parts (nat_le 1 x) (list_all (λ client. nat_le 1 client) l) all).0)
  where
    least : (m : ℕ) → nat_le 1 m ≡ true → 1 ≤ m
    least m is = grind (arith, nat_tests)
from_one (x ∷ l) (suc k) n all there = from_one l k n (and_parts (nat_le 1 x) (list_all (λ client. nat_le 1 client) l) all).1 there

-- where no client of a play can take a turn, nobody can in the play without stops
pub nobody_next : (i : Declared) (script : Script) (w : WorldView) (given : List (List ℕ)) (passed last : ℕ) → IsPlaying i script w.history w.seats given → is_setting_up script w.seats ≡ false
    → NobodyGoes script w.seats → next_turn (workload_of script) (stage_of script w passed last) ≡ None
nobody_next i script w given passed last is over nobody =
    no_next script w passed last over (λ k other from there. none other (from_one script.schedule k other is.playable.turns there)) (λ other above within. none other (omega (arith, above)))
    (λ other from within. none other from)
  where
    none : (client : ℕ) → 1 ≤ client → may_turn (stage_of script w passed last) client ≡ false
    none client first = by (cases_lt (length w.seats) client)
      where
        by : (length w.seats < client) ⊎ (client ≤ length w.seats) → may_turn (stage_of script w passed last) client ≡ false
        by (inl beyond) = turns_beyond script w passed last client beyond
        by (inr within) = turns_alike i script w given is passed last client first within ∙ nobody client first within

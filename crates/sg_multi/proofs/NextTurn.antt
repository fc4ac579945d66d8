-- Whose turn it is at the stage that a play over several services is at, by look-ups in the schedule and by the clients' numbers.
use Rattle.std.proofs.Common.{◌≡◌, ◌⊎◌, ℕ, zero, suc, ◌+◌, ◌-◌, ◌<◌, ◌≤◌, Bool, true, false, cond, not, List, [], ◌∷◌, ◌++◌, None, Some, drop, length, refl, sym, ◌∙◌, ap, subst, inl, inr, arith, drop-drop}
use Rattle.std.specs.Prelude.{nat_le, nat_lt, slice_get, unwrap_or}
use Rattle.std.specs.List.{list_all}
use Rattle.std.specs.Option.{option_map_or}
use Rattle.std.specs.declared.option.Option.{Option}
use Rattle.std.proofs.lemmas.Bool.{cases_lt}
use Rattle.sg_facts.specs.sg_base.declared.reply.Reply.{Reply}
use Rattle.sg_multi.specs.Members.{Membered}
use Rattle.sg_multi.proofs.sg_sim.sg_play.Following.Whose.{from_one}
use Rattle.sg_multi.specs.sg_sim.Inside.Givens.{lists_of}
use Rattle.sg_multi.specs.sg_sim.sg_plain.Calls.{ascending_from, most_client}
use Rattle.sg_multi.specs.sg_sim.sg_plain.Inside.Turns.{first_of, in_a_circle, is_under_way, some_or}
use Rattle.sg_multi.specs.sg_sim.sg_plain.Plain.{Player, Stage, left_after_first, left_schedule, may_turn, next_turn, player_of, ready, through}
use Rattle.sg_multi.specs.sg_sim.sg_play.Following.Stages.{phase_by}
use Rattle.sg_multi.specs.sg_sim.sg_script.declared.multi.MultiCall.{MultiCall}
use Rattle.sg_multi.specs.sg_sim.sg_script.declared.multi.MultiScript.{MultiScript}
use Rattle.sg_multi.specs.sg_sim.sg_clients.WorldView.{is_blocked_phase}
use Rattle.sg_multi.specs.sg_sim.sg_clients.declared.phase.Phase.{Phase}
use Rattle.sg_multi.specs.sg_sim.sg_clients.declared.phase.Phase.TheVariants.{Idle, Asked, Held, Receipted, Blocked, Left}
use Rattle.sg_multi.specs.Inside.Following.{IsNextMultiTurn, phase_at, player_now, stage_now}
use Rattle.sg_multi.specs.Inside.Keeps.{is_multi_setting_up}
use Rattle.sg_multi.specs.Inside.Turns.{IsFirstAfter, KeepsRunning, NoneAfter, NoneScheduled, TakesNextTurn, is_at_setup, may_go_now}
use Rattle.sg_multi.specs.Inside.Whose.{NobodyGoesOn, may_go_on, next_of, seat_at}
use Rattle.sg_multi.specs.Merged.{MultiEntry}
use Rattle.sg_multi.specs.SeveralServices.{multi_workload}
use Rattle.sg_multi.specs.declared.running.Running.{Running}
use Rattle.sg_multi.proofs.Beginning.{first_client}
use Rattle.sg_multi.proofs.Merging.{there_within}
use Rattle.sg_multi.proofs.Players.{length_from, none_from, player_in}

-- ---- the first of some clients

module _ (s : Stage MultiEntry) where
  -- none of these clients can take a turn
  abbrev NoneMay : List ℕ → Type 0
  NoneMay clients = (k client : ℕ) → slice_get clients k ≡ Some client → may_turn s client ≡ false

  none_first : (clients : List ℕ) → NoneMay clients → (first_of s clients ≡ None) × (left_after_first s clients ≡ [])
  none_first [] none = (refl, refl)
  none_first (c ∷ clients) none =
      let here : may_turn s c ≡ false = none zero c refl in
      let rest = none_first clients (λ k client there. none (suc k) client there) in
      (ap (λ b. cond b (Some c) (first_of s clients)) here ∙ rest.0, ap (λ b. cond b clients (left_after_first s clients)) here ∙ rest.1)

  first_at : (clients : List ℕ) (k client : ℕ) → slice_get clients k ≡ Some client → may_turn s client ≡ true → ((j other : ℕ) → j < k → slice_get clients j ≡ Some other → may_turn s other ≡ false)
      → (first_of s clients ≡ Some client) × (left_after_first s clients ≡ drop (k + 1) clients)
  first_at [] k client there may before = absurd (cc there)
  first_at (c ∷ clients) zero client there may before =
      let same : c ≡ client = cc there in
      let here : may_turn s c ≡ true = ap (may_turn s) same ∙ may in
      (ap (λ b. cond b (Some c) (first_of s clients)) here ∙ ap (λ m. Some m) same, ap (λ b. cond b clients (left_after_first s clients)) here)
  first_at (c ∷ clients) (suc k) client there may before =
      let here : may_turn s c ≡ false = before zero c (omega arith) refl in
      let rest = first_at clients k client there may (λ j other below at. before (suc j) other (omega (arith, below)) at) in (
        ap (λ b. cond b (Some c) (first_of s clients)) here ∙ rest.0,
        ap (λ b. cond b clients (left_after_first s clients)) here ∙ rest.1 ∙ ap (λ n. drop n (c ∷ clients)) (let same : suc (k + 1) ≡ suc k + 1 = omega arith in same),
      )

  first_above : (n count client : ℕ) → n ≤ client → client < n + count → may_turn s client ≡ true → ((other : ℕ) → n ≤ other → other < client → may_turn s other ≡ false)
      → first_of s (ascending_from n count) ≡ Some client
  first_above n zero client from below may before = absurd (omega (arith, from, below))
  first_above n (suc count) client from below may before =
      by (cases_lt n client) (λ less. first_above (n + 1) count client (omega (arith, less)) (omega (arith, below)) may (λ other above. before other (omega (arith, above))))
    where
      by : (n < client) ⊎ (client ≤ n) → (n < client → first_of s (ascending_from (n + 1) count) ≡ Some client) → first_of s (ascending_from n (suc count)) ≡ Some client
      by (inl less) rest = ap (λ b. cond b (Some n) (first_of s (ascending_from (n + 1) count))) (before n (omega arith) less) ∙ rest less
      by (inr most) rest =
          let same : n ≡ client = omega (arith, from, most) in
          ap (λ b. cond b (Some n) (first_of s (ascending_from (n + 1) count))) (ap (may_turn s) same ∙ may) ∙ ap (λ m. Some m) same

  none_above : (n count : ℕ) → ((other : ℕ) → n ≤ other → other < n + count → may_turn s other ≡ false) → first_of s (ascending_from n count) ≡ None
  none_above n zero none = refl
  none_above n (suc count) none =
      ap (λ b. cond b (Some n) (first_of s (ascending_from (n + 1) count))) (none n (omega arith) (omega arith))
      ∙ none_above (n + 1) count (λ other from below. none other (omega (arith, from)) (omega (arith, below)))

  first_front : (xs ys : List ℕ) (client : ℕ) → first_of s xs ≡ Some client → first_of s (xs ++ ys) ≡ Some client
  first_front [] ys client is = absurd (cc is)
  first_front (x ∷ xs) ys client is = by (may_turn s x) is (first_front xs ys client)
    where
      by : (b : Bool) → cond b (Some x) (first_of s xs) ≡ Some client → (first_of s xs ≡ Some client → first_of s (xs ++ ys) ≡ Some client) → cond b (Some x) (first_of s (xs ++ ys)) ≡ Some client
      by true is rest = is
      by false is rest = rest is

  first_back : (xs ys : List ℕ) → first_of s xs ≡ None → first_of s (xs ++ ys) ≡ first_of s ys
  first_back [] ys none = refl
  first_back (x ∷ xs) ys none = by (may_turn s x) none (first_back xs ys)
    where
      by : (b : Bool) → cond b (Some x) (first_of s xs) ≡ None → (first_of s xs ≡ None → first_of s (xs ++ ys) ≡ first_of s ys) → cond b (Some x) (first_of s (xs ++ ys)) ≡ first_of s ys
      by true none rest = absurd (cc none)
      by false none rest = rest none

get_drop : (l : List ℕ) (n k : ℕ) → slice_get (drop n l) k ≡ slice_get l (n + k)
get_drop l zero k = ap (slice_get l) (let same : k ≡ 0 + k = omega arith in same)
get_drop [] (suc n) k = refl
get_drop (x ∷ l) (suc n) k = get_drop l n k ∙ ap (slice_get (x ∷ l)) (let same : suc (n + k) ≡ suc n + k = omega arith in same)

drop_whole : (l : List ℕ) → drop (length l) l ≡ []
drop_whole [] = refl
drop_whole (x ∷ l) = drop_whole l

-- ---- the turn

module _ (members : List Membered) (script : MultiScript) (given : List (List ℕ)) (merged : List MultiEntry) (passed last : ℕ) (some : 1 ≤ most_client script.clients)
    (turns : list_all (λ client. nat_le 1 client) script.schedule ≡ true) where
  abbrev s : Stage MultiEntry
  s = stage_now members script given merged passed last

  abbrev n : ℕ
  n = most_client script.clients

  abbrev nobody_at : Player
  nobody_at = record { done = 0; phase = through }

  -- a client may take a turn there where it may here
  may_alike : (client : ℕ) → 1 ≤ client → client ≤ n → may_turn s client ≡ may_go_on members script given client
  may_alike client first within =
      ap (λ (o : Option Player). is_under_way (unwrap_or o nobody_at).phase) (player_in (player_now members script given) n client first within) ∙ by (next_of script given client)
    where
      at : (p : Phase) (reply : Reply) → is_under_way (phase_by p reply ready) ≡ not (is_blocked_phase p)
      at Idle reply = refl
      at Left reply = refl
      at Asked reply = refl
      at Held reply = refl
      at Receipted reply = refl
      at Blocked reply = refl

      by : (o : Option MultiCall) → is_under_way (option_map_or (λ (c : MultiCall). phase_at (seat_at members (c.member - 1) client)) o through)
          ≡ option_map_or (λ (c : MultiCall). not (is_blocked_phase (seat_at members (c.member - 1) client).phase)) o false
      by None = refl
      by (Some c) = at (seat_at members (c.member - 1) client).phase (seat_at members (c.member - 1) client).reply

  -- and no client beyond the last may
  may_beyond : (client : ℕ) → n < client → may_turn s client ≡ false
  may_beyond client beyond =
      ap (λ (o : Option Player). is_under_way (unwrap_or o nobody_at).phase) (none_from (player_now members script given) 1 n (client - 1) (let most : n ≤ client - 1 = omega (arith, beyond) in most))

  none_may : (client : ℕ) → 1 ≤ client → (client ≤ n → may_go_on members script given client ≡ false) → may_turn s client ≡ false
  none_may client first none = by (cases_lt n client)
    where
      by : (n < client) ⊎ (client ≤ n) → may_turn s client ≡ false
      by (inl beyond) = may_beyond client beyond
      by (inr within) = may_alike client first within ∙ none within

  -- client 1 is at the setup there where it is here
  setup_alike : nat_lt (player_of s 1).done (length script.setup) ≡ is_multi_setting_up script given
  setup_alike = ap (λ (o : Option Player). nat_lt (unwrap_or o nobody_at).done (length script.setup)) (player_in (player_now members script given) n 1 (omega arith) some)

  clients_alike : length s.players ≡ n
  clients_alike = length_from (player_now members script given) 1 n

  -- client 1 until the setup is done
  pub setup_turn : is_multi_setting_up script given ≡ true → IsNextMultiTurn script s 1 passed
  setup_turn is =
      let same = setup_alike ∙ is in
      record {
        turn = ap (λ b. cond b (Some 1) (some_or (first_of s s.schedule) (first_of s (in_a_circle s)))) same;
        schedule = sym (ap (λ b. cond b s.schedule (left_after_first s s.schedule)) same);
      }

  module _ (over : is_multi_setting_up script given ≡ false) where
    no_setup : nat_lt (player_of s 1).done (length script.setup) ≡ false
    no_setup = setup_alike ∙ over

    turn_is : next_turn (multi_workload script) s ≡ some_or (first_of s s.schedule) (first_of s (in_a_circle s))
    turn_is = ap (λ b. cond b (Some 1) (some_or (first_of s s.schedule) (first_of s (in_a_circle s)))) no_setup

    left_is : left_schedule (multi_workload script) s ≡ left_after_first s s.schedule
    left_is = ap (λ b. cond b s.schedule (left_after_first s s.schedule)) no_setup

    -- who is in the schedule and can't go
    none_there : (k client : ℕ) → slice_get script.schedule k ≡ Some client → (1 ≤ client → client ≤ n → may_go_on members script given client ≡ false) → may_turn s client ≡ false
    none_there k client there none = let first = from_one script.schedule k client turns there in none_may client first (none first)

    -- then the first of the schedule that can
    pub scheduled_turn : (at client : ℕ) → passed ≤ at → slice_get script.schedule at ≡ Some client → 1 ≤ client → client ≤ n → may_go_on members script given client ≡ true
        → ((k other : ℕ) → passed ≤ k → k < at → slice_get script.schedule k ≡ Some other → 1 ≤ other → other ≤ n → may_go_on members script given other ≡ false) → IsNextMultiTurn script s client (at + 1)
    scheduled_turn at client from there first within may before =
        let found = first_at s (drop passed script.schedule) (at - passed) client
        (get_drop script.schedule passed (at - passed) ∙ ap (slice_get script.schedule) (let same : passed + (at - passed) ≡ at = omega (arith, from) in same) ∙ there) (may_alike client first within ∙ may)
        (λ j other below is. let its = sym (get_drop script.schedule passed j) ∙ is in none_there (passed + j) other its (before (passed + j) other (omega arith) (omega (arith, below, from)) its)) in
        record {
          turn = turn_is ∙ ap (λ o. some_or o (first_of s (in_a_circle s))) found.0;
          schedule = sym (left_is ∙ found.1 ∙ drop-drop (at - passed + 1) passed script.schedule ∙ ap (λ n. drop n script.schedule) (let same : passed + (at - passed + 1) ≡ at + 1 = omega (arith, from) in same));
        }

    module _ (none : (k other : ℕ) → passed ≤ k → slice_get script.schedule k ≡ Some other → 1 ≤ other → other ≤ n → may_go_on members script given other ≡ false) where
      skipped : (first_of s s.schedule ≡ None) × (left_after_first s s.schedule ≡ [])
      skipped = none_first s (drop passed script.schedule) (λ k client there. let its = sym (get_drop script.schedule passed k) ∙ there in none_there (passed + k) client its (none (passed + k) client (omega arith) its))

      circle_is : next_turn (multi_workload script) s ≡ first_of s (in_a_circle s)
      circle_is = turn_is ∙ ap (λ o. some_or o (first_of s (in_a_circle s))) skipped.0

      ends_schedule : drop (length script.schedule) script.schedule ≡ left_schedule (multi_workload script) s
      ends_schedule = drop_whole script.schedule ∙ sym (left_is ∙ skipped.1)

      -- then the next after the last turn's client that can
      pub turn_after : (client : ℕ) → last < client → client ≤ n → may_go_on members script given client ≡ true → ((other : ℕ) → last < other → other < client → may_go_on members script given other ≡ false)
          → IsNextMultiTurn script s client (length script.schedule)
      turn_after client above within may before = record {
        turn = circle_is ∙ first_front s (ascending_from (last + 1) (length s.players - last)) (ascending_from 1 last) client
            (first_above s (last + 1) (length s.players - last) client (omega (arith, above)) (omega (arith, above, within, clients_alike)) (may_alike client (omega (arith, above)) within ∙ may)
            (λ other from below. none_may other (omega (arith, from)) (λ to. before other (omega (arith, from)) below)));
        schedule = ends_schedule;
      }

      module _ (none_later : (other : ℕ) → last < other → other ≤ n → may_go_on members script given other ≡ false) where
        back : first_of s (in_a_circle s) ≡ first_of s (ascending_from 1 last)
        back = first_back s (ascending_from (last + 1) (length s.players - last)) (ascending_from 1 last)
            (none_above s (last + 1) (length s.players - last) (λ other from below. none_may other (omega (arith, from)) (none_later other (omega (arith, from)))))

        -- and then the first from 1 on
        pub turn_around : (client : ℕ) → 1 ≤ client → client ≤ last → client ≤ n → may_go_on members script given client ≡ true → ((other : ℕ) → 1 ≤ other → other < client → may_go_on members script given other ≡ false)
            → IsNextMultiTurn script s client (length script.schedule)
        turn_around client first within there may before = record {
          turn = circle_is ∙ back ∙ first_above s 1 last client first (omega (arith, within)) (may_alike client first there ∙ may) (λ other from below. none_may other from (λ to. before other from below));
          schedule = ends_schedule;
        }

    -- where nobody can go on, nobody takes a turn there
    pub nobody_next : NobodyGoesOn members script given → next_turn (multi_workload script) s ≡ None
    nobody_next nobody =
        let none : (k other : ℕ) → passed ≤ k → slice_get script.schedule k ≡ Some other → 1 ≤ other → other ≤ n → may_go_on members script given other ≡ false = λ k other from there first within. nobody other first within in
        circle_is none ∙ back none (λ other above within. nobody other (omega (arith, above)) within) ∙ none_above s 1 last (λ other from below. none_may other from (λ to. nobody other from to))

-- ---- of a play as it stands

module _ {N : Type 0} (script : MultiScript) (r : Running N) (is : KeepsRunning script r) where
  there_is_one : 1 ≤ most_client script.clients
  there_is_one = first_client 0 script.clients is.keeps.playable.clients

  pub from_setup : is_at_setup script r ≡ true → TakesNextTurn script r 1 r.passed
  from_setup on merged = setup_turn r.members script (lists_of r.given) merged r.passed r.last there_is_one is.keeps.playable.turns on

  module _ (settled : is_at_setup script r ≡ false) where
    pub from_schedule : (at client : ℕ) → r.passed ≤ at → slice_get script.schedule at ≡ Some client → 1 ≤ client → client ≤ most_client script.clients → may_go_now script r client ≡ true → NoneScheduled script r at
        → TakesNextTurn script r client (at + 1)
    from_schedule at client from there first within may before merged =
        scheduled_turn r.members script (lists_of r.given) merged r.passed r.last there_is_one is.keeps.playable.turns settled at client from there first within may before

    module _ (none : NoneScheduled script r (length script.schedule)) where
      none_left : (k other : ℕ) → r.passed ≤ k → slice_get script.schedule k ≡ Some other → 1 ≤ other → other ≤ most_client script.clients → may_go_now script r other ≡ false
      none_left k other from there = none k other from (omega (arith, there_within script.schedule k other there)) there

      pub from_after : (client : ℕ) → IsFirstAfter script r r.last (most_client script.clients) client → TakesNextTurn script r client (length script.schedule)
      from_after client found merged =
          turn_after r.members script (lists_of r.given) merged r.passed r.last there_is_one is.keeps.playable.turns settled none_left client found.above found.within found.may found.before

      pub from_around : (client : ℕ) → NoneAfter script r r.last (most_client script.clients) → IsFirstAfter script r 0 r.last client → TakesNextTurn script r client (length script.schedule)
      from_around client behind found merged =
          turn_around r.members script (lists_of r.given) merged r.passed r.last there_is_one is.keeps.playable.turns settled none_left behind client (omega (arith, found.above)) found.within
          (omega (arith, found.within, is.last_there)) found.may (λ other from. found.before other (omega (arith, from)))

-- one turn more of the schedule that its client can't take
pub more_scheduled : {N : Type 0} (script : MultiScript) (r : Running N) (at client : ℕ) → NoneScheduled script r at → slice_get script.schedule at ≡ Some client
    → (1 ≤ client → client ≤ most_client script.clients → may_go_now script r client ≡ false) → NoneScheduled script r (at + 1)
more_scheduled script r at client before there none k other from below is first within = by (cases_lt k at)
  where
    by : (k < at) ⊎ (at ≤ k) → may_go_now script r other ≡ false
    by (inl less) = before k other from less is first within
    by (inr most) =
        let both : Some other ≡ Some client = sym is ∙ ap (slice_get script.schedule) (let same : k ≡ at = omega (arith, most, below) in same) ∙ there in
        let same : other ≡ client = cc both in
        ap (may_go_now script r) same ∙ none (subst (λ n. 1 ≤ n) same first) (subst (λ n. n ≤ most_client script.clients) same within)

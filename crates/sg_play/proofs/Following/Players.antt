-- The players of seats, by look-ups and after small changes of the seats.
use Rattle.std.proofs.Common.{◌≡◌, ℕ, zero, suc, ◌+◌, ◌-◌, ◌<◌, ◌≤◌, Bool, true, false, cond, List, [], ◌∷◌, None, Some, length, map, refl, sym, ◌∙◌, ap, subst, arith, slice_set, replicate}
use Rattle.std.specs.Prelude.{nat_lt, slice_get, unwrap_or}
use Rattle.std.proofs.lemmas.Bool.Decides.{nat_tests}
use Rattle.sg_facts.specs.sg_base.declared.call.Call.{Call}
use Rattle.sg_facts.specs.sg_base.declared.reply.Reply.{Reply}
use Rattle.sg_facts.specs.sg_base.declared.reply.Reply.TheVariants.{Ok, Refused}
use Rattle.sg_facts.specs.declared.entry.Entry.{Entry}
use Rattle.sg_facts.specs.declared.row.Row.{Row}
use Rattle.sg_facts.specs.Facts.{Facts}
use Rattle.sg_plain.specs.Calls.{ascending_from, call_after, script_calls}
use Rattle.sg_plain.specs.OneService.{workload_of}
use Rattle.sg_plain.specs.Plain.{Player, after_wakes, blocked, holding, player_at, ready, replied, through, woken_phase}
use Rattle.sg_plain.specs.Inside.Turns.{is_woken_by, waits_on}
use Rattle.sg_plain.specs.sg_hist.Wakes.{wakes}
use Rattle.sg_plain.specs.Playing.Callers.{IsCaller, handed}
use Rattle.sg_plain.proofs.Playing.Calling.{IsNext, next_of}
use Rattle.sg_plain.specs.sg_script.declared.script.Script.{Script}
use Rattle.sg_plain.specs.sg_script.declared.script.ScriptCall.{ScriptCall}
use Rattle.sg_plain.specs.sg_clients.WorldView.{Seat, no_seat, seat_in, wakes_seat, woken_seat}
use Rattle.sg_plain.specs.sg_clients.declared.phase.Phase.{Phase as SeatPhase}
use Rattle.sg_plain.specs.sg_clients.declared.phase.Phase.TheVariants.{Idle, Asked, Held, Receipted, Blocked, Left}
use Rattle.sg_play.specs.Following.Stages.{player_by, players_by}

-- ---- look-ups

pub length_players : (script : Script) (n : ℕ) (seats : List Seat) → length (players_by script n seats) ≡ length seats
length_players script n [] = refl
length_players script n (s ∷ seats) = ap suc (length_players script (n + 1) seats)

get_players : (script : Script) (n : ℕ) (seats : List Seat) (k : ℕ) → k < length seats → slice_get (players_by script n seats) k ≡ Some (player_by script (n + k) (unwrap_or (slice_get seats k) no_seat))
get_players script n [] k within = absurd (omega (arith, within))
get_players script n (s ∷ seats) zero within = ap (λ m. Some (player_by script m s)) (let same : n ≡ n + 0 = omega arith in same)
get_players script n (s ∷ seats) (suc k) within =
    get_players script (n + 1) seats k (omega (arith, within)) ∙ ap (λ m. Some (player_by script m (unwrap_or (slice_get seats k) no_seat))) (let same : (n + 1) + k ≡ n + suc k = omega arith in same)

-- the player of a client
pub get_player : (script : Script) (seats : List Seat) (c : ℕ) → 1 ≤ c → c ≤ length seats → slice_get (players_by script 1 seats) (c - 1) ≡ Some (player_by script c (seat_in seats c))
get_player script seats c first last =
    get_players script 1 seats (c - 1) (omega (arith, first, last)) ∙ ap (λ m. Some (player_by script m (seat_in seats c))) (let same : 1 + (c - 1) ≡ c = omega (arith, first) in same)

no_players : (ps : List Player) (k : ℕ) → length ps ≤ k → slice_get ps k ≡ None
no_players [] k beyond = refl
no_players (p ∷ ps) zero beyond = absurd (omega (arith, beyond))
no_players (p ∷ ps) (suc k) beyond = no_players ps k (omega (arith, beyond))

pub no_player : (script : Script) (seats : List Seat) (c : ℕ) → length seats < c → slice_get (players_by script 1 seats) (c - 1) ≡ None
no_player script seats c beyond = no_players (players_by script 1 seats) (c - 1) (omega (arith, beyond, length_players script 1 seats))

-- ---- a seat that is another then

set_players : (script : Script) (n : ℕ) (seats : List Seat) (k : ℕ) (new : Seat) → players_by script n (slice_set seats k new) ≡ slice_set (players_by script n seats) k (player_by script (n + k) new)
set_players script n [] k new = refl
set_players script n (s ∷ seats) zero new = ap (λ m. player_by script m new ∷ players_by script (n + 1) seats) (let same : n ≡ n + 0 = omega arith in same)
set_players script n (s ∷ seats) (suc k) new =
    ap (λ l. player_by script n s ∷ l) (set_players script (n + 1) seats k new)
    ∙ ap (λ m. player_by script n s ∷ slice_set (players_by script (n + 1) seats) k (player_by script m new)) (let same : (n + 1) + k ≡ n + suc k = omega arith in same)

pub set_player : (script : Script) (seats : List Seat) (c : ℕ) (new : Seat) → 1 ≤ c → players_by script 1 (slice_set seats (c - 1) new) ≡ slice_set (players_by script 1 seats) (c - 1) (player_by script c new)
set_player script seats c new first =
    set_players script 1 seats (c - 1) new ∙ ap (λ m. slice_set (players_by script 1 seats) (c - 1) (player_by script m new)) (let same : 1 + (c - 1) ≡ c = omega (arith, first) in same)

set_same : (ps : List Player) (k : ℕ) (p : Player) → slice_get ps k ≡ Some p → slice_set ps k p ≡ ps
set_same [] k p there = refl
set_same (x ∷ ps) zero p there = let same : p ≡ x = cc there in ap (λ y. y ∷ ps) same
set_same (x ∷ ps) (suc k) p there = ap (λ l. x ∷ l) (set_same ps k p there)

-- and has the player that it had
pub same_players : (script : Script) (seats : List Seat) (c : ℕ) (new : Seat) → 1 ≤ c → c ≤ length seats → player_by script c new ≡ player_by script c (seat_in seats c)
    → players_by script 1 (slice_set seats (c - 1) new) ≡ players_by script 1 seats
same_players script seats c new first last same =
    set_player script seats c new first ∙ set_same (players_by script 1 seats) (c - 1) (player_by script c new) (get_player script seats c first last ∙ ap (λ p. Some p) (sym same))

-- ---- a script's beginning

pub new_players : (script : Script) (n count : ℕ) → players_by script n (replicate count no_seat) ≡ map (λ client. player_at (workload_of script) client 0) (ascending_from n count)
new_players script n zero = refl
new_players script n (suc count) = ap (λ l. player_at (workload_of script) n 0 ∷ l) (new_players script (n + 1) count)

-- ---- seats that are woken

within_calls : (calls : List ScriptCall) (k : ℕ) (c : ScriptCall) → slice_get calls k ≡ Some c → nat_lt k (length calls) ≡ true
within_calls calls k c there = below k (length calls) (by calls k there)
  where
    below : (m n : ℕ) → m < n → nat_lt m n ≡ true
    below m n is = grind (arith, nat_tests)

    by : (l : List ScriptCall) (m : ℕ) → slice_get l m ≡ Some c → m < length l
    by [] m is = absurd (cc is)
    by (d ∷ l) zero is = omega arith
    by (d ∷ l) (suc m) is = omega (arith, by l m is)

-- a client that has a next call has more calls
pub has_more : (facts : Facts) (script : Script) (history : List Entry) (client done : ℕ) (call : Call) → call_after facts script history client done ≡ Some call
    → nat_lt done (length (script_calls script client)) ≡ true
has_more facts script history client done call is =
    let next : IsNext facts script history client done call = next_of facts script history client done call is in
    within_calls (script_calls script client) done next.written next.there

-- what a client is at is the same, woken or not, where it doesn't wait
woken_going : (w more : Bool) → woken_phase w (cond more ready through) ≡ cond more ready through
woken_going true true = refl
woken_going true false = refl
woken_going false true = refl
woken_going false false = refl

woken_replied : (w : Bool) → woken_phase w replied ≡ replied
woken_replied true = refl
woken_replied false = refl

woken_holding : (w : Bool) (reply : Reply) → woken_phase w (holding reply) ≡ holding reply
woken_holding true reply = refl
woken_holding false reply = refl

wakes_same : (facts : Facts) (rows : List Row) (call : Call) (reply : Reply) (other : Call) → wakes facts rows call reply other.desc ≡ wakes_seat facts rows call reply other
wakes_same facts rows call (Refused code) other = refl
wakes_same facts rows call (Ok good) other = refl

module _ (facts : Facts) (script : Script) (history : List Entry) (rows : List Row) (call : Call) (reply : Reply) where
  abbrev test : Call → Bool
  test = wakes_seat facts rows call reply

  abbrev woken_at : ℕ → ℕ → Bool
  woken_at n done = wakes facts rows call reply (waits_on (call_after facts script history n done))

  abbrev going : ℕ → ℕ → Bool
  going n done = nat_lt done (length (script_calls script n))

  woken_one : (n : ℕ) (s : Seat) → IsCaller facts script history n s
      → record (player_by script n s) { phase = woken_phase (woken_at n (handed s)) (player_by script n s).phase } ≡ player_by script n (woken_seat test s)
  woken_one n s caller = by s.phase s.call s.seq s.boot s.reply caller
    where
      by : (p : SeatPhase) (own : Call) (seq boot : ℕ) (kept : Reply) → IsCaller facts script history n (record { phase = p; call = own; seq = seq; boot = boot; reply = kept })
          → record (player_by script n (record { phase = p; call = own; seq = seq; boot = boot; reply = kept })) {
            phase = woken_phase (woken_at n (handed (record { phase = p; call = own; seq = seq; boot = boot; reply = kept }))) (player_by script n (record { phase = p; call = own; seq = seq; boot = boot; reply = kept })).phase;
          } ≡ player_by script n (woken_seat test (record { phase = p; call = own; seq = seq; boot = boot; reply = kept }))
      by Idle own seq boot kept is = ap (λ p. record { done = seq; phase = p }) (woken_going (woken_at n seq) (going n seq))
      by Left own seq boot kept is = ap (λ p. record { done = seq; phase = p }) (woken_going (woken_at n seq) (going n seq))
      by Asked own seq boot kept is = ap (λ p. record { done = seq; phase = p }) (woken_going (woken_at n seq) (going n seq))
      by Held own seq boot kept is = ap (λ p. record { done = seq; phase = p }) (woken_holding (woken_at n seq) kept)
      by Receipted own seq boot kept is = ap (λ p. record { done = seq - 1; phase = p }) (woken_replied (woken_at n (seq - 1)))
      by Blocked own seq boot kept is =
          let next : call_after facts script history n seq ≡ Some own = ap (call_after facts script history n) is.count ∙ is.next refl in
          ap (λ w. record { done = seq; phase = woken_phase w blocked }) (ap (λ o. wakes facts rows call reply (waits_on o)) next ∙ wakes_same facts rows call reply own)
          ∙ at (test own) (has_more facts script history n seq own next)
        where
          at : (w : Bool) → going n seq ≡ true
              → record { done = seq; phase = woken_phase w blocked }
              ≡ player_by script n (cond w (record { phase = Asked; call = own; seq = seq; boot = boot; reply = kept }) (record { phase = Blocked; call = own; seq = seq; boot = boot; reply = kept }))
          at true more = ap (λ b. record { done = seq; phase = cond b ready through }) (sym more)
          at false more = refl

  -- the players are woken as the seats are
  pub woken_players : (n : ℕ) (seats : List Seat) → ((k : ℕ) → k < length seats → IsCaller facts script history (n + k) (unwrap_or (slice_get seats k) no_seat))
      → after_wakes (is_woken_by facts script history rows call reply) n (players_by script n seats) ≡ players_by script n (map (woken_seat test) seats)
  woken_players n [] callers = refl
  woken_players n (s ∷ seats) callers =
      ap (λ p. p ∷ after_wakes (is_woken_by facts script history rows call reply) (n + 1) (players_by script (n + 1) seats))
      (woken_one n s (subst (λ m. IsCaller facts script history m s) (let same : n + 0 ≡ n = omega arith in same) (callers zero (omega arith))))
      ∙ ap (λ l. player_by script n (woken_seat test s) ∷ l)
      (woken_players (n + 1) seats (λ k within. subst (λ m. IsCaller facts script history m (unwrap_or (slice_get seats k) no_seat)) (let same : n + suc k ≡ (n + 1) + k = omega arith in same) (callers (suc k) (omega (arith, within)))))

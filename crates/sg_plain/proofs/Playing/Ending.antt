-- Where nobody can take a turn, each client with a call is done or waits, and the calls that wait are those that aren't answered.
use Rattle.std.proofs.Common.{◌≡◌, ℕ, zero, suc, ◌+◌, ◌<◌, ◌≤◌, Bool, true, false, cond, not, List, [], ◌∷◌, ◌++◌, None, Some, filter, flat_map, length, map, refl, sym, ◌∙◌, ap, subst, arith}
use Rattle.std.specs.Prelude.{◌==◌, nat_lt, slice_get, unwrap_or}
use Rattle.std.proofs.lemmas.Bool.Decides.{nat_tests}
use Rattle.sg_facts.specs.declared.entry.Entry.{Entry}
use Rattle.sg_facts.specs.Facts.{Facts}
use Rattle.sg_facts.specs.Interface.{Declared}
use Rattle.sg_facts.specs.Legal.{Table, answer}
use Rattle.sg_facts.specs.Object.{object_of}
use Rattle.sg_clients.specs.sg_hist.Clients.{calls_of}
use Rattle.sg_clients.specs.sg_hist.Recovered.{waiting}
use Rattle.sg_clients.specs.sg_hist.Inside.Parts.{waiting_in}
use Rattle.sg_clients.specs.sg_hist.declared.ended.End.TheVariants.{Done, Blocked as Waits}
use Rattle.sg_plain.specs.Calls.{AreEnds, IsEnd, ascending_from, script_calls}
use Rattle.sg_plain.specs.Inside.Kept.{EachEnd}
use Rattle.sg_plain.specs.Promises.{AreFirstCalls}
use Rattle.sg_script.specs.declared.script.Script.{Script}
use Rattle.sg_script.specs.declared.script.ScriptCall.{ScriptCall}
use Rattle.sg_clients.specs.WorldView.{Seat, is_blocked_phase, is_offered, no_seat, offered_by, seat_in}
use Rattle.sg_clients.specs.declared.phase.Phase.{Phase}
use Rattle.sg_clients.specs.declared.phase.Phase.TheVariants.{Idle, Asked, Held, Receipted, Blocked, Left}
use Rattle.sg_plain.specs.Playing.Callers.{IsCaller}
use Rattle.sg_plain.specs.Playing.Ends.{end_of, ends_from, has_calls}
use Rattle.sg_plain.specs.Playing.Plays.{IsPlaying}
use Rattle.sg_plain.specs.Playing.Turns.{NobodyGoes, may_go, may_take_turn}
use Rattle.sg_plain.proofs.Playing.Calling.{next_of}

-- ---- one client

-- a client's entries are no more than its calls
no_more : (facts : Facts) (history : List Entry) (client seq : ℕ) (es : List Entry) (calls : List ScriptCall) → AreFirstCalls facts history client seq es calls → length es ≤ length calls
no_more facts history client seq [] calls are = omega arith
no_more facts history client seq (e ∷ es) [] are = absurd are
no_more facts history client seq (e ∷ es) (c ∷ calls) are = omega (arith, no_more facts history client (seq + 1) es calls are.1)

-- a client that can't take a turn waits, or has no call under way and none left
record RestsSo (script : Script) (client : ℕ) (s : Seat) : Type 0 where
  offers : is_offered s.phase ≡ true → s.phase ≡ Blocked
  over : is_blocked_phase s.phase ≡ false → nat_lt s.seq (length (script_calls script client)) ≡ false

rests_by : (script : Script) (client : ℕ) (s : Seat) (p : Phase) → s.phase ≡ p → may_go p (nat_lt s.seq (length (script_calls script client))) ≡ false
    → (is_offered p ≡ true → p ≡ Blocked) × (is_blocked_phase p ≡ false → nat_lt s.seq (length (script_calls script client)) ≡ false)
rests_by script client s Idle is not = (λ offers. absurd (cc offers), λ waits. not)
rests_by script client s Left is not = (λ offers. absurd (cc offers), λ waits. not)
rests_by script client s Asked is not = absurd (cc not)
rests_by script client s Held is not = absurd (cc not)
rests_by script client s Receipted is not = absurd (cc not)
rests_by script client s Blocked is not = (λ offers. refl, λ waits. absurd (cc waits))

rests : (script : Script) (client : ℕ) (s : Seat) → may_take_turn script client s ≡ false → RestsSo script client s
rests script client s not = let both = rests_by script client s s.phase refl not in record { offers = both.0; over = both.1 }

blocked_is : (p : Phase) → is_blocked_phase p ≡ true → p ≡ Blocked
blocked_is Blocked is = refl
blocked_is Idle is = absurd (cc is)
blocked_is Asked is = absurd (cc is)
blocked_is Held is = absurd (cc is)
blocked_is Receipted is = absurd (cc is)
blocked_is Left is = absurd (cc is)

-- so it ends as its seat says
ends_so : (i : Declared) (ask : Table) (script : Script) (history : List Entry) (client : ℕ) (s : Seat) → IsCaller i.facts script history client s → may_take_turn script client s ≡ false
    → (s.phase ≡ Blocked → answer i ask (object_of i.facts history) s.call ≡ None) → IsEnd i ask history script client (end_of s)
ends_so i ask script history client s is not waits = by (is_blocked_phase s.phase) refl
  where
    by : (b : Bool) → is_blocked_phase s.phase ≡ b → IsEnd i ask history script client (cond b (Waits s.call) Done)
    by true blocked = (is.next (ap is_offered (blocked_is s.phase blocked)), waits (blocked_is s.phase blocked))
    by false free =
        let least : length (script_calls script client) ≤ s.seq = at_least s.seq (length (script_calls script client)) ((rests script client s not).over free) in
        omega (arith, least, is.count, no_more i.facts history client 1 (calls_of history client) (script_calls script client) is.made)
      where
        at_least : (n m : ℕ) → nat_lt n m ≡ false → m ≤ n
        at_least n m is = grind (arith, nat_tests)

-- a client without a call offers none
offers_none : (i : Declared) (script : Script) (history : List Entry) (client : ℕ) (s : Seat) → IsCaller i.facts script history client s → has_calls script client ≡ false → is_offered s.phase ≡ false
offers_none i script history client s is none = by (is_offered s.phase) refl
  where
    no_call : (calls : List ScriptCall) (k : ℕ) (c : ScriptCall) → not (length calls == 0) ≡ false → slice_get calls k ≡ Some c → ⊥
    no_call [] k c none there = cc there
    no_call (d ∷ calls) k c none there = some (length (d ∷ calls) == 0) refl none
      where
        some : (b : Bool) → (length (d ∷ calls) == 0) ≡ b → not b ≡ false → ⊥
        some true is none = let wrong : length (d ∷ calls) ≡ 0 = grind (arith, nat_tests) in absurd (cc wrong)
        some false is none = cc none

    by : (b : Bool) → is_offered s.phase ≡ b → is_offered s.phase ≡ false
    by false is_not = is_not
    by true offers =
        let next = next_of i.facts script history client (length (calls_of history client)) s.call (is.next offers) in
        absurd (no_call (script_calls script client) (length (calls_of history client)) next.written none next.there)

-- ---- all clients

map_clients : (script : Script) (n : ℕ) (seats : List Seat) → map (λ e. e.0) (ends_from script n seats) ≡ filter (has_calls script) (ascending_from n (length seats))
map_clients script n [] = refl
map_clients script n (s ∷ seats) = by (has_calls script n) (map_clients script (n + 1) seats)
  where
    by : (b : Bool) → map (λ e. e.0) (ends_from script (n + 1) seats) ≡ filter (has_calls script) (ascending_from (n + 1) (length seats))
        → map (λ e. e.0) (cond b ((n, end_of s) ∷ ends_from script (n + 1) seats) (ends_from script (n + 1) seats))
        ≡ cond b (n ∷ filter (has_calls script) (ascending_from (n + 1) (length seats))) (filter (has_calls script) (ascending_from (n + 1) (length seats)))
    by true rest = ap (λ l. n ∷ l) rest
    by false rest = rest

each_end : (i : Declared) (ask : Table) (history : List Entry) (script : Script) (n : ℕ) (seats : List Seat)
    → ((k : ℕ) → k < length seats → IsEnd i ask history script (n + k) (end_of (unwrap_or (slice_get seats k) no_seat))) → EachEnd i ask history script (ends_from script n seats)
each_end i ask history script n [] all = tt
each_end i ask history script n (s ∷ seats) all =
    by (has_calls script n) (each_end i ask history script (n + 1) seats (λ k below. subst (λ m. IsEnd i ask history script m (end_of (unwrap_or (slice_get seats k) no_seat))) (omega arith) (all (suc k) (omega (arith, below)))))
  where
    here : IsEnd i ask history script n (end_of s)
    here = subst (λ m. IsEnd i ask history script m (end_of s)) (omega arith) (all zero (omega arith))

    by : (b : Bool) → EachEnd i ask history script (ends_from script (n + 1) seats)
        → EachEnd i ask history script (cond b ((n, end_of s) ∷ ends_from script (n + 1) seats) (ends_from script (n + 1) seats))
    by true rest = (here, rest)
    by false rest = rest

-- the calls that wait
waiting_from : (script : Script) (n : ℕ) (seats : List Seat) → ((k : ℕ) → k < length seats → has_calls script (n + k) ≡ false → is_offered (unwrap_or (slice_get seats k) no_seat).phase ≡ false)
    → ((k : ℕ) → k < length seats → is_offered (unwrap_or (slice_get seats k) no_seat).phase ≡ true → (unwrap_or (slice_get seats k) no_seat).phase ≡ Blocked)
    → flat_map offered_by seats ≡ waiting (ends_from script n seats)
waiting_from script n [] none waits = refl
waiting_from script n (s ∷ seats) none waits =
    by (has_calls script n) refl (is_offered s.phase) refl (waiting_from script (n + 1) seats
    (λ k below not. none (suc k) (omega (arith, below)) (ap (has_calls script) (omega arith) ∙ not)) (λ k below. waits (suc k) (omega (arith, below))))
  where
    here_waits : is_offered s.phase ≡ true → s.phase ≡ Blocked
    here_waits = waits zero (omega arith)

    here_none : has_calls script n ≡ false → is_offered s.phase ≡ false
    here_none not = none zero (omega arith) (ap (has_calls script) (omega arith) ∙ not)

    end_when : (b : Bool) → is_offered s.phase ≡ b → waiting_in (end_of s) ≡ cond b (s.call ∷ []) []
    end_when true is = ap (λ p. waiting_in (cond (is_blocked_phase p) (Waits s.call) Done)) (here_waits is)
    end_when false is = free (is_blocked_phase s.phase) refl
      where
        free : (b : Bool) → is_blocked_phase s.phase ≡ b → waiting_in (cond b (Waits s.call) Done) ≡ []
        free true blocked = absurd (cc (sym is ∙ ap is_offered (blocked_is s.phase blocked)))
        free false blocked = refl

    by : (has : Bool) → has_calls script n ≡ has → (b : Bool) → is_offered s.phase ≡ b → flat_map offered_by seats ≡ waiting (ends_from script (n + 1) seats)
        → cond b (s.call ∷ []) [] ++ flat_map offered_by seats ≡ waiting (cond has ((n, end_of s) ∷ ends_from script (n + 1) seats) (ends_from script (n + 1) seats))
    by true has b is rest = ap (λ l. l ++ flat_map offered_by seats) (sym (end_when b is)) ∙ ap (λ l. waiting_in (end_of s) ++ l) rest
    by false has true is rest = absurd (cc (sym is ∙ here_none has))
    by false has false is rest = rest

module _ (i : Declared) (ask : Table) (script : Script) (history : List Entry) (seats : List Seat) (given : List (List ℕ)) (is : IsPlaying i script history seats given) (nobody : NobodyGoes script seats) where
  at : (k : ℕ) → seat_in seats (1 + k) ≡ unwrap_or (slice_get seats k) no_seat
  at k = ap (λ m. unwrap_or (slice_get seats m) no_seat) (omega arith)

  -- the clients end as their seats say
  pub playing_ends : ((client : ℕ) → 1 ≤ client → client ≤ length seats → (seat_in seats client).phase ≡ Blocked → answer i ask (object_of i.facts history) (seat_in seats client).call ≡ None)
      → AreEnds i ask history script (ends_from script 1 seats)
  playing_ends waits = record {
    clients = map_clients script 1 seats ∙ ap (λ n. filter (has_calls script) (ascending_from 1 n)) is.clients;
    each = each_end i ask history script 1 seats (λ k below. subst (λ s. IsEnd i ask history script (1 + k) (end_of s)) (at k)
        (ends_so i ask script history (1 + k) (seat_in seats (1 + k)) (is.callers.each (1 + k) (omega arith) (omega (arith, below))) (nobody (1 + k) (omega arith) (omega (arith, below)))
        (waits (1 + k) (omega arith) (omega (arith, below)))));
  }

  -- and the calls that wait are those that aren't answered
  pub playing_waiting : flat_map offered_by seats ≡ waiting (ends_from script 1 seats)
  playing_waiting = waiting_from script 1 seats
      (λ k below none. subst (λ s. is_offered s.phase ≡ false) (at k) (offers_none i script history (1 + k) (seat_in seats (1 + k)) (is.callers.each (1 + k) (omega arith) (omega (arith, below))) none))
      (λ k below. subst (λ s. is_offered s.phase ≡ true → s.phase ≡ Blocked) (at k) (rests script (1 + k) (seat_in seats (1 + k)) (nobody (1 + k) (omega arith) (omega (arith, below)))).offers)

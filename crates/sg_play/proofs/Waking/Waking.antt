-- What a play keeps so that who waits is woken before it waits again: it holds of a new world, it is kept by all that happens, and it
-- gives the promise.
use Rattle.std.proofs.Common.{◌≡◌, ℕ, zero, suc, ◌+◌, ◌-◌, ◌≤◌, Bool, true, false, cond, List, [], None, Some, length, refl, sym, ◌∙◌, ap, subst, arith}
use Rattle.std.specs.Prelude.{nat_lt, replicate, slice_get, unwrap_or}
use Rattle.std.specs.declared.option.Option.{Option}
use Rattle.sg_facts.specs.sg_base.declared.call.Call.{Call}
use Rattle.sg_facts.specs.declared.entry.Entry.{Entry}
use Rattle.sg_facts.specs.Legal.{LegalFrom}
use Rattle.sg_facts.specs.Object.{empty_object}
use Rattle.sg_facts.specs.sg_base.Lists.{Each}
use Rattle.sg_plain.specs.sg_hist.Clients.{calls_of}
use Rattle.sg_plain.specs.sg_hist.Reading.{places_from}
use Rattle.sg_plain.specs.sg_hist.Inside.Parts.{waking_entries}
use Rattle.sg_plain.specs.Calls.{call_after, script_calls}
use Rattle.sg_plain.specs.Promises.{AreWoken}
use Rattle.sg_plain.specs.Inside.Kept.{IsWokenBetween}
use Rattle.sg_play.specs.Recovering.{RecoversSoFar}
use Rattle.sg_play.specs.Turning.{StepsInTurn, after_step, with_call, with_offer}
use Rattle.sg_plain.proofs.Playing.Calling.{next_of}
use Rattle.sg_plain.specs.Playing.Plays.{IsPlaying}
use Rattle.sg_plain.specs.Playing.Turns.{is_free_phase}
use Rattle.sg_plain.specs.sg_script.declared.script.Script.{Script}
use Rattle.sg_plain.specs.sg_clients.WorldView.{Seat, WorldView, happened, in_phase, is_held_phase, is_left_phase, is_offered, new_world, no_seat, seat_of, with_leave, with_mark}
use Rattle.sg_plain.specs.sg_clients.declared.mark.MarkKind.TheVariants.{Leave}
use Rattle.sg_plain.specs.sg_clients.declared.phase.Phase.{Phase}
use Rattle.sg_plain.specs.sg_clients.declared.phase.Phase.TheVariants.{Idle, Asked, Held, Receipted, Blocked, Left}
use Rattle.sg_play.proofs.Waking.Between.{between_none}
use Rattle.sg_world.proofs.sg_world_laws.Ending.Seats.{each_set}
use Rattle.sg_play.proofs.Waking.Woken.{seat_offered}
use Rattle.sg_plain.specs.Answering.{no_query_waits}
use Rattle.sg_play.specs.Waking.Waking.{IsWaking, IsWokenSeat}
use Rattle.sg_world.specs.declared.did.Did.{Did}
use Rattle.sg_world.specs.declared.did.Did.TheVariants.{Answered, Blocked as Waits, Booted, Loaded, Lost, Replayed, Served, Skipped, Struck}
use Rattle.sg_world.specs.Steps.{Steps, LackedMemory}
use Rattle.sg_world.specs.sg_world_laws.Setting.{Setting}
use Rattle.sg_play.proofs.Waking.Turned.{idle_step, same_clients, stepped, waking_left}

-- a client takes a turn
pub waking_turn : (z : Setting) (script : Script) (x now : WorldView) (given : List (List ℕ)) (client : ℕ) (handed : Option ℕ) → IsPlaying z.iface script x.history x.seats given → RecoversSoFar z x → RecoversSoFar z now
    → 1 ≤ client → client ≤ length x.seats → IsWaking z x → StepsInTurn z script x client handed now → IsWaking z now
waking_turn z script x now given client handed playing before behind first last is turn =
    subst (IsWaking z) (sym turn.is) (at turn.did turn.stepped.steps turn.stepped.counted (subst (λ (w : WorldView). LegalFrom z.iface z.ask empty_object w.history) turn.is behind.legal))
  where
    leaving_history : (w : WorldView) (b left : Bool) → (cond b w (happened (cond left w (with_mark (in_phase w client Left) client Leave)))).history ≡ w.history
    leaving_history w true left = refl
    leaving_history w false true = refl
    leaving_history w false false = refl

    plain : (did : Did) → Steps z x client did turn.stepped.later → turn.later ≡ happened turn.stepped.later → LegalFrom z.iface z.ask empty_object turn.later.history → IsWaking z turn.later
    plain did steps counted legal =
        stepped z script x given client first last playing before is did turn.stepped.later turn.later (subst (LegalFrom z.iface z.ask empty_object) (ap (λ (w : WorldView). w.history) counted) legal) steps counted

    at : (did : Did) → Steps z x client did turn.stepped.later → turn.later ≡ happened turn.stepped.later → LegalFrom z.iface z.ask empty_object (after_step script client did turn.later).history
        → IsWaking z (after_step script client did turn.later)
    at Skipped steps counted legal = plain Skipped steps counted legal
    at Struck steps counted legal = plain Struck steps counted legal
    at Booted steps counted legal = plain Booted steps counted legal
    at Replayed steps counted legal = plain Replayed steps counted legal
    at Loaded steps counted legal = plain Loaded steps counted legal
    at Served steps counted legal = plain Served steps counted legal
    at Waits steps counted legal = plain Waits steps counted legal
    at Lost steps counted legal = plain Lost steps counted legal
    at (Answered reply) steps counted legal =
        let more = nat_lt (seat_of turn.later client).seq (length (script_calls script client)) in
        let legal_then : LegalFrom z.iface z.ask empty_object turn.later.history = subst (LegalFrom z.iface z.ask empty_object) (leaving_history turn.later more (is_left_phase (seat_of turn.later client).phase)) legal in
        let stays = plain (Answered reply) steps counted legal_then in
        let idle : (seat_of turn.later client).phase ≡ Idle = ap (λ (w : WorldView). (seat_of w client).phase) counted ∙ idle_step z script x given client first last playing before is reply turn.stepped.later steps in
        let count : length turn.later.seats ≡ length x.seats = ap (λ (w : WorldView). length w.seats) counted ∙ same_clients z script x given client first last playing before is reply turn.stepped.later steps in
        by more stays (waking_left z turn.later client first (omega (arith, count, last)) idle stays)
      where
        by : (b : Bool) → IsWaking z turn.later → IsWaking z (happened (with_leave turn.later client)) → IsWaking z (cond b turn.later (happened (with_leave turn.later client)))
        by true stays leaves = stays
        by false stays leaves = leaves

-- a client that has no call under way offers its next call
pub waking_offer : (z : Setting) (script : Script) (w : WorldView) (given : List (List ℕ)) (client : ℕ) → IsPlaying z.iface script w.history w.seats given → 1 ≤ client → client ≤ length w.seats → IsWaking z w
    → IsWaking z (with_offer z.iface.facts script w client)
waking_offer z script w given client playing first last is =
    by (is_free_phase (seat_of w client).phase) refl (call_after z.iface.facts script w.history client (length (calls_of w.history client))) refl
  where
    free_offers : (p : Phase) → is_free_phase p ≡ true → is_offered p ≡ false
    free_offers Idle free = refl
    free_offers Left free = refl
    free_offers Asked free = absurd (cc free)
    free_offers Held free = absurd (cc free)
    free_offers Receipted free = absurd (cc free)
    free_offers Blocked free = absurd (cc free)

    asks : (call : Call) → is_free_phase (seat_of w client).phase ≡ true → call.seq ≡ (seat_of w client).seq + 1 → IsWaking z (with_call w client (Some call))
    asks call free next =
        let new : Seat = record (seat_of w client) { phase = Asked; call = call } in
        let entries : List Entry = waking_entries z.iface.facts w.history in
        λ queries. record {
          woken = (is queries).woken;
          each = each_set (IsWokenSeat z.iface.facts entries w.run.boots) w.seats client new first last
              (seat_offered z.iface.facts entries w.run.boots client (seat_of w client) call (free_offers (seat_of w client).phase free) next ((is queries).each client first last))
              (λ other from to apart. (is queries).each other from to);
        }

    by : (b : Bool) → is_free_phase (seat_of w client).phase ≡ b → (o : Option Call) → call_after z.iface.facts script w.history client (length (calls_of w.history client)) ≡ o → IsWaking z (with_offer z.iface.facts script w client)
    by false free o next = subst (λ b. IsWaking z (cond b (with_call w client (call_after z.iface.facts script w.history client (length (calls_of w.history client)))) w)) (sym free) is
    by true free None next =
        subst (λ b. IsWaking z (cond b (with_call w client (call_after z.iface.facts script w.history client (length (calls_of w.history client)))) w)) (sym free)
        (subst (λ o. IsWaking z (with_call w client o)) (sym next) is)
    by true free (Some call) next =
        subst (λ b. IsWaking z (cond b (with_call w client (call_after z.iface.facts script w.history client (length (calls_of w.history client)))) w)) (sym free)
        (subst (λ o. IsWaking z (with_call w client o)) (sym next)
        (asks call free
        (ap (λ c. c.seq) (next_of z.iface.facts script w.history client (length (calls_of w.history client)) call next).is ∙ ap (λ n. n + 1) (sym (playing.callers.each client first last).count))))

-- an event is counted
pub waking_happened : (z : Setting) (w : WorldView) → IsWaking z w → IsWaking z (happened w)
waking_happened z w is = is

-- a step wanted memory
pub waking_wanted : (z : Setting) (x now : WorldView) (client : ℕ) → LackedMemory z x client now → IsWaking z x → IsWaking z now
waking_wanted z x now client wants is = subst (IsWaking z) (sym wants.counted) is

nobody_at : (n k : ℕ) → unwrap_or (slice_get (replicate n no_seat) k) no_seat ≡ no_seat
nobody_at zero k = refl
nobody_at (suc n) zero = refl
nobody_at (suc n) (suc k) = nobody_at n k

-- in a new world nothing was done
pub waking_new : (z : Setting) (w : WorldView) (n : ℕ) → w ≡ new_world (replicate n no_seat) → IsWaking z w
waking_new z w n new = subst (IsWaking z) (sym new) (λ queries. record {
  woken = tt;
  each = λ client from to. record { items = tt; since = λ asks. tt; visible = λ all. ap (λ (t : Seat). is_held_phase t.phase) (nobody_at n (client - 1)) };
})

-- between two waits of a call in one boot stands an entry that wakes it
pub waking_woken : (z : Setting) (w : WorldView) → no_query_waits z.iface.facts ≡ true → IsWaking z w → AreWoken z.iface.facts w.history w.run
waking_woken z w queries is = by z.iface.facts.global (is queries).woken
  where
    by : (g : Bool) → Each (λ p. IsWokenBetween z.iface.facts (cond g w.history []) p p.item.tag) (places_from [] w.run.boots) → Each (λ p. IsWokenBetween z.iface.facts w.history p p.item.tag) (places_from [] w.run.boots)
    by true all = all
    by false all = between_none z.iface.facts w.history (places_from [] w.run.boots) all

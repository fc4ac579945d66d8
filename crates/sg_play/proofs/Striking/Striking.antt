-- What a play keeps so that each stop was asked for: it holds of a new world, it is kept by all that happens, and it gives the promise.
use Rattle.std.proofs.Common.{◌≡◌, ℕ, ◌-◌, ◌≤◌, Bool, true, false, cond, List, [], ◌∷◌, ◌++◌, None, Some, flat_map, length, map, refl, sym, ◌∙◌, ap, subst, arith, slice_set}
use Rattle.std.specs.Prelude.{nat_lt, replicate}
use Rattle.std.specs.declared.option.Option.{Option}
use Rattle.sg_facts.specs.sg_base.declared.call.Call.{Call}
use Rattle.sg_facts.specs.sg_base.declared.reply.Reply.{Reply}
use Rattle.sg_facts.specs.Facts.{Facts}
use Rattle.sg_plain.specs.Answering.{no_query_waits}
use Rattle.sg_plain.specs.Calls.{call_after, script_calls}
use Rattle.sg_plain.specs.Playing.Plays.{IsPlaying}
use Rattle.sg_plain.specs.Playing.Turns.{is_free_phase}
use Rattle.sg_plain.specs.sg_script.declared.script.Script.{Script}
use Rattle.sg_plain.specs.sg_clients.WorldView.{Seat, WorldView, happened, in_phase, is_left_phase, is_offered, new_world, no_seat, offered_by, seat_of, unanswered, with_leave, with_mark}
use Rattle.sg_plain.specs.sg_clients.declared.mark.MarkKind.TheVariants.{Leave}
use Rattle.sg_plain.specs.sg_clients.declared.phase.Phase.{Phase}
use Rattle.sg_plain.specs.sg_clients.declared.phase.Phase.TheVariants.{Idle, Asked, Held, Receipted, Blocked, Left}
use Rattle.sg_plain.specs.sg_hist.Clients.{calls_of}
use Rattle.sg_plain.specs.sg_hist.Ending.{AreAsked}
use Rattle.sg_plain.specs.sg_hist.Inside.Parts.{EndsQuiet}
use Rattle.sg_world.proofs.sg_world_laws.Entering.{kept_all}
use Rattle.sg_world.specs.declared.did.Did.{Did}
use Rattle.sg_world.specs.declared.did.Did.TheVariants.{Answered, Blocked as Waits, Booted, Loaded, Lost, Replayed, Served, Skipped, Struck}
use Rattle.sg_world.specs.Steps.{LackedMemory, Steps}
use Rattle.sg_world.specs.sg_world_laws.Setting.{Setting}
use Rattle.sg_play.proofs.Striking.Boots.{asked_kept, asked_over}
use Rattle.sg_play.proofs.Striking.Made.{kept_set}
use Rattle.sg_play.proofs.Striking.Struck.{striking_step}
use Rattle.sg_play.proofs.Waking.Turned.{idle_step, same_clients}
use Rattle.sg_play.specs.Recovering.{RecoversSoFar}
use Rattle.sg_play.specs.Striking.Striking.{IsStriking}
use Rattle.sg_play.specs.Turning.{StepsInTurn, after_step, with_call, with_offer}
use Rattle.sg_play.specs.Waking.Waking.{IsWaking}

-- ---- a seat that offers nothing

-- the seat of a client that offers nothing is another
striking_free : (z : Setting) (w : WorldView) (c : ℕ) (new : Seat) → 1 ≤ c → c ≤ length w.seats → is_offered (seat_of w c).phase ≡ false → IsStriking z w → IsStriking z (record w { seats = slice_set w.seats (c - 1) new })
striking_free z w c new first last free is =
    let later = flat_map offered_by (slice_set w.seats (c - 1) new) ++ map (λ y. y.call) w.withdrawn in
    asked_kept z.iface w.history (unanswered w) later
    (kept_all w.history (unanswered w) later (kept_set w.seats c first last new (map (λ y. y.call) w.withdrawn) (λ offers. absurd (cc (offers, free))))) [] w.run.boots is

-- a client leaves, which has no call under way
pub striking_left : (z : Setting) (w : WorldView) (c : ℕ) → 1 ≤ c → c ≤ length w.seats → (seat_of w c).phase ≡ Idle → IsStriking z w → IsStriking z (happened (with_leave w c))
striking_left z w c first last idle is = by (is_left_phase (seat_of w c).phase)
  where
    by : (b : Bool) → IsStriking z (happened (cond b w (with_mark (in_phase w c Left) c Leave)))
    by true = is
    by false = striking_free z w c (record (seat_of w c) { phase = Left }) first last (ap is_offered idle) is

-- a client that has no call under way offers its next call
pub striking_offer : (z : Setting) (script : Script) (w : WorldView) (client : ℕ) → 1 ≤ client → client ≤ length w.seats → IsStriking z w → IsStriking z (with_offer z.iface.facts script w client)
striking_offer z script w client first last is = by (is_free_phase (seat_of w client).phase) refl (call_after z.iface.facts script w.history client (length (calls_of w.history client)))
  where
    free_offers : (p : Phase) → is_free_phase p ≡ true → is_offered p ≡ false
    free_offers Idle free = refl
    free_offers Left free = refl
    free_offers Asked free = absurd (cc free)
    free_offers Held free = absurd (cc free)
    free_offers Receipted free = absurd (cc free)
    free_offers Blocked free = absurd (cc free)

    offers : (o : Option Call) → is_free_phase (seat_of w client).phase ≡ true → IsStriking z (with_call w client o)
    offers None free = is
    offers (Some call) free = striking_free z w client (record (seat_of w client) { phase = Asked; call = call }) first last (free_offers (seat_of w client).phase free) is

    by : (b : Bool) → is_free_phase (seat_of w client).phase ≡ b → (o : Option Call) → IsStriking z (cond b (with_call w client o) w)
    by false free o = is
    by true free o = offers o free

-- ---- events

-- a step was made, and counted
pub striking_stepped : (z : Setting) (script : Script) (x : WorldView) (given : List (List ℕ)) (c : ℕ) → 1 ≤ c → c ≤ length x.seats → IsPlaying z.iface script x.history x.seats given → RecoversSoFar z x → x.withdrawn ≡ []
    → no_query_waits z.iface.facts ≡ true → IsWaking z x → IsStriking z x → (did : Did) (later now : WorldView) → Steps z x c did later → now ≡ happened later → IsStriking z now
striking_stepped z script x given c first last playing before none queries waking is did later now steps counted =
    subst (IsStriking z) (sym counted) (striking_step z script x given c first last playing before none queries (waking queries) is did later steps)

-- a client takes a turn
pub striking_turn : (z : Setting) (script : Script) (x now : WorldView) (given : List (List ℕ)) (client : ℕ) (handed : Option ℕ) → IsPlaying z.iface script x.history x.seats given → RecoversSoFar z x → x.withdrawn ≡ []
    → no_query_waits z.iface.facts ≡ true → 1 ≤ client → client ≤ length x.seats → IsWaking z x → IsStriking z x → StepsInTurn z script x client handed now → IsStriking z now
striking_turn z script x now given client handed playing before none queries first last waking is turn = subst (IsStriking z) (sym turn.is) (at turn.did turn.stepped.steps turn.stepped.counted)
  where
    plain : (did : Did) → Steps z x client did turn.stepped.later → turn.later ≡ happened turn.stepped.later → IsStriking z turn.later
    plain did steps counted = striking_stepped z script x given client first last playing before none queries waking is did turn.stepped.later turn.later steps counted

    at : (did : Did) → Steps z x client did turn.stepped.later → turn.later ≡ happened turn.stepped.later → IsStriking z (after_step script client did turn.later)
    at Skipped steps counted = plain Skipped steps counted
    at Struck steps counted = plain Struck steps counted
    at Booted steps counted = plain Booted steps counted
    at Replayed steps counted = plain Replayed steps counted
    at Loaded steps counted = plain Loaded steps counted
    at Served steps counted = plain Served steps counted
    at Waits steps counted = plain Waits steps counted
    at Lost steps counted = plain Lost steps counted
    at (Answered reply) steps counted =
        let stays = plain (Answered reply) steps counted in
        let idle : (seat_of turn.later client).phase ≡ Idle = ap (λ (w : WorldView). (seat_of w client).phase) counted ∙ idle_step z script x given client first last playing before waking reply turn.stepped.later steps in
        let count : length turn.later.seats ≡ length x.seats = ap (λ (w : WorldView). length w.seats) counted ∙ same_clients z script x given client first last playing before waking reply turn.stepped.later steps in
        by (nat_lt (seat_of turn.later client).seq (length (script_calls script client))) stays (striking_left z turn.later client first (omega (arith, count, last)) idle stays)
      where
        by : (b : Bool) → IsStriking z turn.later → IsStriking z (happened (with_leave turn.later client)) → IsStriking z (cond b turn.later (happened (with_leave turn.later client)))
        by true stays leaves = stays
        by false stays leaves = leaves

-- an event is counted
pub striking_happened : (z : Setting) (w : WorldView) → IsStriking z w → IsStriking z (happened w)
striking_happened z w is = is

-- a step wanted memory
pub striking_wanted : (z : Setting) (x now : WorldView) (client : ℕ) → LackedMemory z x client now → IsStriking z x → IsStriking z now
striking_wanted z x now client wants is = subst (IsStriking z) (sym wants.counted) is

-- in a new world nothing stopped
pub striking_new : (z : Setting) (w : WorldView) (n : ℕ) → w ≡ new_world (replicate n no_seat) → IsStriking z w
striking_new z w n new = subst (IsStriking z) (sym new) (tt, tt)

-- at the end each stop was asked for, where the last boot didn't stop at a point that nobody asked
pub striking_over : (z : Setting) (w : WorldView) → EndsQuiet z.iface.facts w.run.boots → IsStriking z w → AreAsked z.iface w.history (unanswered w) [] w.run.boots
striking_over z w quiet is = asked_over z.iface w.history (unanswered w) [] w.run.boots quiet is

-- A play can go on over a world after every event of its clients: each of them keeps what it needs.
use Rattle.std.proofs.Common.{◌≡◌, ◌≢◌, ◌⊎◌, ℕ, zero, suc, ◌+◌, ◌-◌, ◌<◌, ◌≤◌, true, false, cond, List, [], ◌∷◌, Some, length, map, take, refl, sym, ◌∙◌, ap, subst, inl, inr, arith, slice_set}
use Rattle.std.specs.Prelude.{nat_lt, slice_get, unwrap_or}
use Rattle.std.proofs.lemmas.Bool.Decides.{nat_tests}
use Rattle.sg_facts.specs.sg_base.declared.call.Call.{Call}
use Rattle.sg_facts.specs.sg_base.declared.reply.Reply.{Reply}
use Rattle.sg_facts.specs.declared.entry.Entry.{Entry}
use Rattle.sg_facts.specs.Legal.{LegalFrom}
use Rattle.sg_facts.specs.Object.{empty_object}
use Rattle.sg_plain.specs.sg_hist.Clients.{calls_of}
use Rattle.sg_plain.specs.sg_hist.Inside.Reads.{desc_of}
use Rattle.sg_plain.specs.sg_hist.Reading.{items_of}
use Rattle.sg_plain.specs.Answering.{no_query_waits}
use Rattle.sg_plain.specs.Calls.{call_after}
use Rattle.sg_plain.specs.Playing.Callers.{StepsOn, handed, is_receipted, is_setting_up}
use Rattle.sg_plain.specs.Playing.Given.{HaveGiven}
use Rattle.sg_plain.specs.Playing.Plays.{IsPlaying}
use Rattle.sg_plain.specs.Playing.Turns.{is_free_phase}
use Rattle.sg_plain.specs.sg_script.declared.script.Script.{Script}
use Rattle.sg_plain.specs.sg_clients.WorldView.{IsFree, Seat, WorldView, happened, in_phase, is_left_phase, is_offered, no_seat, offered, seat_in, seat_of, with_leave, with_mark}
use Rattle.sg_plain.specs.sg_clients.declared.mark.MarkKind.TheVariants.{Leave}
use Rattle.sg_plain.specs.sg_clients.declared.phase.Phase.{Phase}
use Rattle.sg_plain.specs.sg_clients.declared.phase.Phase.TheVariants.{Idle, Asked, Held, Receipted, Blocked, Left}
use Rattle.sg_plain.proofs.Playing.Calling.{its_client, next_of}
use Rattle.sg_plain.proofs.sg_clients.Lines.{same_or_other, seat_here, seat_there}
use Rattle.sg_play.proofs.Offering.{offered_playing, offered_setup}
use Rattle.sg_play.proofs.SettingUp.{setting_up_step, setting_up_still}
use Rattle.sg_play.proofs.Stepping.{handed_step, quiet_step}
use Rattle.sg_play.proofs.Striking.Striking.{striking_left, striking_offer, striking_stepped}
use Rattle.sg_play.proofs.Turning.{some_last, stepped_handed, stepped_left, stepped_quiet}
use Rattle.sg_play.proofs.Waking.Turned.{stepped, waking_left}
use Rattle.sg_play.proofs.Waking.Waking.{waking_offer}
use Rattle.sg_play.specs.GoingOn.{MayGoOn}
use Rattle.sg_play.specs.Recovering.{RecoversSoFar}
use Rattle.sg_play.specs.SettingUp.{IsSettingUpFirst}
use Rattle.sg_play.specs.Striking.Striking.{IsStriking}
use Rattle.sg_play.specs.Turning.{with_call}
use Rattle.sg_play.specs.Waking.Waking.{IsWaking}
use Rattle.sg_world.specs.declared.did.Did.{Did}
use Rattle.sg_world.specs.declared.did.Did.TheVariants.{Answered, Blocked as Waits, Booted, Loaded, Lost, Replayed, Served, Skipped, Struck}
use Rattle.sg_world.specs.Steps.{AnswersLast, HasStepped, LackedMemory}
use Rattle.sg_world.specs.sg_world_laws.Setting.{Setting}

-- ---- what the clients were given

-- what the calls of clients were given whose replies they were handed over, of the clients of these seats from a client on
abbrev pub ids_given : List Entry → ℕ → List Seat → List (List ℕ)
ids_given history client [] = []
ids_given history client (s ∷ seats) = map (λ (e : Entry). desc_of e.reply) (take (handed s) (calls_of history client)) ∷ ids_given history (client + 1) seats

as_many : (history : List Entry) (client : ℕ) (seats : List Seat) → length (ids_given history client seats) ≡ length seats
as_many history client [] = refl
as_many history client (s ∷ seats) = ap suc (as_many history (client + 1) seats)

ids_at : (history : List Entry) (client : ℕ) (seats : List Seat) (k : ℕ) → k < length seats
    → map (λ (e : Entry). desc_of e.reply) (take (handed (unwrap_or (slice_get seats k) no_seat)) (calls_of history (client + k))) ≡ unwrap_or (slice_get (ids_given history client seats) k) []
ids_at history client [] k below = absurd (omega (arith, below))
ids_at history client (s ∷ seats) zero below = ap (λ n. map (λ (e : Entry). desc_of e.reply) (take (handed s) (calls_of history n))) (omega arith)
ids_at history client (s ∷ seats) (suc k) below =
    ap (λ n. map (λ (e : Entry). desc_of e.reply) (take (handed (unwrap_or (slice_get seats k) no_seat)) (calls_of history n))) (omega arith)
    ∙ ids_at history (client + 1) seats k (omega (arith, below))

pub ids_are_given : (history : List Entry) (seats : List Seat) → HaveGiven history seats (ids_given history 1 seats)
ids_are_given history seats = record {
  clients = as_many history 1 seats;
  each = λ client first last.
      ap (λ n. map (λ (e : Entry). desc_of e.reply) (take (handed (seat_in seats client)) (calls_of history n))) (omega (arith, first))
      ∙ ids_at history 1 seats (client - 1) (omega (arith, first, last));
}

-- what is kept is what a play keeps, with what the clients were given
pub playing_of : (z : Setting) (script : Script) (w : WorldView) → MayGoOn z script w → (given : List (List ℕ)) → HaveGiven w.history w.seats given → IsPlaying z.iface script w.history w.seats given
playing_of z script w is given gave = record { playable = is.playable; clients = is.clients; callers = is.callers; first = is.first; have_given = gave }

pub goes_of : (z : Setting) (script : Script) (w : WorldView) (given : List (List ℕ)) → IsPlaying z.iface script w.history w.seats given → is_setting_up script w.seats ≡ false → IsSettingUpFirst script w → IsWaking z w
    → IsStriking z w → MayGoOn z script w
goes_of z script w given playing settled setting_up waking striking = record {
  playable = playing.playable;
  clients = playing.clients;
  callers = playing.callers;
  first = playing.first;
  settled = settled;
  setting_up = setting_up;
  waking = waking;
  striking = striking;
}

past : (a b n : ℕ) → a ≤ b → nat_lt a n ≡ false → nat_lt b n ≡ false
past a b n more not = grind (arith, nat_tests)

-- a step of a client leaves the setup done
still_done : (script : Script) (history now : List Entry) (seats later : List Seat) (c : ℕ) → StepsOn history seats c now later → is_setting_up script seats ≡ false → is_setting_up script later ≡ false
still_done script history now seats later c on settled = past (handed (seat_in seats 1)) (handed (seat_in later 1)) (length script.setup) (by on (same_or_other 1 c)) settled
  where
    own : StepsOn history seats c now later → handed (seat_in seats c) ≤ handed (seat_in later c)
    own (inl enters) = enters.handed_on.own
    own (inr enters) = enters.handed_on.own

    others : StepsOn history seats c now later → 1 ≢ c → handed (seat_in later 1) ≡ handed (seat_in seats 1)
    others (inl enters) other = enters.handed_on.others 1 (omega arith) other
    others (inr enters) other = enters.handed_on.others 1 (omega arith) other

    by : StepsOn history seats c now later → (1 ≡ c) ⊎ (1 ≢ c) → handed (seat_in seats 1) ≤ handed (seat_in later 1)
    by steps (inl same) = subst (λ n. handed (seat_in seats n) ≤ handed (seat_in later n)) (sym same) (own steps)
    by steps (inr other) = omega (arith, others steps other)

-- one seat is set, to which as many replies were handed over
still_set : (script : Script) (seats : List Seat) (c : ℕ) (new : Seat) → 1 ≤ c → c ≤ length seats → handed new ≡ handed (seat_in seats c)
    → is_setting_up script seats ≡ false → is_setting_up script (slice_set seats (c - 1) new) ≡ false
still_set script seats c new first last same settled = ap (λ n. nat_lt n (length script.setup)) (by (same_or_other 1 c)) ∙ settled
  where
    by : (1 ≡ c) ⊎ (1 ≢ c) → handed (seat_in (slice_set seats (c - 1) new) 1) ≡ handed (seat_in seats 1)
    by (inl own) = subst (λ n. handed (seat_in (slice_set seats (c - 1) new) n) ≡ handed (seat_in seats n)) (sym own) (ap handed (seat_here seats c new first last) ∙ same)
    by (inr other) = ap handed (seat_there seats c 1 new first (omega arith) other)

-- ---- events

-- an event that changes nothing but its count
pub goes_happened : (z : Setting) (script : Script) (w : WorldView) → MayGoOn z script w → MayGoOn z script (happened w)
goes_happened z script w is = record {
  playable = is.playable;
  clients = is.clients;
  callers = is.callers;
  first = is.first;
  settled = is.settled;
  setting_up = record { front = is.setting_up.front; all = is.setting_up.all };
  waking = is.waking;
  striking = is.striking;
}

-- a step that wanted memory
pub goes_wanted : (z : Setting) (script : Script) (w : WorldView) (c : ℕ) (now : WorldView) → MayGoOn z script w → LackedMemory z w c now → MayGoOn z script now
goes_wanted z script w c now is wants = subst (MayGoOn z script) (sym wants.counted) (record {
  playable = is.playable;
  clients = is.clients;
  callers = is.callers;
  first = is.first;
  settled = is.settled;
  setting_up = record { front = is.setting_up.front; all = is.setting_up.all };
  waking = is.waking;
  striking = is.striking;
})

module _ (z : Setting) (script : Script) (w : WorldView) (c : ℕ) (first : 1 ≤ c) (last : c ≤ length w.seats) (is : MayGoOn z script w) where
  abbrev given : List (List ℕ)
  given = ids_given w.history 1 w.seats

  playing : IsPlaying z.iface script w.history w.seats given
  playing = playing_of z script w is given (ids_are_given w.history w.seats)

  over : is_setting_up script w.seats ≡ true → c ≡ 1
  over on = absurd (let off = is.settled in cc (off, on))

  -- a client that has no call under way offers its next call
  module _ (free : is_free_phase (seat_of w c).phase ≡ true) (call : Call) (next : call_after z.iface.facts script w.history c (length (calls_of w.history c)) ≡ Some call) where
    waking_then : IsWaking z (happened (offered w c call))
    waking_then =
        subst (IsWaking z) (ap (λ b. cond b (with_call w c (call_after z.iface.facts script w.history c (length (calls_of w.history c)))) w) free ∙ ap (with_call w c) next)
        (waking_offer z script w given c playing first last is.waking)

    striking_then : IsStriking z (happened (offered w c call))
    striking_then =
        subst (IsStriking z) (ap (λ b. cond b (with_call w c (call_after z.iface.facts script w.history c (length (calls_of w.history c)))) w) free ∙ ap (with_call w c) next)
        (striking_offer z script w c first last is.striking)

    pub goes_offered : MayGoOn z script (happened (offered w c call))
    goes_offered =
        let done : is_setting_up script (happened (offered w c call)).seats ≡ false
        = offered_setup z.iface script w.history w.seats given c first last playing free call next ∙ is.settled in
        goes_of z script (happened (offered w c call)) given (offered_playing z.iface script w.history w.seats given c first last playing free call next over) done
        (setting_up_still script w (happened (offered w c call)) (λ off. done) is.setting_up refl) waking_then striking_then

  -- a client makes a step
  module _ (none : w.withdrawn ≡ []) (queries : no_query_waits z.iface.facts ≡ true) (did : Did) (now : WorldView) (before : RecoversSoFar z w) (legal : LegalFrom z.iface z.ask empty_object now.history)
      (steps : HasStepped z w c did now) where
    its : is_offered (seat_of w c).phase ≡ true → (seat_of w c).call.client ≡ c
    its offers = its_client z.iface.facts script w.history c (length (calls_of w.history c)) (seat_of w c).call ((is.callers.each c first last).next offers)

    number : is_offered (seat_of w c).phase ≡ true → (seat_of w c).call.seq ≡ (seat_of w c).seq + 1
    number offers =
        ap (λ x. x.seq) (next_of z.iface.facts script w.history c (length (calls_of w.history c)) (seat_of w c).call ((is.callers.each c first last).next offers)).is
        ∙ ap (λ n. n + 1) (sym (is.callers.each c first last).count)

    waking_stepped : IsWaking z now
    waking_stepped = stepped z script w given c first last playing before is.waking did steps.later now
        (subst (LegalFrom z.iface z.ask empty_object) (ap (λ (x : WorldView). x.history) steps.counted) legal) steps.steps steps.counted

    striking_now : IsStriking z now
    striking_now = striking_stepped z script w given c first last playing before none queries is.waking is.striking did steps.later now steps.steps steps.counted

    goes_by : StepsOn w.history w.seats c steps.later.history steps.later.seats → (later : List (List ℕ)) → IsPlaying z.iface script now.history now.seats later → MayGoOn z script now
    goes_by on later is_playing =
        let settled : is_setting_up script now.seats ≡ false
        = ap (λ (x : WorldView). is_setting_up script x.seats) steps.counted ∙ still_done script w.history steps.later.history w.seats steps.later.seats c on is.settled in
        goes_of z script now later is_playing settled
        (setting_up_step z script w given c first last playing did now over (λ off. settled) is.setting_up steps) waking_stepped striking_now

    pub goes_stepped : AnswersLast now c did → MayGoOn z script now
    goes_stepped answers = by did steps answers refl
      where
        quiet : (d : Did) → d ≡ did → ((reply : Reply) → d ≡ Answered reply → ⊥) → MayGoOn z script now
        quiet d same no_reply =
            let none_here : (reply : Reply) → did ≡ Answered reply → ⊥ = λ reply answered. no_reply reply (same ∙ answered) in
            goes_by (quiet_step z w c first last its number did steps.later none_here steps.steps).on given (stepped_quiet z script w given c first last over playing did now none_here steps)

        by : (d : Did) → HasStepped z w c d now → AnswersLast now c d → d ≡ did → MayGoOn z script now
        by Skipped s a same = quiet Skipped same (λ reply answered. cc answered)
        by Struck s a same = quiet Struck same (λ reply answered. cc answered)
        by Booted s a same = quiet Booted same (λ reply answered. cc answered)
        by Replayed s a same = quiet Replayed same (λ reply answered. cc answered)
        by Loaded s a same = quiet Loaded same (λ reply answered. cc answered)
        by Served s a same = quiet Served same (λ reply answered. cc answered)
        by Waits s a same = quiet Waits same (λ reply answered. cc answered)
        by Lost s a same = quiet Lost same (λ reply answered. cc answered)
        by (Answered reply) s a same = answered reply s a
          where
            answered : (r : Reply) → HasStepped z w c (Answered r) now → AnswersLast now c (Answered r) → MayGoOn z script now
            answered r s a =
                let is_then = stepped_handed z script w given c first last over playing r now s a in
                let some : s.later.history ≡ w.history → 1 ≤ (seat_of w c).seq
                = λ same. omega (arith, (is.callers.each c first last).count, ap (λ h. length (calls_of h c)) (ap (λ (x : WorldView). x.history) s.counted ∙ same), some_last (calls_of now.history c) _ a.1) in
                let on = (handed_step z w c first last its number r s.later some s.steps).on in
                let settled : is_setting_up script now.seats ≡ false
                = ap (λ (x : WorldView). is_setting_up script x.seats) s.counted ∙ still_done script w.history s.later.history w.seats s.later.seats c on is.settled in
                goes_of z script now _ is_then settled
                (setting_up_step z script w given c first last playing did now over (λ off. settled) is.setting_up steps) waking_stepped striking_now

  -- a client that has no call under way leaves
  pub goes_left : IsFree (seat_of w c).phase → MayGoOn z script (happened (with_leave w c))
  goes_left free = by (seat_of w c).phase refl free
    where
      gone : (seat_of w c).phase ≡ Left → MayGoOn z script (happened (with_leave w c))
      gone left = subst (λ b. MayGoOn z script (happened (cond b w (with_mark (in_phase w c Left) c Leave)))) (sym (ap is_left_phase left)) (goes_happened z script w is)

      idle : (seat_of w c).phase ≡ Idle → MayGoOn z script (happened (with_leave w c))
      idle at =
          let new : Seat = record (seat_of w c) { phase = Left } in
          let not_left : is_left_phase (seat_of w c).phase ≡ false = ap is_left_phase at in
          let leaves : WorldView = with_mark (in_phase w c Left) c Leave in
          let is_now : happened (with_leave w c) ≡ happened leaves = ap (λ b. happened (cond b w leaves)) not_left in
          let same : handed new ≡ handed (seat_of w c) = ap (λ p. cond (is_receipted p) ((seat_of w c).seq - 1) (seat_of w c).seq) (sym at) in
          let settled : is_setting_up script (happened (with_leave w c)).seats ≡ false
          = ap (λ (x : WorldView). is_setting_up script x.seats) is_now ∙ still_set script w.seats c new first last same is.settled in
          goes_of z script (happened (with_leave w c)) given (stepped_left z script w given c first last at (happened (with_leave w c)) refl playing) settled
          (setting_up_still script w (happened (with_leave w c)) (λ off. settled) is.setting_up (ap (λ (x : WorldView). items_of x.run.boots) is_now))
          (waking_left z w c first last at is.waking) (striking_left z w c first last at is.striking)

      by : (p : Phase) → (seat_of w c).phase ≡ p → IsFree p → MayGoOn z script (happened (with_leave w c))
      by Idle at free = idle at
      by Left at free = gone at
      by Asked at free = absurd free
      by Held at free = absurd free
      by Receipted at free = absurd free
      by Blocked at free = absurd free

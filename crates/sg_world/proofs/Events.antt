-- The points of a world are counted after every event, also where a step gets no memory, and a reply that is handed over is that of its
-- client's last entry.
use Rattle.std.proofs.Common.{Bool, Some, [], ap, false, inl, inr, refl, subst, sym, true, ℕ, ◌++◌, ◌+◌, ◌∙◌, ◌∷◌, ◌≡◌, ◌⊎◌}
use Rattle.std.proofs.lemmas.List.{length-map}
use Rattle.std.specs.Prelude.{IfOk, OnErr, length, map, min, slice_set}
use Rattle.sg_facts.specs.sg_base.declared.call.Call.{Call}
use Rattle.sg_world.proofs.Rooming.{length_set}
use Rattle.std.specs.Result.{is_err}
use Rattle.std.specs.declared.result.Result.{Result}
use Rattle.std.specs.declared.result.Result.TheVariants.{Err, Ok as Done}
use Rattle.sg_facts.specs.sg_base.Counts.{last_count}
use Rattle.sg_facts.specs.sg_base.Stops.{asked_after}
use Rattle.sg_facts.specs.sg_base.declared.memory.NoMemory.{NoMemory}
use Rattle.sg_facts.specs.sg_base.declared.reply.Reply.{Reply}
use Rattle.sg_replay.specs.sg_boot.Cells.{IsCell}
use Rattle.sg_world.specs.Engines.Stubs.{stub_of}
use Rattle.sg_facts.specs.declared.entry.Entry.{Entry}
use Rattle.sg_replay.specs.sg_hist.Clients.{calls_of}
use Rattle.sg_replay.specs.Engined.{Engined}
use Rattle.sg_clients.specs.WorldView.{Seat, WorldView, happened, is_offered, seat_of, with_points, woken_seat}
use Rattle.sg_world.proofs.Stepped.{steps_counted, wants_counted}
use Rattle.sg_world.specs.declared.did.Did.{Did}
use Rattle.sg_world.specs.declared.did.Did.TheVariants.{Answered, Blocked as Waits, Booted, Loaded, Lost, Replayed, Served, Skipped, Struck}
use Rattle.sg_world.specs.Inside.Lines.{NoMemoryLeft}
use Rattle.sg_world.specs.Steps.{AnswersLast, Commits, Steps, LackedMemory}
use Rattle.sg_world.specs.Worlded.{CountsAll, IsWorld, Rooms}
use Rattle.sg_world_laws.proofs.Entered.{last_push, own_calls}
use Rattle.sg_world_laws.proofs.Turns.{counted_keeps}
use Rattle.sg_world_laws.specs.Seats.{IsSeated, last_of}
use Rattle.sg_world_laws.specs.Setting.{Setting}

module _ (z : Setting) (w : WorldView) (c : ℕ) where
  pub ok_counted : IsCell z.iface.facts w.running w.run.boots → CountsAll z w → (later : WorldView) (r : Result Did NoMemory) → is_err r ≡ false → IfOk r (λ did. Steps z w c did later) → CountsAll z later
  ok_counted cell was later (Done did) ok steps = steps_counted z w c cell was did later steps
  ok_counted cell was later (Err error) ok steps = absurd (cc ok)

  pub err_counted : IsCell z.iface.facts w.running w.run.boots → CountsAll z w → (later : WorldView) (r : Result Did NoMemory) → is_err r ≡ true → OnErr r (NoMemoryLeft z w c later)
      → CountsAll z (record later { refused = min (later.refused + 1) last_count })
  err_counted cell was later (Done did) err left = absurd (cc err)
  err_counted cell was later (Err error) err left = by left.now
    where
      by : (later ≡ w) ⊎ (later ≡ with_points w (asked_after w.run.points 1)) → CountsAll z (record later { refused = min (later.refused + 1) last_count })
      by (inl same) = subst (λ l. CountsAll z (record l { refused = min (l.refused + 1) last_count })) (sym same) (wants_counted z w c cell was w.run.points (inl refl))
      by (inr more) = subst (λ l. CountsAll z (record l { refused = min (l.refused + 1) last_count })) (sym more) (wants_counted z w c cell was (asked_after w.run.points 1) (inr refl))

  pub err_wants : (later : WorldView) (r : Result Did NoMemory) → is_err r ≡ true → OnErr r (NoMemoryLeft z w c later) → OnErr r (LackedMemory z w c (happened (record later { refused = min (later.refused + 1) last_count })))
  err_wants later (Done did) err left = tt
  err_wants later (Err error) err left = by left.now
    where
      by : (later ≡ w) ⊎ (later ≡ with_points w (asked_after w.run.points 1)) → LackedMemory z w c (happened (record later { refused = min (later.refused + 1) last_count }))
      by (inl same) = record { let_in = left.let_in; points = w.run.points; asked = inl refl; counted = ap (λ l. happened (record l { refused = min (l.refused + 1) last_count })) same }
      by (inr more) = record { let_in = left.let_in; points = asked_after w.run.points 1; asked = inr refl; counted = ap (λ l. happened (record l { refused = min (l.refused + 1) last_count })) more }

  -- a reply that is handed over is that of the client's last entry
  module _ (seated : IsSeated z w.history c (seat_of w c)) where
    entered : (reply : Reply) → (seat_of w c).call.client ≡ c → last_of (calls_of (w.history ++ record { call = (seat_of w c).call; reply = reply } ∷ []) c) ≡ Some (record { call = (seat_of w c).call; reply = reply })
    entered reply its =
        let e : Entry = record { call = (seat_of w c).call; reply = reply } in
        ap last_of (own_calls w.history e c its) ∙ last_push (calls_of w.history c) e

    pub answers_last : (did : Did) (later : WorldView) → Steps z w c did later → AnswersLast later c did
    answers_last (Answered reply) later (inl s) = (
      (seat_of w c).call,
      ap (λ (l : WorldView). last_of (calls_of l.history c)) s.now ∙ seated.receipt s.phase ∙ ap (λ r. Some (record { call = (seat_of w c).call; reply = r })) (sym s.its),
    )
    answers_last (Answered reply) later (inr (inl s)) =
        ((seat_of w c).call, ap (λ (l : WorldView). last_of (calls_of l.history c)) s.now ∙ entered reply (seated.its (ap is_offered s.phase)))
    answers_last (Answered reply) later (inr (inr s)) =
        ((seat_of w c).call, ap (λ (l : WorldView). last_of (calls_of l.history c)) s.now ∙ entered reply (seated.its (ap is_offered s.phase)))
    answers_last Skipped later s = tt
    answers_last Struck later s = tt
    answers_last Booted later s = tt
    answers_last Replayed later s = tt
    answers_last Loaded later s = tt
    answers_last Served later s = tt
    answers_last Waits later s = tt
    answers_last Lost later s = tt

    pub ok_answers : (later : WorldView) (r : Result Did NoMemory) → IfOk r (λ did. Steps z w c did later) → IfOk r (AnswersLast later c)
    ok_answers later (Done did) steps = answers_last did later steps
    ok_answers later (Err error) steps = tt

-- an event is counted, and a step that got no memory
pub event_on : (z : Setting) (e : Engined) (w : WorldView) (rooms : Rooms) → IsWorld z e w rooms → (events refused : ℕ) → IsWorld z e (record w { events = events; refused = refused }) rooms
event_on z e w rooms is events refused = record {
  set = is.set;
  keeps = counted_keeps z w (stub_of e) events refused is.keeps;
  tracked = is.tracked;
  rooms_are = is.rooms_are;
  marked = record { entries = is.marked.entries; withdrawals = is.marked.withdrawals; phases = is.marked.phases };
}

-- a step leaves the number of clients
module _ (z : Setting) (w : WorldView) (c : ℕ) where
  answered_length : (test : Call → Bool) (at : ℕ) (new : Seat) → length (slice_set (map (woken_seat test) w.seats) at new) ≡ length w.seats
  answered_length test at new = length_set (map (woken_seat test) w.seats) at new ∙ length-map w.seats (woken_seat test)

  committed_length : (later : WorldView) → Commits z w c later → length later.seats ≡ length w.seats
  committed_length later s = ap (λ (l : WorldView). length l.seats) s.now ∙ answered_length _ _ _

  pub steps_length : (did : Did) (later : WorldView) → Steps z w c did later → length later.seats ≡ length w.seats
  steps_length Skipped later s = ap (λ (l : WorldView). length l.seats) s.now
  steps_length (Answered reply) later (inl s) = ap (λ (l : WorldView). length l.seats) s.now ∙ length_set w.seats _ _
  steps_length (Answered reply) later (inr (inl s)) = ap (λ (l : WorldView). length l.seats) s.now ∙ answered_length _ _ _
  steps_length (Answered reply) later (inr (inr s)) = ap (λ (l : WorldView). length l.seats) s.now ∙ answered_length _ _ _
  steps_length Lost later s = ap (λ (l : WorldView). length l.seats) s.now ∙ length_set w.seats _ _
  steps_length Booted later s = ap (λ (l : WorldView). length l.seats) s.now ∙ length-map w.seats (woken_seat (λ call. true))
  steps_length Struck later (inl s) = ap (λ (l : WorldView). length l.seats) s.now
  steps_length Struck later (inr (inl s)) = ap (λ (l : WorldView). length l.seats) s.now
  steps_length Struck later (inr (inr (inl s))) = ap (λ (l : WorldView). length l.seats) s.now
  steps_length Struck later (inr (inr (inr s))) = ap (λ (l : WorldView). length l.seats) s.now ∙ committed_length s.between s.commits
  steps_length Replayed later s = ap (λ (l : WorldView). length l.seats) s.now
  steps_length Loaded later s = ap (λ (l : WorldView). length l.seats) s.now
  steps_length Waits later s = ap (λ (l : WorldView). length l.seats) s.now ∙ length_set w.seats _ _
  steps_length Served later (inl s) = ap (λ (l : WorldView). length l.seats) s.now ∙ committed_length s.between s.commits
  steps_length Served later (inr s) = ap (λ (l : WorldView). length l.seats) s.now ∙ length_set w.seats _ _

  pub any_length : (later : WorldView) (r : Result Did NoMemory) → IfOk r (λ did. Steps z w c did later) → OnErr r (NoMemoryLeft z w c later) → length later.seats ≡ length w.seats
  any_length later (Done did) steps left = steps_length did later steps
  any_length later (Err error) steps left = by left.now
    where
      by : (later ≡ w) ⊎ (later ≡ with_points w (asked_after w.run.points 1)) → length later.seats ≡ length w.seats
      by (inl same) = ap (λ (l : WorldView). length l.seats) same
      by (inr more) = ap (λ (l : WorldView). length l.seats) more

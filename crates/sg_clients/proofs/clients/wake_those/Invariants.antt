-- The seats so far are asked again where they are to be, and those of them that still wait are counted.
use Rattle.std.proofs.Common.{◌≡◌, ◌<◌, ◌≤◌, ℕ, Bool, get_or, map, take}
use Rattle.sg_clients.specs.Clients.{AnswersBy}
use Rattle.sg_clients.specs.WorldView.{no_seat, woken_seat}
use Rattle.sg_clients.specs.Inside.Waiting.{waiting_in}
use Rattle.sg_clients.proofs.clients.wake_those.Given as goal

abbrev pub invariant-loop-seat : goal.invariant-loop-seat
invariant-loop-seat g l = record {
  few : l.waiting ≤ l.seat-index;
  count : l.waiting ≡ waiting_in (take l.seat-index l.seats);
  done : (meets : ℕ → Bool) → AnswersBy (λ id passes. g.F.Fn.post l.fn.test (id, tt) passes) meets
      → (k : ℕ) → k < l.seat-index → woken_seat (λ call. meets call.desc) (get_or l.seats k no_seat) ≡ get_or l.seats k no_seat;
  rest : (meets : ℕ → Bool) → AnswersBy (λ id passes. g.F.Fn.post l.fn.test (id, tt) passes) meets
      → map (woken_seat (λ call. meets call.desc)) l.seats ≡ map (woken_seat (λ call. meets call.desc)) l.initial.seats;
}

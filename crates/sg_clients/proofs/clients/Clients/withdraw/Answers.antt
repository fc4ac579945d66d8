-- The phases are those before the withdrawal.
use Rattle.std.proofs.Common.{◌≡◌, ◌∙◌, ap, map, ◌-◌, arith}
use Rattle.std.specs.Prelude.{slice_set}
use Rattle.sg_clients.specs.declared.phase.Phase.TheVariants.{Idle}
use Rattle.sg_clients.specs.WorldView.{Seat, seat_in}
use Rattle.sg_clients.proofs.Phases.{set_back}
use Rattle.sg_clients.proofs.clients.Clients.withdraw.Goals as goal

pub returns-clause-withdrawn : goal.returns-clause-withdrawn
returns-clause-withdrawn c =
    let old = c.args.self.now in
    let idle : Seat = record (seat_in old c.args.client) { phase = Idle } in
    let same : c.take_room-room.result.call ≡ (seat_in old c.args.client).call = c.take_room-room.ensures.room.same in
    let phases : c.from_vec.result ≡ map (λ s. s.phase) old =
    c.from_vec.ensures ∙ ap (λ n. slice_set c.with_phases-phases.result.items (n - 1) c.phase-was.result) c.from.ensures
    ∙ ap (λ l. slice_set l (c.args.client - 1) c.phase-was.result) (c.with_phases-phases.ensures ∙ ap (map (λ s. s.phase)) (c.as_slice.ensures.value ∙ c.self.view_is ∙ c.take_room-room.ensures.seats))
    ∙ ap (slice_set (map (λ s. s.phase) (slice_set old (c.args.client - 1) idle)) (c.args.client - 1)) c.phase-was.ensures
    ∙ set_back old (c.args.client - 1) idle (omega (arith, c.requires.client.0, c.requires.client.1)) in
    ap (λ x. record { call = x; phases = c.from_vec.result; at = c.args.at }) same ∙ ap (λ p. record { call = (seat_in old c.args.client).call; phases = p; at = c.args.at }) phases

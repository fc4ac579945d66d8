-- The first of the schedule that can take its turn.
use Rattle.std.proofs.Common.{◌≡◌, ◌∙◌, Some, ap, arith, sym, slice_get, slice_index_or}
use Rattle.sg_multi.specs.sg_sim.sg_plain.Calls.{most_client}
use Rattle.sg_multi.proofs.NextTurn.{from_schedule, more_scheduled}
use Rattle.sg_multi.proofs.Turning.{read_there}
use Rattle.sg_multi.proofs.whose.next_scheduled.Goals as goal
use Rattle.sg_multi.proofs.whose.next_scheduled.Goals.{else-client-ge-FIRST_CLIENT-via-then-client-ge-FIRST_CLIENT+then-client-clients+else-can_go, else-client-ge-FIRST_CLIENT-via-then-client-ge-FIRST_CLIENT+else-client-clients, else-client-ge-FIRST_CLIENT-via-else-client-ge-FIRST_CLIENT}

pub returns-then-can_go-clause-next : goal.returns-then-can_go-clause-next
returns-then-can_go-clause-next g c =
    let s = c.args.script.now in
    let r = c.args.running.now in
    let client = slice_index_or c.as_slice-schedule.result.now c.turns.at 0 in
    let there : slice_get s.schedule c.turns.at ≡ Some client = ap (λ l. slice_get l c.turns.at) (sym c.as_slice-schedule.ensures) ∙ read_there c.as_slice-schedule.result.now c.turns.at 0 c.turns-test.true in
    from_schedule s r c.requires.keeps c.requires.settled c.turns.at client c.turns.auto.at there c.if-client-ge-FIRST_CLIENT.true
    (omega (arith, c.if-client-clients.true, c.most_client-clients.ensures ∙ ap most_client c.as_slice.ensures)) (sym c.can_go.ensures ∙ c.if-can_go.true) c.turns.invariant

pub turns-preserved : goal.turns-preserved
turns-preserved g c =
    let s = c.args.script.now in
    let r = c.args.running.now in
    let client = slice_index_or c.as_slice-schedule.result.now c.turns.at 0 in
    let there : slice_get s.schedule c.turns.at ≡ Some client = ap (λ l. slice_get l c.turns.at) (sym c.as_slice-schedule.ensures) ∙ read_there c.as_slice-schedule.result.now c.turns.at 0 c.turns-test.true in
    more_scheduled s r c.turns.at client c.turns.invariant there (λ first within. elim c.else-client-ge-FIRST_CLIENT.branch [
      | else-client-ge-FIRST_CLIENT-via-then-client-ge-FIRST_CLIENT+then-client-clients+else-can_go w ↦ sym w.can_go.ensures ∙ w.if-can_go.false
      | else-client-ge-FIRST_CLIENT-via-then-client-ge-FIRST_CLIENT+else-client-clients w ↦ absurd (omega (arith, w.if-client-clients.false, within, c.most_client-clients.ensures ∙ ap most_client c.as_slice.ensures))
      | else-client-ge-FIRST_CLIENT-via-else-client-ge-FIRST_CLIENT w ↦ absurd (omega (arith, w.if-client-ge-FIRST_CLIENT.false, first))
    ])

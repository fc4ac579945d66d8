-- The first of the schedule that may take its turn.
use Rattle.std.proofs.Common.{Some, ◌≡◌, ◌∙◌, ◌≤◌, ap, sym, subst, slice_get, slice_index_or}
use Rattle.sg_play.proofs.Following.Whose.{from_one}
use Rattle.sg_sim.proofs.Lists.{number_at}
use Rattle.sg_sim.proofs.Turning.{from_schedule, more_scheduled}
use Rattle.sg_sim.specs.Inside.Givens.{lists_of}
use Rattle.sg_sim.specs.Inside.Keeps.{KeepsPlay}
use Rattle.sg_sim.specs.Playing.{Playing}
use Rattle.sg_play.specs.sg_world.Worlded.{setting_of}
use Rattle.sg_sim.proofs.play.Play.next_scheduled.Goals as goal

pub returns-then-can_go-clause-next : goal.returns-then-can_go-clause-next
returns-then-can_go-clause-next g c =
    let p = c.args.self.now in
    let schedule = c.as_slice-schedule.ensures ∙ ap (λ (q : Playing). q.script.schedule) c.self.view_is in
    let client = slice_index_or c.as_slice-schedule.result.now c.turns.at 0 in
    let there : slice_get p.script.schedule c.turns.at ≡ Some client = ap (λ l. slice_get l c.turns.at) (sym schedule) ∙ number_at c.as_slice-schedule.result.now c.turns.at c.turns-test.true in
    let from : p.passed ≤ c.turns.at = subst (λ (q : Playing). q.passed ≤ c.turns.at) c.self.view_is c.turns.auto.at in
    from_schedule p c.requires.settled c.turns.at client from there (sym (c.can_go.ensures.may (c.can_go.ensures.client c.if-can_go.true).0) ∙ c.if-can_go.true) c.turns.invariant

pub turns-preserved : goal.turns-preserved
turns-preserved g c =
    let p = c.args.self.now in
    let keeps = subst (λ (q : Playing). KeepsPlay (setting_of g.S.Service.ask g.S.Service.sound g.S.Service.parts q.tables) q.script q.view (lists_of c.self.inside.given) q.passed q.last q.in_order) c.self.view_is c.self.invariant in
    let schedule = c.as_slice-schedule.ensures ∙ ap (λ (q : Playing). q.script.schedule) c.self.view_is in
    let client = slice_index_or c.as_slice-schedule.result.now c.turns.at 0 in
    let there : slice_get p.script.schedule c.turns.at ≡ Some client = ap (λ l. slice_get l c.turns.at) (sym schedule) ∙ number_at c.as_slice-schedule.result.now c.turns.at c.turns-test.true in
    let first = from_one p.script.schedule c.turns.at client keeps.playing.playable.turns there in
    more_scheduled p c.requires.settled c.turns.at client c.turns.invariant there (sym (c.can_go.ensures.may first) ∙ c.if-can_go.false)

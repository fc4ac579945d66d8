use Rattle.std.proofs.Common.{Some, subst}
use Rattle.std.specs.Option.{option_map}
use Rattle.sg_boot.proofs.Keeping.{kept_asked, kept_struck}
use Rattle.sg_boot.proofs.LastBoot.{begun_noted}
use Rattle.sg_boot.specs.Cells.{IsCell}
use Rattle.sg_facts.specs.Invoke.{Points}
use Rattle.sg_boot.proofs.cell.Cell.invoke.Goals as goal

pub invariant_of-self-in-Stopped : goal.invariant_of-self-in-Stopped
invariant_of-self-in-Stopped g c =
    rw (c.fail.ensures.service, c.fail.ensures.run, c.note_call.ensures)
    (kept_struck g.S.Service.facts _ _ (begun_noted c.self.inside.journal.run.boots _ c.self.invariant.begun))

pub invariant_of-self-in_default : goal.invariant_of-self-in_default
invariant_of-self-in_default g c =
    let facts = g.S.Service.facts in
    let boots = c.self.inside.journal.run.boots in
    let points : Points = record { asked = g.T.Stops.asked c.args.stops.now; struck = g.T.Stops.struck c.args.stops.now } in
    let later : Points = record { asked = g.T.Stops.asked c.ask-outcome.new.stops; struck = g.T.Stops.struck c.ask-outcome.new.stops } in
    let cell : IsCell facts (Some (g.S.Service.object c.in-Some.service)) boots =
    subst (λ s. IsCell facts (option_map g.S.Service.object s) boots) c.in-Some.is c.self.invariant in
    rw c.note_call-in_default.ensures
    (kept_asked facts g.S.Service.ask g.S.Service.parts boots (g.S.Service.object c.in-Some.service) (g.S.Service.object c.ask-outcome.new.service) c.args.tag
    c.args.shown.now c.args.call points later c.asked.result c.ask-outcome.result cell c.requires.tagged c.requires.same
    c.in_default.not-Stopped c.in_default.not-NoMemory c.ask-outcome.ensures.outcome)

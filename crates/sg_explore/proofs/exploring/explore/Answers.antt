-- All that was added is what is found.
use Rattle.std.proofs.Common.{[], ap, nat_lt, refl, subst, sym, ◌∙◌}
use Rattle.sg_facts.specs.Interface.{Declared}
use Rattle.sg_report.specs.sg_hist.declared.ended.Ended.{Ended}
use Rattle.sg_shared.specs.Runs.{IsRunInOrder}
use Rattle.sg_shared.specs.sg_sim.sg_plain.Answering.{Answering}
use Rattle.sg_explore.proofs.Trying.{explored_so}
use Rattle.sg_explore.specs.Inside.Sums.{sums_of, sums_text}
use Rattle.sg_explore.proofs.exploring.explore.Goals as goal

pub returns : goal.returns
returns g c =
    let service : Answering = record { facts = g.S.Service.facts; ask = g.S.Service.ask; parts = g.S.Service.parts } in
    let i : Declared = c.args.accepted.now in
    let plain : Ended = c.ended-plain.result.now in
    explored_so i service c.args.script.now c.args.most plain (record { text = c.in_ok-text.text; waits = nat_lt 0 c.in_ok-tally.tally.blocked }) (sums_of c.in_ok-tally.tally)
    (subst (λ (e : Ended). IsRunInOrder i service (record c.args.script.now { stops = [] }) e) (sym c.ended-plain.ensures)
    (subst (λ s. IsRunInOrder i service (record c.args.script.now { stops = s }) c.in_ok-played.played) c.new-none.ensures c.in_ok-played.ensures))
    c.in_ok-tally.ensures (c.in_ok-text.ensures ∙ ap (λ (j : Declared). sums_text j.facts plain.trace.points (sums_of c.in_ok-tally.tally)) c.interface.ensures.same) refl

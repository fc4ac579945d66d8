-- The costs are those of the run, by the tables of the interface.
use Rattle.std.proofs.Common.{◌∙◌, ap, sym, subst}
use Rattle.sg_cost.specs.Costs.{costs_at}
use Rattle.sg_cost.specs.Lines.{cost_text_of}
use Rattle.sg_multi.specs.sg_facts.Interface.{Declared}
use Rattle.sg_multi.specs.sg_facts.Trace.{run_of}
use Rattle.sg_verify.specs.sg_report.sg_hist.declared.ended.Ended.{Ended}
use Rattle.sg_top.specs.Inside.Plays.{IsPlayedOn}
use Rattle.sg_top.proofs.Running.{of_one}
use Rattle.sg_top.proofs.output.costs_shown.Goals as goal

pub cost_served-requires : goal.cost_served-requires
cost_served-requires c = subst (IsPlayedOn c.in_ok-tables.tables.iface c.args.served) (sym c.ended.ensures) (subst (λ i. IsPlayedOn i c.args.served c.args.played.now) (sym c.in_ok-tables.ensures.iface) c.requires)

pub returns : goal.returns
returns c =
    let i = c.args.accepted.now in
    let walks = c.in_ok-tables.tables.walks in
    let same = c.interface.ensures.same ∙ c.in_ok-tables.ensures.iface in
    of_one c.cost_text.result _ _
    (λ text is. (
      walks,
      c.in_ok-tables.ensures.lines,
      is ∙ ap (λ (j : Declared). cost_text_of j.facts c.in_ok-costs.costs) same
          ∙ ap (cost_text_of i.facts) (c.in_ok-costs.ensures
          ∙ ap (λ j. costs_at j walks c.ended.result.now.history.items (run_of c.ended.result.now.trace)) c.in_ok-tables.ensures.iface
          ∙ ap (λ (e : Ended). costs_at i walks e.history.items (run_of e.trace)) c.ended.ensures),
    ))
    c.cost_text.ensures

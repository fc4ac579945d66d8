-- Each entry may be tracked, and no boot needs more than its bound.
use Rattle.std.proofs.Common.{◌≡◌, subst, sym, true}
use Rattle.sg_cost.proofs.Settled.{may_be_tracked}
use Rattle.sg_cost.proofs.Within.{costs_within, few_in_each}
use Rattle.sg_facts.specs.Allowed.{is_allowed}
use Rattle.sg_facts.specs.Trace.{run_of}
use Rattle.sg_report.specs.sg_hist.Recovered.{Stubs}
use Rattle.sg_world_laws.specs.Setting.{IsSetting, Setting}
use Rattle.sg_world_laws.specs.sg_recovery_laws.Objects.Serving.{IsService}
use Rattle.sg_cost.proofs.costing.costs_of.Goals as goal

pub costs_in-requires-clause-may : goal.costs_in-requires-clause-may
costs_in-requires-clause-may g c =
    let s = g.met.S.Service in
    let tables = c.args.tables.now in
    let law : IsService g.S.Service.facts g.S.Service.ask g.S.Service.sound
    = record { keeps = s.answers_and_keeps; alike = s.answers_alike; goes = s.walk_goes_on; blocked = s.blocked_stays; shape = s.shape_allows; counts = s.counts_slowly } in
    let are = c.lines.ensures.are in
    let z : Setting = record { iface = tables.iface; walks = tables.walks; ask = g.S.Service.ask; sound = g.S.Service.sound; parts = g.S.Service.parts } in
    let set : IsSetting z = record { law = subst (λ f. IsService f g.S.Service.ask g.S.Service.sound) (sym c.requires.service) law; fits = are.fits; tables = are } in
    may_be_tracked z set c.args.ended.now.history.items c.requires.legal c.requires.few c.requires.calls c.read_words.ensures

pub returns-clause-few : goal.returns-clause-few
returns-clause-few g c =
    let tables = c.args.tables.now in
    let ended = c.args.ended.now in
    let stubs : Stubs = record { interface = tables.iface; ask = g.S.Service.ask; parts = g.S.Service.parts; walks = tables.walks } in
    few_in_each stubs ended.history.items (run_of ended.trace) ended.ends c.requires.recovered
    (subst (λ f. is_allowed f ≡ true) (sym c.requires.service) g.met.S.Service.shape_allows.shape) c.requires.numbered c.requires.calls

pub returns-clause-within : goal.returns-clause-within
returns-clause-within g c =
    let tables = c.args.tables.now in
    let ended = c.args.ended.now in
    costs_within tables.iface tables.walks ended.history.items (run_of ended.trace) (returns-clause-few g c) c.costs_in.result c.costs_in.ensures

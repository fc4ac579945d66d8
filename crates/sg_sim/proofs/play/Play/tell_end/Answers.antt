-- What the play promises of a run that ends so.
use Rattle.std.proofs.Common.{◌≡◌, ◌∙◌, true, false, ap, sym, subst}
use Rattle.sg_facts.specs.Trace.{run_of}
use Rattle.sg_play.specs.sg_plain.Playing.Callers.{is_setting_up}
use Rattle.sg_play.specs.sg_plain.Playing.Ends.{ends_from}
use Rattle.sg_play.specs.sg_plain.Playing.Turns.{NobodyGoes}
use Rattle.sg_sim.proofs.Ending.{follows_plain, played}
use Rattle.sg_sim.specs.Played.{FollowsSchedule, IsPlayed}
use Rattle.sg_play.specs.sg_world_laws.Setting.{Setting, stubs_of}
use Rattle.sg_sim.specs.Inside.Givens.{lists_of}
use Rattle.sg_sim.specs.Playing.{Playing}
use Rattle.sg_play.specs.sg_world.Worlded.{setting_of}
use Rattle.sg_sim.proofs.play.Play.tell_end.Goals as goal

pub returns-clause-played : goal.returns-clause-played
returns-clause-played g c = λ ended its ends.
    let x = c.self.inside in
    let z : Setting = setting_of g.S.Service.ask g.S.Service.sound g.S.Service.parts x.world.tables in
    let settled : is_setting_up x.script x.world.view.seats ≡ false = subst (λ (q : Playing). is_setting_up q.script q.view.seats ≡ false) (sym c.self.view_is) c.requires.settled in
    let nobody : NobodyGoes x.script x.world.view.seats = subst (λ (q : Playing). NobodyGoes q.script q.view.seats) (sym c.self.view_is) c.requires.nobody in
    let refused : x.world.view.refused ≡ 0 = ap (λ (q : Playing). q.view.refused) c.self.view_is ∙ c.requires.unrefused in
    let history = its.0 ∙ ap (λ (q : Playing). q.view.history) (sym c.self.view_is) in
    let run = its.1 ∙ ap (λ (q : Playing). q.view.run) (sym c.self.view_is) in
    let all = ends ∙ (c.requires.ends_so ∙ ap (λ (q : Playing). ends_from q.script 1 q.view.seats) (sym c.self.view_is)) in
    subst (λ (q : Playing). IsPlayed (stubs_of (setting_of g.S.Service.ask g.S.Service.sound g.S.Service.parts q.tables)) g.T.Stops.test q.script q.plan ended) c.self.view_is
    (played z g.T.Stops.test x.script x.world.plan x.world.view (lists_of x.given) x.passed x.last x.in_order c.self.invariant
    (record { set = c.interface.ensures.set; legal = c.history.ensures.legal; recovering = c.trace.ensures.recovering; waits = c.history.ensures.waits; ending = c.trace.ensures.ending; last = c.trace.ensures.last })
    settled nobody ended history run all (c.trace.ensures.recovered refused) c.trace.ensures.stopped)

pub returns-clause-schedule : goal.returns-clause-schedule
returns-clause-schedule g c = λ ended its so.
    let x = c.self.inside in
    let z : Setting = setting_of g.S.Service.ask g.S.Service.sound g.S.Service.parts x.world.tables in
    let settled : is_setting_up x.script x.world.view.seats ≡ false = subst (λ (q : Playing). is_setting_up q.script q.view.seats ≡ false) (sym c.self.view_is) c.requires.settled in
    let nobody : NobodyGoes x.script x.world.view.seats = subst (λ (q : Playing). NobodyGoes q.script q.view.seats) (sym c.self.view_is) c.requires.nobody in
    let ordered : x.in_order ≡ true = subst (λ (q : Playing). q.in_order ≡ true) (sym c.self.view_is) so in
    let history = its.0 ∙ ap (λ (q : Playing). q.view.history) (sym c.self.view_is) in
    let run = its.1 ∙ ap (λ (q : Playing). q.view.run) (sym c.self.view_is) in
    subst (λ (q : Playing). FollowsSchedule q.tables.iface g.S.Service.ask q.script (run_of ended.trace) ended.history.items) c.self.view_is
    (follows_plain z g.T.Stops.test x.script x.world.plan x.world.view (lists_of x.given) x.passed x.last x.in_order c.self.invariant
    (record { set = c.interface.ensures.set; legal = c.history.ensures.legal; recovering = c.trace.ensures.recovering; waits = c.history.ensures.waits; ending = c.trace.ensures.ending; last = c.trace.ensures.last })
    settled nobody ordered ended history run)

-- What is due may be replayed, or is loaded.
use Rattle.std.proofs.Common.{Some, [], ◌∙◌, ap, subst}
use Rattle.sg_replay.specs.Replaying.{LoadsOne}
use Rattle.sg_replay.proofs.Due.{due_walk, loads_at}
use Rattle.sg_replay.proofs.engine.Engine.advance.Goals as goal

pub replay-requires : goal.replay-requires
replay-requires g c =
    let ready = c.requires.walk c.in-Walk.id c.in-Walk.k c.in-Walk.is in
    let due = due_walk c.args.self.now (record { ids = c.requires.ids; file = c.args.file.now }) c.in-Walk.id c.in-Walk.k (c.requires.due ∙ ap Some c.in-Walk.is) in
    record { held = c.requires.held; up = c.requires.up; shown = ready.0; ready = ready.1; partly = due.0; next = due.1 }

pub returns-in-Load-clause-load : goal.returns-in-Load-clause-load
returns-in-Load-clause-load g c = λ held key up is file.
    loads_at g.S.Service.facts held c.args.self.now c.args.client key (g.T.Stops.asked c.args.stops.now) (g.T.Stops.struck c.args.stops.now) c.load.result c.load.new.self
    (subst (λ p. LoadsOne g.S.Service.facts held c.args.self.now c.args.client key (record { asked = p; struck = [] }) c.load.result c.load.new.self (record { asked = p; struck = [] })) c.asked.ensures
    (c.load.ensures.outcome held key up file))

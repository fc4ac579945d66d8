-- A load gives no id.
use Rattle.std.proofs.Common.{IsSome, sym, ◌∙◌, ap, subst}
use Rattle.sg_replay.specs.Engined.{AreGiven}
use Rattle.sg_replay.proofs.Due.{given_loaded}
use Rattle.sg_replay.proofs.engine.Engine.load.Goals as goal

pub invariant_of-self-in-Some : goal.invariant_of-self-in-Some
invariant_of-self-in-Some g c =
    let known = c.self.inside.names.known in
    let up = subst IsSome (sym (c.in_ok-reserve-in-Some.ensures.running ∙ ap (λ x. x.cell.running) c.self.view_is)) c.requires.up in
    let given = subst (λ r. AreGiven r known) (sym c.in_ok-reserve-in-Some.ensures.running) c.self.invariant.is.given in
    record {
      is = record {
        service = c.self.invariant.is.service;
        rows = c.self.invariant.is.rows;
        ids = c.self.invariant.is.ids;
        given = given_loaded g.S.Service.facts c.reserve.new.self.running c.load.new.self.running known _ _ up given c.in_ok-load-in-Some-lend.ensures.running;
        walks = c.self.invariant.is.walks;
      };
      few = c.self.invariant.few;
      whole = c.self.invariant.whole;
    }

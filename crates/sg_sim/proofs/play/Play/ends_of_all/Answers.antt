-- No step of the world wanted memory.
use Rattle.std.proofs.Common.{◌∙◌, ap, sym}
use Rattle.sg_sim.proofs.Calls.{at_zero}
use Rattle.sg_sim.specs.Playing.{Playing}
use Rattle.sg_sim.proofs.play.Play.ends_of_all.Goals as goal

pub returns : goal.returns
returns g c = record {
  settled = c.requires.settled;
  nobody = c.requires.nobody;
  unrefused = ap (λ (q : Playing). q.view.refused) (sym c.self.view_is) ∙ (sym c.refused.ensures ∙ at_zero c.refused.result c.if-refused-gt0.false);
  ends_so = c.in_ok-ends.ensures;
}

-- No step of its world wanted memory, so its run has recovered.
use Rattle.std.proofs.Common.{◌∙◌, sym}
use Rattle.sg_multi.proofs.Turning.{at_zero}
use Rattle.sg_multi.proofs.play.ended_member.Goals as goal

pub returns : goal.returns
returns g c = record {
  its = c.in_ok-ended.ensures.its;
  ends_are = c.in_ok-ended.ensures.ends ∙ c.in_ok-known.ensures;
  told = c.tell.ensures.told;
  recovered = c.tell.ensures.recovered (sym c.refused.ensures ∙ at_zero c.refused.result c.if-refused-gt0.false);
  struck = c.tell.ensures.stopped;
}

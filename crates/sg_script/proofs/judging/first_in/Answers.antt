-- Nothing is judged at first.
use Rattle.std.proofs.Common.{arith, ap, []}
use Rattle.sg_script.specs.Inside.Firsts.{first_after}
use Rattle.sg_script.specs.Flaws.{flaws_after}
use Rattle.sg_script.proofs.judging.first_in.Goals as goal

pub each-init : goal.each-init
each-init c = record {
  front = c.new-front.ensures.front c.args.members.now;
  most = omega (arith, c.new-front.ensures.calls);
  left = ap (λ f. first_after f (flaws_after c.args.members.now c.setup_calls-setup.result [] c.args.parts.now)) c.new-first.ensures;
}

-- All fields are left.
use Rattle.std.proofs.Common.{map}
use Rattle.sg_walk.proofs.ReachedStates.Leading.{led_all}
use Rattle.sg_walk.proofs.closing.add_led.Goals as goal

pub returns : goal.returns
returns c = led_all (map (λ p. (p.0, p.1)) c.args.effects.now) c.args.count c.args.old c.args.state c.args.found.now c.add_on.new.found c.in_ok-add_on.ensures

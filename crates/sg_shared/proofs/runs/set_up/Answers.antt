-- No client has a call under way after the setup.
use Rattle.std.proofs.Common.{ap}
use Rattle.sg_shared.proofs.Passing.{setup_free}
use Rattle.sg_shared.proofs.runs.set_up.Goals as goal

pub returns-in-Ok-clause-free : goal.returns-in-Ok-clause-free
returns-in-Ok-clause-free g c =
    setup_free c.args.play.script c.args.play.view c.setup.new.self.view c.requires (λ off. ap (λ p. p.view) (c.setup.ensures.stays off)) c.in-Ok.ensures.free c.setup.ensures.others

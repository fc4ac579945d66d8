-- The last pass goes out and comes back.
use Rattle.std.proofs.Common.{ap, ◌∙◌}
use Rattle.sg_shared.proofs.Passing.{same_pushed}
use Rattle.sg_shared.proofs.threads.+play_rest.Goals as goal

pub returns-in-Ok-clause-same : goal.returns-in-Ok-clause-same
returns-in-Ok-clause-same g t c =
    same_pushed c.args.passes.items c.push_reserved.new.self.items c.pop.new.self.items c.play_rest-played.result.items c.in-Some.pass c.join.result _
    c.in-Some.ensures.items c.push_reserved.ensures.items c.play_rest-played.ensures.same (ap (λ p. p.0.value) c.in-Ok.ensures.ok ∙ c.of.ensures) c.join.ensures

pub returns-in-Err-clause-same : goal.returns-in-Err-clause-same
returns-in-Err-clause-same g t c =
    same_pushed c.args.passes.items c.push_reserved-in-Err.new.self.items c.pop.new.self.items c.play_rest-played-in-Err.result.items c.in-Some.pass c.play-pass.result _
    c.in-Some.ensures.items c.push_reserved-in-Err.ensures.items c.play_rest-played-in-Err.ensures.same (ap (λ f. f.3) c.in-Err.ensures.err) c.play-pass.ensures

-- The effects of the shape are those of its facts.
use Rattle.std.proofs.Common.{sym, ◌∙◌}
use Rattle.sg_shape.specs.sg_facts.Counted.{takes_word}
use Rattle.sg_describe.proofs.Mapped.{any_mapped}
use Rattle.sg_describe.proofs.flaws.wants_word.Goals as goal

pub returns : goal.returns
returns c = c.take_word.ensures ∙ sym (any_mapped (λ e. takes_word e.1) (λ p. (p.0, p.1)) c.args.fun.now.effects.now)

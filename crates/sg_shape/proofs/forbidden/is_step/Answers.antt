-- Pairs as plain data are themselves.
use Rattle.std.proofs.Common.{ℕ, sym, ◌∙◌, ap}
use Rattle.std.specs.Prelude.{◌==◌}
use Rattle.std.specs.List.{list_any}
use Rattle.sg_shape.proofs.Data.{same_pairs}
use Rattle.sg_shape.proofs.forbidden.is_step.Goals as goal

pub returns : goal.returns
returns c = c.is_second.ensures ∙ ap (list_any (λ (s : ℕ × ℕ). s.1 == c.args.number)) (sym (same_pairs c.args.shape.now.steps.now))

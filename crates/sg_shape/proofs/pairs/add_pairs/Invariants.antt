-- The pairs with second numbers so far.
use Rattle.std.proofs.Common.{◌≡◌, ℕ, ◌++◌, map}
use Rattle.std.specs.Prelude.{filter}
use Rattle.std.specs.List.{range_with_len}
use Rattle.sg_check_statements.specs.sg_facts.Interface.{has_pair}
use Rattle.sg_shape.proofs.pairs.add_pairs.Given as goal

abbrev pub invariant-seconds : goal.invariant-seconds
invariant-seconds l = l.pairs.items ≡ l.fn.pairs.items ++ filter (λ (p : ℕ × ℕ). has_pair l.named p.0 p.1) (map (λ b. (l.first, b)) (range_with_len 1 l.before))

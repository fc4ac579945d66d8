-- The pairs with first numbers so far.
use Rattle.std.proofs.Common.{◌≡◌, ℕ, map}
use Rattle.std.specs.Prelude.{filter}
use Rattle.std.specs.List.{flat_map, range_with_len}
use Rattle.sg_check_statements.specs.sg_facts.Interface.{has_pair}
use Rattle.sg_shape.proofs.pairs.in_order.Given as goal

abbrev pub invariant-firsts : goal.invariant-firsts
invariant-firsts l = l.pairs.items ≡ filter (λ (p : ℕ × ℕ). has_pair l.named p.0 p.1) (flat_map (λ a. map (λ b. (a, b)) (range_with_len 1 l.count)) (range_with_len 1 l.before))

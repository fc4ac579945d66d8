-- The arguments so far are the first, and those that are to come follow them.
use Rattle.std.proofs.Common.{◌≡◌, ◌++◌, length, map, drop}
use Rattle.sg_facts.specs.Walks.{replay_args}
use Rattle.sg_needs.proofs.replayed.replayed_args.Given as goal

abbrev pub invariant-kinds : goal.invariant-kinds
invariant-kinds l =
    l.args ++ replay_args (map (λ p. (p.0, p.1)) l.effects) l.row (length l.args) (drop l.kind-index l.kinds) ≡ replay_args (map (λ p. (p.0, p.1)) l.effects) l.row 0 l.kinds

-- The rows so far are added.
use Rattle.std.proofs.Common.{◌+◌, ◌-◌}
use Rattle.std.specs.List.{flat_map, range_with_len}
use Rattle.std.specs.declared.option.Option.TheVariants.{Some}
use Rattle.sg_explore.specs.Inside.Adding.{Adds}
use Rattle.sg_explore.specs.Inside.Jobs.{IsTriedOf}
use Rattle.sg_explore.specs.Inside.Stopping.{row_of}
use Rattle.sg_explore.specs.Inside.Sums.{sums_of}
use Rattle.sg_explore.proofs.exploring.explore_pairs.Given as goal

abbrev pub invariant-firsts : goal.invariant-firsts
invariant-firsts g l = Adds (IsTriedOf l.accepted g.S.Service.facts g.S.Service.ask g.S.Service.parts l.script l.plain)
    (flat_map (λ p. row_of (Some p) (p + 1) (l.most - p)) (range_with_len 1 l.before)) (sums_of l.fn.tally) (sums_of l.tally)

-- The first values are printed.
use Rattle.std.proofs.Common.{◌≡◌, ◌++◌, take}
use Rattle.std.specs.List.{flat_map}
use Rattle.std.specs.Prelude.{codes}
use Rattle.sg_report.specs.Report.{value_text}
use Rattle.sg_report.proofs.words.push_more_values.Given as goal

abbrev pub invariant-loop-value : goal.invariant-loop-value
invariant-loop-value l = l.out ≡ l.initial.out ++ flat_map (λ v. codes ", " ++ value_text v) (take l.value-index l.values)

use Rattle.std.proofs.Common.{◌≡◌, ◌++◌, take, codes}
use Rattle.std.specs.List.{flat_map}
use Rattle.sg_print.specs.RulesText.{pick_text}
use Rattle.sg_print.proofs.rules.put_picks.Given as goal

-- what holds so far stands after the first thing
abbrev pub invariant-loop-pick : goal.invariant-loop-pick
invariant-loop-pick l = l.out ≡ l.initial.out ++ flat_map (λ q. codes ", " ++ pick_text q) (take l.pick-index l.more)

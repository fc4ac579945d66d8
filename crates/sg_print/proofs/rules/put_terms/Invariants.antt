use Rattle.std.proofs.Common.{◌≡◌, ◌++◌, take, codes}
use Rattle.std.specs.List.{flat_map}
use Rattle.sg_print.specs.RulesText.{term_text}
use Rattle.sg_print.proofs.rules.put_terms.Given as goal

-- the numbers so far stand after the first one
abbrev pub invariant-loop-term : goal.invariant-loop-term
invariant-loop-term l = l.out ≡ l.initial.out ++ flat_map (λ q. codes ", " ++ term_text q) (take l.term-index l.more)

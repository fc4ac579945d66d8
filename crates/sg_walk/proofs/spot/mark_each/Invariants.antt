use Rattle.std.proofs.Common.{◌≡◌, map, drop}
use Rattle.sg_facts.specs.Walks.{marks_after}
use Rattle.sg_walk.specs.Marks.{known_of}
use Rattle.sg_walk.proofs.spot.mark_each.Given as goal

-- what is left of the effects leads to the same marks
abbrev pub invariant-effects : goal.invariant-effects
invariant-effects l =
    marks_after (map (λ p. (p.0, p.1)) (drop l.field-index l.effects)) (map known_of l.marks)
    ≡ marks_after (map (λ p. (p.0, p.1)) l.effects) (map known_of l.fn.marks)

use Rattle.test_passes.specs.Ready.{HasMade}
use Rattle.test_passes.proofs.turns.make_all.Given as goal

abbrev pub invariant-calls : goal.invariant-calls
invariant-calls g l = record {
  first : HasMade l.at l.initial.first l.first;
  second : HasMade l.at l.initial.second l.second;
}

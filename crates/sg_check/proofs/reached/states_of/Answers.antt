-- Triple by triple.
use Rattle.std.proofs.Common.{subst}
use Rattle.std.proofs.lemmas.List.{take_all}
use Rattle.sg_check.specs.Inside.Numbers.{GainsNumber}
use Rattle.sg_check.specs.Inside.Reached.{AreStates}
use Rattle.sg_check.proofs.Seeking.{states_more}
use Rattle.sg_check.proofs.reached.states_of.Goals as goal

pub triples-preserved : goal.triples-preserved
triples-preserved c = states_more c.args.triples.now c.triples.triple-index _ c.triples-test.true c.triples.states c.add.new.self c.triples.invariant
    (subst (GainsNumber c.triples.states c.add.new.self) c.from.ensures c.in_ok-add.ensures.ok)

pub returns : goal.returns
returns c = subst (λ l. AreStates l c.triples.states) (take_all c.triples.triple-index c.args.triples.now c.triples-test.false) c.triples.invariant

-- Triple by triple.
use Rattle.sg_input.proofs.sg_check.Seeking.{inside}
use Rattle.sg_explain.proofs.Searching.{all_looked_at, none_yet, one_more}
use Rattle.sg_explain.proofs.stuck.first_stuck.Goals as goal

pub triples-init : goal.triples-init
triples-init c = none_yet c.args.iface.now c.args.state

pub triples-preserved : goal.triples-preserved
triples-preserved c =
    one_more c.args.iface.now c.args.state c.args.triples.now c.triples.triple-index _ c.triples-test.true c.triples.first c.go_on-first.result c.triples.invariant
    (c.go_on-first.ensures c.args.iface.now c.in_ok-walks.ensures (c.requires.triples.only _ (inside c.args.triples.now c.triples.triple-index _ c.triples-test.true)))

pub returns : goal.returns
returns c = all_looked_at c.args.iface.now c.args.state c.args.triples.now c.triples.triple-index c.requires.triples c.triples-test.false c.triples.first c.triples.invariant

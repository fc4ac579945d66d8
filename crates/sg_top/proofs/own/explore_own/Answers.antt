-- A description that is safe is what is made safe of it.
use Rattle.std.proofs.Common.{◌≡◌, true, sym, ◌∙◌, ap, subst}
use Rattle.std.specs.Prelude.{IfOk}
use Rattle.sg_explore.specs.Explored.{IsExplored}
use Rattle.sg_multi.specs.sg_interpret.sg_described.Described.{Described, described_of}
use Rattle.sg_multi.proofs.sg_interpret.Picking.{picked}
use Rattle.sg_load.specs.sg_plain.Answering.{no_query_waits}
use Rattle.sg_multi.specs.Serving.{described_answering}
use Rattle.sg_multi.proofs.Queries.{no_query}
use Rattle.sg_top.proofs.own.explore_own.Goals as goal

pub explore_picked-requires-clause-picked : goal.explore_picked-requires-clause-picked
explore_picked-requires-clause-picked g c = λ lifetimes longer. picked (described_of c.args.description) c.requires.safe

pub explore_picked-requires-clause-service : goal.explore_picked-requires-clause-service
explore_picked-requires-clause-service g c = λ lifetimes longer. c.requires.service ∙ ap (λ (d : Described). d.facts) (picked (described_of c.args.description) c.requires.safe)

pub explore_picked-requires-clause-waits : goal.explore_picked-requires-clause-waits
explore_picked-requires-clause-waits g c = λ lifetimes longer.
    subst (λ (d : Described). no_query_waits d.facts ≡ true) (picked (described_of c.args.description) c.requires.safe) (no_query (described_of c.args.description) c.requires.safe)

pub returns : goal.returns
returns g c = subst (λ d. IfOk c.explore_picked.result (IsExplored c.args.accepted.now (described_answering d) c.args.script.now c.args.most)) (sym (picked (described_of c.args.description) c.requires.safe)) c.explore_picked.ensures

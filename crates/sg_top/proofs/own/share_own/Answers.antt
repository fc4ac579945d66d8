-- A description that is safe is what is made safe of it.
use Rattle.std.proofs.Common.{◌≡◌, true, sym, ◌∙◌, ap, subst}
use Rattle.std.specs.Prelude.{IfOk}
use Rattle.sg_explore.specs.sg_shared.Runs.{IsRunOf}
use Rattle.sg_multi.specs.sg_interpret.sg_described.Described.{Described, described_of}
use Rattle.sg_multi.proofs.sg_interpret.Picking.{picked}
use Rattle.sg_load.specs.sg_plain.Answering.{no_query_waits}
use Rattle.sg_multi.specs.Serving.{described_answering}
use Rattle.sg_multi.proofs.Queries.{no_query}
use Rattle.sg_top.proofs.own.share_own.Goals as goal

pub share_picked-requires-clause-picked : goal.share_picked-requires-clause-picked
share_picked-requires-clause-picked g c = λ lifetimes longer. picked (described_of c.args.description) c.requires.safe

pub share_picked-requires-clause-service : goal.share_picked-requires-clause-service
share_picked-requires-clause-service g c = λ lifetimes longer. c.requires.service ∙ ap (λ (d : Described). d.facts) (picked (described_of c.args.description) c.requires.safe)

pub share_picked-requires-clause-waits : goal.share_picked-requires-clause-waits
share_picked-requires-clause-waits g c = λ lifetimes longer.
    subst (λ (d : Described). no_query_waits d.facts ≡ true) (picked (described_of c.args.description) c.requires.safe) (no_query (described_of c.args.description) c.requires.safe)

pub returns : goal.returns
returns g c = subst (λ d. IfOk c.share_picked.result (IsRunOf c.args.accepted.now (described_answering d) c.args.script)) (sym (picked (described_of c.args.description) c.requires.safe)) c.share_picked.ensures

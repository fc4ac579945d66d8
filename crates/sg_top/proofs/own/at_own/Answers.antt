-- A description that is safe is what is made safe of it.
use Rattle.std.proofs.Common.{◌≡◌, true, sym, subst}
use Rattle.sg_multi.specs.sg_interpret.sg_described.Described.{Described, described_of}
use Rattle.sg_multi.proofs.sg_interpret.Picking.{picked}
use Rattle.sg_load.specs.sg_plain.Answering.{no_query_waits}
use Rattle.sg_multi.specs.Serving.{described_answering}
use Rattle.sg_multi.proofs.Queries.{no_query}
use Rattle.sg_top.proofs.own.at_own.Goals as goal

pub at_picked-requires-clause-picked : goal.at_picked-requires-clause-picked
at_picked-requires-clause-picked g c = picked (described_of c.args.description) c.requires.safe

pub at_picked-requires-clause-waits : goal.at_picked-requires-clause-waits
at_picked-requires-clause-waits g c =
    subst (λ (d : Described). no_query_waits d.facts ≡ true) (picked (described_of c.args.description) c.requires.safe) (no_query (described_of c.args.description) c.requires.safe)

pub at_picked-requires-clause-asks : goal.at_picked-requires-clause-asks
at_picked-requires-clause-asks g c =
    subst (λ d. g.J.Job.asks c.args.job (described_answering d)) (picked (described_of c.args.description) c.requires.safe) c.requires.asks

pub returns : goal.returns
returns g c =
    subst (λ d. g.J.Job.gives c.args.job (described_answering d) c.at_picked.result) (sym (picked (described_of c.args.description) c.requires.safe)) c.at_picked.ensures

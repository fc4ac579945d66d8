use Rattle.sg_track.proofs.DraftLists.{written}
use Rattle.sg_track.proofs.draft.draft_one.Goals as goal

pub returns-then-at-drafts-clause-set : goal.returns-then-at-drafts-clause-set
returns-then-at-drafts-clause-set c =
    written c.args.call.now c.args.good.now c.args.effect c.args.drafts.now c.args.at _ c.after.result c.if-at-drafts.true c.after.ensures

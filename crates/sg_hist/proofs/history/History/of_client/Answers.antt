-- An entry of the client is one more.
use Rattle.sg_hist.specs.Lent.{entry_in}
use Rattle.sg_hist.proofs.OwnEntries.{own_more, own_same}
use Rattle.sg_hist.proofs.history.History.of_client.Goals.{then-entry-client+in_ok-copied+in_ok-push, else-entry-client}
use Rattle.sg_hist.proofs.history.History.of_client.Goals as goal

pub loop-at-preserved : goal.loop-at-preserved
loop-at-preserved c = elim c.if-entry-client.branch [
  | then-entry-client+in_ok-copied+in_ok-push w ↦ rw w.own-is
      (own_more c.args.self.now.items c.loop-at.own.items _ c.loop-at.at c.args.client (entry_in c.at-entry.result) _ c.at-entry.ensures c.loop-at.invariant
      w.if-entry-client.true w.in_ok-copied.ensures w.in_ok-push.ensures.ok)
  | else-entry-client w ↦ rw w.own-is
      (own_same c.args.self.now.items c.loop-at.own.items c.loop-at.at c.args.client (entry_in c.at-entry.result) c.at-entry.ensures c.loop-at.invariant w.if-entry-client.false)
]

-- What an entry of the client gave is added.
use Rattle.std.proofs.Common.{ap, ◌∙◌, ◌++◌, ◌∷◌, []}
use Rattle.sg_play.specs.sg_hist.Lent.{entry_in}
use Rattle.sg_sim.proofs.Rebuilding.{gave_next, gave_same}
use Rattle.sg_sim.proofs.given.ids_of.Goals.{then-entry-client+in_ok-reserve, else-entry-client}
use Rattle.sg_sim.proofs.given.ids_of.Goals as goal

pub loop-at-preserved : goal.loop-at-preserved
loop-at-preserved c = elim c.if-entry-client.branch [
  | then-entry-client+in_ok-reserve w ↦ rw w.ids-is
      (gave_next c.args.history.now.items c.loop-at.ids.items _ c.loop-at.at c.args.client _ (entry_in c.at-entry.result) c.at-entry.ensures c.loop-at.invariant
      w.if-entry-client.true w.desc_in.ensures (w.add.ensures.items ∙ ap (λ l. l ++ w.desc_in.result ∷ []) w.in_ok-reserve.ensures.items))
  | else-entry-client w ↦ rw w.ids-is
      (gave_same c.args.history.now.items c.loop-at.ids.items c.loop-at.at c.args.client (entry_in c.at-entry.result) c.at-entry.ensures c.loop-at.invariant w.if-entry-client.false)
]

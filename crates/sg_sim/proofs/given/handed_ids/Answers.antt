-- Who has a receipt wasn't handed over its last reply.
use Rattle.std.proofs.Common.{◌≡◌, ℕ, List, length, take, ap, sym, ◌∙◌, subst}
use Rattle.sg_facts.specs.declared.entry.Entry.{Entry}
use Rattle.sg_facts.specs.sg_base.Room.{Roomy}
use Rattle.sg_play.specs.sg_hist.Clients.{calls_of}
use Rattle.sg_play.specs.sg_plain.Playing.Callers.{handed, is_receipted}
use Rattle.sg_play.specs.sg_plain.Playing.Given.{GaveIds}
use Rattle.sg_play.specs.sg_clients.WorldView.{seat_of}
use Rattle.sg_sim.proofs.Rebuilding.{gave_all, gave_popped, not_receipt}
use Rattle.sg_sim.proofs.given.handed_ids.Goals as goal
use Rattle.sg_sim.proofs.given.handed_ids.Goals.{in-Receipted, in_default, then-matches, else-matches}

pub returns : goal.returns
returns g c =
    let w = c.args.world.now.view in
    let s = seat_of w c.args.client in
    let own = calls_of w.history c.args.client in
    let count : s.seq ≡ length own = sym c.seq-count.ensures.seq ∙ c.seq-count.ensures.count in
    let gave : GaveIds own c.in_ok-ids.ids.items
    = subst (λ (es : List Entry). GaveIds (calls_of es c.args.client) c.in_ok-ids.ids.items) c.history.ensures.items c.in_ok-ids.ensures in
    let receipt : is_receipted s.phase ≡ c.match-matches.matches = elim c.match-matches.branch [
      | in-Receipted m ↦ ap is_receipted (sym c.phase.ensures.phase ∙ m.in-Receipted.is) ∙ sym m.matches-is
      | in_default m ↦ ap is_receipted (sym c.phase.ensures.phase) ∙ not_receipt c.phase.result m.in_default.not-Receipted ∙ sym m.matches-is
    ] in
    elim c.if-matches.branch [
      | then-matches t ↦
          subst (λ (l : Roomy ℕ). GaveIds (take (handed s) own) l.items) (sym t.ids-is)
          (gave_popped s own c.in_ok-ids.ids.items t.pop-last.new.self.items t.pop-last.result count (receipt ∙ t.if-matches.true) gave t.pop-last.ensures.some t.pop-last.ensures.empty t.pop-last.ensures.none.0)
      | else-matches t ↦
          subst (λ (l : Roomy ℕ). GaveIds (take (handed s) own) l.items) (sym t.ids-is)
          (gave_all s own c.in_ok-ids.ids.items count (receipt ∙ t.if-matches.false) gave)
    ]

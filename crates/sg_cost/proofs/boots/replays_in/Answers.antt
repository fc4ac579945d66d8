-- One item more is counted, where it is a replay.
use Rattle.std.proofs.Common.{◌≡◌, ◌+◌, ◌≤◌, sym, ◌∙◌, true, false, take, arith}
use Rattle.sg_facts.specs.Lent.{item_in}
use Rattle.sg_facts.specs.declared.trace.Item.{Item}
use Rattle.sg_report.proofs.Nexts.{filter_next}
use Rattle.sg_report.specs.Inside.Pieces.{is_replay_for}
use Rattle.sg_report.specs.Report.{replays_for}
use Rattle.sg_cost.proofs.boots.replays_in.Goals.{then-is_replay, else-is_replay}
use Rattle.sg_cost.proofs.boots.replays_in.Goals as goal

pub items-preserved : goal.items-preserved
items-preserved c =
    let items = c.args.items.now.items in
    let at = c.items.at in
    let item = item_in c.at.result in
    let test = λ (x : Item). is_replay_for (λ id. true) x.tag x.outcome in
    let was : c.items.count ≡ replays_for (λ id. true) (take at items) = c.items.invariant.is in
    let few : c.items.count ≤ at = c.items.invariant.few in
    elim c.if-is_replay.branch [
      | then-is_replay w ↦
          let next : replays_for (λ id. true) (take (at + 1) items) ≡ replays_for (λ id. true) (take at items) + 1
          = filter_next test items at item true c.at.ensures (sym c.is_replay.ensures ∙ w.if-is_replay.true) in
          rw w.count-is (record { is = omega (arith, was, next); few = omega (arith, few) })
      | else-is_replay w ↦
          let next : replays_for (λ id. true) (take (at + 1) items) ≡ replays_for (λ id. true) (take at items) + 0
          = filter_next test items at item false c.at.ensures (sym c.is_replay.ensures ∙ w.if-is_replay.false) in
          rw w.count-is (record { is = omega (arith, was, next); few = omega (arith, few) })
    ]

-- One item more is counted, where it is a replay.
use Rattle.std.proofs.Common.{sym, ◌∙◌, true}
use Rattle.std.specs.Prelude.{slice_get}
use Rattle.sg_facts.specs.declared.trace.Item.{Item}
use Rattle.sg_report.specs.Inside.Pieces.{is_replay_for}
use Rattle.sg_report.proofs.Nexts.{count_more, count_same}
use Rattle.sg_report.proofs.ReplayKinds.{has_kind, replay_by_kind}
use Rattle.sg_report.proofs.traced.replays_after.Goals.{then-is_replay, else-is_replay}
use Rattle.sg_report.proofs.traced.replays_after.Goals as goal

pub items-preserved : goal.items-preserved
items-preserved c =
    let found = slice_get c.args.items.now.items c.items.at in
    let has = has_kind found c.kind.result c.kind.ensures in
    let told = replay_by_kind found c.kind.result has ∙ sym c.is_replay.ensures in
    elim c.if-is_replay.branch [
      | then-is_replay w ↦ rw w.count-is
          (count_more (λ (item : Item). is_replay_for (λ id. true) item.tag item.outcome) c.args.items.now.items c.items.at has.item c.args.before
          18446744073709551615 c.items.count w.saturating_add-count.result has.there c.items.invariant (told ∙ w.if-is_replay.true)
          w.saturating_add-count.ensures)
      | else-is_replay w ↦ rw w.count-is
          (count_same (λ (item : Item). is_replay_for (λ id. true) item.tag item.outcome) c.args.items.now.items c.items.at has.item c.args.before
          18446744073709551615 c.items.count has.there c.items.invariant (told ∙ w.if-is_replay.false))
    ]

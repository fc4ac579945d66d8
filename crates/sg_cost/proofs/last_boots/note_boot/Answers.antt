-- The boot of one item more is noted, where it is of a client's call.
use Rattle.std.proofs.Common.{sym, ◌∙◌, ap}
use Rattle.std.specs.Prelude.{if◌then◌else◌}
use Rattle.sg_facts.specs.Lent.{item_in, tag_in}
use Rattle.sg_cost.proofs.Noting.{kept_next, not_tagged}
use Rattle.sg_cost.specs.Inside.LastBoots.{kept_boot}
use Rattle.sg_report.specs.sg_hist.Reading.{is_tagged}
use Rattle.sg_cost.proofs.last_boots.note_boot.Goals.{in-Client+in_ok-note_call, in_default}
use Rattle.sg_cost.proofs.last_boots.note_boot.Goals as goal

pub items-preserved : goal.items-preserved
items-preserved c = λ client seq.
    let items = c.args.items.now.items in
    let old = kept_boot c.items.last.entries client seq in
    let first = kept_boot c.args.last.now.entries client seq in
    elim c.match-item.branch [
      | in-Client+in_ok-note_call w ↦ rw w.last-is
          (kept_next client seq items c.items.at (item_in c.at-item.result) c.args.number first old (kept_boot w.note_call.new.last.entries client seq) c.at-item.ensures
          (c.items.invariant client seq)
          (w.in_ok-note_call.ensures client seq ∙ ap (λ b. if b then c.args.number else old) (sym (ap (λ t. is_tagged client seq (tag_in t)) w.in-Client.is))))
      | in_default w ↦ rw w.last-is
          (kept_next client seq items c.items.at (item_in c.at-item.result) c.args.number first old old c.at-item.ensures (c.items.invariant client seq)
          (sym (ap (λ b. if b then c.args.number else old) (not_tagged c.at-item.result.tag client seq w.in_default.not-Client))))
    ]

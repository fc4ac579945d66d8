-- The map has the new mark.
use Rattle.std.proofs.Common.{cond, false, Some, ◌∙◌, ap}
use Rattle.std.specs.Str.{bytes_eq}
use Rattle.sg_replay.specs.Present.{mark_at, marks_of}
use Rattle.sg_replay.proofs.Marks.{mark_added}
use Rattle.sg_replay.proofs.present.add_mark.Goals as goal

pub returns-clause-ok : goal.returns-clause-ok
returns-clause-ok c = λ k.
    let old = c.args.marks.now.entries in
    ap (λ entries. mark_at (marks_of entries) k) c.in_ok-insert.ensures.entries ∙ mark_added old c.in_ok-from_slice.field-0 false k
    ∙ ap (λ key. cond (bytes_eq k key) (Some (key, false)) (mark_at (marks_of old) k)) c.in_ok-from_slice.ensures.items

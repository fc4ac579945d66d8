-- What is drawn is the whole picture.
use Rattle.std.proofs.Common.{ap, sym}
use Rattle.sg_draw.specs.Pictures.{heads_of}
use Rattle.sg_draw.proofs.Documents.{drawn, then}
use Rattle.sg_draw.proofs.Wholes.{picture_of, rows_seen}
use Rattle.sg_draw.proofs.drawing.picture.Goals as goal

pub returns : goal.returns
returns c =
    picture_of c.args.iface.now.facts c.args.ended.now c.as_slice-2.result.now c.in_ok-out.out c.push_legend.new.out c.extend_from_slice.new.self c.in_ok-out.ensures
    (rows_seen c.as_slice-2.ensures c.in_ok-rows.ensures)
    (then c.in_ok-push_title.ensures
    (then (drawn (ap heads_of (sym c.as_slice-ends.ensures)) c.in_ok-push_heads.ensures)
    (then c.in_ok-push_rows.ensures (then c.in_ok-push_waiting.ensures c.in_ok-push_legend.ensures))))
    c.in_ok-extend_from_slice.ensures.ok

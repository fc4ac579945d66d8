-- The fixed part is written.
use Rattle.sg_draw.proofs.Documents.{five_written}
use Rattle.sg_draw.specs.Inside.Drawing.{opening}
use Rattle.sg_draw.proofs.drawing.begun.Goals as goal

pub returns : goal.returns
returns c = record {
  width = c.width.result;
  height = c.height.result;
  is =
      five_written (opening c.width.result c.height.result) _ _ _ _ _ _ _ _ _ _ _ c.in_ok-out.ensures c.in_ok-extend_from_slice.ensures.ok
      c.in_ok-extend_from_slice-2.ensures.ok c.in_ok-extend_from_slice-3.ensures.ok c.in_ok-extend_from_slice-4.ensures.ok c.in_ok-extend_from_slice-5.ensures.ok;
}

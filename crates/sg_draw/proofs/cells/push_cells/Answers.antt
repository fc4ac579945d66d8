-- A lane more is written.
use Rattle.std.proofs.Common.{arith}
use Rattle.sg_draw.proofs.Lines.{adds_more, adds_none, adds_width}
use Rattle.sg_draw.proofs.cells.push_cells.Goals as goal

pub lanes-init : goal.lanes-init
lanes-init c = adds_none c.args.out.now

pub lanes-preserved : goal.lanes-preserved
lanes-preserved c = adds_more (omega arith) c.lanes.invariant c.in_ok-extend_from_slice.ensures.ok c.cell_text.ensures

pub returns : goal.returns
returns c = adds_width (omega arith) c.lanes.invariant

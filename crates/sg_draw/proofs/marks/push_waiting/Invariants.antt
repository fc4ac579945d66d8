-- Bars show no text.
use Rattle.std.proofs.Common.{[]}
use Rattle.sg_draw.specs.Inside.Drawing.{Draws}
use Rattle.sg_draw.proofs.marks.push_waiting.Given as goal

abbrev pub invariant-lanes : goal.invariant-lanes
invariant-lanes l = Draws l.initial.out l.out []

-- The first clients have their heads.
use Rattle.std.proofs.Common.{map, take}
use Rattle.sg_draw.specs.Pictures.{client_name}
use Rattle.sg_draw.specs.Inside.Drawing.{Draws}
use Rattle.sg_draw.proofs.drawing.push_clients.Given as goal

abbrev pub invariant-ends : goal.invariant-ends
invariant-ends l = Draws l.initial.out l.out (map (λ e. client_name e.0) (take l.at l.ends))

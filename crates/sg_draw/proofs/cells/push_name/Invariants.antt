-- The first letters are written.
use Rattle.std.proofs.Common.{◌≡◌, ◌++◌, take}
use Rattle.std.specs.Prelude.{codes}
use Rattle.sg_draw.specs.Pictures.{client_name}
use Rattle.sg_draw.proofs.cells.push_name.Given as goal

abbrev pub invariant-loop-at : goal.invariant-loop-at
invariant-loop-at l = l.out ≡ l.initial.out ++ take l.at (client_name l.client ++ codes "     ")

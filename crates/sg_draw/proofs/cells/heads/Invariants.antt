-- The first names are written.
use Rattle.std.proofs.Common.{◌≡◌, ◌++◌, take}
use Rattle.std.specs.Prelude.{codes}
use Rattle.std.specs.List.{flat_map}
use Rattle.sg_draw.specs.Pictures.{client_name}
use Rattle.sg_draw.proofs.cells.heads.Given as goal

abbrev pub invariant-ends : goal.invariant-ends
invariant-ends l = l.out ≡ flat_map (λ e. take 5 (client_name e.0 ++ codes "     ")) (take l.client-index l.ends)

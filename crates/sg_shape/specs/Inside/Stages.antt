-- How far a text is found to be flawless.
use Rattle.std.specs.Prelude.{ℕ, ◌≡◌, ◌<◌, None}
use Rattle.sg_check_statements.specs.sg_parse.declared.tree.Tree.{Tree}
use Rattle.sg_shape.specs.declared.fault.ShapeFaultKind.{ShapeFaultKind}
use Rattle.sg_shape.specs.Faults.{place_of, shape_rank}

-- nothing of the first kinds is wrong with a text, so many of them
abbrev pub AreClear : Tree → ℕ → Type 0
AreClear tree kinds = (kind : ShapeFaultKind) → shape_rank kind < kinds → place_of tree kind ≡ None

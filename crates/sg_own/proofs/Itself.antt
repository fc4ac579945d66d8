-- The shape of a text in which nothing is wrong is one.
use Rattle.std.proofs.Common.{◌≡◌, true, ◌&&◌, refl, sym, subst}
use Rattle.std.proofs.lemmas.Bool.{and_from}
use Rattle.sg_describe.specs.sg_facts.Facts.{Facts}
use Rattle.sg_check.specs.sg_check_statements.Shapes.{is_shape}
use Rattle.sg_check.specs.sg_check_statements.sg_parse.declared.tree.Tree.{Tree}
use Rattle.sg_describe.specs.sg_shape.Faults.{HasNoShapeFlaw}
use Rattle.sg_describe.specs.sg_shape.ShapeOfText.{shape_of_text}
use Rattle.sg_describe.proofs.sg_shape.Shapes.{fits}

pub fits_itself : (tree : Tree) (facts : Facts) → HasNoShapeFlaw tree → facts ≡ shape_of_text tree → (is_shape facts && true) ≡ true
fits_itself tree facts sound its =
    subst (λ (f : Facts). (is_shape f && true) ≡ true) (sym its) (and_from (is_shape (shape_of_text tree)) true (fits tree sound) refl)

-- What is answered is the shape of a text with which nothing is wrong, or what is first wrong.
use Rattle.std.proofs.Common.{◌≡◌, true, Ok, Err, ◌∙◌, ap}
use Rattle.std.specs.Prelude.{IfErr, IfOk, OnOk}
use Rattle.std.specs.Result.{MatchResult}
use Rattle.std.specs.declared.result.Result.{Result}
use Rattle.sg_check_statements.specs.sg_facts.declared.shape.Shape.{Shape}
use Rattle.sg_check_statements.specs.sg_facts.Allowed.{is_allowed}
use Rattle.sg_check_statements.specs.sg_facts.Facts.{facts_of}
use Rattle.sg_check_statements.specs.Shapes.{is_shape}
use Rattle.sg_check_statements.specs.sg_parse.declared.tree.Tree.{Tree}
use Rattle.sg_shape.specs.declared.fault.ShapeError.{ShapeError}
use Rattle.sg_shape.specs.Faults.{HasNoShapeFlaw, IsFirstShapeError}
use Rattle.sg_shape.specs.ShapeOfText.{shape_of_text}
use Rattle.sg_shape.proofs.Goods.{keeps}
use Rattle.sg_shape.proofs.Shapes.{fits}
use Rattle.sg_shape.proofs.shaping.shape_of.Goals as goal

-- what is answered of a text
abbrev Answered : Tree → Result Shape ShapeError → Type 0
Answered tree r = MatchResult r (λ s. (facts_of s ≡ shape_of_text tree) × HasNoShapeFlaw tree) (IsFirstShapeError tree)

given_shape : (tree : Tree) (r : Result Shape ShapeError) → Answered tree r → IfOk r (λ s. facts_of s ≡ shape_of_text tree)
given_shape tree (Ok s) told = told.0
given_shape tree (Err e) told = tt

given_flawless : (tree : Tree) (r : Result Shape ShapeError) → Answered tree r → OnOk r (HasNoShapeFlaw tree)
given_flawless tree (Ok s) told = told.1
given_flawless tree (Err e) told = tt

given_fits : (tree : Tree) (r : Result Shape ShapeError) → Answered tree r → IfOk r (λ s. is_shape (facts_of s) ≡ true)
given_fits tree (Ok s) told = ap is_shape told.0 ∙ fits tree told.1
given_fits tree (Err e) told = tt

given_allowed : (tree : Tree) (r : Result Shape ShapeError) → Answered tree r → IfOk r (λ s. is_allowed (facts_of s) ≡ true)
given_allowed tree (Ok s) told = ap is_allowed told.0 ∙ keeps tree told.1
given_allowed tree (Err e) told = tt

given_fault : (tree : Tree) (r : Result Shape ShapeError) → Answered tree r → IfErr r (IsFirstShapeError tree)
given_fault tree (Ok s) told = tt
given_fault tree (Err e) told = told

pub returns-clause-shape : goal.returns-clause-shape
returns-clause-shape c = given_shape c.args.tree.now c.shape_with.result c.shape_with.ensures

pub returns-clause-flawless : goal.returns-clause-flawless
returns-clause-flawless c = given_flawless c.args.tree.now c.shape_with.result c.shape_with.ensures

pub returns-clause-fits : goal.returns-clause-fits
returns-clause-fits c = given_fits c.args.tree.now c.shape_with.result c.shape_with.ensures

pub returns-clause-allowed : goal.returns-clause-allowed
returns-clause-allowed c = given_allowed c.args.tree.now c.shape_with.result c.shape_with.ensures

pub returns-clause-fault : goal.returns-clause-fault
returns-clause-fault c = given_fault c.args.tree.now c.shape_with.result c.shape_with.ensures

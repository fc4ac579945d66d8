-- The shape of a text with which nothing is wrong by itself has few functions, fields and parameters.
use Rattle.std.proofs.Common.{◌≡◌, ◌≤◌, List, [], ◌∷◌, map, drop, length, get_or, refl, sym, ◌∙◌, ap, subst, arith}
use Rattle.std.specs.Prelude.{All}
use Rattle.std.proofs.lemmas.List.{length-map}
use Rattle.std.proofs.lemmas.Option.{slice_get-get_or}
use Rattle.sg_shape.specs.sg_facts.Facts.{Facts, Fun}
use Rattle.sg_shape.specs.sg_check_statements.sg_parse.declared.tree.Param.{Param}
use Rattle.sg_shape.specs.sg_check_statements.sg_parse.declared.tree.Tree.{Tree}
use Rattle.sg_shape.specs.declared.fault.ShapeFaultKind.TheVariants.{Limit}
use Rattle.sg_shape.specs.Faults.{HasNoShapeFlaw}
use Rattle.sg_shape.specs.Fields.{field_at, first_uses, uses_of}
use Rattle.sg_shape.specs.Prototypes.{protos_of}
use Rattle.sg_shape.specs.ShapeOfText.{function_of, kind_of, shape_of_text}
use Rattle.sg_shape.proofs.Flawless.{few_fields, few_params, few_protos, own_funs}
use Rattle.sg_describe.specs.Inside.Parts.{HasFewNames, HasFewParams}
use Rattle.sg_describe.proofs.Finding.{mapped_at}

own_fields : (tree : Tree) → (shape_of_text tree).fields ≡ map field_at (first_uses (uses_of tree.statements))
unfolding shape_of_text
own_fields tree = refl

pub few_names : (tree : Tree) (facts : Facts) → facts ≡ shape_of_text tree → HasNoShapeFlaw tree → HasFewNames facts
few_names tree facts is sound =
    let ps = protos_of tree.statements in
    let us = first_uses (uses_of tree.statements) in
    let funs : length (shape_of_text tree).funs ≡ length ps = ap length (own_funs tree sound) ∙ length-map ps (function_of tree.statements) in
    let fields : length (shape_of_text tree).fields ≡ length us = ap length (own_fields tree) ∙ length-map us field_at in
    subst HasFewNames (sym is) (record { funs = omega (arith, funs, few_protos tree (sound Limit)); fields = omega (arith, fields, few_fields tree (sound Limit)) })

few_of : (params : List Param) → length params ≤ 256 → length (map kind_of (drop 1 params)) ≤ 255
few_of [] few = omega arith
few_of (p ∷ params) few = let same = length-map params kind_of in omega (arith, same, few)

pub few_kinds : (tree : Tree) (facts : Facts) → facts ≡ shape_of_text tree → HasNoShapeFlaw tree → All HasFewParams facts.funs
few_kinds tree facts is sound = subst (All HasFewParams) (sym (ap (λ (f : Facts). f.funs) is ∙ own_funs tree sound)) each
  where
    funs : List Fun
    funs = map (function_of tree.statements) (protos_of tree.statements)

    each : All HasFewParams funs
    each = λ k d within.
        let p = mapped_at (function_of tree.statements) (protos_of tree.statements) k (get_or funs k d) (slice_get-get_or funs k d within) in
        subst HasFewParams p.2 (few_of p.0.params (few_params tree (sound Limit) k p.0 p.1))

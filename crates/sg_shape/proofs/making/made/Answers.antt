-- Part by part.
use Rattle.std.proofs.Common.{codes, map, rules, ◌∙◌, ap}
use Rattle.sg_shape.specs.Fields.{field_at}
use Rattle.sg_shape.specs.ShapeOfText.{function_of, pairs_of}
use Rattle.sg_shape.proofs.Data.{shape_is}
use Rattle.sg_shape.proofs.making.made.Goals as goal

pub returns : goal.returns
returns c =
    shape_is c.args.tree.now
    record {
      name = c.in_ok-name_of.field-0;
      parents = c.parents_of.result;
      subtree = c.is_subtree.result;
      global = c.is_global.result;
      block = c.may_block.result;
      has_data = c.has_some.result;
      resc_data = c.use_files.result;
      fields = c.in_ok-fields.fields;
      funs = c.in_ok-funs.funs;
      moves = c.in_ok-pairs_of.field-0;
      steps = c.in_ok-pairs_of-2.field-0;
    }
    (search rules) (search rules) (search rules) (search rules) (search rules) (search rules) (search rules)
    (c.in_ok-fields.ensures ∙ ap (map field_at) c.requires.fields)
    (c.in_ok-funs.ensures ∙ ap (λ s. map (function_of s) c.args.protos.now) c.as_slice-statements.ensures ∙ ap (map (function_of c.args.tree.now.statements)) c.requires.protos)
    (c.in_ok-pairs_of.ensures ∙ ap (pairs_of (codes "sm_transition")) c.as_slice-statements.ensures)
    (c.in_ok-pairs_of-2.ensures ∙ ap (pairs_of (codes "sm_recover")) c.as_slice-statements.ensures)

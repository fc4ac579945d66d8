-- Part by part.
use Rattle.std.proofs.Common.{map, drop, ◌∙◌, ap}
use Rattle.sg_check_statements.specs.sg_facts.Fields.{number_of}
use Rattle.sg_shape.specs.Fields.{fields_of_text}
use Rattle.sg_shape.specs.Inside.Parts.{flags_said}
use Rattle.sg_shape.specs.ShapeOfText.{kind_of, leaves_of, numbered}
use Rattle.sg_shape.proofs.Data.{function_is}
use Rattle.sg_shape.proofs.funs.fun_shape.Goals as goal

pub returns : goal.returns
returns c =
    function_is c.args.statements.now c.args.proto.now
    record {
      name = c.in_ok-kept_name.field-0;
      kinds = c.in_ok-kinds_of.field-0;
      flags = c.flags_of.result;
      leaves = c.leaves_of.result;
      effects = c.in_ok-numbered.field-0;
    }
    (c.in_ok-kept_name.ensures ∙ c.name-name.ensures)
    (c.in_ok-kinds_of.ensures ∙ ap (map kind_of) (c.later.ensures ∙ ap (drop 1) c.params.ensures))
    (c.flags_of.ensures ∙ ap (λ n. number_of (flags_said c.args.statements.now n)) c.name-name.ensures)
    (c.leaves_of.ensures ∙ ap (leaves_of c.args.statements.now) c.name-name.ensures)
    (c.in_ok-numbered.ensures ∙ ap (λ l. numbered 0 l c.as_slice.result.now) c.requires.fields
    ∙ ap (numbered 0 (fields_of_text c.args.statements.now)) (c.as_slice.ensures ∙ c.in_ok-effects.ensures))

-- The pairs of a shape are those of its facts.
use Rattle.std.proofs.Common.{◌∙◌, ap, map}
use Rattle.sg_check_statements.specs.sg_facts.Facts.{fun_of_shape}
use Rattle.sg_check_statements.specs.sg_facts.Fields.{number_of}
use Rattle.sg_check_statements.specs.Says.{has_proto}
use Rattle.sg_check.proofs.Listing.{whole}
use Rattle.sg_check.proofs.declared.interface_of.Goals as goal

pub returns : goal.returns
returns c = whole c.args.shape.now c.args.tree.now c.as_slice-statements.result.now c.declared_in.result c.in_ok-listed.field-0 c.in_ok-listed-2.field-0 c.as_slice-statements.ensures
    (c.declared_in.ensures.declared ∙ ap (λ l. number_of (map (λ f. has_proto l f.name) (map fun_of_shape c.args.shape.now.funs.now))) c.in_ok-protos.ensures)
    c.in_ok-listed.ensures c.in_ok-listed-2.ensures

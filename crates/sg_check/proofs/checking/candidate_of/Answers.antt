-- A text in which the first ten kinds are clear, with its interface.
use Rattle.std.proofs.Common.{◌≡◌, ◌≤◌, length, map, sym, subst}
use Rattle.std.specs.Prelude.{true}
use Rattle.sg_check_statements.specs.sg_facts.Facts.{facts_of}
use Rattle.sg_check_statements.specs.Shapes.{is_shape}
use Rattle.sg_check.proofs.Stages.{all_triples, few_fields, shape_funs, shape_of}
use Rattle.sg_check.proofs.checking.candidate_of.Goals as goal

pub interface_of-requires : goal.interface_of-requires
interface_of-requires c =
    shape_funs c.in_ok-shape.shape.now (shape_of (map facts_of c.args.shapes.now) c.args.tree.now.facts.service.bytes (facts_of c.in_ok-shape.shape.now) c.requires c.in_ok-shape.ensures.service)

pub reachable-requires : goal.reachable-requires
reachable-requires c =
    let facts = facts_of c.in_ok-shape.shape.now in
    let shape : is_shape facts ≡ true = shape_of (map facts_of c.args.shapes.now) c.args.tree.now.facts.service.bytes facts c.requires c.in_ok-shape.ensures.service in
    record { few = subst (λ i. length i.facts.fields ≤ 8) (sym c.in_ok-iface.ensures) (few_fields facts shape) }

pub returns : goal.returns
returns c =
    let facts = facts_of c.in_ok-shape.shape.now in
    let shape : is_shape facts ≡ true = shape_of (map facts_of c.args.shapes.now) c.args.tree.now.facts.service.bytes facts c.requires c.in_ok-shape.ensures.service in
    record {
      clear = c.in_ok-shape.ensures;
      shape = shape;
      declared = c.in_ok-iface.ensures;
      triples = all_triples facts shape c.args.tree.now c.in_ok-iface.iface c.in_ok-triples.triples c.in_ok-iface.ensures c.in_ok-triples.ensures.only c.in_ok-triples.ensures.all;
    }

-- The interface that the text declares has what the checker found stuck.
use Rattle.std.proofs.Common.{◌≡◌, ◌≤◌, length, map, subst, sym, true}
use Rattle.sg_input.proofs.sg_check.Stages.{all_triples, few_fields, shape_funs, shape_of}
use Rattle.sg_input.specs.sg_check.Inside.Reached.{AreTriples}
use Rattle.sg_input.specs.sg_check_statements.Shapes.{is_shape}
use Rattle.sg_input.specs.sg_facts.Facts.{facts_of}
use Rattle.sg_explain.specs.Inside.Pieces.{stuck_line}
use Rattle.sg_explain.specs.Stuck.{IsStuckLine}
use Rattle.sg_explain.proofs.Protos.{proto_for, stuck_told}
use Rattle.sg_explain.proofs.Telling.{with_line}
use Rattle.sg_explain.proofs.stuck.put_stuck_of.Goals as goal

pub interface_of-requires : goal.interface_of-requires
interface_of-requires c =
    shape_funs c.args.shape.now (shape_of (map facts_of c.args.shapes.now) c.args.tree.now.facts.service.bytes (facts_of c.args.shape.now) c.requires.shapes c.requires.service)

pub reachable-requires : goal.reachable-requires
reachable-requires c =
    let facts = facts_of c.args.shape.now in
    let shape : is_shape facts ≡ true = shape_of (map facts_of c.args.shapes.now) c.args.tree.now.facts.service.bytes facts c.requires.shapes c.requires.service in
    record { few = subst (λ i. length i.facts.fields ≤ 8) (sym c.in_ok-iface.ensures) (few_fields facts shape) }

pub stuck_at-requires-clause-few : goal.stuck_at-requires-clause-few
stuck_at-requires-clause-few c =
    let facts = facts_of c.args.shape.now in
    let shape : is_shape facts ≡ true = shape_of (map facts_of c.args.shapes.now) c.args.tree.now.facts.service.bytes facts c.requires.shapes c.requires.service in
    subst (λ i. length i.facts.fields ≤ 8) (sym c.in_ok-iface.ensures) (few_fields facts shape)

pub stuck_at-requires-clause-triples : goal.stuck_at-requires-clause-triples
stuck_at-requires-clause-triples c =
    let facts = facts_of c.args.shape.now in
    let shape : is_shape facts ≡ true = shape_of (map facts_of c.args.shapes.now) c.args.tree.now.facts.service.bytes facts c.requires.shapes c.requires.service in
    subst (AreTriples c.in_ok-iface.iface) (sym c.as_slice.ensures)
    (all_triples facts shape c.args.tree.now c.in_ok-iface.iface c.in_ok-triples.triples c.in_ok-iface.ensures c.in_ok-triples.ensures.only c.in_ok-triples.ensures.all)

pub stuck_at-requires-clause-there : goal.stuck_at-requires-clause-there
stuck_at-requires-clause-there c =
    proto_for (map facts_of c.args.shapes.now) c.args.tree.now c.args.at (facts_of c.args.shape.now) c.in_ok-iface.iface c.as_slice-2.result.now c.requires.service c.in_ok-iface.ensures c.as_slice-2.ensures
    c.requires.fault.here

pub returns : goal.returns
returns c =
    let services = map facts_of c.args.shapes.now in
    let facts = facts_of c.args.shape.now in
    with_line c.put_stuck_line.result (λ line. IsStuckLine services c.args.tree.now c.args.at line) _ _ (stuck_line facts c.in_ok-triple.triple)
    (stuck_told services c.args.tree.now c.args.at facts c.in_ok-iface.iface c.as_slice-2.result.now c.in_ok-triple.triple c.requires.service c.in_ok-iface.ensures c.as_slice-2.ensures c.in_ok-triple.ensures)
    c.put_stuck_line.ensures

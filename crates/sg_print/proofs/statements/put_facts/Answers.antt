-- The parts of the facts, one after the other.
use Rattle.std.proofs.Common.{codes}
use Rattle.sg_print.specs.Printed.{shared_text}
use Rattle.sg_print.specs.Inside.Pieces.{recovery_text, version_line}
use Rattle.sg_print.proofs.Rows.{on_ok, four_parts}
use Rattle.sg_print.proofs.statements.put_facts.Goals as goal

pub returns : goal.returns
returns c =
    let f = c.args.facts.now in
    on_ok c.put-2.result
    (λ last. four_parts c.args.out.now (codes "service_global_info = {\n") c.version_line.result.now (version_line f.version) (shared_text f) (recovery_text f.version f.eager) (codes "\n};\n")
    c.put.new.out c.put_shared.new.out c.put_recovery.new.out c.put-2.new.out
    c.version_line.ensures c.in_ok-put.ensures c.in_ok-put_shared.ensures c.in_ok-put_recovery.ensures last)
    c.put-2.ensures

-- The bytes of the last read go on from those that were kept.
use Rattle.std.proofs.Common.{◌++◌, take, arith, length-append}
use Rattle.std.proofs.lemmas.Grind.{common_steps}
use Rattle.sg_edge.proofs.Bytes.{Consumes-trans}
use Rattle.std.proofs.lemmas.Result.{err_from_is_err_and}
use Rattle.sg_edge.proofs.source.read_all.Goals as goal

pub returns-then-count-spare-clause-taken : goal.returns-then-count-spare-clause-taken
returns-then-count-spare-clause-taken g c =
    let given = take c.in_ok-count.count c.read.new.buf in
    (c.reads.bytes ++ given, grind (arith, common_steps, length-append c.reads.bytes given, c.in_ok-count.ensures.bound, c.len.ensures), Consumes-trans _ _ _ _ _ c.reads.invariant.taken c.in_ok-count.ensures.bytes.0)

pub returns-in_err-extend_from_slice-clause-taken : goal.returns-in_err-extend_from_slice-clause-taken
returns-in_err-extend_from_slice-clause-taken g c =
    let p = err_from_is_err_and c.from_residual-in_err-extend_from_slice.result c.from_residual-in_err-extend_from_slice.ensures.1 in
    let given = take c.in_ok-count.count c.read.new.buf in
    rw (p.1, p.2) (c.reads.bytes ++ given, grind (arith, common_steps, length-append c.reads.bytes given, c.in_ok-count.ensures.bound, c.len.ensures), Consumes-trans _ _ _ _ _ c.reads.invariant.taken c.in_ok-count.ensures.bytes.0)

-- An argument that can't be made is the first of its kind.
use Rattle.std.proofs.Common.{map}
use Rattle.std.specs.List.{flat_map}
use Rattle.sg_entries.proofs.Made.{not_made, passed}
use Rattle.sg_entries.specs.Inside.Flaws.{arg_flaws}
use Rattle.sg_entries.specs.Inside.Making.{IsMade}
use Rattle.sg_entries.specs.Standing.{value_of}
use Rattle.sg_entries.proofs.making.values_of.Goals as goal

pub returns-in_err-value_of : goal.returns-in_err-value_of
returns-in_err-value_of c =
    let args = c.args.args.now in
    passed (IsMade (flat_map arg_flaws args) (map value_of args)) c.from_residual-in_err-value_of.result c.in_err-value_of.field-0.0 c.from_residual-in_err-value_of.ensures.1
    (not_made arg_flaws args c.each.arg-index c.arg-item.result (value_of c.arg-item.result) (map value_of args) c.in_err-value_of.field-0.0
    c.each-test.true c.arg-item.is c.each.invariant.flawless c.in_err-value_of.ensures)

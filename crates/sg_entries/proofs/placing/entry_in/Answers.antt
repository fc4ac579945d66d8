-- A flaw of an entry stands within its line.
use Rattle.std.proofs.Common.{Err, arith, subst}
use Rattle.sg_entries.proofs.Within.{first_within}
use Rattle.sg_entries.specs.Flaws.{entry_flaws}
use Rattle.sg_entries.specs.Inside.Making.{IsMade}
use Rattle.sg_entries.specs.Standing.{entry_of}
use Rattle.sg_entries.proofs.placing.entry_in.Goals as goal

pub fault_in-requires : goal.fault_in-requires
fault_in-requires c =
    let i = c.args.iface.now in
    let line = c.args.line.now in
    let e = c.args.written.now in
    let made = subst (λ x. IsMade (entry_flaws i c.args.nth e) (entry_of i e) (Err x)) c.in-Err-Fault.field-0-is c.in-Err-Fault.ensures in
    let within = first_within c.requires.parsed.0 i c.args.nth line.bytes e (record { kind = c.in-Err-Fault.kind; at = c.in-Err-Fault.at }) c.requires.parsed.1 made in
    let end = c.requires.within in
    omega (arith, within, end)

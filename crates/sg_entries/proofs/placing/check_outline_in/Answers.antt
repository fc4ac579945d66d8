-- A flaw of an entry stands within its line.
use Rattle.std.proofs.Common.{Err, arith, subst}
use Rattle.sg_entries.proofs.Outlines.{outline_first}
use Rattle.sg_entries.proofs.Within.{first_within}
use Rattle.sg_entries.specs.Flaws.{Flaw}
use Rattle.sg_entries.specs.Inside.Making.{IsFirst, IsMade}
use Rattle.sg_entries.specs.Inside.Outlines.{outline_flaws}
use Rattle.sg_entries.proofs.placing.check_outline_in.Goals as goal

pub fault_in-requires : goal.fault_in-requires
fault_in-requires c =
    let i = c.args.iface.now in
    let line = c.args.line.now in
    let o = c.args.outline.now in
    let parsed = c.requires.parsed.1 in
    let e = parsed.0 in
    let f : Flaw = record { kind = c.in-Err-Fault.kind; at = c.in-Err-Fault.at } in
    let made = subst (λ x. IsMade {A = Unit {0}} (outline_flaws i o) tt (Err x)) c.in-Err-Fault.field-0-is c.in-Err-Fault.ensures in
    let first = subst (λ o. IsFirst (outline_flaws i o) f) parsed.2 made in
    let within = first_within c.requires.parsed.0 i 0 line.bytes e f parsed.1 (outline_first i 0 e f first) in
    let end = c.requires.within in
    omega (arith, within, end)

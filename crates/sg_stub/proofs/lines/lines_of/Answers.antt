-- Creation by creation.
use Rattle.std.proofs.Common.{◌≡◌, sym, subst, arith}
use Rattle.sg_stub.specs.Inside.Lines.{AreBefore}
use Rattle.sg_stub.proofs.Before.{all_made, next_made, none_before}
use Rattle.sg_stub.proofs.lines.lines_of.Goals as goal

pub made-init : goal.made-init
made-init c = subst (λ l. AreBefore c.args.iface.now l 1 1 0) (sym c.new-lines.ensures) (none_before c.args.iface.now c.requires.fits c.requires.small)

pub made-preserved : goal.made-preserved
made-preserved c = next_made c.args.iface.now c.requires.fits c.requires.small c.add_states.new.lines c.made.made c.in_ok-add_states.ensures

pub returns : goal.returns
returns c =
    let end : c.made.made ≡ 33 = omega (arith, c.made-test.false, c.made.auto.made-end) in
    all_made c.args.iface.now c.requires.fits c.requires.small c.made.lines (subst (λ n. AreBefore c.args.iface.now c.made.lines n 1 0) end c.made.invariant)

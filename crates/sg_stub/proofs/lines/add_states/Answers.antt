-- State by state.
use Rattle.std.proofs.Common.{◌≡◌, subst, arith}
use Rattle.sg_stub.specs.Inside.Lines.{AreBefore}
use Rattle.sg_stub.proofs.lines.add_states.Goals as goal

pub returns : goal.returns
returns c =
    let end : c.states.state ≡ 33 = omega (arith, c.states-test.false, c.states.auto.state-end) in
    subst (λ n. AreBefore c.args.iface.now c.states.lines c.args.made n 0) end c.states.invariant

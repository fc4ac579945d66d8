-- As many calls are done as replies were handed over.
use Rattle.std.proofs.Common.{◌∙◌, length, ap, arith, nat_lt}
use Rattle.sg_multi.specs.sg_sim.Inside.Givens.{lists_of}
use Rattle.sg_multi.specs.sg_sim.sg_plain.Playing.Given.{given_in}
use Rattle.sg_multi.proofs.Turning.{client_there, first_there}
use Rattle.sg_multi.proofs.running.Running.is_setting_up.Goals as goal

pub of-requires : goal.of-requires
of-requires g c =
    let r = c.args.self.now in
    record { client = client_there r.members c.args.script.now r.given r.order.items c.requires.keeps.keeps 1 (omega arith) (first_there c.args.script.now r c.requires.keeps) }

pub returns : goal.returns
returns g c =
    ap (λ l. nat_lt (length l) c.len.result) c.of.ensures ∙ ap (nat_lt (length (given_in (lists_of c.args.self.now.given) 1))) c.len.ensures

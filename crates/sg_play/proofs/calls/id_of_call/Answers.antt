-- `$k` is the descriptor at the place before k.
use Rattle.std.proofs.Common.{◌-◌, ◌<◌, ◌≤◌, length, sym, ◌∙◌, arith}
use Rattle.std.proofs.lemmas.Bool.Decides.{nat_tests}
use Rattle.sg_play.proofs.Given.{given_at, given_none, id_at}
use Rattle.sg_play.proofs.calls.id_of_call.Goals as goal

pub returns-in-Some : goal.returns-in-Some
returns-in-Some c = λ own are.
    let is = c.in-Some.ensures.lookup in
    let within : c.args.call - 1 < length c.args.given.now = grind (arith, nat_tests, is.0) in
    let some : 1 ≤ c.args.call = omega (arith, c.if-call-eq0.false) in
    is.1 ∙ given_at own c.args.given.now (c.args.call - 1) _ are within ∙ sym (id_at own c.args.call some)

pub returns-in-None : goal.returns-in-None
returns-in-None c = λ own are.
    let is = c.in-None.ensures.lookup in
    let past : length c.args.given.now ≤ c.args.call - 1 = grind (arith, nat_tests, is.0) in
    let some : 1 ≤ c.args.call = omega (arith, c.if-call-eq0.false) in
    given_none own c.args.given.now (c.args.call - 1) are past ∙ sym (id_at own c.args.call some)

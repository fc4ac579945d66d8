-- One client more, and all of them.
use Rattle.std.proofs.Common.{◌≡◌, ℕ, ◌+◌, ◌-◌, List, [], ◌∷◌, ◌++◌, sym, ◌∙◌, ap}
use Rattle.sg_load.specs.Generated.{clients_from}
use Rattle.sg_load.specs.Inside.{calls_of_client, client_count}
use Rattle.sg_load.proofs.Steps.{clients_more, clients_none}
use Rattle.sg_load.proofs.script.clients.Goals as goal
use Rattle.sg_plain.specs.sg_script.declared.script.ScriptCall.{ScriptCall}

pub each-preserved : goal.each-preserved
each-preserved c =
    let service = c.args.service in
    let made : List (ℕ × List ScriptCall) = c.each.clients in
    let done : ℕ = c.each.done in
    let pushed : c.push.new.self ≡ made ++ (done + 1, calls_of_client service (done + 1) c.each.draws) ∷ []
    = c.in_ok-push.ensures.ok ∙ ap (λ calls. made ++ (done + 1, calls) ∷ []) c.in_ok-calls.ensures.calls in
    ap (λ clients. clients ++ clients_from service (done + 1 + 1) c.calls_of.new.draws (client_count - (done + 1))) pushed
    ∙ clients_more service (done + 1) c.each.draws c.calls_of.new.draws client_count done made c.each-test.true c.in_ok-calls.ensures.draws
    ∙ c.each.invariant

pub returns : goal.returns
returns c = sym (clients_none c.args.service (c.each.done + 1) c.each.draws client_count c.each.done c.each.clients c.each-test.false) ∙ c.each.invariant

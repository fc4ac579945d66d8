-- A client with a call has its end.
use Rattle.std.proofs.Common.{◌≡◌, ◌∙◌, ◌∷◌, ◌++◌, [], true, false, cond, ap, sym, append-nil}
use Rattle.sg_multi.specs.sg_sim.Inside.Givens.{lists_of}
use Rattle.sg_multi.specs.Calls.{has_multi_calls}
use Rattle.sg_multi.specs.Inside.Turns.{end_of_client}
use Rattle.sg_multi.proofs.ends.add_end.Goals as goal

pub has_calls-requires : goal.has_calls-requires
has_calls-requires g c = c.requires.keeps.keeps.playable.clients

pub returns-then-not-has_calls : goal.returns-then-not-has_calls
returns-then-not-has_calls g c =
    let r = c.args.running.now in
    let none : has_multi_calls c.args.script.now c.args.client ≡ false = sym c.has_calls.ensures ∙ c.if-not-has_calls.true in
    sym (append-nil c.args.ends.now)
    ∙ ap (λ b. c.args.ends.now ++ cond b ((c.args.client, end_of_client r.members c.args.script.now (lists_of r.given) c.args.client) ∷ []) []) (sym none)

pub returns : goal.returns
returns g c =
    let r = c.args.running.now in
    let some : has_multi_calls c.args.script.now c.args.client ≡ true = sym c.has_calls.ensures ∙ c.if-not-has_calls.false in
    c.in_ok-push.ensures.ok ∙ ap (λ e. c.args.ends.now ++ (c.args.client, e) ∷ []) c.in_ok-end.ensures
    ∙ ap (λ b. c.args.ends.now ++ cond b ((c.args.client, end_of_client r.members c.args.script.now (lists_of r.given) c.args.client) ∷ []) []) (sym some)

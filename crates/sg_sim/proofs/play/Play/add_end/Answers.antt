-- A client with a call has its end.
use Rattle.std.proofs.Common.{◌≡◌, ◌∙◌, ◌∷◌, ◌++◌, [], true, false, cond, not, ap, sym, subst, append-nil}
use Rattle.sg_play.specs.sg_plain.Playing.Ends.{end_of, has_calls}
use Rattle.sg_play.specs.sg_clients.WorldView.{seat_of}
use Rattle.sg_play.specs.sg_plain.Calls.{script_calls}
use Rattle.sg_sim.proofs.Calls.{some_first}
use Rattle.sg_sim.specs.Inside.Ends.{end_by}
use Rattle.sg_sim.specs.Playing.{Playing}
use Rattle.sg_sim.proofs.play.Play.add_end.Goals as goal

pub returns-then-is_none : goal.returns-then-is_none
returns-then-is_none g c =
    let none : has_calls c.self.inside.script c.args.client ≡ false
    = sym (some_first (script_calls c.self.inside.script c.args.client) c.script_call.result c.script_call.ensures) ∙ c.is_none.ensures ∙ ap not c.if-is_none.true in
    subst (λ (q : Playing). c.args.ends.now ≡ c.args.ends.now ++ end_by q.script c.args.client (seat_of q.view c.args.client)) c.self.view_is
    (sym (append-nil c.args.ends.now) ∙ ap (λ b. c.args.ends.now ++ cond b ((c.args.client, end_of (seat_of c.self.inside.world.view c.args.client)) ∷ []) []) (sym none))

pub returns : goal.returns
returns g c =
    let some : has_calls c.self.inside.script c.args.client ≡ true
    = sym (some_first (script_calls c.self.inside.script c.args.client) c.script_call.result c.script_call.ensures) ∙ c.is_none.ensures ∙ ap not c.if-is_none.false in
    let end = ap (λ (q : Playing). end_of (seat_of q.view c.args.client)) (sym c.self.view_is) in
    subst (λ (q : Playing). c.push.new.self ≡ c.args.ends.now ++ end_by q.script c.args.client (seat_of q.view c.args.client)) c.self.view_is
    (c.in_ok-push.ensures.ok ∙ ap (λ e. c.args.ends.now ++ (c.args.client, e) ∷ []) (c.in_ok-end.ensures ∙ end)
    ∙ ap (λ b. c.args.ends.now ++ cond b ((c.args.client, end_of (seat_of c.self.inside.world.view c.args.client)) ∷ []) []) (sym some))

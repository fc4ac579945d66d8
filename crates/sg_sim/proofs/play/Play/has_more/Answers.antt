-- A call is there where its number is below the number of calls.
use Rattle.std.proofs.Common.{length, ◌≡◌, ◌∙◌, ap, nat_lt, subst}
use Rattle.sg_play.specs.sg_plain.Calls.{script_calls}
use Rattle.sg_play.specs.sg_clients.WorldView.{seat_of}
use Rattle.sg_sim.proofs.Calls.{is_there}
use Rattle.sg_sim.specs.Playing.{Playing}
use Rattle.sg_sim.proofs.play.Play.has_more.Goals as goal

pub returns : goal.returns
returns g c =
    let calls = script_calls c.self.inside.script c.args.client in
    subst (λ (q : Playing). c.is_some.result ≡ nat_lt (seat_of q.view c.args.client).seq (length (script_calls q.script c.args.client))) c.self.view_is
    (c.is_some.ensures ∙ is_there calls c.seq-done.result c.script_call.result c.script_call.ensures ∙ ap (λ n. nat_lt n (length calls)) c.seq-done.ensures.seq)

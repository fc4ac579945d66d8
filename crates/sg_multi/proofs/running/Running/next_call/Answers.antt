-- As many calls are done as replies were handed over.
use Rattle.std.proofs.Common.{◌∙◌, length, sym, ap, subst, slice_get}
use Rattle.sg_multi.specs.sg_sim.sg_plain.Calls.{calls_with_setup}
use Rattle.sg_multi.specs.sg_sim.sg_plain.Playing.Playable.{AreClients}
use Rattle.sg_multi.specs.Calls.{multi_calls}
use Rattle.sg_multi.proofs.Turning.{client_there}
use Rattle.sg_multi.proofs.running.Running.next_call.Goals as goal

pub of-done-requires : goal.of-done-requires
of-done-requires g c =
    let r = c.args.self.now in
    record { client = client_there r.members c.args.script.now r.given r.order.items c.requires.keeps.keeps c.args.client c.requires.first c.requires.last }

pub call_with_setup-requires : goal.call_with_setup-requires
call_with_setup-requires g c = subst (AreClients 0) (sym c.as_slice-2.ensures) c.requires.keeps.keeps.playable.clients

pub returns : goal.returns
returns g c =
    let s = c.args.script.now in
    c.call_with_setup.ensures
    ∙ ap (λ l. slice_get (calls_with_setup l c.as_slice-2.result.now c.args.client) (length c.of-done.result.now)) c.as_slice.ensures
    ∙ ap (λ l. slice_get (calls_with_setup s.setup l c.args.client) (length c.of-done.result.now)) c.as_slice-2.ensures
    ∙ ap (λ l. slice_get (multi_calls s c.args.client) (length l)) c.of-done.ensures

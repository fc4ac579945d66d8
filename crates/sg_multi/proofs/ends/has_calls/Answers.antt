-- A client with a call has a first one.
use Rattle.std.proofs.Common.{◌≡◌, ◌∙◌, ap, option_copied, subst, sym}
use Rattle.std.specs.Prelude.{slice_get}
use Rattle.sg_multi.specs.sg_sim.sg_plain.Calls.{calls_with_setup}
use Rattle.sg_multi.specs.sg_sim.sg_plain.Playing.Playable.{AreClients}
use Rattle.sg_multi.specs.Calls.{multi_calls}
use Rattle.sg_multi.proofs.EndLists.{some_first}
use Rattle.sg_multi.proofs.ends.has_calls.Goals as goal

pub call_with_setup-found-requires : goal.call_with_setup-found-requires
call_with_setup-found-requires c = subst (AreClients 0) (sym c.as_slice-2.ensures) c.requires

pub returns : goal.returns
returns c =
    let s = c.args.script.now in
    let found : option_copied c.call_with_setup-found.result ≡ slice_get (multi_calls s c.args.client) 0
    = c.call_with_setup-found.ensures
    ∙ ap (λ l. slice_get (calls_with_setup l c.as_slice-2.result.now c.args.client) 0) c.as_slice.ensures
    ∙ ap (λ l. slice_get (calls_with_setup s.setup l c.args.client) 0) c.as_slice-2.ensures in
    c.is_some.ensures ∙ some_first (multi_calls s c.args.client) c.call_with_setup-found.result found

-- The call fits the interface of the world, which is the one beside it.
use Rattle.std.proofs.Common.{◌+◌, refl, subst, sym}
use Rattle.sg_facts.specs.Interface.{Declared}
use Rattle.sg_facts.specs.Kinds.{FitsKinds}
use Rattle.sg_discard.specs.sg_clients.WorldView.{seat_of}
use Rattle.test_world.proofs.run.Run.offer_call.Goals as goal

pub offer-requires-clause-fits : goal.offer-requires-clause-fits
offer-requires-clause-fits g c =
    let self = c.args.self.now in
    let seq = (seat_of self.world.view c.args.client).seq + 1 in
    subst (λ (i : Declared). FitsKinds i.facts (record { client = c.args.client; seq = seq; fun = c.args.fun; desc = c.args.desc; args = c.in_ok-args.args }))
    (sym self.same) (c.if-not-takes.ensures.fits refl c.args.client seq)

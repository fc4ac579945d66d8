-- An offer is of the client's next call, and adds its mark.
use Rattle.std.proofs.Common.{◌+◌, ◌<◌, ◌≤◌, ◌++◌, ◌∷◌, [], sym, ap, ◌∙◌, subst}
use Rattle.sg_turn.proofs.CallLaws.{on_ok, on_err}
use Rattle.sg_turn.specs.Told.{mark_by}
use Rattle.sg_turn.specs.declared.log.LogMarkKind.TheVariants.{Offer}
use Rattle.sg_world.specs.sg_clients.WorldView.{happened, offered}
use Rattle.sg_log.specs.Log.{log_of}
use Rattle.sg_log.proofs.Offering.{free_stand, offer_log}
use Rattle.sg_log.proofs.Worlds.{own_count}
use Rattle.sg_log.proofs.named.NamedWorld.offer_call.Goals as goal

pub offer-requires-clause-free : goal.offer-requires-clause-free
offer-requires-clause-free g c =
    let n = c.args.self.now in
    let last = subst (λ k. c.args.client ≤ k) (sym (n.seats ∙ n.count)) c.requires.last in
    free_stand n.world.view c.args.client c.requires.first last c.marks-told.ensures.told c.requires.free

pub offer-requires-clause-numbered : goal.offer-requires-clause-numbered
offer-requires-clause-numbered g c =
    let n = c.args.self.now in
    let same = own_count n.world.view c.args.client c.marks-told.ensures.told ∙ sym c.seq-last.ensures.count ∙ c.seq-last.ensures.seq in
    subst (λ k. k + 1 < 4294967296) same c.requires.numbered

pub returns-clause-offers : goal.returns-clause-offers
returns-clause-offers g c =
    let n = c.args.self.now in
    let told = c.marks-told.ensures.told in
    let last = subst (λ k. c.args.client ≤ k) (sym (n.seats ∙ n.count)) c.requires.last in
    let free = free_stand n.world.view c.args.client c.requires.first last told c.requires.free in
    let same = own_count n.world.view c.args.client told ∙ sym c.seq-last.ensures.count ∙ c.seq-last.ensures.seq in
    on_ok c.offer.result
    (λ e. ap (λ y. log_of y.view) e ∙ offer_log n.world.view c.args.client _ c.requires.first last told free
    ∙ ap (λ k. log_of n.world.view ++ mark_by c.args.client (Offer (record { client = c.args.client; seq = k + 1; fun = c.args.fun; desc = c.args.desc; args = c.args.args })) ∷ []) (sym same))
    c.offer.ensures.ok

pub returns-clause-same : goal.returns-clause-same
returns-clause-same g c = on_err c.offer.result (λ e. ap (λ y. log_of y.view) e) c.offer.ensures.err

pub returns-clause-ok : goal.returns-clause-ok
returns-clause-ok g c =
    let n = c.args.self.now in
    let same = own_count n.world.view c.args.client c.marks-told.ensures.told ∙ sym c.seq-last.ensures.count ∙ c.seq-last.ensures.seq in
    on_ok c.offer.result
    (λ e. ap (λ y. y.view) e ∙ ap (λ k. happened (offered n.world.view c.args.client (record { client = c.args.client; seq = k + 1; fun = c.args.fun; desc = c.args.desc; args = c.args.args }))) (sym same))
    c.offer.ensures.ok

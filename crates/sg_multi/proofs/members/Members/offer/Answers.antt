-- One member changes, and the others stay.
use Rattle.std.proofs.Common.{◌≡◌, ◌+◌, ◌∙◌, ap, slice_set}
use Rattle.sg_multi.proofs.Places.{changed, err_so, now_there, ok_so, same_there}
use Rattle.sg_multi.specs.Members.{ChangesAt, view_in}
use Rattle.sg_sim.specs.sg_clients.WorldView.{WorldView, happened, offered, seat_of}
use Rattle.sg_multi.proofs.members.Members.offer.Goals as goal

pub offer-requires-clause-client : goal.offer-requires-clause-client
offer-requires-clause-client g c =
    c.requires.client c.index_mut.result.now (now_there c.self.inside.list.items c.args.self.now c.args.place c.index_mut.result.now c.self.view_is c.requires.there c.index_mut.ensures.value)

pub offer-requires-clause-free : goal.offer-requires-clause-free
offer-requires-clause-free g c =
    c.requires.free c.index_mut.result.now (now_there c.self.inside.list.items c.args.self.now c.args.place c.index_mut.result.now c.self.view_is c.requires.there c.index_mut.ensures.value)

pub offer-requires-clause-numbered : goal.offer-requires-clause-numbered
offer-requires-clause-numbered g c =
    c.requires.numbered c.index_mut.result.now (now_there c.self.inside.list.items c.args.self.now c.args.place c.index_mut.result.now c.self.view_is c.requires.there c.index_mut.ensures.value)

pub offer-requires-clause-declared : goal.offer-requires-clause-declared
offer-requires-clause-declared g c =
    c.requires.declared c.index_mut.result.now (now_there c.self.inside.list.items c.args.self.now c.args.place c.index_mut.result.now c.self.view_is c.requires.there c.index_mut.ensures.value)

pub offer-requires-clause-fits : goal.offer-requires-clause-fits
offer-requires-clause-fits g c =
    c.requires.fits c.index_mut.result.now (now_there c.self.inside.list.items c.args.self.now c.args.place c.index_mut.result.now c.self.view_is c.requires.there c.index_mut.ensures.value)

pub returns-clause-ok : goal.returns-clause-ok
returns-clause-ok g c = λ m there.
    let old = c.index_mut.result.now in
    let new = c.offer.new.self in
    let later = slice_set c.self.inside.list.items c.args.place new in
    let is = same_there c.args.self.now c.args.place old m (now_there c.self.inside.list.items c.args.self.now c.args.place old c.self.view_is c.requires.there c.index_mut.ensures.value) there in
    let then : WorldView → WorldView = λ v. happened (offered v c.args.client (record { client = c.args.client; seq = (seat_of v c.args.client).seq + 1; fun = c.args.fun; desc = c.args.desc; args = c.args.args })) in
    ok_so (view_in new ≡ then (view_in old)) (ChangesAt c.args.self.now c.args.place m (then (view_in m)) later) c.offer.result
    (λ view. changed c.args.self.now c.self.inside.list.items c.args.place old new m (then (view_in m)) c.self.view_is there is (view ∙ ap (λ x. then (view_in x)) is) c.offer.ensures.service c.offer.ensures.tables c.offer.ensures.plan)
    c.offer.ensures.ok

pub returns-clause-err : goal.returns-clause-err
returns-clause-err g c = λ m there.
    let old = c.index_mut.result.now in
    let new = c.offer.new.self in
    let later = slice_set c.self.inside.list.items c.args.place new in
    let is = same_there c.args.self.now c.args.place old m (now_there c.self.inside.list.items c.args.self.now c.args.place old c.self.view_is c.requires.there c.index_mut.ensures.value) there in
    err_so (view_in new ≡ happened (view_in old)) (ChangesAt c.args.self.now c.args.place m (happened (view_in m)) later) c.offer.result
    (λ view. changed c.args.self.now c.self.inside.list.items c.args.place old new m (happened (view_in m)) c.self.view_is there is (view ∙ ap (λ x. happened (view_in x)) is) c.offer.ensures.service c.offer.ensures.tables c.offer.ensures.plan)
    c.offer.ensures.err

-- One member changes, and the others stay.
use Rattle.std.proofs.Common.{◌∙◌, ap}
use Rattle.sg_multi.proofs.Places.{changed, now_there, same_there}
use Rattle.sg_multi.specs.Members.{view_in}
use Rattle.sg_sim.specs.sg_clients.WorldView.{happened, with_leave}
use Rattle.sg_multi.proofs.members.Members.leave.Goals as goal

pub leave-requires-clause-client : goal.leave-requires-clause-client
leave-requires-clause-client g c =
    c.requires.client c.index_mut.result.now (now_there c.self.inside.list.items c.args.self.now c.args.place c.index_mut.result.now c.self.view_is c.requires.there c.index_mut.ensures.value)

pub leave-requires-clause-free : goal.leave-requires-clause-free
leave-requires-clause-free g c =
    c.requires.free c.index_mut.result.now (now_there c.self.inside.list.items c.args.self.now c.args.place c.index_mut.result.now c.self.view_is c.requires.there c.index_mut.ensures.value)

pub returns : goal.returns
returns g c = λ m there.
    let old = c.index_mut.result.now in
    let is = same_there c.args.self.now c.args.place old m (now_there c.self.inside.list.items c.args.self.now c.args.place old c.self.view_is c.requires.there c.index_mut.ensures.value) there in
    changed c.args.self.now c.self.inside.list.items c.args.place old c.leave.new.self m (happened (with_leave (view_in m) c.args.client)) c.self.view_is there is
    (c.leave.ensures.view ∙ ap (λ x. happened (with_leave (view_in x) c.args.client)) is) c.leave.ensures.service c.leave.ensures.tables c.leave.ensures.plan

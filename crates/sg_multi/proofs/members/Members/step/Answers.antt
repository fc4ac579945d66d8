-- One member changes, and the others stay.
use Rattle.std.proofs.Common.{refl, subst, slice_set}
use Rattle.sg_multi.proofs.Places.{changed, err_so, now_there, ok_each, same_there}
use Rattle.sg_multi.specs.Members.{ChangesAt, Membered, setting_in, view_in}
use Rattle.sg_sim.specs.sg_clients.WorldView.{WorldView}
use Rattle.sg_sim.specs.sg_world.Steps.{AnswersLast, HasStepped, LackedMemory}
use Rattle.sg_multi.proofs.members.Members.step.Goals as goal

pub step-requires : goal.step-requires
step-requires g c = record {
  client = c.requires.client c.index_mut.result.now (now_there c.self.inside.list.items c.args.self.now c.args.place c.index_mut.result.now c.self.view_is c.requires.there c.index_mut.ensures.value);
}

pub returns-clause-did : goal.returns-clause-did
returns-clause-did g c = λ m there.
    let old = c.index_mut.result.now in
    let new = c.step.new.self in
    let now = view_in new in
    let client = c.args.client in
    let later = slice_set c.self.inside.list.items c.args.place new in
    let is = same_there c.args.self.now c.args.place old m (now_there c.self.inside.list.items c.args.self.now c.args.place old c.self.view_is c.requires.there c.index_mut.ensures.value) there in
    ok_each (λ did. HasStepped (setting_in old) (view_in old) client did now × AnswersLast now client did)
    (λ did. (now : WorldView) × ChangesAt c.args.self.now c.args.place m now later × HasStepped (setting_in m) (view_in m) client did now × AnswersLast now client did)
    c.step.result c.step.ensures.did
    (λ did both. (
      now,
      changed c.args.self.now c.self.inside.list.items c.args.place old new m now c.self.view_is there is refl c.step.ensures.service c.step.ensures.tables c.step.ensures.plan,
      subst (λ (x : Membered). HasStepped (setting_in x) (view_in x) client did now) is both.0,
      both.1,
    ))

pub returns-clause-err : goal.returns-clause-err
returns-clause-err g c = λ m there.
    let old = c.index_mut.result.now in
    let new = c.step.new.self in
    let now = view_in new in
    let client = c.args.client in
    let later = slice_set c.self.inside.list.items c.args.place new in
    let is = same_there c.args.self.now c.args.place old m (now_there c.self.inside.list.items c.args.self.now c.args.place old c.self.view_is c.requires.there c.index_mut.ensures.value) there in
    err_so (LackedMemory (setting_in old) (view_in old) client now) ((now : WorldView) × ChangesAt c.args.self.now c.args.place m now later × LackedMemory (setting_in m) (view_in m) client now) c.step.result
    (λ wants. (
      now,
      changed c.args.self.now c.self.inside.list.items c.args.place old new m now c.self.view_is there is refl c.step.ensures.service c.step.ensures.tables c.step.ensures.plan,
      subst (λ (x : Membered). LackedMemory (setting_in x) (view_in x) client now) is wants,
    )) c.step.ensures.err

-- A step hands a reply over or nothing; after its last reply a client leaves.
use Rattle.std.proofs.Common.{[], Some, slice_set, ◌++◌, ◌-◌, ◌∷◌, ap, subst, sym}
use Rattle.sg_plain.specs.sg_hist.Inside.Reads.{desc_of}
use Rattle.sg_plain.specs.Playing.Given.{given_in}
use Rattle.sg_plain.specs.Playing.Plays.{IsPlaying}
use Rattle.sg_world.specs.declared.did.Did.TheVariants.{Answered}
use Rattle.sg_world.specs.Worlded.{setting_of}
use Rattle.sg_world.specs.sg_world_laws.Setting.{Setting}
use Rattle.sg_world.specs.Steps.{AnswersLast, HasStepped}
use Rattle.sg_play.proofs.Turning.{stepped_handed, stepped_idle, plain_step, stepped_quiet}
use Rattle.sg_play.proofs.turn.make_step.Goals as goal

pub leave_if_done-requires-clause-idle : goal.leave_if_done-requires-clause-idle
leave_if_done-requires-clause-idle g c =
    let z : Setting = setting_of g.S.Service.ask g.S.Service.sound g.S.Service.parts c.args.world.now.tables in
    let w = c.args.world.now.view in
    let now = c.step.new.self.view in
    let x = c.in_ok-reply.ensures in
    let reply = c.in-Answered.reply in
    let stepped : HasStepped z w c.args.client (Answered reply) now = subst (λ d. HasStepped z w c.args.client d now) c.in-Answered.is x.did in
    let answers : AnswersLast now c.args.client (Answered reply) = subst (AnswersLast now c.args.client) c.in-Answered.is x.answers in
    stepped_idle z c.args.script.now w c.requires.playing.0 c.args.client c.requires.client.0 c.requires.client.1 c.requires.setup c.requires.playing.1 reply now stepped answers

pub returns-in-Answered-clause-ok : goal.returns-in-Answered-clause-ok
returns-in-Answered-clause-ok g c = λ all is.
    let z : Setting = setting_of g.S.Service.ask g.S.Service.sound g.S.Service.parts c.args.world.now.tables in
    let w = c.args.world.now.view in
    let now = c.step.new.self.view in
    let x = c.in_ok-reply.ensures in
    let reply = c.in-Answered.reply in
    let stepped : HasStepped z w c.args.client (Answered reply) now = subst (λ d. HasStepped z w c.args.client d now) c.in-Answered.is x.did in
    let answers : AnswersLast now c.args.client (Answered reply) = subst (AnswersLast now c.args.client) c.in-Answered.is x.answers in
    let handed = stepped_handed z c.args.script.now w all c.args.client c.requires.client.0 c.requires.client.1 c.requires.setup is reply now stepped answers in
    let told = slice_set all (c.args.client - 1) (given_in all c.args.client ++ desc_of reply ∷ []) in
    let later = c.leave_if_done.new.world.view in
    let left : IsPlaying c.args.world.now.tables.iface c.args.script.now later.history later.seats told
    = subst (λ i. IsPlaying i c.args.script.now later.history later.seats told) (ap (λ t. t.iface) x.tables)
    (c.leave_if_done.ensures.playing told (subst (λ i. IsPlaying i c.args.script.now now.history now.seats told) (sym (ap (λ t. t.iface) x.tables)) handed)) in
    subst (λ id. IsPlaying c.args.world.now.tables.iface c.args.script.now later.history later.seats (slice_set all (c.args.client - 1) (given_in all c.args.client ++ id ∷ []))) (sym c.desc_of.ensures) left

pub returns-in-Skipped : goal.returns-in-Skipped
returns-in-Skipped g c =
    let z : Setting = setting_of g.S.Service.ask g.S.Service.sound g.S.Service.parts c.args.world.now.tables in
    let x = c.in_ok-reply.ensures in
    let plain = plain_step c.in_ok-reply.field-0 c.in-Skipped.is in
    record {
      steps = record { did = c.in_ok-reply.field-0; later = c.step.new.self.view; stepped = x.did; told = plain.told; is = plain.same c.args.script.now c.args.client c.step.new.self.view };
      wants = tt;
      ok = λ all is. stepped_quiet z c.args.script.now c.args.world.now.view all c.args.client c.requires.client.0 c.requires.client.1 c.requires.setup is c.in_ok-reply.field-0 c.step.new.self.view plain.none x.did;
      err = λ all is. tt;
      tables = x.tables;
      plan = x.plan;
    }

pub returns-in-Answered-clause-steps : goal.returns-in-Answered-clause-steps
returns-in-Answered-clause-steps g c =
    let z : Setting = setting_of g.S.Service.ask g.S.Service.sound g.S.Service.parts c.args.world.now.tables in
    let w = c.args.world.now.view in
    let now = c.step.new.self.view in
    let x = c.in_ok-reply.ensures in
    let reply = c.in-Answered.reply in
    record {
      did = Answered reply;
      later = now;
      stepped = subst (λ d. HasStepped z w c.args.client d now) c.in-Answered.is x.did;
      told = ap (λ id. Some id) c.desc_of.ensures;
      is = c.leave_if_done.ensures.view;
    }

-- A call that the guard refuses is committed.
use Rattle.std.proofs.Common.{◌∙◌, ap, inr, sym}
use Rattle.sg_facts.specs.sg_base.declared.reply.Reply.{Reply}
use Rattle.sg_facts.specs.Guard.{guard}
use Rattle.sg_facts.specs.Object.{Object, object_of}
use Rattle.sg_clients.specs.WorldView.{WorldView, answered_to, committed}
use Rattle.sg_world.specs.Inners.{view_in}
use Rattle.sg_world.specs.Steps.{Refuses, entry_with}
use Rattle.sg_world.specs.Worlded.{setting_of}
use Rattle.sg_world.proofs.inner.Inner.judge.Goals as goal

pub returns-in-Some-clause-did : goal.returns-in-Some-clause-did
returns-in-Some-clause-did g c =
    let x = c.args.self.now in
    let z = setting_of g.S.Service.ask g.S.Service.sound g.S.Service.parts x.engine.tables in
    let w : WorldView = view_in x in
    let o : Object = object_of z.iface.facts w.history in
    let refuses : Refuses z w c.args.client c.refuse.result (view_in c.refuse.new.self) = record {
      phase = c.requires.asks;
      code = c.in-Some.code;
      guarded = ap (guard z.iface o) (sym c.call.ensures) ∙ sym (c.guard.ensures o (sym c.requires.order.world.tracked.rows)) ∙ c.in-Some.is;
      its = c.refuse.ensures.reply;
      now = c.refuse.ensures.view ∙ ap (λ (r : Reply). answered_to (committed z.iface.facts w (entry_with z w c.args.client r)) (entry_with z w c.args.client r)) (sym c.refuse.ensures.reply);
    } in
    inr (inr refuses)

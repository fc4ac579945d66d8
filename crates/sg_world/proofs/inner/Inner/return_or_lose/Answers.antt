-- A client that holds a reply of the running boot returns it.
use Rattle.std.proofs.Common.{◌∙◌, ap, inl, inr, sym}
use Rattle.std.specs.Prelude.{IsSome}
use Rattle.sg_facts.specs.sg_base.declared.reply.Reply.{Reply}
use Rattle.sg_clients.specs.WorldView.{WorldView, answered_to, committed}
use Rattle.sg_world.specs.Inners.{view_in}
use Rattle.sg_world.specs.Steps.{Returns, entry_with}
use Rattle.sg_world.specs.Worlded.{setting_of}
use Rattle.sg_world.proofs.inner.Inner.return_or_lose.Goals as goal

pub returns-then-boot-boot_number-clause-did : goal.returns-then-boot-boot_number-clause-did
returns-then-boot-boot_number-clause-did g c =
    let x = c.args.self.now in
    let z = setting_of g.S.Service.ask g.S.Service.sound g.S.Service.parts x.engine.tables in
    let w : WorldView = view_in x in
    let up : IsSome w.running = sym c.is_up.ensures ∙ c.if-is_up.true in
    let returns : Returns z w c.args.client c.return_held.result (view_in c.return_held.new.self) = record {
      phase = c.requires.held;
      up = up;
      boot = sym c.boot-boot.ensures ∙ c.if-boot-boot_number.true ∙ c.boot_number.ensures;
      its = c.return_held.ensures.reply;
      now = c.return_held.ensures.view ∙ ap (λ (r : Reply). answered_to (committed z.iface.facts w (entry_with z w c.args.client r)) (entry_with z w c.args.client r)) (sym c.return_held.ensures.reply);
    } in
    inr (inl returns)

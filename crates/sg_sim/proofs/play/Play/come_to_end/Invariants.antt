-- What no turn changes, and that there were only turns.
use Rattle.std.proofs.Common.{◌≡◌}
use Rattle.sg_play.specs.sg_world.Worlded.{setting_of}
use Rattle.sg_sim.specs.Playing.{ComesTo}
use Rattle.sg_sim.proofs.play.Play.come_to_end.Given as goal

abbrev pub invariant-loop : goal.invariant-loop
invariant-loop g l =
    (l.self.tables ≡ l.fn.self.tables) × (l.self.script ≡ l.fn.self.script) × (l.self.plan ≡ l.fn.self.plan) × (l.self.in_order ≡ l.fn.self.in_order)
    × ComesTo (setting_of g.S.Service.ask g.S.Service.sound g.S.Service.parts l.fn.self.tables) l.fn.self.script l.fn.self.view l.self.view

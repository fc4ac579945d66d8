-- What no turn changes, and what those of the setup leave.
use Rattle.std.proofs.Common.{◌≡◌, ◌≤◌, ℕ, true, false, length}
use Rattle.sg_play.specs.sg_plain.Playing.Callers.{handed, is_setting_up}
use Rattle.sg_play.specs.sg_plain.Playing.Turns.{is_free_phase}
use Rattle.sg_play.specs.sg_clients.WorldView.{seat_of}
use Rattle.sg_play.specs.sg_world.Worlded.{setting_of}
use Rattle.sg_sim.specs.Playing.{ComesTo}
use Rattle.sg_sim.proofs.play.Play.setup.Given as goal

abbrev pub invariant-loop : goal.invariant-loop
invariant-loop g l =
    (l.self.tables ≡ l.fn.self.tables) × (l.self.script ≡ l.fn.self.script) × (l.self.plan ≡ l.fn.self.plan) × (l.self.in_order ≡ l.fn.self.in_order)
    × (is_setting_up l.fn.self.script l.fn.self.view.seats ≡ false → l.self ≡ l.fn.self)
    × (is_setting_up l.fn.self.script l.fn.self.view.seats ≡ true → handed (seat_of l.self.view 1) ≤ length l.fn.self.script.setup)
    × (is_setting_up l.fn.self.script l.fn.self.view.seats ≡ true → is_setting_up l.self.script l.self.view.seats ≡ false → is_free_phase (seat_of l.self.view 1).phase ≡ true)
    × ((client : ℕ) → 2 ≤ client → seat_of l.self.view client ≡ seat_of l.fn.self.view client)
    × ComesTo (setting_of g.S.Service.ask g.S.Service.sound g.S.Service.parts l.fn.self.tables) l.fn.self.script l.fn.self.view l.self.view

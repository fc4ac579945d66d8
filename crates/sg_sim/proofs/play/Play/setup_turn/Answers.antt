-- Client 1 takes the next turn while the setup goes on.
use Rattle.std.proofs.Common.{ℕ, ap, subst, sym, arith}
use Rattle.sg_play.proofs.Following.Whose.{setup_turn}
use Rattle.sg_play.specs.Following.Stages.{IsNextTurn}
use Rattle.sg_sim.proofs.Beginning.{clients_from_one}
use Rattle.sg_sim.specs.Inside.Next.{stage_now}
use Rattle.sg_sim.specs.Inside.Givens.{lists_of}
use Rattle.sg_sim.specs.Inside.Keeps.{KeepsPlay}
use Rattle.sg_sim.specs.Playing.{Playing}
use Rattle.sg_play.specs.sg_world.Worlded.{setting_of}
use Rattle.sg_sim.proofs.play.Play.setup_turn.Goals as goal

pub returns-clause-last : goal.returns-clause-last
returns-clause-last g c =
    let keeps = subst (λ (q : Playing). KeepsPlay (setting_of g.S.Service.ask g.S.Service.sound g.S.Service.parts q.tables) q.script q.view (lists_of c.self.inside.given) q.passed q.last q.in_order) c.self.view_is c.self.invariant in
    omega (arith, keeps.playing.clients, clients_from_one 0 c.args.self.now.script.clients keeps.playing.playable.clients)

pub returns-clause-next : goal.returns-clause-next
returns-clause-next g c =
    let p = c.args.self.now in
    subst (λ (n : ℕ). IsNextTurn p.script (stage_now p) 1 n) (sym (ap (λ (q : Playing). q.passed) c.self.view_is)) (setup_turn p.script p.view p.passed p.last c.requires)

-- Client 1 was given as many ids as replies were handed over to it.
use Rattle.std.proofs.Common.{length, ◌∙◌, ap, subst, arith, ◌≡◌, ◌≤◌, nat_lt}
use Rattle.sg_play.specs.sg_plain.Playing.Callers.{handed, is_setting_up}
use Rattle.sg_play.specs.sg_clients.WorldView.{seat_in}
use Rattle.sg_sim.proofs.Beginning.{clients_from_one, given_count}
use Rattle.sg_sim.proofs.Lists.{length_lists}
use Rattle.sg_sim.specs.Inside.Givens.{lists_of}
use Rattle.sg_sim.specs.Playing.{Playing}
use Rattle.sg_sim.proofs.play.Play.is_setting_up.Goals as goal

pub of-requires : goal.of-requires
of-requires g c =
    let is = c.self.invariant.playing in
    record {
      client = (
        omega arith,
        omega (arith, is.have_given.clients, is.clients, length_lists c.self.inside.given, clients_from_one 0 c.self.inside.script.clients is.playable.clients),
      );
    }

pub returns : goal.returns
returns g c =
    let x = c.self.inside in
    let is = c.self.invariant.playing in
    let some : 1 ≤ length x.world.view.seats = omega (arith, is.clients, clients_from_one 0 x.script.clients is.playable.clients) in
    let own = ap length c.of.ensures ∙ given_count x.world.tables.iface x.script x.world.view.history x.world.view.seats (lists_of x.given) is 1 (omega arith) some in
    subst (λ (q : Playing). nat_lt (length c.of.result.now) c.len.result ≡ is_setting_up q.script q.view.seats) c.self.view_is
    (ap (λ n. nat_lt n c.len.result) own ∙ ap (nat_lt (handed (seat_in x.world.view.seats 1))) c.len.ensures)

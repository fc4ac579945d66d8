-- A world keeps what it keeps where a reply is lost.
use Rattle.std.proofs.Common.{ap, length, arith, ◌∙◌, ◌-◌}
use Rattle.sg_clients.specs.WorldView.{seat_in}
use Rattle.sg_clients.specs.declared.phase.Phase.TheVariants.{Asked}
use Rattle.sg_world.proofs.Rooming.{length_set}
use Rattle.sg_world.specs.Inners.{rooms_in, view_in}
use Rattle.sg_world.specs.Worlded.{setting_of}
use Rattle.sg_world.proofs.Handing.{lost_on}
use Rattle.sg_world.proofs.inner.Inner.lose.Goals as goal

pub returns-clause-order : goal.returns-clause-order
returns-clause-order g c =
    let x = c.args.self.now in
    record {
      world = lost_on (setting_of g.S.Service.ask g.S.Service.sound g.S.Service.parts x.engine.tables) x.engine (view_in x) (rooms_in x) (rooms_in x) c.requires.order.world c.args.client c.requires.client.0 c.requires.client.1
          c.requires.held c.requires.gone c.lose.new.self c.lose.ensures;
      points = record { asked_so = c.requires.order.points.asked_so; struck_so = c.requires.order.points.struck_so; tested = c.requires.order.points.tested };
      clients = (let same = ap length c.lose.ensures ∙ length_set x.clients (c.args.client - 1) (record (seat_in x.clients c.args.client) { phase = Asked }) in let was = c.requires.order.clients in omega (arith, same, was));
      service = c.requires.order.service;
    }

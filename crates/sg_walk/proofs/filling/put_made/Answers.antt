-- The first arrivals have the least walks of their creation, and no others.
use Rattle.std.proofs.Common.{◌≡◌, ◌<◌, ◌^◌, sym, ap, subst, arith}
use Rattle.sg_facts.specs.Interface.{Declared}
use Rattle.sg_walk.specs.LeastWalks.{IsTheWalk, walk_at}
use Rattle.sg_walk.specs.Inside.Arrivals.{first_walk}
use Rattle.sg_walk.proofs.Putting.{others_stay, own_put}
use Rattle.sg_walk.proofs.FirstArrivals.{the_walk}
use Rattle.sg_walk.proofs.filling.put_made.Goals as goal

pub returns-clause-others : goal.returns-clause-others
returns-clause-others c m s k apart =
    others_stay c.args.made m (walk_at c.args.walks.now m s k) (walk_at c.put_all.new.walks m s k) (first_walk c.args.iface.now (record { state = s; mask = k }) c.in_ok-found.found)
    apart (c.in_ok-put_all.ensures m s k)

pub returns-clause-own : goal.returns-clause-own
returns-clause-own c s k none =
    let same : c.iface.inside.declared ≡ c.args.iface.now.declared = ap (λ (i : Declared). i.declared) c.iface.view_is in
    let small : c.args.iface.now.declared < 2 ^ 32 = omega arith in
    subst (IsTheWalk c.args.iface.now c.args.made s k)
    (sym (own_put c.args.made (walk_at c.args.walks.now c.args.made s k) (walk_at c.put_all.new.walks c.args.made s k) (first_walk c.args.iface.now (record { state = s; mask = k }) c.in_ok-found.found)
    none (c.in_ok-put_all.ensures c.args.made s k)))
    (the_walk c.args.iface.now c.args.made s k c.in_ok-found.found small c.in_ok-found.ensures)

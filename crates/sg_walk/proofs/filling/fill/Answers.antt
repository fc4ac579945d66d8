-- Creation after creation.
use Rattle.std.proofs.Common.{◌≡◌, ◌<◌, ◌^◌, sym, ap, subst, inl, inr, arith}
use Rattle.std.proofs.lemmas.Bool.{cases_lt}
use Rattle.sg_facts.specs.Interface.{Declared}
use Rattle.sg_walk.specs.LeastWalks.{IsTheWalk}
use Rattle.sg_walk.proofs.Putting.{done_more, due_more}
use Rattle.sg_walk.proofs.FirstArrivals.{no_walk_of}
use Rattle.sg_walk.proofs.Orders.{undeclared, zero_undeclared}
use Rattle.sg_walk.proofs.filling.fill.Goals as goal

pub made-init : goal.made-init
made-init c =
    let same : c.iface.inside.declared ≡ c.args.iface.now.declared = ap (λ (i : Declared). i.declared) c.iface.view_is in
    let small : c.args.iface.now.declared < 2 ^ 32 = omega arith in
    record {
      done = λ m s k low.
          subst (IsTheWalk c.args.iface.now m s k) (sym (c.requires.none m s k)) (no_walk_of c.args.iface.now m s k small (zero_undeclared c.args.iface.now m low));
      due = λ m s k past. c.requires.none m s k;
    }

pub made-preserved : goal.made-preserved
made-preserved c = record {
  done = done_more c.args.iface.now c.made.made c.made.walks c.put_made.new.walks c.in_ok-put_made.ensures.others c.in_ok-put_made.ensures.own c.made.invariant.done c.made.invariant.due;
  due = due_more c.made.made c.made.walks c.put_made.new.walks c.in_ok-put_made.ensures.others c.made.invariant.due;
}

pub returns : goal.returns
returns c m s k =
    let same : c.iface.inside.declared ≡ c.args.iface.now.declared = ap (λ (i : Declared). i.declared) c.iface.view_is in
    let small : c.args.iface.now.declared < 2 ^ 32 = omega arith in
    elim (cases_lt m 33) [
      | inl low ↦ c.made.invariant.done m s k (omega (arith, low))
      | inr high ↦
          subst (IsTheWalk c.args.iface.now m s k) (sym (c.made.invariant.due m s k (omega (arith, high)))) (no_walk_of c.args.iface.now m s k small (undeclared c.args.iface.now m small high))
    ]

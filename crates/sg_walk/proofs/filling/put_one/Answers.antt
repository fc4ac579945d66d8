-- Set after set.
use Rattle.std.proofs.Common.{◌≡◌, ◌+◌, ◌^◌, length, sym, ◌∙◌, ap, subst, arith}
use Rattle.std.specs.Option.{option_or}
use Rattle.sg_walk.specs.LeastWalks.{walk_at}
use Rattle.sg_walk.proofs.Putting.{put_all, put_below, put_more, put_none, put_same}
use Rattle.sg_walk.proofs.filling.put_one.Goals as goal
use Rattle.sg_walk.proofs.filling.put_one.Goals.{then-is_goal+in_ok-put, else-is_goal}

pub masks-init : goal.masks-init
masks-init c m s k = put_none c.args.iface.now c.args.made c.args.spot c.args.walk (walk_at c.args.walks.now m s k) m s k

pub masks-preserved : goal.masks-preserved
masks-preserved c m s k = elim c.if-is_goal.branch [
  | then-is_goal+in_ok-put w ↦
      subst (λ l. walk_at l m s k ≡ option_or (walk_at c.args.walks.now m s k) (put_below c.args.iface.now c.args.made c.args.spot c.args.walk (c.masks.number + 1) m s k)) (sym w.walks-is)
      (put_more c.args.iface.now c.args.made c.args.spot c.args.walk c.masks.number m s k (walk_at c.args.walks.now m s k) (walk_at c.masks.walks m s k) (walk_at w.put.new.self m s k)
      (sym c.is_goal.ensures ∙ w.if-is_goal.true) (c.masks.invariant m s k) (w.in_ok-put.ensures.ok m s k))
  | else-is_goal w ↦
      subst (λ l. walk_at l m s k ≡ option_or (walk_at c.args.walks.now m s k) (put_below c.args.iface.now c.args.made c.args.spot c.args.walk (c.masks.number + 1) m s k)) (sym w.walks-is)
      (put_same c.args.iface.now c.args.made c.args.spot c.args.walk c.masks.number m s k (walk_at c.args.walks.now m s k) (walk_at c.masks.walks m s k)
      (sym c.is_goal.ensures ∙ w.if-is_goal.false) (c.masks.invariant m s k))
]

pub returns : goal.returns
returns c m s k =
    let last : c.masks.number ≡ c.set_count-number-end.result = omega (arith, c.masks-test.false, c.masks.auto.number-end) in
    let end : c.masks.number ≡ 2 ^ length c.args.iface.now.facts.fields = last ∙ c.set_count-number-end.ensures.value ∙ ap (λ n. 2 ^ n) c.field_count.ensures in
    put_all c.args.iface.now c.args.made c.args.spot c.args.walk c.masks.number m s k (walk_at c.args.walks.now m s k) (walk_at c.masks.walks m s k)
    (omega (arith, end)) (c.masks.invariant m s k)

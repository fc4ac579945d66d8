-- Function after function.
use Rattle.std.proofs.Common.{◌≡◌, ◌<◌, ◌^◌, ap, arith}
use Rattle.sg_facts.specs.Interface.{Declared}
use Rattle.sg_walk.proofs.GoingOn.{all_tried, passed, tried_more}
use Rattle.sg_walk.proofs.arriving.add_next.Goals as goal

pub funs-init : goal.funs-init
funs-init c = λ made done at was. (was, at)

pub funs-preserved : goal.funs-preserved
funs-preserved c = λ made done at was.
    let so_far = c.funs.invariant made done at was in
    tried_more c.args.iface.now made done c.funs.fun c.args.spot c.args.walk c.funs.found so_far.1 so_far.0 c.add_by.new.found (omega (arith, c.len.ensures)) c.in_ok-add_by.ensures

pub returns : goal.returns
returns c = λ made done at was.
    let same : c.iface.inside.declared ≡ c.args.iface.now.declared = ap (λ (i : Declared). i.declared) c.iface.view_is in
    let small : c.args.iface.now.declared < 2 ^ 32 = omega arith in
    let so_far = c.funs.invariant made done at was in
    passed c.args.iface.now made done c.funs.fun c.args.spot c.args.walk c.funs.found (omega arith) so_far.1
    (λ few. all_tried c.args.iface.now made done c.funs.fun c.args.spot c.args.walk c.funs.found small (omega arith) so_far.1 so_far.0) so_far.0

pub returns-then-len-ge-MOST : goal.returns-then-len-ge-MOST
returns-then-len-ge-MOST c = λ made done at was.
    passed c.args.iface.now made done 1 c.args.spot c.args.walk c.args.found.now (omega arith) at (λ few. absurd (omega (arith, few, c.len.ensures))) was

-- Function by function.
use Rattle.std.proofs.Common.{◌≡◌, ℕ, ◌+◌, ◌<◌, true, sym, ◌∙◌, subst}
use Rattle.std.specs.Prelude.{◌↔◌}
use Rattle.sg_check.specs.Inside.Numbers.{GainsNumber, has_number}
use Rattle.sg_check.specs.Inside.Reached.{is_unreached}
use Rattle.sg_check.proofs.Calls.{more_marked, more_passed, none_marked}
use Rattle.sg_check.proofs.reached.unreached_in.Goals.{then-is_unreached+in_ok-add, else-is_unreached}
use Rattle.sg_check.proofs.reached.unreached_in.Goals as goal

pub funs-init : goal.funs-init
funs-init c = none_marked (λ fun. is_unreached c.args.iface.now c.args.states.now fun) c.new-unreached.result c.new-unreached.ensures

pub funs-preserved : goal.funs-preserved
funs-preserved c = elim c.if-is_unreached.branch [
  | then-is_unreached+in_ok-add w ↦
      more_marked (λ fun. is_unreached c.args.iface.now c.args.states.now fun) c.funs.fun c.funs.unreached c.funs.invariant c.if-is_unreached.unreached
      (subst (λ l. GainsNumber c.funs.unreached l c.funs.fun) (sym w.unreached-is) (subst (GainsNumber c.funs.unreached w.add.new.self) w.from.ensures w.in_ok-add.ensures.ok))
      (sym c.is_unreached.ensures ∙ w.if-is_unreached.true)
  | else-is_unreached w ↦
      subst (λ l. (fun : ℕ) → (has_number l fun ≡ true) ↔ ((fun < c.funs.fun + 1) × (is_unreached c.args.iface.now c.args.states.now fun ≡ true))) (sym w.unreached-is)
      (more_passed (λ fun. is_unreached c.args.iface.now c.args.states.now fun) c.funs.fun c.funs.unreached c.funs.invariant (sym c.is_unreached.ensures ∙ w.if-is_unreached.false))
]

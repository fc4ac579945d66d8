-- Where a function is no declared creation, nothing begins by it.
use Rattle.std.proofs.Common.{◌≡◌, true, false, ◌∙◌, sym, ap}
use Rattle.sg_facts.specs.Facts.{fun_of_shape}
use Rattle.sg_walk.specs.ReachedStates.Inside.Places.{IsMadeAt}
use Rattle.sg_walk.proofs.ReachedStates.Adding.{adds_none}
use Rattle.sg_walk.proofs.ReachedStates.Leading.{adds_begins}
use Rattle.sg_walk.proofs.closing.add_begins.Goals as goal
use Rattle.sg_walk.proofs.closing.add_begins.Goals.{else-declares-via-then-declares+else-is_creation, else-declares-via-else-declares}

pub returns-else-declares : goal.returns-else-declares
returns-else-declares c = adds_none (IsMadeAt c.args.iface.now c.args.made) c.args.found.now (λ q is. elim c.else-declares.branch [
  | else-declares-via-then-declares+else-is_creation w ↦
      let no : false ≡ true = sym w.if-is_creation.false ∙ w.is_creation.ensures ∙ ap (λ f. f.creation) c.fun-fun.ensures ∙ is.creation in cc no
  | else-declares-via-else-declares w ↦ let no : false ≡ true = sym w.if-declares.false ∙ c.declares.ensures ∙ is.declared in cc no
])

pub returns-in_ok-add_led : goal.returns-in_ok-add_led
returns-in_ok-add_led c =
    adds_begins c.args.iface.now c.args.made (fun_of_shape c.fun-fun.result) c.field_count.result c.state_after-state.result c.args.found.now c.add_led.new.found
    c.fun-fun.ensures c.field_count.ensures c.state_after-state.ensures (sym c.declares.ensures ∙ c.if-declares.true) (sym c.is_creation.ensures ∙ c.if-is_creation.true) c.in_ok-add_led.ensures

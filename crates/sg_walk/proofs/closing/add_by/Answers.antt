-- An end leads nowhere, and any other function by its effects.
use Rattle.std.proofs.Common.{◌≡◌, true, false, ◌∙◌, sym, ap}
use Rattle.sg_facts.specs.Facts.{fun_of_shape}
use Rattle.sg_walk.specs.ReachedStates.Inside.Places.{LeadsBy}
use Rattle.sg_walk.proofs.ReachedStates.Adding.{adds_none}
use Rattle.sg_walk.proofs.ReachedStates.Leading.{adds_by}
use Rattle.sg_walk.proofs.closing.add_by.Goals as goal

pub returns-in_ok-add_led : goal.returns-in_ok-add_led
returns-in_ok-add_led c =
    adds_by c.args.iface.now c.args.fun c.args.place (fun_of_shape c.fun-called.result) c.field_count.result c.state_after-state.result c.args.found.now c.add_led.new.found
    c.fun-called.ensures c.field_count.ensures c.state_after-state.ensures c.requires.moves (sym c.is_terminal.ensures ∙ c.if-not-is_terminal.true) c.in_ok-add_led.ensures

pub returns-else-not-is_terminal : goal.returns-else-not-is_terminal
returns-else-not-is_terminal c = adds_none (LeadsBy c.args.iface.now c.args.fun c.args.place) c.args.found.now (λ q is.
    let no : true ≡ false = sym c.if-not-is_terminal.false ∙ c.is_terminal.ensures ∙ ap (λ f. f.terminal) c.fun-called.ensures ∙ is.goes_on in cc no)

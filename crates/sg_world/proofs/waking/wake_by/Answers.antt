-- Whoever waits is woken as the world says.
use Rattle.std.proofs.Common.{◌≡◌, List, map, true, false, cond, ap, refl, sym, ◌∙◌, ◌||◌, ◌&&◌, ◌==◌}
use Rattle.sg_facts.specs.Facts.{Fun, fun_at}
use Rattle.sg_clients.specs.WorldView.{Seat, woken_seat}
use Rattle.sg_world.proofs.Wakes.{and_both, and_not_first, and_not_second, is_gone, on_false, on_true, or_first, or_none, or_second, answered_ok, refused_wakes, woken_by}
use Rattle.sg_world.proofs.waking.wake_by.Goals.{then-wakes, then-wakes-via-then-wakes, then-wakes-via-else-wakes+then-is_terminal, else-wakes+else-is_terminal, else-is_terminal-2-via-then-is_terminal-2+else-interface, else-is_terminal-2-via-else-is_terminal-2}
use Rattle.sg_world.proofs.waking.wake_by.Goals as goal

pub returns-then-is_refusal : goal.returns-then-is_refusal
returns-then-is_refusal g c = λ rows call reply is_fun is_desc is_refused tracked waits.
    refused_wakes c.args.engine.now.tables.iface.facts rows call reply c.args.clients.now (is_refused ∙ c.if-is_refusal.true)

pub returns-then-interface : goal.returns-then-interface
returns-then-interface g c = λ rows call reply is_fun is_desc is_refused tracked waits.
    let facts = c.args.engine.now.tables.iface.facts in
    let good = answered_ok reply (is_refused ∙ c.if-is_refusal.false) in
    let seats : List Seat = c.args.clients.now in
    let f : Fun = fun_at facts.funs call.fun in
    let told = c.fun-fun.ensures ∙ ap (λ i. fun_at i.facts.funs c.args.fun) c.interface-interface.ensures ∙ ap (fun_at facts.funs) (sym is_fun) in
    let wakes : c.wakes.result ≡ f.wakeup = c.wakes.ensures ∙ ap (λ x. x.wakeup) told in
    let ends : f.terminal ≡ true = sym (c.is_terminal-2.ensures ∙ ap (λ x. x.terminal) told) ∙ c.if-is_terminal-2.true in
    let under : facts.subtree ≡ true = sym (ap (λ i. i.facts.subtree) (c.interface.view_is ∙ c.interface-interface.ensures)) ∙ c.if-interface.true in
    let one : c.if-wakes.clients ≡ cond (f.wakeup || f.terminal) (map (woken_seat (λ x. call.desc == x.desc)) seats) seats
    = on_true (f.wakeup || f.terminal) c.if-wakes.clients (map (woken_seat (λ x. call.desc == x.desc)) seats) seats (or_second f.wakeup f.terminal ends)
    (elim c.if-wakes.branch [
      | then-wakes w ↦ w.clients-is ∙ w.wake.ensures ∙ ap (λ d. map (woken_seat (λ x. d == x.desc)) seats) (sym is_desc)
      | else-wakes+else-is_terminal w ↦ absurd (let wrong : true ≡ false = sym ends ∙ sym (w.is_terminal.ensures ∙ ap (λ x. x.terminal) told) ∙ w.if-is_terminal.false in cc wrong)
    ]) in
    woken_by facts rows c.args.engine.now.tracked.rows call reply seats c.if-wakes.clients c.wake_where.new.self good.0 good.1 tracked waits one
    (on_true (f.terminal && facts.subtree) c.wake_where.new.self (map (woken_seat (λ x. is_gone c.args.engine.now.tracked.rows x.desc)) c.if-wakes.clients) c.if-wakes.clients (and_both f.terminal facts.subtree ends under)
    (c.wake_where.ensures (λ d. is_gone c.args.engine.now.tracked.rows d) (λ id passes answers. answers)))

pub returns-else-is_terminal-2 : goal.returns-else-is_terminal-2
returns-else-is_terminal-2 g c = λ rows call reply is_fun is_desc is_refused tracked waits.
    let facts = c.args.engine.now.tables.iface.facts in
    let good = answered_ok reply (is_refused ∙ c.if-is_refusal.false) in
    let seats : List Seat = c.args.clients.now in
    let f : Fun = fun_at facts.funs call.fun in
    let told = c.fun-fun.ensures ∙ ap (λ i. fun_at i.facts.funs c.args.fun) c.interface-interface.ensures ∙ ap (fun_at facts.funs) (sym is_fun) in
    let wakes : c.wakes.result ≡ f.wakeup = c.wakes.ensures ∙ ap (λ x. x.wakeup) told in
    let none : (f.terminal && facts.subtree) ≡ false
    = elim c.else-is_terminal-2.branch [
      | else-is_terminal-2-via-then-is_terminal-2+else-interface w ↦ and_not_second f.terminal facts.subtree (sym (ap (λ i. i.facts.subtree) (c.interface.view_is ∙ c.interface-interface.ensures)) ∙ w.if-interface.false)
      | else-is_terminal-2-via-else-is_terminal-2 w ↦ and_not_first f.terminal facts.subtree (sym (c.is_terminal-2.ensures ∙ ap (λ x. x.terminal) told) ∙ w.if-is_terminal-2.false)
    ] in
    let one : c.if-wakes.clients ≡ cond (f.wakeup || f.terminal) (map (woken_seat (λ x. call.desc == x.desc)) seats) seats
    = elim c.if-wakes.branch [
      | then-wakes w ↦ on_true (f.wakeup || f.terminal) c.if-wakes.clients (map (woken_seat (λ x. call.desc == x.desc)) seats) seats
          (elim w.then-wakes.branch [
            | then-wakes-via-then-wakes x ↦ or_first f.wakeup f.terminal (sym wakes ∙ x.if-wakes.true)
            | then-wakes-via-else-wakes+then-is_terminal x ↦ or_second f.wakeup f.terminal (sym (x.is_terminal.ensures ∙ ap (λ y. y.terminal) told) ∙ x.if-is_terminal.true)
          ])
          (w.clients-is ∙ w.wake.ensures ∙ ap (λ d. map (woken_seat (λ x. d == x.desc)) seats) (sym is_desc))
      | else-wakes+else-is_terminal w ↦ on_false (f.wakeup || f.terminal) c.if-wakes.clients (map (woken_seat (λ x. call.desc == x.desc)) seats) seats
          (or_none f.wakeup f.terminal (sym wakes ∙ w.if-wakes.false) (sym (w.is_terminal.ensures ∙ ap (λ y. y.terminal) told) ∙ w.if-is_terminal.false)) w.clients-is
    ] in
    woken_by facts rows c.args.engine.now.tracked.rows call reply seats c.if-wakes.clients c.if-wakes.clients good.0 good.1 tracked waits one
    (on_false (f.terminal && facts.subtree) c.if-wakes.clients (map (woken_seat (λ x. is_gone c.args.engine.now.tracked.rows x.desc)) c.if-wakes.clients) c.if-wakes.clients none refl)

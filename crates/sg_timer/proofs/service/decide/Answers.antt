-- What is done with a call is right.
use Rattle.std.proofs.Common.{◌≡◌, ◌≤◌, true, sym, ◌∙◌, ap, subst, arith}
use Rattle.std.specs.Prelude.{◌==◌}
use Rattle.std.specs.List.{list_any}
use Rattle.std.specs.Option.{is_some}
use Rattle.sg_facts.specs.Facts.{fun_at}
use Rattle.sg_facts.specs.Kinds.{kinds_fit}
use Rattle.sg_facts.specs.Track.{arg_at, word_of}
use Rattle.sg_slots.specs.Slots.{entry_at, rows_of}
use Rattle.sg_slots.proofs.Deciding.{by_fun}
use Rattle.sg_slots.proofs.Rows.{is_live-rows_of}
use Rattle.sg_timer.specs.TimerFacts.{timer_facts}
use Rattle.sg_timer.specs.TimerTable.{timer_table, timer_parts, tag_of}
use Rattle.sg_timer.specs.TimerRow.{timer_body}
use Rattle.sg_timer.specs.Inside.TimerDecision.{on_create, on_tick, on_timer_wait, on_place, on_skip, on_free}
use Rattle.sg_timer.proofs.Decisions.{on_timer, create_right, first_right, tick_right, wait_right, place_right, skip_right, free_right}
use Rattle.sg_timer.proofs.service.decide.Goals as goal

pub unreachable-requires : goal.unreachable-requires
unreachable-requires c =
    let call = c.args.call.now in
    let last : call.fun ≤ 7 = c.requires.is_call.last in
    let live = c.requires.desc (on_timer call.fun c.if-call-eq-CREATE.false c.if-call-eq-FIRST.false c.requires.is_call.first last) in
    let there : is_some (entry_at c.args.queue.now.entries call.desc) ≡ true = sym (is_live-rows_of timer_body c.args.queue.now.entries call.desc) ∙ live in
    let none = ap is_some c.in-None.ensures.entry ∙ there in
    cc none

pub returns-then-call-eq-CREATE : goal.returns-then-call-eq-CREATE
returns-then-call-eq-CREATE c =
    let call = c.args.call.now in
    let held = c.args.queue.now in
    let fits : kinds_fit (fun_at timer_facts.funs 1).kinds call.args ≡ true = subst (λ f. kinds_fit (fun_at timer_facts.funs f).kinds call.args ≡ true) c.if-call-eq-CREATE.true c.requires.is_call.fits.args in
    let rows = rows_of timer_body held.entries in
    by_fun timer_facts timer_table timer_parts timer_body held call 1 c.create.result _ c.if-call-eq-CREATE.true
    (c.create.ensures
    ∙ ap (λ n. on_create call.client n c.number-tag.result (list_any (λ r. tag_of r == c.number-tag.result) rows)) c.number-period.ensures
    ∙ ap (λ n. on_create call.client (word_of (arg_at call 0)) n (list_any (λ r. tag_of r == n) rows)) c.number-tag.ensures)
    (create_right held call.client call.seq call.desc call.args fits)

pub returns-then-call-eq-FIRST : goal.returns-then-call-eq-FIRST
returns-then-call-eq-FIRST c =
    let call = c.args.call.now in
    let held = c.args.queue.now in
    by_fun timer_facts timer_table timer_parts timer_body held call 5 c.first.result _ c.if-call-eq-FIRST.true c.first.ensures (first_right held call.client call.seq call.desc call.args)

pub returns-in-2 : goal.returns-in-2
returns-in-2 c =
    let call = c.args.call.now in
    let held = c.args.queue.now in
    by_fun timer_facts timer_table timer_parts timer_body held call 2 c.tick.result _ c.in-2.is (c.tick.ensures ∙ ap (on_tick c.in-Some.timer.now) c.number.ensures)
    (tick_right held call.client call.seq call.desc call.args c.get.ensures.ascending c.in-Some.timer.now (sym c.in-Some.ensures.entry))

pub returns-in-3 : goal.returns-in-3
returns-in-3 c =
    let call = c.args.call.now in
    let held = c.args.queue.now in
    by_fun timer_facts timer_table timer_parts timer_body held call 3 c.wait.result (on_timer_wait c.in-Some.timer.now) c.in-3.is c.wait.ensures
    (wait_right held call.client call.seq call.desc call.args c.get.ensures.ascending c.in-Some.timer.now (sym c.in-Some.ensures.entry))

pub returns-in-4 : goal.returns-in-4
returns-in-4 c =
    let call = c.args.call.now in
    let held = c.args.queue.now in
    let fits : kinds_fit (fun_at timer_facts.funs 4).kinds call.args ≡ true = subst (λ f. kinds_fit (fun_at timer_facts.funs f).kinds call.args ≡ true) c.in-4.is c.requires.is_call.fits.args in
    by_fun timer_facts timer_table timer_parts timer_body held call 4 c.place.result _ c.in-4.is (c.place.ensures ∙ ap (on_place c.in-Some.timer.now) c.number-in-4.ensures)
    (place_right held call.client call.seq call.desc call.args c.get.ensures.ascending c.in-Some.timer.now (sym c.in-Some.ensures.entry) fits)

pub returns-in-6 : goal.returns-in-6
returns-in-6 c =
    let call = c.args.call.now in
    let held = c.args.queue.now in
    by_fun timer_facts timer_table timer_parts timer_body held call 6 c.skip.result (on_skip c.in-Some.timer.now) c.in-6.is c.skip.ensures
    (skip_right held call.client call.seq call.desc call.args c.get.ensures.ascending c.in-Some.timer.now (sym c.in-Some.ensures.entry))

pub returns-in_default : goal.returns-in_default
returns-in_default c =
    let call = c.args.call.now in
    let held = c.args.queue.now in
    let last : call.fun ≤ 7 = c.requires.is_call.last in
    let is : call.fun ≡ 7 = omega (arith, last, c.requires.is_call.first) in
    by_fun timer_facts timer_table timer_parts timer_body held call 7 c.free.result (on_free c.in-Some.timer.now call.client) is c.free.ensures
    (free_right held call.client call.seq call.desc call.args c.get.ensures.ascending c.in-Some.timer.now (sym c.in-Some.ensures.entry))

-- The next after the client of the last turn, and then from 1 on.
use Rattle.std.proofs.Common.{◌∙◌, ap, arith, subst, sym}
use Rattle.sg_multi.specs.sg_sim.sg_plain.Calls.{most_client}
use Rattle.sg_multi.specs.Inside.Turns.{IsFirstAfter, NoneAfter, TakesNextTurn}
use Rattle.sg_multi.proofs.EndLists.{nobody}
use Rattle.sg_multi.proofs.NextTurn.{from_around, from_after}
use Rattle.sg_multi.proofs.whose.next_in_circle.Goals as goal

pub next_after-requires-clause-last : goal.next_after-requires-clause-last
next_after-requires-clause-last g c = omega (arith, c.most_client-clients.ensures ∙ ap most_client c.as_slice.ensures)

pub next_after-requires-2-clause-last : goal.next_after-requires-2-clause-last
next_after-requires-2-clause-last g c = c.requires.keeps.last_there

pub returns-in-Some-clause-first : goal.returns-in-Some-clause-first
returns-in-Some-clause-first g c = omega (arith, c.in-Some.ensures.found.above)

pub returns-in-Some-clause-last : goal.returns-in-Some-clause-last
returns-in-Some-clause-last g c = omega (arith, c.in-Some.ensures.found.within, c.most_client-clients.ensures ∙ ap most_client c.as_slice.ensures)

pub returns-in-Some-clause-next : goal.returns-in-Some-clause-next
returns-in-Some-clause-next g c =
    let s = c.args.script.now in
    let r = c.args.running.now in
    let clients = c.most_client-clients.ensures ∙ ap most_client c.as_slice.ensures in
    subst (TakesNextTurn s r c.in-Some.client) (sym c.len-passed.ensures)
    (from_after s r c.requires.keeps c.requires.settled c.requires.none c.in-Some.client (subst (λ n. IsFirstAfter s r r.last n c.in-Some.client) clients c.in-Some.ensures.found))

pub returns-in-Some-next_after-clause-first : goal.returns-in-Some-next_after-clause-first
returns-in-Some-next_after-clause-first g c = omega (arith, c.in-Some-next_after.ensures.found.above)

pub returns-in-Some-next_after-clause-last : goal.returns-in-Some-next_after-clause-last
returns-in-Some-next_after-clause-last g c = omega (arith, c.in-Some-next_after.ensures.found.within, c.requires.keeps.last_there)

pub returns-in-Some-next_after-clause-next : goal.returns-in-Some-next_after-clause-next
returns-in-Some-next_after-clause-next g c =
    let s = c.args.script.now in
    let r = c.args.running.now in
    let clients = c.most_client-clients.ensures ∙ ap most_client c.as_slice.ensures in
    subst (TakesNextTurn s r c.in-Some-next_after.client) (sym c.len-passed.ensures)
    (from_around s r c.requires.keeps c.requires.settled c.requires.none c.in-Some-next_after.client (subst (NoneAfter s r r.last) clients (c.next_after.ensures.none c.in_default.is)) c.in-Some-next_after.ensures.found)

pub returns-in-None-clause-over : goal.returns-in-None-clause-over
returns-in-None-clause-over g c = λ none.
    let r = c.args.running.now in
    let clients = c.most_client-clients.ensures ∙ ap most_client c.as_slice.ensures in
    nobody c.args.script.now r r.last (subst (NoneAfter c.args.script.now r r.last) clients (c.next_after.ensures.none c.in_default.is)) (c.next_after-2.ensures.none c.in-None.is)

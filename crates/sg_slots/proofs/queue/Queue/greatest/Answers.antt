-- The greatest key has the greatest first number.
use Rattle.std.proofs.Common.{Some, subst, sym}
use Rattle.sg_slots.specs.Orders.{IsGreatest}
use Rattle.sg_slots.proofs.Told.{greatest_told, nothing_told, no_keys}
use Rattle.sg_slots.proofs.queue.Queue.greatest.Goals as goal

pub returns-in_err-last-clause-greatest : goal.returns-in_err-last-clause-greatest
returns-in_err-last-clause-greatest g c =
    let q = c.self.inside in
    let order = g.E.Queued.second_order in
    let empty = no_keys q.indexes.seconds.keys c.in_err-last.ensures.variant.1 in
    subst (λ held. IsGreatest order held.entries c.from_residual.result) c.self.view_is
    (subst (λ r. IsGreatest order q.entries.entries r) (sym c.from_residual.ensures) (nothing_told order q.entries.entries q.indexes.seconds c.self.invariant.in_second empty))

pub returns-clause-greatest : goal.returns-clause-greatest
returns-clause-greatest g c =
    let q = c.self.inside in
    let order = g.E.Queued.second_order in
    subst (λ held. IsGreatest order held.entries (Some c.in_ok-last.field-0.now.first)) c.self.view_is
    (greatest_told order q.entries.entries q.indexes.seconds c.self.invariant.in_second c.in_ok-last.field-0.now c.in_ok-last.ensures.member c.in_ok-last.ensures.greatest)

-- The least key is that of the entry that goes first.
use Rattle.std.proofs.Common.{Some, subst, sym}
use Rattle.sg_slots.specs.Orders.{IsFirst}
use Rattle.sg_slots.proofs.Told.{first_told, none_told, no_keys}
use Rattle.sg_slots.proofs.queue.Queue.first.Goals as goal

pub returns-in_err-first-clause-first : goal.returns-in_err-first-clause-first
returns-in_err-first-clause-first g c =
    let q = c.self.inside in
    let order = g.E.Queued.first_order in
    let empty = no_keys q.indexes.firsts.keys c.in_err-first.ensures.variant.1 in
    subst (λ held. IsFirst order held.entries c.from_residual.result) c.self.view_is
    (subst (λ r. IsFirst order q.entries.entries r) (sym c.from_residual.ensures) (none_told order q.entries.entries q.indexes.firsts c.self.invariant.in_first empty))

pub returns-clause-first : goal.returns-clause-first
returns-clause-first g c =
    let q = c.self.inside in
    let order = g.E.Queued.first_order in
    subst (λ held. IsFirst order held.entries (Some c.in_ok-first.field-0.now.id)) c.self.view_is
    (first_told order q.entries.entries q.indexes.firsts c.self.invariant.in_first c.in_ok-first.field-0.now c.in_ok-first.ensures.member c.in_ok-first.ensures.least)

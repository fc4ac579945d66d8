-- The orders are those of the entries before, or after the change.
use Rattle.std.proofs.Common.{true, sym, ◌∙◌, subst}
use Rattle.sg_facts.specs.Invoke.{Points}
use Rattle.sg_slots.specs.Carry.{held_after}
use Rattle.sg_slots.specs.Inside.QueueIndex.{IsIndexed, stands, in_all, Grows, MayGrow}
use Rattle.sg_slots.proofs.Changes.{after_reply, on_err, on_ok, both_settled, both_undone}
use Rattle.sg_slots.proofs.queue.Queue.apply.Goals as goal

pub invariant_of-self : goal.invariant_of-self
invariant_of-self g c =
    let order = g.E.Queued.first_order in
    let numbers = g.E.Queued.second_order in
    let q = c.self.inside in
    let change = c.change_of-change.result in
    let failed = sym c.is_err.ensures.value ∙ c.if-is_err.true in
    both_undone order numbers q.entries change.id change.before change.after q.indexes c.prepare.new.self c.settle.new.self c.self.invariant c.change_of-change.ensures.was
    (on_err c.prepare.result (MayGrow (stands order) change.id change.after q.indexes.firsts c.prepare.new.self.firsts) failed c.prepare.ensures.some_firsts)
    (on_err c.prepare.result (MayGrow (stands (in_all numbers)) change.id change.after q.indexes.seconds c.prepare.new.self.seconds) failed c.prepare.ensures.some_seconds)
    c.settle.ensures.firsts c.settle.ensures.seconds

pub invariant_of-self-in-Replied : goal.invariant_of-self-in-Replied
invariant_of-self-in-Replied g c =
    let order = g.E.Queued.first_order in
    let numbers = g.E.Queued.second_order in
    let q = c.self.inside in
    let change = c.change_of-change.result in
    let done = sym c.is_err.ensures.value ∙ c.if-is_err.false in
    let before : Points = record { asked = g.T.Stops.asked c.args.stops.now; struck = g.T.Stops.struck c.args.stops.now } in
    let later : Points = record { asked = g.T.Stops.asked c.carry_out.new.stops; struck = g.T.Stops.struck c.carry_out.new.stops } in
    let changed = after_reply q.entries c.args.id c.args.decision before c.in-Replied.reply c.in-Replied.patch c.carry_out.new.slots later c.in-Replied.ensures.outcome in
    subst (λ held. IsIndexed order numbers held c.settle-in-Replied.new.self.firsts c.settle-in-Replied.new.self.seconds) (sym changed)
    (both_settled order numbers q.entries (held_after q.entries c.args.id c.args.decision) change.id change.before change.after q.indexes c.prepare.new.self c.settle-in-Replied.new.self c.self.invariant
    c.change_of-change.ensures.stays c.change_of-change.ensures.was c.change_of-change.ensures.becomes
    (on_ok c.prepare.result (Grows (stands order) change.id change.after q.indexes.firsts c.prepare.new.self.firsts true) done c.prepare.ensures.firsts)
    (on_ok c.prepare.result (Grows (stands (in_all numbers)) change.id change.after q.indexes.seconds c.prepare.new.self.seconds true) done c.prepare.ensures.seconds)
    c.settle-in-Replied.ensures.firsts c.settle-in-Replied.ensures.seconds)

pub invariant_of-self-in-Blocks : goal.invariant_of-self-in-Blocks
invariant_of-self-in-Blocks g c =
    let order = g.E.Queued.first_order in
    let numbers = g.E.Queued.second_order in
    let q = c.self.inside in
    let change = c.change_of-change.result in
    let done = sym c.is_err.ensures.value ∙ c.if-is_err.false in
    subst (λ held. IsIndexed order numbers held c.settle-in-Blocks.new.self.firsts c.settle-in-Blocks.new.self.seconds) (sym c.in-Blocks.ensures.outcome.1.same)
    (both_undone order numbers q.entries change.id change.before change.after q.indexes c.prepare.new.self c.settle-in-Blocks.new.self c.self.invariant c.change_of-change.ensures.was
    (true, on_ok c.prepare.result (Grows (stands order) change.id change.after q.indexes.firsts c.prepare.new.self.firsts true) done c.prepare.ensures.firsts)
    (true, on_ok c.prepare.result (Grows (stands (in_all numbers)) change.id change.after q.indexes.seconds c.prepare.new.self.seconds true) done c.prepare.ensures.seconds)
    c.settle-in-Blocks.ensures.firsts c.settle-in-Blocks.ensures.seconds)

pub invariant_of-self-in-NoMemory : goal.invariant_of-self-in-NoMemory
invariant_of-self-in-NoMemory g c =
    let order = g.E.Queued.first_order in
    let numbers = g.E.Queued.second_order in
    let q = c.self.inside in
    let change = c.change_of-change.result in
    let done = sym c.is_err.ensures.value ∙ c.if-is_err.false in
    subst (λ held. IsIndexed order numbers held c.settle-in-NoMemory.new.self.firsts c.settle-in-NoMemory.new.self.seconds) (sym c.in-NoMemory.ensures.outcome.same)
    (both_undone order numbers q.entries change.id change.before change.after q.indexes c.prepare.new.self c.settle-in-NoMemory.new.self c.self.invariant c.change_of-change.ensures.was
    (true, on_ok c.prepare.result (Grows (stands order) change.id change.after q.indexes.firsts c.prepare.new.self.firsts true) done c.prepare.ensures.firsts)
    (true, on_ok c.prepare.result (Grows (stands (in_all numbers)) change.id change.after q.indexes.seconds c.prepare.new.self.seconds true) done c.prepare.ensures.seconds)
    c.settle-in-NoMemory.ensures.firsts c.settle-in-NoMemory.ensures.seconds)

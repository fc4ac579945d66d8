-- A number is in the second order just where an entry has it.
use Rattle.std.proofs.Common.{◌∙◌, ap}
use Rattle.std.specs.Prelude.{◌==◌}
use Rattle.std.specs.List.{list_any}
use Rattle.sg_slots.proofs.Told.{has_told}
use Rattle.sg_slots.proofs.queue.Queue.has.Goals as goal

pub returns : goal.returns
returns g c =
    let q = c.self.inside in
    let order = g.E.Queued.second_order in
    has_told order q.entries.entries q.indexes.seconds c.self.invariant.in_second 0 q.entries.given c.args.number c.has_first.result c.self.invariant.ids c.has_first.ensures.found c.has_first.ensures.none
    ∙ ap (λ held. list_any (λ e. (order e.1).first == c.args.number) held.entries) c.self.view_is

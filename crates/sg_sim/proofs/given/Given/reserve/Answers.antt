-- The lists stay.
use Rattle.std.proofs.Common.{ℕ, ◌-◌, ◌∙◌, ap}
use Rattle.sg_facts.specs.sg_base.Room.{Roomy}
use Rattle.sg_sim.proofs.Lists.{reserved}
use Rattle.sg_sim.specs.Inside.Givens.{lists_of}
use Rattle.sg_sim.proofs.given.Given.reserve.Goals as goal

pub returns-clause-lists : goal.returns-clause-lists
returns-clause-lists c =
    reserved c.self.inside.lists.items (c.from.result - 1) _ c.reserve.new.self (c.reserve.ensures.items ∙ ap (λ (l : Roomy ℕ). l.items) c.index_mut.ensures.value) ∙ ap lists_of c.self.view_is

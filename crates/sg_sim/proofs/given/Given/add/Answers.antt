-- The client's list has one more.
use Rattle.std.proofs.Common.{[], ℕ, List, length, ◌<◌, ◌-◌, ◌++◌, ◌∷◌, ◌∙◌, ap, arith, slice_set}
use Rattle.sg_facts.specs.sg_base.Room.{Roomy}
use Rattle.sg_play.specs.sg_plain.Playing.Given.{given_in}
use Rattle.sg_sim.proofs.Lists.{added}
use Rattle.sg_sim.specs.Inside.Givens.{lists_of}
use Rattle.sg_sim.proofs.given.Given.add.Goals as goal

pub returns : goal.returns
returns c =
    let lists = c.self.inside.lists.items in
    let within : c.from.result - 1 < length lists = omega (arith, c.requires.client.0, c.requires.client.1, c.from.ensures, ap (λ (l : List (Roomy ℕ)). length l) c.self.view_is) in
    added lists c.args.client (c.from.result - 1) c.args.id _ c.add.new.self (ap (λ n. n - 1) c.from.ensures) within
    (c.add.ensures.items ∙ ap (λ (l : Roomy ℕ). l.items ++ c.args.id ∷ []) c.index_mut.ensures.value)
    ∙ ap (λ (l : List (Roomy ℕ)). slice_set (lists_of l) (c.args.client - 1) (given_in (lists_of l) c.args.client ++ c.args.id ∷ [])) c.self.view_is

-- Transition by transition.
use Rattle.std.proofs.Common.{◌≡◌, ◌+◌, ◌∙◌, true, take, get_or, sym, subst}
use Rattle.std.proofs.lemmas.List.{take_all}
use Rattle.sg_facts.specs.Interface.{has_pair}
use Rattle.sg_walk.specs.ReachedStates.Inside.Places.{AddsJust}
use Rattle.sg_walk.proofs.ReachedStates.Moves.{IsNextIn, next_more, next_same, next_all, pair_at}
use Rattle.sg_walk.proofs.closing.add_next.Goals as goal
use Rattle.sg_walk.proofs.closing.add_next.Goals.{then-state-place+in_ok-add_by, else-state-place}

pub add_by-requires-clause-moves : goal.add_by-requires-clause-moves
add_by-requires-clause-moves c =
    subst (λ m. has_pair m c.args.place.state (get_or c.args.moves.now c.moves.state-index (0, 0)).1 ≡ true) c.requires.moves
    (pair_at c.args.moves.now c.args.place.state c.moves.state-index c.moves-test.true c.if-state-place.true)

pub moves-preserved : goal.moves-preserved
moves-preserved c =
    elim c.if-state-place.branch [
      | then-state-place+in_ok-add_by w ↦ subst (AddsJust (IsNextIn c.args.iface.now (take (c.moves.state-index + 1) c.args.moves.now) c.args.place) c.args.found.now) (sym w.found-is)
          (next_more c.args.iface.now c.args.moves.now c.args.place c.moves.state-index c.args.found.now c.moves.found w.add_by.new.found c.moves-test.true w.if-state-place.true c.moves.invariant w.in_ok-add_by.ensures)
      | else-state-place w ↦ subst (AddsJust (IsNextIn c.args.iface.now (take (c.moves.state-index + 1) c.args.moves.now) c.args.place) c.args.found.now) (sym w.found-is)
          (next_same c.args.iface.now c.args.moves.now c.args.place c.moves.state-index c.args.found.now c.moves.found c.moves-test.true w.if-state-place.false c.moves.invariant)
    ]

pub returns : goal.returns
returns c = next_all c.args.iface.now c.args.moves.now c.args.place (take c.moves.state-index c.args.moves.now) c.args.found.now c.moves.found (take_all c.moves.state-index c.args.moves.now c.moves-test.false ∙ c.requires.moves) c.moves.invariant

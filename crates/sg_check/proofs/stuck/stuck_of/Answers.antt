-- Triple by triple.
use Rattle.std.proofs.Common.{sym, ◌+◌, take, subst}
use Rattle.sg_check.specs.Inside.Numbers.{GainsNumber}
use Rattle.sg_check.specs.Inside.Stuck.{HasSought}
use Rattle.sg_check.proofs.Seeking.{all_sought, sought_stuck, sought_walk}
use Rattle.sg_check.proofs.stuck.stuck_of.Goals.{then-not-has_walk+in_ok-add, else-not-has_walk}
use Rattle.sg_check.proofs.stuck.stuck_of.Goals as goal

pub triples-preserved : goal.triples-preserved
triples-preserved c = elim c.if-not-has_walk.branch [
  | then-not-has_walk+in_ok-add w ↦
      sought_stuck c.args.triples.now c.triples.triple-index _ c.triples-test.true c.args.iface.now c.requires.all c.triples.stuck c.triples.invariant c.if-not-has_walk.stuck c.has_walk.result
      w.if-not-has_walk.true (c.has_walk.ensures c.args.iface.now c.in_ok-walks.ensures)
      (subst (λ l. GainsNumber c.triples.stuck l _) (sym w.stuck-is) (subst (GainsNumber c.triples.stuck w.add.new.self) w.from.ensures w.in_ok-add.ensures.ok))
  | else-not-has_walk w ↦
      subst (HasSought c.args.iface.now (take (c.triples.triple-index + 1) c.args.triples.now)) (sym w.stuck-is)
      (sought_walk c.args.triples.now c.triples.triple-index _ c.triples-test.true c.args.iface.now c.requires.all c.triples.stuck c.triples.invariant c.has_walk.result
      w.if-not-has_walk.false (c.has_walk.ensures c.args.iface.now c.in_ok-walks.ensures))
]

pub returns : goal.returns
returns c = all_sought c.args.iface.now c.args.triples.now c.triples.stuck c.triples.triple-index c.requires.all c.triples-test.false c.triples.invariant

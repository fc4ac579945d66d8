-- The shape is one; what isn't told of a walk is that it begins with what can't be done again.
use Rattle.std.proofs.Common.{sym, subst, ◌∙◌}
use Rattle.std.specs.Prelude.{OnOk}
use Rattle.sg_explain.specs.sg_facts.Facts.{facts_of}
use Rattle.sg_own.proofs.Itself.{fits_itself}
use Rattle.sg_judge.specs.Inside.Told.{TellsWalkMore}
use Rattle.sg_judge.proofs.Parts.{on_ok}
use Rattle.sg_judge.proofs.Walking.{found_fault, stuck_fault, tells_external, tells_stuck}
use Rattle.sg_judge.proofs.reasons.put_walk_more.Goals.{in-Ok, in-Err-NoMemory, in-Err-Fault}
use Rattle.sg_judge.proofs.reasons.put_walk_more.Goals as goal

pub check-requires : goal.check-requires
check-requires c = fits_itself c.args.tree.now (facts_of c.in_ok-shape.shape) c.requires.0.shape c.in_ok-shape.ensures

pub put_stuck-requires-clause-shapes : goal.put_stuck-requires-clause-shapes
put_stuck-requires-clause-shapes c = fits_itself c.args.tree.now (facts_of c.in_ok-shape.shape) c.requires.0.shape c.in_ok-shape.ensures

pub put_stuck-requires-clause-fault : goal.put_stuck-requires-clause-fault
put_stuck-requires-clause-fault c =
    let tree = c.args.tree.now in
    let facts = facts_of c.in_ok-shape.shape in
    let fault = c.in-Err-Fault.field-0-0 in
    stuck_fault tree c.args.at facts c.in_ok-shape.ensures c.requires fault.kind fault.at
    (found_fault tree c.args.at facts c.in_ok-shape.ensures c.in-Err-Fault.field-0 fault c.in-Err-Fault.field-0-is c.in-Err-Fault.ensures.answer)

pub returns : goal.returns
returns c =
    let tree = c.args.tree.now in
    let at = c.args.at in
    let facts = facts_of c.in_ok-shape.shape in
    let its = c.in_ok-shape.ensures in
    let old = c.args.out.now in
    let new = c.match-check.out in
    elim c.match-check.branch [
      | in-Ok w ↦ subst (λ r. OnOk r (TellsWalkMore tree at old new)) (sym w.result-is)
          (on_ok w.put.result (λ e. tells_external tree at facts its old new w.in-Ok.field-0 w.in-Ok.ensures.answer (w.out-is ∙ e)) w.put.ensures)
      | in-Err-NoMemory w ↦ subst (λ r. OnOk r (TellsWalkMore tree at old new)) (sym w.result-is) tt
      | in-Err-Fault w ↦
          let fault = w.in-Err-Fault.field-0-0 in
          let found = found_fault tree at facts its w.in-Err-Fault.field-0 fault w.in-Err-Fault.field-0-is w.in-Err-Fault.ensures.answer in
          subst (λ r. OnOk r (TellsWalkMore tree at old new)) (sym w.result-is)
          (on_ok w.put_stuck.result (λ s. tells_stuck tree at facts its old new (stuck_fault tree at facts its c.requires fault.kind fault.at found) (s.0, s.1, w.out-is ∙ s.2)) w.put_stuck.ensures)
    ]

-- The trace of the second member has an item of client 2 before the last of the setup.
use Rattle.std.proofs.Common.{◌≡◌, [], arith, false, refl, subst, true, ap}
use Rattle.std.specs.Prelude.{slice_get}
use Rattle.sg_multi.proofs.Merging.{at_mapped}
use Rattle.sg_multi.specs.Calls.{setup_at}
use Rattle.sg_multi.specs.sg_sim.sg_play.sg_hist.declared.ended.Ended.{Ended}
use Rattle.sg_plain.specs.Promises.{IsSetupFirst}
use Rattle.test_recovery.specs.EventRuns.{event_stubs}
use Rattle.test_recovery.specs.sg_facts.Trace.{run_of}
use Rattle.test_plays.specs.SeveralPlays.{setup_of_two}
use Rattle.test_plays.specs.StopPlays.{turn_in_setup}
use Rattle.test_plays.proofs.several.setup_at_member.Goals as goal

false_true : false ≡ true → ⊥
false_true e = absurd cc

pub returns-clause-first : goal.returns-clause-first
returns-clause-first c = record { done = omega arith; items = refl }

pub returns-clause-wrong : goal.returns-clause-wrong
returns-clause-wrong c = λ k.
    let found = at_mapped (λ (e : Ended). run_of e.trace) k.came.members 1 turn_in_setup (ap (λ l. slice_get l 1) k.runs_are) in
    let setup = (k.play.each 1 event_stubs [] found.0 refl refl found.1).0.setup in
    false_true (subst (IsSetupFirst (setup_at 2 setup_of_two) found.0.history.items) found.2 setup).items

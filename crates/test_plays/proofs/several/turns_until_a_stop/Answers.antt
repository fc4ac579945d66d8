-- In the play without stops client 2's call is the first entry, whatever the number of turns.
use Rattle.std.proofs.Common.{◌≡◌, ◌≢◌, ℕ, zero, suc, ◌+◌, ◌≤◌, List, [], ◌∷◌, Some, length, refl, sym, ◌∙◌, ap, subst, arith, take}
use Rattle.std.specs.Prelude.{slice_get}
use Rattle.std.specs.Option.{option_map_or}
use Rattle.sg_multi.proofs.Merging.{at_mapped}
use Rattle.sg_multi.specs.Merged.{MultiEntry}
use Rattle.sg_multi.specs.Played.{AreBeforeStops, first_boot_entries}
use Rattle.sg_multi.specs.SeveralServices.{multi_workload, several_services}
use Rattle.sg_multi.specs.sg_sim.sg_plain.Plain.{Stage, first_stage, next_stage, stage_from}
use Rattle.sg_multi.specs.sg_sim.sg_play.sg_hist.Recovered.{Stubs, struck_in}
use Rattle.sg_multi.specs.sg_sim.sg_play.sg_hist.declared.ended.Ended.{Ended}
use Rattle.test_recovery.specs.LockRuns.{lock_stubs}
use Rattle.test_recovery.specs.sg_facts.Trace.{Run, run_of}
use Rattle.test_plays.specs.SeveralPlays.{CameTo, entries_after, out_of_turn, out_of_turn_run, second_makes_first}
use Rattle.test_plays.proofs.several.turns_until_a_stop.Goals as goal

-- the client of the first entry, 0 where there is none
abbrev first_client : List MultiEntry → ℕ
first_client es = option_map_or (λ (e : MultiEntry). e.entry.call.client) (slice_get es 0) 0

abbrev stage : ℕ → Stage MultiEntry
stage turns = stage_from (several_services (lock_stubs ∷ []) second_makes_first) (multi_workload second_makes_first) (first_stage (multi_workload second_makes_first)) turns

-- the play is over after four turns
over : (more : ℕ) → stage_from (several_services (lock_stubs ∷ []) second_makes_first) (multi_workload second_makes_first) (stage 4) more ≡ stage 4
over zero = refl
over (suc more) =
    let same : next_stage (several_services (lock_stubs ∷ []) second_makes_first) (multi_workload second_makes_first) (stage 4) ≡ stage 4 = refl in
    ap (λ s. stage_from (several_services (lock_stubs ∷ []) second_makes_first) (multi_workload second_makes_first) s more) same ∙ over more

never_one : (turns : ℕ) → first_client (take 1 (entries_after (lock_stubs ∷ []) second_makes_first turns)) ≢ 1
never_one zero is = cc is
never_one (suc zero) is = cc is
never_one (suc (suc zero)) is = cc is
never_one (suc (suc (suc zero))) is = cc is
never_one (suc (suc (suc (suc more)))) is =
    let two : 2 ≡ 1 = sym (ap (λ (s : Stage MultiEntry). first_client (take 1 s.history)) (over more)) ∙ is in cc two

pub returns-clause-begins : goal.returns-clause-begins
returns-clause-begins c = λ n. refl

pub returns-clause-wrong : goal.returns-clause-wrong
returns-clause-wrong c = λ k same.
    let before : AreBeforeStops (lock_stubs ∷ []) k.came.members k.play.merged 1 = subst (λ l. AreBeforeStops (lock_stubs ∷ []) k.came.members l 1) (sym same) (by k) in
    let begins = k.play.begins 1 before in
    never_one begins.0 (ap first_client (sym begins.1 ∙ ap (take 1) same))
  where
    at : (s : Stubs) → lock_stubs ≡ s → (r : Run) → r ≡ out_of_turn_run → 1 ≤ length (first_boot_entries s 1 r out_of_turn)
    at s its r is = subst (λ x. 1 ≤ length (first_boot_entries x 1 r out_of_turn)) its (subst (λ y. 1 ≤ length (first_boot_entries lock_stubs 1 y out_of_turn)) (sym is) (let two : 1 ≤ 2 = omega arith in two))

    by : (k : CameTo (lock_stubs ∷ []) second_makes_first (out_of_turn_run ∷ [])) → AreBeforeStops (lock_stubs ∷ []) k.came.members out_of_turn 1
    by k zero s e member there struck =
        let found = at_mapped (λ (x : Ended). run_of x.trace) k.came.members 0 out_of_turn_run (ap (λ l. slice_get l 0) k.runs_are) in
        let both : Some found.0 ≡ Some e = sym found.1 ∙ there in
        let its : found.0 ≡ e = cc both in
        at s (cc member) (run_of e.trace) (ap (λ (x : Ended). run_of x.trace) (sym its) ∙ found.2)
    by k (suc place) s e member there struck = absurd (cc member)

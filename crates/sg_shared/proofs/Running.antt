-- What a play promises is what is said of a run.
use Rattle.std.proofs.Common.{◌≡◌, ℕ, ◌<◌, true, cond, List, [], ◌∷◌, Ok, Err, filter, refl, ◌∙◌, ap, subst, arith}
use Rattle.std.specs.Result.{IfOk}
use Rattle.std.specs.declared.result.Result.{Result}
use Rattle.std.specs.Prelude.{◌&&◌, nat_le}
use Rattle.std.proofs.lemmas.Bool.Decides.{nat_tests}
use Rattle.sg_edge.specs.Stops.{AscendsAbove, up_to}
use Rattle.sg_facts.specs.Interface.{Declared}
use Rattle.sg_facts.specs.Tables.{AreTables}
use Rattle.sg_facts.specs.Trace.{run_of}
use Rattle.sg_facts.specs.declared.tables.WalkLine.{WalkLine}
use Rattle.sg_sim.specs.sg_plain.sg_hist.declared.ended.Ended.{Ended}
use Rattle.sg_sim.specs.sg_plain.sg_script.declared.script.Script.{Script}
use Rattle.sg_shared.specs.Inside.Played.{IsPlayedOn}
use Rattle.sg_shared.specs.Runs.{IsRunInOrder, IsRunOf}
use Rattle.sg_sim.specs.sg_plain.Answering.{Answering}
use Rattle.sg_sim.specs.Played.{FollowsSchedule, IsPlayed}

-- stops that ascend are the listed ones up to a point
listed : (low : ℕ) (stops : List ℕ) (points : ℕ) → AscendsAbove low stops → up_to points stops ≡ filter (λ stop. nat_le stop points) stops
listed low [] points ascend = refl
listed low (n ∷ stops) points ascend =
    ap (λ b. cond (b && nat_le n points) (n ∷ up_to points stops) (up_to points stops)) (from_one n low ascend.0)
    ∙ ap (λ l. cond (nat_le n points) (n ∷ l) l) (listed n stops points ascend.1)
  where
    from_one : (n low : ℕ) → low < n → nat_le 1 n ≡ true
    from_one n low above = grind (arith, nat_tests)

run_so : (i : Declared) (service : Answering) (walks : List WalkLine) (script : Script) (ended : Ended) → AreTables i walks → AscendsAbove 0 script.stops
    → IsPlayed (record { interface = i; ask = service.ask; parts = service.parts; walks = walks }) (λ asked struck plan. struck ≡ up_to asked plan) script script.stops ended
    → IsRunOf i service script ended
run_so i service walks script ended tables ascend played = record {
  legal = played.legal;
  calls = played.calls;
  setup = played.setup;
  recovered = (walks, tables, played.recovered);
  stops = played.stops ∙ listed 0 script.stops _ ascend;
  ends = played.ends;
  woken = played.woken;
}

-- a play under the interface of tables is one by these tables
pub by_tables : {E : Type 0} (i j : Declared) (service : Answering) (walks : List WalkLine) (script : Script) (r : Result Ended E) → j ≡ i → AreTables i walks
    → IfOk r (IsPlayed (record { interface = j; ask = service.ask; parts = service.parts; walks = walks }) (λ asked struck plan. struck ≡ up_to asked plan) script script.stops)
    → IfOk r (IsPlayedOn i service script)
by_tables i j service walks script (Ok ended) same tables played = (
  walks,
  tables,
  subst (λ v. IsPlayed (record { interface = v; ask = service.ask; parts = service.parts; walks = walks }) (λ asked struck plan. struck ≡ up_to asked plan) script script.stops ended) same played,
)
by_tables i j service walks script (Err e) same tables played = tt

-- a play by the tables of an interface is a run
pub is_run : {E : Type 0} (i : Declared) (service : Answering) (script : Script) (r : Result Ended E) → AscendsAbove 0 script.stops → IfOk r (IsPlayedOn i service script)
    → IfOk r (IsRunOf i service script)
is_run i service script (Ok ended) ascend on = run_so i service on.0 script ended on.1 ascend on.2
is_run i service script (Err e) ascend on = tt

-- a play in one thread is a run that follows the play without stops
pub in_order : {E : Type 0} (i : Declared) (service : Answering) (script : Script) (r : Result Ended E) → AscendsAbove 0 script.stops → IfOk r (IsPlayedOn i service script)
    → IfOk r (λ ended. FollowsSchedule i service.ask script (run_of ended.trace) ended.history.items) → IfOk r (IsRunInOrder i service script)
in_order i service script (Ok ended) ascend on follows = (run_so i service on.0 script ended on.1 ascend on.2, follows)
in_order i service script (Err e) ascend on follows = tt

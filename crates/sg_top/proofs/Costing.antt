-- What a play of an input costs: its replayed calls are few, and what is asked for of a run whose costs are told.
use Rattle.std.proofs.Common.{◌≡◌, ◌≤◌, [], List, true, length, subst}
use Rattle.sg_cost.proofs.Few.Bounds.{are_few}
use Rattle.sg_cost.proofs.Scripted.{scripts_are_calls, scripts_are_clients, scripts_few, scripts_numbered}
use Rattle.sg_cost.specs.Costs.{IsClients, most_entries}
use Rattle.sg_multi.specs.sg_facts.Allowed.{is_allowed}
use Rattle.sg_multi.specs.sg_facts.Interface.{Declared}
use Rattle.sg_multi.specs.sg_facts.Tables.{AreTables}
use Rattle.sg_multi.specs.sg_facts.Trace.{run_of}
use Rattle.sg_multi.specs.sg_facts.declared.tables.WalkLine.{WalkLine}
use Rattle.sg_judge.specs.sg_input.sg_script.declared.script.Script.{Script}
use Rattle.sg_load.specs.Services.{answering, standard}
use Rattle.sg_load.specs.declared.kind.ServiceKind.{ServiceKind}
use Rattle.sg_load.specs.sg_plain.Playing.Playable.{IsPlayable}
use Rattle.sg_verify.specs.sg_report.sg_hist.Recovered.{Stubs, waiting}
use Rattle.sg_verify.specs.sg_report.sg_hist.Ending.{HasRecovered}
use Rattle.sg_verify.specs.sg_report.sg_hist.declared.ended.Ended.{Ended}
use Rattle.sg_explore.specs.sg_shared.Runs.{IsRunOf}
use Rattle.sg_load.specs.sg_plain.Answering.{Answering}
use Rattle.sg_multi.specs.Serving.{IsOfServed, answering_at}
use Rattle.sg_top.specs.Headline.{HasFewReplays}
use Rattle.sg_judge.proofs.sg_input.sg_stub.OneTable.{one_table}
use Rattle.sg_top.proofs.EachKind.{allowed_standard}
use Rattle.sg_top.proofs.Serving.{allowed_served}
use Rattle.sg_multi.specs.declared.served.Served.{Served}
use Rattle.sg_top.specs.Inside.Plays.{IsPlayOf}
use Rattle.sg_verify.specs.sg_report.sg_hist.Clients.{AreNumbered}
use Rattle.sg_multi.specs.sg_facts.sg_base.Lists.{Each}

-- the replayed calls of a play are few
few_of : (i : Declared) (service : Answering) (script : Script) (ended : Ended) → IsPlayable i script → is_allowed i.facts ≡ true → IsRunOf i service script ended → HasFewReplays i ended
few_of i service script ended playable allowed run =
    let walks = run.recovered.0 in
    let stubs : Stubs = record { interface = i; ask = service.ask; parts = service.parts; walks = walks } in (
      walks,
      run.recovered.1,
      are_few stubs ended.history.items (run_of ended.trace) (waiting ended.ends) run.recovered.2.recovered allowed
          (scripts_numbered i script ended.history.items playable run.calls) (scripts_are_calls i script ended.history.items playable run.calls run.recovered.2.tables.fits),
    )

pub few_replays : (i : Declared) (served : Served) (script : Script) (ended : Ended) → IsPlayable i script → IsOfServed i served → IsRunOf i (answering_at served) script ended → HasFewReplays i ended
few_replays i served script ended playable of = few_of i (answering_at served) script ended playable (allowed_served i served of)

pub few_of_load : (kind : ServiceKind) (script : Script) (ended : Ended) → IsPlayable (standard kind) script → IsRunOf (standard kind) (answering kind) script ended → HasFewReplays (standard kind) ended
few_of_load kind script ended playable = few_of (standard kind) (answering kind) script ended playable (allowed_standard kind)

-- what is asked of a run whose costs are told, by its tables
module _ (i : Declared) (walks : List WalkLine) (service : Answering) (ended : Ended) (are : AreTables i walks) (play : IsPlayOf i service ended) where
  pub recovered_by : HasRecovered (record { interface = i; ask = service.ask; parts = service.parts; walks = walks }) ended.history.items (run_of ended.trace) ended.ends
  recovered_by =
      subst (λ w. HasRecovered (record { interface = i; ask = service.ask; parts = service.parts; walks = w }) ended.history.items (run_of ended.trace) ended.ends)
      (one_table i play.2.recovered.0 walks play.2.recovered.1 are) play.2.recovered.2

  pub numbered_by : AreNumbered [] ended.history.items
  numbered_by = scripts_numbered i play.0 ended.history.items play.1 play.2.calls

  pub clients_by : Each (λ e. IsClients i.facts e.call) ended.history.items
  clients_by = scripts_are_clients i play.0 ended.history.items play.1 play.2.calls play.2.recovered.2.tables.fits

  pub few_by : length ended.history.items ≤ most_entries
  few_by = scripts_few i play.0 ended.history.items play.1 play.2.calls

-- No boot needs more than its bound.
use Rattle.std.proofs.Common.{◌≡◌, ℕ, ◌≤◌, true, List, [], ◌∷◌, ◌++◌, IfOk, Result, Ok, Err, append_assoc, refl, subst, sym, ◌∙◌}
use Rattle.sg_cost.proofs.Few.Bounds.{are_few}
use Rattle.sg_cost.specs.Costs.{IsClients, boot_costs, costs_at, AreFewInEach}
use Rattle.sg_cost.specs.declared.costs.Costs.{Costs}
use Rattle.sg_facts.specs.Allowed.{is_allowed}
use Rattle.sg_facts.specs.Kinds.{IsCall}
use Rattle.sg_facts.specs.Interface.{Declared}
use Rattle.sg_facts.specs.Trace.{Boot, Run}
use Rattle.sg_facts.specs.declared.entry.Entry.{Entry}
use Rattle.sg_facts.specs.declared.tables.WalkLine.{WalkLine}
use Rattle.sg_facts.specs.sg_base.Lists.{Each}
use Rattle.sg_report.specs.sg_hist.Recovered.{Stubs, waiting}
use Rattle.sg_report.specs.sg_hist.Ending.{HasRecovered}
use Rattle.sg_report.specs.sg_hist.declared.ended.End.{End}
use Rattle.sg_report.specs.sg_hist.Clients.{AreNumbered}

module _ (i : Declared) (walks : List WalkLine) (history : List Entry) (run : Run) (few : AreFewInEach i walks history run) where
  along : (before boots : List Boot) → run.boots ≡ before ++ boots → Each (λ b. b.walks ≤ b.bound) (boot_costs i.facts walks history before boots)
  along before [] is = tt
  along before (b ∷ boots) is = ((few before b boots is).all, along (before ++ b ∷ []) boots (is ∙ sym (append_assoc before (b ∷ []) boots)))

  pub within_bounds : Each (λ b. b.walks ≤ b.bound) (boot_costs i.facts walks history [] run.boots)
  within_bounds = along [] run.boots refl

  pub costs_within : {E : Type 0} (result : Result Costs E) → IfOk result (λ costs. costs ≡ costs_at i walks history run) → IfOk result (λ costs. Each (λ b. b.walks ≤ b.bound) costs.boots)
  costs_within (Err e) is = tt
  costs_within (Ok costs) is = subst (λ c. Each (λ b. b.walks ≤ b.bound) c.boots) (sym is) within_bounds

-- where each call of a history is a client's, replayed calls are few
pub few_in_each : (s : Stubs) (history : List Entry) (run : Run) (ends : List (ℕ × End)) → HasRecovered s history run ends → is_allowed s.interface.facts ≡ true → AreNumbered [] history
    → Each (λ e. IsClients s.interface.facts e.call) history → AreFewInEach s.interface s.walks history run
few_in_each s history run ends recovered allowed numbered calls before b later boots = are_few s history run (waiting ends) recovered.recovered allowed numbered (are_calls history calls) before b later boots
  where
    are_calls : (es : List Entry) → Each (λ e. IsClients s.interface.facts e.call) es → Each (λ e. IsCall s.interface.facts e.call) es
    are_calls [] made = tt
    are_calls (e ∷ es) made = (made.0.0, are_calls es made.1)

-- What is done to a cell keeps what it says of its service.
use Rattle.std.proofs.Common.{◌≡◌, ◌≢◌, ℕ, List, [], None, Some, refl, sym, ◌∙◌, ap, subst, true, false, rules, if◌then◌else◌}
use Rattle.std.specs.Prelude.{IsSome}
use Rattle.sg_facts.specs.sg_base.declared.call.Call.{Call}
use Rattle.sg_boot.proofs.LastBoot.{begun_booted, begun_noted, begun_struck, items_booted, items_noted, stop_booted, stop_noted, stop_struck, stopped_at_end}
use Rattle.sg_boot.specs.Cells.{IsCell}
use Rattle.sg_boot.specs.Invoking.{item_of_call}
use Rattle.sg_hist.specs.Recovered.{ends_stopped, item_of_load}
use Rattle.sg_hist.specs.Inside.Parts.{is_stopped}
use Rattle.sg_boot.specs.Inside.Asking.{Asks}
use Rattle.sg_facts.specs.declared.outcome.Outcome.{Outcome}
use Rattle.sg_facts.specs.declared.outcome.Outcome.TheVariants.{Replied, Blocks, Stopped, NoMemory}
use Rattle.sg_facts.specs.declared.trace.Item.{Item}
use Rattle.sg_facts.specs.declared.trace.Tag.{Tag}
use Rattle.sg_facts.specs.declared.trace.Tag.TheVariants.{Walk, Load, Client}
use Rattle.sg_facts.specs.Facts.{Facts}
use Rattle.sg_facts.specs.Invoke.{Points, loaded}
use Rattle.sg_facts.specs.Legal.{Table}
use Rattle.sg_facts.specs.Object.{Object, after, empty_object, set_file}
use Rattle.sg_facts.specs.Trace.{Boot}
use Rattle.sg_hist.specs.Reading.{last_items, value_at}
use Rattle.sg_hist.specs.Inside.Reads.{after_item}
use Rattle.sg_hist.proofs.Growing.{value_at-more}
use Rattle.sg_hist.specs.Growing.{booted, noted, struck}

-- a service that failed, after the stop of its boot
pub kept_struck : (facts : Facts) (boots : List Boot) (stop : ℕ) → boots ≢ [] → IsCell facts None (struck boots stop)
kept_struck facts boots stop begun = record {
  begun = begun_struck boots stop begun;
  runs = subst IsSome (sym (stop_struck boots stop begun)) (search rules);
}

-- a fresh service, in a boot of its own
pub kept_booted : (facts : Facts) (boots : List Boot) → IsCell facts (Some empty_object) (booted boots)
kept_booted facts boots = record {
  begun = begun_booted boots;
  runs = record {
    unstopped = stop_booted boots;
    unbroken = ap ends_stopped (items_booted boots);
    folded = sym (ap (value_at facts) (items_booted boots));
  };
}

-- an item more, which did not stop the service, and made of what it held what it holds now
pub kept_noted : (facts : Facts) (boots : List Boot) (held new : Object) (item : Item) → IsCell facts (Some held) boots → is_stopped item.outcome ≡ false
    → new ≡ after_item facts held item → IsCell facts (Some new) (noted boots item)
kept_noted facts boots held new item cell going makes = record {
  begun = begun_noted boots item cell.begun;
  runs = record {
    unstopped = stop_noted boots item ∙ cell.runs.unstopped;
    unbroken = ap ends_stopped (items_noted boots item cell.begun) ∙ stopped_at_end (last_items boots) item ∙ going;
    folded = makes ∙ ap (λ o. after_item facts o item) cell.runs.folded
        ∙ sym (ap (value_at facts) (items_noted boots item cell.begun) ∙ value_at-more facts (last_items boots) item);
  };
}

-- what a reply or none made of what the service held is what its item makes of it
made_by_call : (facts : Facts) (ask : Table) (parts : ℕ → ℕ) (held new : Object) (tag : Tag) (shown call : Call) (points later : Points) (at : ℕ) (outcome : Outcome)
    → ((key : List ℕ) (client : ℕ) → tag ≢ Load key client) → call ≡ record shown { desc = call.desc }
    → outcome ≢ Stopped → outcome ≢ NoMemory → Asks facts ask parts held call points outcome new later
    → new ≡ after_item facts held (item_of_call tag shown call.desc at outcome)
made_by_call facts ask parts held new (Load key client) shown call points later at outcome tagged same on had did = absurd (tagged key client refl)
made_by_call facts ask parts held new (Walk id k client) shown call points later at (Replied reply patch) tagged same on had did =
    did.1 ∙ ap (λ x. after facts held x reply) same
made_by_call facts ask parts held new (Walk id k client) shown call points later at Blocks tagged same on had did = did.1.same
made_by_call facts ask parts held new (Walk id k client) shown call points later at Stopped tagged same on had did = absurd (on refl)
made_by_call facts ask parts held new (Walk id k client) shown call points later at NoMemory tagged same on had did = absurd (had refl)
made_by_call facts ask parts held new (Client client seq) shown call points later at (Replied reply patch) tagged same on had did =
    did.1 ∙ ap (λ x. after facts held x reply) same
made_by_call facts ask parts held new (Client client seq) shown call points later at Blocks tagged same on had did = did.1.same
made_by_call facts ask parts held new (Client client seq) shown call points later at Stopped tagged same on had did = absurd (on refl)
made_by_call facts ask parts held new (Client client seq) shown call points later at NoMemory tagged same on had did = absurd (had refl)

goes_on : (outcome : Outcome) → outcome ≢ Stopped → is_stopped outcome ≡ false
goes_on (Replied reply patch) on = refl
goes_on Blocks on = refl
goes_on Stopped on = absurd (on refl)
goes_on NoMemory on = refl

-- a call was asked that did not stop the service
pub kept_asked : (facts : Facts) (ask : Table) (parts : ℕ → ℕ) (boots : List Boot) (held new : Object) (tag : Tag) (shown call : Call) (points later : Points) (at : ℕ) (outcome : Outcome)
    → IsCell facts (Some held) boots → ((key : List ℕ) (client : ℕ) → tag ≢ Load key client) → call ≡ record shown { desc = call.desc }
    → outcome ≢ Stopped → outcome ≢ NoMemory → Asks facts ask parts held call points outcome new later
    → IsCell facts (Some new) (noted boots (item_of_call tag shown call.desc at outcome))
kept_asked facts ask parts boots held new tag shown call points later at outcome cell tagged same on had did =
    kept_noted facts boots held new (item_of_call tag shown call.desc at outcome) cell (goes_on outcome on)
    (made_by_call facts ask parts held new tag shown call points later at outcome tagged same on had did)

-- a file was loaded
pub kept_loaded : (facts : Facts) (boots : List Boot) (held new : Object) (client points : ℕ) (key bytes : List ℕ)
    → IsCell facts (Some held) boots → facts.resc_data ≡ true → new ≡ loaded facts held key bytes
    → IsCell facts (Some new) (noted boots (item_of_load client points key bytes))
kept_loaded facts boots held new client points key bytes cell files loads =
    kept_noted facts boots held new (item_of_load client points key bytes) cell refl
    (loads ∙ ap (λ b. if b then record held { files = set_file held.files key bytes } else held) files)

-- Each entry that isn't the guard's has its item among those of the run.
use Rattle.std.proofs.Common.{◌≡◌, Bool, true, false, not, ◌||◌, List, [], ◌++◌, None, Some, refl, subst}
use Rattle.std.specs.List.{list_any}
use Rattle.std.specs.Prelude.{reverse}
use Rattle.std.specs.declared.option.Option.{Option}
use Rattle.sg_facts.specs.sg_base.Lists.{Each, When}
use Rattle.sg_facts.specs.declared.entry.Entry.{Entry}
use Rattle.sg_facts.specs.declared.trace.Item.{Item}
use Rattle.sg_facts.specs.Facts.{Facts}
use Rattle.sg_facts.specs.Trace.{Run}
use Rattle.sg_plain.specs.sg_hist.Reading.{Position, is_by_guard, is_item_of, item_of, last_items, older_items, places_of}
use Rattle.sg_plain.specs.sg_hist.Inside.Parts.{GivesEntry, HasItem}
use Rattle.sg_world.proofs.sg_recovery_laws.Lists.{each_map}
use Rattle.sg_world.proofs.sg_recovery_laws.Served.{Has, each_reverse, found_has}
use Rattle.sg_world.specs.sg_recovery_laws.LastItem.LastPlace.{HaveItems}
use Rattle.sg_world.proofs.sg_world_laws.Items.{IsAmong, among_places, found_passes}

has_item : (facts : Facts) (history : List Entry) (run : Run) (e : Entry) → HasItem facts history run e
    → (is_by_guard e.reply || list_any (is_item_of e) (older_items [] run.boots ++ last_items run.boots)) ≡ true
has_item facts history run e has = by (is_by_guard e.reply) (item_of run e) refl has
  where
    all : List Item
    all = older_items [] run.boots ++ last_items run.boots

    by : (g : Bool) (o : Option Position) → item_of run e ≡ o → When (not g) (GivesEntry facts history e o) → (g || list_any (is_item_of e) (older_items [] run.boots ++ last_items run.boots)) ≡ true
    by true o is gives = refl
    by false None is gives = absurd gives
    by false (Some p) is gives =
        let among : Has (IsAmong (older_items [] run.boots ++ last_items run.boots)) (Some p) = subst (Has (IsAmong (older_items [] run.boots ++ last_items run.boots))) is
        (found_has (IsAmong (older_items [] run.boots ++ last_items run.boots)) (λ q. is_item_of e q.item) (reverse (places_of run))
        (each_reverse (IsAmong (older_items [] run.boots ++ last_items run.boots)) (places_of run) (among_places [] run.boots))) in
        among (is_item_of e) (found_passes (λ q. is_item_of e q.item) (reverse (places_of run)) p is)

-- as it is where clients are served
pub have_items : (facts : Facts) (history : List Entry) (run : Run) → Each (HasItem facts history run) history → HaveItems (older_items [] run.boots ++ last_items run.boots) history
have_items facts history run all =
    each_map (HasItem facts history run) (λ e. (is_by_guard e.reply || list_any (is_item_of e) (older_items [] run.boots ++ last_items run.boots)) ≡ true) history (λ e has. has_item facts history run e has) all

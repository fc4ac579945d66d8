-- The world keeps what it keeps when an item is noted, and when the service stops within its call.
use Rattle.std.proofs.Common.{Bool, List, Some, [], ap, append-nil, append_assoc, false, length, refl, subst, suc, sym, true, ℕ, ◌++◌, ◌<◌, ◌==◌, ◌||◌, ◌∙◌, ◌∷◌, ◌≡◌}
use Rattle.std.proofs.lemmas.List.Folds.{list_any-append}
use Rattle.std.specs.List.{list_any}
use Rattle.sg_facts.specs.sg_base.Lists.{Each}
use Rattle.sg_facts.specs.Object.{Object, object_of}
use Rattle.sg_facts.specs.Inside.Rows.{object_from}
use Rattle.sg_facts.specs.Trace.{Boot}
use Rattle.sg_facts.specs.declared.entry.Entry.{Entry}
use Rattle.sg_facts.specs.declared.trace.Item.{Item}
use Rattle.sg_recovery_laws.specs.sg_hist.Reading.{is_by_guard, is_item_of, last_items, names_at, older_items}
use Rattle.sg_recovery_laws.specs.sg_hist.Inside.Reads.{after_item, names_in}
use Rattle.sg_recovery_laws.specs.sg_hist.Recovered.{is_visible_reply}
use Rattle.sg_recovery_laws.specs.sg_hist.Inside.Parts.{is_stopped}
use Rattle.sg_recovery_laws.specs.sg_hist.Growing.{IsInLast, IsNextItem, IsOfNoEntry, IsRecovering, noted, place_after}
use Rattle.sg_recovery_laws.proofs.sg_hist.Growing.{names_at-more}
use Rattle.sg_recovery_laws.proofs.InBoots.{older_noted, still_last}
use Rattle.sg_recovery_laws.proofs.Lists.{each_map}
use Rattle.sg_boot.proofs.Keeping.{kept_noted}
use Rattle.sg_boot.proofs.LastBoot.{begun_noted, items_noted}
use Rattle.sg_recovery_laws.specs.Objects.Waiting.{AreWaiting}
use Rattle.sg_recovery_laws.specs.Midway.Numbers.{AreNumbers}
use Rattle.sg_recovery_laws.specs.Midway.Progress.{IsInRecovery}
use Rattle.sg_recovery_laws.specs.LastItem.LastPlace.{HaveItems}
use Rattle.sg_recovery_laws.specs.LastItem.Told.{IsRead}
use Rattle.sg_clients.specs.WorldView.{Seat, WorldView, held_in, unanswered}
use Rattle.sg_world_laws.specs.Keeping.{AreDrawn, KeepsPromise, MayEnter, Stands, Stub, standing}
use Rattle.sg_world_laws.specs.Seats.{HaveSeats}
use Rattle.sg_world_laws.specs.Setting.{IsSetting, Setting, stubs_of}
use Rattle.sg_world_laws.proofs.Ahead.{noted_ahead}
use Rattle.sg_world_laws.proofs.Orders.{all_drawn}
use Rattle.sg_world_laws.proofs.Struck.{no_drawn, stopped}
use Rattle.sg_world_laws.specs.Advancing.Advancing.{IsEverDue, StandsAfter, stopped_within, with_noted}

pub length_noted : (boots : List Boot) (item : Item) → length (noted boots item) ≡ length boots
length_noted [] item = refl
length_noted (b ∷ []) item = refl
length_noted (b ∷ c ∷ boots) item = ap suc (length_noted (c ∷ boots) item)

module _ (z : Setting) (set : IsSetting z) (w : WorldView) (b : Boot) (boots : List Boot) (v : Object) (stub : Stub) (k : KeepsPromise z (standing w b boots (Some v)) stub)
    (item : Item) (hidden : is_visible_reply z.iface.facts item ≡ false) (due : IsEverDue z (standing w b boots (Some v)) item) (points : ℕ) where
  abbrev ws : List Entry
  ws = held_in (length (b ∷ boots)) w.seats

  -- the item is the next at the history itself
  pub next_now : IsNextItem (stubs_of z) w.history (unanswered (standing w b boots (Some v))) (place_after [] (b ∷ boots) item)
  next_now = subst (λ h. IsNextItem (stubs_of z) h (unanswered (standing w b boots (Some v))) (place_after [] (b ∷ boots) item)) (append-nil w.history) (due [] (no_drawn ws)).next

  recover_noted : (es : List Entry) → AreDrawn (held_in (length (b ∷ boots)) w.seats) es
      → IsRecovering (stubs_of z) (w.history ++ es) (record { boots = noted (b ∷ boots) item; points = points }) (unanswered (standing w b boots (Some v)))
  recover_noted = noted_ahead (stubs_of z) w.history ws b boots w.run.points points (unanswered (standing w b boots (Some v))) (unanswered (standing w b boots (Some v))) item hidden
      (λ es drawn. let d = due es drawn in (d.none, (λ x has. has), d.next)) k.recovering

  items_now : older_items [] (noted (b ∷ boots) item) ++ last_items (noted (b ∷ boots) item) ≡ (older_items [] (b ∷ boots) ++ last_items (b ∷ boots)) ++ item ∷ []
  items_now =
      ap (λ l. l ++ last_items (noted (b ∷ boots) item)) (older_noted [] b boots item) ∙ ap (λ l. older_items [] (b ∷ boots) ++ l) (items_noted (b ∷ boots) item (λ e. cc e))
      ∙ sym (append_assoc (older_items [] (b ∷ boots)) (last_items (b ∷ boots)) (item ∷ []))

  have_noted : HaveItems (older_items [] (noted (b ∷ boots) item) ++ last_items (noted (b ∷ boots) item)) w.history
  have_noted =
      each_map (λ e. is_by_guard e.reply || list_any (is_item_of e) (older_items [] (b ∷ boots) ++ last_items (b ∷ boots)) ≡ true)
      (λ e. is_by_guard e.reply || list_any (is_item_of e) (older_items [] (noted (b ∷ boots) item) ++ last_items (noted (b ∷ boots) item)) ≡ true) w.history
      (λ e has.
      ap (λ l. is_by_guard e.reply || list_any (is_item_of e) l) items_now
      ∙ ap (λ t. is_by_guard e.reply || t) (list_any-append (is_item_of e) (older_items [] (b ∷ boots) ++ last_items (b ∷ boots)) (item ∷ []))
      ∙ longer (is_by_guard e.reply) (list_any (is_item_of e) (older_items [] (b ∷ boots) ++ last_items (b ∷ boots))) (is_item_of e item || false) has) k.items
    where
      longer : (g a x : Bool) → (g || a) ≡ true → (g || (a || x)) ≡ true
      longer true a x is = refl
      longer false true x is = refl
      longer false false x is = absurd (cc is)

  -- who stood in the last boot still does
  held_noted : Each (IsInLast (record { boots = noted (b ∷ boots) item; points = points })) (held_in (length (b ∷ boots)) w.seats)
  held_noted = each (held_in (length (b ∷ boots)) w.seats) (behind w.history (due ws (all_drawn z set w b boots (Some v) stub k)).none) k.held_items
    where
      behind : (h : List Entry) → IsOfNoEntry item (h ++ ws) → IsOfNoEntry item ws
      behind [] none = none
      behind (e ∷ h) none = behind h none.1

      each : (es : List Entry) → IsOfNoEntry item es → Each (IsInLast (record { boots = b ∷ boots; points = w.run.points })) es → Each (IsInLast (record { boots = noted (b ∷ boots) item; points = points })) es
      each [] none last = tt
      each (e ∷ es) none last = (still_last b boots w.run.points points item e none.0 last.0, each es none.1 last.1)

  module _ (v' : Object) (seats : List Seat) (stub' : Stub) (held : held_in (length (b ∷ boots)) seats ≡ held_in (length (b ∷ boots)) w.seats)
      (calls : unanswered (with_noted (standing w b boots (Some v)) item points v' seats) ≡ unanswered (standing w b boots (Some v)))
      (have : HaveSeats z w.history w.withdrawn (length (noted (b ∷ boots) item)) seats) (goes : is_stopped item.outcome ≡ false) (makes : v' ≡ after_item z.iface.facts v item)
      (stands : StandsAfter z (standing w b boots (Some v)) item stub' v') where
    same_held : held_in (length (noted (b ∷ boots) item)) seats ≡ held_in (length (b ∷ boots)) w.seats
    same_held = ap (λ n. held_in n seats) (length_noted (b ∷ boots) item) ∙ held

    read_now : (es : List Entry) → AreDrawn (held_in (length (noted (b ∷ boots) item)) seats) es
        → IsRead z.iface.facts z.walks (w.history ++ es) (older_items [] (noted (b ∷ boots) item)) (last_items (noted (b ∷ boots) item)) stub'.names stub'.told stub'.present (object_of z.iface.facts w.history).rows
    read_now es drawn =
        subst (λ l. IsRead z.iface.facts z.walks (w.history ++ es) l (last_items (noted (b ∷ boots) item)) stub'.names stub'.told stub'.present (object_of z.iface.facts w.history).rows) (sym (older_noted [] b boots item))
        (subst (λ l. IsRead z.iface.facts z.walks (w.history ++ es) (older_items [] (b ∷ boots)) l stub'.names stub'.told stub'.present (object_of z.iface.facts w.history).rows) (sym (items_noted (b ∷ boots) item (λ e. cc e)))
        (stands.read es (subst (λ l. AreDrawn l es) same_held drawn)))

    unnamed_now : (es : List Entry) → AreDrawn (held_in (length (noted (b ∷ boots) item)) seats) es → (id : ℕ) → (object_of z.iface.facts w.history).given < id
        → list_any (λ n. n.0 == id) (names_at z.iface.facts (w.history ++ es) (last_items (noted (b ∷ boots) item))) ≡ false
    unnamed_now es drawn id above =
        let up : Stands z (standing w b boots (Some v)) stub v = k.stands in
        let before = subst (λ l. AreDrawn l es) same_held drawn in
        ap (λ l. list_any (λ (n : ℕ × ℕ). n.0 == id) (names_at z.iface.facts (w.history ++ es) l)) (items_noted (b ∷ boots) item (λ e. cc e))
        ∙ ap (λ l. list_any (λ (n : ℕ × ℕ). n.0 == id) l) (names_at-more z.iface.facts (w.history ++ es) (last_items (b ∷ boots)) item)
        ∙ list_any-append (λ n. n.0 == id) (names_at z.iface.facts (w.history ++ es) (last_items (b ∷ boots))) (names_in z.iface.facts (w.history ++ es) item.shown.fun item.tag item.outcome)
        ∙ ap (λ q. q || list_any (λ (n : ℕ × ℕ). n.0 == id) (names_in z.iface.facts (w.history ++ es) item.shown.fun item.tag item.outcome)) (up.unnamed es before id above)
        ∙ stands.unnamed es before id above

    pub keeps_noted : KeepsPromise z (with_noted (standing w b boots (Some v)) item points v' seats) stub'
    keeps_noted = record {
      legal = k.legal;
      calls = k.calls;
      object = k.object;
      seats = have;
      waiting = subst (AreWaiting z.iface.facts z.ask (object_of z.iface.facts w.history)) (sym same_held) k.waiting;
      enter = subst (Each (MayEnter z w.history)) (sym same_held) k.enter;
      items = have_noted;
      held_items = subst (Each (IsInLast (record { boots = noted (b ∷ boots) item; points = points }))) (sym same_held) held_noted;
      recovering = λ es drawn. subst (IsRecovering (stubs_of z) (w.history ++ es) (record { boots = noted (b ∷ boots) item; points = points })) (sym calls) (recover_noted es (subst (λ l. AreDrawn l es) same_held drawn));
      cell = kept_noted z.iface.facts (b ∷ boots) v v' item k.cell goes makes;
      stands = record {
        numbers = subst (λ l. AreNumbers z.iface.facts stub'.told (length w.history) (object_from z.iface.facts (object_of z.iface.facts w.history) l) v') (sym same_held) stands.numbers;
        named_live = stands.named_live;
        in_recovery = subst (λ l. IsInRecovery z.iface z.walks stub'.names stub'.told stub'.present (object_from z.iface.facts (object_of z.iface.facts w.history) l) v') (sym same_held) stands.in_recovery;
        read = read_now;
        unnamed = unnamed_now;
        rebuilt = λ eager some. stands.rebuilt eager (λ none. some (same_held ∙ none));
      };
    }

  -- the service stopped within the call
  module _ (stop points' : ℕ) (stub' : Stub) where
    pub keeps_stopped : KeepsPromise z (stopped_within (standing w b boots (Some v)) item points' stop) stub'
    keeps_stopped = stopped z (standing w b boots (Some v)) stub stub' k (record { boots = noted (b ∷ boots) item; points = points }) (record {
      begun = begun_noted (b ∷ boots) item (λ e. cc e);
      long = length_noted (b ∷ boots) item;
      items = have_noted;
      recovers = recover_noted [] (no_drawn ws);
    }) stop points'

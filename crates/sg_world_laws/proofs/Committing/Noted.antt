-- The item of a served call in the running boot: whose item stood there stands there still, and the service holds what it made.
use Rattle.std.proofs.Common.{◌≡◌, ℕ, suc, Bool, true, false, List, [], ◌∷◌, ◌++◌, Some, length, refl, sym, ◌∙◌, ap, append_assoc}
use Rattle.std.specs.Prelude.{◌||◌}
use Rattle.std.specs.List.{list_any}
use Rattle.std.specs.declared.option.Option.{Option}
use Rattle.std.proofs.lemmas.List.Folds.{list_any-append}
use Rattle.sg_facts.specs.sg_base.Lists.{Each}
use Rattle.sg_facts.specs.sg_base.declared.call.Call.{Call}
use Rattle.sg_facts.specs.sg_base.declared.reply.Reply.{Reply}
use Rattle.sg_boot.specs.Cells.{IsCell}
use Rattle.sg_boot.proofs.Keeping.{kept_noted}
use Rattle.sg_world_laws.specs.Committing.Serving.{IsServedCall}
use Rattle.sg_world_laws.proofs.Committing.Later.{call_is}
use Rattle.sg_world_laws.proofs.Committing.Recovering.{own}
use Rattle.sg_facts.specs.declared.entry.Entry.{Entry}
use Rattle.sg_facts.specs.declared.outcome.Outcome.TheVariants.{Replied}
use Rattle.sg_facts.specs.declared.outcome.Patch.{Patch}
use Rattle.sg_facts.specs.declared.trace.Item.{Item}
use Rattle.sg_facts.specs.declared.trace.Tag.{Tag}
use Rattle.sg_facts.specs.declared.trace.Tag.TheVariants.{Walk, Load, Client}
use Rattle.sg_facts.specs.Alike.{under_names}
use Rattle.sg_facts.specs.Object.{Object, after}
use Rattle.sg_facts.specs.Trace.{Boot}
use Rattle.sg_recovery_laws.specs.sg_hist.Reading.{given_by, is_by_guard, is_item_of, last_items, older_items}
use Rattle.sg_recovery_laws.specs.sg_hist.Inside.Parts.{is_stopped}
use Rattle.sg_recovery_laws.specs.sg_hist.Growing.{IsInLast, IsOfNoEntry, noted}
use Rattle.sg_recovery_laws.proofs.InBoots.{older_noted, own_last, still_last}
use Rattle.sg_clients.specs.WorldView.{WorldView, held_in}
use Rattle.sg_recovery_laws.specs.LastItem.LastPlace.{HaveItems}
use Rattle.sg_recovery_laws.proofs.Lists.{each_map}
use Rattle.sg_world_laws.specs.Keeping.{KeepsPromise, Stub, standing}
use Rattle.sg_world_laws.specs.Setting.{IsSetting, Setting}
use Rattle.sg_world_laws.proofs.Asked.{none_of}
use Rattle.sg_world_laws.proofs.Orders.{all_drawn}

pub last_noted : (b : Boot) (boots : List Boot) (item : Item) → last_items (noted (b ∷ boots) item) ≡ last_items (b ∷ boots) ++ item ∷ []
last_noted b [] item = refl
last_noted b (c ∷ []) item = refl
last_noted b (c ∷ d ∷ boots) item = last_noted c (d ∷ boots) item

pub length_noted : (b : Boot) (boots : List Boot) (item : Item) → length (noted (b ∷ boots) item) ≡ length (b ∷ boots)
length_noted b [] item = refl
length_noted b (c ∷ boots) item = ap suc (length_noted c boots item)

-- a world by its history, its boots and its service
abbrev pub spelt : WorldView → List Entry → List Boot → Option Object → WorldView
spelt w history boots running = record w { history = history; run = record { boots = boots; points = w.run.points }; running = running }

pub spelt_is : (w : WorldView) (history : List Entry) (boots : List Boot) (running : Option Object) → w.history ≡ history → w.run.boots ≡ boots → w.running ≡ running → w ≡ spelt w history boots running
spelt_is w history boots running same_history same_boots same_running =
    ap (λ l. spelt w l w.run.boots w.running) same_history ∙ ap (λ l. spelt w history l w.running) same_boots ∙ ap (spelt w history boots) same_running

none_back : (item : Item) (xs ys : List Entry) → IsOfNoEntry item (xs ++ ys) → IsOfNoEntry item ys
none_back item [] ys none = none
none_back item (x ∷ xs) ys none = none_back item xs ys none.1

module _ (z : Setting) (set : IsSetting z) (w : WorldView) (b : Boot) (boots : List Boot) (v : Object) (stub : Stub) (k : KeepsPromise z (standing w b boots (Some v)) stub)
    (call : Call) (item : Item) (reply other : Reply) (patch : Option Patch) (s : IsServedCall z (standing w b boots (Some v)) stub v call item reply other patch) where
  abbrev ws : List Entry
  ws = held_in (length (b ∷ boots)) w.seats

  none : IsOfNoEntry item (w.history ++ held_in (length (b ∷ boots)) w.seats)
  none = none_of z set w b boots v stub k call s.let_in s.all item s.replied.asked ws (all_drawn z set w b boots (Some v) stub k)

  items_now : older_items [] (noted (b ∷ boots) item) ++ last_items (noted (b ∷ boots) item) ≡ (older_items [] (b ∷ boots) ++ last_items (b ∷ boots)) ++ item ∷ []
  items_now =
      ap (λ l. l ++ last_items (noted (b ∷ boots) item)) (older_noted [] b boots item) ∙ ap (λ l. older_items [] (b ∷ boots) ++ l) (last_noted b boots item)
      ∙ sym (append_assoc (older_items [] (b ∷ boots)) (last_items (b ∷ boots)) (item ∷ []))

  -- each entry has its item still
  pub items_noted : HaveItems (older_items [] (noted (b ∷ boots) item) ++ last_items (noted (b ∷ boots) item)) w.history
  items_noted =
      each_map (λ x. is_by_guard x.reply || list_any (is_item_of x) (older_items [] (b ∷ boots) ++ last_items (b ∷ boots)) ≡ true)
      (λ x. is_by_guard x.reply || list_any (is_item_of x) (older_items [] (noted (b ∷ boots) item) ++ last_items (noted (b ∷ boots) item)) ≡ true) w.history
      (λ x has. ap (λ l. is_by_guard x.reply || list_any (is_item_of x) l) items_now
      ∙ ap (λ t. is_by_guard x.reply || t) (list_any-append (is_item_of x) (older_items [] (b ∷ boots) ++ last_items (b ∷ boots)) (item ∷ []))
      ∙ longer (is_by_guard x.reply) (list_any (is_item_of x) (older_items [] (b ∷ boots) ++ last_items (b ∷ boots))) (is_item_of x item || false) has) k.items
    where
      longer : (g a x : Bool) → (g || a) ≡ true → (g || (a || x)) ≡ true
      longer true a x is = refl
      longer false true x is = refl
      longer false false x is = absurd (cc is)

  -- the held replies' items stand in the last boot, and so does the call's
  pub held_noted : (points : ℕ) → Each (IsInLast (record { boots = noted (b ∷ boots) item; points = points })) (held_in (length (b ∷ boots)) w.seats)
  held_noted points = still ws (none_back item w.history ws none) k.held_items
    where
      still : (l : List Entry) → IsOfNoEntry item l → Each (IsInLast (record { boots = b ∷ boots; points = w.run.points })) l → Each (IsInLast (record { boots = noted (b ∷ boots) item; points = points })) l
      still [] apart last = tt
      still (x ∷ l) apart last = (still_last b boots w.run.points points item x apart.0 last.0, still l apart.1 last.1)

  pub own_noted : (points : ℕ) → IsInLast (record { boots = noted (b ∷ boots) item; points = points }) (record { call = call; reply = reply })
  own_noted points = own_last b boots w.run.points points item (record { call = call; reply = reply }) (own z set w b boots v stub k call item reply other patch s)

  -- the service holds what the item made of what it held
  pub cell_noted : IsCell z.iface.facts (Some (after z.iface.facts v (under_names stub.names call) other)) (noted (b ∷ boots) item)
  cell_noted = kept_noted z.iface.facts (b ∷ boots) v (after z.iface.facts v (under_names stub.names call) other) item k.cell (ap is_stopped s.replied.outcome)
      (sym (ap (λ c. given_by z.iface.facts v item.tag c item.outcome) (call_is z set w b boots v stub k call item reply other patch s)
      ∙ ap (given_by z.iface.facts v item.tag (under_names stub.names call)) s.replied.outcome ∙ gives item.tag s.replied.asked.tag))
    where
      gives : (t : Tag) → t ≡ Client call.client call.seq → given_by z.iface.facts v t (under_names stub.names call) (Replied other patch) ≡ after z.iface.facts v (under_names stub.names call) other
      gives (Walk i n x) is = absurd (cc is)
      gives (Load key x) is = absurd (cc is)
      gives (Client x n) is = refl

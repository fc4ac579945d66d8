-- What stands after an item that gives nothing: a call that waits, and a load.
use Rattle.std.proofs.Common.{Bool, List, Some, [], ap, cond, false, length, refl, true, ℕ, ◌&&◌, ◌++◌, ◌==◌, ◌||◌, ◌∙◌, ◌∷◌, ◌≡◌}
use Rattle.std.specs.List.{list_any}
use Rattle.sg_facts.specs.Facts.{Facts, fun_at}
use Rattle.sg_facts.specs.Object.{Object, object_of}
use Rattle.sg_facts.specs.Inside.Rows.{object_from}
use Rattle.sg_facts.specs.Trace.{Boot}
use Rattle.sg_facts.specs.declared.entry.Entry.{Entry}
use Rattle.sg_facts.specs.declared.outcome.Outcome.TheVariants.{Blocks}
use Rattle.sg_facts.specs.declared.tables.WalkLine.{WalkLine}
use Rattle.sg_facts.specs.declared.trace.Item.{Item}
use Rattle.sg_facts.specs.declared.trace.Tag.TheVariants.{Client, Load}
use Rattle.sg_recovery_laws.specs.sg_hist.Reading.{is_ok, last_items, older_items}
use Rattle.sg_recovery_laws.specs.sg_hist.Inside.Reads.{ends_walk, made_by, names_in}
use Rattle.sg_recovery_laws.specs.sg_hist.Inside.Parts.{is_patch_at, is_walk_of}
use Rattle.sg_recovery_laws.specs.Midway.Numbers.{AreNumbers}
use Rattle.sg_recovery_laws.specs.Midway.Progress.{IsInRecovery}
use Rattle.sg_recovery_laws.specs.LastItem.LastPlace.{last_place}
use Rattle.sg_recovery_laws.specs.LastItem.Told.{IsRead}
use Rattle.sg_recovery_laws.proofs.LastItem.Reading.{read_plain}
use Rattle.sg_clients.specs.WorldView.{WorldView, held_in}
use Rattle.sg_world_laws.specs.Keeping.{AreDrawn, KeepsPromise, Stands, Stub, standing}
use Rattle.sg_world_laws.specs.Setting.{Setting}
use Rattle.sg_world_laws.specs.Advancing.Advancing.{GivesNothing, IsEverDue, StandsAfter}

-- a call that waits gives nothing
pub waits_give_nothing : (facts : Facts) (walks : List WalkLine) (older front : List Item) (item : Item) (client seq : ℕ) → item.tag ≡ Client client seq → item.outcome ≡ Blocks → GivesNothing facts walks older front item
waits_give_nothing facts walks older front item client seq tag outcome = record {
  unmade = λ h id. ap (λ x. is_ok x && made_by facts h id item.shown.fun item.tag) outcome;
  no_walk = λ id. ap (is_walk_of id) tag;
  unbuilt = λ h id. ap (λ x. is_ok x && ends_walk facts walks h id (last_place older front item) item.tag) outcome;
  no_name = λ h. ap (λ x. names_in facts h item.shown.fun item.tag x) outcome ∙ ap (λ t. names_in facts h item.shown.fun t Blocks) tag ∙ nothing (fun_at facts.funs item.shown.fun).creation;
}
  where
    nothing : (c : Bool) → cond {A = List (ℕ × ℕ)} c [] [] ≡ []
    nothing true = refl
    nothing false = refl

-- a load makes and names nothing
pub loads_give_nothing : (facts : Facts) (walks : List WalkLine) (older front : List Item) (item : Item) (client : ℕ) (key : List ℕ) → item.tag ≡ Load key client → GivesNothing facts walks older front item
loads_give_nothing facts walks older front item client key tag = record {
  unmade = λ h id. ap (λ t. is_ok item.outcome && made_by facts h id item.shown.fun t) tag ∙ none (is_ok item.outcome);
  no_walk = λ id. ap (is_walk_of id) tag;
  unbuilt = λ h id. ap (λ t. is_ok item.outcome && ends_walk facts walks h id (last_place older front item) t) tag ∙ none (is_ok item.outcome);
  no_name = λ h. ap (λ t. names_in facts h item.shown.fun t item.outcome) tag;
}
  where
    none : (c : Bool) → (c && false) ≡ false
    none true = refl
    none false = refl

module _ (z : Setting) (w : WorldView) (b : Boot) (boots : List Boot) (v : Object) (stub : Stub) (k : KeepsPromise z (standing w b boots (Some v)) stub)
    (item : Item) (due : IsEverDue z (standing w b boots (Some v)) item) (gives : GivesNothing z.iface.facts z.walks (older_items [] (b ∷ boots)) (last_items (b ∷ boots)) item)
    (v' : Object) (present' : List ℕ → Bool) (same : (path : List ℕ) → (stub.present path || is_patch_at path item.outcome) ≡ present' path)
    (numbers : AreNumbers z.iface.facts stub.told (length w.history) (object_from z.iface.facts (object_of z.iface.facts w.history) (held_in (length (b ∷ boots)) w.seats)) v')
    (in_recovery : IsInRecovery z.iface z.walks stub.names stub.told present' (object_from z.iface.facts (object_of z.iface.facts w.history) (held_in (length (b ∷ boots)) w.seats)) v') where
  up : Stands z (standing w b boots (Some v)) stub v
  up = k.stands

  read_now : (es : List Entry) → AreDrawn (held_in (length (b ∷ boots)) w.seats) es
      → IsRead z.iface.facts z.walks (w.history ++ es) (older_items [] (b ∷ boots)) (last_items (b ∷ boots) ++ item ∷ []) stub.names stub.told present' (object_of z.iface.facts w.history).rows
  read_now es drawn =
      let r = read_plain z.iface.facts z.walks (w.history ++ es) (older_items [] (b ∷ boots)) (last_items (b ∷ boots)) item (due es drawn).none stub.names stub.told stub.present (object_of z.iface.facts w.history).rows
      (up.read es drawn) (gives.unmade (w.history ++ es)) gives.no_walk (gives.unbuilt (w.history ++ es)) (gives.no_name (w.history ++ es)) in
      record { names_are = r.names_are; whole = r.whole; calls = r.calls; files = λ path. r.files path ∙ same path }

  pub stands_plain : StandsAfter z (standing w b boots (Some v)) item (record { names = stub.names; told = stub.told; present = present' }) v'
  stands_plain = record {
    numbers = numbers;
    named_live = up.named_live;
    in_recovery = in_recovery;
    read = read_now;
    unnamed = λ es drawn id above. ap (λ l. list_any (λ (n : ℕ × ℕ). n.0 == id) l) (gives.no_name (w.history ++ es));
    rebuilt = up.rebuilt;
  }

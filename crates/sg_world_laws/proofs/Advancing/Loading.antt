-- A file is loaded that a call needs: what its item owes, and what stands after it.
use Rattle.std.proofs.Common.{◌≢◌, Bool, List, None, Some, [], ap, cond, false, filter, find, length, map, not, refl, subst, sym, true, ℕ, ◌&&◌, ◌++◌, ◌==◌, ◌||◌, ◌∙◌, ◌∷◌, ◌≡◌, ◌≤◌}
use Rattle.std.specs.Str.{bytes_eq}
use Rattle.sg_facts.specs.sg_base.declared.call.Call.{Call}
use Rattle.sg_facts.specs.Allowed.{implies, is_allowed}
use Rattle.sg_facts.specs.Facts.{Facts, fun_at, is_visible, takes_desc}
use Rattle.sg_facts.specs.Invoke.{loaded}
use Rattle.sg_facts.specs.Interface.{Declared}
use Rattle.sg_facts.specs.Needs.{is_wanted, wanted}
use Rattle.sg_facts.specs.Object.{Object, file_at, object_of, path_of, set_file}
use Rattle.sg_facts.specs.Inside.Rows.{object_from}
use Rattle.sg_facts.specs.Trace.{Boot}
use Rattle.sg_facts.specs.Track.{row_at}
use Rattle.sg_facts.specs.declared.entry.Entry.{Entry}
use Rattle.sg_facts.specs.declared.row.Row.{Row}
use Rattle.sg_facts.specs.declared.trace.Item.{Item}
use Rattle.sg_facts.specs.declared.trace.Tag.TheVariants.{Load}
use Rattle.sg_recovery_laws.specs.sg_hist.Reading.{given_by, is_tagged, last_items, older_items, service_call}
use Rattle.sg_recovery_laws.specs.sg_hist.Inside.Reads.{after_item}
use Rattle.sg_recovery_laws.specs.sg_hist.Recovered.{IsLoadedFor, is_clients, is_replied, is_visible_reply, item_of_load}
use Rattle.sg_recovery_laws.specs.sg_hist.Inside.Parts.{AskedAs, IsDemanded, IsItsCall, IsTrackedAt, IsWalked, is_patch_at, load_outcome}
use Rattle.sg_recovery_laws.specs.sg_hist.Growing.{IsNextItem, IsOfNoEntry}
use Rattle.sg_recovery_laws.proofs.InBoots.{place_is}
use Rattle.sg_recovery_laws.proofs.Objects.Waiting.{after_same}
use Rattle.sg_recovery_laws.specs.Midway.Progress.{IsInRecovery, Told, complete, is_complete}
use Rattle.sg_recovery_laws.specs.LastItem.LastPlace.{last_place}
use Rattle.sg_recovery_laws.proofs.LastItem.Noting.{load_settled}
use Rattle.sg_clients.specs.WorldView.{WorldView, held_in, unanswered}
use Rattle.sg_world_laws.specs.Keeping.{AreDrawn, KeepsPromise, Stands, Stub, standing}
use Rattle.sg_world_laws.specs.Setting.{IsSetting, Setting, stubs_of}
use Rattle.sg_world_laws.specs.Turns.{IsLetIn}
use Rattle.sg_world_laws.proofs.Waits.{keeps_parts}
use Rattle.sg_world_laws.proofs.Orders.{all_drawn, call_es, good_now, needs_es, none_es, time_es, told_es, wait_es}
use Rattle.sg_world_laws.specs.Advancing.Advancing.{IsDue, IsLeftToLoad, IsLoadItem, StandsAfter, loaded_stub}
use Rattle.sg_world_laws.proofs.Advancing.Admitted.{ascends_es, known_item, lets_es, seqs_es}
use Rattle.sg_world_laws.proofs.Advancing.Files.{with_file_more}
use Rattle.sg_world_laws.proofs.Advancing.Plain.{loads_give_nothing, stands_plain}
use Rattle.sg_world_laws.proofs.Advancing.Rebuilding.{told_is}

-- a function that uses a file is of a service that has files
uses_files : (facts : Facts) (n : ℕ) → is_allowed facts ≡ true → 1 ≤ n → n ≤ length facts.funs → (fun_at facts.funs n).uses_file ≡ true → facts.resc_data ≡ true
uses_files facts n allowed first last uses =
    let f = fun_at facts.funs n in turn f.uses_file facts.resc_data (takes_desc f) uses (keeps_parts facts n allowed first last).0
  where
    turn : (u r t : Bool) → u ≡ true → implies u (r && t) ≡ true → r ≡ true
    turn true true t is all = refl
    turn true false t is all = absurd (cc all)
    turn false r t is all = absurd (cc is)

-- where no wanted row is left, all are whole
none_left_of : (test : Row → Bool) (told : ℕ → Told) (rows : List Row) (r : Row) → find (λ a. not (is_complete (told a))) (map (λ x. x.id) (filter test rows)) ≡ None → row_at rows r.id ≡ Some r → test r ≡ true → is_complete (told r.id) ≡ true
none_left_of test told [] r none there need = absurd (cc there)
none_left_of test told (x ∷ rows) r none there need = at (test x) refl none (x.id == r.id) there (none_left_of test told rows r)
  where
    whole : (t : Bool) → (cond (not t) (Some x.id) (find (λ a. not (is_complete (told a))) (map (λ y. y.id) (filter test rows))) ≡ None) → (t ≡ true) × (find (λ a. not (is_complete (told a))) (map (λ y. y.id) (filter test rows)) ≡ None)
    whole true is = (refl, is)
    whole false is = absurd (cc is)

    at : (t : Bool) → test x ≡ t → find (λ a. not (is_complete (told a))) (map (λ y. y.id) (cond t (x ∷ filter test rows) (filter test rows))) ≡ None → (s : Bool) → cond s (Some x) (row_at rows r.id) ≡ Some r
        → (find (λ a. not (is_complete (told a))) (map (λ y. y.id) (filter test rows)) ≡ None → row_at rows r.id ≡ Some r → test r ≡ true → is_complete (told r.id) ≡ true) → is_complete (told r.id) ≡ true
    at true passes is true there rest = let one : x ≡ r = cc there in subst (λ y. is_complete (told y.id) ≡ true) one (whole (is_complete (told x.id)) is).0
    at true passes is false there rest = rest (whole (is_complete (told x.id)) is).1 there need
    at false fails is true there rest = let one : x ≡ r = cc there in absurd (let fails_r : test r ≡ false = subst (λ y. test y ≡ false) one fails in cc (fails_r, need))
    at false fails is false there rest = rest is there need

pub none_left : (i : Declared) (o : Object) (call : Call) (told : ℕ → Told) → find (λ a. not (is_complete (told a))) (wanted i o call).ids ≡ None
    → (r : Row) → row_at o.rows r.id ≡ Some r → is_wanted i o.rows call r ≡ true → told r.id ≡ complete
none_left i o call told none r there want = told_is (told r.id) (none_left_of (is_wanted i o.rows call) told o.rows r none there want)

none_of_load : (item : Item) (key : List ℕ) (client : ℕ) → item.tag ≡ Load key client → (h : List Entry) → IsOfNoEntry item h
none_of_load item key client tag [] = tt
none_of_load item key client tag (e ∷ h) = (ap (is_tagged e.call.client e.call.seq) tag, none_of_load item key client tag h)

module _ (z : Setting) (set : IsSetting z) (w : WorldView) (b : Boot) (boots : List Boot) (v : Object) (stub : Stub) (k : KeepsPromise z (standing w b boots (Some v)) stub)
    (call : Call) (let_in : IsLetIn z (standing w b boots (Some v)) call) (key : List ℕ) (left : IsLeftToLoad z (standing w b boots (Some v)) stub call key) where
  abbrev o : Object
  o = object_of z.iface.facts w.history

  abbrev ws : List Entry
  ws = held_in (length (b ∷ boots)) w.seats

  up : Stands z (standing w b boots (Some v)) stub v
  up = k.stands

  -- the service has files
  pub has_files : z.iface.facts.resc_data ≡ true
  has_files = uses_files z.iface.facts call.fun set.law.shape.shape let_in.passes.is_call.first let_in.passes.is_call.last (uses (fun_at z.iface.facts.funs call.fun).uses_file left.file)
    where
      uses : (t : Bool) → cond t (Some (path_of (object_of z.iface.facts w.history).rows call.desc)) None ≡ Some key → t ≡ true
      uses true is = refl
      uses false is = absurd (cc is)

  files_es : (es : List Entry) → AreDrawn (held_in (length (b ∷ boots)) w.seats) es → (object_from z.iface.facts (object_of z.iface.facts w.history) es).files ≡ (object_of z.iface.facts w.history).files
  files_es es drawn =
      (after_same z.iface.facts z.ask z.sound set.law (object_of z.iface.facts w.history) es call.client (good_now z set w b boots (Some v) stub k) (time_es z set w b boots (Some v) stub k es drawn)
      (wait_es z set w b boots (Some v) stub k es drawn) (none_es z set w b boots (Some v) stub k es drawn call let_in)).1

  module _ (item : Item) (is : IsLoadItem call.client key (file_at (object_of z.iface.facts w.history).files key) item) where
    pub load_hidden : is_visible_reply z.iface.facts item ≡ false
    load_hidden = ap (λ t. is_clients t && is_visible z.iface.facts item.shown.fun && is_replied item.outcome) (ap (λ (x : Item). x.tag) is)

    module _ (es : List Entry) (drawn : AreDrawn (held_in (length (b ∷ boots)) w.seats) es) where
      none_of : IsOfNoEntry item (w.history ++ es)
      none_of = none_of_load item key call.client (ap (λ (x : Item). x.tag) is) (w.history ++ es)

      whole_file : item ≡ item_of_load call.client item.points key (file_at (object_from z.iface.facts (object_of z.iface.facts w.history) es).files key)
      whole_file =
          is ∙ ap (λ fs. item_of_load call.client item.points key (file_at fs key)) (sym (files_es es drawn))

      some_file : file_at (object_from z.iface.facts (object_of z.iface.facts w.history) es).files key ≢ []
      some_file = subst (λ fs. file_at fs key ≢ []) (sym (files_es es drawn)) left.some

      loaded_for : IsLoadedFor z.iface z.walks (w.history ++ es) (unanswered (standing w b boots (Some v))) (last_place (older_items [] (b ∷ boots)) (last_items (b ∷ boots)) item) call.client key
      loaded_for =
          let known = known_item z set w b boots v stub k call let_in item es drawn none_of in
          load_settled z.iface z.walks (w.history ++ es) (unanswered (standing w b boots (Some v))) (older_items [] (b ∷ boots)) (last_items (b ∷ boots)) item stub.names stub.told stub.present
          (object_from z.iface.facts (object_of z.iface.facts w.history) es) known.object known.sound (ascends_es z set w b boots v stub k call let_in item es drawn none_of) none_of known.items known.read
          call.client key call (call_es z set w b boots (Some v) stub k es drawn call let_in) (seqs_es z set w b boots v stub k call let_in item es drawn none_of)
          (told_es z set w b boots (Some v) stub k es drawn call let_in left.rows)
          (ap (λ n. n.file) (needs_es z set w b boots (Some v) stub k es drawn call let_in) ∙ left.file) left.absent some_file whole_file (lets_es z set w b boots v stub k call let_in item es drawn none_of)

      pub load_due : IsDue z (standing w b boots (Some v)) item es
      load_due = record {
        none = none_of;
        next = subst (IsNextItem (stubs_of z) (w.history ++ es) (unanswered (standing w b boots (Some v)))) (sym (place_is [] b boots item)) (record {
          running = k.cell.runs.unbroken;
          table = subst (AskedAs z.iface.facts z.ask (last_place (older_items [] (b ∷ boots)) (last_items (b ∷ boots)) item)) (sym (ap (λ (x : Item). x.tag) is)) tt;
          call = subst (IsItsCall (w.history ++ es) (unanswered (standing w b boots (Some v))) item.shown) (sym (ap (λ (x : Item). x.tag) is)) tt;
          settled = record {
            walk = subst (IsWalked z.iface.facts z.walks (w.history ++ es) (last_place (older_items [] (b ∷ boots)) (last_items (b ∷ boots)) item)) (sym (ap (λ (x : Item). x.tag) is)) tt;
            demand = subst (IsDemanded z.iface z.walks (w.history ++ es) (unanswered (standing w b boots (Some v))) (last_place (older_items [] (b ∷ boots)) (last_items (b ∷ boots)) item)) (sym (ap (λ (x : Item). x.tag) is)) loaded_for;
            state = subst (IsTrackedAt z.iface z.walks (w.history ++ es) (last_place (older_items [] (b ∷ boots)) (last_items (b ∷ boots)) item)) (sym (ap (λ (x : Item). x.tag) is)) tt;
          };
        });
      }

    -- ---- what stands after it

    later_is : loaded z.iface.facts v key (file_at (object_of z.iface.facts w.history).files key) ≡ record v { files = set_file v.files key (file_at (object_of z.iface.facts w.history).files key) }
    later_is = ap (λ t. cond t (record v { files = set_file v.files key (file_at (object_of z.iface.facts w.history).files key) }) v) has_files

    all : AreDrawn (held_in (length (b ∷ boots)) w.seats) (held_in (length (b ∷ boots)) w.seats)
    all = all_drawn z set w b boots (Some v) stub k

    recovers_now : IsInRecovery z.iface z.walks stub.names stub.told (λ path. stub.present path || bytes_eq key path) (object_from z.iface.facts (object_of z.iface.facts w.history) (held_in (length (b ∷ boots)) w.seats))
        (record v { files = set_file v.files key (file_at (object_of z.iface.facts w.history).files key) })
    recovers_now =
        subst (λ fs. IsInRecovery z.iface z.walks stub.names stub.told (λ path. stub.present path || bytes_eq key path) (object_from z.iface.facts (object_of z.iface.facts w.history) (held_in (length (b ∷ boots)) w.seats))
        (record v { files = set_file v.files key (file_at fs key) })) (files_es ws all)
        (with_file_more z.iface z.walks stub.names stub.told stub.present (object_from z.iface.facts o ws) v key up.in_recovery left.absent)

    pub load_stands : StandsAfter z (standing w b boots (Some v)) item (loaded_stub stub key) (loaded z.iface.facts v key (file_at (object_of z.iface.facts w.history).files key))
    load_stands =
        subst (StandsAfter z (standing w b boots (Some v)) item (loaded_stub stub key)) (sym later_is)
        (stands_plain z w b boots v stub k item load_due (loads_give_nothing z.iface.facts z.walks (older_items [] (b ∷ boots)) (last_items (b ∷ boots)) item call.client key (ap (λ (x : Item). x.tag) is))
        (record v { files = set_file v.files key (file_at o.files key) }) (λ path. stub.present path || bytes_eq key path) (λ path. ap (λ x. stub.present path || is_patch_at path x) (ap (λ (x : Item). x.outcome) is))
        (record { given = up.numbers.given; counted = up.numbers.counted }) recovers_now)

    -- what its item makes of the service
    pub load_makes : loaded z.iface.facts v key (file_at (object_of z.iface.facts w.history).files key) ≡ after_item z.iface.facts v item
    load_makes =
        later_is
        ∙ sym (ap (given_by z.iface.facts v item.tag (service_call item)) (ap (λ (x : Item). x.outcome) is)
        ∙ ap (λ t. given_by z.iface.facts v t (service_call item) (load_outcome key (file_at (object_of z.iface.facts w.history).files key))) (ap (λ (x : Item). x.tag) is))

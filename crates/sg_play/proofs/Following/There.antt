-- Nothing is to be brought back in the first boot, whatever calls are answered in it.
use Rattle.std.proofs.Common.{◌≡◌, ◌≢◌, ◌⊎◌, ℕ, ◌≤◌, Bool, true, false, cond, not, List, [], ◌∷◌, ◌++◌, None, Some, refl, sym, ◌∙◌, ap, subst, inl, inr}
use Rattle.std.specs.Prelude.{◌==◌, ◌&&◌, ◌||◌}
use Rattle.std.specs.List.{list_any}
use Rattle.std.specs.Str.{bytes_eq}
use Rattle.std.specs.declared.option.Option.{Option}
use Rattle.sg_facts.specs.sg_base.Lists.{Each, When}
use Rattle.sg_facts.specs.sg_base.declared.call.Call.{Call}
use Rattle.sg_facts.specs.sg_base.declared.reply.Good.{Good}
use Rattle.sg_facts.specs.sg_base.declared.reply.Reply.{Reply}
use Rattle.sg_facts.specs.sg_base.declared.reply.Reply.TheVariants.{Ok, Refused}
use Rattle.sg_facts.specs.declared.entry.Entry.{Entry}
use Rattle.sg_facts.specs.declared.outcome.Outcome.{Outcome}
use Rattle.sg_facts.specs.declared.outcome.Outcome.TheVariants.{Replied, Blocks, Stopped, NoMemory}
use Rattle.sg_facts.specs.declared.outcome.Patch.{Patch}
use Rattle.sg_facts.specs.declared.row.Row.{Row}
use Rattle.sg_facts.specs.declared.trace.Item.{Item}
use Rattle.sg_facts.specs.declared.trace.Tag.TheVariants.{Walk, Load, Client}
use Rattle.sg_facts.specs.Alike.{SameFile}
use Rattle.sg_facts.specs.Facts.{Facts, fun_at, is_visible, writes}
use Rattle.sg_facts.specs.Object.{Object, file_at, first_text, object_of, patch_of, path_of}
use Rattle.sg_facts.specs.Track.{is_live, row_at}
use Rattle.sg_facts.proofs.RowLists.{live_of_row}
use Rattle.sg_plain.specs.sg_hist.Reading.{Position, id_given, is_by_guard, is_item_of, is_made, is_ok, is_tagged, item_of, names_at, object_before, service_call, stands_before, value_at}
use Rattle.sg_plain.specs.sg_hist.Inside.Reads.{desc_of, made_by}
use Rattle.sg_plain.specs.sg_hist.Recovered.{IsByTable, IsLoadedFor, IsRenamed, IsReplyOf, IsTracked, Stubs, is_replied}
use Rattle.sg_plain.specs.sg_hist.Inside.Parts.{AskedAs, GivesEntry, HasItem, IsCallOfRow, IsDemanded, IsTrackedAt, IsWalked, is_patch_at}
use Rattle.sg_plain.specs.sg_hist.Growing.{IsNextItem, IsOfNoEntry}
use Rattle.sg_world.proofs.sg_recovery_laws.Given.{is_numbered, made_visible}
use Rattle.sg_plain.proofs.sg_hist.Growing.{entries_before-not_yet, object_of-more, places-more}
use Rattle.sg_world.proofs.sg_recovery_laws.Lists.{each_split}
use Rattle.sg_world.proofs.sg_recovery_laws.Served.{item_of-own}
use Rattle.sg_world.specs.sg_recovery_laws.LastItem.LastPlace.{HaveItems, last_place}
use Rattle.sg_world.proofs.sg_recovery_laws.LastItem.Later.{object_before_last}
use Rattle.sg_facts.proofs.Replaying.Files.{told}
use Rattle.sg_facts.proofs.Replaying.Found.{same_test}
use Rattle.sg_play.specs.Following.Follows.{IsAllThere}
use Rattle.sg_play.proofs.Following.Created.{Makes, Writes, all_made_stay, any_left, any_right, bytes_before, live_before, writes_file, writes_there, writes_what}
use Rattle.sg_play.proofs.Following.Numbered.{NoneHas, id_new, load_of_none, of_no_entry, one_boot, walk_of_none}

pub nothing_there : (facts : Facts) → IsAllThere facts [] []
nothing_there facts = record {
  ids = λ id live. absurd (cc live);
  rows = λ id live. absurd (cc live);
  files = λ path some. absurd (some refl);
}

-- an item more takes nothing away
pub there_noted : (facts : Facts) (history : List Entry) (items : List Item) (item : Item) → IsAllThere facts history items → IsAllThere facts history (items ++ item ∷ [])
there_noted facts history items item is = record {
  ids = is.ids;
  rows = λ id live. any_left (is_made facts history id) items (item ∷ []) (is.rows id live);
  files = λ path some. any_left (λ x. is_patch_at path x.outcome) items (item ∷ []) (is.files path some);
}

-- ---- an entry

module _ (facts : Facts) (history : List Entry) (call : Call) (reply : Reply) (items : List Item) (is : IsAllThere facts history items) where
  abbrev entry : Entry
  entry = record { call = call; reply = reply }

  live_then : (id : ℕ) → is_live (object_of facts (history ++ entry ∷ [])).rows id ≡ true → (is_live (object_of facts history).rows id ≡ true) ⊎ Makes facts call reply id
  live_then id live = live_before facts (object_of facts history).rows call reply id (ap (λ (o : Object). is_live o.rows id) (sym (object_of-more facts history entry)) ∙ live)

  file_then : (path : List ℕ) → file_at (object_of facts (history ++ entry ∷ [])).files path ≢ []
      → (file_at (object_of facts history).files path ≢ []) ⊎ ((p : Patch) × (patch_of facts (object_of facts history) call reply ≡ Some p) × (p.key ≡ path))
  file_then path some = bytes_before (object_of facts history).files (patch_of facts (object_of facts history) call reply) path
      (λ none. some (ap (λ (o : Object). file_at o.files path) (object_of-more facts history entry) ∙ none))

  -- all is there after it where that is which it made and wrote
  pub there_entered : (later : List Item)
      → ((test : Item → Bool) → list_any test items ≡ true → list_any test later ≡ true)
      → ((id : ℕ) → Makes facts call reply id → (1 ≤ id) × (list_any (is_made facts (history ++ entry ∷ []) id) later ≡ true))
      → ((path : List ℕ) → Writes facts (object_of facts history) call reply path → list_any (λ x. is_patch_at path x.outcome) later ≡ true)
      → IsAllThere facts (history ++ entry ∷ []) later
  there_entered later more made written = record {
    ids = λ id live. id_by id (live_then id live);
    rows = λ id live. row_by id (live_then id live);
    files = λ path some. file_by path (file_then path some);
  }
    where
      id_by : (id : ℕ) → (is_live (object_of facts history).rows id ≡ true) ⊎ Makes facts call reply id → 1 ≤ id
      id_by id (inl was) = is.ids id was
      id_by id (inr new) = (made id new).0

      row_by : (id : ℕ) → (is_live (object_of facts history).rows id ≡ true) ⊎ Makes facts call reply id → list_any (is_made facts (history ++ entry ∷ []) id) later ≡ true
      row_by id (inl was) = more (is_made facts (history ++ entry ∷ []) id) (all_made_stay facts history entry id items (is.ids id was) (is.rows id was))
      row_by id (inr new) = (made id new).1

      file_by : (path : List ℕ) → (file_at (object_of facts history).files path ≢ []) ⊎ ((p : Patch) × (patch_of facts (object_of facts history) call reply ≡ Some p) × (p.key ≡ path))
          → list_any (λ x. is_patch_at path x.outcome) later ≡ true
      file_by path (inl was) = more (λ x. is_patch_at path x.outcome) (is.files path was)
      file_by path (inr new) = written path (writes_what facts (object_of facts history) call reply new.0 path new.1 new.2)

  -- a refusal makes and writes nothing
  pub there_refused : (later : List Item) → ((test : Item → Bool) → list_any test items ≡ true → list_any test later ≡ true) → ((good : Good) → reply ≡ Ok good → ⊥) → IsAllThere facts (history ++ entry ∷ []) later
  there_refused later more none = there_entered later more (λ id makes. absurd (none makes.good makes.is)) (λ path writes. absurd (none writes.good writes.is))

  -- nor does a call that isn't visible
  pub there_hidden : is_visible facts call.fun ≡ false → IsAllThere facts (history ++ entry ∷ []) items
  there_hidden hidden = there_entered items (λ test any. any)
      (λ id makes. absurd (cc (sym hidden ∙ made_visible facts call.fun makes.creation)))
      (λ path writes. absurd (cc (sym hidden ∙ file_visible (writes_file facts call.fun writes.writing))))
    where
      file_visible : (fun_at facts.funs call.fun).uses_file ≡ true → is_visible facts call.fun ≡ true
      file_visible uses = at facts.global (fun_at facts.funs call.fun).uses_file (fun_at facts.funs call.fun).creation uses
        where
          at : (a b c : Bool) → b ≡ true → (a || b || c) ≡ true
          at true b c is = refl
          at false true c is = refl
          at false false c is = absurd (cc is)

-- ---- the last place

-- the object before an item that is noted in the only boot
pub object_there : (facts : Facts) (history : List Entry) (items : List Item) (item : Item) → IsOfNoEntry item history → HaveItems items history
    → object_before facts history (last_place [] items item) ≡ object_of facts history
object_there facts history items item none has = object_before_last facts [] items item history none has

-- no call of a walk is replayed where all is there
pub none_walked : (facts : Facts) (s : Stubs) (history : List Entry) (items : List Item) (item : Item) (id k client : ℕ) → IsAllThere facts history items
    → HaveItems items history → item.tag ≡ Walk id k client → IsWalked facts s.walks history (last_place [] items item) item.tag → ⊥
none_walked facts s history items item id k client is has tag walked =
    by (row_at (object_before facts history (last_place [] items item)).rows id) refl (subst (IsWalked facts s.walks history (last_place [] items item)) tag walked)
  where
    by : (r : Option Row) → row_at (object_before facts history (last_place [] items item)).rows id ≡ r → IsCallOfRow facts s.walks history (last_place [] items item) id k r → ⊥
    by None there next = next
    by (Some r) there next =
        let live : is_live (object_of facts history).rows id ≡ true = live_of_row (object_of facts history).rows id r
        (ap (λ (o : Object). row_at o.rows id) (sym (object_there facts history items item (walk_of_none item id k client history tag) has)) ∙ there) in
        cc (sym next.unmade ∙ is.rows id live)

-- nor is a file loaded
pub none_loaded : (s : Stubs) (history : List Entry) (left : List Call) (items : List Item) (item : Item) (key : List ℕ) (client : ℕ) → IsAllThere s.interface.facts history items
    → HaveItems items history → item.tag ≡ Load key client → IsDemanded s.interface s.walks history left (last_place [] items item) item.tag → ⊥
none_loaded s history left items item key client is has tag demanded =
    let loaded : IsLoadedFor s.interface s.walks history left (last_place [] items item) client key = subst (IsDemanded s.interface s.walks history left (last_place [] items item)) tag demanded in
    let some : file_at before.files key ≢ [] = loaded.some in
    cc (sym loaded.absent ∙ is.files key (λ none. some (ap (λ (o : Object). file_at o.files key) (object_there s.interface.facts history items item (load_of_none item key client history tag) has) ∙ none)))
  where
    before : Object
    before = object_before s.interface.facts history (last_place [] items item)

-- ---- a visible reply

-- the outcome of an item that replied
replied_so : (o : Outcome) → is_replied o ≡ true → (r : Reply) × (p : Option Patch) × (o ≡ Replied r p)
replied_so (Replied r p) is = (r, p, refl)
replied_so Blocks is = absurd (cc is)
replied_so Stopped is = absurd (cc is)
replied_so NoMemory is = absurd (cc is)

-- an item has an Ok
record HasOk (item : Item) : Type 0 where
  real : Good
  patch : Option Patch
  outcome : item.outcome ≡ Replied (Ok real) patch

module _ (s : Stubs) (history : List Entry) (items : List Item) (is : IsAllThere s.interface.facts history items) (has : HaveItems items history) (call : Call) (reply : Reply) (item : Item)
    (next_id : (good : Good) → reply ≡ Ok good → (fun_at s.interface.facts.funs call.fun).creation ≡ true → 1 ≤ good.desc)
    (tag : item.tag ≡ Client call.client call.seq) (shown : item.shown ≡ call) (replied : is_replied item.outcome ≡ true) (new : NoneHas call.client call.seq history) (left : List Call)
    (noted_so : IsNextItem s (history ++ record { call = call; reply = reply } ∷ []) left (last_place [] items item)) (points : ℕ)
    (served : Each (HasItem s.interface.facts (history ++ record { call = call; reply = reply } ∷ []) (one_boot (items ++ item ∷ []) points)) (history ++ record { call = call; reply = reply } ∷ [])) where
  abbrev facts : Facts
  facts = s.interface.facts

  abbrev e : Entry
  e = record { call = call; reply = reply }

  abbrev h : List Entry
  h = history ++ e ∷ []

  abbrev p : Position
  p = last_place [] items item

  abbrev held : Object
  held = value_at facts items

  own : is_item_of e item ≡ true
  own = ap (is_tagged call.client call.seq) tag ∙ ap (λ b. b && (call.seq == call.seq)) (same_test call.client call.client refl) ∙ same_test call.seq call.seq refl

  numbered : is_numbered call.client call.seq e ≡ true
  numbered = ap (λ b. b && (call.seq == call.seq)) (same_test call.client call.client refl) ∙ same_test call.seq call.seq refl

  item_is : item_of (one_boot (items ++ item ∷ []) points) e ≡ Some p
  item_is = item_of-own item e p (one_boot items points) (one_boot (items ++ item ∷ []) points) (places-more [] (record { items = items; stop = None }) [] item) refl own

  -- where the reply is an Ok, so is the item's
  ok_item : (good : Good) → reply ≡ Ok good → HasOk item
  ok_item good ok =
      let found = replied_so item.outcome replied in
      let given : When (not (is_by_guard reply)) (GivesEntry facts h e (item_of (one_boot (items ++ item ∷ []) points) e)) = (each_split (HasItem facts h (one_boot (items ++ item ∷ []) points)) history (e ∷ []) served).1.0 in
      let gives : GivesEntry facts h e (item_of (one_boot (items ++ item ∷ []) points) e) = subst (λ r. When (not (is_by_guard r)) (GivesEntry facts h e (item_of (one_boot (items ++ item ∷ []) points) e))) ok given in
      let at_last : GivesEntry facts h e (Some p) = subst (GivesEntry facts h e) item_is gives in
      let so : IsReplyOf (names_at facts h (items ++ item ∷ [])) (Replied found.0 found.1) (Ok good) =
      subst (λ o. IsReplyOf (names_at facts h (items ++ item ∷ [])) o (Ok good)) found.2 (subst (IsReplyOf (names_at facts h (items ++ item ∷ [])) item.outcome) ok at_last.1) in
      by found.0 found.1 found.2 so
    where
      by : (r : Reply) (q : Option Patch) → item.outcome ≡ Replied r q → IsRenamed (names_at facts h (items ++ item ∷ [])) r (Ok good) → HasOk item
      by (Ok real) q outcome so = record { real = real; patch = q; outcome = outcome }
      by (Refused code) q outcome so = absurd so

  -- what a creation made, its item made
  made : (id : ℕ) → Makes facts call reply id → (1 ≤ id) × (list_any (is_made facts h id) (items ++ item ∷ []) ≡ true)
  made id makes =
      let ok = ok_item makes.good makes.is in
      let given : id_given h call.client call.seq ≡ id = id_new history e call.client call.seq new numbered ∙ ap desc_of makes.is ∙ makes.own in
      let it : is_made facts h id item ≡ true =
      ap (λ o. is_ok o && made_by facts h id item.shown.fun item.tag) ok.outcome
      ∙ ap (λ (c : Call). made_by facts h id c.fun item.tag) shown
      ∙ ap (made_by facts h id call.fun) tag
      ∙ ap (λ b. b && (id_given h call.client call.seq == id)) makes.creation
      ∙ same_test (id_given h call.client call.seq) id given in
      (subst (λ n. 1 ≤ n) makes.own (next_id makes.good makes.is makes.creation), any_right (is_made facts h id) items (item ∷ []) (ap (λ b. b || false) it))

  before_is : object_before facts h p ≡ object_of facts history
  before_is =
      ap (object_of facts) (entries_before-not_yet p history e stands)
      ∙ object_there facts history items item (of_no_entry item call.client call.seq history tag new) has
    where
      nothing : (a b c : Bool) → (a && b && not (true || c)) ≡ false
      nothing true true c = refl
      nothing true false c = refl
      nothing false b c = refl

      stands : stands_before p e ≡ false
      stands = ap (λ b. not (is_by_guard e.reply) && list_any (is_item_of e) items && not (b || false)) own ∙ nothing (not (is_by_guard e.reply)) (list_any (is_item_of e) items) false

  -- what it wrote, its item wrote
  written : (path : List ℕ) → Writes facts (object_of facts history) call reply path → list_any (λ x. is_patch_at path x.outcome) (items ++ item ∷ []) ≡ true
  written path writes_it =
      let ok = ok_item writes_it.good writes_it.is in
      let table : IsByTable facts s.ask held (service_call item) (Replied (Ok ok.real) ok.patch) =
      subst (IsByTable facts s.ask held (service_call item)) ok.outcome (subst (AskedAs facts s.ask p) tag noted_so.table) in
      let tracked : IsTracked s.interface s.walks h p = subst (IsTrackedAt s.interface s.walks h p) tag noted_so.settled.state in
      let uses : (fun_at facts.funs item.shown.fun).uses_file ≡ true = ap (λ (c : Call). (fun_at facts.funs c.fun).uses_file) shown ∙ writes_file facts call.fun writes_it.writing in
      let file : SameFile (object_before facts h p) held item.shown.desc item.real (Some (path_of (object_before facts h p).rows item.shown.desc)) =
      subst (SameFile (object_before facts h p) held item.shown.desc item.real) (ap (λ b. cond b (Some (path_of (object_before facts h p).rows item.shown.desc)) None) uses) tracked.file in
      let there = writes_there facts held (service_call item) ok.real (ap (λ (c : Call). writes (fun_at facts.funs c.fun)) shown ∙ writes_it.writing) (λ none. writes_it.some (ap (λ (c : Call). first_text c.args) (sym shown) ∙ none)) in
      let key : there.0.key ≡ path =
      there.2 ∙ file.0 ∙ ap (λ (o : Object). path_of o.rows item.shown.desc) before_is ∙ ap (λ (c : Call). path_of (object_of facts history).rows c.desc) shown ∙ writes_it.own in
      let it : is_patch_at path item.outcome ≡ true =
      ap (is_patch_at path) (ok.outcome ∙ ap (λ q. Replied (Ok ok.real) q) (table.1 ∙ there.1)) ∙ same there.0.key key in
      any_right (λ x. is_patch_at path x.outcome) items (item ∷ []) (ap (λ b. b || false) it)
    where
      same : (key : List ℕ) → key ≡ path → bytes_eq key path ≡ true
      same key is_it = by (told key path)
        where
          by : ((bytes_eq key path ≡ true) × (key ≡ path)) ⊎ ((bytes_eq key path ≡ false) × (key ≢ path)) → bytes_eq key path ≡ true
          by (inl yes_it) = yes_it.0
          by (inr other) = absurd (other.1 is_it)

  -- all is there after a visible reply that was committed
  pub there_committed : IsAllThere facts h (items ++ item ∷ [])
  there_committed = there_entered facts history call reply items is (items ++ item ∷ []) (λ test any. any_left test items (item ∷ []) any) made written

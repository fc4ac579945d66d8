-- What each item owes when it is noted, from what stands in the service and is told: that it is settled at the object of the whole history.
use Rattle.std.proofs.Common.{◌≡◌, ◌≢◌, ℕ, suc, ◌+◌, ◌-◌, ◌<◌, ◌≤◌, Bool, true, false, cond, not, List, [], ◌∷◌, ◌++◌, None, Some, length, map, filter, refl, sym, ◌∙◌, ap, subst, inl, inr, ◌⊎◌, arith}
use Rattle.std.specs.Prelude.{◌==◌, ◌||◌, ◌&&◌, find, nat_lt, slice_get}
use Rattle.std.specs.List.{list_all, list_any}
use Rattle.std.specs.declared.option.Option.{Option}
use Rattle.std.proofs.lemmas.Bool.Decides.{nat_tests}
use Rattle.sg_facts.specs.sg_base.Lists.{Each, When}
use Rattle.sg_facts.specs.sg_base.declared.call.Call.{Call}
use Rattle.sg_facts.specs.declared.entry.Entry.{Entry}
use Rattle.sg_facts.specs.declared.row.Row.{Row}
use Rattle.sg_facts.specs.declared.tables.WalkLine.{WalkLine}
use Rattle.sg_facts.specs.declared.trace.Item.{Item}
use Rattle.sg_facts.specs.Alike.{HasAlike, IsAlike, SameFile, named}
use Rattle.sg_facts.specs.Facts.{Facts}
use Rattle.sg_facts.specs.Guard.{guard}
use Rattle.sg_facts.specs.Interface.{Declared}
use Rattle.sg_facts.specs.Laws.{is_none}
use Rattle.sg_facts.specs.Needs.{is_needed, is_wanted, needs, wanted}
use Rattle.sg_facts.specs.Object.{Object, file_at, object_of}
use Rattle.sg_facts.specs.Sound.{IsRow, IsSound}
use Rattle.sg_facts.specs.Track.{is_live, row_at}
use Rattle.sg_facts.specs.Walks.{replayed_call}
use Rattle.sg_facts.proofs.RowLists.{live_of_row}
use Rattle.sg_hist.specs.Reading.{Position, is_by_guard, is_made, is_item_of, is_whole_at, names_at, object_before, places_in, stands_before, value_at, walk_in}
use Rattle.sg_hist.specs.Inside.Reads.{is_rebuilt_at}
use Rattle.sg_hist.specs.Recovered.{IsAdmitted, IsCallOf, IsLoadedFor, IsTracked, IsUnderWay as IsMade, is_answered_later, item_of_load}
use Rattle.sg_hist.specs.Inside.Parts.{IsAlikeTo, IsCallOfRow, IsOkOrStopped, is_answered_before, call_in, is_walk_of}
use Rattle.sg_hist.specs.Growing.{IsOfNoEntry}
use Rattle.sg_recovery_laws.specs.Midway.Progress.{Told, fresh, begun, complete, TellsCalls, IsNone, is_complete}
use Rattle.sg_recovery_laws.specs.LastItem.Told.{IsRead}
use Rattle.sg_recovery_laws.proofs.Objects.Apart.{Ascends}
use Rattle.sg_recovery_laws.specs.LastItem.LastPlace.{HaveItems, last_place}
use Rattle.sg_recovery_laws.proofs.Stays.{when_not, when_own}
use Rattle.sg_recovery_laws.proofs.UnderWay.{AreBelow, AreFrom, of_below, of_from}
use Rattle.sg_recovery_laws.proofs.LastItem.Later.{all_mapped, each_filtered, object_before_last, whole_last}
use Rattle.sg_facts.proofs.Replaying.Found.{met, other_test, same_test}

-- the same under names with the same look-ups
alike_under : (names names' : List (ℕ × ℕ)) (r w : Row) → named names' r.id ≡ named names r.id → named names' r.parent ≡ named names r.parent → IsAlike names r w → IsAlike names' r w
alike_under names names' r w same parent alike = record {
  id = same ∙ alike.id;
  made = alike.made;
  parent = alike.parent ∙ sym parent;
  state = alike.state;
  fields = alike.fields;
}

find_told : (f g : ℕ → Bool) (ids : List ℕ) → Each (λ a. f a ≡ g a) ids → find f ids ≡ find g ids
find_told f g [] each = refl
find_told f g (a ∷ ids) each = ap (λ b. cond b (Some a) (find f ids)) each.0 ∙ ap (λ x. cond (g a) (Some a) x) (find_told f g ids each.1)

each_mapped : (P : ℕ → Type 0) (rows : List Row) → Each (λ r. P r.id) rows → Each P (map (λ r. r.id) rows)
each_mapped P [] each = tt
each_mapped P (r ∷ rows) each = (each.0, each_mapped P rows each.1)

-- a call is under way after all entries that have items, where its client's entries have smaller numbers
pub under_way_now : (facts : Facts) (history : List Entry) (u : List Call) (before : Entry → Bool) (client : ℕ) (call : Call) → IsCallOf history u client call
    → Each (λ e. (e.call.client == client) ≡ true → e.call.seq < call.seq) history → Each (λ e. (is_by_guard e.reply || before e) ≡ true) history → IsMade facts history u before client call
under_way_now facts history u before client call its seqs all = record {
  its = its;
  above = of_below facts before client call.seq history (above history seqs);
  first = of_from before client call.seq false history (first history all);
}
  where
    above : (h : List Entry) → Each (λ e. (e.call.client == client) ≡ true → e.call.seq < call.seq) h → AreBelow facts before client call.seq h
    above [] each = tt
    above (e ∷ h) each = (when_own (e.call.client == client) (is_answered_before facts before e h) _ each.0, above h each.1)

    first : (h : List Entry) → Each (λ e. (is_by_guard e.reply || before e) ≡ true) h → AreFrom before client call.seq false h
    first [] each = tt
    first (e ∷ h) each =
        let now : is_answered_later before e ≡ false = ap not each.0 in (
          subst (λ b. When ((e.call.client == client) && b) (call.seq ≤ e.call.seq)) (sym now) (when_not (e.call.client == client) _),
          subst (λ b. AreFrom before client call.seq b h) (sym now) (first h each.1),
        )

module _ (i : Declared) (walks : List WalkLine) (history : List Entry) (u : List Call) (older front : List Item) (item : Item) (names : List (ℕ × ℕ)) (told : ℕ → Told) (present : List ℕ → Bool) (o : Object)
    (is_o : object_of i.facts history ≡ o) (sound : IsSound i.facts o) (are : Ascends 0 o.given o.rows) (none : IsOfNoEntry item history) (items : HaveItems (older ++ front) history)
    (read : IsRead i.facts walks history older front names told present o.rows) where
  abbrev place : Position
  place = last_place older front item

  pub object_is : object_before i.facts history (last_place older front item) ≡ o
  object_is = object_before_last i.facts older front item history none items ∙ is_o

  pub whole_told : (id : ℕ) → is_live o.rows id ≡ true → is_whole_at i.facts walks history (last_place older front item) id ≡ is_complete (told id)
  whole_told id live = whole_last i.facts walks older front item history id none ∙ read.whole id live

  -- the parent of a row is none, or there
  parent_there : (r : Row) → row_at o.rows r.id ≡ Some r → IsNone o.rows r.parent
  parent_there r there = at (r.parent == 0) refl (met (IsRow i.facts o.rows) 0 o.given r.id o.rows r sound.rows there).parent
    where
      second : (a b : Bool) → (a && b) ≡ true → b ≡ true
      second true b is = is
      second false b is = absurd (cc is)

      at : (t : Bool) → (r.parent == 0) ≡ t → (t || (nat_lt r.parent r.id && is_live o.rows r.parent)) ≡ true → IsNone o.rows r.parent
      at true is meets = inl (grind (arith, nat_tests, is))
      at false is meets = inr (second (nat_lt r.parent r.id) (is_live o.rows r.parent) meets)

  -- what is wanted for a call is whole, where it is told so
  wanted_whole : (call : Call) → ((r : Row) → row_at o.rows r.id ≡ Some r → is_wanted i o.rows call r ≡ true → told r.id ≡ complete)
      → list_all (is_whole_at i.facts walks history (last_place older front item)) (wanted i o call).ids ≡ true
  wanted_whole call complete_told =
      all_mapped (is_whole_at i.facts walks history (last_place older front item)) (filter (is_wanted i o.rows call) o.rows)
      (each_filtered (λ r. is_whole_at i.facts walks history (last_place older front item) r.id ≡ true) (is_wanted i o.rows call) 0 o.given o.rows are
      (λ r there want. whole_told r.id (live_of_row o.rows r.id r there) ∙ ap is_complete (complete_told r there want)))

  -- a call of a client reaches the service with all that it needs
  pub client_tracked : (held : Object) → value_at i.facts front ≡ held → ((r : Row) → row_at o.rows r.id ≡ Some r → is_wanted i o.rows item.shown r ≡ true → told r.id ≡ complete)
      → ((r : Row) → row_at o.rows r.id ≡ Some r → is_needed i.facts o.rows item.shown r ≡ true → HasAlike names held r)
      → IsNone o.rows item.shown.desc → item.real ≡ named names item.shown.desc → SameFile o held item.shown.desc (named names item.shown.desc) (needs i.facts o item.shown).file
      → IsTracked i walks history (last_place older front item)
  client_tracked held value complete_told alike desc real file = record {
    whole = subst (λ x. list_all (is_whole_at i.facts walks history (last_place older front item)) (wanted i x item.shown).ids ≡ true) (sym object_is) (wanted_whole item.shown complete_told);
    rows = subst (λ x. Each (λ r. IsAlikeTo (names_at i.facts history front) r (row_at (value_at i.facts front).rows (named (names_at i.facts history front) r.id))) (filter (is_needed i.facts x.rows item.shown) x.rows)) (sym object_is)
        (each_filtered (λ r. IsAlikeTo (names_at i.facts history front) r (row_at (value_at i.facts front).rows (named (names_at i.facts history front) r.id))) (is_needed i.facts o.rows item.shown) 0 o.given o.rows are
        (λ r there need.
        let has = alike r there need in
        let found : row_at (value_at i.facts front).rows (named (names_at i.facts history front) r.id) ≡ Some has.row
        = ap (λ v. row_at v.rows (named (names_at i.facts history front) r.id)) value ∙ ap (row_at held.rows) (read.names_are r.id (inr (live_of_row o.rows r.id r there))) ∙ has.there in
        subst (IsAlikeTo (names_at i.facts history front) r) (sym found) (alike_under names (names_at i.facts history front) r has.row (read.names_are r.id (inr (live_of_row o.rows r.id r there))) (read.names_are r.parent (parent_there r there)) has.alike)));
    real = real ∙ sym (read.names_are item.shown.desc desc);
    file = subst (λ x. SameFile x (value_at i.facts front) item.shown.desc item.real (needs i.facts x item.shown).file) (sym object_is)
        (subst (λ v. SameFile o v item.shown.desc item.real (needs i.facts o item.shown).file) (sym value)
        (subst (λ n. SameFile o held item.shown.desc n (needs i.facts o item.shown).file) (sym real) file));
  }

  -- ---- a call that is under way

  stands_all : (h : List Entry) → IsOfNoEntry item h → HaveItems (older ++ front) h → Each (λ e. (is_by_guard e.reply || stands_before (last_place older front item) e) ≡ true) h
  stands_all [] none has = tt
  stands_all (e ∷ h) none has = (at (is_by_guard e.reply) (list_any (is_item_of e) (older ++ front)) (is_item_of e item) none.0 has.0, stands_all h none.1 has.1)
    where
      at : (g a i : Bool) → i ≡ false → (g || a) ≡ true → (g || (not g && a && not (i || false))) ≡ true
      at true a i is has = refl
      at false true false is has = refl
      at false true true is has = absurd (cc is)
      at false false i is has = absurd (cc has)

  pub under_way_last : (client : ℕ) (call : Call) → IsCallOf history u client call → Each (λ e. (e.call.client == client) ≡ true → e.call.seq < call.seq) history
      → IsMade i.facts history u (stands_before (last_place older front item)) client call
  under_way_last client call its seqs = under_way_now i.facts history u (stands_before (last_place older front item)) client call its seqs (stands_all history none items)

  -- which the guard lets pass
  pub admitted_last : (client : ℕ) (call : Call) → IsCallOf history u client call → Each (λ e. (e.call.client == client) ≡ true → e.call.seq < call.seq) history → guard i o call ≡ None
      → IsAdmitted i history u (stands_before (last_place older front item)) client call
  admitted_last client call its seqs passes = record { under_way = under_way_last client call its seqs; guarded = ap (λ x. guard i x call) object_is ∙ passes }

  -- ---- a call of a walk

  pub walk_settled : (id k client : ℕ) (r : Row) (done rest : List ℕ) (fun : ℕ) → row_at o.rows id ≡ Some r → (is_complete (told id) ≡ false) → TellsCalls (told id) (length done) → (told id ≡ fresh → done ≡ [])
      → k ≡ length done + 1 → walk_in walks (Some r) ≡ Some (done ++ fun ∷ rest) → item.shown ≡ replayed_call i.facts r (is_none done) fun
      → ((r.parent ≡ 0) ⊎ ((is_live o.rows r.parent ≡ true) × (told r.parent ≡ complete))) → IsNone o.rows item.shown.desc → item.real ≡ named names item.shown.desc → IsOkOrStopped item.outcome
      → IsCallOfRow i.facts walks history (last_place older front item) id k (row_at (object_before i.facts history (last_place older front item)).rows id)
  walk_settled id k client r done rest fun there part counted none_done k_is walk shown parent desc real outcome =
      subst (λ x. IsCallOfRow i.facts walks history (last_place older front item) id k (row_at x.rows id)) (sym object_is)
      (subst (IsCallOfRow i.facts walks history (last_place older front item) id k) (sym there) (record {
        unmade = left (list_any (is_made i.facts history id) front) (list_any (is_rebuilt_at i.facts walks history id) (places_in older [] front [])) (read.whole id (live_of_row o.rows id r there) ∙ part);
        next = let n = read.calls id (live_of_row o.rows id r there) in count (told id) n counted part none_done;
        parent = parent_whole parent;
        call = ap (call_in i.facts r k) walk ∙ at_place;
        real = real ∙ sym (read.names_are item.shown.desc desc);
        outcome = outcome;
      }))
    where
      left : (a b : Bool) → (a || b) ≡ false → a ≡ false
      left true b is = absurd (cc is)
      left false b is = refl

      count : (t : Told) → TellsCalls t (length (filter (λ x. is_walk_of id x.tag) front)) → TellsCalls t (length done) → is_complete t ≡ false → (t ≡ fresh → done ≡ []) → length (filter (λ x. is_walk_of id x.tag) front) + 1 ≡ k
      count fresh n d part nothing = omega (arith, n, d, k_is)
      count (begun m) n d part nothing = omega (arith, n, d, k_is)
      count complete n d part nothing = absurd (cc part)

      parent_whole : ((r.parent ≡ 0) ⊎ ((is_live o.rows r.parent ≡ true) × (told r.parent ≡ complete))) → (r.parent == 0) || is_whole_at i.facts walks history (last_place older front item) r.parent ≡ true
      parent_whole (inl root) = ap (λ b. b || is_whole_at i.facts walks history (last_place older front item) r.parent) (same_test r.parent 0 root)
      parent_whole (inr full) = or_right (r.parent == 0) (is_whole_at i.facts walks history (last_place older front item) r.parent) (whole_told r.parent full.0 ∙ ap is_complete full.1)
        where
          or_right : (a b : Bool) → b ≡ true → (a || b) ≡ true
          or_right true b is = refl
          or_right false b is = is

      got : (ds : List ℕ) → slice_get (ds ++ fun ∷ rest) (length ds) ≡ Some fun
      got [] = refl
      got (d ∷ ds) = got ds

      first_is : (ds : List ℕ) → (length ds + 1 == 1) ≡ is_none ds
      first_is [] = refl
      first_is (d ∷ ds) = other_test (suc (length ds) + 1) 1 (λ is. absurd (omega (arith, is)))

      at_place : call_in i.facts r k (Some (done ++ fun ∷ rest)) ≡ Some item.shown
      at_place =
          let place_is : k - 1 ≡ length done = omega (arith, k_is) in
          let fun_is : slice_get (done ++ fun ∷ rest) (k - 1) ≡ Some fun = ap (slice_get (done ++ fun ∷ rest)) place_is ∙ got done in
          let is_first : (k == 1) ≡ is_none done = ap (λ n. n == 1) k_is ∙ first_is done in
          numbered (slice_get (done ++ fun ∷ rest) (k - 1)) refl fun_is ∙ ap (λ b. Some (replayed_call i.facts r b fun)) is_first ∙ ap (λ c. Some c) (sym shown)
        where
          numbered : (x : Option ℕ) → slice_get (done ++ fun ∷ rest) (k - 1) ≡ x → x ≡ Some fun → call_in i.facts r k (Some (done ++ fun ∷ rest)) ≡ Some (replayed_call i.facts r (k == 1) fun)
          numbered x got_it is = simp (got_it ∙ is) refl

  -- the least that isn't whole, told and in the trace
  pub least_told : (call : Call) (id : ℕ) → find (λ a. not (is_complete (told a))) (wanted i o call).ids ≡ Some id
      → find (λ a. not (is_whole_at i.facts walks history (last_place older front item) a)) (wanted i (object_before i.facts history (last_place older front item)) call).ids ≡ Some id
  least_told call id is =
      subst (λ x. find (λ a. not (is_whole_at i.facts walks history (last_place older front item) a)) (wanted i x call).ids ≡ Some id) (sym object_is)
      (find_told (λ a. not (is_whole_at i.facts walks history (last_place older front item) a)) (λ a. not (is_complete (told a))) (wanted i o call).ids
      (each_mapped (λ a. not (is_whole_at i.facts walks history (last_place older front item) a) ≡ not (is_complete (told a))) (filter (is_wanted i o.rows call) o.rows)
      (each_filtered (λ r. not (is_whole_at i.facts walks history (last_place older front item) r.id) ≡ not (is_complete (told r.id))) (is_wanted i o.rows call) 0 o.given o.rows are
      (λ r there want. ap not (whole_told r.id (live_of_row o.rows r.id r there))))) ∙ is)

  -- a load
  pub load_settled : (client : ℕ) (key : List ℕ) (call : Call) → IsCallOf history u client call → Each (λ e. (e.call.client == client) ≡ true → e.call.seq < call.seq) history
      → ((r : Row) → row_at o.rows r.id ≡ Some r → is_wanted i o.rows call r ≡ true → told r.id ≡ complete) → (needs i.facts o call).file ≡ Some key → present key ≡ false
      → file_at o.files key ≢ [] → item ≡ item_of_load client item.points key (file_at o.files key) → guard i o call ≡ None
      → IsLoadedFor i walks history u (last_place older front item) client key
  load_settled client key call its seqs complete_told file absent some load passes = record {
    call = call;
    admitted = admitted_last client call its seqs passes;
    rows = subst (λ x. list_all (is_whole_at i.facts walks history (last_place older front item)) (wanted i x call).ids ≡ true) (sym object_is) (wanted_whole call complete_told);
    file = subst (λ x. (needs i.facts x call).file ≡ Some key) (sym object_is) file;
    absent = read.files key ∙ absent;
    some = subst (λ (x : Object). file_at x.files key ≢ []) (sym object_is) some;
    load = subst (λ (x : Object). item ≡ item_of_load client item.points key (file_at x.files key)) (sym object_is) load;
  }

-- An engine's advance in a world: what is missing may be done, and what it does is the next event, after which the world keeps what it keeps.
use Rattle.std.proofs.Common.{Bool, List, None, Some, [], ap, arith, cond, false, inl, inr, length, refl, subst, suc, sym, true, ℕ, ◌++◌, ◌+◌, ◌==◌, ◌∙◌, ◌∷◌, ◌≡◌, ◌≢◌, ◌≤◌, ◌⊎◌, ◌||◌}
use Rattle.std.proofs.lemmas.Bool.Decides.{eqb_tells}
use Rattle.std.specs.Str.{bytes_eq}
use Rattle.sg_world_laws.proofs.Advancing.Advances.{file_loaded, loaded_next, ready, replay_stopped, replay_stopped_next, replayed, replayed_next}
use Rattle.sg_world_laws.proofs.Advancing.Loading.{has_files}
use Rattle.sg_world_laws.proofs.Advancing.Rebuilding.{is_new}
use Rattle.sg_world_laws.specs.Advancing.Advancing.{IsFirstLeft, IsLeftToLoad, IsLoadItem, IsRebuildable, IsReplayItem, loaded_stub, replayed_stub, stopped_within, with_noted}
use Rattle.sg_facts.specs.sg_base.declared.call.Call.{Call}
use Rattle.sg_facts.specs.sg_base.declared.reply.Reply.TheVariants.{Ok}
use Rattle.sg_replay.specs.sg_boot.Invoking.{item_of_call, with_item, with_stop}
use Rattle.sg_replay.specs.sg_hist.Recovered.{item_of_load}
use Rattle.sg_replay.specs.sg_hist.Inside.Parts.{call_in}
use Rattle.sg_world.proofs.Engines.Left.{first_left, left_to_load}
use Rattle.sg_world.specs.Engines.Engines.{IsEngineOf, as_shown}
use Rattle.sg_world.specs.Engines.Stubs.{stub_of, told_of}
use Rattle.sg_facts.proofs.RowLists.{id_of_row}
use Rattle.sg_facts.specs.Alike.{named}
use Rattle.sg_facts.specs.Invoke.{Points, loaded}
use Rattle.sg_facts.specs.Laws.{is_none, names_after, next_call}
use Rattle.sg_facts.specs.Needs.{Needs, wanted}
use Rattle.sg_facts.specs.Object.{Object, after, file_at, object_of, patch_of}
use Rattle.sg_facts.specs.Trace.{Boot}
use Rattle.sg_facts.specs.Track.{row_at}
use Rattle.sg_facts.specs.Walks.{replayed_call}
use Rattle.sg_facts.specs.declared.outcome.Outcome.{Outcome}
use Rattle.sg_facts.specs.declared.outcome.Outcome.TheVariants.{Replied, Stopped}
use Rattle.sg_facts.specs.declared.trace.Item.{Item}
use Rattle.sg_facts.specs.declared.trace.Tag.TheVariants.{Walk}
use Rattle.sg_world_laws.specs.sg_recovery_laws.Midway.Progress.{TellsCalls, begun, fresh, is_complete}
use Rattle.sg_world_laws.specs.sg_recovery_laws.Midway.Stepping.{so_far}
use Rattle.sg_replay.specs.sg_hist.Reading.{walk_in}
use Rattle.sg_replay.specs.sg_name.Names.{named_at}
use Rattle.sg_replay.specs.sg_name.declared.named.Named.{Named}
use Rattle.sg_replay.specs.sg_name.declared.named.Named.TheVariants.{Live, Partial, Unnamed}
use Rattle.sg_replay.specs.sg_hist.Growing.{IsNextItem, place_after}
use Rattle.sg_replay.proofs.Naming.{named_in_pairs, real_or_zero}
use Rattle.sg_replay.specs.Engined.{Engined}
use Rattle.sg_replay.specs.Missing.{missing, next_number}
use Rattle.sg_replay.specs.Present.{is_present}
use Rattle.sg_replay.specs.Replaying.{IsReplayable, IsStruck, IsUnchanged, KeepsPresent, Loads, MayAdvance, Replays, length_of, name_after, real_after, replay_of, walk_length}
use Rattle.sg_replay.specs.Serving.{pairs_of, real_call}
use Rattle.sg_replay.specs.declared.todo.Todo.{Todo}
use Rattle.sg_replay.specs.declared.todo.Todo.TheVariants.{Load as ToLoad, Walk as ToWalk}
use Rattle.sg_clients.specs.WorldView.{WorldView, unanswered}
use Rattle.sg_replay.specs.sg_store.Stored.{bytes_of}
use Rattle.sg_facts.proofs.Replaying.Files.{told as which}
use Rattle.sg_facts.proofs.Replaying.Found.{other_test, same_test}
use Rattle.sg_world_laws.proofs.Alike.{keeps_alike}
use Rattle.sg_world_laws.specs.Keeping.{KeepsPromise, Stub, TellSame, standing}
use Rattle.sg_world_laws.specs.Setting.{IsSetting, Setting, stubs_of}
use Rattle.sg_world_laws.specs.Turns.{IsLetIn}

-- ---- what stands for an id

-- the number of the next call, by the calls that are told
next_is : (n : Named) (m : ℕ) → TellsCalls (told_of n) m → is_complete (told_of n) ≡ false → next_number n ≡ m + 1
next_is Unnamed m tells part = omega (arith, tells)
next_is (Partial real done) m tells part = ap (λ x. x + 1) (sym tells)
next_is (Live real) m tells part = absurd (cc part)

-- the first call of a walk gives the service's id, and later ones leave it
real_next : (n : Named) (done : List ℕ) (desc : ℕ) → TellsCalls (told_of n) (length done) → is_complete (told_of n) ≡ false → (done ≡ [] → told_of n ≡ fresh)
    → real_after n desc ≡ cond (is_none done) desc (real_or_zero n)
real_next Unnamed [] desc tells part new = refl
real_next Unnamed (d ∷ ds) desc tells part new = absurd (omega (arith, tells))
real_next (Partial real m) [] desc tells part new = absurd (cc (new refl))
real_next (Partial real m) (d ∷ ds) desc tells part new = refl
real_next (Live real) done desc tells part new = absurd (cc part)

real_named_after : (real k last : ℕ) → real_or_zero (name_after real k last) ≡ real
real_named_after real k last = at (k == last)
  where
    at : (b : Bool) → real_or_zero (cond b (Live real) (Partial real k)) ≡ real
    at true = refl
    at false = refl

-- a row is as far after a call as the rest of its walk says
told_next : (real k : ℕ) (done rest : List ℕ) (fun : ℕ) → k ≡ length done + 1 → told_of (name_after real k (length (done ++ fun ∷ rest))) ≡ so_far rest (suc (length done))
told_next real k done rest fun is = by rest (long done rest)
  where
    long : (ds rest : List ℕ) → length (ds ++ fun ∷ rest) ≡ length ds + (1 + length rest)
    long [] rest = omega arith
    long (d ∷ ds) rest = let less = long ds rest in omega (arith, less)

    by : (rest : List ℕ) → length (done ++ fun ∷ rest) ≡ length done + (1 + length rest) → told_of (name_after real k (length (done ++ fun ∷ rest))) ≡ so_far rest (suc (length done))
    by [] its = ap (λ b. told_of (cond b (Live real) (Partial real k))) (same_test k (length (done ++ fun ∷ [])) (omega (arith, is, its)))
    by (f ∷ rest) its =
        ap (λ b. told_of (cond b (Live real) (Partial real k))) (other_test k (length (done ++ fun ∷ f ∷ rest)) (λ same. absurd (omega (arith, is, its, same))))
        ∙ ap (λ n. begun n) (let step : k ≡ suc (length done) = omega (arith, is) in step)

-- ---- files

turned : (a c : List ℕ) → bytes_eq a c ≡ bytes_eq c a
turned a c = elim (which a c) [
  | inl one ↦ elim (which c a) [
    | inl two ↦ one.0 ∙ sym two.0
    | inr apart ↦ absurd (apart.1 (sym one.1))
  ]
  | inr apart ↦ elim (which c a) [
    | inl one ↦ absurd (apart.1 (sym one.1))
    | inr two ↦ apart.0 ∙ sym two.0
  ]
]

turned_or : (a b : Bool) → (a || b) ≡ (b || a)
turned_or true true = refl
turned_or true false = refl
turned_or false true = refl
turned_or false false = refl

-- ---- nothing was done

-- where there was no memory the world keeps what it keeps
pub unchanged_shown : (z : Setting) (w : WorldView) (e new : Engined) (start later : Points) → KeepsPromise z w (stub_of e) → e.cell.run ≡ w.run → e.cell.running ≡ w.running → IsUnchanged e start new later → KeepsPresent e new
    → KeepsPromise z (as_shown w new) (stub_of new)
unchanged_shown z w e new start later k run_is running_is t present =
    subst (λ x. KeepsPromise z (record w { run = x; running = new.cell.running }) (stub_of new)) (sym (t.run ∙ run_is))
    (subst (λ x. KeepsPromise z (record w { running = x }) (stub_of new)) (sym (t.running ∙ running_is)) (keeps_alike z w (stub_of e) (stub_of new) tells k))
  where
    tells : TellSame (stub_of e) (stub_of new)
    tells = record {
      names = λ x. named_in_pairs new.names.known x ∙ ap real_or_zero (t.names x) ∙ sym (named_in_pairs e.names.known x);
      told = λ x. ap told_of (t.names x);
      present = present;
    }

-- ---- an advance

module _ (z : Setting) (set : IsSetting z) (w : WorldView) (b : Boot) (boots : List Boot) (v : Object) (e : Engined) (k : KeepsPromise z (standing w b boots (Some v)) (stub_of e))
    (stands : IsEngineOf z (standing w b boots (Some v)) e) (call : Call) (let_in : IsLetIn z (standing w b boots (Some v)) call) where
  abbrev needs_now : Needs
  needs_now = wanted z.iface (object_of z.iface.facts w.history) call

  -- ---- a row is rebuilt

  module _ (id n : ℕ) (due : missing e needs_now ≡ Some (ToWalk id n)) where
    left : IsFirstLeft z (standing w b boots (Some v)) (stub_of e) call id
    left = (first_left z set (standing w b boots (Some v)) e stands call id n due).0

    pub it : IsRebuildable z (standing w b boots (Some v)) (stub_of e) v id
    it = ready z set w b boots v (stub_of e) k call let_in id left

    number_is : n ≡ length it.done + 1
    number_is = (first_left z set (standing w b boots (Some v)) e stands call id n due).1 ∙ next_is (named_at e.names.known id) (length it.done) it.its.told it.part

    row_is : row_at e.tracked.rows id ≡ Some it.row
    row_is = ap (λ rows. row_at rows id) stands.rows ∙ it.its.there

    its_call : replay_of z.iface.facts e.tables.walks (row_at e.tracked.rows id) n ≡ Some (replayed_call z.iface.facts it.row (is_none it.done) it.fun)
    its_call =
        ap (λ walks. replay_of z.iface.facts walks (row_at e.tracked.rows id) n) stands.walks ∙ ap (λ r. replay_of z.iface.facts z.walks r n) row_is
        ∙ ap (λ m. call_in z.iface.facts it.row m (walk_in z.walks (Some it.row))) number_is ∙ it.shown

    -- it may be replayed
    pub replayable : IsReplayable z.iface.facts z.ask e v id n (replayed_call z.iface.facts it.row (is_none it.done) it.fun)
    replayable = record {
      its = its_call;
      fields = λ r there. let one : Some it.row ≡ Some r = sym row_is ∙ there in let same : it.row ≡ r = cc one in subst (λ x. length x.fields ≤ 8) same it.fields;
      may = it.may;
      good = it.good;
      answered = it.answered;
      first = λ one. it.first (empty it.done (omega (arith, one, number_is)));
    }
      where
        empty : (ds : List ℕ) → length ds ≡ 0 → ds ≡ []
        empty [] is = refl
        empty (d ∷ ds) is = absurd (omega (arith, is))

    module _ (shown : Call) (its : replay_of z.iface.facts e.tables.walks (row_at e.tracked.rows id) n ≡ Some shown) where
      shown_is : shown ≡ replayed_call z.iface.facts it.row (is_none it.done) it.fun
      shown_is = let one : Some shown ≡ Some (replayed_call z.iface.facts it.row (is_none it.done) it.fun) = sym its ∙ its_call in cc one

      asked_is : real_call e shown ≡ next_call z.iface.facts (pairs_of e.names.known) it.row it.done it.fun
      asked_is = ap (real_call e) shown_is

      its_item : (points : ℕ) (outcome : Outcome) → IsReplayItem z.iface.facts (stub_of e) id call.client it.row it.done it.fun (item_of_call (Walk id n call.client) shown (real_call e shown).desc points outcome)
      its_item points outcome = record { tag = ap (λ m. Walk id m call.client) number_is; shown = shown_is; real = refl }

      -- the service stopped within it
      module _ (points : ℕ) where
        abbrev stopped_item : Item
        stopped_item = item_of_call (Walk id n call.client) shown (real_call e shown).desc points Stopped

        pub struck_next : IsNextItem (stubs_of z) w.history (unanswered (standing w b boots (Some v))) (place_after [] (b ∷ boots) stopped_item)
        struck_next = replay_stopped_next z set w b boots v (stub_of e) k call let_in id left it stopped_item (its_item points Stopped) refl

        pub struck_keeps : (later : Stub) → KeepsPromise z (stopped_within (standing w b boots (Some v)) stopped_item points points) later
        struck_keeps later = replay_stopped z set w b boots v (stub_of e) k call let_in id left it stopped_item (its_item points Stopped) refl points points later

      -- and so the world as the engine shows it
      pub struck_shown : (start : Points) (new : Engined) (later : Points) → IsStruck z.ask z.parts v e id n call.client shown start new later → e.cell.run ≡ (standing w b boots (Some v)).run
          → KeepsPromise z (as_shown (standing w b boots (Some v)) new) (stub_of new)
      struck_shown start new later t run_is =
          subst (λ x. KeepsPromise z (record (standing w b boots (Some v)) { run = x; running = new.cell.running }) (stub_of new))
          (sym (t.notes.run ∙ ap (λ x. with_stop (with_item x (stopped_item later.asked) later.asked) later.asked) run_is))
          (subst (λ x. KeepsPromise z (record (standing w b boots (Some v)) { run = with_stop (with_item (standing w b boots (Some v)).run (stopped_item later.asked) later.asked) later.asked; running = x }) (stub_of new))
          (sym t.notes.running) (struck_keeps later.asked (stub_of new)))

      -- it was replayed
      module _ (start : Points) (new : Engined) (later : Points) (r : Replays z.iface.facts z.ask z.parts v e id n call.client shown start new later) (present : KeepsPresent e new) where
        abbrev replayed_item : Item
        replayed_item = item_of_call (Walk id n call.client) shown (real_call e shown).desc later.asked (Replied (Ok r.good) r.patch)

        good_is : r.good ≡ it.good
        good_is =
            let one : Some (Ok r.good) ≡ Some (Ok it.good) = sym r.notes.answers.answered ∙ ap (z.ask v) asked_is ∙ it.answered in
            cc one

        patch_is : r.patch ≡ None
        patch_is = r.notes.answers.written ∙ ap (λ g. patch_of z.iface.facts v (real_call e shown) (Ok g)) good_is ∙ ap (λ c. patch_of z.iface.facts v c (Ok it.good)) asked_is ∙ it.unwritten

        replied_is : replayed_item.outcome ≡ Replied (Ok it.good) None
        replied_is = ap (λ g. Replied (Ok g) r.patch) good_is ∙ ap (λ p. Replied (Ok it.good) p) patch_is

        new_is : it.done ≡ [] → told_of (named_at e.names.known id) ≡ fresh
        new_is = is_new z set w b boots v (stub_of e) k call let_in id left it.row it.its.there it.done it.rest it.fun it.its.walk it.its.told

        named_now : (x : ℕ) → named_at new.names.known x
            ≡ cond (x == id) (name_after (cond (is_none it.done) it.good.desc (real_or_zero (named_at e.names.known id))) n (length (it.done ++ it.fun ∷ it.rest))) (named_at e.names.known x)
        named_now x =
            r.names x
            ∙ ap (λ g. cond (x == id) (name_after (real_after (named_at e.names.known id) g.desc) n (walk_length e.tables.walks (row_at e.tracked.rows id))) (named_at e.names.known x)) good_is
            ∙ ap (λ real. cond (x == id) (name_after real n (walk_length e.tables.walks (row_at e.tracked.rows id))) (named_at e.names.known x))
            (real_next (named_at e.names.known id) it.done it.good.desc it.its.told it.part new_is)
            ∙ ap (λ last. cond (x == id) (name_after (cond (is_none it.done) it.good.desc (real_or_zero (named_at e.names.known id))) n last) (named_at e.names.known x))
            (ap (λ walks. walk_length walks (row_at e.tracked.rows id)) stands.walks ∙ ap (walk_length z.walks) row_is ∙ ap length_of it.its.walk)

        row_id : it.row.id ≡ id
        row_id = id_of_row (object_of z.iface.facts w.history).rows id it.row it.its.there

        tells_now : TellSame (replayed_stub (stub_of e) id it.row it.done it.rest it.good) (stub_of new)
        tells_now = record {
          names = λ x. named_in_pairs new.names.known x ∙ ap real_or_zero (named_now x) ∙ names_by x (eqb_tells x id) (is_none it.done) ∙ sym (names_put it.done x);
          told = λ x. ap told_of (named_now x) ∙ told_by x (x == id);
          present = present;
        }
          where
            names_put : (ds : List ℕ) (x : ℕ) → named (names_after (pairs_of e.names.known) it.row ds it.good) x
                ≡ cond (is_none ds) (cond (it.row.id == x) it.good.desc (named (pairs_of e.names.known) x)) (named (pairs_of e.names.known) x)
            names_put [] x = refl
            names_put (d ∷ ds) x = refl

            names_by : (x : ℕ) → (((x == id) ≡ true) × (x ≡ id)) ⊎ (((x == id) ≡ false) × (x ≢ id)) → (t : Bool)
                → real_or_zero (cond (x == id) (name_after (cond t it.good.desc (real_or_zero (named_at e.names.known id))) n (length (it.done ++ it.fun ∷ it.rest))) (named_at e.names.known x))
                ≡ cond t (cond (it.row.id == x) it.good.desc (named (pairs_of e.names.known) x)) (named (pairs_of e.names.known) x)
            names_by x (inl same) t =
                ap (λ c. real_or_zero (cond c (name_after (cond t it.good.desc (real_or_zero (named_at e.names.known id))) n (length (it.done ++ it.fun ∷ it.rest))) (named_at e.names.known x))) same.0
                ∙ real_named_after (cond t it.good.desc (real_or_zero (named_at e.names.known id))) n (length (it.done ++ it.fun ∷ it.rest)) ∙ by t
              where
                by : (t : Bool) → cond t it.good.desc (real_or_zero (named_at e.names.known id)) ≡ cond t (cond (it.row.id == x) it.good.desc (named (pairs_of e.names.known) x)) (named (pairs_of e.names.known) x)
                by true = sym (ap (λ c. cond c it.good.desc (named (pairs_of e.names.known) x)) (same_test it.row.id x (row_id ∙ sym same.1)))
                by false = ap (λ y. real_or_zero (named_at e.names.known y)) (sym same.1) ∙ sym (named_in_pairs e.names.known x)
            names_by x (inr apart) t =
                ap (λ c. real_or_zero (cond c (name_after (cond t it.good.desc (real_or_zero (named_at e.names.known id))) n (length (it.done ++ it.fun ∷ it.rest))) (named_at e.names.known x))) apart.0
                ∙ sym (named_in_pairs e.names.known x) ∙ by t
              where
                by : (t : Bool) → named (pairs_of e.names.known) x ≡ cond t (cond (it.row.id == x) it.good.desc (named (pairs_of e.names.known) x)) (named (pairs_of e.names.known) x)
                by true = sym (ap (λ c. cond c it.good.desc (named (pairs_of e.names.known) x)) (other_test it.row.id x (λ same. apart.1 (sym same ∙ row_id))))
                by false = refl

            told_by : (x : ℕ) (t : Bool)
                → told_of (cond t (name_after (cond (is_none it.done) it.good.desc (real_or_zero (named_at e.names.known id))) n (length (it.done ++ it.fun ∷ it.rest))) (named_at e.names.known x))
                ≡ cond t (so_far it.rest (suc (length it.done))) (told_of (named_at e.names.known x))
            told_by x true = told_next (cond (is_none it.done) it.good.desc (real_or_zero (named_at e.names.known id))) n it.done it.rest it.fun number_is
            told_by x false = refl

        -- its item is the next, and the world keeps what it keeps
        pub replays_next : IsNextItem (stubs_of z) w.history (unanswered (standing w b boots (Some v))) (place_after [] (b ∷ boots) replayed_item)
        replays_next = replayed_next z set w b boots v (stub_of e) k call let_in id left it replayed_item (its_item later.asked (Replied (Ok r.good) r.patch)) replied_is

        pub replays_keeps : KeepsPromise z (with_noted (standing w b boots (Some v)) replayed_item later.asked (after z.iface.facts v (real_call e shown) (Ok r.good)) w.seats) (stub_of new)
        replays_keeps =
            subst (λ o. KeepsPromise z (with_noted (standing w b boots (Some v)) replayed_item later.asked o w.seats) (stub_of new))
            (ap (λ c. after z.iface.facts v c (Ok it.good)) (sym asked_is) ∙ ap (λ g. after z.iface.facts v (real_call e shown) (Ok g)) (sym good_is))
            (keeps_alike z (with_noted (standing w b boots (Some v)) replayed_item later.asked (after z.iface.facts v (next_call z.iface.facts (pairs_of e.names.known) it.row it.done it.fun) (Ok it.good)) w.seats)
            (replayed_stub (stub_of e) id it.row it.done it.rest it.good) (stub_of new) tells_now
            (replayed z set w b boots v (stub_of e) k call let_in id left it replayed_item (its_item later.asked (Replied (Ok r.good) r.patch)) replied_is later.asked))

        -- and so the world as the engine shows it
        pub replays_shown : e.cell.run ≡ (standing w b boots (Some v)).run → KeepsPromise z (as_shown (standing w b boots (Some v)) new) (stub_of new)
        replays_shown run_is =
            subst (λ x. KeepsPromise z (record (standing w b boots (Some v)) { run = x; running = new.cell.running }) (stub_of new)) (sym (r.notes.run ∙ ap (λ x. with_item x replayed_item later.asked) run_is))
            (subst (λ x. KeepsPromise z (record (standing w b boots (Some v)) { run = with_item (standing w b boots (Some v)).run replayed_item later.asked; running = x }) (stub_of new)) (sym r.notes.running) replays_keeps)

  -- ---- a file is loaded

  module _ (due : missing e needs_now ≡ Some ToLoad) (key : List ℕ) (its : needs_now.file ≡ Some key) (points : ℕ) where
    to_load : IsLeftToLoad z (standing w b boots (Some v)) (stub_of e) call key
    to_load =
        let file = left_to_load z set (standing w b boots (Some v)) e stands call due in
        let one : Some file.0 ≡ Some key = sym file.1.file ∙ its in
        let same : file.0 ≡ key = cc one in
        subst (IsLeftToLoad z (standing w b boots (Some v)) (stub_of e) call) same file.1

    abbrev loaded_item : Item
    loaded_item = item_of_load call.client points key (bytes_of e.stored key)

    its_load : IsLoadItem call.client key (file_at (object_of z.iface.facts w.history).files key) loaded_item
    its_load = ap (item_of_load call.client points key) (stands.files key)

    -- its item is the next, and the world keeps what it keeps
    pub loads_next : IsNextItem (stubs_of z) w.history (unanswered (standing w b boots (Some v))) (place_after [] (b ∷ boots) loaded_item)
    loads_next = loaded_next z set w b boots v (stub_of e) k call let_in key to_load loaded_item its_load

    module _ (new : Engined) (l : Loads z.iface.facts v e call.client key points new) where
      tells_loaded : TellSame (loaded_stub (stub_of e) key) (stub_of new)
      tells_loaded = record {
        names = λ x. named_in_pairs new.names.known x ∙ ap real_or_zero (l.names x) ∙ sym (named_in_pairs e.names.known x);
        told = λ x. ap told_of (l.names x);
        present = λ path. l.present path ∙ turned_or (bytes_eq path key) (is_present e.present path) ∙ ap (λ t. is_present e.present path || t) (turned path key);
      }

      pub loads_keeps : KeepsPromise z (with_noted (standing w b boots (Some v)) loaded_item points (loaded z.iface.facts v key (bytes_of e.stored key)) w.seats) (stub_of new)
      loads_keeps =
          subst (λ bytes. KeepsPromise z (with_noted (standing w b boots (Some v)) loaded_item points (loaded z.iface.facts v key bytes) w.seats) (stub_of new)) (sym (stands.files key))
          (keeps_alike z (with_noted (standing w b boots (Some v)) loaded_item points (loaded z.iface.facts v key (file_at (object_of z.iface.facts w.history).files key)) w.seats)
          (loaded_stub (stub_of e) key) (stub_of new) tells_loaded (file_loaded z set w b boots v (stub_of e) k call let_in key to_load loaded_item its_load points))

      -- and so the world as the engine shows it
      pub loads_shown : e.cell.run ≡ (standing w b boots (Some v)).run → KeepsPromise z (as_shown (standing w b boots (Some v)) new) (stub_of new)
      loads_shown run_is =
          subst (λ x. KeepsPromise z (record (standing w b boots (Some v)) { run = x; running = new.cell.running }) (stub_of new)) (sym (l.run ∙ ap (λ x. with_item x loaded_item points) run_is))
          (subst (λ x. KeepsPromise z (record (standing w b boots (Some v)) { run = with_item (standing w b boots (Some v)).run loaded_item points; running = x }) (stub_of new)) (sym l.running) loads_keeps)

  -- ---- what is missing may be done

  pub may_advance : (todo : Todo) → e.cell.running ≡ Some v → missing e needs_now ≡ Some todo → MayAdvance z.iface.facts z.ask e needs_now.file todo
  may_advance todo up due = record {
    held = v;
    up = up;
    ids = needs_now.ids;
    due = due;
    walk = λ id n is. let now = due ∙ ap (λ t. Some t) is in
        (replayed_call z.iface.facts (it id n now).row (is_none (it id n now).done) (it id n now).fun, replayable id n now);
    load = λ is. let file = left_to_load z set (standing w b boots (Some v)) e stands call (due ∙ ap (λ t. Some t) is) in has_files z set w b boots v (stub_of e) k call let_in file.0 file.1;
  }

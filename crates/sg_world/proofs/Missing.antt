-- What an engine finds missing for a call is what is due in its world, as the trace tells it.
use Rattle.std.proofs.Common.{arith, Bool, List, None, Option, Some, [], ap, cond, false, filter, find, map, not, refl, subst, sym, true, ℕ, ◌+◌, ◌==◌, ◌||◌, ◌∙◌, ◌∷◌, ◌≡◌, append-nil}
use Rattle.sg_facts.specs.sg_base.declared.call.Call.{Call}
use Rattle.sg_facts.specs.sg_base.Lists.{Each}
use Rattle.sg_world.specs.Engines.Stubs.{stub_of, told_of}
use Rattle.sg_facts.specs.Needs.{is_wanted}
use Rattle.sg_facts.specs.Object.{Object, object_of}
use Rattle.sg_facts.specs.Track.{is_live}
use Rattle.sg_facts.specs.declared.row.Row.{Row}
use Rattle.sg_world_laws.specs.sg_recovery_laws.Midway.Progress.{TellsCalls, is_complete}
use Rattle.sg_replay.specs.sg_name.Names.{named_at}
use Rattle.sg_replay.specs.sg_name.declared.named.Named.{Named}
use Rattle.sg_replay.specs.sg_name.declared.named.Named.TheVariants.{Live, Partial, Unnamed}
use Rattle.sg_replay.specs.sg_name.declared.named.Standing.{Standing}
use Rattle.sg_world_laws.proofs.sg_recovery_laws.Lists.{each_map}
use Rattle.sg_replay.specs.sg_hist.Reading.{last_items, older_items}
use Rattle.sg_replay.specs.Engined.{Engined}
use Rattle.sg_replay.specs.Missing.{is_empty, is_whole, missing, missing_file, next_number, or_else, todo_of}
use Rattle.sg_replay.specs.declared.todo.Todo.TheVariants.{Load, Walk}
use Rattle.sg_clients.specs.WorldView.{WorldView, held_replies}
use Rattle.sg_replay.specs.sg_store.Stored.{bytes_of}
use Rattle.sg_world_laws.specs.sg_recovery_laws.LastItem.Told.{IsRead}
use Rattle.sg_facts.proofs.Replaying.Found.{same_test}
use Rattle.sg_world.specs.Due.{due, is_present_in, is_whole_in, needs_in, next_load, next_walk, replayed_in}
use Rattle.sg_world.specs.Worlded.{IsWorld, Rooms}
use Rattle.sg_world_laws.proofs.Struck.{no_drawn}
use Rattle.sg_world_laws.specs.Keeping.{Stands, StandsIn}
use Rattle.sg_world_laws.specs.Setting.{Setting}
use Rattle.std.specs.Option.{option_map}

-- ---- the first id of some that isn't whole

-- an id is as whole by one test as by another, and where it isn't, the same call comes next
abbrev IsAlike : (ℕ → Bool) → (ℕ → Bool) → (ℕ → ℕ) → (ℕ → ℕ) → ℕ → Type 0
IsAlike whole whole' next next' id = (whole id ≡ whole' id) × (whole' id ≡ false → next id ≡ next' id)

first_alike : (whole whole' : ℕ → Bool) (next next' : ℕ → ℕ) (ids : List ℕ) → Each (IsAlike whole whole' next next') ids
    → option_map (λ id. Walk id (next id)) (find (λ id. not (whole id)) ids) ≡ option_map (λ id. Walk id (next' id)) (find (λ id. not (whole' id)) ids)
first_alike whole whole' next next' [] each = refl
first_alike whole whole' next next' (id ∷ ids) each =
    ap (λ b. option_map (λ x. Walk x (next x)) (cond (not b) (Some id) (find (λ x. not (whole x)) ids))) each.0.0
    ∙ at (whole' id) refl (first_alike whole whole' next next' ids each.1)
  where
    at : (b : Bool) → whole' id ≡ b → option_map (λ x. Walk x (next x)) (find (λ x. not (whole x)) ids) ≡ option_map (λ x. Walk x (next' x)) (find (λ x. not (whole' x)) ids)
        → option_map (λ x. Walk x (next x)) (cond (not (whole' id)) (Some id) (find (λ x. not (whole x)) ids)) ≡ option_map (λ x. Walk x (next' x)) (cond (not (whole' id)) (Some id) (find (λ x. not (whole' x)) ids))
    at true is rest =
        ap (λ b. option_map (λ x. Walk x (next x)) (cond (not b) (Some id) (find (λ x. not (whole x)) ids))) is ∙ rest
        ∙ sym (ap (λ b. option_map (λ x. Walk x (next' x)) (cond (not b) (Some id) (find (λ x. not (whole' x)) ids))) is)
    at false is rest =
        ap (λ b. option_map (λ x. Walk x (next x)) (cond (not b) (Some id) (find (λ x. not (whole x)) ids))) is ∙ ap (λ n. Some (Walk id n)) (each.0.1 is)
        ∙ sym (ap (λ b. option_map (λ x. Walk x (next' x)) (cond (not b) (Some id) (find (λ x. not (whole' x)) ids))) is)

-- the ids of some of the rows are live
ids_live : (test : Row → Bool) (rows : List Row) → Each (λ id. is_live rows id ≡ true) (map (λ r. r.id) (filter test rows))
ids_live test rows = within rows rows (λ id live. live)
  where
    or_right : (a b : Bool) → b ≡ true → (a || b) ≡ true
    or_right true b is = refl
    or_right false b is = is

    within : (all rows : List Row) → ((id : ℕ) → is_live rows id ≡ true → is_live all id ≡ true) → Each (λ id. is_live all id ≡ true) (map (λ r. r.id) (filter test rows))
    within all [] live = tt
    within all (r ∷ rows) live = at (test r) (live r.id (own r rows)) (within all rows (λ id is. live id (or_right (r.id == id) (is_live rows id) is)))
      where
        own : (r : Row) (rows : List Row) → is_live (r ∷ rows) r.id ≡ true
        own r rows = ap (λ b. b || is_live rows r.id) (same_test r.id r.id refl)

        at : (b : Bool) → is_live all r.id ≡ true → Each (λ id. is_live all id ≡ true) (map (λ x. x.id) (filter test rows))
            → Each (λ id. is_live all id ≡ true) (map (λ x. x.id) (cond b (r ∷ filter test rows) (filter test rows)))
        at true own rest = (own, rest)
        at false own rest = rest

-- ---- what stands for an id

whole_is : (n : Named) → is_complete (told_of n) ≡ is_whole n
whole_is Unnamed = refl
whole_is (Partial real done) = refl
whole_is (Live real) = refl

next_is : (n : Named) (calls : ℕ) → TellsCalls (told_of n) calls → is_whole n ≡ false → next_number n ≡ calls + 1
next_is Unnamed calls tells part = omega (arith, tells)
next_is (Partial real done) calls tells part = omega (arith, tells)
next_is (Live real) calls tells part = absurd (cc part)

todo_is : (known : List (ℕ × Standing)) (found : Option ℕ) → todo_of known found ≡ option_map (λ id. Walk id (next_number (named_at known id))) found
todo_is known None = refl
todo_is known (Some id) = refl

-- ---- in a world

module _ (z : Setting) (e : Engined) (w : WorldView) (rooms : Rooms) (is : IsWorld z e w rooms) where
  abbrev o : Object
  o = object_of z.iface.facts w.history

  -- what the trace tells at its end
  abbrev Reads : Type 0
  Reads = IsRead z.iface.facts z.walks w.history (older_items [] w.run.boots) (last_items w.run.boots) (stub_of e).names (stub_of e).told (stub_of e).present (object_of z.iface.facts w.history).rows

  read_now : (v : Object) → w.running ≡ Some v → Reads
  read_now v up =
      let stands : Stands z w (stub_of e) v = subst (StandsIn z w (stub_of e)) up is.keeps.stands in
      subst (λ h. IsRead z.iface.facts z.walks h (older_items [] w.run.boots) (last_items w.run.boots) (stub_of e).names (stub_of e).told (stub_of e).present (object_of z.iface.facts w.history).rows) (append-nil w.history)
      (stands.read [] (no_drawn (held_replies w)))

  walks_are : Reads → (ids : List ℕ) → Each (λ id. is_live (object_of z.iface.facts w.history).rows id ≡ true) ids → next_walk z w ids ≡ todo_of e.names.known (find (λ id. not (is_whole (named_at e.names.known id))) ids)
  walks_are read ids live =
      first_alike (is_whole_in z w) (λ id. is_whole (named_at e.names.known id)) (λ id. replayed_in w id + 1) (λ id. next_number (named_at e.names.known id)) ids
      (each_map (λ id. is_live (object_of z.iface.facts w.history).rows id ≡ true) (IsAlike (is_whole_in z w) (λ id. is_whole (named_at e.names.known id)) (λ id. replayed_in w id + 1) (λ id. next_number (named_at e.names.known id))) ids
      (λ id lives. (read.whole id lives ∙ whole_is (named_at e.names.known id), λ part. sym (next_is (named_at e.names.known id) (replayed_in w id) (read.calls id lives) part))) live)
      ∙ sym (todo_is e.names.known (find (λ id. not (is_whole (named_at e.names.known id))) ids))

  load_is : Reads → (file : Option (List ℕ)) → next_load (object_of z.iface.facts w.history) w file ≡ missing_file e file
  load_is read None = refl
  load_is read (Some path) =
      ap (λ b. cond (b || is_present_in w path) None (Some Load)) (ap is_empty (sym (is.tracked.files path)))
      ∙ ap (λ b. cond (is_empty (bytes_of e.stored path) || b) None (Some Load)) (read.files path)

  -- what is due is what the engine finds missing
  pub due_is : (v : Object) → w.running ≡ Some v → (call : Call) → due z w call ≡ missing e (needs_in z w call)
  due_is v up call =
      let read : Reads = read_now v up in
      ap (λ t. or_else t (next_load (object_of z.iface.facts w.history) w (needs_in z w call).file))
      (walks_are read (needs_in z w call).ids (ids_live (is_wanted z.iface (object_of z.iface.facts w.history).rows call) (object_of z.iface.facts w.history).rows))
      ∙ ap (or_else (todo_of e.names.known (find (λ id. not (is_whole (named_at e.names.known id))) (needs_in z w call).ids))) (load_is read (needs_in z w call).file)

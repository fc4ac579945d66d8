-- What an engine finds missing for a call is what the world has to rebuild or load for it, and where nothing is missing all that is
-- wanted for it is there.
use Rattle.std.proofs.Common.{Bool, List, None, Option, Some, [], ap, cond, false, filter, find, inl, inr, map, not, refl, sym, true, ℕ, ◌==◌, ◌||◌, ◌∙◌, ◌∷◌, ◌≡◌, ◌≢◌, ◌⊎◌}
use Rattle.sg_world_laws.specs.Advancing.Advancing.{IsFirstLeft, IsLeftToLoad}
use Rattle.sg_facts.specs.sg_base.declared.call.Call.{Call}
use Rattle.sg_world.specs.Engines.Engines.{IsEngineOf}
use Rattle.sg_world.specs.Engines.Stubs.{stub_of, told_of}
use Rattle.sg_facts.specs.Needs.{is_wanted, wanted}
use Rattle.sg_facts.specs.Object.{Object, object_of, path_of}
use Rattle.sg_facts.specs.Track.{row_at}
use Rattle.sg_facts.specs.declared.row.Row.{Row}
use Rattle.sg_world_laws.specs.sg_recovery_laws.Midway.Progress.{complete, is_complete}
use Rattle.sg_replay.specs.sg_name.Names.{named_at}
use Rattle.sg_replay.specs.sg_name.declared.named.Named.{Named}
use Rattle.sg_replay.specs.sg_name.declared.named.Named.TheVariants.{Live, Partial, Unnamed}
use Rattle.sg_replay.specs.sg_name.declared.named.Standing.{Standing}
use Rattle.sg_replay.specs.Engined.{Engined}
use Rattle.sg_replay.specs.Missing.{is_empty, is_whole, missing, missing_file, missing_row, next_number, or_else, todo_of}
use Rattle.sg_replay.specs.Present.{is_present}
use Rattle.sg_replay.specs.declared.todo.Todo.{Todo}
use Rattle.sg_clients.specs.WorldView.{WorldView}
use Rattle.sg_replay.specs.sg_store.Stored.{bytes_of}
use Rattle.sg_world_laws.proofs.LetIn.{desc_there}
use Rattle.sg_world_laws.specs.Setting.{IsSetting, Setting}
use Rattle.sg_world_laws.specs.Turns.{HasAll, IsLetIn, IsThere}
use Rattle.sg_replay.specs.declared.todo.Todo.TheVariants.{Walk as ToWalk, Load as ToLoad}

-- ---- ids

-- where no id of wanted rows passes a test, that of a wanted row doesn't
none_left : (test : Row → Bool) (f : ℕ → Bool) (rows : List Row) (id : ℕ) (r : Row) → find f (map (λ x. x.id) (filter test rows)) ≡ None → row_at rows id ≡ Some r → test r ≡ true → f r.id ≡ false
none_left test f [] id r none there passes = absurd (cc there)
none_left test f (x ∷ rows) id r none there passes = at (test x) refl none (none_left test f rows id r)
  where
    here : (b : Bool) → (x.id == id) ≡ b → (x ≡ r → f r.id ≡ false) → (row_at rows id ≡ Some r → f r.id ≡ false) → f r.id ≡ false
    here true is own later = let one : Some x ≡ Some r = sym (ap (λ b. cond b (Some x) (row_at rows id)) is) ∙ there in own (cc one)
    here false is own later = later (sym (ap (λ b. cond b (Some x) (row_at rows id)) is) ∙ there)

    found : (b : Bool) → f x.id ≡ b → cond b (Some x.id) (find f (map (λ y. y.id) (filter test rows))) ≡ None
        → (find f (map (λ y. y.id) (filter test rows)) ≡ None → row_at rows id ≡ Some r → test r ≡ true → f r.id ≡ false) → f r.id ≡ false
    found true f_is empty rest = absurd (cc empty)
    found false f_is empty rest = here (x.id == id) refl (λ same. ap (λ y. f y.id) (sym same) ∙ f_is) (λ later. rest empty later passes)

    at : (b : Bool) → test x ≡ b → find f (map (λ y. y.id) (cond b (x ∷ filter test rows) (filter test rows))) ≡ None
        → (find f (map (λ y. y.id) (filter test rows)) ≡ None → row_at rows id ≡ Some r → test r ≡ true → f r.id ≡ false) → f r.id ≡ false
    at true is empty rest = found (f x.id) refl empty rest
    at false is empty rest =
        here (x.id == id) refl (λ same. absurd (let wrong : false ≡ true = sym is ∙ ap test same ∙ passes in cc wrong)) (λ later. rest empty later passes)

find_alike : (f g : ℕ → Bool) (ids : List ℕ) → ((id : ℕ) → f id ≡ g id) → find f ids ≡ find g ids
find_alike f g [] same = refl
find_alike f g (id ∷ ids) same = ap (λ b. cond b (Some id) (find f ids)) (same id) ∙ ap (λ x. cond (g id) (Some id) x) (find_alike f g ids same)

-- ---- what stands for an id

whole_told : (n : Named) → not (is_whole n) ≡ false → told_of n ≡ complete
whole_told Unnamed is = absurd (cc is)
whole_told (Partial real done) is = absurd (cc is)
whole_told (Live real) is = refl

told_whole : (n : Named) → not (is_complete (told_of n)) ≡ not (is_whole n)
told_whole Unnamed = refl
told_whole (Partial real done) = refl
told_whole (Live real) = refl

-- ---- what is missing

none_of_both : (a b : Option Todo) → or_else a b ≡ None → (a ≡ None) × (b ≡ None)
none_of_both None b is = (refl, is)
none_of_both (Some todo) b is = absurd (cc is)

no_id : (known : List (ℕ × Standing)) (found : Option ℕ) → todo_of known found ≡ None → found ≡ None
no_id known None is = refl
no_id known (Some id) is = absurd (cc is)

-- an id's walk comes of the rows
walk_first : (e : Engined) (found : Option ℕ) (file : Option (List ℕ)) (id n : ℕ) → or_else (todo_of e.names.known found) (missing_file e file) ≡ Some (ToWalk id n)
    → (found ≡ Some id) × (n ≡ next_number (named_at e.names.known id))
walk_first e None None id n is = absurd (cc is)
walk_first e None (Some key) id n is = absurd (no_walk (is_empty (bytes_of e.stored key) || is_present e.present key) is)
  where
    no_walk : (b : Bool) → cond b None (Some ToLoad) ≡ Some (ToWalk id n) → ⊥
    no_walk true is = cc is
    no_walk false is = cc is
walk_first e (Some i) file id n is =
    let ids : i ≡ id = cc is in
    let numbers : next_number (named_at e.names.known i) ≡ n = cc is in
    (ap (λ x. Some x) ids, sym numbers ∙ ap (λ x. next_number (named_at e.names.known x)) ids)

-- a file that is to be loaded has bytes and isn't present
pub record IsUnloaded (e : Engined) (file : Option (List ℕ)) : Type 0 where
  pub key : List ℕ
  pub its : file ≡ Some key
  pub absent : is_present e.present key ≡ false
  pub some : bytes_of e.stored key ≢ []

load_first : (e : Engined) (found : Option ℕ) (file : Option (List ℕ)) → or_else (todo_of e.names.known found) (missing_file e file) ≡ Some ToLoad → (found ≡ None) × IsUnloaded e file
load_first e (Some id) file is = absurd (cc is)
load_first e None None is = absurd (cc is)
load_first e None (Some key) is = (refl, by (is_empty (bytes_of e.stored key)) (is_present e.present key) refl refl is)
  where
    by : (a b : Bool) → is_empty (bytes_of e.stored key) ≡ a → is_present e.present key ≡ b → cond (a || b) None (Some ToLoad) ≡ Some ToLoad → IsUnloaded e (Some key)
    by true b empty present is = absurd (cc is)
    by false true empty present is = absurd (cc is)
    by false false empty present is =
        record { key = key; its = refl; absent = present; some = λ none. absurd (let wrong : true ≡ false = ap is_empty (sym none) ∙ empty in cc wrong) }

file_there : (e : Engined) (key : List ℕ) → missing_file e (Some key) ≡ None → (is_present e.present key ≡ true) ⊎ (bytes_of e.stored key ≡ [])
file_there e key is = by (is_empty (bytes_of e.stored key)) (is_present e.present key) refl refl is
  where
    empty_is : (bytes : List ℕ) → is_empty bytes ≡ true → bytes ≡ []
    empty_is [] is = refl
    empty_is (b ∷ bytes) is = absurd (cc is)

    by : (a b : Bool) → is_empty (bytes_of e.stored key) ≡ a → is_present e.present key ≡ b → cond (a || b) None (Some ToLoad) ≡ None → (is_present e.present key ≡ true) ⊎ (bytes_of e.stored key ≡ [])
    by true b empty present is = inr (empty_is (bytes_of e.stored key) empty)
    by false true empty present is = inl present
    by false false empty present is = absurd (cc is)

-- ---- in a world

module _ (z : Setting) (set : IsSetting z) (w : WorldView) (e : Engined) (stores : IsEngineOf z w e) (call : Call) where
  abbrev o : Object
  o = object_of z.iface.facts w.history

  -- a row that is wanted is whole where none is left
  rows_whole : find (λ id. not (is_whole (named_at e.names.known id))) (wanted z.iface o call).ids ≡ None
      → (r : Row) → row_at o.rows r.id ≡ Some r → is_wanted z.iface o.rows call r ≡ true → (stub_of e).told r.id ≡ complete
  rows_whole none r there want = whole_told (named_at e.names.known r.id) (none_left (is_wanted z.iface o.rows call) (λ id. not (is_whole (named_at e.names.known id))) o.rows r.id r none there want)

  -- where nothing is missing, all that is wanted for the call is there
  pub has_all : IsLetIn z w call → missing e (wanted z.iface o call) ≡ None → HasAll z w (stub_of e) call
  has_all let_in none =
      let both = none_of_both (missing_row e.names.known (wanted z.iface o call).ids) (missing_file e (wanted z.iface o call).file) none in
      record {
        rows = rows_whole (no_id e.names.known (find (λ id. not (is_whole (named_at e.names.known id))) (wanted z.iface o call).ids) both.0);
        file = λ uses. there (file_there e (path_of o.rows call.desc) (sym (ap (λ t. missing_file e (cond t (Some (path_of o.rows call.desc)) None)) uses) ∙ both.1));
        desc = desc_there z.iface o call let_in.passes.is_call set.law.shape.shape let_in.guarded;
      }
    where
      there : (is_present e.present (path_of o.rows call.desc) ≡ true) ⊎ (bytes_of e.stored (path_of o.rows call.desc) ≡ []) → IsThere (stub_of e) o (path_of o.rows call.desc)
      there (inl present) = inl present
      there (inr empty) = inr (sym (stores.files (path_of o.rows call.desc)) ∙ empty)

  -- a walk that is missing is that of the first row that is left, and its next call
  pub first_left : (id n : ℕ) → missing e (wanted z.iface o call) ≡ Some (ToWalk id n) → IsFirstLeft z w (stub_of e) call id × (n ≡ next_number (named_at e.names.known id))
  first_left id n is =
      let first = walk_first e (find (λ a. not (is_whole (named_at e.names.known a))) (wanted z.iface o call).ids) (wanted z.iface o call).file id n is in
      (find_alike (λ a. not (is_complete ((stub_of e).told a))) (λ a. not (is_whole (named_at e.names.known a))) (wanted z.iface o call).ids (λ a. told_whole (named_at e.names.known a)) ∙ first.0, first.1)

  -- a file that is missing is to be loaded
  pub left_to_load : missing e (wanted z.iface o call) ≡ Some ToLoad → (key : List ℕ) × IsLeftToLoad z w (stub_of e) call key
  left_to_load is =
      let first = load_first e (find (λ a. not (is_whole (named_at e.names.known a))) (wanted z.iface o call).ids) (wanted z.iface o call).file is in
      let file = first.1 in (
        file.key,
        record {
          rows = rows_whole first.0;
          file = file.its;
          absent = file.absent;
          some = λ none. file.some (stores.files file.key ∙ none);
        },
      )

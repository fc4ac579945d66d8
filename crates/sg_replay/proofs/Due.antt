-- What is due, and a file that was loaded.
use Rattle.std.proofs.Common.{◌≡◌, ℕ, Bool, true, false, cond, not, ◌||◌, List, [], ◌∷◌, None, Some, IsSome, Result, Ok, Err, refl, sym, ◌∙◌, ap, subst, arith, find}
use Rattle.std.specs.declared.option.Option.{Option}
use Rattle.sg_facts.specs.sg_base.declared.memory.NoMemory.{NoMemory}
use Rattle.sg_facts.specs.Facts.{Facts}
use Rattle.sg_facts.specs.Invoke.{loaded}
use Rattle.sg_facts.specs.Needs.{Needs}
use Rattle.sg_facts.specs.Object.{Object, set_file}
use Rattle.sg_name.specs.Names.{named_at}
use Rattle.sg_name.specs.declared.named.Standing.{Standing}
use Rattle.sg_store.specs.Stored.{bytes_of}
use Rattle.sg_replay.specs.declared.advance.Advanced.{Advanced}
use Rattle.sg_replay.specs.declared.advance.Advanced.TheVariants.{Replayed, Loaded, Struck}
use Rattle.sg_replay.specs.declared.todo.Todo.TheVariants.{Walk, Load}
use Rattle.sg_replay.specs.Engined.{AreGiven, Engined}
use Rattle.sg_replay.specs.Missing.{is_empty, is_whole, missing, missing_file, next_number, or_else, todo_of}
use Rattle.sg_replay.specs.Present.{is_present}
use Rattle.sg_replay.specs.Replaying.{LoadsOne}

-- ---- the next call of a walk

found_passes : (test : ℕ → Bool) (xs : List ℕ) (x : ℕ) → find test xs ≡ Some x → test x ≡ true
found_passes test [] x is = absurd (cc is)
found_passes test (y ∷ xs) x is = at (test y) refl (found_passes test xs x) is
  where
    at : (b : Bool) → test y ≡ b → (find test xs ≡ Some x → test x ≡ true) → cond b (Some y) (find test xs) ≡ Some x → test x ≡ true
    at true here rest is = let one : y ≡ x = cc is in ap test (sym one) ∙ here
    at false here rest is = rest is

not_whole : (b : Bool) → not b ≡ true → b ≡ false
not_whole true is = absurd (cc is)
not_whole false is = refl

-- a row that is due isn't whole, and its call is the next of its walk
pub due_walk : (e : Engined) (needs : Needs) (id k : ℕ) → missing e needs ≡ Some (Walk id k) → (is_whole (named_at e.names.known id) ≡ false) × (k ≡ next_number (named_at e.names.known id))
due_walk e needs id k is = at (find (λ x. not (is_whole (named_at known x))) needs.ids) refl is
  where
    known : List (ℕ × Standing)
    known = e.names.known

    no_load : (file : Option (List ℕ)) → missing_file e file ≡ Some (Walk id k) → ⊥
    no_load None is = cc is
    no_load (Some key) is = by (is_empty (bytes_of e.stored key) || is_present e.present key) is
      where
        by : (b : Bool) → cond b None (Some Load) ≡ Some (Walk id k) → ⊥
        by true is = cc is
        by false is = cc is

    at : (found : Option ℕ) → find (λ x. not (is_whole (named_at known x))) needs.ids ≡ found → or_else (todo_of known found) (missing_file e needs.file) ≡ Some (Walk id k)
        → (is_whole (named_at known id) ≡ false) × (k ≡ next_number (named_at known id))
    at None found is = absurd (no_load needs.file is)
    at (Some x) found is =
        let both : Walk x (next_number (named_at known x)) ≡ Walk id k = cc is in
        let one : x ≡ id = cc both in
        let number : next_number (named_at known x) ≡ k = cc both in (
          ap (λ i. is_whole (named_at known i)) (sym one) ∙ not_whole (is_whole (named_at known x)) (found_passes (λ i. not (is_whole (named_at known i))) needs.ids x found),
          sym number ∙ ap (λ i. next_number (named_at known i)) one,
        )

-- ---- a file that was loaded

loaded_given : (facts : Facts) (held : Object) (key bytes : List ℕ) → (loaded facts held key bytes).given ≡ held.given
loaded_given facts held key bytes = at facts.resc_data
  where
    at : (b : Bool) → (cond b (record held { files = set_file held.files key bytes }) held).given ≡ held.given
    at true = refl
    at false = refl

-- no id was given
pub given_loaded : (facts : Facts) (running running' : Option Object) (known : List (ℕ × Standing)) (key bytes : List ℕ) → IsSome running → AreGiven running known
    → ((held : Object) → running ≡ Some held → running' ≡ Some (loaded facts held key bytes)) → AreGiven running' known
given_loaded facts None running' known key bytes up given load = absurd (cc up)
given_loaded facts (Some held) running' known key bytes up given load =
    subst (λ r. AreGiven r known) (sym (load held refl)) (λ id real is.
    let within = given id real is in
    let same = loaded_given facts held key bytes in
    (within.0, omega (arith, within.1, same)))

-- whatever struck before
pub loads_at : (facts : Facts) (held : Object) (old : Engined) (client : ℕ) (key : List ℕ) (asked : ℕ) (struck : List ℕ) (answer : Result Advanced NoMemory) (new : Engined)
    → LoadsOne facts held old client key (record { asked = asked; struck = [] }) answer new (record { asked = asked; struck = [] })
    → LoadsOne facts held old client key (record { asked = asked; struck = struck }) answer new (record { asked = asked; struck = struck })
loads_at facts held old client key asked struck (Ok Loaded) new is = (is.0, refl)
loads_at facts held old client key asked struck (Ok Replayed) new is = absurd is
loads_at facts held old client key asked struck (Ok Struck) new is = absurd is
loads_at facts held old client key asked struck (Err error) new is = (record { unasked = refl; running = is.0.running; run = is.0.run; names = is.0.names }, is.1)

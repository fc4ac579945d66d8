-- The rows that entries stand for, when an entry is looked up, comes, is set or goes.
use Rattle.std.proofs.Common.{◌≡◌, ℕ, ◌≤◌, Bool, true, false, cond, not, nat_eq, List, [], ◌∷◌, ◌++◌, Some, map, filter, refl, sym, ◌∙◌, ap, arith}
use Rattle.std.specs.Prelude.{◌==◌, ◌||◌, if◌then◌else◌}
use Rattle.std.specs.Option.{option_map, is_some}
use Rattle.std.proofs.lemmas.Bool.Decides.{nat_tests}
use Rattle.sg_facts.specs.declared.row.Row.{Row}
use Rattle.sg_facts.specs.Track.{row_at, is_live}
use Rattle.sg_slots.specs.Slots.{AreIds, Body, entry_at, set_entry, without, row_with, rows_of}

-- a test of two numbers, the other way round
eq_turned : (m n : ℕ) → (m == n) ≡ nat_eq n m
eq_turned m n = grind (arith, nat_tests)

eq_true : (m n : ℕ) → (m == n) ≡ true → m ≡ n
eq_true m n is = grind (arith, nat_tests)

module _ {E : Type 0} (body : E → Body) where
  -- the row of an id is that of its entry
  pub row_at-rows_of : (es : List (ℕ × E)) (id : ℕ) → row_at (rows_of body es) id ≡ option_map (λ e. row_with id (body e)) (entry_at es id)
  row_at-rows_of [] id = refl
  row_at-rows_of (e ∷ es) id = at (e.0 == id) (eq_true e.0 id) (row_at-rows_of es id) ∙ ap (λ b. option_map (λ x. row_with id (body x)) (cond b (Some e.1) (entry_at es id))) (eq_turned e.0 id)
    where
      at : (b : Bool) → (b ≡ true → e.0 ≡ id) → row_at (rows_of body es) id ≡ option_map (λ x. row_with id (body x)) (entry_at es id)
          → cond b (Some (row_with e.0 (body e.1))) (row_at (rows_of body es) id) ≡ option_map (λ x. row_with id (body x)) (cond b (Some e.1) (entry_at es id))
      at true here rest = ap (λ i. Some (row_with i (body e.1))) (here refl)
      at false here rest = rest

  pub is_live-rows_of : (es : List (ℕ × E)) (id : ℕ) → is_live (rows_of body es) id ≡ is_some (entry_at es id)
  is_live-rows_of [] id = refl
  is_live-rows_of (e ∷ es) id = at (e.0 == id) (is_live-rows_of es id) ∙ ap (λ b. is_some (cond b (Some e.1) (entry_at es id))) (eq_turned e.0 id)
    where
      at : (b : Bool) → is_live (rows_of body es) id ≡ is_some (entry_at es id) → (b || is_live (rows_of body es) id) ≡ is_some (cond b (Some e.1) (entry_at es id))
      at true rest = refl
      at false rest = rest

  -- a row goes last
  pub rows_of-more : (es : List (ℕ × E)) (id : ℕ) (e : E) → rows_of body (es ++ (id, e) ∷ []) ≡ rows_of body es ++ row_with id (body e) ∷ []
  rows_of-more [] id e = refl
  rows_of-more (x ∷ es) id e = ap (λ l. row_with x.0 (body x.1) ∷ l) (rows_of-more es id e)

  -- rows above an id aren't changed by what changes its row
  unchanged : (low high id : ℕ) (change : Row → Row) (es : List (ℕ × E)) → id ≤ low → AreIds low high es
      → rows_of body es ≡ map (λ r. if r.id == id then change r else r) (rows_of body es)
  unchanged low high id change [] le ids = refl
  unchanged low high id change (e ∷ es) le ids =
      let other : (e.0 == id) ≡ false = grind (arith, nat_tests, ids.0) in
      ap (λ l. row_with e.0 (body e.1) ∷ l) (unchanged e.0 high id change es (omega (arith, ids.0)) ids.2)
      ∙ ap (λ b. cond b (change (row_with e.0 (body e.1))) (row_with e.0 (body e.1)) ∷ map (λ r. if r.id == id then change r else r) (rows_of body es)) (sym other)

  -- a row is changed in its place
  pub rows_of-set : (low high id : ℕ) (change : Row → Row) (es : List (ℕ × E)) (old new : E) → AreIds low high es → entry_at es id ≡ Some old
      → change (row_with id (body old)) ≡ row_with id (body new)
      → rows_of body (set_entry es id new) ≡ map (λ r. if r.id == id then change r else r) (rows_of body es)
  rows_of-set low high id change [] old new ids there is = absurd (cc there)
  rows_of-set low high id change (e ∷ es) old new ids there is =
      at (e.0 == id) (eq_true e.0 id) (sym (eq_turned e.0 id)) (λ rest. rows_of-set e.0 high id change es old new ids.2 rest is)
    where
      at : (b : Bool) → (b ≡ true → e.0 ≡ id) → nat_eq id e.0 ≡ b
          → (entry_at es id ≡ Some old → rows_of body (set_entry es id new) ≡ map (λ r. if r.id == id then change r else r) (rows_of body es))
          → rows_of body (set_entry (e ∷ es) id new) ≡ cond b (change (row_with e.0 (body e.1))) (row_with e.0 (body e.1)) ∷ map (λ r. if r.id == id then change r else r) (rows_of body es)
      at true here turned further =
          let same : Some e.1 ≡ Some old = sym (ap (λ b. cond b (Some e.1) (entry_at es id)) turned) ∙ there in
          let is_old : e.1 ≡ old = cc same in
          ap (λ b. rows_of body (cond b ((e.0, new) ∷ es) (e ∷ set_entry es id new))) turned
          ∙ ap (λ i. row_with i (body new) ∷ rows_of body es) (here refl) ∙ ap (λ r. r ∷ rows_of body es) (sym is)
          ∙ ap (λ x. change (row_with id (body x)) ∷ rows_of body es) (sym is_old) ∙ ap (λ i. change (row_with i (body e.1)) ∷ rows_of body es) (sym (here refl))
          ∙ ap (λ l. change (row_with e.0 (body e.1)) ∷ l) (unchanged e.0 high id change es (omega (arith, here refl)) ids.2)
      at false here turned further =
          let rest : entry_at es id ≡ Some old = sym (ap (λ b. cond b (Some e.1) (entry_at es id)) turned) ∙ there in
          ap (λ b. rows_of body (cond b ((e.0, new) ∷ es) (e ∷ set_entry es id new))) turned
          ∙ ap (λ l. row_with e.0 (body e.1) ∷ l) (further rest)

  -- rows above an id stay when its row goes
  kept : (low high id : ℕ) (es : List (ℕ × E)) → id ≤ low → AreIds low high es → rows_of body es ≡ filter (λ r. not (r.id == id)) (rows_of body es)
  kept low high id [] le ids = refl
  kept low high id (e ∷ es) le ids =
      let other : (e.0 == id) ≡ false = grind (arith, nat_tests, ids.0) in
      ap (λ l. row_with e.0 (body e.1) ∷ l) (kept e.0 high id es (omega (arith, ids.0)) ids.2)
      ∙ ap (λ b. cond (not b) (row_with e.0 (body e.1) ∷ filter (λ r. not (r.id == id)) (rows_of body es)) (filter (λ r. not (r.id == id)) (rows_of body es))) (sym other)

  -- a row goes
  pub rows_of-without : (low high id : ℕ) (es : List (ℕ × E)) → AreIds low high es → rows_of body (without es id) ≡ filter (λ r. not (r.id == id)) (rows_of body es)
  rows_of-without low high id [] ids = refl
  rows_of-without low high id (e ∷ es) ids = at (e.0 == id) (eq_true e.0 id) (sym (eq_turned e.0 id)) (rows_of-without e.0 high id es ids.2)
    where
      at : (b : Bool) → (b ≡ true → e.0 ≡ id) → nat_eq id e.0 ≡ b
          → rows_of body (without es id) ≡ filter (λ r. not (r.id == id)) (rows_of body es)
          → rows_of body (without (e ∷ es) id) ≡ cond (not b) (row_with e.0 (body e.1) ∷ filter (λ r. not (r.id == id)) (rows_of body es)) (filter (λ r. not (r.id == id)) (rows_of body es))
      at true here turned rest = ap (λ b. rows_of body (cond b es (e ∷ without es id))) turned ∙ kept e.0 high id es (omega (arith, here refl)) ids.2
      at false here turned rest = ap (λ b. rows_of body (cond b es (e ∷ without es id))) turned ∙ ap (λ l. row_with e.0 (body e.1) ∷ l) rest

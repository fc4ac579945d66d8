-- The entry that goes first in an order, and the row that goes before all others.
use Rattle.std.proofs.Common.{◌≡◌, ℕ, Bool, true, false, List, [], ◌∷◌, None, Some, refl, sym, ◌∙◌, ap, subst}
use Rattle.std.specs.declared.option.Option.{Option}
use Rattle.std.specs.Option.{option_map}
use Rattle.sg_facts.specs.declared.row.Row.{Row}
use Rattle.sg_facts.specs.Sound.{AreRows}
use Rattle.sg_facts.specs.Track.{row_at}
use Rattle.sg_slots.specs.Slots.{AreIds, Body, entry_at, row_with, rows_of}
use Rattle.sg_slots.proofs.Rows.{row_at-rows_of}
use Rattle.sg_slots.proofs.FoundRows.{all_rows}
use Rattle.sg_slots.specs.declared.standing.Standing.{Standing}
use Rattle.sg_slots.specs.Orders.{stands_before, IsFirst}
use Rattle.sg_slots.proofs.Firsts.{before, first_of, first_meets, is_first}

-- ---- the rows of entries

module _ {E : Type 0} (body : E → Body) where
  -- the row of an entry
  abbrev pub row_of : ℕ → E → Row
  row_of id e = row_with id (body e)

  -- rows under ascending ids
  rows_are : (low high : ℕ) (es : List (ℕ × E)) → AreIds low high es → AreRows (λ r. Unit {0}) low high (rows_of body es)
  rows_are low high [] ids = tt
  rows_are low high (e ∷ es) ids = (ids.0, ids.1, tt, rows_are e.0 high es ids.2)

  -- an entry's row is found
  pub found_row_of : (es : List (ℕ × E)) (id : ℕ) (e : E) → entry_at es id ≡ Some e → row_at (rows_of body es) id ≡ Some (row_of id e)
  found_row_of es id e there = row_at-rows_of body es id ∙ ap (option_map (row_of id)) there

  -- the entry of a row
  pub record EntryOf (es : List (ℕ × E)) (r : Row) : Type 0 where
    pub entry : E
    pub there : entry_at es r.id ≡ Some entry
    pub is : row_of r.id entry ≡ r

  -- a row that is found is that of an entry
  entry_of : (es : List (ℕ × E)) (r : Row) → row_at (rows_of body es) r.id ≡ Some r → EntryOf es r
  entry_of es r found = at (entry_at es r.id) refl (sym (row_at-rows_of body es r.id) ∙ found)
    where
      at : (o : Option E) → entry_at es r.id ≡ o → option_map (row_of r.id) o ≡ Some r → EntryOf es r
      at None is found = absurd (cc found)
      at (Some e) is found = record { entry = e; there = is; is = cc found }

  -- each row is found under its id
  own_rows : (given : ℕ) (es : List (ℕ × E)) → AreIds 0 given es → AreRows (λ r. row_at (rows_of body es) r.id ≡ Some r) 0 given (rows_of body es)
  own_rows given es ids = all_rows (λ r. Unit {0}) (λ r. row_at (rows_of body es) r.id ≡ Some r) 0 given (rows_of body es) (rows_are 0 given es ids) (λ r found. found)

  -- what holds of each entry's row holds of all rows
  pub rows_all : (given : ℕ) (es : List (ℕ × E)) → AreIds 0 given es → (Q : Row → Type 0) → ((id : ℕ) (e : E) → entry_at es id ≡ Some e → Q (row_of id e)) → AreRows Q 0 given (rows_of body es)
  rows_all given es ids Q each = all_rows (λ r. Unit {0}) Q 0 given (rows_of body es) (rows_are 0 given es ids)
      (λ r found. let mine = entry_of es r found in subst Q mine.is (each r.id mine.entry mine.there))

-- ---- the first of them

-- where a row stands that passes a test, by two numbers
abbrev pub row_standing : (Row → ℕ) → (Row → ℕ) → Row → Standing
row_standing major minor r = record { first = major r; second = minor r }

-- an entry stands in an order as its row does: just where the row passes a test, by the row's two numbers
pub record Agrees {E : Type 0} (body : E → Body) (order : E → Option Standing) (major minor : Row → ℕ) (test : Row → Bool) : Type 0 where
  pub inside : (id : ℕ) (e : E) → test (row_with id (body e)) ≡ true → order e ≡ Some (row_standing major minor (row_with id (body e)))
  pub outside : (id : ℕ) (e : E) → order e ≡ None → test (row_with id (body e)) ≡ false
  pub passes : (id : ℕ) (e : E) (s : Standing) → order e ≡ Some s → test (row_with id (body e)) ≡ true

module _ {E : Type 0} (body : E → Body) (order : E → Option Standing) (major minor : Row → ℕ) (test : Row → Bool) (agrees : Agrees body order major minor test)
    (given : ℕ) (es : List (ℕ × E)) (ids : AreIds 0 given es) where
  -- the first entry's row is the first row
  row_first : (id : ℕ) → IsFirst order es (Some id) → option_map (λ r. r.id) (first_of major minor test (rows_of body es)) ≡ Some id
  row_first id goes =
      let mine = agrees.passes id goes.entry goes.standing goes.stands in
      let some : Some goes.standing ≡ Some (row_standing major minor (row_of body id goes.entry)) = sym goes.stands ∙ agrees.inside id goes.entry mine in
      let standing : goes.standing ≡ row_standing major minor (row_of body id goes.entry) = cc some in
      let first = is_first major minor test 0 given (rows_of body es) (row_of body id goes.entry) (own_rows body given es ids) (found_row_of body es id goes.entry goes.there) mine
      (λ r found passes.
      let its = entry_of body es r found in
      let test_its : test (row_of body r.id its.entry) ≡ true = ap test its.is ∙ passes in
      let behind = goes.first r.id its.entry (row_standing major minor (row_of body r.id its.entry)) its.there (agrees.inside r.id its.entry test_its) in
      let rows : before major minor (row_of body r.id its.entry) (row_of body id goes.entry) ≡ false =
      subst (λ s. stands_before (row_standing major minor (row_of body r.id its.entry)) r.id s id ≡ false) standing behind in
      subst (λ x. before major minor x (row_of body id goes.entry) ≡ false) its.is rows) in
      ap (option_map (λ r. r.id)) first

  -- where no entry stands in the order there is none
  none_first : IsFirst order es None → option_map (λ r. r.id) (first_of major minor test (rows_of body es)) ≡ None
  none_first none = at (first_of major minor test (rows_of body es)) refl
    where
      at : (o : Option Row) → first_of major minor test (rows_of body es) ≡ o → option_map (λ r. r.id) o ≡ None
      at None is = refl
      at (Some m) is =
          let meets = first_meets major minor test (λ r. test r ≡ false) 0 given (rows_of body es) m (rows_all body given es ids (λ r. test r ≡ false) (λ n e there. agrees.outside n e (none n e there))) is in
          let clash : true ≡ false = sym meets.1 ∙ meets.0 in
          absurd (cc clash)

  -- the first entry is that of the first row
  pub first_row : (found : Option ℕ) → IsFirst order es found → found ≡ option_map (λ r. r.id) (first_of major minor test (rows_of body es))
  first_row None is = sym (none_first is)
  first_row (Some id) is = sym (row_first id is)

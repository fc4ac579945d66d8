-- What is the same in an object and in what serves a call there, where the call looks at all rows.
use Rattle.std.proofs.Common.{◌≡◌, ℕ, ◌<◌, Bool, true, false, cond, ◌||◌, List, [], ◌∷◌, None, Some, refl, sym, ◌∙◌, ap, arith}
use Rattle.std.specs.Prelude.{◌==◌}
use Rattle.std.specs.declared.option.Option.{Option}
use Rattle.std.specs.List.{list_any}
use Rattle.sg_facts.specs.sg_base.declared.call.Call.{Call}
use Rattle.sg_facts.specs.declared.row.Row.{Row}
use Rattle.sg_facts.specs.Facts.{Facts, fun_at}
use Rattle.sg_facts.specs.Track.{row_at}
use Rattle.sg_facts.specs.Object.{Object}
use Rattle.sg_facts.specs.Sound.{AreRows, IsRow, IsSound}
use Rattle.sg_facts.specs.Alike.{named, IsAlike, Serves}
use Rattle.sg_facts.proofs.Replaying.Served.{row_held, row_live}
use Rattle.sg_slots.proofs.FoundRows.{all_rows, same_test, other_test}
use Rattle.sg_slots.specs.Apart.{AreApart}
use Rattle.sg_slots.proofs.Apart.{one_row}
use Rattle.sg_slots.proofs.Firsts.{first_of, first_meets, first_least, none_passes, neither_by_minor}

-- ---- tests that some row passes

-- a row under an id above a number passes a test
record IsPassed (test : Row → Bool) (low : ℕ) (rows : List Row) : Type 0 where
  row : Row
  above : low < row.id
  there : row_at rows row.id ≡ Some row
  passes : test row ≡ true

-- where some row passes a test one is found
passed : (P : Row → Type 0) (test : Row → Bool) (low high : ℕ) (rows : List Row) → AreRows P low high rows → list_any test rows ≡ true → IsPassed test low rows
passed P test low high [] are is = absurd (cc is)
passed P test low high (x ∷ rows) are is = at (test x) refl is (passed P test x.id high rows are.3)
  where
    at : (b : Bool) → test x ≡ b → (b || list_any test rows) ≡ true → (list_any test rows ≡ true → IsPassed test x.id rows) → IsPassed test low (x ∷ rows)
    at true passes is rest = record { row = x; above = are.0; there = ap (λ b. cond b (Some x) (row_at rows x.id)) (same_test x.id x.id refl); passes = passes }
    at false fails is rest =
        let found = rest is in
        let above = found.above in
        record {
          row = found.row;
          above = omega (arith, are.0, above);
          there = ap (λ b. cond b (Some x) (row_at rows found.row.id)) (other_test x.id found.row.id above) ∙ found.there;
          passes = found.passes;
        }

-- where no row passes a test, a row that is there doesn't
not_passed : (test : Row → Bool) (rows : List Row) (id : ℕ) (r : Row) → row_at rows id ≡ Some r → list_any test rows ≡ false → test r ≡ false
not_passed test [] id r there none = absurd (cc there)
not_passed test (x ∷ rows) id r there none = at (x.id == id) (test x) refl there none (not_passed test rows id r)
  where
    at : (b t : Bool) → test x ≡ t → cond b (Some x) (row_at rows id) ≡ Some r → (t || list_any test rows) ≡ false → (row_at rows id ≡ Some r → list_any test rows ≡ false → test r ≡ false) → test r ≡ false
    at b true is there none rest = absurd (cc none)
    at true false is there none rest = let one : x ≡ r = cc there in ap test (sym one) ∙ is
    at false false is there none rest = rest there none

-- ---- two objects

-- two rows that are told stand for one
abbrev pub StandForOne : List (ℕ × ℕ) → Option Row → Option Row → Type 0
StandForOne names None None = Unit {0}
StandForOne names (Some r) (Some v) = v.id ≡ named names r.id
StandForOne names None (Some v) = ⊥
StandForOne names (Some r) None = ⊥

module _ (facts : Facts) (names : List (ℕ × ℕ)) (o held : Object) (call : Call) (serves : Serves facts names o held call) (all : (fun_at facts.funs call.fun).all ≡ true) (sound : IsSound facts o) where
  -- a test that alike rows pass alike is passed in the one where it is in the other
  pub same_any : (test : Row → Bool) → ((r v : Row) → IsAlike names r v → test v ≡ test r) → list_any test held.rows ≡ list_any test o.rows
  same_any test alike = at (list_any test held.rows) (list_any test o.rows) refl refl
    where
      at : (a b : Bool) → list_any test held.rows ≡ a → list_any test o.rows ≡ b → a ≡ b
      at true true some some' = refl
      at false false none none' = refl
      at true false some none =
          let found = passed (IsRow facts held.rows) test 0 held.given held.rows serves.held_sound.rows some in
          let r = row_live facts names o held call serves all found.row found.there in
          let clash : true ≡ false = sym found.passes ∙ alike r.0 found.row r.1.alike ∙ not_passed test o.rows r.0.id r.0 r.1.live none in
          absurd (cc clash)
      at false true none some =
          let found = passed (IsRow facts o.rows) test 0 o.given o.rows sound.rows some in
          let v = row_held facts names o held call serves all found.row found.there in
          let clash : true ≡ false = sym found.passes ∙ sym (alike found.row v.0 v.1.alike) ∙ not_passed test held.rows v.0.id v.0 v.1.held_there none in
          absurd (cc clash)

  module _ (major minor : Row → ℕ) (test : Row → Bool) (same_major : (r v : Row) → IsAlike names r v → major v ≡ major r) (same_minor : (r v : Row) → IsAlike names r v → minor v ≡ minor r)
      (same_pass : (r v : Row) → IsAlike names r v → test v ≡ test r) (apart : AreApart minor o.rows) where
    -- the first of both is one, where no two rows have one second number
    pub same_first : StandForOne names (first_of major minor test o.rows) (first_of major minor test held.rows)
    same_first = at (first_of major minor test o.rows) (first_of major minor test held.rows) refl refl
      where
        mine : (r : Row) → first_of major minor test o.rows ≡ Some r → (row_at o.rows r.id ≡ Some r) × (test r ≡ true)
        mine r is = first_meets major minor test (λ w. row_at o.rows w.id ≡ Some w) 0 o.given o.rows r
            (all_rows (IsRow facts o.rows) (λ w. row_at o.rows w.id ≡ Some w) 0 o.given o.rows sound.rows (λ w here. here)) is

        its : (v : Row) → first_of major minor test held.rows ≡ Some v → (row_at held.rows v.id ≡ Some v) × (test v ≡ true)
        its v is = first_meets major minor test (λ w. row_at held.rows w.id ≡ Some w) 0 held.given held.rows v
            (all_rows (IsRow facts held.rows) (λ w. row_at held.rows w.id ≡ Some w) 0 held.given held.rows serves.held_sound.rows (λ w here. here)) is

        at : (m n : Option Row) → first_of major minor test o.rows ≡ m → first_of major minor test held.rows ≡ n → StandForOne names m n
        at None None is is' = tt
        at None (Some v) is is' =
            let found = its v is' in
            let r = row_live facts names o held call serves all v found.0 in
            absurd (none_passes major minor test o.rows r.0.id r.0 is r.1.live (sym (same_pass r.0 v r.1.alike) ∙ found.1))
        at (Some r) None is is' =
            let found = mine r is in
            let v = row_held facts names o held call serves all r found.0 in
            absurd (none_passes major minor test held.rows v.0.id v.0 is' v.1.held_there (same_pass r v.0 v.1.alike ∙ found.1))
        at (Some r) (Some v) is is' =
            let found = mine r is in
            let found' = its v is' in
            let p = row_held facts names o held call serves all r found.0 in
            let q = row_live facts names o held call serves all v found'.0 in
            let one = first_least major minor test o.rows r q.0.id q.0 is q.1.live (sym (same_pass q.0 v q.1.alike) ∙ found'.1) in
            let two = first_least major minor test held.rows v p.0.id p.0 is' p.1.held_there (same_pass r p.0 p.1.alike ∙ found.1) in
            let number : minor q.0 ≡ minor r =
            neither_by_minor major minor test q.0 r v p.0 (same_major q.0 v q.1.alike) (same_minor q.0 v q.1.alike) (same_major r p.0 p.1.alike) (same_minor r p.0 p.1.alike) one two in
            let row : q.0 ≡ r = one_row minor o.rows q.0.id r.id q.0 r apart q.1.live found.0 number in
            sym q.1.alike.id ∙ ap (λ w. named names w.id) row

-- Rows have lower parents.
use Rattle.std.proofs.Common.{◌≡◌, ℕ, ◌<◌, Bool, true, false, List, [], ◌∷◌, refl, arith}
use Rattle.std.specs.Prelude.{◌==◌, ◌||◌, ◌&&◌, nat_lt}
use Rattle.std.proofs.lemmas.Bool.Decides.{nat_tests}
use Rattle.sg_facts.specs.declared.row.Row.{Row}
use Rattle.sg_facts.specs.Facts.{Facts}
use Rattle.sg_facts.specs.Sound.{AreRows, IsRow}
use Rattle.sg_facts.specs.Track.{is_live}
use Rattle.sg_track.specs.Tracked.{HasLowerParent}

-- a row's parent is below it
pub lower_parents : (facts : Facts) (all : List Row) (low high : ℕ) (rows : List Row) → AreRows (IsRow facts all) low high rows → AreRows HasLowerParent low high rows
lower_parents facts all low high [] are = tt
lower_parents facts all low high (r ∷ rows) are = (are.0, are.1, lower (r.parent == 0) refl are.2.parent, lower_parents facts all r.id high rows are.3)
  where
    lower : (b : Bool) → (r.parent == 0) ≡ b → (b || (nat_lt r.parent r.id && is_live all r.parent)) ≡ true → r.parent < r.id
    lower true is meets = let none : r.parent ≡ 0 = grind (arith, nat_tests) in omega (arith, none, are.0)
    lower false is meets = grind (arith, nat_tests, meets)

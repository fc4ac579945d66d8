-- The objects that a described service can come to.
use Rattle.std.specs.Prelude.{ℕ, ◌≡◌, ◌≤◌, ◌&&◌, Bool, true, false, List, [], ◌∷◌}
use Rattle.sg_facts.specs.sg_base.declared.value.Value.{Value}
use Rattle.sg_facts.specs.declared.row.Row.{Row}
use Rattle.sg_facts.specs.Object.{Object}
use Rattle.sg_facts.specs.Sound.{IsSound, AreRows}
use Rattle.sg_facts.specs.Track.{field_at, word_of}
use Rattle.sg_described.specs.Described.{Described}
use Rattle.sg_described.specs.Known.{greatest}
use Rattle.sg_described.specs.Meaning.{is_up_to}
use Rattle.sg_described.specs.NeverZero.{is_never_zero}

-- whether fields are words, each up to its greatest
abbrev pub are_up_to : List ℕ → List Value → Bool
are_up_to [] [] = true
are_up_to [] (v ∷ vs) = false
are_up_to (m ∷ ms) [] = false
are_up_to (m ∷ ms) (v ∷ vs) = is_up_to m v && are_up_to ms vs

-- a row has words up to the greatest that its fields come to, and none is 0 where it never is
pub record IsDescribedRow (d : Described) (r : Row) : Type 0 where
  pub fields : are_up_to (greatest d) r.fields ≡ true
  pub some : (x : ℕ) → is_never_zero d.facts r.state x ≡ true → 1 ≤ word_of (field_at r.fields x)

-- a sound object of a described service
pub record IsDescribedSound (d : Described) (o : Object) : Type 0 where
  pub general : IsSound d.facts o
  pub rows : AreRows (IsDescribedRow d) 0 o.given o.rows

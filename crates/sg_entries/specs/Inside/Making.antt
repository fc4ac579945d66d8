-- What is made of a piece of an entry, or what is first wrong with it.
use Rattle.std.specs.Prelude.{◌≡◌, List, [], ◌∷◌, Ok, Err}
use Rattle.std.specs.declared.result.Result.{Result}
use Rattle.sg_entries.specs.Flaws.{Flaw}
use Rattle.sg_entries.specs.declared.error.EntriesError.{EntriesError}
use Rattle.sg_entries.specs.declared.error.EntriesError.TheVariants.{NoMemory, Fault}

-- this is the first of some flaws
pub record IsFirst (flaws : List Flaw) (f : Flaw) : Type 0 where
  pub others : List Flaw
  pub is : flaws ≡ f ∷ others

-- a piece with these flaws stands for a value: it is made where there is none, and else the first is told; out of memory may be told
-- at any time
abbrev pub IsMade : {A : Type 0} → List Flaw → A → Result A EntriesError → Type 0
IsMade flaws value (Ok made) = (flaws ≡ []) × (made ≡ value)
IsMade flaws value (Err NoMemory) = Unit {0}
IsMade flaws value (Err (Fault kind at)) = IsFirst flaws (record { kind = kind; at = at })

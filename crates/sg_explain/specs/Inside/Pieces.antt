-- Parts of what is told, each by itself.
use Rattle.std.specs.Prelude.{ℕ, ◌≡◌, ◌+◌, ◌==◌, ◌&&◌, ◌||◌, not, if◌then◌else◌, List, [], ◌∷◌, ◌++◌, codes, count_by, length}
use Rattle.std.specs.List.{concat, flat_map, list_any}
use Rattle.sg_input.specs.sg_facts.Facts.{Facts, Field}
use Rattle.sg_input.specs.sg_facts.Interface.{Declared}
use Rattle.sg_input.specs.sg_facts.Tables.{AreTables}
use Rattle.sg_input.specs.sg_facts.Words.{line_end}
use Rattle.sg_input.specs.sg_facts.declared.tables.WalkLine.{WalkLine}
use Rattle.sg_input.specs.sg_script.declared.script.Script.{Script}
use Rattle.sg_input.specs.sg_walk.declared.place.Triple.{Triple}
use Rattle.sg_input.specs.sg_print.TablesText.{set_names}
use Rattle.sg_input.specs.Lines.{too_long_line}
use Rattle.sg_input.specs.Inputs.{IsInterface}
use Rattle.sg_input.specs.Verdicts.{IsRefused, IsVerdict}
use Rattle.sg_input.specs.declared.read.Read.{Read}
use Rattle.sg_input.specs.declared.read.Read.TheVariants.{Ready, Refused}
use Rattle.sg_input.specs.declared.refusal.RefusalKind.{RefusalKind}
use Rattle.sg_explain.specs.Explained.{IsMore, why_at}
use Rattle.sg_explain.specs.Rebuilt.{come_to_words, rebuilt_line}
use Rattle.sg_explain.specs.Words.{refusal_words, too_long_words}

-- the names of the fields of a set, each after a space, or that there is none
abbrev pub fields_words : List Field → ℕ → List ℕ
fields_words fields mask = if mask == 0 then codes " none" else flat_map (λ name. codes " " ++ name) (set_names fields mask)

-- how many clients of a script have a call
abbrev pub clients_of : Script → ℕ
clients_of script =
    count_by (λ c. not (c.0 == 1) && not (length c.1 == 0)) script.clients
    + (if not (length script.setup == 0) || list_any (λ c. (c.0 == 1) && not (length c.1 == 0)) script.clients then 1 else 0)

-- the line of what a descriptor can come to that no walk restores
abbrev pub stuck_line : Facts → Triple → List ℕ
stuck_line facts t = concat (come_to_words facts t.made t.state t.mask ∷ codes "no walk of at most 8 calls rebuilds it" ∷ line_end ∷ [])

-- the line of a text that is accepted, by its service's name
abbrev pub accepted_line : List ℕ → List ℕ
accepted_line service = concat (codes "accepted " ∷ service ∷ line_end ∷ [])

-- what is told of an interface that is accepted: the line that says so, and how all that its descriptors can come to is rebuilt
abbrev pub TellsInterface : Declared → List ℕ → Type 0
TellsInterface i told = (walks : List WalkLine) × AreTables i walks × (told ≡ accepted_line i.facts.name ++ flat_map (rebuilt_line i.facts) walks)

-- why the text of an interface is refused
pub record IsReason (services : List Facts) (text why : List ℕ) : Type 0 where
  pub kind : RefusalKind
  pub at : ℕ
  pub refused : IsRefused services text kind at
  pub more : List ℕ
  pub besides : IsMore services text kind at more
  pub is : why ≡ why_at text at (refusal_words kind) ++ more

-- why a text is refused stands after what was there
abbrev pub TellsReason : List Facts → List ℕ → List ℕ → List ℕ → Type 0
TellsReason services text old new = (why : List ℕ) × IsReason services text why × (new ≡ old ++ why)

-- the line that refuses a text stands before why it is refused
abbrev pub TellsRefusal : List Facts → List ℕ → List ℕ → Type 0
TellsRefusal services text told = (line : List ℕ) × IsVerdict services text (Refused line) × TellsReason services text line told

-- a text is accepted with this interface, or it is refused, and this is told of it
abbrev pub IsExaminedWithReason : List Facts → List ℕ → Read Declared → Type 0
IsExaminedWithReason services text (Ready i) = IsInterface services text i
IsExaminedWithReason services text (Refused told) = TellsRefusal services text told

-- what is told of an input that is too long
abbrev pub TellsLength : Read (List ℕ) → Type 0
TellsLength (Ready told) = ⊥
TellsLength (Refused told) = told ≡ too_long_line ++ too_long_words

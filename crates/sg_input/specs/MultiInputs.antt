-- What an input for several services is, or why it is refused.
use Rattle.std.specs.Prelude.{ℕ, ◌≡◌, ◌≢◌, ◌≤◌, ◌+◌, ◌⊎◌, ◌&&◌, Bool, true, false, if◌then◌else◌, nat_le, List, [], ◌∷◌, ◌++◌, None, Some, Ok, Err, codes, length}
use Rattle.std.specs.Fmt.{decimal}
use Rattle.std.specs.List.{AllPairs, AllZip, list_all, list_any}
use Rattle.std.specs.Str.{bytes_eq}
use Rattle.std.specs.declared.option.Option.{Option}
use Rattle.sg_facts.specs.Interface.{Declared}
use Rattle.sg_facts.specs.Words.{line_end}
use Rattle.sg_input.specs.sg_parse.declared.tree.Tree.{Tree}
use Rattle.sg_input.specs.sg_parse.Grammar.Parses.{Parses}
use Rattle.sg_script.specs.declared.fault.ScriptError.TheVariants.{Fault}
use Rattle.sg_script.specs.declared.fault.ScriptFault.{ScriptFault}
use Rattle.sg_script.specs.declared.multi.MultiScript.{MultiScript}
use Rattle.sg_script.specs.Reads.{IsMultiReadingOf}
use Rattle.sg_input.specs.declared.read.Read.{Read}
use Rattle.sg_input.specs.declared.read.Read.TheVariants.{Ready, Refused}
use Rattle.sg_input.specs.Divider.{Divides, IsCut}
use Rattle.sg_input.specs.Inputs.{Judging, most_interface, most_script}
use Rattle.sg_input.specs.Lines.{refused_line, script_kind_name, too_long_line}

-- the greatest number of services that a script is played over
abbrev pub most_services : ℕ
most_services = 6

-- ---- the texts: those of the interfaces, and after the last line of `%%` alone that of the script

-- every line of `%%` alone divides an input into these texts, the last of which is the script
abbrev pub AreParts : List ℕ → List (List ℕ) → List ℕ → Type 0
AreParts input [] script = ((before behind : List ℕ) → Divides input before behind → ⊥) × (script ≡ input)
AreParts input (text ∷ texts) script = (behind : List ℕ) × IsCut input text behind × AreParts behind texts script

-- whether no text is too long
abbrev pub are_short : List (List ℕ) → List ℕ → Bool
are_short texts script = list_all (λ text. nat_le (length text) most_interface) texts && nat_le (length script) most_script

-- an input is divided into these texts, of which none is too long
pub record AreMultiTexts (input : List ℕ) (texts : List (List ℕ)) (script : List ℕ) : Type 0 where
  pub parts : AreParts input texts script
  pub divided : texts ≢ []
  pub short : are_short texts script ≡ true

-- ---- the members

-- the texts are accepted with these interfaces, no two of which are of one service, and there are no more than there may be
pub record AreMembers (judging : Judging) (texts : List (List ℕ)) (members : List Declared) : Type 0 where
  pub accepted : AllZip judging.accepts texts members
  pub apart : AllPairs (λ i j. bytes_eq i.facts.name j.facts.name ≡ false) members
  pub few : length members ≤ most_services

-- whether an interface is of the service of one of these
abbrev pub has_service : List Declared → Declared → Bool
has_service members i = list_any (λ j. bytes_eq j.facts.name i.facts.name) members

-- what keeps an accepted interface from being one more of these members, by its name: its service has a member, or there can't be more
abbrev pub member_flaw : List Declared → Declared → Option (List ℕ)
member_flaw members i =
    if has_service members i then Some (codes "DuplicateService")
    else if nat_le most_services (length members) then Some (codes "Limit")
    else None

-- the line that refuses the text of a number, counted from 1, at a place and by the name of what is wrong there
abbrev pub member_line : ℕ → List ℕ → ℕ → List ℕ → List ℕ
member_line number text at name = refused_line (codes "interface " ++ decimal number ++ codes " refused at ") text at name

-- this line refuses a text after these members: something is wrong with the text; or it is accepted, and can't be one more, which is said at
-- the name of its service
abbrev pub IsNoMember : Judging → List Declared → List ℕ → List ℕ → Type 0
IsNoMember judging members text line =
    ((name : List ℕ) × (at : ℕ) × judging.flaw text name at × (line ≡ member_line (length members + 1) text at name))
    ⊎ ((tree : Tree) × (i : Declared) × (name : List ℕ) × Parses text (Ok tree) × judging.accepts text i × (member_flaw members i ≡ Some name)
    × (line ≡ member_line (length members + 1) text tree.facts.service.at name))

-- ---- scripts

-- what a text is as a script for these members: this script, or refused with this line, which tells its first fault
abbrev pub IsMultiScriptOf : List Declared → List ℕ → Read MultiScript → Type 0
IsMultiScriptOf members text (Ready script) = IsMultiReadingOf members text (Ok script)
IsMultiScriptOf members text (Refused line) =
    (fault : ScriptFault) × IsMultiReadingOf members text (Err (Fault fault))
    × (line ≡ refused_line (codes "script refused at ") text fault.at (script_kind_name fault.kind))

-- ---- the input

-- the interfaces are accepted as these members, and this is a script for them
pub record IsMultiReady (judging : Judging) (input : List ℕ) (members : List Declared) (script : MultiScript) : Type 0 where
  pub texts : List (List ℕ)
  pub last : List ℕ
  pub are : AreMultiTexts input texts last
  pub accepted : AreMembers judging texts members
  pub reads : IsMultiScriptOf members last (Ready script)

-- this line refuses an input, by the first of its faults
abbrev pub IsMultiRefused : Judging → List ℕ → List ℕ → Type 0
IsMultiRefused judging input line =
    -- no line of it is `%%` alone
    ((((before behind : List ℕ) → Divides input before behind → ⊥) × (line ≡ codes "input refused: NoDivider" ++ line_end))
    -- or it is divided, and one of the texts is too long
    ⊎ (((texts : List (List ℕ)) × (script : List ℕ) × AreParts input texts script × (texts ≢ []) × (are_short texts script ≡ false) × (line ≡ too_long_line))
    -- or a text is refused after some that are accepted
    ⊎ ((front behind : List (List ℕ)) × (text script : List ℕ) × AreMultiTexts input (front ++ text ∷ behind) script
    × (members : List Declared) × AreMembers judging front members × IsNoMember judging members text line)))
    -- or all are accepted, and the script is refused
    ⊎ ((texts : List (List ℕ)) × (script : List ℕ) × AreMultiTexts input texts script
    × (members : List Declared) × AreMembers judging texts members × IsMultiScriptOf members script (Refused line))

-- an input is ready with these members and this script, or it is refused with this line
abbrev pub IsMultiInputOf : Judging → List ℕ → Read (List Declared × MultiScript) → Type 0
IsMultiInputOf judging input (Ready (members, script)) = IsMultiReady judging input members script
IsMultiInputOf judging input (Refused line) = IsMultiRefused judging input line

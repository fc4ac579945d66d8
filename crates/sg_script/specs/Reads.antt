-- What is answered on the text of a script for one interface, or for several.
use Rattle.std.specs.Prelude.{ℕ, ◌≡◌, ◌⊎◌, Bool, true, false, List, [], ◌∷◌, Ok, Err}
use Rattle.std.specs.declared.result.Result.{Result}
use Rattle.sg_facts.specs.Interface.{Declared}
use Rattle.sg_script_parse.specs.declared.error.ScriptSyntax.TheVariants.{Syntax as syntax}
use Rattle.sg_script_parse.specs.declared.tree.Part.{Part}
use Rattle.sg_script_parse.specs.Grammar.Parses.{ScriptParses}
use Rattle.sg_script.specs.declared.multi.MultiScript.{MultiScript}
use Rattle.sg_script.specs.declared.script.Script.{Script}
use Rattle.sg_script.specs.declared.fault.ScriptKind.TheVariants.{Syntax}
use Rattle.sg_script.specs.declared.fault.ScriptError.{ScriptError}
use Rattle.sg_script.specs.declared.fault.ScriptError.TheVariants.{NoMemory, Fault}
use Rattle.sg_script.specs.Flaws.{IsFirstFlaw, flaws_of}
use Rattle.sg_script.specs.Scripts.{multi_script_of, script_of}

-- what may be answered on a text for several services or for one, with these members: what its parts stand for, where it is one of the
-- grammar and nothing is wrong with it; the place at which it fails, where it is none; or what is first wrong with it. Want of memory may
-- come at any time
abbrev pub IsReadingBy : {S : Type 0} → Bool → List Declared → (List Part → S) → List ℕ → Result S ScriptError → Type 0
IsReadingBy several members make text (Ok script) = (parts : List Part) × ScriptParses several text (Ok parts) × (flaws_of members parts ≡ []) × (script ≡ make parts)
IsReadingBy several members make text (Err NoMemory) = Unit {0}
IsReadingBy several members make text (Err (Fault f)) =
    ((f.kind ≡ Syntax) × ScriptParses several text (Err (syntax f.at)))
    ⊎ ((parts : List Part) × ScriptParses several text (Ok parts) × IsFirstFlaw (flaws_of members parts) f)

-- what may be answered on the text of a script for one interface
abbrev pub IsReadingOf : Declared → List ℕ → Result Script ScriptError → Type 0
IsReadingOf i text read = IsReadingBy false (i ∷ []) (script_of i) text read

-- what may be answered on the text of a script for several interfaces, its members
abbrev pub IsMultiReadingOf : List Declared → List ℕ → Result MultiScript ScriptError → Type 0
IsMultiReadingOf members text read = IsReadingBy true members (multi_script_of members) text read

-- What an input is, or why it is refused.
use Rattle.std.specs.Prelude.{ℕ, ◌≡◌, ◌<◌, ◌≤◌, ◌⊎◌, List, ◌++◌, Ok, Err, codes, length}
use Rattle.sg_facts.specs.Facts.{Facts}
use Rattle.sg_facts.specs.Words.{line_end}
use Rattle.sg_facts.specs.Interface.{Declared}
use Rattle.sg_input.specs.sg_parse.declared.tree.Tree.{Tree}
use Rattle.sg_input.specs.sg_parse.Grammar.Parses.{Parses}
use Rattle.sg_input.specs.sg_check_statements.Faults.{IsAccepted}
use Rattle.sg_input.specs.Verdicts.{IsRefused, refusal_name, services_for}
use Rattle.sg_entries.specs.Entry.{shows_named}
use Rattle.sg_entries.specs.Reads.{IsReadOf}
use Rattle.sg_entries.specs.declared.error.EntriesError.TheVariants.{Fault as EntriesFault}
use Rattle.sg_entries.specs.declared.error.EntriesKind.{EntriesKind}
use Rattle.sg_facts.specs.declared.entry.Entry.{Entry}
use Rattle.sg_facts.specs.sg_base.Room.{Roomy}
use Rattle.sg_script.specs.declared.fault.ScriptError.TheVariants.{Fault}
use Rattle.sg_script.specs.declared.fault.ScriptFault.{ScriptFault}
use Rattle.sg_script.specs.declared.script.Script.{Script}
use Rattle.sg_script.specs.Reads.{IsReadingOf}
use Rattle.sg_input.specs.declared.read.Read.{Read}
use Rattle.sg_input.specs.declared.read.Read.TheVariants.{Ready, Refused}
use Rattle.sg_input.specs.declared.refusal.RefusalKind.{RefusalKind}
use Rattle.sg_input.specs.Divider.{Divides, IsCut}
use Rattle.sg_input.specs.Lines.{entries_kind_name, refused_line, script_kind_name, too_long_line}

-- the greatest number of bytes of an interface
abbrev pub most_interface : ℕ
most_interface = 65536

-- the greatest number of bytes of a script
abbrev pub most_script : ℕ
most_script = 4194304

-- the greatest number of bytes of a printed run
abbrev pub most_run : ℕ
most_run = 67108864

-- ---- the two texts: the text of an interface, and after the divider a second one, which has so many bytes at most

-- an input is divided into these two texts, and neither is too long
pub record AreTexts (most : ℕ) (input interface second : List ℕ) : Type 0 where
  pub cut : IsCut input interface second
  pub interface_fits : length interface ≤ most_interface
  pub second_fits : length second ≤ most

-- a text is accepted for one of these services, with this interface
abbrev pub IsInterface : List Facts → List ℕ → Declared → Type 0
IsInterface services text i = (tree : Tree) × Parses text (Ok tree) × IsAccepted (services_for services tree) tree i

-- how the text of an interface is judged
pub record Judging : Type 1 where
  -- the services that there are
  pub services : List Facts
  -- a text is accepted, with this interface
  pub accepts : List ℕ → Declared → Type 0
  -- this is wrong with a text, by its name, at a place
  pub flaw : List ℕ → List ℕ → ℕ → Type 0

-- a text is judged against these services, and is of one of them
abbrev pub judged_by : List Facts → Judging
judged_by services = record {
  services = services;
  accepts = IsInterface services;
  flaw = λ text name at. (kind : RefusalKind) × IsRefused services text kind at × (name ≡ refusal_name kind);
}

-- this line refuses the text of an interface, for what is wrong with it
abbrev pub IsRefusedText : Judging → List ℕ → List ℕ → Type 0
IsRefusedText judging text line =
    (name : List ℕ) × (at : ℕ) × judging.flaw text name at × (line ≡ refused_line (codes "interface refused at ") text at name)

-- an interface is accepted, and under it the second text stands for this
pub record IsReadAs {A : Type 0} (most : ℕ) (Reads : Declared → List ℕ → Read A → Type 0) (judging : Judging) (input : List ℕ) (i : Declared) (read : A) : Type 0 where
  pub interface : List ℕ
  pub second : List ℕ
  pub texts : AreTexts most input interface second
  pub accepted : judging.accepts interface i
  pub reads : Reads i second (Ready read)

-- this line refuses an input, by the first of its faults
abbrev pub IsRefusedInput : {A : Type 0} → ℕ → (Declared → List ℕ → Read A → Type 0) → Judging → List ℕ → List ℕ → Type 0
IsRefusedInput most Reads judging input line =
    -- no line of it is `%%` alone
    ((((before behind : List ℕ) → Divides input before behind → ⊥) × (line ≡ codes "input refused: NoDivider" ++ line_end))
    -- or it is divided, and one of the two texts is too long
    ⊎ ((((interface : List ℕ) × (second : List ℕ) × IsCut input interface second
    × ((most_interface < length interface) ⊎ (most < length second))) × (line ≡ too_long_line))
    -- or the interface is refused with this line
    ⊎ ((interface : List ℕ) × (second : List ℕ) × AreTexts most input interface second × IsRefusedText judging interface line)))
    -- or an interface is accepted, and under it the second text is refused with this line
    ⊎ ((interface : List ℕ) × (second : List ℕ) × AreTexts most input interface second
    × (i : Declared) × judging.accepts interface i × Reads i second (Refused line))

-- ---- scripts

-- what a text is as a script for an interface: this script, or refused with this line, which tells its first fault
abbrev pub IsScriptOf : Declared → List ℕ → Read Script → Type 0
IsScriptOf i text (Ready script) = IsReadingOf i text (Ok script)
IsScriptOf i text (Refused line) =
    (fault : ScriptFault) × IsReadingOf i text (Err (Fault fault))
    × (line ≡ refused_line (codes "script refused at ") text fault.at (script_kind_name fault.kind))

-- an interface is accepted, and this is a script for it
abbrev pub IsReady : Judging → List ℕ → Declared → Script → Type 0
IsReady judging input i script = IsReadAs most_script IsScriptOf judging input i script

-- an input is ready with this interface and script, or it is refused with this line
abbrev pub IsInputOf : Judging → List ℕ → Read (Declared × Script) → Type 0
IsInputOf judging input (Ready (i, script)) = IsReady judging input i script
IsInputOf judging input (Refused line) = IsRefusedInput most_script IsScriptOf judging input line

-- ---- printed runs

-- what a text is as a printed run of an interface: this history, or refused with this line, which tells its first fault
abbrev pub IsHistoryOf : List Facts → Declared → List ℕ → Read (List Entry) → Type 0
IsHistoryOf services i text (Ready history) = IsReadOf (shows_named services i) i text (Ok history)
IsHistoryOf services i text (Refused line) =
    (kind : EntriesKind) × (at : ℕ) × IsReadOf (shows_named services i) i text (Err (EntriesFault kind at))
    × (line ≡ refused_line (codes "run refused at ") text at (entries_kind_name kind))

-- an interface is accepted, and this is the history that a run of its service printed
abbrev pub IsRunReady : Judging → List ℕ → Declared → List Entry → Type 0
IsRunReady judging input i history = IsReadAs most_run (IsHistoryOf judging.services) judging input i history

-- an input is ready with this interface and history, or it is refused with this line
abbrev pub IsRunInputOf : Judging → List ℕ → Read (Declared × Roomy Entry) → Type 0
IsRunInputOf judging input (Ready (i, history)) = IsRunReady judging input i history.items
IsRunInputOf judging input (Refused line) = IsRefusedInput most_run (IsHistoryOf judging.services) judging input line

-- two answers are the same: both refuse with one line, or both have one interface and one history
abbrev pub IsSameRun : Read (Declared × Roomy Entry) → Read (Declared × Roomy Entry) → Type 0
IsSameRun (Refused line) (Refused line') = line ≡ line'
IsSameRun (Ready (i, history)) (Ready (j, history')) = (i ≡ j) × (history.items ≡ history'.items)
IsSameRun (Refused line) (Ready (i, history)) = ⊥
IsSameRun (Ready (i, history)) (Refused line) = ⊥

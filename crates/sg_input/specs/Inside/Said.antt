-- The lines that are said of a text, each by itself.
use Rattle.std.specs.Prelude.{ℕ, List, ◌++◌, codes}
use Rattle.sg_facts.specs.Words.{line_end}
use Rattle.sg_entries.specs.declared.error.EntriesKind.{EntriesKind}
use Rattle.sg_script.specs.declared.fault.ScriptFault.{ScriptFault}
use Rattle.sg_stub.specs.sg_check_statements.declared.fault.CheckKind.{CheckKind}
use Rattle.sg_input.specs.Lines.{entries_kind_name, refused_line, script_kind_name}
use Rattle.sg_input.specs.Verdicts.{refusal_name}
use Rattle.sg_input.specs.declared.refusal.RefusalKind.{RefusalKind}
use Rattle.sg_input.specs.declared.refusal.RefusalKind.TheVariants.{Check}

-- the name of a kind of fault of the checker
abbrev pub check_name : CheckKind → List ℕ
check_name kind = refusal_name (Check kind)

-- the line of a text that is accepted, by its service's name
abbrev pub accepted_line : List ℕ → List ℕ
accepted_line service = codes "accepted " ++ service ++ line_end

-- the line of a text that is refused for a kind at a place
abbrev pub refusal_line : List ℕ → RefusalKind → ℕ → List ℕ
refusal_line text kind at = refused_line (codes "interface refused at ") text at (refusal_name kind)

-- a fault of a script
abbrev pub script_line : List ℕ → ScriptFault → List ℕ
script_line script f = refused_line (codes "script refused at ") script f.at (script_kind_name f.kind)

-- a fault of the entries of a printed run
abbrev pub run_line : List ℕ → EntriesKind → ℕ → List ℕ
run_line run kind at = refused_line (codes "run refused at ") run at (entries_kind_name kind)

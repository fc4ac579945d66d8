-- What is told, in parts.
use Rattle.std.specs.Prelude.{ℕ, ◌≡◌, ◌≤◌, List, ◌++◌, codes, length}
use Rattle.std.specs.List.{flat_map}
use Rattle.sg_explain.specs.Rebuilt.{rebuilt_line}
use Rattle.sg_explain.specs.sg_facts.Interface.{Declared}
use Rattle.sg_explain.specs.sg_facts.Tables.{AreTables}
use Rattle.sg_explain.specs.sg_facts.Words.{line_end}
use Rattle.sg_explain.specs.sg_facts.declared.tables.WalkLine.{WalkLine}
use Rattle.sg_explain.specs.sg_input.Inputs.{most_interface, most_script}
use Rattle.sg_explain.specs.sg_input.sg_print.sg_parse.declared.tree.Tree.{Tree}
use Rattle.sg_own.specs.declared.fault.OwnKind.{OwnKind}
use Rattle.sg_judge.specs.AnswerLines.{answers_in}
use Rattle.sg_judge.specs.OwnExplained.{IsOwnMore, IsWalkMore}

-- the two texts of an input aren't too long
abbrev pub AreShort : List ℕ → List ℕ → Type 0
AreShort interface script = (length interface ≤ most_interface) × (length script ≤ most_script)

-- what is told of a text that is accepted: its line, how all that its descriptors can come to is rebuilt, and how its functions answer
abbrev pub TellsOwn : Tree → Declared → List ℕ → Type 0
TellsOwn tree i told = (walks : List WalkLine) × AreTables i walks
    × (told ≡ (codes "accepted " ++ i.facts.name ++ line_end) ++ (flat_map (rebuilt_line i.facts) walks ++ flat_map answers_in tree.statements))

-- what is told besides, after what was there
abbrev pub TellsMore : Tree → OwnKind → ℕ → List ℕ → List ℕ → Type 0
TellsMore tree kind at old new = (more : List ℕ) × IsOwnMore tree kind at more × (new ≡ old ++ more)

abbrev pub TellsWalkMore : Tree → ℕ → List ℕ → List ℕ → Type 0
TellsWalkMore tree at old new = (more : List ℕ) × IsWalkMore tree at more × (new ≡ old ++ more)

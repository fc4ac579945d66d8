-- Commands of one word, of two, and of three.
use Rattle.std.specs.Prelude.{ℕ, ◌≡◌, ◌≤◌, true, false, List, codes}
use Rattle.sg_explore.specs.Tried.{most_paired}
use Rattle.sg_load.specs.Services.{facts_by}
use Rattle.sg_judge.specs.sg_input.sg_lex.Table.{IsNumber}
use Rattle.sg_multi.specs.sg_facts.sg_base.Counts.{last_count}
use Rattle.sg_judge.specs.sg_input.sg_lex.Numbers.{value_of_digits}
use Rattle.sg_top.specs.declared.command.Command.{Command}
use Rattle.sg_top.specs.declared.command.Command.TheVariants.{Play, Run, Check, Compile, Upgrade, Explain, Explore, Verify, Multi, Load}
use Rattle.sg_top.specs.declared.command.Shows.TheVariants.{Report, Trace, Costs, Picture, Columns}

-- digits, at least one, stand for a number of 64 bits
abbrev pub AreDigitsOf : ℕ → List ℕ → Type 0
AreDigitsOf number digits = IsNumber digits × (value_of_digits digits ≡ number) × (number ≤ last_count)

-- digits stand for a number up to which points may be paired
abbrev pub AreBoundOf : ℕ → List ℕ → Type 0
AreBoundOf most digits = IsNumber digits × (value_of_digits digits ≡ most) × (most ≤ most_paired)

-- a word alone says a command
abbrev pub IsWordOf : List ℕ → Command → Type 0
IsWordOf word (Play Report) = word ≡ codes "sim"
IsWordOf word (Play Costs) = word ≡ codes "cost"
IsWordOf word (Play Picture) = word ≡ codes "draw"
IsWordOf word (Run false) = word ≡ codes "run"
IsWordOf word Check = word ≡ codes "check"
IsWordOf word Compile = word ≡ codes "compile"
IsWordOf word Upgrade = word ≡ codes "upgrade"
IsWordOf word Explain = word ≡ codes "explain"
IsWordOf word (Explore most) = (most ≡ 0) × (word ≡ codes "explore")
IsWordOf word Verify = word ≡ codes "verify"
IsWordOf word (Multi false) = word ≡ codes "multi"
IsWordOf word _ = ⊥

-- a word and a second one say a command
abbrev pub IsPairOf : List ℕ → List ℕ → Command → Type 0
IsPairOf word more (Play Trace) = (word ≡ codes "sim") × (more ≡ codes "trace")
IsPairOf word more (Play Columns) = (word ≡ codes "draw") × (more ≡ codes "text")
IsPairOf word more (Run true) = (word ≡ codes "run") × (more ≡ codes "trace")
IsPairOf word more (Multi true) = (word ≡ codes "multi") × (more ≡ codes "trace")
IsPairOf word more (Explore most) = (word ≡ codes "explore") × AreBoundOf most more
IsPairOf word more _ = ⊥

-- a word, a name and digits say a load
abbrev pub IsLoadOf : List ℕ → List ℕ → List ℕ → Command → Type 0
IsLoadOf word name digits (Load service number) = (word ≡ codes "load") × (name ≡ (facts_by service).name) × AreDigitsOf number digits
IsLoadOf word name digits _ = ⊥

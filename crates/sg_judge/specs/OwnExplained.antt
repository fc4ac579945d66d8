-- What is explained of any input: of one whose interface describes a service of its own too.
use Rattle.std.specs.Prelude.{ℕ, ◌≡◌, ◌⊎◌, List, [], ◌++◌, Err, codes}
use Rattle.std.specs.List.{flat_map}
use Rattle.sg_explain.specs.sg_facts.Facts.{Facts}
use Rattle.sg_explain.specs.sg_facts.Interface.{Declared}
use Rattle.sg_explain.specs.sg_facts.Tables.{AreTables}
use Rattle.sg_explain.specs.sg_facts.Words.{line_end}
use Rattle.sg_explain.specs.sg_facts.declared.tables.WalkLine.{WalkLine}
use Rattle.sg_explain.specs.sg_input.sg_print.sg_parse.declared.tree.Tree.{Tree}
use Rattle.sg_own.specs.sg_check_statements.Faults.{IsAccepted, IsFault}
use Rattle.sg_own.specs.sg_check_statements.declared.fault.CheckKind.TheVariants.{NoWalk}
use Rattle.sg_explain.specs.sg_input.Inputs.{AreTexts, IsInputOf, IsReady, most_script}
use Rattle.sg_explain.specs.sg_input.Lines.{refused_line}
use Rattle.sg_explain.specs.sg_input.sg_script.Reads.{IsReadingOf}
use Rattle.sg_explain.specs.sg_input.sg_script.declared.fault.ScriptError.TheVariants.{Fault}
use Rattle.sg_explain.specs.sg_input.sg_script.declared.fault.ScriptFault.{ScriptFault}
use Rattle.sg_explain.specs.sg_input.sg_script.declared.script.Script.{Script}
use Rattle.sg_explain.specs.sg_input.declared.read.Read.{Read}
use Rattle.sg_explain.specs.sg_input.declared.read.Read.TheVariants.{Ready, Refused}
use Rattle.sg_own.specs.Faults.{IsOwnAccepted, IsOwnFault, itself}
use Rattle.sg_own.specs.declared.fault.OwnKind.{OwnKind}
use Rattle.sg_own.specs.declared.fault.OwnKind.TheVariants.{Safety, Walks}
use Rattle.sg_own.specs.sg_describe.DescribedText.{described_of_text}
use Rattle.sg_own.specs.sg_shape.ShapeOfText.{shape_of_text}
use Rattle.sg_own.specs.sg_safe.Reasons.{IsReason, unsafe_in}
use Rattle.sg_own.specs.sg_safe.declared.reason.Unsafe.{Unsafe}
use Rattle.sg_judge.specs.Names.{own_name}
use Rattle.sg_explain.specs.Words.{script_words}
use Rattle.sg_judge.specs.AnyInputs.{any_judging}
use Rattle.sg_judge.specs.Said.{IsOwnText}
use Rattle.sg_explain.specs.Explained.{IsExplained, IsInterfaceText, IsUndivided, why_at}
use Rattle.sg_explain.specs.Rebuilt.{counts_line, rebuilt_line}
use Rattle.sg_explain.specs.Stuck.{IsStuckLine}
use Rattle.sg_judge.specs.AnswerLines.{answers_in}
use Rattle.sg_judge.specs.OwnWords.{own_words}
use Rattle.sg_judge.specs.ReasonLines.{reason_line}

-- the line of a walk that would have to begin with what can't be done again
abbrev pub external_line : List ℕ
external_line = codes "it is sm_external: no walk begins with it" ++ line_end

-- what is told besides of a state without a walk: what no walk restores there; or, where each state has a walk, that one begins with what
-- can't be done again
abbrev pub IsWalkMore : Tree → ℕ → List ℕ → Type 0
IsWalkMore tree at more =
    (IsFault (itself tree) tree NoWalk at × IsStuckLine (itself tree) tree at more)
    ⊎ (((i : Declared) × IsAccepted (itself tree) tree i) × (more ≡ external_line))

-- what is told besides of what is first wrong with a text
abbrev pub IsOwnMore : Tree → OwnKind → ℕ → List ℕ → Type 0
IsOwnMore tree (Safety kind) at more =
    (reason : Unsafe) × IsReason (described_of_text tree) (unsafe_in (described_of_text tree)) reason × (more ≡ reason_line (shape_of_text tree) reason)
IsOwnMore tree (Walks NoWalk) at more = IsWalkMore tree at more
IsOwnMore tree kind at more = more ≡ []

-- the text of an interface is refused: its line, and why
pub record ExplainsOwnFault (text : List ℕ) (tree : Tree) (told : List ℕ) : Type 0 where
  pub kind : OwnKind
  pub at : ℕ
  pub fault : IsOwnFault tree kind at
  pub more : List ℕ
  pub besides : IsOwnMore tree kind at more
  pub is : told ≡ refused_line (codes "interface refused at ") text at (own_name kind) ++ (why_at text at (own_words kind) ++ more)

-- the script of an input is refused: its line, and why
pub record ExplainsOwnScript (services : List Facts) (input text : List ℕ) (tree : Tree) (told : List ℕ) : Type 0 where
  pub line : List ℕ
  pub refused : IsInputOf (any_judging services) input (Refused line)
  pub script : List ℕ
  pub texts : AreTexts most_script input text script
  pub i : Declared
  pub accepted : IsOwnAccepted tree i
  pub fault : ScriptFault
  pub reads : IsReadingOf i script (Err (Fault fault))
  pub is : told ≡ line ++ why_at script fault.at (script_words fault.kind)

-- nothing is wrong with an input: the line of its interface, how all that its descriptors can come to is rebuilt, how its functions answer, and
-- the counts of its script
pub record ExplainsOwn (services : List Facts) (input : List ℕ) (tree : Tree) (told : List ℕ) : Type 0 where
  pub i : Declared
  pub accepted : IsOwnAccepted tree i
  pub walks : List WalkLine
  pub tables : AreTables i walks
  pub counts : List ℕ
  pub counted : (IsUndivided input × (counts ≡ [])) ⊎ ((script : Script) × IsReady (any_judging services) input i script × (counts ≡ counts_line script))
  pub is : told ≡ ((codes "accepted " ++ i.facts.name ++ line_end) ++ (flat_map (rebuilt_line i.facts) walks ++ flat_map answers_in tree.statements)) ++ counts

-- this is explained of an input whose interface describes a service of its own
abbrev pub IsOwnExplained : List Facts → List ℕ → List ℕ → Tree → Read (List ℕ) → Type 0
IsOwnExplained services input text tree (Ready told) = ExplainsOwn services input tree told
IsOwnExplained services input text tree (Refused told) = ExplainsOwnFault text tree told ⊎ ExplainsOwnScript services input text tree told

-- the text of the interface of an input that isn't too long describes a service of its own
pub record IsOwnInput (input text : List ℕ) (tree : Tree) : Type 0 where
  pub its : IsInterfaceText input text
  pub own : IsOwnText text tree

-- this is explained of an input
abbrev pub IsExplainedAny : List Facts → List ℕ → Read (List ℕ) → Type 0
IsExplainedAny services input answer =
    ((text : List ℕ) × (tree : Tree) × IsOwnInput input text tree × IsOwnExplained services input text tree answer)
    ⊎ (((text : List ℕ) (tree : Tree) → IsOwnInput input text tree → ⊥) × IsExplained services input answer)

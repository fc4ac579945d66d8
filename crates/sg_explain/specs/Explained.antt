-- What is explained of an input: the line that `check` or `sim` would print of it, and why.
use Rattle.std.specs.Prelude.{ℕ, ◌≡◌, ◌<◌, ◌≤◌, ◌⊎◌, List, [], ◌∷◌, ◌++◌, Ok, Err, drop, length}
use Rattle.std.specs.List.{concat, flat_map}
use Rattle.sg_input.specs.sg_facts.Facts.{Facts}
use Rattle.sg_input.specs.sg_facts.Interface.{Declared}
use Rattle.sg_input.specs.sg_facts.Tables.{AreTables}
use Rattle.sg_input.specs.sg_facts.Words.{line_end}
use Rattle.sg_input.specs.sg_facts.declared.tables.WalkLine.{WalkLine}
use Rattle.sg_input.specs.sg_parse.Grammar.Parses.{Parses}
use Rattle.sg_input.specs.sg_parse.declared.tree.Tree.{Tree}
use Rattle.sg_input.specs.sg_check_statements.declared.fault.CheckKind.TheVariants.{NoWalk}
use Rattle.sg_input.specs.sg_script.Reads.{IsReadingOf}
use Rattle.sg_input.specs.sg_script.declared.fault.ScriptError.TheVariants.{Fault}
use Rattle.sg_input.specs.sg_script.declared.fault.ScriptFault.{ScriptFault}
use Rattle.sg_input.specs.sg_script.declared.script.Script.{Script}
use Rattle.sg_input.specs.Divider.{Divides}
use Rattle.sg_input.specs.Inputs.{AreTexts, IsInputOf, IsInterface, IsReady, judged_by, most_interface, most_script}
use Rattle.sg_input.specs.Lines.{too_long_line}
use Rattle.sg_input.specs.Verdicts.{IsRefused, IsVerdict}
use Rattle.sg_input.specs.declared.read.Read.{Read}
use Rattle.sg_input.specs.declared.read.Read.TheVariants.{Ready, Refused}
use Rattle.sg_input.specs.declared.refusal.RefusalKind.{RefusalKind}
use Rattle.sg_input.specs.declared.refusal.RefusalKind.TheVariants.{Check}
use Rattle.sg_explain.specs.Places.{place_lines, shown_front}
use Rattle.sg_explain.specs.Rebuilt.{counts_line, rebuilt_line}
use Rattle.sg_explain.specs.Stuck.{IsStuckLine}
use Rattle.sg_explain.specs.Words.{Sentences, refusal_words, script_words, too_long_words}

-- ---- why

-- a place in a text, what is wrong there and what is usually meant
abbrev pub why_at : List ℕ → ℕ → Sentences → List ℕ
why_at text at words = concat (
    place_lines text at ∷ words.before ∷ shown_front (drop at text) ∷ words.after ∷ line_end ∷ words.meant ∷ line_end ∷ [])

-- what is told besides of a kind of fault at a place
abbrev pub IsMore : List Facts → List ℕ → RefusalKind → ℕ → List ℕ → Type 0
IsMore services text (Check NoWalk) at more = (tree : Tree) × Parses text (Ok tree) × IsStuckLine services tree at more
IsMore services text kind at more = more ≡ []

-- ---- inputs, each an interface alone, as `check` takes it, or one of `sim`

-- no line divides an input
abbrev pub IsUndivided : List ℕ → Type 0
IsUndivided input = (before behind : List ℕ) → Divides input before behind → ⊥

-- the text of the interface of an input that isn't too long
abbrev pub IsInterfaceText : List ℕ → List ℕ → Type 0
IsInterfaceText input text = (IsUndivided input × (length input ≤ most_interface) × (text ≡ input)) ⊎ ((script : List ℕ) × AreTexts most_script input text script)

-- the interface of an input is refused: its line, and why
pub record ExplainsInterface (services : List Facts) (input told : List ℕ) : Type 0 where
  pub text : List ℕ
  pub its : IsInterfaceText input text
  pub line : List ℕ
  pub verdict : IsVerdict services text (Refused line)
  pub kind : RefusalKind
  pub at : ℕ
  pub refused : IsRefused services text kind at
  pub more : List ℕ
  pub besides : IsMore services text kind at more
  pub is : told ≡ line ++ (why_at text at (refusal_words kind) ++ more)

-- the script of an input is refused: its line, and why
pub record ExplainsScript (services : List Facts) (input told : List ℕ) : Type 0 where
  pub line : List ℕ
  pub refused : IsInputOf (judged_by services) input (Refused line)
  pub interface : List ℕ
  pub script : List ℕ
  pub texts : AreTexts most_script input interface script
  pub i : Declared
  pub accepted : IsInterface services interface i
  pub fault : ScriptFault
  pub reads : IsReadingOf i script (Err (Fault fault))
  pub is : told ≡ line ++ why_at script fault.at (script_words fault.kind)

-- nothing is wrong with an input: the line of its interface, how all that its descriptors can come to is rebuilt, and the counts of its script
pub record ExplainsGood (services : List Facts) (input told : List ℕ) : Type 0 where
  pub text : List ℕ
  pub its : IsInterfaceText input text
  pub line : List ℕ
  pub verdict : IsVerdict services text (Ready line)
  pub i : Declared
  pub accepted : IsInterface services text i
  pub walks : List WalkLine
  pub tables : AreTables i walks
  pub counts : List ℕ
  pub counted : (IsUndivided input × (counts ≡ [])) ⊎ ((script : Script) × IsReady (judged_by services) input i script × (counts ≡ counts_line script))
  pub is : told ≡ concat (line ∷ flat_map (rebuilt_line i.facts) walks ∷ counts ∷ [])

-- this is explained of an input: nothing is wrong with it; or it is too long, or its interface or its script is refused
abbrev pub IsExplained : List Facts → List ℕ → Read (List ℕ) → Type 0
IsExplained services input (Ready told) = ExplainsGood services input told
IsExplained services input (Refused told) =
    (((IsUndivided input × (most_interface < length input)) ⊎ IsInputOf (judged_by services) input (Refused too_long_line)) × (told ≡ too_long_line ++ too_long_words))
    ⊎ (ExplainsInterface services input told ⊎ ExplainsScript services input told)

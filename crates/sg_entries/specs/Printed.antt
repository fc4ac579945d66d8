-- Which text prints a history.
use Rattle.std.specs.Prelude.{◌≡◌, ◌++◌, ◌^◌, ◌<◌, ◌≤◌, ℕ, false, true, List, [], ◌∷◌, Some, length}
use Rattle.std.specs.List.{flat_map}
use Rattle.sg_entries.specs.Lines.{entry_lines_of}
use Rattle.sg_entries.specs.Inside.Classes.{IsName}
use Rattle.sg_facts.specs.Facts.{Fun, fun_at, shows_bytes}
use Rattle.sg_facts.specs.Interface.{Declared, declares}
use Rattle.sg_facts.specs.Limits.{most_script_calls}
use Rattle.sg_facts.specs.Words.{line_end}
use Rattle.sg_facts.specs.declared.entry.Entry.{Entry}
use Rattle.sg_facts.specs.sg_base.Lists.{Each}
use Rattle.sg_facts.specs.sg_base.declared.reply.Good.{Good}
use Rattle.sg_facts.specs.sg_base.declared.reply.Reply.{Reply}
use Rattle.sg_facts.specs.sg_base.declared.reply.Reply.TheVariants.{Refused, Ok}
use Rattle.sg_facts.specs.sg_base.declared.value.Value.{Value}
use Rattle.sg_facts.specs.sg_base.declared.value.Value.TheVariants.{Word, Text}
use Rattle.sg_report.specs.Report.{entry_line}
use Rattle.sg_script.specs.Numbers.{is_text}
use Rattle.sg_script.specs.Scripts.{declared_fun}
use Rattle.sg_report.specs.sg_hist.Clients.{MayBeMade}

-- the texts among values are texts as calls take them
abbrev pub AreTexts : List Value → Type 0
AreTexts [] = Unit {0}
AreTexts (Word n ∷ values) = AreTexts values
AreTexts (Text bytes ∷ values) = (is_text bytes ≡ true) × AreTexts values

-- all that an Ok of a function gives is printed, and can be read again: its numbers have 64 bits, it has at most four words, and bytes
-- only where the function shows them, and then those of a text
pub record IsShown (f : Fun) (good : Good) : Type 0 where
  pub desc : good.desc < 2 ^ 64
  pub words : Each (λ word. word < 2 ^ 64) good.words
  pub few : length good.words ≤ 4
  pub hidden : shows_bytes f ≡ false → good.bytes ≡ []
  pub text : is_text good.bytes ≡ true

-- all that a reply to a function gives is printed, and can be read again
abbrev pub IsShownReply : Fun → Reply → Type 0
IsShownReply f (Refused code) = Unit {0}
IsShownReply f (Ok good) = IsShown f good

-- an entry's call is one that a client may make, its numbers and texts are those of their types, and all that its reply gives is printed
pub record MayBePrinted (i : Declared) (e : Entry) : Type 0 where
  pub made : MayBeMade i e.call
  pub seq : e.call.seq < 2 ^ 32
  pub desc : e.call.desc < 2 ^ 64
  pub texts : AreTexts e.call.args
  pub shown : IsShownReply (fun_at i.facts.funs e.call.fun) e.reply

-- the entry lines of a text are the lines that are printed for a history, but that the last may lack its LF; each of its entries may be
-- printed, and there are no more than a script may have calls
pub record PrintsHistory (i : Declared) (text : List ℕ) (history : List Entry) : Type 0 where
  pub lines : flat_map (λ l. l.bytes ++ line_end) (entry_lines_of text) ≡ flat_map (entry_line i.facts) history
  pub entries : Each (MayBePrinted i) history
  pub few : length history ≤ most_script_calls

-- an interface tells its functions by their names: a declared function's name is one as entries are written with, and is that of no
-- declared function before it
abbrev pub HasNames : Declared → Type 0
HasNames i = (fun : ℕ) → declares i fun ≡ true → IsName (fun_at i.facts.funs fun).name × (declared_fun i (fun_at i.facts.funs fun).name ≡ Some fun)

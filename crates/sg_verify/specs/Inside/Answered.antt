-- What the line of a wrong reply is made of.
use Rattle.std.specs.Prelude.{ℕ, List, codes}
use Rattle.std.specs.Option.{option_map_or}
use Rattle.std.specs.declared.option.Option.{Option}
use Rattle.sg_facts.specs.Facts.{Fun}
use Rattle.sg_facts.specs.declared.entry.Entry.{Entry}
use Rattle.sg_facts.specs.sg_base.declared.reply.Reply.{Reply}
use Rattle.sg_report.specs.Report.{reply_text}

-- the number of an entry's function; 0, which no function has, where there is no entry
abbrev pub fun_of_entry : Option Entry → ℕ
fun_of_entry entry = option_map_or (λ (e : Entry). e.call.fun) entry 0

-- what a function's call is answered: a reply as it is printed, or `blocked` where the caller has to wait
abbrev pub answered_text : Fun → Option Reply → List ℕ
answered_text f answered = option_map_or (reply_text f) answered (codes "blocked")

-- What is said of a history: that it is legal, or which entry is the first that is wrong.
use Rattle.std.specs.Prelude.{ℕ, ◌≡◌, ◌≢◌, ◌+◌, List, [], ◌∷◌, ◌++◌, Some, length}
use Rattle.sg_facts.specs.Interface.{Declared}
use Rattle.sg_facts.specs.Legal.{IsLegal, Table, answer}
use Rattle.sg_facts.specs.Object.{object_of}
use Rattle.sg_facts.specs.declared.entry.Entry.{Entry}
use Rattle.sg_report.specs.sg_hist.Clients.{AreNumbered, calls_of}
use Rattle.sg_verify.specs.declared.verdict.Verdict.{Verdict}
use Rattle.sg_verify.specs.declared.verdict.Verdict.TheVariants.{Legal, BadSeq, BadReply}

-- a history is right: a service that never failed could have given each reply, and each client's calls are numbered from 1 on, one
-- after the other
pub record IsRight (i : Declared) (ask : Table) (history : List Entry) : Type 0 where
  pub legal : IsLegal i ask history
  pub numbered : AreNumbered [] history

-- the entries before a place, counted from 1, are right
pub record IsRightUpTo (i : Declared) (ask : Table) (history : List Entry) (at : ℕ) : Type 0 where
  pub before : List Entry
  pub entry : Entry
  pub rest : List Entry
  pub is : history ≡ before ++ entry ∷ rest
  pub place : at ≡ length before + 1
  pub right : IsRight i ask before

-- this is said of a history: it is right; or the first wrong entry has another number than its client's next; or it has that number, and
-- another reply than what is answered there
abbrev pub IsVerdictOf : Declared → Table → List Entry → Verdict → Type 0
IsVerdictOf i ask history Legal = IsRight i ask history
IsVerdictOf i ask history (BadSeq at next) =
    (first : IsRightUpTo i ask history at) × (next ≡ length (calls_of first.before first.entry.call.client) + 1) × (first.entry.call.seq ≢ next)
IsVerdictOf i ask history (BadReply at answered) =
    (first : IsRightUpTo i ask history at) × (first.entry.call.seq ≡ length (calls_of first.before first.entry.call.client) + 1)
    × (answered ≡ answer i ask (object_of i.facts first.before) first.entry.call) × (answered ≢ Some first.entry.reply)

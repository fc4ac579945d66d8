-- What is kept of the entries that were right, and what is said of the next.
use Rattle.std.specs.Prelude.{ℕ, ◌≡◌, ◌≢◌, ◌+◌, ◌≤◌, List, [], ◌∷◌, ◌++◌, None, Some, length}
use Rattle.std.specs.declared.option.Option.{Option}
use Rattle.sg_facts.specs.declared.entry.Entry.{Entry}
use Rattle.sg_facts.specs.Legal.{LegalFrom, Table, answer}
use Rattle.sg_facts.specs.Limits.{most_script_calls}
use Rattle.sg_facts.specs.Object.{Object, empty_object, object_of}
use Rattle.sg_facts.specs.Tables.{Compiled}
use Rattle.sg_verify.specs.Inside.Counting.{AreCounts, next_seq}
use Rattle.sg_verify.specs.declared.verdict.Verdict.{Verdict}
use Rattle.sg_verify.specs.declared.verdict.Verdict.TheVariants.{Legal, BadSeq, BadReply}
use Rattle.sg_world_laws.specs.Keeping.{IsSettledObject}
use Rattle.sg_report.specs.sg_hist.Clients.{AreNumbered}
use Rattle.sg_world_laws.specs.Setting.{Setting}

-- a service by its table, its sound objects and its parts, with the interface and the walks of tables
abbrev pub setting_for : Table → (Object → Type 0) → (ℕ → ℕ) → Compiled → Setting
setting_for ask sound parts tables = record { iface = tables.iface; walks = tables.walks; ask = ask; sound = sound; parts = parts }

-- a history is as long as a script's may be at most, and its object is settled
pub record IsSettled (z : Setting) (history : List Entry) : Type 0 where
  pub object : IsSettledObject z history
  pub few : length history ≤ most_script_calls

-- the entries so far were right, and what is kept of them is theirs: what the service holds, each client's count, and how many they are
pub record IsSoFar (z : Setting) (history : List Entry) (o : Object) (counts : List ℕ) (entries : ℕ) : Type 0 where
  pub legal : LegalFrom z.iface z.ask empty_object history
  pub numbered : AreNumbered [] history
  pub settled : IsSettled z history
  pub object : o ≡ object_of z.iface.facts history
  pub counted : AreCounts counts history
  pub many : entries ≡ length history

-- what is said of an entry after a history
abbrev pub IsWrongAfter : Setting → List Entry → Entry → Verdict → Type 0
IsWrongAfter z history e Legal = ⊥
IsWrongAfter z history e (BadSeq at next) = (at ≡ length history + 1) × (next ≡ next_seq history e.call.client) × (e.call.seq ≢ next)
IsWrongAfter z history e (BadReply at answered) =
    (at ≡ length history + 1) × (e.call.seq ≡ next_seq history e.call.client)
    × (answered ≡ answer z.iface z.ask (object_of z.iface.facts history) e.call) × (answered ≢ Some e.reply)

-- an entry was judged: it is wrong, or one more that was right
abbrev pub Judges : Setting → List Entry → Entry → Option Verdict → Object → List ℕ → ℕ → Type 0
Judges z history e None o counts entries = IsSoFar z (history ++ e ∷ []) o counts entries
Judges z history e (Some verdict) o counts entries = IsWrongAfter z history e verdict

-- Whose turn it is.
use Rattle.std.specs.Prelude.{ℕ, ◌≡◌, ◌<◌, ◌≤◌, Bool, true, false, Some, slice_get}
use Rattle.sg_facts.specs.declared.entry.Entry.{Entry}
use Rattle.sg_play.specs.Following.Stages.{stage_of}
use Rattle.sg_play.specs.sg_plain.Plain.{Stage, may_turn}
use Rattle.sg_sim.specs.Playing.{Playing}

-- the stage that a play is at, and whether a client may take a turn there

-- the stage that a play is at
abbrev pub stage_now : Playing → Stage Entry
stage_now p = stage_of p.script p.view p.passed p.last

-- whether a client may take a turn at the stage that a play is at
abbrev pub may_go_next : Playing → ℕ → Bool
may_go_next p client = may_turn (stage_now p) client

-- the first client after one, and up to another, that may take a turn
pub record IsFirstAfter (p : Playing) (behind last client : ℕ) : Type 0 where
  pub above : behind < client
  pub within : client ≤ last
  pub may : may_go_next p client ≡ true
  pub before : (other : ℕ) → behind < other → other < client → may_go_next p other ≡ false

-- none of them may
abbrev pub NoneAfter : Playing → ℕ → ℕ → Type 0
NoneAfter p behind last = (client : ℕ) → behind < client → client ≤ last → may_go_next p client ≡ false

-- no client of the turns of the schedule up to one may take it
abbrev pub NoneScheduled : Playing → ℕ → Type 0
NoneScheduled p to = (k client : ℕ) → p.passed ≤ k → k < to → slice_get p.script.schedule k ≡ Some client → may_go_next p client ≡ false

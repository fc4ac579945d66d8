-- In which calls clients wait, where a call is answered.
use Rattle.std.specs.Prelude.{◌≡◌, Bool, true, false, List}
use Rattle.sg_facts.specs.sg_base.Lists.{Each}
use Rattle.sg_facts.specs.sg_base.declared.call.Call.{Call}
use Rattle.sg_facts.specs.sg_base.declared.reply.Reply.{Reply}
use Rattle.sg_facts.specs.sg_base.declared.reply.Reply.TheVariants.{Ok, Refused}
use Rattle.sg_facts.specs.declared.row.Row.{Row}
use Rattle.sg_facts.specs.Allowed.{is_allowed}
use Rattle.sg_facts.specs.Facts.{Facts}
use Rattle.sg_facts.specs.Kinds.{IsCall}
use Rattle.sg_world_laws.specs.sg_recovery_laws.Midway.Progress.{IsNone}
use Rattle.sg_clients.specs.WorldView.{Seat, is_blocked_phase}

-- an answered call is one that may be made, of an interface that is allowed, and whoever waits, waits in a call on no descriptor or on a
-- live one
pub record WaitOnLive (facts : Facts) (rows : List Row) (call : Call) (seats : List Seat) : Type 0 where
  pub allowed : is_allowed facts ≡ true
  pub is_call : IsCall facts call
  pub each : Each (λ s. is_blocked_phase s.phase ≡ true → IsNone rows s.call.desc) seats

-- whether a reply is a refusal
abbrev pub refuses : Reply → Bool
refuses (Ok good) = false
refuses (Refused code) = true

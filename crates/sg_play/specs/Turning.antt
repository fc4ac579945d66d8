-- What a client does in its turn: it offers its next call, makes a step, and leaves after its last call.
use Rattle.std.specs.Prelude.{ℕ, ◌≡◌, if◌then◌else◌, nat_lt, None, Some, length}
use Rattle.std.specs.declared.option.Option.{Option}
use Rattle.sg_facts.specs.sg_base.declared.call.Call.{Call}
use Rattle.sg_facts.specs.Facts.{Facts}
use Rattle.sg_plain.specs.sg_hist.Clients.{calls_of}
use Rattle.sg_plain.specs.sg_hist.Inside.Reads.{desc_of}
use Rattle.sg_plain.specs.Calls.{call_after, script_calls}
use Rattle.sg_plain.specs.Playing.Turns.{is_free_phase}
use Rattle.sg_plain.specs.sg_script.declared.script.Script.{Script}
use Rattle.sg_plain.specs.sg_clients.WorldView.{WorldView, happened, offered, seat_of, with_leave}
use Rattle.sg_world.specs.declared.did.Did.{Did}
use Rattle.sg_world.specs.declared.did.Did.TheVariants.{Answered, Blocked, Booted, Loaded, Lost, Replayed, Served, Skipped, Struck}
use Rattle.sg_world.specs.Steps.{HasStepped}
use Rattle.sg_world.specs.sg_world_laws.Setting.{Setting}

-- ---- the offer

-- a world after the offer of a call by a client, which is an event; as before where there is no call
abbrev pub with_call : WorldView → ℕ → Option Call → WorldView
with_call w client None = w
with_call w client (Some call) = happened (offered w client call)

-- a client that has no call under way offers the next call of its script, where it has one
abbrev pub with_offer : Facts → Script → WorldView → ℕ → WorldView
with_offer facts script w client =
    if is_free_phase (seat_of w client).phase then with_call w client (call_after facts script w.history client (length (calls_of w.history client))) else w

-- ---- the step

-- the descriptor of the reply that a step handed over, 0 for none
abbrev pub handed_by : Did → Option ℕ
handed_by (Answered reply) = Some (desc_of reply)
handed_by Skipped = None
handed_by Struck = None
handed_by Booted = None
handed_by Replayed = None
handed_by Loaded = None
handed_by Served = None
handed_by Blocked = None
handed_by Lost = None

-- a client leaves that has no more calls
abbrev pub with_leaving : Script → WorldView → ℕ → WorldView
with_leaving script w client = if nat_lt (seat_of w client).seq (length (script_calls script client)) then w else happened (with_leave w client)

-- a world after a client's step and what follows it: the client leaves where its last call was answered
abbrev pub after_step : Script → ℕ → Did → WorldView → WorldView
after_step script client (Answered reply) later = with_leaving script later client
after_step script client _ later = later

-- a client made a step, and left where its last call was answered
pub record StepsInTurn (z : Setting) (script : Script) (w : WorldView) (client : ℕ) (handed : Option ℕ) (now : WorldView) : Type 0 where
  pub did : Did
  pub later : WorldView
  pub stepped : HasStepped z w client did later
  pub told : handed ≡ handed_by did
  pub is : now ≡ after_step script client did later

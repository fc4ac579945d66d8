-- The seats of a world's clients, and the numbers of their calls.
use Rattle.std.specs.Prelude.{ℕ, ◌≡◌, ◌+◌, ◌^◌, ◌<◌, ◌≤◌, true, List, [], ◌∷◌, None, Some, length}
use Rattle.std.specs.declared.option.Option.{Option}
use Rattle.sg_facts.specs.sg_base.Lists.{Each}
use Rattle.sg_facts.specs.declared.entry.Entry.{Entry}
use Rattle.sg_facts.specs.Legal.{answer}
use Rattle.sg_facts.specs.Limits.{last_client}
use Rattle.sg_facts.specs.Object.{object_of}
use Rattle.sg_recovery_laws.specs.sg_hist.Clients.{AreNumbered, MayBeMade, calls_of}
use Rattle.sg_clients.specs.WorldView.{Seat, is_offered}
use Rattle.sg_clients.specs.declared.phase.Phase.TheVariants.{Blocked, Receipted}
use Rattle.sg_clients.specs.declared.withdrawn.Withdrawn.{Withdrawn}
use Rattle.sg_world_laws.specs.Setting.{Setting}

-- the last of some entries
abbrev pub last_of : List Entry → Option Entry
last_of [] = None
last_of (e ∷ []) = Some e
last_of (e ∷ d ∷ entries) = last_of (d ∷ entries)

-- a client's seat, by its phase: its offered call is the client's, has its next number and may be made; who waits, waits at the object
-- of the history; and a receipt is for its last entry
pub record IsSeated (z : Setting) (history : List Entry) (client : ℕ) (s : Seat) : Type 0 where
  pub its : is_offered s.phase ≡ true → s.call.client ≡ client
  pub next : is_offered s.phase ≡ true → s.call.seq ≡ s.seq + 1
  pub may : is_offered s.phase ≡ true → MayBeMade z.iface s.call
  pub waits : s.phase ≡ Blocked → answer z.iface z.ask (object_of z.iface.facts history) s.call ≡ None
  pub receipt : s.phase ≡ Receipted → last_of (calls_of history client) ≡ Some (record { call = s.call; reply = s.reply })
  pub count : s.seq ≡ length (calls_of history client)
  pub few : s.seq < 2 ^ 32

-- no call that a client withdrew has a greater number than its next one
abbrev pub AreGone : List Withdrawn → ℕ → Seat → Type 0
AreGone withdrawn client s = Each (λ x. x.call.client ≡ client → x.call.seq ≤ s.seq + 1) withdrawn

-- the seats of the clients from a number on
abbrev pub AreSeated : Setting → List Entry → List Withdrawn → ℕ → List Seat → Type 0
AreSeated z history withdrawn client [] = Unit {0}
AreSeated z history withdrawn client (s ∷ seats) =
    IsSeated z history client s × AreGone withdrawn client s × AreSeated z history withdrawn (client + 1) seats

-- the numbers of all seats together
abbrev pub all_seqs : List Seat → ℕ
all_seqs [] = 0
all_seqs (s ∷ seats) = s.seq + all_seqs seats

-- all seats of a world, with so many boots: each is as its phase says, no reply is of a boot that is yet to come, and each entry is a
-- client's of theirs
pub record HaveSeats (z : Setting) (history : List Entry) (withdrawn : List Withdrawn) (boots : ℕ) (seats : List Seat) : Type 0 where
  pub each : AreSeated z history withdrawn 1 seats
  pub numbered : AreNumbered [] history
  pub total : all_seqs seats ≡ length history
  pub few : length seats ≤ last_client
  pub boots_few : Each (λ s. s.boot ≤ boots) seats

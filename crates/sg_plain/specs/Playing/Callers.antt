-- How far the clients of a script have come with its calls, and what an event of a world changes of that.
use Rattle.std.specs.Prelude.{ℕ, ◌≡◌, ◌≢◌, ◌⊎◌, ◌-◌, ◌≤◌, ◌==◌, Bool, true, false, nat_lt, if◌then◌else◌, List, [], ◌∷◌, ◌++◌, Some, length, take}
use Rattle.std.specs.List.{list_all}
use Rattle.sg_facts.specs.sg_base.declared.reply.Reply.{Reply}
use Rattle.sg_facts.specs.declared.entry.Entry.{Entry}
use Rattle.sg_facts.specs.Facts.{Facts}
use Rattle.sg_clients.specs.sg_hist.Clients.{calls_of}
use Rattle.sg_plain.specs.Calls.{call_after, script_calls}
use Rattle.sg_plain.specs.Promises.{AreFirstCalls}
use Rattle.sg_script.specs.declared.script.Script.{Script}
use Rattle.sg_clients.specs.WorldView.{Seat, is_offered, seat_in}
use Rattle.sg_clients.specs.declared.phase.Phase.{Phase}
use Rattle.sg_clients.specs.declared.phase.Phase.TheVariants.{Idle, Asked, Held, Receipted, Blocked, Left}

-- ---- a client

-- a client's entries are its first calls of the script, its seat has the number of the last, and its call under way is the next
pub record IsCaller (facts : Facts) (script : Script) (history : List Entry) (client : ℕ) (s : Seat) : Type 0 where
  pub made : AreFirstCalls facts history client 1 (calls_of history client) (script_calls script client)
  pub count : s.seq ≡ length (calls_of history client)
  pub next : is_offered s.phase ≡ true → call_after facts script history client (length (calls_of history client)) ≡ Some s.call

-- each client has made its first calls of the script, and each entry is of one of the clients
pub record AreCallers (facts : Facts) (script : Script) (history : List Entry) (seats : List Seat) : Type 0 where
  pub each : (client : ℕ) → 1 ≤ client → client ≤ length seats → IsCaller facts script history client (seat_in seats client)
  pub none_else : (client : ℕ) → calls_of history client ≢ [] → (1 ≤ client) × (client ≤ length seats)

-- ---- the setup

-- whether a client's reply is still to be handed over, when its call is in the history
abbrev pub is_receipted : Phase → Bool
is_receipted Receipted = true
is_receipted Idle = false
is_receipted Asked = false
is_receipted Held = false
is_receipted Blocked = false
is_receipted Left = false

-- how many replies a client was handed over
abbrev pub handed : Seat → ℕ
handed s = if is_receipted s.phase then s.seq - 1 else s.seq

-- whether client 1 is still at the calls of the setup
abbrev pub is_setting_up : Script → List Seat → Bool
is_setting_up script seats = nat_lt (handed (seat_in seats 1)) (length script.setup)

-- whether entries are all of client 1
abbrev pub all_of_first : List Entry → Bool
all_of_first history = list_all (λ e. e.call.client == 1) history

-- the calls of the setup come first: until they are done all entries are of client 1, and no other client has a call under way
pub record SetsUpFirst (script : Script) (history : List Entry) (seats : List Seat) : Type 0 where
  pub front : all_of_first (take (length script.setup) history) ≡ true
  pub all : is_setting_up script seats ≡ true → all_of_first history ≡ true
  pub others : is_setting_up script seats ≡ true → (client : ℕ) → 1 ≤ client → client ≢ 1 → is_offered (seat_in seats client).phase ≡ false

-- ---- what an event changes

-- a client offers nothing: its call and its number stay
pub record KeepsCall (s later : Seat) : Type 0 where
  pub offered : is_offered later.phase ≡ true → is_offered s.phase ≡ true
  pub call : later.call ≡ s.call
  pub seq : later.seq ≡ s.seq

-- a client is handed over nothing back, and the others are handed over nothing
pub record HandsOn (seats : List Seat) (c : ℕ) (later : List Seat) : Type 0 where
  pub own : handed (seat_in seats c) ≤ handed (seat_in later c)
  pub others : (client : ℕ) → 1 ≤ client → client ≢ c → handed (seat_in later client) ≡ handed (seat_in seats client)

-- a client's step made no entry
pub record EntersNothing (history : List Entry) (seats : List Seat) (c : ℕ) (now : List Entry) (later : List Seat) : Type 0 where
  pub same : now ≡ history
  pub clients : length later ≡ length seats
  pub each : (client : ℕ) → 1 ≤ client → KeepsCall (seat_in seats client) (seat_in later client)
  pub handed_on : HandsOn seats c later

-- a client's step made an entry, of the client's call that wasn't answered before
pub record EntersCall (history : List Entry) (seats : List Seat) (c : ℕ) (now : List Entry) (later : List Seat) : Type 0 where
  pub reply : Reply
  pub entered : now ≡ history ++ record { call = (seat_in seats c).call; reply = reply } ∷ []
  pub clients : length later ≡ length seats
  pub offered : is_offered (seat_in seats c).phase ≡ true
  pub answered : is_offered (seat_in later c).phase ≡ false
  pub number : (seat_in later c).seq ≡ (seat_in seats c).call.seq
  pub others : (client : ℕ) → 1 ≤ client → client ≢ c → KeepsCall (seat_in seats client) (seat_in later client)
  pub handed_on : HandsOn seats c later

-- what a step of a client does, as far as calls go
abbrev pub StepsOn : List Entry → List Seat → ℕ → List Entry → List Seat → Type 0
StepsOn history seats c now later = EntersNothing history seats c now later ⊎ EntersCall history seats c now later

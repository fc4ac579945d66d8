-- The world as plain data, and the small changes that its events are made of.
use Rattle.std.specs.Prelude.{ℕ, ◌+◌, ◌-◌, ◌==◌, ◌&&◌, ◌||◌, Bool, true, false, if◌then◌else◌, List, [], ◌∷◌, ◌++◌, None, Some, length, map, min, slice_get, slice_set, unwrap_or}
use Rattle.std.specs.List.{flat_map}
use Rattle.std.specs.declared.option.Option.{Option}
use Rattle.sg_facts.specs.sg_base.Counts.{last_count}
use Rattle.sg_facts.specs.sg_base.declared.call.Call.{Call}
use Rattle.sg_facts.specs.sg_base.declared.reply.Reply.{Reply}
use Rattle.sg_facts.specs.sg_base.declared.reply.Reply.TheVariants.{Ok, Refused}
use Rattle.sg_facts.specs.declared.entry.Entry.{Entry}
use Rattle.sg_facts.specs.declared.row.Row.{Row}
use Rattle.sg_facts.specs.declared.trace.Item.{Item}
use Rattle.sg_facts.specs.Facts.{Facts, fun_at}
use Rattle.sg_facts.specs.Object.{Object, empty_object, object_of}
use Rattle.sg_facts.specs.Trace.{Run}
use Rattle.sg_facts.specs.Track.{ends_with}
use Rattle.sg_hist.specs.Growing.{booted, noted, struck}
use Rattle.sg_clients.specs.declared.mark.Mark.{Mark}
use Rattle.sg_clients.specs.declared.mark.MarkKind.{MarkKind}
use Rattle.sg_clients.specs.declared.mark.MarkKind.TheVariants.{Offer, Entry as IsEntered, Answer, Withdraw, Leave}
use Rattle.sg_clients.specs.declared.phase.Phase.{Phase}
use Rattle.sg_clients.specs.declared.phase.Phase.TheVariants.{Idle, Asked, Held, Receipted, Blocked, Left}
use Rattle.sg_clients.specs.declared.withdrawn.Withdrawn.{Withdrawn}

-- a client's seat: its phase, its offered call, the number of its last entry, and the reply that it holds or has a receipt for, with
-- the boot in which the service gave it
pub record Seat : Type 0 where
  pub phase : Phase
  pub call : Call
  pub seq : ℕ
  pub boot : ℕ
  pub reply : Reply

-- what contracts see of a world, beside its tables and the plan of its stops, which no event changes: the calls that were done, what
-- was done to the service and what it holds while it is up, the seats of the clients in ascending numbers, the withdrawn calls, what
-- happened to the clients, and how many events there were and how many steps wanted memory
pub record WorldView : Type 0 where
  pub history : List Entry
  pub run : Run
  pub running : Option Object
  pub seats : List Seat
  pub withdrawn : List Withdrawn
  pub marks : List Mark
  pub events : ℕ
  pub refused : ℕ

-- ---- seats

-- a call of nobody, which stands where none was offered
abbrev pub no_call : Call
no_call = record { client = 0; seq = 0; fun = 0; desc = 0; args = [] }

-- an empty Ok, which stands where no reply is
abbrev pub no_reply : Reply
no_reply = Ok (record { desc = 0; words = []; bytes = [] })

-- a seat of nobody
abbrev pub no_seat : Seat
no_seat = record { phase = Idle; call = no_call; seq = 0; boot = 0; reply = no_reply }

-- the seat of a client; clients are numbered from 1
abbrev pub seat_in : List Seat → ℕ → Seat
seat_in seats client = unwrap_or (slice_get seats (client - 1)) no_seat

-- the seat of a client of a world; clients are numbered from 1
abbrev pub seat_of : WorldView → ℕ → Seat
seat_of w client = seat_in w.seats client

-- a world with the seat of a client replaced
abbrev pub with_seat : WorldView → ℕ → Seat → WorldView
with_seat w client seat = record w { seats = slice_set w.seats (client - 1) seat }

-- a world with the seat of a client in another phase
abbrev pub in_phase : WorldView → ℕ → Phase → WorldView
in_phase w client phase = with_seat w client (record (seat_of w client) { phase = phase })

-- something happened to a client
abbrev pub with_mark : WorldView → ℕ → MarkKind → WorldView
with_mark w client kind = record w { marks = w.marks ++ record { client = client; kind = kind } ∷ [] }

-- a world with these clients, in which nothing was done: the service is up in its first boot
abbrev pub new_world : List Seat → WorldView
new_world seats = record { history = []; run = record { boots = booted []; points = 0 }; running = Some empty_object; seats = seats; withdrawn = []; marks = []; events = 0; refused = 0 }

-- a client waits or has left
abbrev pub is_resting : Phase → Bool
is_resting Blocked = true
is_resting Left = true
is_resting Idle = false
is_resting Asked = false
is_resting Held = false
is_resting Receipted = false

-- whether the client of a seat waits or has left
abbrev pub is_at_rest : Seat → Bool
is_at_rest s = is_resting s.phase

-- a client has no call under way
abbrev pub IsFree : Phase → Type 0
IsFree Idle = Unit {0}
IsFree Left = Unit {0}
IsFree Asked = ⊥
IsFree Held = ⊥
IsFree Receipted = ⊥
IsFree Blocked = ⊥

-- a client's call may be withdrawn
abbrev pub MayWithdraw : Phase → Type 0
MayWithdraw Asked = Unit {0}
MayWithdraw Blocked = Unit {0}
MayWithdraw Idle = ⊥
MayWithdraw Left = ⊥
MayWithdraw Held = ⊥
MayWithdraw Receipted = ⊥

-- ---- held replies

-- the number of the running boot, from 1
abbrev pub boot_number : WorldView → ℕ
boot_number w = length w.run.boots

-- whether a client's reply is held: the service gave it, and it isn't in the history yet
abbrev pub is_held_phase : Phase → Bool
is_held_phase Held = true
is_held_phase Idle = false
is_held_phase Asked = false
is_held_phase Receipted = false
is_held_phase Blocked = false
is_held_phase Left = false

-- whether a seat holds a reply that was given in a boot
abbrev pub is_held_in : ℕ → Seat → Bool
is_held_in boot seat = is_held_phase seat.phase && (seat.boot == boot)

-- the replies held in a boot, as the entries that they will be, in the order of the clients
abbrev pub held_in : ℕ → List Seat → List Entry
held_in boot [] = []
held_in boot (s ∷ seats) = if is_held_in boot s then record { call = s.call; reply = s.reply } ∷ held_in boot seats else held_in boot seats

-- the replies held in the running boot; none while the service is down
abbrev pub held_replies : WorldView → List Entry
held_replies w = of w.running
  where
    of : Option Object → List Entry
    of None = []
    of (Some v) = held_in (boot_number w) w.seats

-- whether a client in a phase has a call that isn't answered
abbrev pub is_offered : Phase → Bool
is_offered Asked = true
is_offered Held = true
is_offered Blocked = true
is_offered Idle = false
is_offered Receipted = false
is_offered Left = false

-- the call of a seat that isn't answered, if it has one
abbrev pub offered_by : Seat → List Call
offered_by s = if is_offered s.phase then s.call ∷ [] else []

-- the calls that aren't answered: those offered, and those withdrawn
abbrev pub unanswered : WorldView → List Call
unanswered w = flat_map offered_by w.seats ++ map (λ x. x.call) w.withdrawn

-- ---- wake-ups

-- whether an answered call wakes who waits in another: an Ok of a wake-up on its descriptor, or of what ends it
abbrev pub wakes_seat : Facts → List Row → Call → Reply → Call → Bool
wakes_seat facts rows call (Refused code) other = false
wakes_seat facts rows call (Ok good) other =
    ((fun_at facts.funs call.fun).wakeup && (call.desc == other.desc)) || ((fun_at facts.funs call.fun).terminal && ends_with facts rows call.desc other.desc)

-- whether a client's call has to wait
abbrev pub is_blocked_phase : Phase → Bool
is_blocked_phase Blocked = true
is_blocked_phase Idle = false
is_blocked_phase Asked = false
is_blocked_phase Held = false
is_blocked_phase Receipted = false
is_blocked_phase Left = false

-- a seat, asked again if it waits in a call that meets a test
abbrev pub woken_seat : (Call → Bool) → Seat → Seat
woken_seat test seat = if is_blocked_phase seat.phase && test seat.call then record seat { phase = Asked } else seat

-- ---- small changes

-- an entry is appended, and clients are woken
abbrev pub committed : Facts → WorldView → Entry → WorldView
committed facts w e = record (with_mark w e.call.client IsEntered) {
  history = w.history ++ e ∷ [];
  seats = map (woken_seat (wakes_seat facts (object_of facts w.history).rows e.call e.reply)) w.seats;
}

-- the client of an entry has the entry's call as its last, with the reply still to be handed over
abbrev pub given_to : WorldView → Entry → WorldView
given_to w e = with_seat w e.call.client (record (seat_of w e.call.client) { phase = Receipted; seq = e.call.seq; reply = e.reply })

-- the client of an entry has the entry's call as its last, with the reply handed over at once
abbrev pub answered_to : WorldView → Entry → WorldView
answered_to w e = with_mark (with_seat w e.call.client (record (seat_of w e.call.client) { phase = Idle; seq = e.call.seq; reply = no_reply })) e.call.client Answer

-- a client's reply is handed over
abbrev pub reply_handed_over : WorldView → ℕ → WorldView
reply_handed_over w client = with_mark (with_seat w client (record (seat_of w client) { phase = Idle; reply = no_reply })) client Answer

-- whether a client has left
abbrev pub is_left_phase : Phase → Bool
is_left_phase Left = true
is_left_phase Idle = false
is_left_phase Asked = false
is_left_phase Held = false
is_left_phase Receipted = false
is_left_phase Blocked = false

-- a client leaves; nothing happens to one that has left
abbrev pub with_leave : WorldView → ℕ → WorldView
with_leave w client = if is_left_phase (seat_of w client).phase then w else with_mark (in_phase w client Left) client Leave

-- an event was made, also one that wanted memory
abbrev pub happened : WorldView → WorldView
happened w = record w { events = min (w.events + 1) last_count }

-- an item is noted
abbrev pub item_noted : WorldView → Item → WorldView
item_noted w item = record w { run = record { boots = noted w.run.boots item; points = item.points } }

-- a world in whose run so many points were asked
abbrev pub with_points : WorldView → ℕ → WorldView
with_points w points = record w { run = record { boots = w.run.boots; points = points } }

-- a world whose service is up and holds this object
abbrev pub service_is : WorldView → Object → WorldView
service_is w v = record w { running = Some v }

-- the service stopped at a point
abbrev pub struck_at : WorldView → ℕ → WorldView
struck_at w point = record w { run = record { boots = struck w.run.boots point; points = point }; running = None }

-- the service is booted afresh, and holds nothing: who waited is asked
abbrev pub rebooted : WorldView → WorldView
rebooted w = record w {
  run = record { boots = booted w.run.boots; points = w.run.points };
  running = Some empty_object;
  seats = map (woken_seat (λ call. true)) w.seats;
}

-- a client offers a call
abbrev pub offered : WorldView → ℕ → Call → WorldView
offered w client call = with_mark (with_seat w client (record (seat_of w client) { phase = Asked; call = call })) client Offer

-- a client withdraws its call
abbrev pub withdrawn_by : WorldView → ℕ → WorldView
withdrawn_by w client = with_mark (in_phase (record w {
  withdrawn = w.withdrawn ++ record { call = (seat_of w client).call; phases = map (λ s. s.phase) w.seats; at = length w.history } ∷ [];
}) client Idle) client Withdraw

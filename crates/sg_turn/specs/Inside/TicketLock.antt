-- The ticket lock as plain data, and what is true of each seat's view of it.
use Rattle.std.specs.Prelude.{◌≡◌, ℕ, ◌+◌, ◌≤◌, ◌<◌, ◌⊎◌, Bool, true, List, [], ◌∷◌}
use Rattle.sg_turn.specs.Logs.{marks_of}
use Rattle.sg_turn.specs.declared.log.Face.{Face}
use Rattle.sg_turn.specs.declared.view.Knowledge.{Knowledge}
use Rattle.sg_turn.specs.declared.view.SeatState.{SeatState}
use Rattle.sg_turn.specs.declared.view.SeatState.TheVariants.{Idle, Waiting, Served, Holding, Counted, Spent}
use Rattle.sg_turn.specs.declared.view.View.{View}

-- the next ticket, the ticket that is served, and the number of holds that were counted; the value's face after each number of holds;
-- at which place stands the view that has a client's number, and the one that has a ticket; and whether the value is out
pub record TicketLock : Type 0 where
  pub ticket : ℕ
  pub serving : ℕ
  pub count : ℕ
  pub faces : ℕ → Face
  pub owner : ℕ → ℕ
  pub holder : ℕ → ℕ
  pub out : Bool

-- the value's face after the holds that were counted
abbrev pub latest : TicketLock → Face
latest z = z.faces z.count

-- one more than the ticket of a state, 0 where it has none
abbrev pub ticket_of : SeatState → ℕ
ticket_of Idle = 0
ticket_of (Waiting t) = t + 1
ticket_of (Served t) = t + 1
ticket_of (Holding t) = t + 1
ticket_of (Counted t) = t + 1
ticket_of Spent = 0

-- what the view at a place knows of one client: its number is that of no other view, its face is the one with its number of holds,
-- and the client's marks are those of the latest face
pub record KnowledgeFits (z : TicketLock) (place : ℕ) (k : Knowledge) : Type 0 where
  pub numbered : 1 ≤ k.number
  pub owned : z.owner k.number ≡ place
  pub known : k.known ≤ z.count
  pub face : k.face ≡ z.faces k.known
  pub own : marks_of k.number k.face.log ≡ marks_of k.number (latest z).log

abbrev pub AllFit : TicketLock → ℕ → List Knowledge → Type 0
AllFit z place [] = Unit {0}
AllFit z place (k ∷ ks) = KnowledgeFits z place k × AllFit z place ks

-- what a state says of the words, for the view at a place that knows so many holds: who waits has a ticket that wasn't served before;
-- the others with a ticket have the one that is served, and who holds the value, or has counted its hold, knows the latest face
abbrev pub StateFits : TicketLock → ℕ → ℕ → SeatState → Type 0
StateFits z place known Idle = Unit {0}
StateFits z place known (Waiting t) = (z.serving ≤ t) × (t < z.ticket) × (z.holder t ≡ place)
StateFits z place known (Served t) = (z.serving ≡ t) × (t < z.ticket) × (z.holder t ≡ place) × (z.count ≡ z.serving)
StateFits z place known (Holding t) =
    (z.serving ≡ t) × (t < z.ticket) × (z.holder t ≡ place) × (z.count ≡ z.serving) × (known ≡ z.count) × (z.out ≡ true)
StateFits z place known (Counted t) =
    (z.serving ≡ t) × (t < z.ticket) × (z.holder t ≡ place) × (z.count ≡ z.serving + 1) × (known ≡ z.count) × (z.out ≡ true)
StateFits z place known Spent = ⊥

-- every number above this one belongs to the view at the place, and no mark of such a client was added
abbrev pub DealsAbove : TicketLock → ℕ → ℕ → Type 0
DealsAbove z place number = (c : ℕ) → number < c → (z.owner c ≡ place) × (marks_of c (latest z).log ≡ marks_of c (z.faces 0).log)

pub record Lives (z : TicketLock) (place : ℕ) (v : View) : Type 0 where
  pub own : KnowledgeFits z place v.own
  pub joined : AllFit z place v.joined
  pub deals : v.deals ≡ true → DealsAbove z place v.own.number
  pub state : StateFits z place v.own.known v.state

-- what is true of the view at a place: it is spent, or all that it knows fits
abbrev pub Fits : TicketLock → ℕ → View → Type 0
Fits z place v = (v.state ≡ Spent) ⊎ Lives z place v

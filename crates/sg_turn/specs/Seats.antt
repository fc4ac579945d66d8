-- What contracts see of a hand-over and of its seats.
use Rattle.std.specs.Prelude.{◌≡◌, ℕ, zero, suc, ◌≤◌, Bool, true, false, List, [], ◌∷◌, ◌++◌, map}
use Rattle.atomic_table.specs.Seated.{TableId}
use Rattle.sg_turn.specs.Logs.{marks_of, AllBy, Follows, AtLeast}
use Rattle.sg_turn.specs.declared.log.Face.{Face}
use Rattle.sg_turn.specs.declared.log.LogMark.{LogMark}
use Rattle.sg_turn.specs.declared.view.Knowledge.{Knowledge}

-- ---- a hand-over and a seat

-- which hand-over it is, and the face of the value that it began with
pub record TurnView : Type 0 where
  pub id : TableId
  pub start : Face

-- a seat: the hand-over that it belongs to; its client's number, from 1; a number of holds that were counted, and the value's face
-- with that number; whether its number is the last one; and whether it holds the value
pub record SeatView : Type 0 where
  pub turn : TableId
  pub number : ℕ
  pub known : ℕ
  pub face : Face
  pub last : Bool
  pub holds : Bool

-- what the seat's client knows of the value
abbrev pub knowledge_of : SeatView → Knowledge
knowledge_of s = record { number = s.number; known = s.known; face = s.face }

-- ---- what a seat learns

-- the client knows a later face, or the same; nothing that came since is its own
pub record Learns (old new : Knowledge) : Type 0 where
  pub number : new.number ≡ old.number
  pub known : old.known ≤ new.known
  pub face : Follows old.face new.face
  pub own : marks_of old.number new.face.log ≡ marks_of old.number old.face.log

-- the seat is the same, and its client knows a later face
pub record HasLearnt (old new : SeatView) : Type 0 where
  pub turn : new.turn ≡ old.turn
  pub last : new.last ≡ old.last
  pub learns : Learns (knowledge_of old) (knowledge_of new)

-- marks of this client, any number of them, stand behind the log
pub record AddsMarks (client : ℕ) (old new : List LogMark) : Type 0 where
  pub more : List LogMark
  pub log : new ≡ old ++ more
  pub own : AllBy client more

-- ---- all seats

-- a seat as it is dealt: no hold was counted yet
abbrev pub new_seat : TurnView → ℕ → Bool → SeatView
new_seat t number last = record { turn = t.id; number = number; known = 0; face = t.start; last = last; holds = false }

-- the seats of the first clients, none of them the last
abbrev pub first_seats : TurnView → ℕ → List SeatView
first_seats t zero = []
first_seats t (suc n) = first_seats t n ++ new_seat t (suc n) false ∷ []

-- so many seats, in ascending numbers from 1, of which the last is marked as the last
abbrev pub all_seats : TurnView → ℕ → List SeatView
all_seats t zero = []
all_seats t (suc n) = first_seats t n ++ new_seat t (suc n) true ∷ []

-- each is a seat of the hand-over, and doesn't hold the value
abbrev pub AllFree : TableId → List SeatView → Type 0
AllFree id [] = Unit {0}
AllFree id (s ∷ ss) = (s.turn ≡ id) × (s.holds ≡ false) × AllFree id ss

-- the clients' numbers go up by one from n
abbrev pub NumberedFrom : ℕ → List Knowledge → Type 0
NumberedFrom n [] = Unit {0}
NumberedFrom n (k ∷ ks) = (k.number ≡ n) × NumberedFrom (suc n) ks

-- these are all seats of a hand-over, in ascending numbers, and none holds the value
pub record AreAllSeats (id : TableId) (seats : List SeatView) : Type 0 where
  pub others : List SeatView
  pub final : SeatView
  pub list : seats ≡ others ++ final ∷ []
  pub last : final.last ≡ true
  pub free : AllFree id seats
  pub numbers : NumberedFrom 1 (map knowledge_of seats)

-- ---- the end

-- the last face is a later one than the client knows, has the client's marks as it knows them, and counts an event at least for each
-- hold that it knows
pub record EndsIn (start last : Face) (k : Knowledge) : Type 0 where
  pub face : Follows k.face last
  pub own : marks_of k.number last.log ≡ marks_of k.number k.face.log
  pub known : AtLeast start.events k.known last.events

-- the last face ends what each of these clients knows
abbrev pub AllEndIn : Face → Face → List Knowledge → Type 0
AllEndIn start last [] = Unit {0}
AllEndIn start last (k ∷ ks) = EndsIn start last k × AllEndIn start last ks

-- ---- beginning and ending without lists

-- a hand-over whose seats are being dealt, and the number of the next seat
pub record DealingView : Type 0 where
  pub id : TableId
  pub start : Face
  pub next : ℕ

abbrev pub turn_of : DealingView → TurnView
turn_of d = record { id = d.id; start = d.start }

-- a hand-over that is being ended, and what the clients knew whose seats are back, in ascending numbers
pub record ClosingView : Type 0 where
  pub id : TableId
  pub start : Face
  pub gathered : List Knowledge

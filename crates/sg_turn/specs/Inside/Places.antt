-- What contracts see of places at the table, and what is true of them between calls.
use Rattle.std.specs.Prelude.{◌≡◌, ℕ, Bool, true, false, Option, None, List, [], ◌∷◌, ◌++◌}
use Rattle.atomic_table.specs.Seated.{TableId}
use Rattle.atomic_table.specs.declared.shared.Seat.{Seat as BoardSeat}
use Rattle.sg_turn.specs.Inside.Steps.{dealer_view}
use Rattle.sg_turn.specs.Seats.{SeatView, ClosingView}
use Rattle.sg_turn.specs.declared.log.Face.{Face}
use Rattle.sg_turn.specs.declared.view.SeatState.{SeatState}
use Rattle.sg_turn.specs.declared.view.SeatState.TheVariants.{Idle, Waiting, Served, Holding, Counted, Spent}
use Rattle.sg_turn.specs.declared.view.View.{View}

-- whether a seat of this state holds the value
abbrev pub is_holding : SeatState → Bool
is_holding Idle = false
is_holding (Waiting t) = false
is_holding (Served t) = false
is_holding (Holding t) = true
is_holding (Counted t) = false
is_holding Spent = false

-- the seat with a place
abbrev pub seat_view : {V : Type 0} → BoardSeat (Option V) View → SeatView
seat_view p = record {
  turn = p.table_id;
  number = p.me.0.own.number;
  known = p.me.0.own.known;
  face = p.me.0.own.face;
  last = p.me.0.deals;
  holds = is_holding p.me.0.state;
}

-- between calls a seat is idle and has no slot, or holds the value, and its slot is empty
abbrev pub IsBetween : {V : Type 0} → SeatState → List (ℕ × Option V) → Type 0
IsBetween Idle slots = slots ≡ []
IsBetween (Waiting t) slots = ⊥
IsBetween (Served t) slots = ⊥
IsBetween (Holding t) slots = slots ≡ (0, None) ∷ []
IsBetween (Counted t) slots = ⊥
IsBetween Spent slots = ⊥

pub record IsSeat {V : Type 0} (p : BoardSeat (Option V) View) : Type 0 where
  pub joined : p.me.0.joined ≡ []
  pub between : IsBetween p.me.0.state p.me.1

-- while seats are dealt, one has every number that isn't dealt
pub record IsDealing {V : Type 0} (id : TableId) (start : Face) (p : BoardSeat (Option V) View) : Type 0 where
  pub words : id.words ≡ 3
  pub slots : id.slots ≡ 1
  pub table : p.table_id ≡ id
  pub me : p.me ≡ (dealer_view p.me.0.own.number start, [])

-- what the seats knew that are back; the last one's is the seat's own
abbrev pub closing_of : TableId → Face → View → ClosingView
closing_of id start v = record { id = id; start = start; gathered = v.joined ++ v.own ∷ [] }

-- while seats are taken back, the last one takes in what the others know
pub record IsClosing {V : Type 0} (id : TableId) (p : BoardSeat (Option V) View) : Type 0 where
  pub words : id.words ≡ 3
  pub slots : id.slots ≡ 1
  pub table : p.table_id ≡ id
  pub state : p.me.0.state ≡ Idle
  pub deals : p.me.0.deals ≡ true

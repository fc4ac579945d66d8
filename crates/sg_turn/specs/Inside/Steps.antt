-- The views that seats have, and what each step tells: by the step, the seat before, the number found and the seat after.
use Rattle.std.specs.Prelude.{◌≡◌, ◌≢◌, ℕ, ◌+◌, true, false, Option, Some, [], ◌∷◌}
use Rattle.atomic_table.specs.Table.{Me, Step, rest}
use Rattle.sg_turn.specs.Seats.{Learns}
use Rattle.sg_turn.specs.declared.log.Face.{Face}
use Rattle.sg_turn.specs.declared.view.Knowledge.{Knowledge}
use Rattle.sg_turn.specs.declared.view.SeatState.{SeatState}
use Rattle.sg_turn.specs.declared.view.SeatState.TheVariants.{Idle, Waiting, Served, Holding, Counted, Spent}
use Rattle.sg_turn.specs.declared.view.View.{View}

-- ---- views

-- a view in another state
abbrev pub with_state : View → SeatState → View
with_state v s = record { own = v.own; joined = v.joined; deals = v.deals; state = s }

-- what a client knows, with another number of holds and its face
abbrev pub knowledge_at : Knowledge → ℕ → Face → Knowledge
knowledge_at k known face = record { number = k.number; known = known; face = face }

-- a view that knows another number of holds
abbrev pub knowing : View → ℕ → Face → View
knowing v known face = record { own = knowledge_at v.own known face; joined = v.joined; deals = v.deals; state = v.state }

-- a seat that knows the first face, and has this number and every one above it
abbrev pub dealer_view : ℕ → Face → View
dealer_view number face = record { own = record { number = number; known = 0; face = face }; joined = []; deals = true; state = Idle }

-- the first seat has every number
abbrev pub first_view : Face → View
first_view face = dealer_view 1 face

-- a seat leaves its number to a new one, and takes the next
abbrev pub next_view : View → View
next_view v = record { own = record { number = v.own.number + 1; known = v.own.known; face = v.own.face }; joined = v.joined; deals = v.deals; state = v.state }

-- the new seat has that number alone
abbrev pub client_view : View → View
client_view v = record { own = v.own; joined = []; deals = false; state = Idle }

-- what another seat's client knows is kept beside the own
abbrev pub with_joined : View → View → View
with_joined v w = record { own = v.own; joined = w.own ∷ v.joined; deals = v.deals; state = v.state }

-- that other seat is spent
abbrev pub spent_view : View
spent_view = record { own = record { number = 0; known = 0; face = record { log = []; events = 0 } }; joined = []; deals = false; state = Spent }

-- ---- steps

module _ {V : Type 0} where
  -- where the word was the ticket expected, the ticket is drawn; else nothing changed
  abbrev pub HasDrawn : Step (Option V) → Me (Option V) View → ℕ → Me (Option V) View → Type 0
  HasDrawn st m r n = (r ≡ st.first → n ≡ (with_state m.0 (Waiting st.first), m.1)) × (r ≢ st.first → n ≡ m)

  -- where the ticket found is its own, the seat is served
  abbrev pub HasLooked : Step (Option V) → Me (Option V) View → ℕ → Me (Option V) View → Type 0
  HasLooked st m r n = (t : ℕ) → m.0.state ≡ Waiting t → (r ≡ t → n ≡ (with_state m.0 (Served t), m.1)) × (r ≢ t → n ≡ m)

  -- a seat that is served learns the latest face, and holds the value, which has this face
  abbrev pub HasFetched : (V → Face) → Step (Option V) → Me (Option V) View → ℕ → Me (Option V) View → Type 0
  HasFetched face st m r n = (t : ℕ) → m.0.state ≡ Served t
      → (y : V) × (n ≡ (with_state (knowing m.0 r (face y)) (Holding t), (0, Some y) ∷ m.1)) × Learns m.0.own (knowledge_at m.0.own r (face y))

  -- the seat learns the latest face
  abbrev pub HasProgressed : Step (Option V) → Me (Option V) View → ℕ → Me (Option V) View → Type 0
  HasProgressed st m r n = (f : Face) × (n ≡ (knowing m.0 r f, m.1)) × Learns m.0.own (knowledge_at m.0.own r f)

  -- a hold is counted, with the value in its slot
  abbrev pub HasCounted : (V → Face) → Step (Option V) → Me (Option V) View → ℕ → Me (Option V) View → Type 0
  HasCounted face st m r n = (t : ℕ) (y : V) → m.0.state ≡ Holding t → m.1 ≡ (0, Some y) ∷ []
      → n ≡ (with_state (knowing m.0 (m.0.own.known + 1) (face y)) (Counted t), m.1)

  -- the next ticket is served, and the slot given back
  abbrev pub HasServed : Step (Option V) → Me (Option V) View → ℕ → Me (Option V) View → Type 0
  HasServed st m r n = n ≡ (with_state m.0 Idle, rest m.1)

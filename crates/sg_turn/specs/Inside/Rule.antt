-- The rule of the hand-over: what is true of the words, the slot and all views between any two steps.
use Rattle.std.specs.Prelude.{◌≡◌, ◌≢◌, ℕ, ◌+◌, ◌≤◌, ◌<◌, ◌^◌, ◌⊎◌, true, false, Option, Some, List, [], ◌∷◌}
use mathlib.Core.Option.{none, some}
use lib.ListN.{get_elem?}
use Rattle.atomic_table.specs.Table.{State}
use Rattle.sg_turn.specs.Inside.TicketLock.{TicketLock, latest, Fits, ticket_of}
use Rattle.sg_turn.specs.Logs.{Follows, AtLeast}
use Rattle.sg_turn.specs.declared.log.Face.{Face}
use Rattle.sg_turn.specs.declared.view.Knowledge.{Knowledge}
use Rattle.sg_turn.specs.declared.view.SeatState.{SeatState}
use Rattle.sg_turn.specs.declared.view.SeatState.TheVariants.{Idle, Waiting, Served, Holding, Counted, Spent}
use Rattle.sg_turn.specs.declared.view.View.{View}

-- ---- where the value is

-- a seat of this state may have the value out: it holds it, or has counted its hold
abbrev pub OutWith : TicketLock → SeatState → Type 0
OutWith z Idle = ⊥
OutWith z (Waiting t) = ⊥
OutWith z (Served t) = ⊥
OutWith z (Holding t) = z.count ≡ z.serving
OutWith z (Counted t) = z.count ≡ z.serving + 1
OutWith z Spent = ⊥

-- the value is in the slot, its face is the latest, and as many holds were counted as tickets served
abbrev pub IsHome : {V : Type 0} → (V → Face) → TicketLock → State (Option V) View → Type 0
IsHome {V} face z s = (y : V) × (s.homes ≡ some (Some y) ∷ []) × (face y ≡ latest z) × (z.count ≡ z.serving) × (z.out ≡ false)

-- the slot is empty, and the value out with the view whose ticket is served
abbrev pub IsOut : {V : Type 0} → TicketLock → State (Option V) View → Type 0
IsOut z s = (v : View) × (s.homes ≡ none ∷ []) × (get_elem? s.views (z.holder z.serving) ≡ some v) × OutWith z v.state × (z.out ≡ true)

-- ---- who is there

-- the view at a place has this ticket
abbrev pub HasTicket : List View → ℕ → ℕ → Type 0
HasTicket views place t = (v : View) × (get_elem? views place ≡ some v) × (ticket_of v.state ≡ t + 1)

-- one of these clients knows so many holds
abbrev pub KnownIn : List Knowledge → ℕ → Type 0
KnownIn [] n = ⊥
KnownIn (k ∷ ks) n = (k.known ≡ n) ⊎ KnownIn ks n

-- a view that isn't spent knows so many holds
abbrev pub Knows : View → ℕ → Type 0
Knows v n = (v.state ≢ Spent) × ((v.own.known ≡ n) ⊎ KnownIn v.joined n)

-- some view does
abbrev pub SomeKnows : List View → ℕ → Type 0
SomeKnows views n = (place : ℕ) × (v : View) × (get_elem? views place ≡ some v) × Knows v n

-- ---- the rule

pub record KeepsTurns {V : Type 0} (face : V → Face) (start : Face) (s : State (Option V) View) : Type 0 where
  pub lock : TicketLock
  -- the words; a ticket is drawn before it is served, and tickets don't run over
  pub words : s.words ≡ lock.ticket ∷ lock.serving ∷ lock.count ∷ []
  pub turns : lock.serving ≤ lock.ticket
  pub tickets : lock.ticket < 2 ^ 64
  -- each ticket that is served or still to be served is that of one view
  pub held : (t : ℕ) → lock.serving ≤ t → t < lock.ticket → HasTicket s.views (lock.holder t) t
  -- some view knows the latest face
  pub known : SomeKnows s.views lock.count
  -- the faces: the first is the one that the hand-over began with, each begins the later ones, and each hold was an event at least
  pub begins : lock.faces 0 ≡ start
  pub follows : (j k : ℕ) → j ≤ k → k ≤ lock.count → Follows (lock.faces j) (lock.faces k)
  pub counts : (k : ℕ) → k ≤ lock.count → AtLeast start.events k (lock.faces k).events
  -- the value is at home, or out with one view; and each view fits
  pub place : IsHome face lock s ⊎ IsOut lock s
  pub views : (i : ℕ) (v : View) → get_elem? s.views i ≡ some v → Fits lock i v

-- Each step keeps the rule.
use Rattle.std.proofs.Common.{◌≡◌, ◌≢◌, ◌⊎◌, ℕ, ◌+◌, ◌%◌, ◌^◌, ◌≤◌, ◌<◌, true, false, cond, eqb, List, [], ◌∷◌, ◌++◌, length, get_or, set, Option, None, Some, refl, sym, ap, ◌∙◌, subst, inl, inr, ⊎_elim, arith, length-set, eq-eqb, ne_eqb, mod-eq_of_lt, true≢false}
use mathlib.Core.Logic.{dite}
use mathlib.Core.Option.{none, some, some-injective}
use native.Mathlib.Decide.{ℕ_discrete}
use lib.ListN.{get_elem?}
use lib.Seq.{set-get_or}
use prog.Atomic.{either}
use Rattle.atomic_table.specs.Table.{State, Me, step, Act, keeps, takes, gives, Valid, carried_after, stepped, put_back, Allows, Splits, Joins}
use Rattle.atomic_table.proofs.Lists.{at_set, set_here, set_else, at_longer, exchanged}
use Rattle.sg_turn.specs.declared.log.LogMark.{LogMark}
use Rattle.sg_turn.specs.declared.log.Face.{Face}
use Rattle.sg_turn.specs.declared.view.Knowledge.{Knowledge}
use Rattle.sg_turn.specs.declared.view.SeatState.{SeatState}
use Rattle.sg_turn.specs.declared.view.SeatState.TheVariants.{Idle, Waiting, Served, Holding, Counted, Spent}
use Rattle.sg_turn.specs.declared.view.View.{View}
use Rattle.sg_turn.specs.Logs.{marks_of, AllBy, Follows, OneMore, AtLeast}
use Rattle.sg_turn.specs.Inside.TicketLock.{TicketLock, latest, KnowledgeFits, AllFit, StateFits, Lives, Fits, ticket_of}
use Rattle.sg_turn.specs.Inside.Rule.{OutWith, IsHome, IsOut, HasTicket, Knows, KnownIn, SomeKnows, KeepsTurns}
use Rattle.sg_turn.specs.Inside.Steps.{with_state, knowledge_at, knowing, next_view, client_view, with_joined, spent_view, HasDrawn, HasLooked, HasFetched, HasProgressed, HasCounted, HasServed}
use Rattle.sg_turn.specs.Seats.{Learns}
use Rattle.sg_turn.specs.Inside.Places.{is_holding}
use Rattle.sg_turn.proofs.Logs.{marks_of-kept, follows_same, follows_on, one_more_le, at_least_more, changed, changed_here, changed_else, at_length, at_end}

-- a view that isn't spent lives
lives_of : (z : TicketLock) (i : ℕ) (v : View) → v.state ≢ Spent → Fits z i v → Lives z i v
lives_of z i v not f = ⊎_elim (λ e. absurd (not e)) (λ l. l) f

-- what a view has taken in fits another lock where each client's knowledge does
all_in : (z z' : TicketLock) (i j : ℕ) (ps : List Knowledge) → ((p : Knowledge) → KnowledgeFits z i p → KnowledgeFits z' j p) → AllFit z i ps → AllFit z' j ps
all_in z z' i j [] f a = tt
all_in z z' i j (p ∷ ps) f a = (f p a.0, all_in z z' i j ps f a.1)

-- a state that fits does so with the latest number of holds known
state_known : (z : TicketLock) (i known : ℕ) (st : SeatState) → StateFits z i known st → StateFits z i z.count st
state_known z i known Idle f = tt
state_known z i known (Waiting t) f = f
state_known z i known (Served t) f = f
state_known z i known (Holding t) f = (f.0, f.1, f.2, f.3, refl, f.5)
state_known z i known (Counted t) f = (f.0, f.1, f.2, f.3, refl, f.5)
state_known z i known Spent f = f

-- a seat that holds the value has a ticket
pub held_with : (st : SeatState) → is_holding st ≡ true → (t : ℕ) × (st ≡ Holding t)
held_with Idle e = absurd (true≢false (sym e))
held_with (Waiting t) e = absurd (true≢false (sym e))
held_with (Served t) e = absurd (true≢false (sym e))
held_with (Holding t) e = (t, refl)
held_with (Counted t) e = absurd (true≢false (sym e))
held_with Spent e = absurd (true≢false (sym e))

-- ---- the lock after a step, and what stays true of the other views

abbrev drawn : TicketLock → ℕ → TicketLock
drawn z i = record { ticket = z.ticket + 1; serving = z.serving; count = z.count; faces = z.faces; owner = z.owner; holder = changed z.holder z.ticket i; out = z.out }

abbrev taken : TicketLock → TicketLock
taken z = record { ticket = z.ticket; serving = z.serving; count = z.count; faces = z.faces; owner = z.owner; holder = z.holder; out = true }

abbrev counted : TicketLock → Face → TicketLock
counted z f = record { ticket = z.ticket; serving = z.serving; count = z.count + 1; faces = changed z.faces (z.count + 1) f; owner = z.owner; holder = z.holder; out = z.out }

abbrev served : TicketLock → TicketLock
served z = record { ticket = z.ticket; serving = z.serving + 1; count = z.count; faces = z.faces; owner = z.owner; holder = z.holder; out = false }

-- the owners of numbers changed
abbrev reowned : TicketLock → (ℕ → ℕ) → TicketLock
reowned z owner = record { ticket = z.ticket; serving = z.serving; count = z.count; faces = z.faces; owner = owner; holder = z.holder; out = z.out }

knowledge_drawn : (z : TicketLock) (i j : ℕ) (p : Knowledge) → KnowledgeFits z j p → KnowledgeFits (drawn z i) j p
knowledge_drawn z i j p f = record { numbered = f.numbered; owned = f.owned; known = f.known; face = f.face; own = f.own }

state_drawn : (z : TicketLock) (i j known : ℕ) (st : SeatState) → StateFits z j known st → StateFits (drawn z i) j known st
state_drawn z i j known Idle f = tt
state_drawn z i j known (Waiting t) f = (f.0, (let h = f.1 in omega arith), changed_else z.holder z.ticket i t (λ e. let h = f.1 in omega arith) ∙ f.2)
state_drawn z i j known (Served t) f = (f.0, (let h = f.1 in omega arith), changed_else z.holder z.ticket i t (λ e. let h = f.1 in omega arith) ∙ f.2, f.3)
state_drawn z i j known (Holding t) f = (f.0, (let h = f.1 in omega arith), changed_else z.holder z.ticket i t (λ e. let h = f.1 in omega arith) ∙ f.2, f.3, f.4, f.5)
state_drawn z i j known (Counted t) f = (f.0, (let h = f.1 in omega arith), changed_else z.holder z.ticket i t (λ e. let h = f.1 in omega arith) ∙ f.2, f.3, f.4, f.5)
state_drawn z i j known Spent f = f

lives_drawn : (z : TicketLock) (i j : ℕ) (v : View) → Lives z j v → Lives (drawn z i) j v
lives_drawn z i j v l = record {
  own = knowledge_drawn z i j v.own l.own;
  joined = all_in z (drawn z i) j j v.joined (knowledge_drawn z i j) l.joined;
  deals = l.deals;
  state = state_drawn z i j v.own.known v.state l.state;
}

-- who has the value out has a ticket that was drawn
out_below : (z : TicketLock) (i known : ℕ) (st : SeatState) → OutWith z st → StateFits z i known st → z.serving < z.ticket
out_below z i known Idle o f = absurd o
out_below z i known (Waiting t) o f = absurd o
out_below z i known (Served t) o f = absurd o
out_below z i known (Holding t) o f = let a = f.0 in let b = f.1 in omega arith
out_below z i known (Counted t) o f = let a = f.0 in let b = f.1 in omega arith
out_below z i known Spent o f = absurd o

out_drawn : (z : TicketLock) (i : ℕ) (st : SeatState) → OutWith z st → OutWith (drawn z i) st
out_drawn z i Idle o = o
out_drawn z i (Waiting t) o = o
out_drawn z i (Served t) o = o
out_drawn z i (Holding t) o = o
out_drawn z i (Counted t) o = o
out_drawn z i Spent o = o

-- a step of the view i, which has the turn and the number n, adds marks of its own
record Counts (z : TicketLock) (i n : ℕ) (f : Face) : Type 0 where
  turn : z.holder z.serving ≡ i
  number : z.owner n ≡ i
  follows : Follows (latest z) f
  more : List LogMark
  log : f.log ≡ (latest z).log ++ more
  own : AllBy n more

face_counted : (z : TicketLock) (f : Face) (k : ℕ) → k ≤ z.count → changed z.faces (z.count + 1) f k ≡ z.faces k
face_counted z f k h = changed_else z.faces (z.count + 1) f k (λ e. omega arith)

last_counted : (z : TicketLock) (f : Face) → latest (counted z f) ≡ f
last_counted z f = changed_here z.faces (z.count + 1) f (z.count + 1) refl

-- the marks of another's number stay
other_marks : (z : TicketLock) (i j n c : ℕ) (f : Face) → Counts z i n f → j ≢ i → z.owner c ≡ j → marks_of c (latest z).log ≡ marks_of c (latest (counted z f)).log
other_marks z i j n c f k ne owned =
    marks_of-kept c n (latest z).log f.log k.more (λ e. ne (sym owned ∙ ap z.owner e ∙ k.number)) k.log k.own ∙ ap (λ (g : Face). marks_of c g.log) (sym (last_counted z f))

knowledge_counted : (z : TicketLock) (i j n : ℕ) (f : Face) → Counts z i n f → j ≢ i → (p : Knowledge) → KnowledgeFits z j p → KnowledgeFits (counted z f) j p
knowledge_counted z i j n f k ne p h = record {
  numbered = h.numbered;
  owned = h.owned;
  known = (let a = h.known in omega arith);
  face = h.face ∙ sym (face_counted z f p.known h.known);
  own = h.own ∙ other_marks z i j n p.number f k ne h.owned;
}

state_counted : (z : TicketLock) (i j n known : ℕ) (f : Face) → Counts z i n f → j ≢ i → (st : SeatState) → StateFits z j known st → StateFits (counted z f) j known st
state_counted z i j n known f k ne Idle h = tt
state_counted z i j n known f k ne (Waiting t) h = h
state_counted z i j n known f k ne (Served t) h = absurd (ne (sym h.2 ∙ ap z.holder (sym h.0) ∙ k.turn))
state_counted z i j n known f k ne (Holding t) h = absurd (ne (sym h.2 ∙ ap z.holder (sym h.0) ∙ k.turn))
state_counted z i j n known f k ne (Counted t) h = absurd (ne (sym h.2 ∙ ap z.holder (sym h.0) ∙ k.turn))
state_counted z i j n known f k ne Spent h = h

lives_counted : (z : TicketLock) (i j n : ℕ) (f : Face) → Counts z i n f → j ≢ i → (v : View) → Lives z j v → Lives (counted z f) j v
lives_counted z i j n f k ne v l = record {
  own = knowledge_counted z i j n f k ne v.own l.own;
  joined = all_in z (counted z f) j j v.joined (knowledge_counted z i j n f k ne) l.joined;
  deals = λ d c above. let h = l.deals d c above in (h.0, sym (other_marks z i j n c f k ne h.0) ∙ h.1 ∙ ap (λ (g : Face). marks_of c g.log) (sym (face_counted z f 0 (omega arith))));
  state = state_counted z i j n v.own.known f k ne v.state l.state;
}

knowledge_taken : (z : TicketLock) (j : ℕ) (p : Knowledge) → KnowledgeFits z j p → KnowledgeFits (taken z) j p
knowledge_taken z j p f = record { numbered = f.numbered; owned = f.owned; known = f.known; face = f.face; own = f.own }

state_taken : (z : TicketLock) (j known : ℕ) (st : SeatState) → StateFits z j known st → StateFits (taken z) j known st
state_taken z j known Idle h = h
state_taken z j known (Waiting t) h = h
state_taken z j known (Served t) h = h
state_taken z j known (Holding t) h = (h.0, h.1, h.2, h.3, h.4, refl)
state_taken z j known (Counted t) h = (h.0, h.1, h.2, h.3, h.4, refl)
state_taken z j known Spent h = h

lives_taken : (z : TicketLock) (j : ℕ) (v : View) → Lives z j v → Lives (taken z) j v
lives_taken z j v l = record {
  own = knowledge_taken z j v.own l.own;
  joined = all_in z (taken z) j j v.joined (knowledge_taken z j) l.joined;
  deals = l.deals;
  state = state_taken z j v.own.known v.state l.state;
}

knowledge_served : (z : TicketLock) (j : ℕ) (p : Knowledge) → KnowledgeFits z j p → KnowledgeFits (served z) j p
knowledge_served z j p f = record { numbered = f.numbered; owned = f.owned; known = f.known; face = f.face; own = f.own }

state_served : (z : TicketLock) (i j known : ℕ) → z.holder z.serving ≡ i → j ≢ i → (st : SeatState) → StateFits z j known st → StateFits (served z) j known st
state_served z i j known turn ne Idle h = tt
state_served z i j known turn ne (Waiting t) h = ((let a = h.0 in let apart : z.serving ≢ t = (λ e. ne (sym h.2 ∙ ap z.holder (sym e) ∙ turn)) in omega arith), h.1, h.2)
state_served z i j known turn ne (Served t) h = absurd (ne (sym h.2 ∙ ap z.holder (sym h.0) ∙ turn))
state_served z i j known turn ne (Holding t) h = absurd (ne (sym h.2 ∙ ap z.holder (sym h.0) ∙ turn))
state_served z i j known turn ne (Counted t) h = absurd (ne (sym h.2 ∙ ap z.holder (sym h.0) ∙ turn))
state_served z i j known turn ne Spent h = h

lives_served : (z : TicketLock) (i j : ℕ) → z.holder z.serving ≡ i → j ≢ i → (v : View) → Lives z j v → Lives (served z) j v
lives_served z i j turn ne v l = record {
  own = knowledge_served z j v.own l.own;
  joined = all_in z (served z) j j v.joined (knowledge_served z j) l.joined;
  deals = l.deals;
  state = state_served z i j v.own.known turn ne v.state l.state;
}

-- what a client knows, whose view is at the place j now
knowledge_moved : (z : TicketLock) (owner : ℕ → ℕ) (i j : ℕ) (p : Knowledge) → owner p.number ≡ j → KnowledgeFits z i p → KnowledgeFits (reowned z owner) j p
knowledge_moved z owner i j p e f = record { numbered = f.numbered; owned = e; known = f.known; face = f.face; own = f.own }

state_moved : (z : TicketLock) (owner : ℕ → ℕ) (j known : ℕ) (st : SeatState) → StateFits z j known st → StateFits (reowned z owner) j known st
state_moved z owner j known Idle h = h
state_moved z owner j known (Waiting t) h = h
state_moved z owner j known (Served t) h = h
state_moved z owner j known (Holding t) h = h
state_moved z owner j known (Counted t) h = h
state_moved z owner j known Spent h = h

-- a view whose numbers stay its own
lives_moved : (z : TicketLock) (owner : ℕ → ℕ) (j : ℕ) (v : View) → ((c : ℕ) → z.owner c ≡ j → owner c ≡ j) → Lives z j v → Lives (reowned z owner) j v
lives_moved z owner j v keep l = record {
  own = knowledge_moved z owner j j v.own (keep v.own.number l.own.owned) l.own;
  joined = all_in z (reowned z owner) j j v.joined (λ p f. knowledge_moved z owner j j p (keep p.number f.owned) f) l.joined;
  deals = λ d c above. let h = l.deals d c above in (keep c h.0, h.1);
  state = state_moved z owner j v.own.known v.state l.state;
}

fits_by : (z z' : TicketLock) (j : ℕ) (v : View) → (Lives z j v → Lives z' j v) → Fits z j v → Fits z' j v
fits_by z z' j v go f = ⊎_elim (λ e. inl e) (λ l. inr (go l)) f

-- a ticket's view keeps it where a view is replaced by one with the same ticket, or by another's
ticket_kept : (views : List View) (i j t : ℕ) (v w : View) → get_elem? views i ≡ some v → ticket_of w.state ≡ ticket_of v.state → HasTicket views j t → HasTicket (set views i w) j t
ticket_kept views i j t v w at same h =
    dite (ℕ_discrete j i)
    (λ e. let u : h.0 ≡ v = some-injective _ _ (sym h.1 ∙ ap (get_elem? views) e ∙ at) in
    (w, ap (get_elem? (set views i w)) e ∙ set_here views i w (at_length views i v at), same ∙ ap (λ (x : View). ticket_of x.state) (sym u) ∙ h.2))
    (λ ne. (h.0, set_else views i j w ne ∙ h.1, h.2))

other_ticket : (views : List View) (i j t : ℕ) (v : View) → get_elem? views i ≡ some v → ticket_of v.state ≢ t + 1 → HasTicket views j t → j ≢ i
other_ticket views i j t v at ne h e = ne (ap (λ (x : View). ticket_of x.state) (some-injective _ _ (sym at ∙ ap (get_elem? views) (sym e) ∙ h.1)) ∙ h.2)

-- what some view knows is known still where a view is replaced by one that knows it too
knows_kept : (views : List View) (i n : ℕ) (v w : View) → get_elem? views i ≡ some v → (Knows v n → Knows w n) → SomeKnows views n → SomeKnows (set views i w) n
knows_kept views i n v w at go k =
    dite (ℕ_discrete k.0 i)
    (λ e. let u : k.1 ≡ v = some-injective _ _ (sym k.2 ∙ ap (get_elem? views) e ∙ at) in (i, w, set_here views i w (at_length views i v at), go (subst (λ (x : View). Knows x n) u k.3)))
    (λ ne. (k.0, k.1, set_else views i k.0 w ne ∙ k.2, k.3))

no_ticket : (t : ℕ) → 0 ≢ t + 1
no_ticket t e = omega arith

abbrev pub or_else : {V : Type 0} → V → Option V → V
or_else d None = d
or_else d (Some y) = y

abbrev head_value : {V : Type 0} → V → List (ℕ × Option V) → V
head_value d [] = d
head_value d (x ∷ xs) = or_else d x.1

module _ {V : Type 0} (face : V → Face) (start : Face) where
  abbrev Whole : Type 0
  Whole = State (Option V) View

  abbrev Mine : Type 0
  Mine = Me (Option V) View

  -- the views after one of them changed
  moved : (z z' : TicketLock) (s : Whole) (i : ℕ) (w : View) → ((j : ℕ) (u : View) → get_elem? s.views j ≡ some u → Fits z j u)
      → ((j : ℕ) (u : View) → j ≢ i → Fits z j u → Fits z' j u) → Fits z' i w
      → (j : ℕ) (u : View) → get_elem? (set s.views i w) j ≡ some u → Fits z' j u
  moved z z' s i w fits frame mine j u e =
      ⊎_elim
      (λ (x : (j ≡ i) × (w ≡ u)). subst (λ (y : ℕ × View). Fits z' y.0 y.1) (λ k. (sym x.0 k, x.1 k)) mine)
      (λ (x : (j ≢ i) × (get_elem? s.views j ≡ some u)). frame j u x.0 (fits j u x.1))
      (at_set s.views i j w u e)

  -- the value stays out where the view that has it may have it
  still_out : (z : TicketLock) (s : Whole) (i : ℕ) (v w : View) (ws : List ℕ) → get_elem? s.views i ≡ some v → (OutWith z v.state → OutWith z w.state) → IsOut z s
      → IsOut z (record { words = ws; homes = s.homes; views = set s.views i w })
  still_out z s i v w ws at keep o =
      dite (ℕ_discrete (z.holder z.serving) i)
      (λ e. let same : o.0 ≡ v = some-injective _ _ (sym o.2 ∙ ap (get_elem? s.views) e ∙ at) in
      (w, o.1, ap (get_elem? (set s.views i w)) e ∙ set_here s.views i w (at_length s.views i v at), keep (subst (λ (u : View). OutWith z u.state) same o.3), o.4))
      (λ ne. (o.0, o.1, set_else s.views i (z.holder z.serving) w ne ∙ o.2, o.3, o.4))

  -- where the view that has the turn hasn't the value, the value is at home
  is_home : (z : TicketLock) (s : Whole) (i : ℕ) (v : View) → get_elem? s.views i ≡ some v → z.holder z.serving ≡ i → (OutWith z v.state → ⊥) → IsHome face z s ⊎ IsOut z s → IsHome face z s
  is_home z s i v at turn without place =
      ⊎_elim (λ h. h) (λ (o : IsOut z s). absurd (without (subst (λ (u : View). OutWith z u.state) (some-injective _ _ (sym o.2 ∙ ap (get_elem? s.views) turn ∙ at)) o.3))) place

  -- a step that changes no word and leaves the lock
  reviewed : (s : Whole) (r : KeepsTurns face start s) (i k : ℕ) (v w : View) (hs : _) → get_elem? s.views i ≡ some v → ticket_of w.state ≡ ticket_of v.state → (Knows v r.lock.count → Knows w r.lock.count)
      → (let t : Whole = record { words = set s.words k (get_or s.words k 0); homes = hs; views = set s.views i w } in IsHome face r.lock t ⊎ IsOut r.lock t)
      → Fits r.lock i w → KeepsTurns face start (record { words = set s.words k (get_or s.words k 0); homes = hs; views = set s.views i w })
  reviewed s r i k v w hs at same knows place mine = record {
    lock = r.lock;
    words = set-get_or s.words k 0 ∙ r.words;
    turns = r.turns;
    tickets = r.tickets;
    held = λ t low high. ticket_kept s.views i (r.lock.holder t) t v w at same (r.held t low high);
    known = knows_kept s.views i r.lock.count v w at knows r.known;
    begins = r.begins;
    follows = r.follows;
    counts = r.counts;
    place = place;
    views = moved r.lock r.lock s i w r.views (λ j u ne f. f) mine;
  }

  -- a step that leaves a view as it is in all but its state
  restaged : (z : TicketLock) (i : ℕ) (v : View) (st : SeatState) → Lives z i v → StateFits z i v.own.known st → Lives z i (with_state v st)
  restaged z i v st l f = record { own = l.own; joined = l.joined; deals = l.deals; state = f }

  -- a view that has learnt the latest face
  relearnt : (z : TicketLock) (i : ℕ) (v : View) (f : Face) (st : SeatState) → f ≡ latest z → Lives z i v → StateFits z i z.count st → Lives z i (with_state (knowing v z.count f) st)
  relearnt z i v f st is l fits = record {
    own = record { numbered = l.own.numbered; owned = l.own.owned; known = omega arith; face = is; own = ap (λ (g : Face). marks_of v.own.number g.log) is };
    joined = l.joined;
    deals = l.deals;
    state = fits;
  }

  -- what it learnt by that
  learnt : (s : Whole) (r : KeepsTurns face start s) (i : ℕ) (v : View) (f : Face) → f ≡ latest r.lock → Lives r.lock i v → Learns v.own (knowledge_at v.own r.lock.count f)
  learnt s r i v f is l = record {
    number = refl;
    known = l.own.known;
    face = subst (λ (g : Face). Follows g f) (sym l.own.face) (subst (Follows (r.lock.faces v.own.known)) (sym is) (r.follows v.own.known r.lock.count l.own.known (omega arith)));
    own = ap (λ (g : Face). marks_of v.own.number g.log) is ∙ sym l.own.own;
  }

  pub looks : (n id : ℕ) (me : Mine) (t : ℕ) → me.0.state ≡ Waiting t → Allows (KeepsTurns face start) n id me 1 (λ x. x) (HasLooked (step n 1 0 0 none) me)
  looks n id me t is s r wide at _ =
      let z = r.lock in let v = me.0 in
      let found : get_or s.words 1 0 ≡ z.serving = ap (λ (ws : List ℕ). get_or ws 1 0) r.words in
      let l : Lives z id v = lives_of z id v (λ e. cc) (r.views id v at) in
      let f : StateFits z id v.own.known (Waiting t) = subst (StateFits z id v.own.known) is l.state in
      let none-out : OutWith z v.state → ⊥ = λ o. subst (OutWith z) is o in
      dite (ℕ_discrete z.serving t)
      (λ mine.
      let home = is_home z s id v at (ap z.holder mine ∙ f.2) none-out r.place in
      let w = with_state v (Served t) in (
        w,
        keeps,
        tt,
        reviewed s r id 1 v w s.homes at (ap ticket_of (sym is)) (λ x. ((λ e. cc), x.1)) (inl home) (inr (restaged z id v (Served t) l (mine, f.1, f.2, home.3))),
        λ t' is'. let same : t' ≡ t = cc in ((λ _. ap (λ x. (with_state v (Served x), me.1)) (sym same)), (λ ne. absurd (ne (found ∙ mine ∙ sym same)))),
      ))
      (λ other. (
        v,
        keeps,
        tt,
        reviewed s r id 1 v v s.homes at refl (λ x. x) (⊎_elim (λ h. inl h) (λ o. inr (still_out z s id v v (set s.words 1 (get_or s.words 1 0)) at (λ x. x) o)) r.place) (inr l),
        λ t' is'. let same : t' ≡ t = cc in ((λ e. absurd (other (sym found ∙ e ∙ same))), (λ _. refl)),
      ))

  pub fetches : (n id : ℕ) (me : Mine) (t : ℕ) → me.0.state ≡ Served t → Allows (KeepsTurns face start) n id me 2 (λ x. x) (HasFetched face (step n 2 0 0 none) me)
  fetches n id me t is s r wide at _ =
      let z = r.lock in let v = me.0 in let z' = taken z in
      let found : get_or s.words 2 0 ≡ z.count = ap (λ (ws : List ℕ). get_or ws 2 0) r.words in
      let l : Lives z id v = lives_of z id v (λ e. cc) (r.views id v at) in
      let f : StateFits z id v.own.known (Served t) = subst (StateFits z id v.own.known) is l.state in
      let turn : z.holder z.serving ≡ id = ap z.holder f.0 ∙ f.2 in
      let home = is_home z s id v at turn (λ o. subst (OutWith z) is o) r.place in
      let y = home.0 in
      let w = with_state (knowing v z.count (face y)) (Holding t) in (
        w,
        takes 0 (Some y),
        ap (λ hs. get_elem? hs 0) home.1,
        record {
          lock = z';
          words = set-get_or s.words 2 0 ∙ r.words;
          turns = r.turns;
          tickets = r.tickets;
          held = λ x low high. ticket_kept s.views id (z.holder x) x v w at (ap ticket_of (sym is)) (r.held x low high);
          known = knows_kept s.views id z.count v w at (λ x. ((λ e. cc), inl refl)) r.known;
          begins = r.begins;
          follows = r.follows;
          counts = r.counts;
          place = inr (w, ap (λ hs. set hs 0 none) home.1, ap (get_elem? (set s.views id w)) turn ∙ set_here s.views id w (at_length s.views id v at), f.3, refl);
          views = moved z z' s id w r.views (λ j u ne g. fits_by z z' j u (lives_taken z j u) g)
              (inr (relearnt z' id v (face y) (Holding t) home.2 (lives_taken z id v l) (f.0, f.1, f.2, f.3, refl, refl)));
        },
        λ t' is'. let same : t' ≡ t = cc in (
          y,
          (λ k. (with_state (knowing v (sym found k) (face y)) (Holding (sym same k)), (0, Some y) ∷ me.1)),
          subst (λ x. Learns v.own (knowledge_at v.own x (face y))) (sym found) (learnt s r id v (face y) home.2 l),
        ),
      )

  pub progresses : (n id : ℕ) (me : Mine) → me.0.state ≢ Spent → Allows (KeepsTurns face start) n id me 2 (λ x. x) (HasProgressed (step n 2 0 0 none) me)
  progresses n id me lives s r wide at _ =
      let z = r.lock in let v = me.0 in
      let found : get_or s.words 2 0 ≡ z.count = ap (λ (ws : List ℕ). get_or ws 2 0) r.words in
      let l : Lives z id v = lives_of z id v lives (r.views id v at) in
      let f = latest z in
      let w = knowing v z.count f in (
        w,
        keeps,
        tt,
        reviewed s r id 2 v w s.homes at refl (λ x. (x.0, inl refl)) (⊎_elim (λ h. inl h) (λ o. inr (still_out z s id v w (set s.words 2 (get_or s.words 2 0)) at (λ x. x) o)) r.place)
            (inr (relearnt z id v f v.state refl l (state_known z id v.own.known v.state l.state))),
        (f, (λ k. (knowing v (sym found k) f, me.1)), subst (λ x. Learns v.own (knowledge_at v.own x f)) (sym found) (learnt s r id v f refl l)),
      )

  abbrev Goes : Whole → ℕ → ℕ → Mine → (ℕ → Mine → Type 0) → ℕ → Type 0
  Goes s i id m then k = (w : View) × (a : Act (Option V)) × Valid s.homes m.1 a × KeepsTurns face start (stepped s i k id m.1 w a) × then (get_or s.words i 0) (w, carried_after m.1 a)

  pub draws : (n id : ℕ) (me : Mine) (old new : ℕ) → me.0.state ≡ Idle → new ≡ old + 1 → new < 2 ^ 64
      → Allows (KeepsTurns face start) n id me 0 (λ x. either (eqb x old) new x) (HasDrawn (step n 0 old new none) me)
  draws n id me old new is next small s r wide at _ =
      let z = r.lock in let v = me.0 in
      let found : get_or s.words 0 0 ≡ z.ticket = ap (λ (ws : List ℕ). get_or ws 0 0) r.words in
      let l : Lives z id v = lives_of z id v (λ e. cc) (r.views id v at) in
      exchanged (get_or s.words 0 0) old new (Goes s 0 id me (HasDrawn (step n 0 old new none) me))
      (λ hit.
      let this : z.ticket ≡ old = sym found ∙ hit in
      let z' = drawn z id in
      let w = with_state v (Waiting old) in
      let turns = r.turns in
      let out : IsOut z s → IsOut z' (record { words = set s.words 0 new; homes = s.homes; views = set s.views id w }) = λ o.
      let apart : z.holder z.serving ≢ id = (λ e. subst (OutWith z) (ap (λ (u : View). u.state) (some-injective _ _ (sym o.2 ∙ ap (get_elem? s.views) e ∙ at)) ∙ is) o.3) in
      let lu = lives_of z (z.holder z.serving) o.0 (λ e. subst (OutWith z) e o.3) (r.views (z.holder z.serving) o.0 o.2) in
      let below : z.serving < z.ticket = out_below z (z.holder z.serving) o.0.own.known o.0.state o.3 lu.state in
      let same : z'.holder z.serving ≡ z.holder z.serving = changed_else z.holder z.ticket id z.serving (λ e. omega arith) in
      (o.0, o.1, ap (get_elem? (set s.views id w)) same ∙ set_else s.views id (z.holder z.serving) w apart ∙ o.2, out_drawn z id o.0.state o.3, o.4) in (
        w,
        keeps,
        tt,
        record {
          lock = z';
          words = ap (λ ws. set ws 0 new) r.words ∙ ap (λ k. k ∷ z.serving ∷ z.count ∷ []) (next ∙ ap (λ k. k + 1) (sym this));
          turns = omega arith;
          tickets = omega arith;
          held = λ x low high. dite (ℕ_discrete x z.ticket)
              (λ e. (w, ap (get_elem? (set s.views id w)) (changed_here z.holder z.ticket id x e) ∙ set_here s.views id w (at_length s.views id v at), ap (λ k. k + 1) (sym this ∙ sym e)))
              (λ ne.
              let h = r.held x low (omega arith) in
              let apart = other_ticket s.views id (z.holder x) x v at (λ i. no_ticket x (ap ticket_of (sym is) ∙ i)) h in
              (h.0, ap (get_elem? (set s.views id w)) (changed_else z.holder z.ticket id x ne) ∙ set_else s.views id (z.holder x) w apart ∙ h.1, h.2));
          known = knows_kept s.views id z.count v w at (λ x. ((λ e. cc), x.1)) r.known;
          begins = r.begins;
          follows = r.follows;
          counts = r.counts;
          place = ⊎_elim (λ h. inl h) (λ o. inr (out o)) r.place;
          views = moved z z' s id w r.views (λ j u ne f. fits_by z z' j u (lives_drawn z id j u) f)
              (inr (restaged z' id v (Waiting old) (lives_drawn z id id v l) (omega arith, omega arith, changed_here z.holder z.ticket id old (sym this))));
        },
        ((λ _. refl), (λ ne. absurd (ne hit))),
      ))
      (λ miss. (
        v,
        keeps,
        tt,
        reviewed s r id 0 v v s.homes at refl (λ x. x) (⊎_elim (λ h. inl h) (λ o. inr (still_out z s id v v (set s.words 0 (get_or s.words 0 0)) at (λ x. x) o)) r.place) (inr l),
        ((λ e. absurd (miss e)), (λ _. refl)),
      ))

  pub counts : (n id : ℕ) (me : Mine) (t : ℕ) (y : V) → me.0.state ≡ Holding t → me.0.joined ≡ [] → me.1 ≡ (0, Some y) ∷ []
      → (more : List LogMark) → (face y).log ≡ me.0.own.face.log ++ more → AllBy me.0.own.number more → OneMore me.0.own.face.events (face y).events
      → Allows (KeepsTurns face start) n id me 2 (λ x. (x + 1) % 2 ^ 64) (HasCounted face (step n 2 1 0 none) me)
  counts n id me t y is alone has more log by one s r wide at _ =
      let z = r.lock in let v = me.0 in let z' = counted z (face y) in
      let l : Lives z id v = lives_of z id v (λ e. cc) (r.views id v at) in
      let f : StateFits z id v.own.known (Holding t) = subst (StateFits z id v.own.known) is l.state in
      let turn : z.holder z.serving ≡ id = ap z.holder f.0 ∙ f.2 in
      let mine : v.own.face ≡ latest z = l.own.face ∙ ap z.faces f.4 in
      let one' : OneMore (latest z).events (face y).events = subst (λ (g : Face). OneMore g.events (face y).events) mine one in
      let longer : (face y).log ≡ (latest z).log ++ more = log ∙ ap (λ (g : Face). g.log ++ more) mine in
      let after : Follows (latest z) (face y) = record { log = (more, sym longer); events = one_more_le (latest z).events (face y).events one' } in
      let k : Counts z id v.own.number (face y) = record { turn = turn; number = l.own.owned; follows = after; more = more; log = longer; own = by } in
      let few : z.count + 1 < 2 ^ 64 = (let a = f.0 in let b = f.1 in let c = f.3 in let d = r.tickets in omega arith) in
      let c : ℕ = z.count in
      let w = with_state (knowing v (v.own.known + 1) (face y)) (Counted t) in
      let known' : v.own.known + 1 ≡ c + 1 = ap (λ x. x + 1) f.4 in
      let there = ap (get_elem? (set s.views id w)) turn ∙ set_here s.views id w (at_length s.views id v at) in
      let last = last_counted z (face y) in (
        w,
        keeps,
        tt,
        record {
          lock = z';
          words = ap (λ ws. set ws 2 ((get_or ws 2 0 + 1) % 2 ^ 64)) r.words ∙ ap (λ x. z.ticket ∷ z.serving ∷ x ∷ []) (mod-eq_of_lt few);
          turns = r.turns;
          tickets = r.tickets;
          held = λ x low high. ticket_kept s.views id (z.holder x) x v w at (ap ticket_of (sym is)) (r.held x low high);
          known = (id, w, set_here s.views id w (at_length s.views id v at), ((λ e. cc), inl known'));
          begins = face_counted z (face y) 0 (omega arith) ∙ r.begins;
          follows = λ i j le high. dite (ℕ_discrete j (c + 1))
              (λ e. subst (Follows (z'.faces i)) (sym (changed_here z.faces (c + 1) (face y) j e)) (dite (ℕ_discrete i (c + 1))
              (λ e'. subst (λ (g : Face). Follows g (face y)) (sym (changed_here z.faces (c + 1) (face y) i e')) (follows_same (face y)))
              (λ ne'. subst (λ (g : Face). Follows g (face y)) (sym (changed_else z.faces (c + 1) (face y) i ne')) (follows_on (z.faces i) (latest z) (face y) (r.follows i c (omega arith) (omega arith)) after))))
              (λ ne. subst (Follows (z'.faces i)) (sym (changed_else z.faces (c + 1) (face y) j ne))
              (subst (λ (g : Face). Follows g (z.faces j)) (sym (face_counted z (face y) i (omega arith))) (r.follows i j le (omega arith))));
          counts = λ j high. dite (ℕ_discrete j (c + 1))
              (λ e. subst (λ (g : Face). AtLeast start.events j g.events) (sym (changed_here z.faces (c + 1) (face y) j e))
              (subst (λ x. AtLeast start.events x (face y).events) (sym e) (at_least_more start.events c (latest z).events (face y).events (r.counts c (omega arith)) one')))
              (λ ne. subst (λ (g : Face). AtLeast start.events j g.events) (sym (changed_else z.faces (c + 1) (face y) j ne)) (r.counts j (omega arith)));
          place = ⊎_elim (λ (h : IsHome face z s). absurd (true≢false (sym f.5 ∙ h.4))) (λ (o : IsOut z s). inr (w, o.1, there, ap (λ x. x + 1) f.3, o.4)) r.place;
          views = moved z z' s id w r.views (λ j u ne g. fits_by z z' j u (lives_counted z id j v.own.number (face y) k ne u) g)
              (inr record {
                own = record {
                  numbered = l.own.numbered;
                  owned = l.own.owned;
                  known = omega arith;
                  face = sym last ∙ ap z'.faces (sym known');
                  own = ap (λ (g : Face). marks_of v.own.number g.log) (sym last);
                };
                joined = subst (AllFit z' id) (sym alone) tt;
                deals = λ d x above. let h = l.deals d x above in (
                  h.0,
                  sym (marks_of-kept x v.own.number (latest z).log (face y).log more (λ e. omega arith) longer by ∙ ap (λ (g : Face). marks_of x g.log) (sym last))
                      ∙ h.1 ∙ ap (λ (g : Face). marks_of x g.log) (sym (face_counted z (face y) 0 (omega arith))),
                );
                state = (f.0, f.1, f.2, ap (λ x. x + 1) f.3, known', f.5);
              });
        },
        λ t' y' is' has'.
            let same : t' ≡ t = cc in
            let value : y' ≡ y = ap (head_value y) (sym has' ∙ has) in
            (λ i. (with_state (knowing v (v.own.known + 1) (face (sym value i))) (Counted (sym same i)), me.1)),
      )

  pub serves : (n id : ℕ) (me : Mine) (t : ℕ) (y : V) → me.0.state ≡ Counted t → me.1 ≡ (0, Some y) ∷ [] → me.0.own.face ≡ face y
      → Allows (KeepsTurns face start) n id me 1 (λ x. (x + 1) % 2 ^ 64) (HasServed (step n 1 1 0 none) me)
  serves n id me t y is has known s r wide at _ =
      let z = r.lock in let v = me.0 in let z' = served z in
      let l : Lives z id v = lives_of z id v (λ e. cc) (r.views id v at) in
      let f : StateFits z id v.own.known (Counted t) = subst (StateFits z id v.own.known) is l.state in
      let turn : z.holder z.serving ≡ id = ap z.holder f.0 ∙ f.2 in
      let few : z.serving + 1 < 2 ^ 64 = (let a = f.0 in let b = f.1 in let d = r.tickets in omega arith) in
      let w = with_state v Idle in
      let below : z.serving + 1 ≤ z.ticket = (let a = f.0 in let b = f.1 in omega arith) in (
        w,
        gives,
        tt,
        record {
          lock = z';
          words = ap (λ ws. set ws 1 ((get_or ws 1 0 + 1) % 2 ^ 64)) r.words ∙ ap (λ x. z.ticket ∷ x ∷ z.count ∷ []) (mod-eq_of_lt few);
          turns = below;
          tickets = r.tickets;
          held = λ x low high.
              let h = r.held x (omega arith) high in
              let apart = other_ticket s.views id (z.holder x) x v at (λ i. let same : t + 1 ≡ x + 1 = ap ticket_of (sym is) ∙ i in let a = f.0 in omega arith) h in
              (h.0, set_else s.views id (z.holder x) w apart ∙ h.1, h.2);
          known = knows_kept s.views id z.count v w at (λ x. ((λ e. cc), x.1)) r.known;
          begins = r.begins;
          follows = r.follows;
          counts = r.counts;
          place = ⊎_elim (λ (h : IsHome face z s). absurd (true≢false (sym f.5 ∙ h.4)))
              (λ (o : IsOut z s). inl (y, ap (put_back s.homes) has ∙ ap (λ hs. set hs 0 (some (Some y))) o.1, sym known ∙ l.own.face ∙ ap z.faces f.4, f.3, refl)) r.place;
          views = moved z z' s id w r.views (λ j u ne g. fits_by z z' j u (lives_served z id j turn ne u) g)
              (inr record { own = knowledge_served z id v.own l.own; joined = all_in z z' id id v.joined (knowledge_served z id) l.joined; deals = l.deals; state = tt });
        },
        refl,
      )

  pub counts_at : (n id : ℕ) (me : Mine) (v : View) (t : ℕ) (y : V) → me ≡ (v, (0, Some y) ∷ []) → v.state ≡ Holding t → v.joined ≡ []
      → (more : List LogMark) → (face y).log ≡ v.own.face.log ++ more → AllBy v.own.number more → OneMore v.own.face.events (face y).events
      → Allows (KeepsTurns face start) n id me 2 (λ x. (x + 1) % 2 ^ 64) (HasCounted face (step n 2 1 0 none) me)
  counts_at n id me v t y e is alone more log by one =
      subst (λ (m : Mine). Allows (KeepsTurns face start) n id m 2 (λ x. (x + 1) % 2 ^ 64) (HasCounted face (step n 2 1 0 none) m)) (sym e) (counts n id (v, (0, Some y) ∷ []) t y is alone refl more log by one)

  pub serves_at : (n id : ℕ) (me : Mine) (v : View) (t : ℕ) (y : V) → me ≡ (v, (0, Some y) ∷ []) → v.state ≡ Counted t → v.own.face ≡ face y
      → Allows (KeepsTurns face start) n id me 1 (λ x. (x + 1) % 2 ^ 64) (HasServed (step n 1 1 0 none) me)
  serves_at n id me v t y e is known =
      subst (λ (m : Mine). Allows (KeepsTurns face start) n id m 1 (λ x. (x + 1) % 2 ^ 64) (HasServed (step n 1 1 0 none) m)) (sym e) (serves n id (v, (0, Some y) ∷ []) t y is refl known)

  -- what was told of a hold that was counted, at a view that is known
  pub counted_to : (n : ℕ) (me : Mine) (v : View) (t : ℕ) (y : V) (r : ℕ) (now : Mine) → me ≡ (v, (0, Some y) ∷ []) → v.state ≡ Holding t → HasCounted face (step n 2 1 0 none) me r now
      → now ≡ (with_state (knowing v (v.own.known + 1) (face y)) (Counted t), (0, Some y) ∷ [])
  counted_to n me v t y r now e is told =
      subst (λ (m : Mine). HasCounted face (step n 2 1 0 none) m r now) e told t y is refl

  -- an idle view hasn't the value
  apart_out : (z : TicketLock) (s : Whole) (i : ℕ) (v : View) → get_elem? s.views i ≡ some v → v.state ≡ Idle → (o : IsOut z s) → z.holder z.serving ≢ i
  apart_out z s i v at is o e = subst (OutWith z) (ap (λ (u : View). u.state) (some-injective _ _ (sym o.2 ∙ ap (get_elem? s.views) e ∙ at)) ∙ is) o.3

  out_moved : (z : TicketLock) (owner : ℕ → ℕ) (st : SeatState) → OutWith z st → OutWith (reowned z owner) st
  out_moved z owner Idle o = o
  out_moved z owner (Waiting t) o = o
  out_moved z owner (Served t) o = o
  out_moved z owner (Holding t) o = o
  out_moved z owner (Counted t) o = o
  out_moved z owner Spent o = o

  pub deals : (id : ℕ) (v : View) → v.state ≡ Idle → v.joined ≡ [] → v.deals ≡ true → v.own.known ≡ 0 → Splits (KeepsTurns face start) id v (next_view v) (client_view v)
  deals id v is alone all unknowing s r at =
      let z = r.lock in
      let l : Lives z id v = lives_of z id v (λ e. cc) (r.views id v at) in
      let k : ℕ = v.own.number in
      let n : ℕ = length s.views in
      let near : id < n = at_length s.views id v at in
      let owner : ℕ → ℕ = changed z.owner k n in
      let z' = reowned z owner in
      let left = next_view v in let right = client_view v in
      let above = l.deals all (k + 1) (omega arith) in
      let begun : v.own.face ≡ z.faces 0 = l.own.face ∙ ap z.faces unknowing in
      let mine : Fits z' id left = inr record {
        own = record {
          numbered = omega arith;
          owned = changed_else z.owner k n (k + 1) (λ e. omega arith) ∙ above.0;
          known = l.own.known;
          face = l.own.face;
          own = ap (λ (g : Face). marks_of (k + 1) g.log) begun ∙ sym above.1;
        };
        joined = subst (AllFit z' id) (sym alone) tt;
        deals = λ d c high. let h = l.deals all c (omega arith) in (changed_else z.owner k n c (λ e. omega arith) ∙ h.0, h.1);
        state = subst (StateFits z' id v.own.known) (sym is) tt;
      } in
      let theirs : Fits z' n right = inr record {
        own = knowledge_moved z owner id n v.own (changed_here z.owner k n k refl) l.own;
        joined = tt;
        deals = λ d. absurd (true≢false (sym d));
        state = tt;
      } in
      record {
        lock = z';
        words = r.words;
        turns = r.turns;
        tickets = r.tickets;
        held = λ x low high. let h = ticket_kept s.views id (z.holder x) x v left at refl (r.held x low high) in (h.0, at_longer (set s.views id left) (right ∷ []) (z.holder x) h.0 h.1, h.2);
        known = let k = knows_kept s.views id z.count v left at (λ x. x) r.known in (k.0, k.1, at_longer (set s.views id left) (right ∷ []) k.0 k.1 k.2, k.3);
        begins = r.begins;
        follows = r.follows;
        counts = r.counts;
        place = ⊎_elim (λ h. inl h)
            (λ (o : IsOut z s). inr (o.0, o.1, at_longer (set s.views id left) (right ∷ []) (z.holder z.serving) o.0 (set_else s.views id (z.holder z.serving) left (apart_out z s id v at is o) ∙ o.2), out_moved z owner o.0.state o.3, o.4)) r.place;
        views = λ j u e. ⊎_elim
            (λ e'. moved z z' s id left r.views
            (λ i x ne g. fits_by z z' i x (lives_moved z owner i x (λ c h. changed_else z.owner k n c (λ same. ne (sym h ∙ ap z.owner same ∙ l.own.owned)) ∙ h)) g) mine j u e')
            (λ (t : (j ≡ length (set s.views id left)) × (right ≡ u)). subst (λ (y : ℕ × View). Fits z' y.0 y.1) (λ i. (sym (t.0 ∙ length-set s.views id left) i, t.1 i)) theirs)
            (at_end (set s.views id left) right u j e);
      }

  pub gathers : (id : ℕ) (v : View) (other : ℕ) (w : View) → v.state ≡ Idle → w.state ≡ Idle → w.joined ≡ [] → Joins (KeepsTurns face start) id v other w (with_joined v w) spent_view
  gathers id v other w is is' alone s r at apart them =
      let z = r.lock in
      let both = with_joined v w in
      let there : get_elem? s.views other ≡ some w = sym (set_else s.views id other both apart) ∙ them in
      let l : Lives z id v = lives_of z id v (λ e. cc) (r.views id v at) in
      let lw : Lives z other w = lives_of z other w (λ e. cc) (r.views other w there) in
      let owner : ℕ → ℕ = λ c. cond (eqb (z.owner c) other) id (z.owner c) in
      let z' = reowned z owner in
      let stays : (j c : ℕ) → j ≢ other → z.owner c ≡ j → owner c ≡ j = λ j c ne e. ap (λ b. cond b id (z.owner c)) (ne_eqb (z.owner c) other (λ e'. ne (sym e ∙ e'))) ∙ e in
      let goes : (c : ℕ) → z.owner c ≡ other → owner c ≡ id = λ c e. ap (λ b. cond b id (z.owner c)) (eq-eqb (z.owner c) other e) in
      let apart' : id ≢ other = λ e. apart (sym e) in
      let mine : Fits z' id both = inr record {
        own = knowledge_moved z owner id id v.own (stays id v.own.number apart' l.own.owned) l.own;
        joined = (knowledge_moved z owner other id w.own (goes w.own.number lw.own.owned) lw.own, all_in z z' id id v.joined (λ p g. knowledge_moved z owner id id p (stays id p.number apart' g.owned) g) l.joined);
        deals = λ d c high. let h = l.deals d c high in (stays id c apart' h.0, h.1);
        state = subst (StateFits z' id v.own.known) (sym is) tt;
      } in
      let vs = set s.views id both in
      record {
        lock = z';
        words = r.words;
        turns = r.turns;
        tickets = r.tickets;
        held = λ x low high.
            let h = ticket_kept s.views id (z.holder x) x v both at refl (r.held x low high) in
            let apart = other_ticket vs other (z.holder x) x w them (λ i. no_ticket x (ap ticket_of (sym is') ∙ i)) h in
            (h.0, set_else vs other (z.holder x) spent_view apart ∙ h.1, h.2);
        known =
            let k = r.known in
            let here : (Knows v z.count ⊎ Knows w z.count) → SomeKnows (set vs other spent_view) z.count = λ x. (
              id,
              both,
              set_else vs other id spent_view apart' ∙ set_here s.views id both (at_length s.views id v at),
              (
                (λ e. let i : Idle ≡ Spent = sym is ∙ e in cc),
                ⊎_elim
                    (λ (y : Knows v z.count). ⊎_elim (λ e. inl e) (λ h. inr (inr h)) y.1)
                    (λ (y : Knows w z.count). ⊎_elim (λ e. inr (inl e)) (λ h. absurd (subst (λ ps. KnownIn ps z.count) alone h)) y.1)
                    x,
              ),
            ) in
            dite (ℕ_discrete k.0 id)
            (λ e. here (inl (subst (λ (x : View). Knows x z.count) (some-injective _ _ (sym k.2 ∙ ap (get_elem? s.views) e ∙ at)) k.3)))
            (λ ne. dite (ℕ_discrete k.0 other)
            (λ e. here (inr (subst (λ (x : View). Knows x z.count) (some-injective _ _ (sym k.2 ∙ ap (get_elem? s.views) e ∙ there)) k.3)))
            (λ ne'. (k.0, k.1, set_else vs other k.0 spent_view ne' ∙ set_else s.views id k.0 both ne ∙ k.2, k.3)));
        begins = r.begins;
        follows = r.follows;
        counts = r.counts;
        place = ⊎_elim (λ h. inl h)
            (λ (o : IsOut z s). inr (o.0, o.1, set_else vs other (z.holder z.serving) spent_view (apart_out z s other w there is' o) ∙ set_else s.views id (z.holder z.serving) both (apart_out z s id v at is o) ∙ o.2, out_moved z owner o.0.state o.3, o.4)) r.place;
        views = λ j u e. ⊎_elim
            (λ (x : (j ≡ other) × (spent_view ≡ u)). inl (ap (λ (y : View). y.state) (sym x.1)))
            (λ (x : (j ≢ other) × (get_elem? vs j ≡ some u)). ⊎_elim
            (λ (y : (j ≡ id) × (both ≡ u)). subst (λ (p : ℕ × View). Fits z' p.0 p.1) (λ i. (sym y.0 i, y.1 i)) mine)
            (λ (y : (j ≢ id) × (get_elem? s.views j ≡ some u)). fits_by z z' j u (lives_moved z owner j u (λ c h. stays j c x.0 h)) (r.views j u y.1))
            (at_set s.views id j both u x.1))
            (at_set vs other j spent_view u e);
      }

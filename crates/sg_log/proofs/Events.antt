-- What each small change of a world adds to its log.
use Rattle.std.proofs.Common.{◌≡◌, ◌≢◌, ℕ, zero, suc, ◌<◌, Bool, true, false, cond, List, [], ◌∷◌, ◌++◌, map, length, Some, refl, sym, ap, ◌∙◌, eq-eqb, ne_eqb, append-nil, arith, slice_set}
use mathlib.Core.Logic.{dite}
use native.Mathlib.Decide.{ℕ_discrete}
use Rattle.sg_turn.specs.sg_facts.sg_base.declared.call.Call.{Call}
use Rattle.sg_turn.specs.sg_facts.declared.entry.Entry.{Entry}
use Rattle.sg_world.specs.sg_clients.WorldView.{Seat, no_call, woken_seat}
use Rattle.sg_world.specs.sg_clients.declared.mark.Mark.{Mark}
use Rattle.sg_world.specs.sg_clients.declared.mark.MarkKind.TheVariants.{Offer}
use Rattle.sg_world.specs.sg_clients.declared.phase.Phase.TheVariants.{Asked}
use Rattle.sg_world.specs.sg_clients.declared.withdrawn.Withdrawn.{Withdrawn}
use Rattle.sg_world.specs.Marked.{last_kind}
use Rattle.sg_turn.specs.declared.log.LogMarkKind.TheVariants.{Offer as TOffer}
use Rattle.sg_log.specs.Log.{call_at, call_in, call_told, kind_told, log_from}
use Rattle.sg_log.proofs.Growing.{Aligned, log_push}

-- ---- calls of the seats

-- a seat with its call is put in its place
pub set_call : (xs : List Seat) (k : ℕ) (s : Seat) → s.call ≡ call_at xs k → (j : ℕ) → call_at (slice_set xs k s) j ≡ call_at xs j
set_call [] k s e j = refl
set_call (x ∷ xs) zero s e zero = e
set_call (x ∷ xs) zero s e (suc j) = refl
set_call (x ∷ xs) (suc k) s e zero = refl
set_call (x ∷ xs) (suc k) s e (suc j) = set_call xs k s e j

pub set_other : (xs : List Seat) (k : ℕ) (s : Seat) (j : ℕ) → j ≢ k → call_at (slice_set xs k s) j ≡ call_at xs j
set_other [] k s j ne = refl
set_other (x ∷ xs) zero s zero ne = absurd (ne refl)
set_other (x ∷ xs) zero s (suc j) ne = refl
set_other (x ∷ xs) (suc k) s zero ne = refl
set_other (x ∷ xs) (suc k) s (suc j) ne = set_other xs k s j (λ e. ne (ap suc e))

pub set_mine : (xs : List Seat) (k : ℕ) (s : Seat) → k < length xs → call_at (slice_set xs k s) k ≡ s.call
set_mine [] k s h = absurd (omega arith)
set_mine (x ∷ xs) zero s h = refl
set_mine (x ∷ xs) (suc k) s h = set_mine xs k s (omega arith)

woken_one : (b : Bool) (s : Seat) → (cond b (record s { phase = Asked }) s).call ≡ s.call
woken_one true s = refl
woken_one false s = refl

pub woken_call : (test : Call → Bool) (xs : List Seat) (j : ℕ) → call_at (map (woken_seat test) xs) j ≡ call_at xs j
woken_call test [] j = refl
woken_call test (x ∷ xs) zero = woken_one _ x
woken_call test (x ∷ xs) (suc j) = woken_call test xs j

-- the calls of two lists of seats are the same
abbrev pub SameCalls : List Seat → List Seat → Type 0
SameCalls xs ys = (j : ℕ) → call_at ys j ≡ call_at xs j

pub same_in : (xs ys : List Seat) → SameCalls xs ys → (c : ℕ) → call_in ys c ≡ call_in xs c
same_in xs ys h zero = refl
same_in xs ys h (suc j) = h j

-- ---- one mark more

module _ (xs ys : List Seat) (ms : List Mark) (h h' : List Entry) (x x' : List Withdrawn) (m : Mark) where
  -- a mark of a client whose call is the one that it offered, or that had none under way
  pub marked : Aligned ms h x → SameCalls xs ys → (last_kind ms m.client ≡ Some Offer → call_told m.kind h' x' ≡ call_in xs m.client)
      → log_from (call_in ys) (ms ++ m ∷ []) (h ++ h') (x ++ x') ≡ log_from (call_in xs) ms h x ++ record { client = m.client; kind = kind_told (call_in ys) m.kind m.client [] h' x' } ∷ []
  marked a same own = log_push (call_in xs) (call_in ys) m h' x' ms h x a
      (λ c pending. dite (ℕ_discrete m.client c)
      (λ e. ap (λ b. cond b (call_told m.kind h' x') (call_in ys c)) (eq-eqb m.client c e) ∙ own (ap (last_kind ms) e ∙ pending) ∙ ap (call_in xs) e)
      (λ ne. ap (λ b. cond b (call_told m.kind h' x') (call_in ys c)) (ne_eqb m.client c ne) ∙ same_in xs ys same c))

-- a client offers a call
pub offers : (xs : List Seat) (k : ℕ) (s : Seat) (ms : List Mark) (h : List Entry) (x : List Withdrawn) → Aligned ms h x → k < length xs → last_kind ms (suc k) ≢ Some Offer
    → log_from (call_in (slice_set xs k s)) (ms ++ record { client = suc k; kind = Offer } ∷ []) h x
    ≡ log_from (call_in xs) ms h x ++ record { client = suc k; kind = TOffer s.call } ∷ []
offers xs k s ms h x a near free =
    let ys = slice_set xs k s in
    let m : Mark = record { client = suc k; kind = Offer } in
    let pushed = log_push (call_in xs) (call_in ys) m [] [] ms h x a
    (λ c pending. dite (ℕ_discrete (suc k) c)
    (λ e. absurd (free (ap (last_kind ms) e ∙ pending)))
    (λ ne. ap (λ b. cond b no_call (call_in ys c)) (ne_eqb (suc k) c ne) ∙ others c ne)) in
    ap (λ (p : List Entry × List Withdrawn). log_from (call_in ys) (ms ++ m ∷ []) p.0 p.1) (λ i. (sym (append-nil h) i, sym (append-nil x) i)) ∙ pushed
    ∙ ap (λ call. log_from (call_in xs) ms h x ++ record { client = suc k; kind = TOffer call } ∷ []) (set_mine xs k s near)
  where
    others : (c : ℕ) → suc k ≢ c → call_in (slice_set xs k s) c ≡ call_in xs c
    others zero ne = refl
    others (suc j) ne = set_other xs k s j (λ e. ne (ap suc (sym e)))

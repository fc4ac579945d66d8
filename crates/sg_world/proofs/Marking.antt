-- The marks of a world, with one more.
use Rattle.std.proofs.Common.{Bool, List, None, Some, [], ap, append-nil, arith, false, filter, if◌then◌else◌, length, map, refl, replicate, slice_get, slice_set, subst, suc, sym, true, zero, ℕ, ◌++◌, ◌+◌, ◌-◌, ◌<◌, ◌==◌, ◌∙◌, ◌∷◌, ◌≡◌, ◌≢◌, ◌≤◌}
use Rattle.sg_facts.proofs.RowLists.{other}
use Rattle.sg_facts.specs.Object.{after}
use Rattle.sg_facts.specs.WalkArray.{back}
use Rattle.sg_replay.proofs.sg_name.Directions.{there}
use Rattle.sg_clients.specs.declared.mark.Mark.{Mark}
use Rattle.sg_clients.specs.declared.mark.MarkKind.{MarkKind}
use Rattle.sg_clients.specs.declared.mark.MarkKind.TheVariants.{Withdraw}
use Rattle.sg_clients.specs.WorldView.{Seat, WorldView, no_seat}
use Rattle.sg_clients.specs.declared.withdrawn.Withdrawn.{Withdrawn}
use Rattle.sg_facts.proofs.Replaying.Files.{told}
use Rattle.sg_facts.proofs.Replaying.Found.{other_test, same_test}
use Rattle.sg_world.specs.Marked.{TellsAll, AreTold, IsPhaseAfter, is_entry_mark, is_withdrawal_mark, last_kind, marked_as, or_later}
use Rattle.sg_world_laws.proofs.Refusing.{refused}
use Rattle.sg_world_laws.proofs.Seating.{HasSeat, has_seat}

last_push : (marks : List Mark) (m : Mark) (client : ℕ) → last_kind (marks ++ m ∷ []) client ≡ (if m.client == client then Some m.kind else last_kind marks client)
last_push [] m client = at (m.client == client)
  where
    at : (b : Bool) → or_later (if b then Some m.kind else None) None ≡ (if b then Some m.kind else None)
    at true = refl
    at false = refl
last_push (x ∷ marks) m client = ap (or_later (if x.client == client then Some x.kind else None)) (last_push marks m client) ∙ at (m.client == client)
  where
    at : (b : Bool) → or_later (if x.client == client then Some x.kind else None) (if b then Some m.kind else last_kind marks client)
        ≡ (if b then Some m.kind else or_later (if x.client == client then Some x.kind else None) (last_kind marks client))
    at true = refl
    at false = refl

-- the clients of some marks
pub marked_push : (test : MarkKind → Bool) (marks : List Mark) (m : Mark) → marked_as test (marks ++ m ∷ []) ≡ marked_as test marks ++ (if test m.kind then m.client ∷ [] else [])
marked_push test [] m = at (test m.kind)
  where
    at : (b : Bool) → map (λ x. x.client) (if b then m ∷ [] else []) ≡ (if b then m.client ∷ [] else [])
    at true = refl
    at false = refl
marked_push test (x ∷ marks) m = at (test x.kind) (marked_push test marks m)
  where
    at : (b : Bool) → marked_as test (marks ++ m ∷ []) ≡ marked_as test marks ++ (if test m.kind then m.client ∷ [] else [])
        → map (λ y. y.client) (if b then x ∷ filter (λ y. test y.kind) (marks ++ m ∷ []) else filter (λ y. test y.kind) (marks ++ m ∷ []))
        ≡ map (λ y. y.client) (if b then x ∷ filter (λ y. test y.kind) marks else filter (λ y. test y.kind) marks) ++ (if test m.kind then m.client ∷ [] else [])
    at true rest = ap (λ l. x.client ∷ l) rest
    at false rest = rest

-- a mark of another client tells nothing of those from a number on
told_other : (marks : List Mark) (m : Mark) (client : ℕ) (seats : List Seat) → ((k : ℕ) → k < length seats → m.client ≢ client + k) → AreTold marks client seats → AreTold (marks ++ m ∷ []) client seats
told_other marks m client [] other told = tt
told_other marks m client (s ∷ seats) other told =
    let isn't : (m.client == client) ≡ false = other_test m.client client (λ same. other 0 (omega arith) (let one : m.client ≡ client + 0 = omega (arith, same) in one)) in (
      subst (λ k. IsPhaseAfter k s.phase) (sym (last_push marks m client ∙ ap (λ b. if b then Some m.kind else last_kind marks client) isn't)) told.0,
      told_other marks m (client + 1) seats (λ k less same. other (suc k) (omega (arith, less)) (omega (arith, same))) told.1,
    )

told_at : (marks : List Mark) (kind : MarkKind) (client : ℕ) (front back : List Seat) (s new : Seat) (c : ℕ) → c ≡ client + length front → AreTold marks client (front ++ s ∷ back) → IsPhaseAfter (Some kind) new.phase
    → AreTold (marks ++ record { client = c; kind = kind } ∷ []) client (front ++ new ∷ back)
told_at marks kind client [] back s new c is told after =
    let its : (c == client) ≡ true = same_test c client (let one : c ≡ client = omega (arith, is) in one) in (
      subst (λ k. IsPhaseAfter k new.phase) (sym (last_push marks (record { client = c; kind = kind }) client ∙ ap (λ b. if b then Some kind else last_kind marks client) its)) after,
      told_other marks (record { client = c; kind = kind }) (client + 1) back (λ k less same. omega (arith, is, same)) told.1,
    )
told_at marks kind client (x ∷ front) back s new c is told after =
    let isn't : (c == client) ≡ false = other_test c client (λ same. omega (arith, is, same)) in (
      subst (λ k. IsPhaseAfter k x.phase) (sym (last_push marks (record { client = c; kind = kind }) client ∙ ap (λ b. if b then Some kind else last_kind marks client) isn't)) told.0,
      told_at marks kind (client + 1) front back s new c (omega (arith, is)) told.1 after,
    )

-- a client's seat changes with a mark of its own
pub told_set : (marks : List Mark) (kind : MarkKind) (seats : List Seat) (client : ℕ) (s new : Seat) → slice_get seats (client - 1) ≡ Some s → 1 ≤ client → AreTold marks 1 seats → IsPhaseAfter (Some kind) new.phase
    → AreTold (marks ++ record { client = client; kind = kind } ∷ []) 1 (slice_set seats (client - 1) new)
told_set marks kind seats client s new there first told after =
    let has : HasSeat seats (client - 1) s = has_seat seats (client - 1) s there in
    let place = has.place in
    subst (AreTold (marks ++ record { client = client; kind = kind } ∷ []) 1) (sym (has.set new))
    (told_at marks kind 1 has.front has.back s new client (omega (arith, place, first)) (subst (AreTold marks 1) has.is told) after)

-- ---- the marks of a world

module _ (w : WorldView) (marked : TellsAll w) (client : ℕ) (s new : Seat) (there : slice_get w.seats (client - 1) ≡ Some s) (first : 1 ≤ client) where
  -- a mark that is of no entry and of no withdrawal
  pub marks_on : (kind : MarkKind) → is_entry_mark kind ≡ false → is_withdrawal_mark kind ≡ false → IsPhaseAfter (Some kind) new.phase → (events refused : ℕ)
      → TellsAll (record w { seats = slice_set w.seats (client - 1) new; marks = w.marks ++ record { client = client; kind = kind } ∷ []; events = events; refused = refused })
  marks_on kind no_entry no_withdrawal after events refused = record {
    entries = marked_push is_entry_mark w.marks (record { client = client; kind = kind }) ∙ ap (λ b. marked_as is_entry_mark w.marks ++ (if b then client ∷ [] else [])) no_entry ∙ append-nil (marked_as is_entry_mark w.marks) ∙ marked.entries;
    withdrawals = marked_push is_withdrawal_mark w.marks (record { client = client; kind = kind }) ∙ ap (λ b. marked_as is_withdrawal_mark w.marks ++ (if b then client ∷ [] else [])) no_withdrawal
        ∙ append-nil (marked_as is_withdrawal_mark w.marks) ∙ marked.withdrawals;
    phases = told_set w.marks kind w.seats client s new there first marked.phases after;
  }

  -- a withdrawal
  pub withdrawal_marked : (gone : Withdrawn) → gone.call.client ≡ client → IsPhaseAfter (Some Withdraw) new.phase → (events refused : ℕ)
      → TellsAll (record w { seats = slice_set w.seats (client - 1) new; withdrawn = w.withdrawn ++ gone ∷ []; marks = w.marks ++ record { client = client; kind = Withdraw } ∷ []; events = events; refused = refused })
  withdrawal_marked gone its after events refused = record {
    entries = marked_push is_entry_mark w.marks (record { client = client; kind = Withdraw }) ∙ append-nil (marked_as is_entry_mark w.marks) ∙ marked.entries;
    withdrawals = marked_push is_withdrawal_mark w.marks (record { client = client; kind = Withdraw }) ∙ ap (λ l. l ++ client ∷ []) marked.withdrawals ∙ ap (λ c. map (λ x. x.call.client) w.withdrawn ++ c ∷ []) (sym its) ∙ sym (pushed w.withdrawn);
    phases = told_set w.marks Withdraw w.seats client s new there first marked.phases after;
  }
    where
      pushed : (xs : List Withdrawn) → map (λ x. x.call.client) (xs ++ gone ∷ []) ≡ map (λ x. x.call.client) xs ++ gone.call.client ∷ []
      pushed [] = refl
      pushed (x ∷ xs) = ap (λ l. x.call.client ∷ l) (pushed xs)

-- new clients have no mark
pub new_told : (client n : ℕ) → AreTold [] client (replicate n no_seat)
new_told client zero = tt
new_told client (suc n) = (refl, new_told (client + 1) n)

-- The memory that is taken ahead, where one seat changes.

-- how many calls aren't answered
use Rattle.std.proofs.Common.{Bool, List, Some, [], ap, arith, false, flat_map, if◌then◌else◌, length, length-append, refl, slice_get, slice_set, suc, true, zero, ℕ, ◌*◌, ◌++◌, ◌+◌, ◌∙◌, ◌∷◌, ◌≡◌, ◌≤◌}
use Rattle.sg_facts.specs.WalkArray.{back}
use Rattle.sg_replay.proofs.sg_name.Directions.{there}
use Rattle.sg_clients.specs.WorldView.{Seat, is_offered, offered_by}
use Rattle.sg_clients.specs.declared.phase.Phase.{Phase}
use Rattle.sg_clients.specs.declared.phase.Phase.TheVariants.{Asked, Blocked, Held, Idle, Left, Receipted}
use Rattle.sg_world.specs.Worlded.{marks_left, marks_due}
use Rattle.sg_world_laws.proofs.Seating.{HasSeat, has_seat, offered_at}

offers_at : (front back : List Seat) (s : Seat) → length (flat_map offered_by (front ++ s ∷ back)) ≡ length (flat_map offered_by front) + (length (offered_by s) + length (flat_map offered_by back))
offers_at front back s =
    ap length (offered_at front back s) ∙ length-append (flat_map offered_by front) (offered_by s ++ flat_map offered_by back)
    ∙ ap (λ n. length (flat_map offered_by front) + n) (length-append (offered_by s) (flat_map offered_by back))

pub offers_set : (seats : List Seat) (at : ℕ) (s new : Seat) → slice_get seats at ≡ Some s
    → length (flat_map offered_by (slice_set seats at new)) + length (offered_by s) ≡ length (flat_map offered_by seats) + length (offered_by new)
offers_set seats at s new there =
    let has : HasSeat seats at s = has_seat seats at s there in
    let was : length (flat_map offered_by seats) ≡ length (flat_map offered_by has.front) + (length (offered_by s) + length (flat_map offered_by has.back)) = ap (λ l. length (flat_map offered_by l)) has.is ∙ offers_at has.front has.back s in
    let is : length (flat_map offered_by (slice_set seats at new)) ≡ length (flat_map offered_by has.front) + (length (offered_by new) + length (flat_map offered_by has.back)) = ap (λ l. length (flat_map offered_by l)) (has.set new) ∙ offers_at has.front has.back new in
    omega (arith, was, is)

marks_at : (front back : List Seat) (s : Seat) → marks_left (front ++ s ∷ back) ≡ marks_left front + (marks_due s.phase + marks_left back)
marks_at [] back s = omega arith
marks_at (x ∷ front) back s = let rest = marks_at front back s in omega (arith, rest)

pub marks_set : (seats : List Seat) (at : ℕ) (s new : Seat) → slice_get seats at ≡ Some s → marks_left (slice_set seats at new) + marks_due s.phase ≡ marks_left seats + marks_due new.phase
marks_set seats at s new there =
    let has : HasSeat seats at s = has_seat seats at s there in
    let was : marks_left seats ≡ marks_left has.front + (marks_due s.phase + marks_left has.back) = ap marks_left has.is ∙ marks_at has.front has.back s in
    let is : marks_left (slice_set seats at new) ≡ marks_left has.front + (marks_due new.phase + marks_left has.back) = ap marks_left (has.set new) ∙ marks_at has.front has.back new in
    omega (arith, was, is)

-- no more calls than seats, and three marks a seat
pub offers_few : (seats : List Seat) → length (flat_map offered_by seats) ≤ length seats
offers_few [] = omega arith
offers_few (s ∷ seats) =
    let both = length-append (offered_by s) (flat_map offered_by seats) in
    let rest = offers_few seats in
    let one = at (is_offered s.phase) in
    omega (arith, both, rest, one)
  where
    at : (b : Bool) → length (if b then s.call ∷ [] else []) ≤ 1
    at true = omega arith
    at false = omega arith

pub marks_few : (seats : List Seat) → marks_left seats ≤ 3 * length seats
marks_few [] = omega arith
marks_few (s ∷ seats) = let rest = marks_few seats in let one = at s.phase in omega (arith, rest, one)
  where
    at : (p : Phase) → marks_due p ≤ 3
    at Idle = omega arith
    at Asked = omega arith
    at Held = omega arith
    at Receipted = omega arith
    at Blocked = omega arith
    at Left = omega arith

pub length_set : (seats : List Seat) (at : ℕ) (new : Seat) → length (slice_set seats at new) ≡ length seats
length_set [] at new = refl
length_set (x ∷ seats) zero new = refl
length_set (x ∷ seats) (suc at) new = ap suc (length_set seats at new)

-- a client that may still make a mark has memory for it
pub marks_some : (seats : List Seat) (at : ℕ) (s : Seat) → slice_get seats at ≡ Some s → marks_due s.phase ≤ marks_left seats
marks_some seats at s there =
    let has : HasSeat seats at s = has_seat seats at s there in
    let was : marks_left seats ≡ marks_left has.front + (marks_due s.phase + marks_left has.back) = ap marks_left has.is ∙ marks_at has.front has.back s in
    omega (arith, was)

-- and a call that isn't answered is one of those
pub offers_some : (seats : List Seat) (at : ℕ) (s : Seat) → slice_get seats at ≡ Some s → length (offered_by s) ≤ length (flat_map offered_by seats)
offers_some seats at s there =
    let has : HasSeat seats at s = has_seat seats at s there in
    let was : length (flat_map offered_by seats) ≡ length (flat_map offered_by has.front) + (length (offered_by s) + length (flat_map offered_by has.back)) = ap (λ l. length (flat_map offered_by l)) has.is ∙ offers_at has.front has.back s in
    omega (arith, was)

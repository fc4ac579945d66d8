-- How many clients wait, when a seat changes; and the seats that are asked again.
use Rattle.std.proofs.Common.{Bool, List, ap, arith, cond, false, get_or, length, length-set, map, not, refl, slice_set, subst, sym, take, true, ℕ, ◌+◌, ◌-◌, ◌<◌, ◌≤◌, ◌≡◌, ◌∙◌, below_more, get_or-set_same, get_or-set_other}
use Rattle.std.specs.Prelude.{◌&&◌}
use Rattle.std.specs.Int.{from_bool}
use Rattle.std.proofs.lemmas.Grind.{take-set_at}
use Rattle.std.proofs.lemmas.List.Sums.{count_by-le-length, count_by_more_no, get_or-le-sum_by, sum_by-set, sum_by_push}
use Rattle.std.proofs.lemmas.Option.{unwrap_or-slice_get}
use Rattle.sg_facts.specs.sg_base.declared.call.Call.{Call}
use Rattle.sg_clients.specs.Inside.Waiting.{count_if_waits, waiting_in}
use Rattle.sg_clients.proofs.Seats.{Reads, all_kept, is_read}
use Rattle.sg_clients.specs.WorldView.{IsFree, Seat, is_blocked_phase, no_seat, seat_in, woken_seat}
use Rattle.sg_clients.specs.declared.phase.Phase.{Phase}
use Rattle.sg_clients.specs.declared.phase.Phase.TheVariants.{Idle, Asked, Held, Receipted, Blocked, Left}

-- ---- one seat changes

-- it no longer counts as it was, and counts as it is
changed : (seats : List Seat) (client : ℕ) (new : Seat) → 1 ≤ client → client ≤ length seats
    → waiting_in (slice_set seats (client - 1) new) + count_if_waits (seat_in seats client) ≡ waiting_in seats + count_if_waits new
changed seats client new first last =
    ap (λ s. waiting_in (slice_set seats (client - 1) new) + count_if_waits s) (unwrap_or-slice_get seats (client - 1) no_seat)
    ∙ sum_by-set count_if_waits seats (client - 1) new no_seat (omega (arith, first, last))

-- so many wait beside it
pub beside : {inside seats : List Seat} {at client : ℕ} {x : Seat} → Reads inside seats at client x → (others : ℕ) (new : Seat) → others + count_if_waits (seat_in seats client) ≡ waiting_in seats
    → others + count_if_waits new ≡ waiting_in (slice_set inside (at - 1) new)
beside {inside} {seats} {at} {client} r others new were =
    let one = changed seats client new r.first r.last in
    omega (arith, one, were) ∙ sym (ap (λ l. waiting_in (slice_set l (at - 1) new)) r.same ∙ ap (λ n. waiting_in (slice_set seats (n - 1) new)) r.is)

-- it doesn't wait now
pub rests : {inside seats : List Seat} {at client : ℕ} {x : Seat} → Reads inside seats at client x → (others : ℕ) (new : Seat) → others + count_if_waits (seat_in seats client) ≡ waiting_in seats
    → is_blocked_phase new.phase ≡ false → others ≡ waiting_in (slice_set inside (at - 1) new)
rests r others new were now = let none : count_if_waits new ≡ 0 = ap (λ b. cond b 1 0) now in omega (arith, none, beside r others new were)

-- it waits now
pub waits : {inside seats : List Seat} {at client : ℕ} {x : Seat} → Reads inside seats at client x → (others : ℕ) (new : Seat) → others + count_if_waits (seat_in seats client) ≡ waiting_in seats
    → is_blocked_phase new.phase ≡ true → others + 1 ≡ waiting_in (slice_set inside (at - 1) new)
waits r others new were now = let one : count_if_waits new ≡ 1 = ap (λ b. cond b 1 0) now in omega (arith, one, beside r others new were)

-- it doesn't wait, and didn't
pub stays : {inside seats : List Seat} {at client : ℕ} {x : Seat} → Reads inside seats at client x → (waiting : ℕ) (new : Seat) → waiting ≡ waiting_in inside
    → is_blocked_phase (seat_in seats client).phase ≡ false → is_blocked_phase new.phase ≡ false → waiting ≡ waiting_in (slice_set inside (at - 1) new)
stays {inside} {seats} {at} {client} r waiting new are was now =
    let none : count_if_waits (seat_in seats client) ≡ 0 = ap (λ b. cond b 1 0) was in
    let own : waiting ≡ waiting_in seats = are ∙ ap waiting_in r.same in
    rests r waiting new (omega (arith, none, own)) now

-- whoever is free doesn't wait
pub free_rests : (phase : Phase) → IsFree phase → is_blocked_phase phase ≡ false
free_rests Idle is = refl
free_rests Left is = refl
free_rests Asked is = absurd is
free_rests Held is = absurd is
free_rests Receipted is = absurd is
free_rests Blocked is = absurd is

-- a seat counts among those that wait
counts : {inside seats : List Seat} {at client : ℕ} {x : Seat} → Reads inside seats at client x → count_if_waits (seat_in seats client) ≤ waiting_in seats
counts {inside} {seats} {at} {client} r =
    subst (λ s. count_if_waits s ≤ waiting_in seats) (sym (unwrap_or-slice_get seats (client - 1) no_seat)) (get_or-le-sum_by count_if_waits seats (client - 1) no_seat (omega (arith, r.first, r.last)))

-- 1 is taken away, if it waits
pub taken_away : {inside seats : List Seat} {at client : ℕ} {x : Seat} → Reads inside seats at client x → (waiting own : ℕ) (b : Bool) → waiting ≡ waiting_in inside → own ≡ from_bool b → b ≡ is_blocked_phase x.phase
    → waiting - own + count_if_waits (seat_in seats client) ≡ waiting_in seats
taken_away {inside} {seats} {at} {client} r waiting own b are counted is =
    let one : own ≡ count_if_waits (seat_in seats client) = counted ∙ as_byte b ∙ ap (λ y. cond y 1 0) (is ∙ ap (λ s. is_blocked_phase s.phase) (is_read r)) in
    let all : waiting ≡ waiting_in seats = are ∙ ap waiting_in r.same in
    omega (arith, one, all, counts r)
  where
    as_byte : (y : Bool) → from_bool y ≡ cond y 1 0
    as_byte true = refl
    as_byte false = refl

-- those beside it are fewer than all
pub fewer : {inside seats : List Seat} {at client : ℕ} {x : Seat} → Reads inside seats at client x → (others : ℕ) → others + count_if_waits (seat_in seats client) ≡ waiting_in seats → others < length seats
fewer {inside} {seats} {at} {client} r others are =
    let one = changed seats client (record no_seat { phase = Blocked }) r.first r.last in
    let all = count_by-le-length (λ s. is_blocked_phase s.phase) (slice_set seats (client - 1) (record no_seat { phase = Blocked })) in
    omega (arith, one, all, are, length-set seats (client - 1) (record no_seat { phase = Blocked }))

-- ---- seats are asked again

-- a seat that doesn't wait stays
pub not_woken : (test : Call → Bool) (s : Seat) → is_blocked_phase s.phase ≡ false → woken_seat test s ≡ s
not_woken test s rests = ap (λ b. cond (b && test s.call) (record s { phase = Asked }) s) rests

-- where nobody waits, all stay
pub none_woken : (test : Call → Bool) (seats : List Seat) → waiting_in seats ≡ 0 → seats ≡ map (woken_seat test) seats
none_woken test seats none = all_kept (woken_seat test) seats (λ at less. not_woken test (get_or seats at no_seat) (rest at less))
  where
    no_one : (b : Bool) → cond b 1 0 ≤ 0 → b ≡ false
    no_one true is = absurd (omega (arith, is))
    no_one false is = refl

    rest : (at : ℕ) → at < length seats → is_blocked_phase (get_or seats at no_seat).phase ≡ false
    rest at less = no_one (is_blocked_phase (get_or seats at no_seat).phase) (omega (arith, none, get_or-le-sum_by count_if_waits seats at no_seat less))

-- a seat that was asked again need not be asked once more
pub woken_once : (meets : ℕ → Bool) (b : Bool) (s : Seat) → b ≡ meets s.call.desc → woken_seat (λ call. meets call.desc) (woken_seat (λ call. b) s) ≡ woken_seat (λ call. meets call.desc) s
woken_once meets b s is = at (is_blocked_phase s.phase) b refl is
  where
    at : (x y : Bool) → is_blocked_phase s.phase ≡ x → y ≡ meets s.call.desc → woken_seat (λ call. meets call.desc) (cond (x && y) (record s { phase = Asked }) s) ≡ woken_seat (λ call. meets call.desc) s
    at true true was is = sym (ap (λ b. cond (b && meets s.call.desc) (record s { phase = Asked }) s) was ∙ ap (λ b. cond b (record s { phase = Asked }) s) (sym is))
    at true false was is = refl
    at false y was is = refl

-- and stays then
pub woken_stays : (meets : ℕ → Bool) (b : Bool) (s : Seat) → b ≡ meets s.call.desc → woken_seat (λ call. meets call.desc) (woken_seat (λ call. b) s) ≡ woken_seat (λ call. b) s
woken_stays meets b s is = woken_once meets b s is ∙ ap (λ y. cond (is_blocked_phase s.phase && y) (record s { phase = Asked }) s) (sym is)

-- one that waits still counts, where its call doesn't meet the test
pub still_counts : (b : Bool) (s : Seat) → is_blocked_phase s.phase ≡ true → count_if_waits (woken_seat (λ call. b) s) ≡ from_bool (not b)
still_counts b s waits = ap (λ x. count_if_waits (cond (x && b) (record s { phase = Asked }) s)) waits ∙ at b
  where
    at : (y : Bool) → count_if_waits (cond (true && y) (record s { phase = Asked }) s) ≡ from_bool (not y)
    at true = refl
    at false = ap (λ x. cond x 1 0) waits

pub at_most_one : (b : Bool) → from_bool b ≤ 1
at_most_one true = omega arith
at_most_one false = omega arith

-- ---- the seats so far

-- one more is written
pub count_next : (seats : List Seat) (at : ℕ) (new : Seat) → at < length seats → waiting_in (take (at + 1) (slice_set seats at new)) ≡ waiting_in (take at seats) + count_if_waits new
count_next seats at new less = ap waiting_in (take-set_at seats at (at + 1) new refl less) ∙ sum_by_push count_if_waits (take at seats) new

-- one more doesn't wait
pub count_rests : (seats : List Seat) (at : ℕ) → at < length seats → is_blocked_phase (get_or seats at no_seat).phase ≡ false → waiting_in (take (at + 1) seats) ≡ waiting_in (take at seats)
count_rests seats at less rests = count_by_more_no (λ s. is_blocked_phase s.phase) seats at no_seat less rests

-- one more was asked
pub done_next : (f : Seat → Seat) (seats : List Seat) (at : ℕ) (new : Seat) → at < length seats → f new ≡ new → ((k : ℕ) → k < at → f (get_or seats k no_seat) ≡ get_or seats k no_seat)
    → (k : ℕ) → k < at + 1 → f (get_or (slice_set seats at new) k no_seat) ≡ get_or (slice_set seats at new) k no_seat
done_next f seats at new less is done =
    below_more _ _
    (λ k h. let other = get_or-set_other seats at k new no_seat (λ same. omega (arith, h, same)) in ap f other ∙ done k h ∙ sym other)
    (let here = get_or-set_same seats at new no_seat less in ap f here ∙ is ∙ sym here)

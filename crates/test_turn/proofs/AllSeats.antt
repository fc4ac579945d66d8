-- New seats are all seats of their hand-over.
use Rattle.std.proofs.Common.{◌≡◌, ℕ, zero, suc, ◌+◌, false, true, List, [], ◌∷◌, ◌++◌, map, length, refl, ◌∙◌, arith}
use Rattle.sg_turn.specs.Seats.{TurnView, SeatView, knowledge_of, new_seat, first_seats, all_seats, AllFree, NumberedFrom, AreAllSeats}

-- one more seat that doesn't hold the value
free-push : (t : TurnView) (ss : List SeatView) (s : SeatView) → AllFree t.id ss → s.turn ≡ t.id → s.holds ≡ false → AllFree t.id (ss ++ s ∷ [])
free-push t [] s all turn free = (turn, free, tt)
free-push t (r ∷ ss) s all turn free = (all.0, all.1, free-push t ss s all.2 turn free)

-- one more seat, with the next number
numbered-push : (k : ℕ) (ss : List SeatView) (s : SeatView) → NumberedFrom k (map knowledge_of ss) → s.number ≡ k + length ss → NumberedFrom k (map knowledge_of (ss ++ s ∷ []))
numbered-push k [] s all next = ((let e = next in omega arith), tt)
numbered-push k (r ∷ ss) s all next = (all.0, numbered-push (suc k) ss s all.1 (let e = next in omega arith))

length-push : (ss : List SeatView) (s : SeatView) → length (ss ++ s ∷ []) ≡ length ss + 1
length-push [] s = omega arith
length-push (r ∷ ss) s = let h = length-push ss s in omega arith

length-first_seats : (t : TurnView) (n : ℕ) → length (first_seats t n) ≡ n
length-first_seats t zero = refl
length-first_seats t (suc n) = let h = length-first_seats t n in length-push (first_seats t n) (new_seat t (suc n) false) ∙ omega arith

first_free : (t : TurnView) (n : ℕ) → AllFree t.id (first_seats t n)
first_free t zero = tt
first_free t (suc n) = free-push t (first_seats t n) (new_seat t (suc n) false) (first_free t n) refl refl

first_numbered : (t : TurnView) (n : ℕ) → NumberedFrom 1 (map knowledge_of (first_seats t n))
first_numbered t zero = tt
first_numbered t (suc n) = numbered-push 1 (first_seats t n) (new_seat t (suc n) false) (first_numbered t n) (let h = length-first_seats t n in omega arith)

pub new_are_all : (t : TurnView) (n : ℕ) → AreAllSeats t.id (all_seats t (suc n))
new_are_all t n = record {
  others = first_seats t n;
  final = new_seat t (suc n) true;
  list = refl;
  last = refl;
  free = free-push t (first_seats t n) (new_seat t (suc n) true) (first_free t n) refl refl;
  numbers = numbered-push 1 (first_seats t n) (new_seat t (suc n) true) (first_numbered t n) (let h = length-first_seats t n in omega arith);
}

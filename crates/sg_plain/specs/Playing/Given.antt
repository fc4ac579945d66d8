-- The descriptors that the calls of each client were given.
use Rattle.std.specs.Prelude.{ℕ, ◌≡◌, ◌+◌, ◌-◌, ◌≤◌, List, [], ◌∷◌, ◌++◌, None, Some, length, map, slice_get, slice_set, take, unwrap_or}
use Rattle.std.specs.declared.option.Option.{Option}
use Rattle.sg_facts.specs.declared.entry.Entry.{Entry}
use Rattle.sg_clients.specs.sg_hist.Clients.{calls_of}
use Rattle.sg_clients.specs.sg_hist.Inside.Reads.{desc_of}
use Rattle.sg_plain.specs.Playing.Callers.{handed}
use Rattle.sg_clients.specs.WorldView.{Seat, seat_in}

-- entries' replies give these descriptors, one each, 0 for none
abbrev pub GaveIds : List Entry → List ℕ → Type 0
GaveIds own given = map (λ e. desc_of e.reply) own ≡ given

-- the descriptors that a client was given
abbrev pub given_in : List (List ℕ) → ℕ → List ℕ
given_in given client = unwrap_or (slice_get given (client - 1)) []

-- for each client there is what its calls were given whose replies it was handed over
pub record HaveGiven (history : List Entry) (seats : List Seat) (given : List (List ℕ)) : Type 0 where
  pub clients : length given ≡ length seats
  pub each : (client : ℕ) → 1 ≤ client → client ≤ length seats → GaveIds (take (handed (seat_in seats client)) (calls_of history client)) (given_in given client)

-- a step handed a reply over: that of the client's last entry, which gave this descriptor
pub record HandsReply (seats : List Seat) (c : ℕ) (now : List Entry) (later : List Seat) (id : ℕ) : Type 0 where
  pub one_more : handed (seat_in later c) ≡ handed (seat_in seats c) + 1
  pub all_handed : handed (seat_in later c) ≡ length (calls_of now c)
  pub front : List Entry
  pub last : Entry
  pub is : calls_of now c ≡ front ++ last ∷ []
  pub gave : desc_of last.reply ≡ id

-- what a step handed over to its client: nothing, or a reply that gave a descriptor
abbrev pub HandsToClient : List Seat → ℕ → List Entry → List Seat → Option ℕ → Type 0
HandsToClient seats c now later None = handed (seat_in later c) ≡ handed (seat_in seats c)
HandsToClient seats c now later (Some id) = HandsReply seats c now later id

-- with what was handed over
abbrev pub with_handed : List (List ℕ) → ℕ → Option ℕ → List (List ℕ)
with_handed given c None = given
with_handed given c (Some id) = slice_set given (c - 1) (given_in given c ++ id ∷ [])

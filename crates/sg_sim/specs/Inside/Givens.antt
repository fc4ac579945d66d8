-- Lists of descriptors, each with its room.
use Rattle.std.specs.Prelude.{ℕ, ◌-◌, List, [], map, slice_get, unwrap_or}
use Rattle.sg_facts.specs.sg_base.Room.{Roomy}

-- the descriptors of each client
abbrev pub lists_of : List (Roomy ℕ) → List (List ℕ)
lists_of given = map (λ l. l.items) given

-- how many descriptors more a client's list can take without memory
abbrev pub room_for : List (Roomy ℕ) → ℕ → ℕ
room_for given client = (unwrap_or (slice_get given (client - 1)) (record { items = []; room = 0 })).room

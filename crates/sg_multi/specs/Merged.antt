-- The merged list of several services' entries, in the order of their commits, and the numbers that it gives calls over all members.
use Rattle.std.specs.Prelude.{ℕ, ◌≡◌, ◌+◌, ◌≤◌, ◌==◌, Bool, ◌&&◌, not, List, Some, filter, length, map, slice_get, take_while}
use Rattle.sg_facts.specs.declared.entry.Entry.{Entry}
use Rattle.sg_facts.specs.sg_base.Lists.{Each}

-- an entry of one of several services: the number of its member, from 1, and the entry
pub record MultiEntry : Type 0 where
  pub member : ℕ
  pub entry : Entry

-- the entries of all members, as one history
abbrev pub entries_in : List MultiEntry → List Entry
entries_in merged = map (λ e. e.entry) merged

-- those of a member
abbrev pub entries_at : ℕ → List MultiEntry → List Entry
entries_at member merged = map (λ e. e.entry) (filter (λ e. e.member == member) merged)

-- those of a client
abbrev pub own_in : ℕ → List MultiEntry → List MultiEntry
own_in client merged = filter (λ e. e.entry.call.client == client) merged

-- a list has for each place of `order` the next entry of that member's history, and so all entries of all members
pub record Merges (order : List ℕ) (histories : List (List Entry)) (merged : List MultiEntry) : Type 0 where
  pub members : map (λ e. e.member) merged ≡ order
  pub within : Each (λ member. (1 ≤ member) × (member ≤ length histories)) order
  pub each : (place : ℕ) (history : List Entry) → slice_get histories place ≡ Some history → entries_at (place + 1) merged ≡ history

-- ---- numbers over all members

-- whether an entry is that of a client's call, which has this number at its member
abbrev pub is_of_call : ℕ → ℕ → ℕ → MultiEntry → Bool
is_of_call member client seq e = (e.member == member) && (e.entry.call.client == client) && (e.entry.call.seq == seq)

-- the number over all members of a client's call, which has the number `seq` at its member: one more than the client's entries before that
-- of the call, and than all of the client's entries where the call has none
abbrev pub number_over_all : List MultiEntry → ℕ → ℕ → ℕ → ℕ
number_over_all merged member client seq = length (own_in client (take_while (λ e. not (is_of_call member client seq e)) merged)) + 1

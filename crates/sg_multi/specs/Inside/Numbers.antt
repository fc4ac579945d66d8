-- Numbers of calls over all members, as they are kept while a run is printed.
use Rattle.std.specs.Prelude.{ℕ, ◌≡◌, ◌+◌, ◌-◌, ◌==◌, Bool, false, true, ◌&&◌, if◌then◌else◌, List, None, Some, length, slice_get}
use Rattle.std.specs.declared.cmp.Ordering.{Ordering}
use Rattle.std.specs.declared.option.Option.{Option}
use Rattle.std.specs.BTreeMap.{BTreeMap, get}
use Rattle.std.specs.List.{list_any}
use Rattle.std.specs.Option.{option_and_then, unwrap_or}
use Rattle.std.specs.Ordering.{nat_cmp, ordering_then}
use Rattle.sg_facts.specs.declared.entry.Entry.{Entry}
use Rattle.sg_multi.specs.Merged.{MultiEntry, entries_at, is_of_call, number_over_all, own_in}
use Rattle.sg_multi.specs.declared.merged.Reader.{Reader}
use Rattle.sg_multi.specs.declared.numbers.CallKey.{CallKey}
use Rattle.sg_multi.specs.declared.numbers.Numbers.{Numbers}

-- ---- counts

-- how many of a number were counted
abbrev pub counted : BTreeMap ℕ ℕ → ℕ → ℕ
counted counts key = unwrap_or (get nat_cmp counts key) 0

-- one of a number was counted more
abbrev pub CountsOne : BTreeMap ℕ ℕ → BTreeMap ℕ ℕ → ℕ → Type 0
CountsOne old new one = (key : ℕ) → counted new key ≡ (if one == key then counted old key + 1 else counted old key)

-- ---- reading the merged list

-- these entries were read: so many of each member, and of each client
pub record HasRead (reader : Reader) (before : List MultiEntry) : Type 0 where
  pub members : (member : ℕ) → counted reader.members member ≡ length (entries_at member before)
  pub clients : (client : ℕ) → counted reader.clients client ≡ length (own_in client before)

-- the next entry of a member, from 1, where so many of each were read
abbrev pub next_of : List (List Entry) → BTreeMap ℕ ℕ → ℕ → Option Entry
next_of histories counts member = option_and_then (λ history. slice_get history (counted counts member)) (slice_get histories (member - 1))

-- ---- numbers of calls

-- the order of calls: by the member, then by the client, then by the number at the member
abbrev pub call_cmp : CallKey → CallKey → Ordering
call_cmp a b = ordering_then (nat_cmp a.member b.member) (ordering_then (nat_cmp a.client b.client) (nat_cmp a.seq b.seq))

-- whether two calls are one
abbrev pub is_call : CallKey → CallKey → Bool
is_call a b = (a.member == b.member) && (a.client == b.client) && (a.seq == b.seq)

-- the number over all members that is kept of a call
abbrev pub kept_number : BTreeMap CallKey ℕ → CallKey → Option ℕ
kept_number calls key = get call_cmp calls key

-- one call has its number, where it had none
abbrev pub AddsNumber : BTreeMap CallKey ℕ → BTreeMap CallKey ℕ → CallKey → ℕ → Type 0
AddsNumber old new one number = (key : CallKey) → kept_number new key ≡ (if is_call one key then Some (unwrap_or (kept_number old key) number) else kept_number old key)

-- the number over all members of a client's call, which has a number at its member: the one that is kept, or one more than the client's entries
abbrev pub number_by : Numbers → ℕ → ℕ → ℕ → ℕ
number_by numbers member client seq = unwrap_or (kept_number numbers.calls (record { member = member; client = client; seq = seq })) (counted numbers.clients client + 1)

-- what is kept of a call: its number where it has an entry, and none where it has no entry
abbrev pub IsKept : List MultiEntry → CallKey → Option ℕ → Type 0
IsKept merged key None = list_any (is_of_call key.member key.client key.seq) merged ≡ false
IsKept merged key (Some number) = (list_any (is_of_call key.member key.client key.seq) merged ≡ true) × (number ≡ number_over_all merged key.member key.client key.seq)

-- the number of each call that has an entry is kept, and of no other
abbrev pub AreKept : BTreeMap CallKey ℕ → List MultiEntry → Type 0
AreKept calls merged = (key : CallKey) → IsKept merged key (kept_number calls key)

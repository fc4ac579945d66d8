-- What replayed calls a stop can cost, and how many there were.
use Rattle.std.specs.Prelude.{ℕ, ◌≡◌, ◌+◌, ◌*◌, ◌^◌, ◌≤◌, ◌==◌, true, ◌||◌, if◌then◌else◌, max, List, [], ◌∷◌, ◌++◌, Some, filter, length, map}
use Rattle.std.specs.declared.option.Option.{Option}
use Rattle.std.specs.Option.{option_map_or}
use Rattle.std.specs.List.{list_any, range_with_len}
use Rattle.sg_facts.specs.sg_base.declared.call.Call.{Call}
use Rattle.sg_facts.specs.Facts.{Facts, fun_at, takes_desc, takes_parent}
use Rattle.sg_cost.specs.declared.costs.BootCost.{BootCost}
use Rattle.sg_cost.specs.declared.costs.Costs.{Costs}
use Rattle.sg_cost.specs.declared.costs.FunCost.{FunCost}
use Rattle.sg_facts.specs.Interface.{Declared, declares}
use Rattle.sg_facts.specs.Kinds.{IsCall}
use Rattle.sg_facts.specs.Limits.{last_client, most_funs}
use Rattle.sg_facts.specs.Needs.{is_wanted, wanted}
use Rattle.sg_facts.specs.Object.{Object, object_of}
use Rattle.sg_facts.specs.Trace.{Boot, Run}
use Rattle.sg_facts.specs.Track.{row_at}
use Rattle.sg_facts.specs.declared.entry.Entry.{Entry}
use Rattle.sg_facts.specs.declared.row.Row.{Row}
use Rattle.sg_facts.specs.declared.tables.WalkLine.{WalkLine}
use Rattle.sg_report.specs.sg_hist.Reading.{items_of, stands_among, walk_in}
use Rattle.sg_report.specs.Report.{replays_for}

-- ---- histories

-- the greatest number of entries of a history: each client's calls are numbered in 32 bits
abbrev pub most_entries : ℕ
most_entries = last_client * 2 ^ 32

-- a call is one of the service's functions, and a client's
abbrev pub IsClients : Facts → Call → Type 0
IsClients facts call = IsCall facts call × (1 ≤ call.client) × (call.client ≤ last_client)

-- ---- walks

-- the number of calls of a row's walk, 0 where there is no row, or no walk
abbrev pub walk_length : List WalkLine → Option Row → ℕ
walk_length walks row = option_map_or length (walk_in walks row) 0

-- the calls of the walks of all rows, together
abbrev pub all_lengths : List WalkLine → List Row → ℕ
all_lengths walks [] = 0
all_lengths walks (r ∷ rows) = walk_length walks (Some r) + all_lengths walks rows

-- what a call can cost where these rows are live: the calls of the walks of all rows that have to be whole before it is served
abbrev pub cost_of : Declared → List WalkLine → List Row → Call → ℕ
cost_of i walks rows call = all_lengths walks (filter (is_wanted i rows call) rows)

-- ---- boots

-- the object at which the first of some boots opens: that of the entries, in the history's order, whose items stand in the boots before, and
-- in none of those after them
abbrev pub opening : Facts → List Entry → List Boot → List Boot → Object
opening facts history before boots = object_of facts (filter (stands_among (items_of before) (items_of boots)) history)

-- the replayed calls of a boot, which stands between others, are few
pub record AreFew (i : Declared) (walks : List WalkLine) (history : List Entry) (before : List Boot) (b : Boot) (later : List Boot) : Type 0 where
  -- those of a descriptor are at most the calls of its walk at the opening; one that isn't live there has none
  pub each : (id : ℕ) → replays_for (λ n. n == id) b.items ≤ walk_length walks (row_at (opening i.facts history before (b ∷ later)).rows id)
  -- those of all that have to be whole there before a call is served are at most what the call can cost
  pub for_call : (call : Call) → replays_for (λ n. list_any (λ id. id == n) (wanted i (opening i.facts history before (b ∷ later)) call).ids) b.items
      ≤ cost_of i walks (opening i.facts history before (b ∷ later)).rows call
  -- all together are at most the calls of the walks of all rows there
  pub all : replays_for (λ n. true) b.items ≤ all_lengths walks (opening i.facts history before (b ∷ later)).rows

-- the replayed calls of each boot of a run are few
abbrev pub AreFewInEach : Declared → List WalkLine → List Entry → Run → Type 0
AreFewInEach i walks history run = (before : List Boot) (b : Boot) (later : List Boot) → run.boots ≡ before ++ b ∷ later → AreFew i walks history before b later

-- ---- what is told

-- the greatest of some numbers, 0 where there is none
abbrev pub greatest : List ℕ → ℕ
greatest [] = 0
greatest (n ∷ ns) = max n (greatest ns)

-- a function, with the most that one of its calls can cost: it is called on no descriptor, and where it takes a descriptor or a parent on each
-- that is live. What a call costs depends on nothing else of it
abbrev pub fun_cost : Declared → List WalkLine → List Row → ℕ → FunCost
fun_cost i walks rows fun =
    let ids : List ℕ = 0 ∷ (if takes_desc (fun_at i.facts.funs fun) || takes_parent (fun_at i.facts.funs fun) then map (λ r. r.id) rows else []) in
    let cost : ℕ → ℕ = λ id. cost_of i walks rows (record { client = 0; seq = 0; fun = fun; desc = id; args = [] }) in
    record { fun = fun; cost = greatest (map cost ids) }

-- for each of some boots, which stand after others, the replayed calls that were answered, beside the calls of the walks of all rows at its
-- opening
abbrev pub boot_costs : Facts → List WalkLine → List Entry → List Boot → List Boot → List BootCost
boot_costs facts walks history before [] = []
boot_costs facts walks history before (b ∷ boots) =
    (record { walks = replays_for (λ id. true) b.items; bound = all_lengths walks (opening facts history before (b ∷ boots)).rows })
    ∷ boot_costs facts walks history (before ++ b ∷ []) boots

-- what the calls of a run could cost after one more stop: the live descriptors, each with the number of calls of its walk; the functions; and
-- all descriptors together; with what the calls of each boot cost
abbrev pub costs_at : Declared → List WalkLine → List Entry → Run → Costs
costs_at i walks history run =
    let live : List Row = (object_of i.facts history).rows in
    record {
      rows = map (λ r. record { id = r.id; walk = walk_length walks (Some r) }) live;
      functions = map (fun_cost i walks live) (filter (declares i) (range_with_len 1 most_funs));
      all = all_lengths walks live;
      boots = boot_costs i.facts walks history [] run.boots;
    }

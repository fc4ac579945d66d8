-- How the trace of a run is read: which item is whose, what was committed before an item, and what the service held at it.
use Rattle.std.specs.Prelude.{ℕ, ◌==◌, Bool, true, false, ◌&&◌, ◌||◌, not, if◌then◌else◌, List, [], ◌∷◌, ◌++◌, None, length, filter, find, map, reverse}
use Rattle.std.specs.declared.option.Option.{Option}
use Rattle.std.specs.List.{flat_map, fold, last_or, list_any}
use Rattle.std.specs.Option.{option_and_then, option_map_or}
use Rattle.sg_facts.specs.sg_base.declared.call.Call.{Call}
use Rattle.sg_facts.specs.sg_base.declared.reply.Reply.{Reply}
use Rattle.sg_facts.specs.sg_base.declared.reply.Reply.TheVariants.{Ok, Refused}
use Rattle.sg_facts.specs.declared.entry.Entry.{Entry}
use Rattle.sg_facts.specs.declared.outcome.Outcome.{Outcome}
use Rattle.sg_facts.specs.declared.outcome.Outcome.TheVariants.{Replied}
use Rattle.sg_facts.specs.declared.row.Row.{Row}
use Rattle.sg_facts.specs.declared.tables.WalkLine.{WalkLine}
use Rattle.sg_facts.specs.declared.trace.Item.{Item}
use Rattle.sg_facts.specs.declared.trace.Tag.{Tag}
use Rattle.sg_facts.specs.declared.trace.Tag.TheVariants.{Walk, Load, Client}
use Rattle.sg_facts.specs.Facts.{Facts, fun_at}
use Rattle.sg_facts.specs.Fields.{is_set, number_of}
use Rattle.sg_facts.specs.Guard.{is_guards}
use Rattle.sg_facts.specs.Object.{Object, after, empty_object, object_of, set_file}
use Rattle.sg_facts.specs.Tables.{walk_of}
use Rattle.sg_facts.specs.Trace.{Boot, Run}
use Rattle.sg_facts.specs.Track.{row_at}

-- ---- places

-- an item in its place: the items of the boots before, the earlier items of its boot, itself, the later items of its boot, and
-- those of the boots after
pub record Position : Type 0 where
  pub older : List Item
  pub front : List Item
  pub item : Item
  pub rest : List Item
  pub newer : List Item

-- all items after a place, without its own: the later ones of its boot, and all of the boots after
abbrev pub items_after : Position → List Item
items_after p = p.rest ++ p.newer

-- the places in a boot
abbrev pub places_in : List Item → List Item → List Item → List Item → List Position
places_in older front [] newer = []
places_in older front (item ∷ rest) newer =
    record { older = older; front = front; item = item; rest = rest; newer = newer } ∷ places_in older (front ++ item ∷ []) rest newer

-- all items of boots, boot by boot
abbrev pub items_of : List Boot → List Item
items_of boots = flat_map (λ b. b.items) boots

-- the places in boots, after others
abbrev pub places_from : List Item → List Boot → List Position
places_from older [] = []
places_from older (b ∷ boots) = places_in older [] b.items (items_of boots) ++ places_from (older ++ b.items) boots

-- the places of a run, boot by boot
abbrev pub places_of : Run → List Position
places_of run = places_from [] run.boots

-- ---- the last boot

-- the items of the last boot
abbrev pub last_items : List Boot → List Item
last_items boots = option_map_or (λ b. b.items) (last_or None boots) []

-- the items of the boots before the last, after others
abbrev pub older_items : List Item → List Boot → List Item
older_items before [] = before
older_items before (b ∷ []) = before
older_items before (b ∷ c ∷ boots) = older_items (before ++ b.items) (c ∷ boots)

-- the places in the last boot
abbrev pub last_places : List Boot → List Position
last_places boots = places_in (older_items [] boots) [] (last_items boots) []

-- ---- items of entries

-- whether an item is of the call of a number of a client
abbrev pub is_tagged : ℕ → ℕ → Tag → Bool
is_tagged client seq tag = elim tag [ Client c s ↦ (c == client) && (s == seq) | _ ↦ false ]

-- whether an item is of an entry's call
abbrev pub is_item_of : Entry → Item → Bool
is_item_of e item = is_tagged e.call.client e.call.seq item.tag

-- the place of an entry's item: the last that is of its call
abbrev pub item_of : Run → Entry → Option Position
item_of run e = find (λ p. is_item_of e p.item) (reverse (places_of run))

-- whether a reply is a refusal by the guard, which the service wasn't asked for
abbrev pub is_by_guard : Reply → Bool
is_by_guard reply = elim reply [ Ok good ↦ false | Refused code ↦ is_guards code ]

-- whether an entry's item stands among some items, and none of its call among those after them
abbrev pub stands_among : List Item → List Item → Entry → Bool
stands_among items later e = not (is_by_guard e.reply) && list_any (is_item_of e) items && not (list_any (is_item_of e) later)

-- whether an entry's item stands before a place
abbrev pub stands_before : Position → Entry → Bool
stands_before p e = stands_among (p.older ++ p.front) (p.item ∷ items_after p) e

-- the fault-free object that the entries make whose items stand before a place
abbrev pub object_before : Facts → List Entry → Position → Object
object_before facts history p = object_of facts (filter (stands_before p) history)

-- ---- replies

-- ---- what the service holds

-- the call that the service was asked, under its own ids
abbrev pub service_call : Item → Call
service_call item = record item.shown { desc = item.real }

-- a load sets its file whole, and a call does what its reply says; what has no reply changes nothing that is known
abbrev pub given_by : Facts → Object → Tag → Call → Outcome → Object
given_by facts o tag call (Replied reply patch) =
    elim tag [ Load key client ↦ option_map_or (λ p. record o { files = set_file o.files p.key p.bytes }) patch o | _ ↦ after facts o call reply ]
given_by facts o tag call _ = o

-- what the service holds after items of one boot
abbrev pub value_at : Facts → List Item → Object
value_at facts front = fold (λ o item. given_by facts o item.tag (service_call item) item.outcome) empty_object front

-- ---- names

-- the descriptor of an entry's reply, 0 where there is no entry, or the entry was refused
abbrev pub desc_in : Option Entry → ℕ
desc_in entry = option_map_or (λ e. elim e.reply [ Ok good ↦ good.desc | Refused code ↦ 0 ]) entry 0

-- the descriptor that the call of a number was given
abbrev pub id_given : List Entry → ℕ → ℕ → ℕ
id_given history client seq = desc_in (find (λ e. (e.call.client == client) && (e.call.seq == seq)) history)

-- a client's id with the service's id, where the service replied an Ok
abbrev pub pair_of : ℕ → Outcome → List (ℕ × ℕ)
pair_of id outcome = elim outcome [ Replied reply patch ↦ elim reply [ Ok good ↦ (id, good.desc) ∷ [] | Refused code ↦ [] ] | _ ↦ [] ]

-- the pairs of client ids and service ids after items of one boot: the first call of a walk gives one, and a creation
abbrev pub names_at : Facts → List Entry → List Item → List (ℕ × ℕ)
names_at facts history front = flat_map (λ item. elim item.tag [
  | Walk id k client ↦ if k == 1 then pair_of id item.outcome else []
  | Load key client ↦ []
  | Client client seq ↦ if (fun_at facts.funs item.shown.fun).creation then pair_of (id_given history client seq) item.outcome else []
])
    front

-- ---- what is whole

-- whether an outcome is an Ok
abbrev pub is_ok : Outcome → Bool
is_ok outcome = elim outcome [ Replied reply patch ↦ elim reply [ Ok good ↦ true | Refused code ↦ false ] | _ ↦ false ]

-- whether an item is an Ok of the creation that an id was given for
abbrev pub is_made : Facts → List Entry → ℕ → Item → Bool
is_made facts history id item =
    is_ok item.outcome && elim item.tag [ Client client seq ↦ (fun_at facts.funs item.shown.fun).creation && (id_given history client seq == id) | _ ↦ false ]

-- the walk of a row
abbrev pub walk_in : List WalkLine → Option Row → Option (List ℕ)
walk_in walks row = option_and_then (λ r. walk_of walks r.made r.state (number_of (map is_set r.fields))) row

-- whether an id is whole at a place: earlier in the boot an item made it for an entry, or all calls of its walk replied
abbrev pub is_whole_at : Facts → List WalkLine → List Entry → Position → ℕ → Bool
is_whole_at facts walks history p id =
    list_any (is_made facts history id) p.front
    || list_any (λ q. is_ok q.item.outcome && elim q.item.tag [
      | Walk i k client ↦ (i == id) && option_map_or (λ walk. length walk == k) (walk_in walks (row_at (object_before facts history q).rows id)) false
      | _ ↦ false
    ])
    (places_in p.older [] p.front (p.item ∷ items_after p))

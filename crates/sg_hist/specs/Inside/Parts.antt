-- The parts of what it means that a run recovers, one by one, as the proofs name them.
use Rattle.std.specs.Prelude.{ℕ, ◌≡◌, ◌≢◌, ◌-◌, ◌==◌, Bool, true, false, ◌&&◌, ◌||◌, not, if◌then◌else◌, List, [], ◌∷◌, ◌++◌, None, Some, IfSome, IsSome, IsSomeAnd, length, map, slice_get}
use Rattle.std.specs.declared.option.Option.{Option}
use Rattle.std.specs.Option.{option_and_then, option_map, option_map_or}
use Rattle.std.specs.List.{fold, last_or, list_all, list_any}
use Rattle.sg_facts.specs.sg_base.Lists.{When}
use Rattle.sg_facts.specs.sg_base.Stops.{asked_after}
use Rattle.sg_facts.specs.sg_base.declared.call.Call.{Call}
use Rattle.sg_facts.specs.sg_base.declared.reply.Reply.{Reply}
use Rattle.sg_facts.specs.sg_base.declared.reply.Reply.TheVariants.{Ok}
use Rattle.std.specs.Str.{bytes_eq}
use Rattle.sg_facts.specs.declared.entry.Entry.{Entry}
use Rattle.sg_facts.specs.declared.outcome.Outcome.{Outcome}
use Rattle.sg_facts.specs.declared.outcome.Outcome.TheVariants.{Replied, Stopped}
use Rattle.sg_facts.specs.declared.row.Row.{Row}
use Rattle.sg_facts.specs.declared.tables.WalkLine.{WalkLine}
use Rattle.sg_facts.specs.declared.trace.Item.{Item}
use Rattle.sg_facts.specs.declared.trace.Tag.{Tag}
use Rattle.sg_facts.specs.declared.trace.Tag.TheVariants.{Walk, Load, Client}
use Rattle.sg_facts.specs.Alike.{IsAlike, named}
use Rattle.sg_facts.specs.Facts.{Facts, is_visible}
use Rattle.sg_facts.specs.Interface.{Declared}
use Rattle.sg_facts.specs.Legal.{Table}
use Rattle.sg_facts.specs.Trace.{Boot, Run}
use Rattle.sg_facts.specs.Track.{row_at}
use Rattle.sg_facts.specs.Walks.{replayed_call}
use Rattle.sg_hist.specs.declared.ended.End.{End}
use Rattle.sg_hist.specs.declared.ended.End.TheVariants.{Done, Blocked}
use Rattle.sg_hist.specs.Ending.{IsAfterCommit, client_of, is_still_blocked}
use Rattle.sg_hist.specs.Reading.{Position, is_by_guard, is_tagged, item_of, last_places, names_at, object_before, service_call, stands_before, value_at}
use Rattle.sg_hist.specs.Recovered.{IsAdmitted, IsByTable, IsCallOf, IsCount, IsLoadedFor, IsNextCall, IsPointOfCall, IsRebuiltFor, IsReplyOf, IsTracked, is_clients, is_entered, is_replied, is_visible_reply}
use Rattle.sg_hist.specs.Wakes.{has_blocked}

-- ---- the calls of clients

-- the calls that clients made: those of the entries, and those that aren't answered
abbrev pub calls_made : List Entry → List Call → List Call
calls_made history unanswered = map (λ e. e.call) history ++ unanswered

-- the call in which a client waits at its end, if there is one
abbrev pub waiting_in : End → List Call
waiting_in end = elim end [ Done ↦ [] | Blocked call ↦ call ∷ [] ]

-- ---- reboots

-- what was asked of the service for an item, by its tag: a call of a walk or of a client; a load is asked of no table
abbrev pub AskedAs : Facts → Table → Position → Tag → Type 0
AskedAs facts ask p tag = elim tag [
  | Load key client ↦ Unit {0}
  | _ ↦ IsByTable facts ask (value_at facts p.front) (service_call p.item) p.item.outcome
]

-- nothing is asked of a service that stopped
abbrev pub IsLastIfStopped : List Item → Outcome → Type 0
IsLastIfStopped rest outcome = elim outcome [ Stopped ↦ rest ≡ [] | _ ↦ Unit {0} ]

-- ---- served

-- the item of a client is its call of that number
abbrev pub IsItsCall : List Entry → List Call → Call → Tag → Type 0
IsItsCall history unanswered shown tag = elim tag [ Client client seq ↦ IsCallOf history unanswered client shown × (shown.seq ≡ seq) | _ ↦ Unit {0} ]

-- whether a client's id stands for a service's, 0 for none
abbrev pub is_renamed : List (ℕ × ℕ) → ℕ → ℕ → Bool
is_renamed names id real = if real == 0 then id == 0 else named names id == real

-- the item at a place has the call and the reply of an entry
abbrev pub GivesEntry : Facts → List Entry → Entry → Option Position → Type 0
GivesEntry facts history e place =
    IsSomeAnd place (λ p. (p.item.shown ≡ e.call) × IsReplyOf (names_at facts history (p.front ++ p.item ∷ [])) p.item.outcome e.reply)

-- an entry has its item, unless the guard refused its call
abbrev pub HasItem : Facts → List Entry → Run → Entry → Type 0
HasItem facts history run e = When (not (is_by_guard e.reply)) (GivesEntry facts history e (item_of run e))

-- a visible reply is committed
abbrev pub IsCommitted : Facts → List Entry → Position → Type 0
IsCommitted facts history p = When (is_visible_reply facts p.item) (is_entered history p ≡ true)

-- the items of earlier entries stand before the place of a later one
abbrev pub ComeBefore : List Entry → Option Position → Type 0
ComeBefore earlier place = IfSome place (λ p. list_all (λ before. is_by_guard before.reply || stands_before p before) earlier ≡ true)

-- ---- walks

-- whether an item is a call of the walk of an id
abbrev pub is_walk_of : ℕ → Tag → Bool
is_walk_of id tag = elim tag [ Walk i j client ↦ i == id | _ ↦ false ]

-- the k-th call of the walk of a row
abbrev pub call_in : Facts → Row → ℕ → Option (List ℕ) → Option Call
call_in facts r k walk = option_and_then (λ w. option_map (replayed_call facts r (k == 1)) (slice_get w (k - 1))) walk

-- a call of a walk is answered Ok, or the service stopped in it
abbrev pub IsOkOrStopped : Outcome → Type 0
IsOkOrStopped outcome = elim outcome [ Replied (Ok good) patch ↦ Unit {0} | Stopped ↦ Unit {0} | _ ↦ ⊥ ]

-- an item is the next call of the walk of a row, which is live
abbrev pub IsCallOfRow : Facts → List WalkLine → List Entry → Position → ℕ → ℕ → Option Row → Type 0
IsCallOfRow facts walks history p id k row = IsSomeAnd row (IsNextCall facts walks history p id k)

-- an item that rebuilds a row is the next call of that row's walk
abbrev pub IsWalked : Facts → List WalkLine → List Entry → Position → Tag → Type 0
IsWalked facts walks history p tag = elim tag [ Walk id k client ↦ IsCallOfRow facts walks history p id k (row_at (object_before facts history p).rows id) | _ ↦ Unit {0} ]

-- ---- on demand

-- whether an entry, which these follow in the history, was answered before a place
abbrev pub is_answered_before : Facts → (Entry → Bool) → Entry → List Entry → Bool
is_answered_before facts before e later = before e || list_any (λ x. is_visible facts x.call.fun && before x) later

-- whether an item brought a file into this boot
abbrev pub is_patch_at : List ℕ → Outcome → Bool
is_patch_at key outcome = elim outcome [ Replied reply patch ↦ option_map_or (λ q. bytes_eq q.key key) patch false | _ ↦ false ]

-- the call of a load is of no function
abbrev pub load_call : ℕ → Call
load_call client = record { client = client; seq = 0; fun = 0; desc = 0; args = [] }

-- what a load gives: an Ok without words, and a patch of the whole file
abbrev pub load_outcome : List ℕ → List ℕ → Outcome
load_outcome key bytes = Replied (Ok (record { desc = 0; words = []; bytes = [] })) (Some (record { key = key; from = 0; bytes = bytes }))

-- an item was due
abbrev pub IsDemanded : Declared → List WalkLine → List Entry → List Call → Position → Tag → Type 0
IsDemanded i walks history unanswered p tag = elim tag [
  | Walk id k client ↦ IsRebuiltFor i walks history unanswered p client id
  | Load key client ↦ IsLoadedFor i walks history unanswered p client key
  | Client client seq ↦ IsAdmitted i history unanswered (stands_before p) client p.item.shown
]

-- ---- tracked state

-- the service has a row for a tracked one, and it is as that is
abbrev pub IsAlikeTo : List (ℕ × ℕ) → Row → Option Row → Type 0
IsAlikeTo names r row = IsSomeAnd row (IsAlike names r)

-- an item of a client reached the service where what it needs is as tracked
abbrev pub IsTrackedAt : Declared → List WalkLine → List Entry → Position → Tag → Type 0
IsTrackedAt i walks history p tag = elim tag [ Client client seq ↦ IsTracked i walks history p | _ ↦ Unit {0} ]

-- ---- points

-- the number of an item's last point, by its tag
abbrev pub IsPointOf : Bool → (ℕ → ℕ) → ℕ → Option Reply → Tag → ℕ → Outcome → ℕ → Type 0
IsPointOf exact parts asked answer tag fun outcome points = elim tag [
  | Load key client ↦ IsCount exact points (asked_after asked 1)
  | _ ↦ IsPointOfCall exact parts asked answer fun outcome points
]

-- what the service answers an item after others of its boot
abbrev pub answer_to : Facts → Table → List Item → Item → Option Reply
answer_to facts ask front item = ask (value_at facts front) (service_call item)

-- whether the service stopped within a call
abbrev pub is_stopped : Outcome → Bool
is_stopped outcome = elim outcome [ Stopped ↦ true | _ ↦ false ]

-- the point at which a boot stopped, if it did
abbrev pub stop_in : Option ℕ → List ℕ
stop_in stop = option_map_or (λ s. s ∷ []) stop []

-- ---- held replies

-- how many items stand in the boots before that of an entry's item; where it has none, as many as before
abbrev pub boot_start : Option Position → ℕ → ℕ
boot_start place low = option_map_or (λ p. length p.older) place low

-- ---- the end

-- whether a call had to wait at a place
abbrev pub waits_in : Call → Position → Bool
waits_in call p = is_tagged call.client call.seq p.item.tag && has_blocked p.item.outcome

-- the entries that may wake who waits: in a private service none wakes another client, and who waits does so until the next boot
abbrev pub waking_entries : Facts → List Entry → List Entry
waking_entries facts history = if facts.global then history else []

-- a call in which a client waits at its end had to wait in the last boot, and nothing woke it since
abbrev pub IsStillBlocked : Facts → List Entry → List Boot → Call → Type 0
IsStillBlocked facts history boots call = is_still_blocked facts (waking_entries facts history) call (last_places boots) ≡ true

-- whether a place's item is of a client's call that was replied to, and is no entry's
abbrev pub is_unentered : List Entry → Position → Bool
is_unentered history p = is_clients p.item.tag && is_replied p.item.outcome && not (is_entered history p)

-- a reply that is no entry's was lost: its boot was stopped, and nothing was noted in it for the client after the reply
abbrev pub IsLost : List Entry → Option ℕ → Position → Type 0
IsLost history stop p = When (is_unentered history p) (IsSome stop × (list_any (λ item. client_of item.tag == client_of p.item.tag) p.rest ≡ false))

-- something was asked in the last boot, where it isn't the first
abbrev pub EndsUsed : List Boot → Type 0
EndsUsed [] = Unit {0}
EndsUsed (b ∷ []) = Unit {0}
EndsUsed (b ∷ c ∷ []) = c.items ≢ []
EndsUsed (b ∷ c ∷ d ∷ boots) = EndsUsed (c ∷ d ∷ boots)

-- the number of the last point of some items, where so many points were asked before
abbrev pub last_point : ℕ → List Item → ℕ
last_point asked items = fold (λ asked item. item.points) asked items

-- a boot that stopped did so right after the commit of its last item
abbrev pub IsQuietStop : Facts → List Item → Option ℕ → Type 0
IsQuietStop facts items stop = IfSome stop (IsAfterCommit facts items)

-- the last boot, if it stopped, did so
abbrev pub EndsQuiet : Facts → List Boot → Type 0
EndsQuiet facts boots = IfSome (last_or None boots) (λ b. IsQuietStop facts b.items b.stop)

-- How a run grows: an item is noted in its last boot, the boot is stopped, and the service is booted again; a call is made, and
-- an entry is appended.
use Rattle.std.specs.Prelude.{ℕ, ◌≡◌, ◌≤◌, false, true, ◌++◌, List, [], ◌∷◌, None, Some, unwrap_or}
use Rattle.std.specs.declared.option.Option.{Option}
use Rattle.std.specs.List.{Contains}
use Rattle.sg_facts.specs.sg_base.Lists.{Each}
use Rattle.sg_facts.specs.sg_base.declared.call.Call.{Call}
use Rattle.sg_facts.specs.declared.trace.Item.{Item}
use Rattle.sg_facts.specs.declared.entry.Entry.{Entry}
use Rattle.sg_facts.specs.declared.outcome.Outcome.{Outcome}
use Rattle.sg_facts.specs.declared.outcome.Outcome.TheVariants.{Replied, Blocks, Stopped, NoMemory}
use Rattle.sg_facts.specs.declared.trace.Tag.{Tag}
use Rattle.sg_facts.specs.declared.trace.Tag.TheVariants.{Walk, Load, Client}
use Rattle.sg_facts.specs.sg_base.declared.reply.Reply.TheVariants.{Ok, Refused}
use Rattle.sg_facts.specs.Facts.{Facts, fun_at, is_visible}
use Rattle.sg_facts.specs.Trace.{Boot, Run}
use Rattle.sg_hist.specs.Reading.{Position, items_after, id_given, is_by_guard, is_item_of, item_of, names_at, older_items, places_of}
use Rattle.sg_hist.specs.Recovered.{IsRebooted, IsReplyOf, IsServed, Stubs, asked_in, ends_stopped}
use Rattle.sg_hist.specs.Inside.Parts.{AskedAs, GivesEntry, IsDemanded, IsItsCall, IsTrackedAt, IsWalked, calls_made}

-- ---- boots and places

-- an item more in the last boot
abbrev pub noted : List Boot → Item → List Boot
noted [] item = []
noted (b ∷ []) item = record b { items = b.items ++ item ∷ [] } ∷ []
noted (b ∷ c ∷ boots) item = b ∷ noted (c ∷ boots) item

-- the last boot ended at a point
abbrev pub struck : List Boot → ℕ → List Boot
struck [] stop = []
struck (b ∷ []) stop = record b { stop = Some stop } ∷ []
struck (b ∷ c ∷ boots) stop = b ∷ struck (c ∷ boots) stop

-- a boot more, in which nothing was asked yet
abbrev pub booted : List Boot → List Boot
booted boots = boots ++ record { items = []; stop = None } ∷ []

-- the place of an item that is noted in the last boot, after others
abbrev pub place_after : List Item → List Boot → Item → Position
place_after older [] item = record { older = older; front = []; item = item; rest = []; newer = [] }
place_after older (b ∷ []) item = record { older = older; front = b.items; item = item; rest = []; newer = [] }
place_after older (b ∷ c ∷ boots) item = place_after (older ++ b.items) (c ∷ boots) item

-- the stop of the last boot
abbrev pub last_stop : List Boot → Option ℕ
last_stop [] = None
last_stop (b ∷ []) = b.stop
last_stop (b ∷ c ∷ boots) = last_stop (c ∷ boots)

-- a place is the same but that an item more stands after it
pub record IsGrown (item : Item) (p q : Position) : Type 0 where
  pub older : q.older ≡ p.older
  pub front : q.front ≡ p.front
  pub own : q.item ≡ p.item
  pub after_it : items_after q ≡ items_after p ++ item ∷ []

-- places are the same, one by one, but that an item more stands after each
abbrev pub AreGrown : Item → List Position → List Position → Type 0
AreGrown item [] [] = Unit {0}
AreGrown item (p ∷ ps) (q ∷ qs) = IsGrown item p q × AreGrown item ps qs
AreGrown item [] (q ∷ qs) = ⊥
AreGrown item (p ∷ ps) [] = ⊥

-- places are those before, each grown, and one after them
pub record HasOneMore (item : Item) (last : Position) (before now : List Position) : Type 0 where
  pub grown : List Position
  pub are : now ≡ grown ++ last ∷ []
  pub each : AreGrown item before grown

-- no entry is of an item
abbrev pub IsOfNoEntry : Item → List Entry → Type 0
IsOfNoEntry item [] = Unit {0}
IsOfNoEntry item (e ∷ history) = (is_item_of e item ≡ false) × IsOfNoEntry item history

-- ---- what is kept step by step

-- all that holds of a run that recovers, its points aside
pub record IsRecovering (s : Stubs) (history : List Entry) (run : Run) (unanswered : List Call) : Type 0 where
  pub reboots : IsRebooted s.interface.facts s.ask run
  pub served : IsServed s.interface.facts history run unanswered
  pub walks : Each (λ p. IsWalked s.interface.facts s.walks history p p.item.tag) (places_of run)
  pub on_demand : Each (λ p. IsDemanded s.interface s.walks history unanswered p p.item.tag) (places_of run)
  pub tracked_state : Each (λ p. IsTrackedAt s.interface s.walks history p p.item.tag) (places_of run)

-- an item is the next call of a walk, is needed, and finds what it needs as it is tracked, each where it is asked of it
pub record IsSettled (s : Stubs) (history : List Entry) (unanswered : List Call) (p : Position) : Type 0 where
  pub walk : IsWalked s.interface.facts s.walks history p p.item.tag
  pub demand : IsDemanded s.interface s.walks history unanswered p p.item.tag
  pub state : IsTrackedAt s.interface s.walks history p p.item.tag

-- what is asked of an item when it is noted: it is noted in a boot that wasn't stopped, answered by the table, and settled
pub record IsNextItem (s : Stubs) (history : List Entry) (unanswered : List Call) (p : Position) : Type 0 where
  pub running : ends_stopped p.front ≡ false
  pub table : AskedAs s.interface.facts s.ask p p.item.tag
  pub call : IsItsCall history unanswered p.item.shown p.item.tag
  pub settled : IsSettled s history unanswered p

-- the calls that were made are still among those made
abbrev pub AreKept : List Entry → List Call → List Entry → List Call → Type 0
AreKept history unanswered later left = (call : Call) → Contains (calls_made history unanswered) call → Contains (calls_made later left) call

-- no call that a client made has a greater number than that of its next entry
abbrev pub IsLastCall : List Entry → List Call → Call → Type 0
IsLastCall history unanswered last = (call : Call) → Contains (calls_made history unanswered) call → call.client ≡ last.client → call.seq ≤ last.seq

-- an item is that of an entry that is appended with it: it has its call and its reply
pub record IsItemOf (facts : Facts) (history : List Entry) (p : Position) (e : Entry) : Type 0 where
  pub tagged : is_item_of e p.item ≡ true
  pub served : is_by_guard e.reply ≡ false
  pub shown : p.item.shown ≡ e.call
  pub reply : IsReplyOf (names_at facts (history ++ e ∷ []) (p.front ++ p.item ∷ [])) p.item.outcome e.reply

-- an entry is appended after its item, as a held reply is: it isn't visible, and its item has its call and its reply
pub record IsHeldReply (facts : Facts) (history : List Entry) (run : Run) (e : Entry) : Type 0 where
  pub hidden : is_visible facts e.call.fun ≡ false
  pub served : is_by_guard e.reply ≡ false
  pub own : GivesEntry facts (history ++ e ∷ []) e (item_of run e)

-- the item of an entry stands in the last boot
pub record IsInLast (run : Run) (e : Entry) : Type 0 where
  pub place : Position
  pub its : item_of run e ≡ Some place
  pub older : place.older ≡ older_items [] run.boots

-- ---- ids

-- the id of a creation that replied is the same in two histories
abbrev pub IsSameFor : Facts → List Entry → List Entry → ℕ → Tag → Outcome → Type 0
IsSameFor facts h h' fun (Client client seq) (Replied (Ok good) patch) = (fun_at facts.funs fun).creation ≡ true → id_given h' client seq ≡ id_given h client seq
IsSameFor facts h h' fun (Client client seq) (Replied (Refused code) patch) = Unit {0}
IsSameFor facts h h' fun (Client client seq) Blocks = Unit {0}
IsSameFor facts h h' fun (Client client seq) Stopped = Unit {0}
IsSameFor facts h h' fun (Client client seq) NoMemory = Unit {0}
IsSameFor facts h h' fun (Walk id k client) outcome = Unit {0}
IsSameFor facts h h' fun (Load key client) outcome = Unit {0}

-- an item that is an Ok of a creation was given the same id in two histories
abbrev pub IsSameId : Facts → List Entry → List Entry → Item → Type 0
IsSameId facts h h' x = IsSameFor facts h h' x.shown.fun x.tag x.outcome

-- ---- points

-- how many points were asked after boots, where so many were asked before
abbrev pub asked_over : Facts → ℕ → List Boot → ℕ
asked_over facts asked [] = asked
asked_over facts asked (b ∷ boots) = asked_over facts (unwrap_or b.stop (asked_in facts asked b.items)) boots

-- How a run ends, as its trace says, and what it means that a run which ended has recovered.
use Rattle.std.specs.Prelude.{ℕ, ◌≡◌, ◌≢◌, ◌⊎◌, ◌≤◌, ◌==◌, Bool, true, false, ◌&&◌, ◌||◌, not, if◌then◌else◌, List, [], ◌∷◌, ◌++◌, IfSome, IsSome, length}
use Rattle.std.specs.List.{fold, list_any}
use Rattle.sg_facts.specs.sg_base.Lists.{Each, When}
use Rattle.sg_facts.specs.sg_base.Stops.{asked_after}
use Rattle.sg_facts.specs.sg_base.declared.call.Call.{Call}
use Rattle.sg_facts.specs.declared.entry.Entry.{Entry}
use Rattle.sg_facts.specs.declared.trace.Item.{Item}
use Rattle.sg_facts.specs.declared.trace.Tag.{Tag}
use Rattle.sg_facts.specs.declared.trace.Tag.TheVariants.{Walk, Load, Client}
use Rattle.sg_facts.specs.Facts.{Facts}
use Rattle.sg_facts.specs.Interface.{Declared}
use Rattle.sg_facts.specs.Tables.{AreTables}
use Rattle.sg_facts.specs.Trace.{Boot, Run}
use Rattle.sg_hist.specs.declared.ended.End.{End}
use Rattle.sg_hist.specs.Reading.{Position, is_tagged, items_of, last_items, last_places, places_in, stands_among}
use Rattle.sg_hist.specs.Recovered.{IsAdmitted, IsRecovered, Stubs, ends_committed, is_clients, is_entered, is_replied, waiting}
use Rattle.sg_hist.specs.Wakes.{has_blocked, wakes_at}

-- ---- who waits

-- whether a call had to wait at one of these places, after which no entry's item wakes it
abbrev pub is_still_blocked : Facts → List Entry → Call → List Position → Bool
is_still_blocked facts entries call [] = false
is_still_blocked facts entries call (p ∷ ps) = (is_tagged call.client call.seq p.item.tag && has_blocked p.item.outcome && not (list_any (wakes_at facts entries call.desc) ps)) || is_still_blocked facts entries call ps

-- whether a call that had to wait at one of these places is left to wait: in a private service no entry wakes another client, and who waits
-- does so until the next boot
abbrev pub is_left_waiting : Facts → List Entry → Call → List Position → Bool
is_left_waiting facts history call places = is_still_blocked facts (if facts.global then history else []) call places

-- ---- stops

-- a boot of these items stopped right after the commit of the last of them, at the next point
abbrev pub IsAfterCommit : Facts → List Item → ℕ → Type 0
IsAfterCommit facts items stop = (ends_committed facts items ≡ true) × (stop ≡ asked_after (fold (λ asked item. item.points) 0 items) 1)

-- a call asks the service after the items of a boot, with those of the boots before and of those after: it is admitted there; and in that
-- boot it has no reply, which its client would hold, and isn't left to wait
pub record AsksAfter (i : Declared) (history : List Entry) (unanswered : List Call) (older items newer : List Item) (call : Call) : Type 0 where
  pub admitted : IsAdmitted i history unanswered (stands_among (older ++ items) newer) call.client call
  pub unreplied : list_any (λ item. is_tagged call.client call.seq item.tag && is_replied item.outcome) items ≡ false
  pub awake : is_left_waiting i.facts history call (places_in older [] items newer) ≡ false

-- each stop of boots, which stand after other items, was asked for: it came right after a commit, or some call asks the service then, and
-- the service is booted again
abbrev pub AreAsked : Declared → List Entry → List Call → List Item → List Boot → Type 0
AreAsked i history unanswered older [] = Unit {0}
AreAsked i history unanswered older (b ∷ boots) =
    IfSome b.stop (λ stop. IsAfterCommit i.facts b.items stop ⊎ ((boots ≢ []) × ((call : Call) × AsksAfter i history unanswered older b.items (items_of boots) call)))
    × AreAsked i history unanswered (older ++ b.items) boots

-- ---- replies that were lost

-- the client in whose turn an item was noted
abbrev pub client_of : Tag → ℕ
client_of tag = elim tag [ Walk id k client ↦ client | Load key client ↦ client | Client client seq ↦ client ]

-- each reply to a client's call that is no entry's was lost, in boots which stand after other items: its boot was stopped, and nothing
-- was noted in it for the client after the reply
abbrev pub AreLost : List Entry → List Item → List Boot → Type 0
AreLost history older [] = Unit {0}
AreLost history older (b ∷ boots) =
    Each (λ p. When (is_clients p.item.tag && is_replied p.item.outcome && not (is_entered history p))
    (IsSome b.stop × (list_any (λ item. client_of item.tag == client_of p.item.tag) p.rest ≡ false)))
    (places_in older [] b.items (items_of boots))
    × AreLost history (older ++ b.items) boots

-- ---- a run that ended

-- a run that ended has recovered, where its clients ended so
pub record HasRecovered (s : Stubs) (history : List Entry) (run : Run) (ends : List (ℕ × End)) : Type 0 where
  -- no row is rebuilt by other walks than the shortest of an interface that can be recovered
  pub tables : AreTables s.interface s.walks
  pub recovered : IsRecovered s history run (waiting ends)
  -- no client waits that the service didn't let wait since its last boot, or that was woken since
  pub blocked : Each (λ call. is_left_waiting s.interface.facts history call (last_places run.boots) ≡ true) (waiting ends)
  -- none is booted for nothing: something was asked in the last boot, where it isn't the first
  pub used : 2 ≤ length run.boots → last_items run.boots ≢ []
  -- none stops at a point that no call asked
  pub asked : AreAsked s.interface history (waiting ends) [] run.boots
  -- no reply is given that no entry has, unless a stop took it; and none that was held is asked for twice in a boot
  pub lost : AreLost history [] run.boots

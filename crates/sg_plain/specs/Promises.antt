-- What a play promises of its history, its trace and its clients' ends, for any number of clients and any stops.
use Rattle.std.specs.Prelude.{ℕ, ◌≡◌, ◌+◌, ◌≤◌, ◌==◌, Bool, true, false, ◌&&◌, ◌||◌, not, nat_le, if◌then◌else◌, List, [], ◌∷◌, ◌++◌, filter, length, take}
use Rattle.std.specs.List.{list_all, list_any}
use Rattle.sg_facts.specs.sg_base.Lists.{Each, When}
use Rattle.sg_facts.specs.declared.entry.Entry.{Entry}
use Rattle.sg_facts.specs.declared.trace.Tag.TheVariants.{Walk, Load, Client}
use Rattle.sg_facts.specs.Facts.{Facts, is_visible}
use Rattle.sg_facts.specs.Trace.{Boot, Run}
use Rattle.sg_clients.specs.sg_hist.Clients.{calls_of}
use Rattle.sg_clients.specs.sg_hist.Ending.{client_of}
use Rattle.sg_clients.specs.sg_hist.Reading.{Position, is_by_guard, is_item_of, is_tagged, items_of, places_in, places_of}
use Rattle.sg_clients.specs.sg_hist.Recovered.{struck_in}
use Rattle.sg_script.specs.declared.script.Script.{Script}
use Rattle.sg_script.specs.declared.script.ScriptCall.{ScriptCall}
use Rattle.sg_plain.specs.Calls.{callers, resolved_by, script_calls}
use Rattle.sg_clients.specs.sg_hist.Wakes.{has_blocked, wakes_at}

-- ---- each client's calls

-- entries of a client are, one by one, the first of these calls of its part, numbered from a number on
abbrev pub AreFirstCalls : Facts → List Entry → ℕ → ℕ → List Entry → List ScriptCall → Type 0
AreFirstCalls facts history client seq [] calls = Unit {0}
AreFirstCalls facts history client seq (e ∷ es) [] = ⊥
AreFirstCalls facts history client seq (e ∷ es) (c ∷ calls) =
    (e.call ≡ resolved_by facts history client seq c) × AreFirstCalls facts history client (seq + 1) es calls

-- the entries are the script's calls: those of each client its first calls, each once and in their order, none is of another
-- client, and the setup calls come first
pub record AreScriptsCalls (facts : Facts) (script : Script) (history : List Entry) : Type 0 where
  pub each : Each (λ client. AreFirstCalls facts history client 1 (calls_of history client) (script_calls script client)) (callers script)
  pub none_else : list_all (λ e. list_any (λ c. c == e.call.client) (callers script)) history ≡ true
  pub setup : list_all (λ e. e.call.client == 1) (take (length script.setup) history) ≡ true

-- ---- the setup

-- the elements up to the last that meets a test, it taken in
abbrev pub up_to_last : {A : Type 0} → (A → Bool) → List A → List A
up_to_last test [] = []
up_to_last test (x ∷ xs) = if test x || list_any test xs then x ∷ up_to_last test xs else []

-- the calls of the setup, which are client 1's first, are in the history, and no item of another client's turn stands before one of theirs
pub record IsSetupFirst (script : Script) (history : List Entry) (run : Run) : Type 0 where
  pub done : length script.setup ≤ length (calls_of history 1)
  pub items : list_all (λ item. client_of item.tag == 1)
      (up_to_last (λ item. elim item.tag [ Client c seq ↦ (c == 1) && nat_le seq (length script.setup) | Walk id k c ↦ false | Load key c ↦ false ]) (items_of run.boots))
      ≡ true

-- ---- stops

-- the service stopped at the script's points, as far as points were asked, and at no others
abbrev pub AreScriptsStops : Script → Run → Type 0
AreScriptsStops script run = struck_in run ≡ filter (λ stop. nat_le stop run.points) script.stops

-- ---- ends

-- ---- the play without stops

-- whether an entry is of a visible function, and its item stands in the first boot
abbrev pub is_in_first_boot : Facts → List Boot → Entry → Bool
is_in_first_boot facts [] e = false
is_in_first_boot facts (b ∷ boots) e =
    is_visible facts e.call.fun && not (is_by_guard e.reply) && list_any (is_item_of e) b.items && not (list_any (is_item_of e) (items_of boots))

-- a run follows the play without stops: up to the last entry of a visible function of the first boot, and wholly where nothing struck
pub record FollowsPlain (facts : Facts) (run : Run) (history plain : List Entry) : Type 0 where
  pub first_boot : up_to_last (is_in_first_boot facts run.boots) history ≡ take (length (up_to_last (is_in_first_boot facts run.boots) history)) plain
  pub whole : struck_in run ≡ [] → history ≡ plain

-- ---- waits

-- whether a call of a client waits at none of these places before one that wakes who waits on a descriptor
abbrev pub is_woken_first : Facts → List Entry → ℕ → ℕ → ℕ → List Position → Bool
is_woken_first facts history client seq id [] = true
is_woken_first facts history client seq id (p ∷ ps) =
    wakes_at facts history id p || (not (is_tagged client seq p.item.tag && has_blocked p.item.outcome) && is_woken_first facts history client seq id ps)

-- between two waits of one call in a boot stands an entry that wakes it
abbrev pub AreWoken : Facts → List Entry → Run → Type 0
AreWoken facts history run = Each (λ p. elim p.item.tag [
  | Client client seq ↦ When (has_blocked p.item.outcome)
      (is_woken_first facts history client seq p.item.shown.desc (places_in p.older (p.front ++ p.item ∷ []) p.rest p.newer) ≡ true)
  | _ ↦ Unit {0}
])
    (places_of run)

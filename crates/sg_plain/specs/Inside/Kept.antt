-- The parts of what a play promises, one by one.
use Rattle.std.specs.Prelude.{ℕ, ◌≡◌, ◌==◌, Bool, true, false, ◌&&◌, nat_le, List, [], ◌∷◌, ◌++◌, length}
use Rattle.std.specs.List.{list_all, list_any}
use Rattle.sg_facts.specs.sg_base.Lists.{Each, When}
use Rattle.sg_facts.specs.declared.entry.Entry.{Entry}
use Rattle.sg_facts.specs.declared.trace.Item.{Item}
use Rattle.sg_facts.specs.declared.trace.Tag.{Tag}
use Rattle.sg_facts.specs.declared.trace.Tag.TheVariants.{Walk, Load, Client}
use Rattle.sg_facts.specs.Facts.{Facts}
use Rattle.sg_facts.specs.Interface.{Declared}
use Rattle.sg_facts.specs.Legal.{Table}
use Rattle.sg_clients.specs.sg_hist.declared.ended.End.{End}
use Rattle.sg_clients.specs.sg_hist.Ending.{client_of}
use Rattle.sg_clients.specs.sg_hist.Reading.{Position, places_in}
use Rattle.sg_clients.specs.sg_hist.Wakes.{has_blocked}
use Rattle.sg_clients.specs.sg_hist.Recovered.{is_blocked}
use Rattle.sg_script.specs.declared.script.Script.{Script}
use Rattle.sg_plain.specs.Calls.{IsEnd, callers}
use Rattle.sg_plain.specs.Promises.{is_woken_first, up_to_last}

-- each of these clients has ended as is told
abbrev pub EachEnd : Declared → Table → List Entry → Script → List (ℕ × End) → Type 0
EachEnd i ask history script ends = Each (λ e. IsEnd i ask history script e.0 e.1) ends

-- whether an item is of a call of the setup: the setup has client 1's first calls
abbrev pub is_of_setup : Script → Tag → Bool
is_of_setup script tag = elim tag [ Client c seq ↦ (c == 1) && nat_le seq (length script.setup) | Walk id k c ↦ false | Load key c ↦ false ]

-- whether all items up to the last of the setup were noted in turns of client 1
abbrev pub is_setup_first : Script → List Item → Bool
is_setup_first script items = list_all (λ item. client_of item.tag == 1) (up_to_last (λ item. is_of_setup script item.tag) items)

-- where client 1 alone has calls, it gets the play without stops, whatever the stops
abbrev pub GetsPlainAlone : Script → List Entry → List Entry → Type 0
GetsPlainAlone script history plain = list_all (λ c. c == 1) (callers script) ≡ true → history ≡ plain

-- a call that waits at a place doesn't wait again in that boot before it was woken
abbrev pub IsWokenBetween : Facts → List Entry → Position → Tag → Type 0
IsWokenBetween facts history p tag = elim tag [
  | Client client seq ↦ When (has_blocked p.item.outcome)
      (is_woken_first facts history client seq p.item.shown.desc (places_in p.older (p.front ++ p.item ∷ []) p.rest p.newer) ≡ true)
  | Walk id k client ↦ Unit {0}
  | Load key client ↦ Unit {0}
]

-- whether some client waits at its end
abbrev pub somebody_waits : List (ℕ × End) → Bool
somebody_waits ends = list_any (λ e. is_blocked e.1) ends

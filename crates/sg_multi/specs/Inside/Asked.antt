-- That a member is asked a client's call once its earlier calls were answered, over all members.
use Rattle.std.specs.Prelude.{ℕ, ◌≡◌, ◌+◌, ◌≤◌, ◌==◌, true, List, ◌∷◌, ◌++◌, Some, filter, length, slice_get, take}
use Rattle.sg_facts.specs.Facts.{Facts, is_visible}
use Rattle.sg_facts.specs.declared.trace.Tag.{Tag}
use Rattle.sg_facts.specs.declared.trace.Tag.TheVariants.{Walk, Load, Client}
use Rattle.sg_facts.specs.sg_base.Lists.{Each}
use Rattle.sg_multi.specs.Members.{Membered, setting_in, view_in}
use Rattle.sg_multi.specs.sg_sim.sg_play.sg_hist.Reading.{Position, places_of, stands_before}
use Rattle.sg_multi.specs.sg_sim.sg_play.sg_hist.Recovered.{is_answered_later}
use Rattle.sg_multi.specs.sg_sim.sg_script.declared.multi.MultiCall.{MultiCall}
use Rattle.sg_multi.specs.sg_sim.sg_script.declared.multi.MultiScript.{MultiScript}
use Rattle.sg_multi.specs.Calls.{multi_calls}
use Rattle.sg_multi.specs.Merged.{MultiEntry, own_in}

-- the calls of a member
abbrev pub calls_there : ℕ → List MultiCall → List MultiCall
calls_there member calls = filter (λ c. c.member == member) calls

-- a client's call, which has a number at its member, is the one that it makes when so many of its calls are done, over all members
pub record IsCallAfter (script : MultiScript) (member client seq done : ℕ) : Type 0 where
  pub written : MultiCall
  pub next : slice_get (multi_calls script client) done ≡ Some written
  pub its_member : written.member ≡ member
  pub number : length (calls_there member (take done (multi_calls script client))) + 1 ≡ seq

-- at a place stands an item of a client's call: so many of its calls were done then, which are entries by now, and stand before each visible
-- one of the item's member that was answered later
pub record WasAskedAfter (facts : Facts) (script : MultiScript) (merged : List MultiEntry) (member : ℕ) (p : Position) (client seq : ℕ) : Type 0 where
  pub done : ℕ
  pub call : IsCallAfter script member client seq done
  pub reached : done ≤ length (own_in client merged)
  pub later : (before : List MultiEntry) (e : MultiEntry) (rest : List MultiEntry) → merged ≡ before ++ e ∷ rest → e.member ≡ member → is_visible facts e.entry.call.fun ≡ true
      → is_answered_later (stands_before p) e.entry ≡ true → done ≤ length (own_in client before)

-- the same of any item
abbrev pub WasAsked : Facts → MultiScript → List MultiEntry → ℕ → Position → Tag → Type 0
WasAsked facts script merged member p (Walk id k client) = Unit {0}
WasAsked facts script merged member p (Load key client) = Unit {0}
WasAsked facts script merged member p (Client client seq) = WasAskedAfter facts script merged member p client seq

-- so it is of all items of all members
abbrev pub AreAskedSoFar : List Membered → MultiScript → List MultiEntry → Type 0
AreAskedSoFar members script merged = (place : ℕ) (m : Membered) → slice_get members place ≡ Some m
    → Each (λ p. WasAsked (setting_in m).iface.facts script merged (place + 1) p p.item.tag) (places_of (view_in m).run)

-- What the play without stops asks, in its order, and what it means that a run asks the same in its first boot.
use Rattle.std.specs.Prelude.{ℕ, zero, suc, ◌≡◌, ◌+◌, ◌==◌, Bool, true, false, ◌&&◌, is_some, not, List, [], ◌∷◌, ◌++◌, length}
use Rattle.std.specs.Option.{option_map_or}
use Rattle.sg_facts.specs.declared.outcome.Outcome.TheVariants.{Blocks, Stopped}
use Rattle.sg_facts.specs.declared.trace.Item.{Item}
use Rattle.sg_facts.specs.declared.trace.Tag.TheVariants.{Walk, Load, Client}
use Rattle.sg_facts.specs.Trace.{Boot, Run}
use Rattle.sg_plain.specs.Plain.{PlainPhase, Stage, System, Workload, next_stage, next_turn, player_of, ready}
use Rattle.sg_plain.specs.sg_hist.Recovered.{struck_in}

-- a call that was asked: of which client, its number among the client's calls, from 1, and whether it had to wait
pub record Asked : Type 0 where
  pub client : ℕ
  pub seq : ℕ
  pub waited : Bool

-- what a client's turn asks, by what it is at: its next call, unless the guard refuses that
abbrev pub asked_in_turn : {E C : Type 0} → System E C → ℕ → Stage E → PlainPhase → List Asked
asked_in_turn sys client s ready =
    option_map_or (λ call.
    option_map_or (λ code. [])
    (sys.guard s.history call)
    (record { client = client; seq = (player_of s client).done + 1; waited = not (is_some (sys.ask s.history call)) } ∷ []))
    (sys.next s.history client (player_of s client).done) []
asked_in_turn sys client s _ = []

-- what so many turns of a play ask
abbrev pub asked_from : {E C : Type 0} → System E C → Workload → Stage E → ℕ → List Asked
asked_from sys work s zero = []
asked_from sys work s (suc turns) =
    option_map_or (λ client. asked_in_turn sys client s (player_of s client).phase) (next_turn work s) []
    ++ asked_from sys work (next_stage sys work s) turns

-- the items of the first boot
abbrev pub first_items : List Boot → List Item
first_items [] = []
first_items (b ∷ boots) = b.items

-- whether an item is of a call that was asked, and waits exactly where that had to. Of a call in which the service stopped its table says
-- that it would have been answered
abbrev pub is_asked_so : Item → Asked → Bool
is_asked_so item asked =
    (elim item.tag [ Client client seq ↦ (client == asked.client) && (seq == asked.seq) | Walk id k client ↦ false | Load key client ↦ false ])
    && (elim item.outcome [ Stopped ↦ true | Blocks ↦ asked.waited | _ ↦ not asked.waited ])

-- whether items are of the first of these calls, one by one
abbrev pub are_asked_so : List Item → List Asked → Bool
are_asked_so [] asked = true
are_asked_so (item ∷ items) [] = false
are_asked_so (item ∷ items) (a ∷ asked) = is_asked_so item a && are_asked_so items asked

-- a run asks in its first boot what the play without stops asks, in its order, and all of it where nothing struck
pub record AsksPlain (run : Run) (asked : List Asked) : Type 0 where
  pub first_boot : are_asked_so (first_items run.boots) asked ≡ true
  pub whole : struck_in run ≡ [] → length (first_items run.boots) ≡ length asked

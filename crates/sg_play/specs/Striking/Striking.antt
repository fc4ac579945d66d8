-- What a play keeps of its stops: each was asked for.
use Rattle.std.specs.Prelude.{◌⊎◌, List, [], ◌∷◌, ◌++◌, IfSome}
use Rattle.sg_facts.specs.sg_base.declared.call.Call.{Call}
use Rattle.sg_facts.specs.declared.entry.Entry.{Entry}
use Rattle.sg_facts.specs.declared.trace.Item.{Item}
use Rattle.sg_facts.specs.Interface.{Declared}
use Rattle.sg_facts.specs.Trace.{Boot}
use Rattle.sg_plain.specs.sg_hist.Ending.{AsksAfter, IsAfterCommit}
use Rattle.sg_plain.specs.sg_hist.Reading.{items_of}
use Rattle.sg_plain.specs.sg_clients.WorldView.{WorldView, unanswered}
use Rattle.sg_world.specs.sg_world_laws.Setting.{Setting}

-- some call asks the service after the items of a boot
pub record SomeCallAsks (i : Declared) (history : List Entry) (left : List Call) (older items newer : List Item) : Type 0 where
  pub call : Call
  pub asks : AsksAfter i history left older items newer call

-- each stop so far, of boots which stand after other items, came right after a commit, or some call asks the service then
abbrev pub AreAskedSoFar : Declared → List Entry → List Call → List Item → List Boot → Type 0
AreAskedSoFar i history left older [] = Unit {0}
AreAskedSoFar i history left older (b ∷ boots) =
    IfSome b.stop (λ stop. IsAfterCommit i.facts b.items stop ⊎ SomeCallAsks i history left older b.items (items_of boots)) × AreAskedSoFar i history left (older ++ b.items) boots

-- what a play keeps of its stops
abbrev pub IsStriking : Setting → WorldView → Type 0
IsStriking z w = AreAskedSoFar z.iface w.history (unanswered w) [] w.run.boots

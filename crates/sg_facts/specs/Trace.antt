-- What a trace tells: the items of each boot and its stop, without the room that is kept for more.
use Rattle.std.specs.Prelude.{ℕ, List, map}
use Rattle.std.specs.declared.option.Option.{Option}
use Rattle.sg_facts.specs.declared.trace.Item.{Item}
use Rattle.sg_facts.specs.declared.trace.Trace.{Trace}

-- what was done between two boots, and the point at which the service stopped then
pub record Boot : Type 0 where
  pub items : List Item
  pub stop : Option ℕ

-- the boots of a run, and the number of points asked in it
pub record Run : Type 0 where
  pub boots : List Boot
  pub points : ℕ

-- a trace as plain data
abbrev pub run_of : Trace → Run
run_of trace = record { boots = map (λ log. record { items = log.items.items; stop = log.stop }) trace.boots.items; points = trace.points }

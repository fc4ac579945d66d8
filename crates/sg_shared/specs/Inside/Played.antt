-- A play on a service, by the tables of its interface.
use Rattle.std.specs.Prelude.{◌≡◌, List}
use Rattle.sg_edge.specs.Stops.{up_to}
use Rattle.sg_facts.specs.Interface.{Declared}
use Rattle.sg_facts.specs.Tables.{AreTables}
use Rattle.sg_facts.specs.declared.tables.WalkLine.{WalkLine}
use Rattle.sg_sim.specs.sg_plain.sg_hist.declared.ended.Ended.{Ended}
use Rattle.sg_sim.specs.sg_plain.sg_script.declared.script.Script.{Script}
use Rattle.sg_sim.specs.sg_plain.Answering.{Answering}
use Rattle.sg_sim.specs.Played.{IsPlayed}

-- the play of a script on a service, by the tables of an interface and with the script's stops, came to this end
abbrev pub IsPlayedOn : Declared → Answering → Script → Ended → Type 0
IsPlayedOn i service script ended =
    (walks : List WalkLine) × AreTables i walks
    × IsPlayed (record { interface = i; ask = service.ask; parts = service.parts; walks = walks }) (λ asked struck plan. struck ≡ up_to asked plan) script script.stops ended

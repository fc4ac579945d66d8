-- A script of no run, which stands where none was picked yet.
use Rattle.std.specs.Prelude.{[]}
use Rattle.sg_sim.specs.sg_script.declared.script.Script.{Script}

-- a script of no run: without calls, turns and stops
abbrev pub no_script : Script
no_script = record { setup = []; clients = []; schedule = []; stops = [] }

-- The play that is shared is that of these tables and this script.
use Rattle.sg_sim.specs.sg_plain.Calls.{most_client}
use Rattle.sg_shared.proofs.runs.run.Given as goal

abbrev pub ghosts-run_named-N-Naming : goal.ghosts-run_named-N-Naming
ghosts-run_named-N-Naming g a = record { script = a.script }

abbrev pub ghosts-run_named-N-WorldNames : goal.ghosts-run_named-N-WorldNames
ghosts-run_named-N-WorldNames g a = record { tables = a.tables; clients = most_client a.script.clients; plan = a.script.stops }

-- The world that is shared has these tables and two clients.
use Rattle.test_passes.proofs.world.in_world.Given as goal

abbrev pub ghosts-in_named : goal.ghosts-in_named
ghosts-in_named g a = record { tables = a.world.tables; clients = 2; plan = a.world.plan }

-- The first client is one of the storage's.
use Rattle.std.proofs.Common.{◌≤◌}
use Rattle.test_storage.proofs.files.by_turns.Given as goal

abbrev pub invariant-turns : goal.invariant-turns
invariant-turns l = 1 ≤ l.storage.clients

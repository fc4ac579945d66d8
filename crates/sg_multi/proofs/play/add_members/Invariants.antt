-- The worlds of the members so far.
use Rattle.std.proofs.Common.{◌≡◌, length}
use Rattle.sg_multi.specs.Beginning.{AreNew}
use Rattle.sg_multi.proofs.play.add_members.Given as goal

abbrev pub invariant-tables : goal.invariant-tables
invariant-tables g l = (length l.members ≡ l.place) × AreNew l.tables l.script.stops l.clients l.members

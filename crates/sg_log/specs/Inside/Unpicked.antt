-- Tables of no world, which stand where none was picked yet.
use Rattle.std.specs.Prelude.{false, []}
use Rattle.sg_turn.specs.sg_facts.Facts.{no_facts}
use Rattle.sg_turn.specs.sg_facts.Tables.{Compiled}

abbrev pub unpicked_tables : Compiled
unpicked_tables = record { iface = record { facts = no_facts; declared = 0; version = 1; eager = false; moves = []; steps = [] }; walks = [] }

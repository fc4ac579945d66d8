-- The objects that the thread service can come to.
use Rattle.std.specs.Prelude.{◌≤◌}
use Rattle.sg_facts.specs.declared.row.Row.{Row}
use Rattle.sg_facts.specs.Object.{Object}
use Rattle.sg_facts.specs.Sound.{IsSound, AreRows}
use Rattle.sg_slots.specs.Apart.{AreApart}
use Rattle.sg_sched.specs.SchedFacts.{sched_facts}
use Rattle.sg_sched.specs.SchedTable.{rank_of}

-- a rank is at least 1
abbrev pub IsRanked : Row → Type 0
IsRanked r = 1 ≤ rank_of r

-- a sound object of the thread service: no two threads have one rank
pub record IsSchedSound (o : Object) : Type 0 where
  pub general : IsSound sched_facts o
  pub ranked : AreRows IsRanked 0 o.given o.rows
  pub apart : AreApart rank_of o.rows

-- The lock service as plain data, with the laws that it keeps to.
use Rattle.std.specs.Prelude.{refl}
use Rattle.sg_slots.specs.RowModel.{RowModel}
use Rattle.sg_lock.specs.Laws.LockAlikeLaw.{lock_answers_alike}
use Rattle.sg_lock.specs.Laws.LockBlockedLaw.{lock_blocked_stays}
use Rattle.sg_lock.specs.LockFacts.{lock_facts}
use Rattle.sg_lock.specs.Laws.LockShapeLaw.{lock_counts_slowly, lock_shape_allows}
use Rattle.sg_lock.specs.LockSound.{IsLockSound}
use Rattle.sg_lock.specs.Laws.LockSoundLaw.{lock_answers_and_keeps}
use Rattle.sg_lock.specs.LockTable.{lock_parts, lock_table}
use Rattle.sg_lock.specs.Laws.LockWalkLaw.{lock_walk_goes_on}

-- the lock service: its facts, its table, the parts of its Oks, its sound objects, and the laws that it keeps to
abbrev pub lock_model : RowModel
lock_model = record {
  facts = lock_facts;
  ask = lock_table;
  parts = lock_parts;
  sound = IsLockSound;
  fileless = refl;
  answers_and_keeps = lock_answers_and_keeps;
  answers_alike = lock_answers_alike;
  walk_goes_on = lock_walk_goes_on;
  blocked_stays = lock_blocked_stays;
  shape_allows = lock_shape_allows;
  counts_slowly = lock_counts_slowly;
}

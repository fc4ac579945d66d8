-- Interfaces that declare calls on locks.
use Rattle.std.specs.Prelude.{◌≡◌, true}
use Rattle.sg_log.specs.sg_turn.sg_facts.Interface.{Declared, declares}
use Rattle.test_world.specs.test_tables.sg_lock.LockFacts.{lock_facts}

-- an interface of locks declares the functions that make one, take one and release one
pub record DeclaresLockCalls (i : Declared) : Type 0 where
  pub facts : i.facts ≡ lock_facts
  pub makes : declares i 1 ≡ true
  pub takes : declares i 2 ≡ true
  pub releases : declares i 3 ≡ true

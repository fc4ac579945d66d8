-- The row that a lock stands for.
use Rattle.std.specs.Prelude.{◌==◌, if◌then◌else◌, [], ◌∷◌}
use Rattle.sg_facts.specs.sg_base.declared.value.Value.TheVariants.{Word}
use Rattle.sg_slots.specs.Slots.{Body}
use Rattle.sg_lock.specs.declared.lock.Lock.{Lock}

-- made by lock_alloc, in the state that its owner tells, with the owner as its field
abbrev pub lock_body : Lock → Body
lock_body lock = record {
  made = 1;
  creator = lock.creator;
  parent = 0;
  state = if lock.owner == 0 then 1 else 2;
  fields = Word lock.owner ∷ [];
}

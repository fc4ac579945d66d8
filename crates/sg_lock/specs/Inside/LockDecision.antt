-- What the lock service decides on a lock.
use Rattle.std.specs.Prelude.{ℕ, ◌==◌, if◌then◌else◌, None}
use Rattle.sg_facts.specs.sg_base.declared.reply.Code.TheVariants.{Held, NotOwner}
use Rattle.sg_slots.specs.declared.decision.Decision.{Decision}
use Rattle.sg_slots.specs.declared.decision.Decision.TheVariants.{Refuse, Block, Make, Set, Remove}
use Rattle.sg_lock.specs.declared.lock.Lock.{Lock}

-- a lock with another owner
abbrev pub set_owner : Lock → ℕ → Decision Lock
set_owner lock owner = Set (record { creator = lock.creator; owner = owner }) None

-- a client makes a lock, which nobody owns
abbrev pub on_allocate : ℕ → Decision Lock
on_allocate client = Make (record { creator = client; owner = 0 }) None

-- a client takes a lock: refused where the client owns it, done where nobody does, and blocked where another client does
abbrev pub on_take : Lock → ℕ → Decision Lock
on_take lock client = if lock.owner == client then Refuse Held else if lock.owner == 0 then set_owner lock client else Block

-- a client releases a lock, so that nobody owns it; refused to anybody but the owner
abbrev pub on_release : Lock → ℕ → Decision Lock
on_release lock client = if lock.owner == client then set_owner lock 0 else Refuse NotOwner

-- a lock is ended; refused where somebody owns it
abbrev pub on_free : Lock → Decision Lock
on_free lock = if lock.owner == 0 then Remove else Refuse Held

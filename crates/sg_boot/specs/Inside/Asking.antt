-- What asking a service and the point after its reply does.
use Rattle.std.specs.Prelude.{ℕ, ◌≡◌, None}
use Rattle.sg_facts.specs.sg_base.declared.call.Call.{Call}
use Rattle.sg_boot.specs.Invoking.{AnswersCall, Stops}
use Rattle.sg_facts.specs.declared.outcome.Outcome.{Outcome}
use Rattle.sg_facts.specs.declared.outcome.Outcome.TheVariants.{Replied, Blocks, Stopped, NoMemory}
use Rattle.sg_facts.specs.Facts.{Facts}
use Rattle.sg_facts.specs.Invoke.{Points, Stays}
use Rattle.sg_facts.specs.Legal.{Table}
use Rattle.sg_facts.specs.Object.{Object, after}

-- by the outcome: an answer with its change; nothing, where the caller has to wait or there was no memory; or a stop, after which
-- nothing is known of the object
abbrev pub Asks : Facts → Table → (ℕ → ℕ) → Object → Call → Points → Outcome → Object → Points → Type 0
Asks facts ask parts old call points (Replied reply patch) new later =
    AnswersCall facts ask parts old call points reply patch later × (new ≡ after facts old call reply)
Asks facts ask parts old call points Blocks new later = (ask old call ≡ None) × Stays old points new later
Asks facts ask parts old call points Stopped new later = Stops ask parts old call points later
Asks facts ask parts old call points NoMemory new later = Stays old points new later

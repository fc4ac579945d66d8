-- What a step of a client came to, by what a world answers.
use Rattle.sg_turn.specs.declared.host.Stepped.{Stepped}
use Rattle.sg_turn.specs.declared.host.Stepped.TheVariants.{GoesOn, Answered as IsAnswered}
use Rattle.sg_world.specs.declared.did.Did.{Did}
use Rattle.sg_world.specs.declared.did.Did.TheVariants.{Answered, Blocked, Booted, Loaded, Lost, Replayed, Served, Skipped, Struck}

abbrev pub stepped_of : Did → Stepped
stepped_of (Answered reply) = IsAnswered reply
stepped_of Skipped = GoesOn
stepped_of Struck = GoesOn
stepped_of Booted = GoesOn
stepped_of Replayed = GoesOn
stepped_of Loaded = GoesOn
stepped_of Served = GoesOn
stepped_of Blocked = GoesOn
stepped_of Lost = GoesOn

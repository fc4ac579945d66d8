-- What an engine's names and marks say of what its stubs tell.
use Rattle.sg_world_laws.specs.sg_recovery_laws.Midway.Progress.{Told, fresh, begun, complete}
use Rattle.sg_replay.specs.sg_name.Names.{named_at}
use Rattle.sg_replay.specs.sg_name.declared.named.Named.{Named}
use Rattle.sg_replay.specs.sg_name.declared.named.Named.TheVariants.{Unnamed, Partial, Live}
use Rattle.sg_replay.specs.Engined.{Engined}
use Rattle.sg_replay.specs.Present.{is_present}
use Rattle.sg_replay.specs.Serving.{pairs_of}
use Rattle.sg_world_laws.specs.Keeping.{Stub}

-- how far the row of an id is, by what stands for it
abbrev pub told_of : Named → Told
told_of Unnamed = fresh
told_of (Partial real done) = begun done
told_of (Live real) = complete

-- what the stubs tell
abbrev pub stub_of : Engined → Stub
stub_of e = record { names = pairs_of e.names.known; told = λ id. told_of (named_at e.names.known id); present = λ path. is_present e.present path }

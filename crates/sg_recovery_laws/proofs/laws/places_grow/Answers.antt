use Rattle.sg_hist.proofs.Growing.{places-booted, places-more, places-struck}
use Rattle.sg_recovery_laws.proofs.laws.places_grow.Goals as goal

pub returns : goal.returns
returns c = record { noted = places-more; stopped = places-struck; again = places-booted }

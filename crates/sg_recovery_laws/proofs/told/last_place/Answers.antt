use Rattle.std.proofs.Common.{[]}
use Rattle.sg_recovery_laws.proofs.InBoots.{place_is}
use Rattle.sg_recovery_laws.proofs.LastItem.Later.{object_before_last, whole_last}
use Rattle.sg_recovery_laws.proofs.told.last_place.Goals as goal

pub returns : goal.returns
returns c = record { object = object_before_last; whole = whole_last; noted = place_is [] }

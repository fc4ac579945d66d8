use Rattle.std.proofs.Common.{subst}
use Rattle.sg_facts.specs.Sound.{AreRows, IsRow}
use Rattle.sg_track.proofs.Premises.{may_track}
use Rattle.sg_track.proofs.laws.sound_oks_are_tracked.Goals as goal

pub returns : goal.returns
returns c = λ facts t call good o allowed sound rows_is place.
    may_track facts t call good o.given o.rows allowed (subst (AreRows (IsRow facts o.rows) 0 o.given) rows_is sound.rows) place

use Rattle.sg_recovery_laws.proofs.Onward.{booted_stays, committed_stays, held_stays, made_stays, noted_stays, nothing_yet, refused_stays, struck_stays}
use Rattle.sg_recovery_laws.proofs.laws.recovering_goes_on.Goals as goal

pub returns : goal.returns
returns c = record {
  begins = nothing_yet;
  noted = noted_stays;
  committed = committed_stays;
  refused = refused_stays;
  held = held_stays;
  made = made_stays;
  stopped = struck_stays;
  again = booted_stays;
}

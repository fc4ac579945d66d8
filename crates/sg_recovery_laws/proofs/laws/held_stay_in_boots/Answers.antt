use Rattle.sg_recovery_laws.proofs.InBoots.{boots_appended, boots_after, boots_between, boots_booted, boots_counted, boots_noted, boots_refused, boots_within, own_last, still_last}
use Rattle.sg_recovery_laws.proofs.laws.held_stay_in_boots.Goals as goal

pub returns : goal.returns
returns c = record {
  appended = boots_appended;
  refused = boots_refused;
  noted = boots_noted;
  between = boots_between;
  within = boots_within;
  behind = boots_after;
  counted = boots_counted;
  again = boots_booted;
  own = own_last;
  still = still_last;
}

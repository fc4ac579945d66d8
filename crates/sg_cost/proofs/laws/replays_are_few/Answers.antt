-- Replayed calls are few.
use Rattle.sg_report.specs.sg_hist.Recovered.{waiting}
use Rattle.sg_cost.proofs.Few.Bounds.{are_few}
use Rattle.sg_cost.proofs.laws.replays_are_few.Goals as goal

pub returns : goal.returns
returns c = λ s history run ends recovered allowed numbered calls before b later boots.
    are_few s history run (waiting ends) recovered.recovered allowed numbered calls before b later boots

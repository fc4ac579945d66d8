-- The replayed calls of a play are few.
use Rattle.sg_report.specs.sg_hist.Recovered.{waiting}
use Rattle.sg_cost.proofs.Few.Bounds.{are_few}
use Rattle.sg_cost.proofs.Scripted.{scripts_are_calls, scripts_are_clients, scripts_few, scripts_numbered}
use Rattle.sg_cost.proofs.laws.plays_are_few.Goals as goal

pub returns-clause-few : goal.returns-clause-few
returns-clause-few c = λ s script history run ends playable calls recovered allowed before b later boots.
    are_few s history run (waiting ends) recovered.recovered allowed (scripts_numbered s.interface script history playable calls)
    (scripts_are_calls s.interface script history playable calls recovered.tables.fits) before b later boots

pub returns-clause-numbered : goal.returns-clause-numbered
returns-clause-numbered c = λ i script history playable calls. scripts_numbered i script history playable calls

pub returns-clause-clients : goal.returns-clause-clients
returns-clause-clients c = λ i script history playable calls fits. scripts_are_clients i script history playable calls fits

pub returns-clause-entries : goal.returns-clause-entries
returns-clause-entries c = λ i script history playable calls. scripts_few i script history playable calls

use Rattle.sg_recovery_laws.proofs.Points.{points_begin, points_booted, points_counted, points_noted, points_stopped, points_struck}
use Rattle.sg_recovery_laws.proofs.laws.points_go_on.Goals as goal

pub returns : goal.returns
returns c = record { begins = points_begin; noted = points_noted; within = points_stopped; between = points_struck; again = points_booted; counted = points_counted }

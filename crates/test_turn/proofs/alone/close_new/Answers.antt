use Rattle.std.proofs.Common.{sym, subst}
use Rattle.sg_turn.specs.Seats.{AreAllSeats}
use Rattle.test_turn.proofs.AllSeats.{new_are_all}
use Rattle.test_turn.proofs.alone.close_new.Goals as goal

pub close-requires : goal.close-requires
close-requires c = subst (AreAllSeats c.args.turn.id) (sym c.requires) (new_are_all c.args.turn 63)

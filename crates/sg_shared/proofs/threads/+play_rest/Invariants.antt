-- Each call takes a pass out.
use Rattle.std.specs.Prelude.{vec_len}
use Rattle.sg_shared.proofs.threads.+play_rest.Given as goal

abbrev pub decreases-play_rest : goal.decreases-play_rest
decreases-play_rest g l = vec_len l.passes

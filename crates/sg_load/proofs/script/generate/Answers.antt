-- A generated script is played, and its stops ascend.
use Rattle.std.proofs.Common.{sym, subst}
use Rattle.sg_plain.specs.sg_edge.Stops.{AscendsAbove}
use Rattle.sg_load.specs.Services.{standard}
use Rattle.sg_load.proofs.Playing.{generated_playable, generated_stops}
use Rattle.sg_load.proofs.script.generate.Goals as goal
use Rattle.sg_plain.specs.Playing.Playable.{IsPlayable}
use Rattle.sg_plain.specs.sg_script.declared.script.Script.{Script}

pub returns-clause-playable : goal.returns-clause-playable
returns-clause-playable c =
    subst (IsPlayable (standard c.args.service)) (sym c.in_ok-script.ensures) (generated_playable c.args.service c.args.number)

pub returns-clause-stops : goal.returns-clause-stops
returns-clause-stops c = let P : Script → Type 0 = λ script. AscendsAbove 0 script.stops in subst P (sym c.in_ok-script.ensures) (generated_stops c.args.service c.args.number)

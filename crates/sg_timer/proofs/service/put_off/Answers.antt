-- The whole periods that take a timer past its time are at most what is behind and one period.
use Rattle.std.proofs.Common.{◌-◌, arith}
use Rattle.sg_timer.specs.Inside.TimerFields.{periods}
use Rattle.sg_timer.proofs.service.put_off.Goals as goal

pub overflow_mul-result : goal.overflow_mul-result
overflow_mul-result c =
    let timer = c.args.timer.now in
    let most = periods (timer.time - timer.due) timer.period in
    omega (arith, most)

-- A skip puts a timer off to no more than one period past its time.
use Rattle.std.proofs.Common.{◌≡◌, arith}
use Rattle.sg_timer.specs.Inside.TimerFields.{skip_bound}
use Rattle.sg_timer.specs.TimerTable.{skipped}
use Rattle.sg_timer.proofs.service.skip.Goals as goal

pub overflow_add-result : goal.overflow_add-result
overflow_add-result c =
    let timer = c.args.timer.now in
    let bound = skip_bound timer.time timer.due timer.period in
    let ticks : c.put_off-ticks.result ≡ skipped timer.time timer.due timer.period = c.put_off-ticks.ensures in
    omega (arith, bound, ticks)

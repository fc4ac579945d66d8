-- An entry wakes as its call and its reply do.
use Rattle.std.proofs.Common.{ap, refl, sym, ◌∙◌}
use Rattle.sg_world.specs.Inside.Waiting.{refuses}
use Rattle.sg_world.proofs.Wakes.{refuses_so}
use Rattle.sg_world.proofs.waking.wake.Goals.{in-Refused, in_default}
use Rattle.sg_world.proofs.waking.wake.Goals as goal

pub returns : goal.returns
returns g c = λ rows tracked waits.
    c.wake_by.ensures rows c.args.entry.now.call c.args.entry.now.reply refl refl
    (elim c.match-matches.branch [
      | in-Refused w ↦ refuses_so c.args.entry.now.reply w.in-Refused.field-0 w.in-Refused.is ∙ sym w.matches-is
      | in_default w ↦ ap refuses w.in_default.is ∙ sym w.matches-is
    ]) tracked waits

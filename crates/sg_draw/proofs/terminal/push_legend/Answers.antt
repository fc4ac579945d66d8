-- The samples, one after the other.
use Rattle.std.proofs.lemmas.Result.{on_ok_weaker}
use Rattle.sg_draw.proofs.Lines.{then}
use Rattle.sg_draw.proofs.terminal.push_legend.Goals as goal

pub returns : goal.returns
returns c =
    on_ok_weaker _
    (λ d. then c.in_ok-push_sample.ensures (then c.in_ok-push_sample-2.ensures (then c.in_ok-push_sample-3.ensures (then c.in_ok-push_sample-4.ensures (then c.in_ok-push_sample-5.ensures d)))))
    c.push_sample-6.ensures

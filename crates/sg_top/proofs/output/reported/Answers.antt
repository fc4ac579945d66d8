-- What is printed of the run is the text.
use Rattle.std.proofs.Common.{sym, subst}
use Rattle.sg_top.specs.Headline.{IsShown}
use Rattle.sg_top.proofs.output.reported.Goals as goal

pub returns-clause-text : goal.returns-clause-text
returns-clause-text c = subst (IsShown c.args.shows c.args.accepted.now c.args.played) (sym c.output_of_run.ensures.text) c.in_ok-text.ensures

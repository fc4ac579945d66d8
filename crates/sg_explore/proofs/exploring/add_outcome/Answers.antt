-- A play is counted that isn't the first that differs.
use Rattle.std.proofs.Common.{sym, ◌∙◌}
use Rattle.sg_explore.proofs.Adding.{adds_kept, first_apart, none_yet}
use Rattle.sg_explore.specs.Inside.Jobs.{IsTriedOf}
use Rattle.sg_explore.specs.Inside.Stopping.{points_of}
use Rattle.sg_explore.specs.Inside.Sums.{sums_of}
use Rattle.sg_explore.proofs.exploring.add_outcome.Goals as goal

pub add_first-requires-clause-none : goal.add_first-requires-clause-none
add_first-requires-clause-none g c = λ lives outlived. none_yet c.args.outcome.differs c.args.tally.now.first c.is_first.result c.is_first.ensures c.if-is_first.true

pub returns : goal.returns
returns g c =
    adds_kept (IsTriedOf c.args.accepted.now g.S.Service.facts g.S.Service.ask g.S.Service.parts c.args.script.now c.args.plain.now)
    (points_of c.args.stops) c.args.outcome (sums_of c.args.tally.now) (sums_of c.count.new.self) c.requires.outcome (first_apart c.args.outcome.differs c.args.tally.now.first (sym c.is_first.ensures ∙ c.if-is_first.false)) c.count.ensures

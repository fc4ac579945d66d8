-- Ids rise, so those with smaller ids come first.
use Rattle.std.proofs.Common.{of_calls, rules}
use Rattle.std.specs.Prelude.{nat_lt}
use Rattle.std.proofs.lemmas.Fn.{always_returns_same}
use Rattle.sg_track.proofs.FirstFrom.{all_lower, ids_rise, none_lower}
use Rattle.sg_track.proofs.places.first_from.Goals as goal

pub returns-clause-before : goal.returns-clause-before
returns-clause-before c =
    let es = c.args.kept.now.entries in
    let point = c.partition_point.ensures.partitioned (λ e. nat_lt e.1.row.id c.args.id) (always_returns_same _ _ _ (λ a r f k. search (rules, of_calls))) (ids_rise c.requires.most c.args.id es c.requires.tracked) in
    all_lower c.args.id es c.partition_point.result point.0

pub returns-clause-after : goal.returns-clause-after
returns-clause-after c =
    let es = c.args.kept.now.entries in
    let point = c.partition_point.ensures.partitioned (λ e. nat_lt e.1.row.id c.args.id) (always_returns_same _ _ _ (λ a r f k. search (rules, of_calls))) (ids_rise c.requires.most c.args.id es c.requires.tracked) in
    none_lower c.args.id es c.partition_point.result point.1

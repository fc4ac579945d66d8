-- At most 8 fields have at most 256 sets.
use Rattle.std.proofs.Common.{◌≤◌, subst, sym}
use Rattle.sg_walk.proofs.ReachedStates.Adding.{few_sets, shifted}
use Rattle.sg_walk.proofs.closing.set_count.Goals as goal

pub returns-clause-value : goal.returns-clause-value
returns-clause-value c = shifted c.args.fields c.requires

pub returns-clause-few : goal.returns-clause-few
returns-clause-few c = subst (λ n. n ≤ 256) (sym (shifted c.args.fields c.requires)) (few_sets c.args.fields c.requires)

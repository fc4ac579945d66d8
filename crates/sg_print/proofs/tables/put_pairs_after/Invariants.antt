-- The lines of the first numbers.
use Rattle.std.proofs.Common.{[]}
use Rattle.std.specs.Prelude.{if◌then◌else◌}
use Rattle.sg_facts.specs.Facts.{facts_of}
use Rattle.sg_facts.specs.Interface.{has_pair}
use Rattle.sg_print.specs.Inside.Pieces.{pair_line}
use Rattle.sg_print.proofs.Numbers.{Stands}
use Rattle.sg_print.proofs.tables.put_pairs_after.Given as goal

abbrev pub invariant-seconds : goal.invariant-seconds
invariant-seconds l = Stands (λ b. if has_pair l.pairs l.first b then pair_line l.word (facts_of l.shape).funs l.first b else []) l.initial.out l.out l.second

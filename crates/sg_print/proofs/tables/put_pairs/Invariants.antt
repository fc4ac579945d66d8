-- The lines of the first numbers.
use Rattle.sg_facts.specs.Facts.{facts_of}
use Rattle.sg_print.specs.Inside.Pieces.{pairs_from}
use Rattle.sg_print.proofs.Numbers.{Stands}
use Rattle.sg_print.proofs.tables.put_pairs.Given as goal

abbrev pub invariant-firsts : goal.invariant-firsts
invariant-firsts l = Stands (pairs_from l.word (facts_of l.shape).funs l.pairs) l.initial.out l.out l.first

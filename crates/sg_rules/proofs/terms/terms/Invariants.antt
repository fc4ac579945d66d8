-- The numbers so far were read.
use Rattle.std.proofs.Common.{◌≡◌, ◌≤◌, List, length}
use Rattle.sg_rules.specs.declared.tree.Term.{Term}
use Rattle.sg_rules.specs.Grammar.Inside.States.{RuleState, termed, terms, rule_reader}
use Rattle.sg_rules.specs.Inside.Parts.{part}
use Rattle.sg_rules.proofs.terms.terms.Given as goal

abbrev pub invariant-terms : goal.invariant-terms
invariant-terms l = record {
  read_so_far : (k : List Term → RuleState) → part rule_reader (terms k) l.fn.reader ≡ part rule_reader (termed l.terms k) l.reader;
  fewer : length l.reader.rest ≤ length l.fn.reader.rest;
}

abbrev pub decreases-terms : goal.decreases-terms
decreases-terms l = length l.reader.rest

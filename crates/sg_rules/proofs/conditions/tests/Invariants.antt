-- The tests so far were read.
use Rattle.std.proofs.Common.{◌≡◌, ◌≤◌, length}
use Rattle.sg_rules.specs.declared.tree.Tests.{Tests}
use Rattle.sg_rules.specs.Grammar.Inside.States.{RuleState, tests, tests_from, rule_reader}
use Rattle.sg_rules.specs.Inside.Parts.{part}
use Rattle.sg_rules.proofs.conditions.tests.Given as goal

abbrev pub invariant-tests : goal.invariant-tests
invariant-tests l = record {
  read_so_far : (k : Tests → RuleState) → part rule_reader (tests k) l.fn.reader ≡ part rule_reader (tests_from l.tests k) l.reader;
  fewer : length l.reader.rest ≤ length l.fn.reader.rest;
}

abbrev pub decreases-tests : goal.decreases-tests
decreases-tests l = length l.reader.rest

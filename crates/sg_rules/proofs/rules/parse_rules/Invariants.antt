-- The rules so far were read.
use Rattle.std.proofs.Common.{◌≡◌, ◌≤◌, [], length}
use Rattle.sg_rules.specs.Grammar.Inside.States.{ruled, rule_reader}
use Rattle.sg_rules.specs.Inside.Parts.{part}
use Rattle.sg_rules.proofs.rules.parse_rules.Given as goal

abbrev pub invariant-rules : goal.invariant-rules
invariant-rules l = record {
  read_so_far : part rule_reader (ruled []) l.fn.reader ≡ part rule_reader (ruled l.rules) l.reader;
  fewer : length l.reader.rest ≤ length l.fn.reader.rest;
}

abbrev pub decreases-rules : goal.decreases-rules
decreases-rules l = length l.reader.rest

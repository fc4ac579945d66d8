-- What holds of a row was read so far.
use Rattle.std.proofs.Common.{◌≡◌, ◌≤◌, List, length}
use Rattle.sg_rules.specs.declared.tree.Pick.{Pick}
use Rattle.sg_rules.specs.Grammar.Inside.States.{RuleState, picked, picks, rule_reader}
use Rattle.sg_rules.specs.Inside.Parts.{part}
use Rattle.sg_rules.proofs.conditions.picks.Given as goal

abbrev pub invariant-picks : goal.invariant-picks
invariant-picks l = record {
  read_so_far : (k : List Pick → RuleState) → part rule_reader (picks k) l.fn.reader ≡ part rule_reader (picked l.picks k) l.reader;
  fewer : length l.reader.rest ≤ length l.fn.reader.rest;
}

abbrev pub decreases-picks : goal.decreases-picks
decreases-picks l = length l.reader.rest

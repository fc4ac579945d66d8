-- What the calls that are left add to the flaws so far.
use Rattle.std.proofs.Common.{◌≡◌, ◌+◌, drop}
use Rattle.sg_script.specs.Inside.Firsts.{first_after}
use Rattle.sg_script.specs.Flaws.{calls_flaws}
use Rattle.sg_script.proofs.judging.judge_calls.Given as goal

abbrev pub invariant-each : goal.invariant-each
invariant-each l = record {
  nth : l.nth ≡ l.fn.nth + l.call-index;
  own : l.own ≡ l.fn.own + l.call-index;
  left : first_after l.first (calls_flaws l.members l.in_setup l.nth l.own (drop l.call-index l.calls)) ≡ first_after l.fn.first (calls_flaws l.members l.in_setup l.fn.nth l.fn.own l.calls);
}

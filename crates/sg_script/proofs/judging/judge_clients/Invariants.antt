-- What the numbers that are left add to the flaws so far.
use Rattle.std.proofs.Common.{◌≡◌, drop}
use Rattle.std.specs.List.{flat_map}
use Rattle.sg_script.specs.Inside.Firsts.{first_after}
use Rattle.sg_script.specs.Flaws.{client_flaws}
use Rattle.sg_script.proofs.judging.judge_clients.Given as goal

abbrev pub invariant-each : goal.invariant-each
invariant-each l = first_after l.first (flat_map client_flaws (drop l.number-index l.numbers)) ≡ first_after l.fn.first (flat_map client_flaws l.numbers)

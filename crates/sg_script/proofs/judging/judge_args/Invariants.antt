-- What the arguments that are left add to the flaws so far.
use Rattle.std.proofs.Common.{◌≡◌, drop}
use Rattle.std.specs.List.{flat_map}
use Rattle.sg_script.specs.Inside.Firsts.{first_after}
use Rattle.sg_script.specs.Inside.Parts.{arg_flaws}
use Rattle.sg_script.proofs.judging.judge_args.Given as goal

abbrev pub invariant-each : goal.invariant-each
invariant-each l = first_after l.first (flat_map arg_flaws (drop l.arg-index l.args)) ≡ first_after l.fn.first (flat_map arg_flaws l.args)

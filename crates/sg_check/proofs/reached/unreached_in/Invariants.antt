-- The functions so far.
use Rattle.std.proofs.Common.{◌≡◌, ℕ, ◌<◌, true}
use Rattle.std.specs.Prelude.{◌↔◌}
use Rattle.sg_check.specs.Inside.Numbers.{has_number}
use Rattle.sg_check.specs.Inside.Reached.{is_unreached}
use Rattle.sg_check.proofs.reached.unreached_in.Given as goal

abbrev pub invariant-funs : goal.invariant-funs
invariant-funs l = (fun : ℕ) → (has_number l.unreached fun ≡ true) ↔ ((fun < l.fun) × (is_unreached l.iface l.states fun ≡ true))

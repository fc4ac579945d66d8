-- The next call computes, and its number with it.
use Rattle.std.proofs.Common.{◌≡◌, ℕ, Some, refl, ap}
use Rattle.std.specs.Option.{option_map_or}
use Rattle.std.specs.declared.option.Option.{Option}
use Rattle.sg_multi.specs.SeveralServices.{MemberCall}
use Rattle.test_recovery.specs.LockRuns.{lock_stubs}
use Rattle.test_plays.proofs.several.waits_by_number.Goals as goal

abbrev number_in : Option MemberCall → ℕ
number_in call = option_map_or (λ (c : MemberCall). c.call.seq) call 0

pub returns-clause-waits : goal.returns-clause-waits
returns-clause-waits c = record { next = refl; stubs = lock_stubs; there = refl; none = refl }

pub returns-clause-wrong : goal.returns-clause-wrong
returns-clause-wrong c waits = let numbers : 1 ≡ 7 = ap number_in waits.next in cc numbers

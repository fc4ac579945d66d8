use Rattle.std.proofs.Common.{◌≡◌, ◌<◌, ℕ, suc, false}
use Rattle.sg_lex.proofs.Closes.{closes}
use Rattle.sg_lex.proofs.front.closed_after.Given as goal

-- no `*/` stands before the place
abbrev pub invariant-loop-at : goal.invariant-loop-at
invariant-loop-at l = (k : ℕ) → suc k < l.at → closes l.comment k ≡ false

-- No statement so far is the one.
use Rattle.std.proofs.Common.{take}
use Rattle.sg_explain.proofs.Protos.{NoneIn}
use Rattle.sg_explain.proofs.stuck.stuck_at.Given as goal

abbrev pub invariant-statements : goal.invariant-statements
invariant-statements l = NoneIn l.iface l.at (take l.statement-index l.statements)

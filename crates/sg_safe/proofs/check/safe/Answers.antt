-- A description without a reason is safe.
use Rattle.std.proofs.Common.{subst}
use Rattle.sg_known.specs.sg_described.Described.{described_of}
use Rattle.sg_known.proofs.sg_described.Keeping.SafeLaw.{plain_tells}
use Rattle.sg_safe.specs.Inside.Stages.{IsFound}
use Rattle.sg_safe.specs.Reasons.{unsafe_in}
use Rattle.sg_safe.proofs.Reasoning.{safe_without}
use Rattle.sg_safe.proofs.check.safe.Goals as goal

pub unsafe_at-requires-clause-plain : goal.unsafe_at-requires-clause-plain
unsafe_at-requires-clause-plain c = plain_tells (described_of c.args.description.now) c.requires.plain

pub returns-in-None-clause-safe : goal.returns-in-None-clause-safe
returns-in-None-clause-safe c =
    let d = described_of c.args.description.now in
    safe_without d (plain_tells d c.requires.plain) (subst (IsFound d (unsafe_in d)) c.in-None.is c.in_ok-reason.ensures)

-- The pairs tell what the look-up tells.
use Rattle.std.proofs.Common.{sym, ◌∙◌, ap}
use Rattle.sg_replay.proofs.Naming.{named_in_pairs, real_or_zero}
use Rattle.sg_replay.proofs.names.real_of.Goals as goal

pub returns-in-Unnamed : goal.returns-in-Unnamed
returns-in-Unnamed c = ap real_or_zero c.in-Unnamed.ensures.named ∙ sym (named_in_pairs c.args.names.now.known c.args.id)

pub returns-in-Partial : goal.returns-in-Partial
returns-in-Partial c = ap real_or_zero c.in-Partial.ensures.named ∙ sym (named_in_pairs c.args.names.now.known c.args.id)

pub returns-in-Live : goal.returns-in-Live
returns-in-Live c = ap real_or_zero c.in-Live.ensures.named ∙ sym (named_in_pairs c.args.names.now.known c.args.id)

-- The client has one descriptor more, or as many.
use Rattle.std.proofs.Common.{◌∙◌, ap, sym}
use Rattle.sg_multi.specs.sg_sim.Inside.Givens.{lists_of}
use Rattle.sg_multi.specs.sg_sim.sg_plain.Playing.Given.{with_handed}
use Rattle.sg_multi.proofs.running.Running.note_reply.Goals as goal

pub returns-clause-lists : goal.returns-clause-lists
returns-clause-lists g c = c.add.ensures ∙ ap (with_handed (lists_of c.args.self.now.given) c.args.client) (sym c.in-Some.is)

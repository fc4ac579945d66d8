-- The description is the service's, and safe.
use Rattle.std.proofs.Common.{sym, subst}
use Rattle.sg_described.specs.sg_facts.Kinds.{MayAsk}
use Rattle.sg_described.specs.sg_slots.Slots.{object_of}
use Rattle.sg_described.specs.Safe.{IsPlain}
use Rattle.sg_described.proofs.Keeping.SafeLaw.{made_is_safe}
use Rattle.sg_interpret.specs.DescribedRow.{described_body}
use Rattle.sg_interpret.proofs.service.decide_by.Goals as goal

pub decide-requires-clause-plain : goal.decide-requires-clause-plain
decide-requires-clause-plain g c = let safe = made_is_safe (g.N.Describes.descriptions g.row.PLACE) in subst IsPlain (sym c.description.ensures) safe.plain

pub decide-requires-clause-may : goal.decide-requires-clause-may
decide-requires-clause-may g c = subst (λ d. MayAsk d.facts (object_of (described_body d) c.args.slots.now) c.args.call.now) (sym c.description.ensures) c.requires

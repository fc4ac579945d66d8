-- A described service has no files.
use Rattle.std.proofs.Common.{cond, sym, ap}
use Rattle.sg_described.specs.sg_facts.Object.{Object, set_file}
use Rattle.sg_described.specs.sg_slots.Slots.{object_of}
use Rattle.sg_described.specs.Safe.{made_safe}
use Rattle.sg_described.proofs.Keeping.SafeLaw.{made_is_safe}
use Rattle.sg_interpret.specs.DescribedRow.{described_body}
use Rattle.sg_interpret.proofs.service.DescribedServiceService.load.Goals as goal

pub returns-clause-ok : goal.returns-clause-ok
returns-clause-ok g c =
    let safe = made_is_safe (g.N.Describes.descriptions g.row.PLACE) in
    let o : Object = object_of (described_body (made_safe (g.N.Describes.descriptions g.row.PLACE))) c.args.self.now.slots in
    sym (ap (λ b. cond b (record { rows = o.rows; files = set_file o.files c.args.arg3.now c.args.arg4.now; given = o.given }) o) safe.plain.fileless)

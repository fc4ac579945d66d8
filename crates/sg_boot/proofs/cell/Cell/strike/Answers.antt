use Rattle.sg_boot.proofs.Keeping.{kept_struck}
use Rattle.sg_boot.proofs.cell.Cell.strike.Goals as goal

pub invariant_of-self : goal.invariant_of-self
invariant_of-self g c =
    rw (c.fail.ensures.service, c.fail.ensures.run)
    (kept_struck g.S.Service.facts c.self.inside.journal.run.boots c.args.point c.self.invariant.begun)

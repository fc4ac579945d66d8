use Rattle.std.proofs.Common.{Some, subst, sym}
use Rattle.sg_boot.proofs.Keeping.{kept_booted}
use Rattle.sg_boot.specs.Cells.{IsCell}
use Rattle.sg_boot.proofs.cell.Cell.boot.Goals as goal

pub invariant_of-self : goal.invariant_of-self
invariant_of-self g c =
    rw c.fresh.ensures
    (subst (λ run. IsCell g.S.Service.facts (Some _) run.boots) (sym c.boot.ensures) (kept_booted g.S.Service.facts c.self.inside.journal.run.boots))

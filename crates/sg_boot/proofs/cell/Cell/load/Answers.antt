use Rattle.std.proofs.Common.{Some, subst}
use Rattle.std.specs.Option.{option_map}
use Rattle.sg_boot.proofs.Keeping.{kept_loaded}
use Rattle.sg_boot.specs.Cells.{IsCell}
use Rattle.sg_boot.proofs.cell.Cell.load.Goals as goal

pub invariant_of-self-2 : goal.invariant_of-self-2
invariant_of-self-2 g c =
    let facts = g.S.Service.facts in
    let boots = c.self.inside.journal.run.boots in
    let cell : IsCell facts (Some (g.S.Service.object c.in-Some.service)) boots =
    subst (λ s. IsCell facts (option_map g.S.Service.object s) boots) c.in-Some.is c.self.invariant in
    rw (c.note_load.ensures, c.new.ensures, c.in_ok-file.ensures.file, c.file.ensures.run)
    (kept_loaded facts boots (g.S.Service.object c.in-Some.service) _ c.args.client c.args.points c.args.key.now c.args.bytes.now cell c.requires.files c.in_ok-load-in-Some.ensures.ok)

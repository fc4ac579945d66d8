-- The first of all is the first that is wanted, where all are; else it is looked for in the line.
use Rattle.std.proofs.Common.{◌∙◌, ap, sym}
use Rattle.sg_needs.proofs.Lines.{wanted_all, wanted_ids}
use Rattle.sg_needs.specs.Inside.Lines.{ids_in}
use Rattle.sg_replay.specs.Missing.{first_hole}
use Rattle.sg_replay.proofs.hole.wanted_hole.Goals as goal

pub returns-then-wants_all : goal.returns-then-wants_all
returns-then-wants_all c = λ o same.
    let rows = c.args.rows.now.rows in
    let call = c.args.call.now in
    sym c.requires
    ∙ ap (first_hole c.args.names.now.known) (sym (wanted_all rows call.desc)
    ∙ ap (λ b. ids_in b rows call.desc) (sym c.if-wants_all.true ∙ c.wants_all.ensures) ∙ sym (wanted_ids c.args.iface.now o call rows same))

pub returns-else-wants_all : goal.returns-else-wants_all
returns-else-wants_all c = λ o same.
    let rows = c.args.rows.now.rows in
    let call = c.args.call.now in
    c.hole_in_line.ensures
    ∙ ap (first_hole c.args.names.now.known) (ap (λ b. ids_in b rows call.desc) (sym c.if-wants_all.false ∙ c.wants_all.ensures) ∙ sym (wanted_ids c.args.iface.now o call rows same))

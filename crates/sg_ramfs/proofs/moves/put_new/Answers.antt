-- The bytes are all that the new file has.
use Rattle.std.proofs.Common.{◌≡◌, None, refl, ◌∙◌, ap, subst}
use Rattle.sg_facts.specs.Invoke.{Points}
use Rattle.sg_facts.specs.Object.{over, set_file}
use Rattle.sg_ramfs.specs.Inside.RamfsDecision.{IsMoved}
use Rattle.sg_ramfs.specs.RamfsFiles.{files_of, place_at}
use Rattle.sg_ramfs.proofs.Indexing.{none_there}
use Rattle.sg_ramfs.proofs.Writing.{over_none}
use Rattle.sg_ramfs.proofs.moves.put_new.Goals as goal

pub returns-in-Done-clause-outcome : goal.returns-in-Done-clause-outcome
returns-in-Done-clause-outcome g c =
    let patch = c.args.patch in
    let files = files_of c.args.files.now in
    let before : Points = record { asked = g.T.Stops.asked c.args.stops.now; struck = g.T.Stops.struck c.args.stops.now } in
    let later : Points = record { asked = g.T.Stops.asked c.move_first.new.stops; struck = g.T.Stops.struck c.move_first.new.stops } in
    let none = none_there files patch.key (subst (λ p. place_at files p ≡ None) c.requires.path c.requires.new) in (
      subst (λ n. IsMoved c.args.tree.now c.args.id c.args.entry n before c.in-Done.reply c.move_first.new.tree later) c.len.ensures c.in-Done.ensures.outcome,
      refl,
      c.add.ensures.files ∙ ap (λ fs. set_file fs c.args.path c.in-Ok.bytes.items) c.prepare.ensures.files ∙ ap (λ p. set_file files p c.in-Ok.bytes.items) c.requires.path
          ∙ ap (set_file files patch.key) (c.in-Ok.ensures.items ∙ c.as_slice.ensures ∙ over_none patch.from patch.bytes c.requires.begins ∙ ap (λ b. over b patch.from patch.bytes) none),
    )

-- Halving finds the line, or none is there.
use Rattle.std.proofs.Common.{sym}
use Rattle.std.proofs.lemmas.Fn.{always_returns_same}
use Rattle.sg_facts.specs.Inside.Walking.{line_order}
use Rattle.sg_facts.proofs.Halving.{found, not_found, rises}
use Rattle.sg_facts.proofs.tables.walk_in.Goals as goal

pub returns-in-Ok : goal.returns-in-Ok
returns-in-Ok c =
    let lines = c.args.lines.now in
    let at = c.in-Ok.ensures.position (λ l. line_order l c.args.made c.args.state c.args.mask) (always_returns_same _ _ _ (λ a r f' k. (k.met.1, λ j. (k.met.0.0 j, k.met.0.1 j, k.met.0.2 j)))) in
    sym (found c.args.made c.args.state c.args.mask lines c.in-Ok.place c.index-lines-place.result c.requires c.in-Ok.ensures.bound (at c.index-lines-place.result))

pub returns-in-Err : goal.returns-in-Err
returns-in-Err c =
    let at = c.in-Err.ensures.position (λ l. line_order l c.args.made c.args.state c.args.mask) (always_returns_same _ _ _ (λ a r f' k. (k.met.1, λ j. (k.met.0.0 j, k.met.0.1 j, k.met.0.2 j)))) in
    sym (not_found c.args.made c.args.state c.args.mask c.args.lines.now c.in-Err.field-0 (at (rises c.args.made c.args.state c.args.mask c.args.lines.now c.requires)))

-- A part more of the row is added.
use Rattle.std.proofs.Common.{◌≡◌, arith, subst}
use Rattle.sg_explore.proofs.Adding.{adds_none, adds_row_part}
use Rattle.sg_explore.specs.Inside.Adding.{Adds}
use Rattle.sg_explore.specs.Inside.Jobs.{IsTriedOf}
use Rattle.sg_explore.specs.Inside.Stopping.{row_of}
use Rattle.sg_explore.specs.Inside.Sums.{sums_of}
use Rattle.sg_explore.proofs.exploring.explore_row.Goals as goal

pub parts-init : goal.parts-init
parts-init g c = record {
  within = omega arith;
  added = adds_none (IsTriedOf c.args.accepted.now g.S.Service.facts g.S.Service.ask g.S.Service.parts c.args.script.now c.args.plain.now) (sums_of c.args.tally.now);
}

pub parts-preserved : goal.parts-preserved
parts-preserved g c =
    let part = c.part-part in
    record {
      within = omega (arith, part.ensures.most);
      added = adds_row_part (IsTriedOf c.args.accepted.now g.S.Service.facts g.S.Service.ask g.S.Service.parts c.args.script.now c.args.plain.now)
          c.args.row.first part.result.first c.args.row.from part.result.from c.parts.done part.result.count (sums_of c.args.tally.now) (sums_of c.parts.tally) (sums_of c.add_outcomes.new.tally)
          part.ensures.first part.ensures.from_here c.parts.invariant.added c.in_ok-add_outcomes.ensures;
    }

pub returns : goal.returns
returns g c =
    let whole : c.parts.done ≡ c.args.row.count = omega (arith, c.parts.invariant.within, c.parts-test.false) in
    subst (λ n. Adds (IsTriedOf c.args.accepted.now g.S.Service.facts g.S.Service.ask g.S.Service.parts c.args.script.now c.args.plain.now) (row_of c.args.row.first c.args.row.from n) (sums_of c.args.tally.now) (sums_of c.parts.tally)) whole c.parts.invariant.added

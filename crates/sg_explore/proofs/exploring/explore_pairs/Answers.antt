-- A row more is added.
use Rattle.std.proofs.Common.{◌≡◌, ◌+◌, ◌-◌, arith, refl, subst}
use Rattle.std.specs.List.{flat_map, range_with_len}
use Rattle.std.specs.declared.option.Option.TheVariants.{Some}
use Rattle.sg_explore.proofs.Adding.{adds_none, adds_rows_one}
use Rattle.sg_explore.specs.Inside.Adding.{Adds}
use Rattle.sg_explore.specs.Inside.Jobs.{IsTriedOf}
use Rattle.sg_explore.specs.Inside.Stopping.{row_of}
use Rattle.sg_explore.specs.Inside.Sums.{sums_of}
use Rattle.sg_explore.proofs.exploring.explore_pairs.Goals as goal

pub firsts-init : goal.firsts-init
firsts-init g c =
    adds_none (IsTriedOf c.args.accepted.now g.S.Service.facts g.S.Service.ask g.S.Service.parts c.args.script.now c.args.plain.now) (sums_of c.args.tally.now)

pub firsts-preserved : goal.firsts-preserved
firsts-preserved g c =
    adds_rows_one (IsTriedOf c.args.accepted.now g.S.Service.facts g.S.Service.ask g.S.Service.parts c.args.script.now c.args.plain.now)
    c.args.most c.firsts.before (c.firsts.before + 1) (sums_of c.args.tally.now) (sums_of c.firsts.tally) (sums_of c.explore_row.new.tally) refl c.firsts.invariant c.in_ok-explore_row.ensures

pub returns : goal.returns
returns g c =
    let all : c.firsts.before ≡ c.args.firsts = omega arith in
    subst (λ n. Adds (IsTriedOf c.args.accepted.now g.S.Service.facts g.S.Service.ask g.S.Service.parts c.args.script.now c.args.plain.now)
    (flat_map (λ p. row_of (Some p) (p + 1) (c.args.most - p)) (range_with_len 1 n)) (sums_of c.args.tally.now) (sums_of c.firsts.tally)) all c.firsts.invariant

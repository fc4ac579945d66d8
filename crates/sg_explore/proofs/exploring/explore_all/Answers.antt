-- Each point alone is added, and then each two.
use Rattle.std.proofs.Common.{◌≡◌, ◌∙◌, ap, subst}
use Rattle.std.specs.List.{list_any}
use Rattle.std.specs.declared.option.Option.TheVariants.{None}
use Rattle.sg_facts.specs.Trace.{run_of}
use Rattle.sg_report.specs.sg_hist.Recovered.{is_blocked}
use Rattle.sg_explore.proofs.Adding.{adds_all}
use Rattle.sg_explore.specs.Inside.Adding.{Adds}
use Rattle.sg_explore.specs.Inside.Jobs.{IsTriedOf}
use Rattle.sg_explore.specs.Inside.Sums.{Sums, one_more, sums_from, sums_of}
use Rattle.sg_explore.specs.Tried.{stops_tried}
use Rattle.sg_explore.proofs.exploring.explore_all.Goals as goal

pub returns : goal.returns
returns g c =
    let plain = c.args.plain.now in
    let start : sums_of c.of-tally.result ≡ sums_from plain =
    c.of-tally.ensures ∙ ap (λ w. let s : Sums = record { runs = 1; stopped = 0; most = None; blocked = one_more w 0; differing = 0; first = None } in s)
    (c.is_waiting.ensures ∙ ap (list_any (λ e. is_blocked e.1)) c.as_slice.ensures) in
    subst (λ s. Adds (IsTriedOf c.args.accepted.now g.S.Service.facts g.S.Service.ask g.S.Service.parts c.args.script.now plain) (stops_tried (run_of plain.trace).points c.args.most) s (sums_of c.explore_pairs.new.tally)) start
    (adds_all (IsTriedOf c.args.accepted.now g.S.Service.facts g.S.Service.ask g.S.Service.parts c.args.script.now plain) plain.trace.points c.args.most c.min.result
    (sums_of c.of-tally.result) (sums_of c.explore_row.new.tally) (sums_of c.explore_pairs.new.tally) c.min.ensures c.in_ok-explore_row.ensures c.in_ok-explore_pairs.ensures)

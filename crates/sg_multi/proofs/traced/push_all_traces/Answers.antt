-- The numbers that are kept are those over all members.
use Rattle.std.proofs.Common.{◌≡◌, ◌++◌, OnOk, map, subst}
use Rattle.std.proofs.Math.Path.{fun_ext}
use Rattle.sg_multi.specs.Inside.Numbers.{number_by}
use Rattle.sg_multi.specs.Merged.{number_over_all}
use Rattle.sg_multi.specs.Report.{traces_lines}
use Rattle.sg_multi.proofs.traced.push_all_traces.Goals as goal

pub returns : goal.returns
returns c = λ merged merges.
    let same : number_by c.in_ok-numbers.numbers ≡ number_over_all merged
    = fun_ext (λ member. fun_ext (λ client. fun_ext (λ seq. c.in_ok-numbers.ensures merged merges member client seq))) in
    subst (λ f. OnOk c.push_traces.result (c.push_traces.new.out ≡ c.args.out.now ++ traces_lines f 1 (map (λ t. t.tables.iface.facts) c.args.services.now) c.args.members.now)) same
    c.push_traces.ensures

-- The line of a load is that of its run.
use Rattle.std.proofs.Common.{◌∙◌, ap}
use Rattle.sg_multi.specs.sg_facts.Facts.{Facts}
use Rattle.sg_load.specs.Services.{facts_by}
use Rattle.sg_verify.specs.sg_report.Report.{load_line_of}
use Rattle.sg_verify.specs.sg_report.sg_hist.declared.ended.Ended.{Ended}
use Rattle.sg_top.proofs.Running.{own_output}
use Rattle.sg_top.proofs.output.loaded.Goals as goal

pub returns : goal.returns
returns c =
    own_output c.args.service c.args.number c.in_ok-played.played c.output_of_run.result.ran c.output_of_run.result.status c.output_of_run.result.text
    c.in_ok-played.ensures.playable c.in_ok-played.ensures.run c.output_of_run.ensures.ran c.output_of_run.ensures.status
    (c.output_of_run.ensures.text ∙ c.in_ok-line.ensures
    ∙ ap (λ (f : Facts). load_line_of f.name c.args.number c.ended.result.now) c.shape.ensures
    ∙ ap (λ (e : Ended). load_line_of (facts_by c.args.service).name c.args.number e) c.ended.ensures)

-- The sign, and then the answer.
use Rattle.std.specs.Prelude.{codes}
use Rattle.std.proofs.lemmas.Result.{err_from_is_err_and}
use Rattle.sg_entries.specs.Inside.States.{answered, bytes}
use Rattle.sg_entries.specs.Inside.Reads.{read}
use Rattle.sg_entries.proofs.ByByte.{ends_along}
use Rattle.sg_entries.proofs.parser.answer_after.Goals as goal

pub returns-in_err-fixed : goal.returns-in_err-fixed
returns-in_err-fixed c =
    let p = err_from_is_err_and c.from_residual.result c.from_residual.ensures.1 in
    record { ends = λ k. rw (p.1, p.2) (λ ne. c.in_err-fixed.ensures.leads (answered c.args.shown k) ne) }

pub returns : goal.returns
returns c =
    let shown = c.args.shown in
    record {
      ends = λ k.
          ends_along (read (bytes (codes " = ") (answered shown k)) c.args.line.now) (read (answered shown k) c.fixed.new.line) c.answer.result k
          (c.in_ok-fixed.ensures.leads (answered shown k)) (c.answer.ensures.ends k);
    }

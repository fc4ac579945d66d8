-- The line ends, or a byte comes.
use Rattle.std.proofs.Common.{length, ap, sym, ◌∙◌, eqb-true}
use Rattle.std.specs.Prelude.{Err}
use Rattle.std.proofs.lemmas.List.{nil_from_length}
use Rattle.std.proofs.lemmas.Bool.{eqb-false}
use Rattle.sg_entries.proofs.ByByte.{end_came, end_missing}
use Rattle.sg_entries.proofs.pieces.end.Goals as goal

pub returns-then-is_empty : goal.returns-then-is_empty
returns-then-is_empty c =
    record { ends = λ e. end_came e c.args.line.now (sym c.rest.ensures ∙ nil_from_length c.rest.result.now (eqb-true (length c.rest.result.now) 0 (sym c.is_empty.ensures ∙ c.if-is_empty.true))) }

pub returns-else-is_empty : goal.returns-else-is_empty
returns-else-is_empty c =
    record {
      ends = λ e ne.
          end_missing e c.args.line.now (λ n. eqb-false (length c.rest.result.now) 0 (sym c.is_empty.ensures ∙ c.if-is_empty.false) (ap length (c.rest.ensures ∙ n)))
          ∙ ap Err (sym c.fault.ensures);
    }

-- What stands before the arguments, the arguments, and then the answer.
use Rattle.std.proofs.Common.{ℕ, Bool, List, map, ◌∙◌, ap, sym}
use Rattle.std.specs.Prelude.{codes}
use Rattle.std.proofs.lemmas.Result.{err_from_is_err_and}
use Rattle.sg_entries.specs.declared.tree.WrittenAnswer.{WrittenAnswer}
use Rattle.sg_entries.specs.declared.tree.WrittenEntry.{WrittenEntry}
use Rattle.sg_entries.specs.Entry.{shows_named}
use Rattle.sg_entries.specs.Inside.States.{answered, bytes, call_answer, entry_start}
use Rattle.sg_facts.specs.Facts.{facts_of}
use Rattle.sg_entries.specs.Inside.Reads.{read}
use Rattle.sg_entries.proofs.parser.entry_in.Goals as goal

pub returns-in_err-answer : goal.returns-in_err-answer
returns-in_err-answer c =
    let p = err_from_is_err_and c.from_residual-in_err-answer.result c.from_residual-in_err-answer.ensures.1 in
    let front = c.in_ok-front.front in
    let shows : List ℕ → Bool = shows_named (map facts_of c.args.shapes.now) c.args.iface.now in
    let end : WrittenAnswer → WrittenEntry =
    λ answer. record { client = front.client; seq = front.seq; name = front.name; args = c.in_ok-args.args; answer = answer } in
    record {
      ends = rw (p.1, p.2) (λ ne.
          ap (read (entry_start shows)) (sym c.new-line.ensures) ∙ c.in_ok-front.ensures.leads
          ∙ c.in_ok-args.ensures.leads (call_answer shows front.client front.seq front.name)
          ∙ ap (λ shown. read (bytes (codes " = ") (answered shown end)) c.bracketed.new.line) (sym c.in_ok-front.ensures.shown)
          ∙ c.in_err-answer.ensures.ends end ne);
    }

pub returns : goal.returns
returns c =
    let front = c.in_ok-front.front in
    let shows : List ℕ → Bool = shows_named (map facts_of c.args.shapes.now) c.args.iface.now in
    let end : WrittenAnswer → WrittenEntry =
    λ answer. record { client = front.client; seq = front.seq; name = front.name; args = c.in_ok-args.args; answer = answer } in
    record {
      ends =
          ap (read (entry_start shows)) (sym c.new-line.ensures) ∙ c.in_ok-front.ensures.leads
          ∙ c.in_ok-args.ensures.leads (call_answer shows front.client front.seq front.name)
          ∙ ap (λ shown. read (bytes (codes " = ") (answered shown end)) c.bracketed.new.line) (sym c.in_ok-front.ensures.shown)
          ∙ c.in_ok-answer.ensures.ends end;
    }

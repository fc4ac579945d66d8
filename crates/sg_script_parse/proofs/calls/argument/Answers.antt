-- A `$`, and then the number.
use Rattle.std.proofs.Common.{◌≡◌, ◌∙◌}
use Rattle.std.proofs.lemmas.Result.{err_from_is_err_and}
use Rattle.sg_script_parse.specs.declared.tree.WrittenArg.TheVariants.{Back}
use Rattle.sg_lex.specs.Inside.Tests.{is_this_mark}
use Rattle.sg_lex.specs.Inside.Ahead.{Came, Off}
use Rattle.sg_script_parse.proofs.ByToken.{dollar_came}
use Rattle.sg_lex.proofs.Chains.{on_true}
use Rattle.sg_lex.specs.Inside.Marks.{dollar_byte}
use Rattle.sg_script_parse.proofs.calls.argument.Goals as goal

pub returns-in_err-number-clause-leads : goal.returns-in_err-number-clause-leads
returns-in_err-number-clause-leads c = λ k.
    let p = err_from_is_err_and c.from_residual-in_err-number.result c.from_residual-in_err-number.ensures.1 in
    let old = c.args.reader.now in
    let new = c.take_mark.new.reader in
    let came = on_true (Came (is_this_mark dollar_byte) old.rest new.rest) ((new ≡ old) × Off (is_this_mark dollar_byte) old.rest) c.in_ok-take_mark.field-0 c.in_ok-take_mark.ensures.mark c.if-branch.true in
    rw (p.1, p.2) (λ ne.
    dollar_came k old new came c.in_ok-take_mark.ensures.end ∙ c.in_err-number.ensures.leads (λ n. k (Back n)) ne)

pub returns-then-branch-clause-leads : goal.returns-then-branch-clause-leads
returns-then-branch-clause-leads c = λ k.
    let old = c.args.reader.now in
    let new = c.take_mark.new.reader in
    let came = on_true (Came (is_this_mark dollar_byte) old.rest new.rest) ((new ≡ old) × Off (is_this_mark dollar_byte) old.rest) c.in_ok-take_mark.field-0 c.in_ok-take_mark.ensures.mark c.if-branch.true in
    dollar_came k old new came c.in_ok-take_mark.ensures.end ∙ c.in_ok-number.ensures.leads (λ n. k (Back n))

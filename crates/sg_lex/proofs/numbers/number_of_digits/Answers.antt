-- Digit by digit.
use Rattle.std.proofs.Common.{sym, ◌∙◌, ap}
use Rattle.std.proofs.lemmas.List.{at_drop_all}
use Rattle.sg_lex.specs.Numbers.{bounded}
use Rattle.sg_lex.proofs.Digits.{after, fits_some, is_bounded, one_more, stays_above}
use Rattle.sg_lex.proofs.numbers.number_of_digits.Goals as goal

pub returns-in_err-value : goal.returns-in_err-value
returns-in_err-value c = c.from_residual.ensures ∙ stays_above c.args.digits.now c.digits.digit-index c.digits.value c.digits-test.true (sym c.in_err-value.was ∙ c.with_digit.ensures) c.digits.invariant.same

pub digits-preserved : goal.digits-preserved
digits-preserved c = record {
  fits = fits_some _ _ (sym c.in_ok-value.was ∙ c.with_digit.ensures);
  same = one_more c.args.digits.now c.digits.digit-index c.digits.value c.digits-test.true c.in_ok-value.value (sym c.in_ok-value.was ∙ c.with_digit.ensures) c.digits.invariant.same;
}

pub returns : goal.returns
returns c = is_bounded c.digits.value c.digits.invariant.fits ∙ ap bounded (sym (at_drop_all (after c.digits.value) c.args.digits.now c.digits.digit-index c.digits-test.false)) ∙ c.digits.invariant.same

-- Digits are parsed as the number that they stand for.
use Rattle.std.proofs.Common.{◌∙◌, ap, sym}
use Rattle.std.specs.List.{list_all}
use Rattle.std.specs.Char.{is_ascii_digit}
use Rattle.sg_top.proofs.Digits.{no_number, number_is}
use Rattle.sg_top.proofs.command.number_of.Goals as goal

pub returns-then-not-are_digits : goal.returns-then-not-are_digits
returns-then-not-are_digits c = λ number are. no_number c.args.word.now number (ap (list_all is_ascii_digit) (sym c.as_bytes.ensures.value) ∙ sym c.are_digits.ensures ∙ c.if-not-are_digits.true) are

pub returns : goal.returns
returns c = number_is c.args.word.now c.parse.result c.ok.result (ap (list_all is_ascii_digit) (sym c.as_bytes.ensures.value) ∙ sym c.are_digits.ensures ∙ c.if-not-are_digits.false) c.parse.ensures.value.0 c.ok.ensures.value

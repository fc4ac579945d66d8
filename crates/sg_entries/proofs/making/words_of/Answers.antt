-- A word that can't be made is the first of its kind.
use Rattle.std.proofs.Common.{map}
use Rattle.std.specs.List.{flat_map}
use Rattle.sg_entries.proofs.Made.{not_made, passed}
use Rattle.sg_entries.specs.Inside.Flaws.{word_flaws}
use Rattle.sg_entries.specs.Inside.Making.{IsMade}
use Rattle.sg_entries.specs.Standing.{number_of}
use Rattle.sg_entries.proofs.making.words_of.Goals as goal

pub returns-in_err-word_of : goal.returns-in_err-word_of
returns-in_err-word_of c =
    let numbers = c.args.numbers.now in
    passed (IsMade (flat_map word_flaws numbers) (map number_of numbers)) c.from_residual-in_err-word_of.result c.in_err-word_of.field-0.0 c.from_residual-in_err-word_of.ensures.1
    (not_made word_flaws numbers c.each.number-index c.number-item.result (number_of c.number-item.result) (map number_of numbers) c.in_err-word_of.field-0.0
    c.each-test.true c.number-item.is c.each.invariant.flawless c.in_err-word_of.ensures)

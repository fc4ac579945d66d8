-- Nothing is wrong with the words so far, and they are made.
use Rattle.std.proofs.Common.{◌≡◌, [], take, map}
use Rattle.std.specs.List.{flat_map}
use Rattle.sg_entries.specs.Inside.Flaws.{word_flaws}
use Rattle.sg_entries.specs.Standing.{number_of}
use Rattle.sg_entries.proofs.making.words_of.Given as goal

abbrev pub invariant-each : goal.invariant-each
invariant-each l = record {
  flawless : flat_map word_flaws (take l.number-index l.numbers) ≡ [];
  made : l.made.items ≡ map number_of (take l.number-index l.numbers);
}

-- What the digits that are left make of the value so far.
use Rattle.std.proofs.Common.{◌≡◌, ◌≤◌, ◌+◌, ◌*◌, ◌-◌, drop}
use Rattle.std.specs.List.{fold}
use Rattle.sg_base.specs.Counts.{last_count}
use Rattle.sg_lex.specs.Numbers.{bounded, value_of_digits}
use Rattle.sg_lex.proofs.numbers.number_of_digits.Given as goal

abbrev pub invariant-digits : goal.invariant-digits
invariant-digits l = record {
  fits : l.value ≤ last_count;
  same : bounded (fold (λ a d. 10 * a + (d - 48)) l.value (drop l.digit-index l.digits)) ≡ bounded (value_of_digits l.digits);
}

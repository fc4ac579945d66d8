-- A space, and what comes after it.
use Rattle.std.proofs.Common.{◌≡◌, false, sym, subst}
use Rattle.sg_lex.proofs.Chains.{on_true}
use Rattle.sg_entries.specs.Inside.Ahead.{Came, Off}
use Rattle.sg_entries.specs.Inside.States.{given, spaced_rest}
use Rattle.sg_entries.specs.Inside.Reads.{read, Ends}
use Rattle.sg_entries.proofs.ByByte.{something_given, ends_along}
use Rattle.sg_entries.proofs.answer.given.Goals as goal

pub returns-then-take_byte : goal.returns-then-take_byte
returns-then-take_byte c =
    let old = c.args.line.now in
    let new = c.take_byte.new.self in
    let came = on_true (Came 0x20 old new) ((new ≡ old) × Off 0x20 old.rest) c.take_byte.result c.take_byte.ensures c.if-take_byte.true in
    record {
      ends = λ k.
          subst (λ b. Ends (read (given b k) old) c.given_something.result k) (sym c.if-shown.false)
          (ends_along (read (given false k) old) (read (spaced_rest k) new) c.given_something.result k (something_given k old new came) (c.given_something.ensures.ends k));
    }

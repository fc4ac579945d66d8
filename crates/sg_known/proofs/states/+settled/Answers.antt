-- None has gone, or some have and there are fewer.
use Rattle.std.proofs.Common.{◌<◌, length, filter, ◌∙◌, sym, ap, rules, arith}
use Rattle.sg_described.specs.sg_facts.Facts.{facts_of}
use Rattle.sg_described.specs.NeverZero.{keeps_some}
use Rattle.sg_known.proofs.Settling.{fewer_left, none_gone, some_gone}
use Rattle.sg_known.proofs.states.+settled.Goals as goal

pub returns-then-len : goal.returns-then-len
returns-then-len t c = λ n few. none_gone (facts_of c.args.shape.now) c.args.field c.args.states c.in_ok-left.left n
    (c.in_ok-left.ensures ∙ ap (λ l. filter (keeps_some (facts_of c.args.shape.now) c.args.field l) l) c.as_slice.ensures) (sym c.len.ensures ∙ c.if-len.true ∙ c.len-2.ensures)

pub settled-requires : goal.settled-requires
settled-requires t c =
    let low = fewer_left (facts_of c.args.shape.now) c.args.field c.args.states c.in_ok-left.left
    (c.in_ok-left.ensures ∙ ap (λ l. filter (keeps_some (facts_of c.args.shape.now) c.args.field l) l) c.as_slice.ensures) in
    let apart = c.if-len.false in
    let one = c.len.ensures in
    let two = c.len-2.ensures in
    let fewer : length c.in_ok-left.left < length c.args.states = omega (arith, low, apart, one, two) in
    search (rules, fewer)

pub returns : goal.returns
returns t c = λ n few.
    let is = c.in_ok-left.ensures ∙ ap (λ l. filter (keeps_some (facts_of c.args.shape.now) c.args.field l) l) c.as_slice.ensures in
    let low = fewer_left (facts_of c.args.shape.now) c.args.field c.args.states c.in_ok-left.left is in
    let apart = c.if-len.false in
    let one = c.len.ensures in
    let two = c.len-2.ensures in
    let fewer : length c.in_ok-left.left < length c.args.states = omega (arith, low, apart, one, two) in
    some_gone (facts_of c.args.shape.now) c.args.field c.args.states c.in_ok-left.left c.in_ok-settled.field-0 n is fewer few c.in_ok-settled.ensures

-- Number by number.
use Rattle.std.proofs.Common.{◌≡◌, arith}
use Rattle.sg_facts.specs.Facts.{facts_of}
use Rattle.sg_print.specs.Inside.Pieces.{pairs_from}
use Rattle.sg_print.proofs.Numbers.{all_stand, one_more}
use Rattle.sg_print.proofs.tables.put_pairs.Goals as goal

pub firsts-preserved : goal.firsts-preserved
firsts-preserved c =
    one_more (pairs_from c.args.word.now (facts_of c.args.shape.now).funs c.args.pairs.now) c.args.out.now c.firsts.out c.put_pairs_after.new.out c.firsts.first
    c.firsts.auto.first c.firsts.invariant c.in_ok-put_pairs_after.ensures

pub returns : goal.returns
returns c =
    let end : c.firsts.first ≡ 33 = omega (arith, c.firsts-test.false, c.firsts.auto.first-end) in
    all_stand _ c.args.out.now c.firsts.out c.firsts.first end c.firsts.invariant

-- Number by number.
use Rattle.std.proofs.Common.{◌≡◌, ℕ, [], ◌++◌, List, sym, ◌∙◌, ap, arith}
use Rattle.std.specs.Prelude.{if◌then◌else◌}
use Rattle.sg_facts.specs.Facts.{facts_of}
use Rattle.sg_facts.specs.Interface.{has_pair}
use Rattle.sg_print.specs.Inside.Pieces.{pair_line}
use Rattle.sg_print.proofs.Numbers.{all_stand, not_there, one_more, there}
use Rattle.sg_print.proofs.tables.put_pairs_after.Goals.{then-has_pair+in_ok-put_pair, else-has_pair}
use Rattle.sg_print.proofs.tables.put_pairs_after.Goals as goal

pub seconds-preserved : goal.seconds-preserved
seconds-preserved c =
    let funs = (facts_of c.args.shape.now).funs in
    let line : ℕ → List ℕ = λ b. pair_line c.args.word.now funs c.args.first b in
    let part : ℕ → List ℕ = λ b. if has_pair c.args.pairs.now c.args.first b then line b else [] in
    let n = c.seconds.second in
    elim c.if-has_pair.branch [
      | then-has_pair+in_ok-put_pair w ↦ one_more part c.args.out.now c.seconds.out c.if-has_pair.out n c.seconds.auto.second c.seconds.invariant
          (w.out-is ∙ w.in_ok-put_pair.ensures ∙ ap (λ l. c.seconds.out ++ l) (there (has_pair c.args.pairs.now c.args.first n) (line n) (sym c.has_pair.ensures ∙ w.if-has_pair.true)))
      | else-has_pair w ↦ one_more part c.args.out.now c.seconds.out c.if-has_pair.out n c.seconds.auto.second c.seconds.invariant
          (w.out-is ∙ not_there (has_pair c.args.pairs.now c.args.first n) (line n) c.seconds.out (sym c.has_pair.ensures ∙ w.if-has_pair.false))
    ]

pub returns : goal.returns
returns c =
    let end : c.seconds.second ≡ 33 = omega (arith, c.seconds-test.false, c.seconds.auto.second-end) in
    all_stand _ c.args.out.now c.seconds.out c.seconds.second end c.seconds.invariant

use Rattle.std.proofs.Common.{◌≡◌, ◌-◌, ◌≤◌, length, drop, arith, ◌∙◌}
use Rattle.std.proofs.lemmas.List.{take_rest, length-drop}
use Rattle.sg_lex.specs.declared.front.Front.TheVariants.{Gap}
use Rattle.sg_lex.specs.Fronts.{front_of}
use Rattle.sg_lex.proofs.Steps.{gap_passed, gap_has_bytes}
use Rattle.sg_lex.proofs.lexer.after_gaps.Goals as goal

pub gaps-smaller : goal.gaps-smaller
gaps-smaller c =
    let f : Gap c.in-Gap.len ≡ front_of (drop c.gaps.at c.args.text.now) = rw take_rest at c.in-Gap.ensures.value in
    let some : 1 ≤ c.in-Gap.len = gap_has_bytes c.in-Gap.len (drop c.gaps.at c.args.text.now) f in
    let fits : c.in-Gap.len ≤ length c.args.text.now - c.gaps.at = rw (take_rest, length-drop) at c.in-Gap.ensures.within in
    omega arith

pub gaps-preserved : goal.gaps-preserved
gaps-preserved c =
    let f : Gap c.in-Gap.len ≡ front_of (drop c.gaps.at c.args.text.now) = rw take_rest at c.in-Gap.ensures.value in
    let fits : c.in-Gap.len ≤ length c.args.text.now - c.gaps.at = rw (take_rest, length-drop) at c.in-Gap.ensures.within in
    record {
      within = omega arith;
      answers = gap_passed c.gaps.at c.in-Gap.len c.args.text.now f ∙ c.gaps.invariant.answers;
    }

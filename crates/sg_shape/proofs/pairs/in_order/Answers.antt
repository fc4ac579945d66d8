-- Number by number.
use Rattle.std.proofs.Common.{◌≡◌, ℕ, ◌+◌, List, ◌++◌, map, rules, sym, ◌∙◌, ap, arith}
use Rattle.std.specs.Prelude.{filter}
use Rattle.std.specs.List.{flat_map, range_with_len}
use Rattle.sg_check_statements.specs.sg_facts.Interface.{has_pair}
use Rattle.sg_shape.specs.ShapeOfText.{in_order}
use Rattle.sg_shape.proofs.Steps.{rows_more}
use Rattle.sg_shape.proofs.pairs.in_order.Goals as goal

pub firsts-preserved : goal.firsts-preserved
firsts-preserved c =
    let row : List (ℕ × ℕ) = filter (λ (p : ℕ × ℕ). has_pair c.args.named.now p.0 p.1) (map (λ b. (c.firsts.before + 1, b)) (range_with_len 1 c.args.count)) in
    c.in_ok-add_pairs.ensures ∙ ap (λ l. l ++ row) c.firsts.invariant ∙ sym (rows_more c.args.named.now c.args.count c.firsts.before)

pub returns : goal.returns
returns c =
    let last : c.firsts.before ≡ c.args.count = omega arith in
    let all : c.firsts.pairs.items ≡ in_order c.args.named.now c.args.count =
    c.firsts.invariant
    ∙ ap (λ n. filter (λ (p : ℕ × ℕ). has_pair c.args.named.now p.0 p.1) (flat_map (λ a. map (λ b. (a, b)) (range_with_len 1 c.args.count)) (range_with_len 1 n))) last in
    search rules

-- Number by number.
use Rattle.std.proofs.Common.{◌≡◌, ℕ, ◌+◌, List, [], ◌∷◌, ◌++◌, map, sym, ◌∙◌, ap, append_assoc, arith}
use Rattle.std.specs.Prelude.{filter, if◌then◌else◌}
use Rattle.std.specs.List.{range_with_len}
use Rattle.sg_check_statements.specs.sg_facts.Interface.{has_pair}
use Rattle.sg_shape.proofs.Steps.{row_more}
use Rattle.sg_shape.proofs.pairs.add_pairs.Goals as goal

pub seconds-preserved : goal.seconds-preserved
seconds-preserved c =
    let base : List (ℕ × ℕ) = c.args.pairs.now.items in
    let before : List (ℕ × ℕ) = filter (λ (p : ℕ × ℕ). has_pair c.args.named.now p.0 p.1) (map (λ b. (c.args.first, b)) (range_with_len 1 c.seconds.before)) in
    let own : List (ℕ × ℕ) = if has_pair c.args.named.now c.args.first (c.seconds.before + 1) then (c.args.first, c.seconds.before + 1) ∷ [] else [] in
    c.in_ok-add_pair.ensures ∙ ap (λ l. l ++ own) c.seconds.invariant ∙ append_assoc base before own
    ∙ ap (λ l. base ++ l) (sym (row_more c.args.named.now c.args.first c.seconds.before))

pub returns : goal.returns
returns c =
    let last : c.seconds.before ≡ c.args.count = omega arith in
    c.seconds.invariant ∙ ap (λ n. c.args.pairs.now.items ++ filter (λ (p : ℕ × ℕ). has_pair c.args.named.now p.0 p.1) (map (λ b. (c.args.first, b)) (range_with_len 1 n))) last

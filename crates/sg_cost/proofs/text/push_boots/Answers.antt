-- A boot more is printed under the next number.
use Rattle.std.proofs.Common.{◌≡◌, ◌+◌, ◌++◌, length, take, sym, ◌∙◌, ap, append_assoc, arith}
use Rattle.std.specs.Prelude.{slice_index_or}
use Rattle.std.proofs.lemmas.List.{length-take-le, take_more}
use Rattle.sg_cost.proofs.BootLines.{boot_lines_more}
use Rattle.sg_cost.specs.Lines.{boot_lines}
use Rattle.sg_cost.specs.Inside.Pieces.{boot_line}
use Rattle.sg_cost.specs.declared.costs.BootCost.{BootCost}
use Rattle.sg_cost.proofs.text.push_boots.Goals as goal

pub boots-preserved : goal.boots-preserved
boots-preserved c =
    let costs = c.args.costs.now in
    let n = c.boots.at in
    let d : BootCost = record { walks = 0; bound = 0 } in
    let one = slice_index_or costs n d in
    let test = c.boots-test.true in
    let front = length-take-le n costs (omega (arith, test)) in
    let count : 1 + length (take n costs) ≡ n + 1 = omega (arith, front) in
    let next : boot_lines 1 (take (n + 1) costs) ≡ boot_lines 1 (take n costs) ++ boot_line (n + 1) one
    = ap (boot_lines 1) (take_more costs n d test) ∙ boot_lines_more 1 (take n costs) one ∙ ap (λ k. boot_lines 1 (take n costs) ++ boot_line k one) count in
    c.in_ok-push_boot.ensures ∙ ap (λ v. v ++ boot_line (n + 1) one) c.boots.invariant
    ∙ append_assoc c.args.out.now (boot_lines 1 (take n costs)) (boot_line (n + 1) one) ∙ ap (λ v. c.args.out.now ++ v) (sym next)

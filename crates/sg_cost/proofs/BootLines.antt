-- A boot is printed after others.
use Rattle.std.proofs.Common.{◌≡◌, ℕ, ◌+◌, List, [], ◌∷◌, ◌++◌, length, sym, ◌∙◌, ap, append-nil, append_assoc, arith}
use Rattle.sg_cost.specs.Lines.{boot_lines}
use Rattle.sg_cost.specs.Inside.Pieces.{boot_line}
use Rattle.sg_cost.specs.declared.costs.BootCost.{BootCost}

pub boot_lines_more : (n : ℕ) (costs : List BootCost) (c : BootCost) → boot_lines n (costs ++ c ∷ []) ≡ boot_lines n costs ++ boot_line (n + length costs) c
boot_lines_more n [] c =
    let e : n ≡ n + 0 = omega arith in
    append-nil (boot_line n c) ∙ ap (λ k. boot_line k c) e
boot_lines_more n (x ∷ costs) c =
    let e : n + 1 + length costs ≡ n + length (x ∷ costs) = omega arith in
    ap (λ v. boot_line n x ++ v) (boot_lines_more (n + 1) costs c)
    ∙ ap (λ k. boot_line n x ++ (boot_lines (n + 1) costs ++ boot_line k c)) e
    ∙ sym (append_assoc (boot_line n x) (boot_lines (n + 1) costs) (boot_line (n + length (x ∷ costs)) c))

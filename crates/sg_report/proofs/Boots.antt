-- A boot is printed after others.
use Rattle.std.proofs.Common.{◌≡◌, ℕ, ◌+◌, List, [], ◌∷◌, ◌++◌, length, sym, ◌∙◌, ap, append-nil, append_assoc, arith}
use Rattle.sg_facts.specs.Facts.{Facts}
use Rattle.sg_facts.specs.Trace.{Boot}
use Rattle.sg_report.specs.Report.{boots_lines}
use Rattle.sg_report.specs.Inside.Pieces.{boot_lines}

pub boots_push : (facts : Facts) (n : ℕ) (bs : List Boot) (b : Boot) → boots_lines facts n (bs ++ b ∷ []) ≡ boots_lines facts n bs ++ boot_lines facts (n + length bs) b
boots_push facts n [] b =
    let e : n ≡ n + 0 = omega arith in
    append-nil (boot_lines facts n b) ∙ ap (λ k. boot_lines facts k b) e
boots_push facts n (x ∷ bs) b =
    let e : n + 1 + length bs ≡ n + length (x ∷ bs) = omega arith in
    ap (λ v. boot_lines facts n x ++ v) (boots_push facts (n + 1) bs b)
    ∙ ap (λ k. boot_lines facts n x ++ (boots_lines facts (n + 1) bs ++ boot_lines facts k b)) e
    ∙ sym (append_assoc (boot_lines facts n x) (boots_lines facts (n + 1) bs) (boot_lines facts (n + length (x ∷ bs)) b))

-- A boot more is printed under the next number.
use Rattle.std.proofs.Common.{◌≡◌, ◌+◌, ◌++◌, [], ◌∷◌, ℕ, List, length, map, take, sym, ◌∙◌, ap, append_assoc, arith}
use Rattle.std.proofs.lemmas.List.{length-map, length-take, map-append, take_more}
use Rattle.sg_facts.specs.declared.trace.BootLog.{BootLog}
use Rattle.sg_facts.specs.Trace.{Boot}
use Rattle.sg_facts.specs.Inside.Rows.{boot_of}
use Rattle.sg_report.proofs.Boots.{boots_push}
use Rattle.sg_report.specs.Report.{boots_lines}
use Rattle.sg_report.specs.Inside.Pieces.{boot_lines}
use Rattle.sg_multi.specs.Inside.Numbers.{number_by}
use Rattle.sg_multi.specs.Report.{renumbered_boot}
use Rattle.sg_multi.proofs.traced.push_boots.Goals as goal

pub boots-preserved : goal.boots-preserved
boots-preserved c =
    let facts = c.args.iface.now.facts in
    let boots : List BootLog = c.args.boots.now in
    let n : ℕ = c.boots.at in
    let b : BootLog = c.index-boots-at.result in
    let shown : BootLog → Boot = λ log. renumbered_boot (number_by c.args.numbers.now c.args.member) (boot_of log) in
    let all : List BootLog → List Boot = λ logs. map (renumbered_boot (number_by c.args.numbers.now c.args.member)) (map boot_of logs) in
    let before : List Boot = all (take n boots) in
    let more : take (n + 1) boots ≡ take n boots ++ b ∷ []
    = take_more boots n b c.boots-test.true ∙ ap (λ x. take n boots ++ x ∷ []) (sym c.index-boots-at.is) in
    let count : 1 + length before ≡ n + 1
    = grind (arith, length-map (map boot_of (take n boots)) (renumbered_boot (number_by c.args.numbers.now c.args.member)), length-map (take n boots) boot_of, length-take n boots, c.boots-test.true) in
    let next : boots_lines facts 1 (all (take (n + 1) boots)) ≡ boots_lines facts 1 before ++ boot_lines facts (n + 1) (shown b)
    = ap (λ v. boots_lines facts 1 (all v)) more
    ∙ ap (λ v. boots_lines facts 1 (map (renumbered_boot (number_by c.args.numbers.now c.args.member)) v)) (map-append boot_of (take n boots) (b ∷ []))
    ∙ ap (boots_lines facts 1) (map-append (renumbered_boot (number_by c.args.numbers.now c.args.member)) (map boot_of (take n boots)) (boot_of b ∷ []))
    ∙ boots_push facts 1 before (shown b) ∙ ap (λ k. boots_lines facts 1 before ++ boot_lines facts k (shown b)) count in
    c.in_ok-push_boot.ensures ∙ ap (λ v. v ++ boot_lines facts (n + 1) (shown b)) c.boots.invariant
    ∙ append_assoc c.args.out.now (boots_lines facts 1 before) (boot_lines facts (n + 1) (shown b)) ∙ ap (λ v. c.args.out.now ++ v) (sym next)

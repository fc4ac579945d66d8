-- A boot more is noted.
use Rattle.std.proofs.Common.{◌≡◌, ◌+◌, List, [], ◌∷◌, ◌++◌, cond, length, map, sym, ◌∙◌, ap, take, arith}
use Rattle.std.proofs.lemmas.List.{length-map, length-take-le, map-append}
use Rattle.sg_cost.proofs.Indexed.{one_more}
use Rattle.sg_cost.proofs.LastBoots.{last_boot_more}
use Rattle.sg_cost.specs.Inside.LastBoots.{has_call, last_boot}
use Rattle.sg_facts.specs.Trace.{Boot}
use Rattle.sg_facts.specs.Inside.Rows.{boot_of}
use Rattle.sg_cost.proofs.last_boots.last_boots.Goals as goal

pub boots-preserved : goal.boots-preserved
boots-preserved c = λ client seq.
    let boots = c.args.boots.now in
    let n = c.boots.at in
    let b = c.index-boots-at.result in
    let before : List Boot = map boot_of (take n boots) in
    let test = c.boots-test.true in
    let front = length-take-le n boots (omega (arith, test)) in
    let count : n + 1 ≡ length before + 1 = ap (λ k. k + 1) (sym (length-map (take n boots) boot_of ∙ front)) in
    let more : map boot_of (take (n + 1) boots) ≡ before ++ boot_of b ∷ [] = ap (map boot_of) (one_more boots n b test c.index-boots-at.is) ∙ map-append boot_of (take n boots) (b ∷ []) in
    c.in_ok-note_boot.ensures client seq
    ∙ ap (λ old. cond (has_call client seq (boot_of b).items) (n + 1) old) (c.boots.invariant client seq)
    ∙ ap (λ k. cond (has_call client seq (boot_of b).items) k (last_boot before client seq)) count
    ∙ sym (ap (λ bs. last_boot bs client seq) more ∙ last_boot_more before (boot_of b) client seq)

-- Each row gives its id.
use Rattle.std.proofs.Common.{◌≡◌, ◌+◌, ◌<◌, List, [], ◌∷◌, ◌++◌, length, map, take, refl, sym, ◌∙◌, ap, arith}
use Rattle.std.specs.Map.{values_of}
use Rattle.std.proofs.lemmas.List.{take_more}
use Rattle.std.proofs.lemmas.Map.Entries.{length-values_of}
use Rattle.sg_track.specs.declared.kept.Kept.{Kept}
use Rattle.sg_track.specs.Kept.{rows_of}
use Rattle.sg_track.proofs.Entries.{read_any}
use Rattle.sg_track.proofs.places.ids_in.Goals as goal

ids_more : (kept : List Kept) (one : Kept) → map (λ r. r.id) (rows_of (kept ++ one ∷ [])) ≡ map (λ r. r.id) (rows_of kept) ++ one.row.id ∷ []
ids_more [] one = refl
ids_more (k ∷ kept) one = ap (λ l. k.row.id ∷ l) (ids_more kept one)

pub rows-preserved : goal.rows-preserved
rows-preserved c =
    let kept = values_of c.args.kept.now.entries in
    let one = c.index.result.now in
    let at = c.rows.at in
    let within : at < length kept = omega (arith, c.rows-test.true, c.len-at-end.ensures.len, length-values_of c.args.kept.now.entries) in
    let further : take (at + 1) kept ≡ take at kept ++ one ∷ [] = take_more kept at one within ∙ ap (λ k. take at kept ++ k ∷ []) (sym (read_any kept at one one c.index.ensures)) in
    c.in_ok-push.ensures.ok ∙ ap (λ l. l ++ one.row.id ∷ []) c.rows.invariant ∙ sym (ap (λ l. map (λ r. r.id) (rows_of l)) further ∙ ids_more (take at kept) one)

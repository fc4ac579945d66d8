-- A row ends with its parent.
use Rattle.std.proofs.Common.{◌≡◌, ◌<◌, ap, arith, false, sym, subst, get_or}
use Rattle.std.specs.Prelude.{nat_lt, not}
use Rattle.std.specs.Map.{values_of}
use Rattle.std.proofs.lemmas.Bool.Decides.{nat_tests}
use Rattle.std.proofs.lemmas.Map.Entries.{length-values_of}
use Rattle.sg_track.specs.declared.kept.Kept.{Kept}
use Rattle.sg_track.specs.Kept.{TellsAt}
use Rattle.sg_track.proofs.Ascending.{same_test}
use Rattle.sg_track.proofs.Ends.{lower_at, tells_below, tells_child, tells_earlier, tells_orphan, tells_root}
use Rattle.sg_track.proofs.Entries.{read_any}
use Rattle.sg_track.proofs.subtree.ends_below.Goals as goal

pub returns-then-row-id-2 : goal.returns-then-row-id-2
returns-then-row-id-2 c =
    let kept = values_of c.args.kept.now.entries in
    let row = c.index.result.now.row in
    let is : (d : Kept) → row ≡ (get_or kept c.args.at d).row = λ d. ap (λ x. x.row) (read_any kept c.args.at d c.index.result.now c.index.ensures) in
    let within = subst (λ n. c.args.at < n) (sym (length-values_of c.args.kept.now.entries)) c.requires.within in
    let at = tells_child c.requires.ascends.most kept c.requires.ascends.tracked c.args.at c.args.id within row is in
    subst (TellsAt c.args.id kept c.args.at) (sym (same_test row.parent c.args.id c.if-row-id-2.true)) (at c.if-row-id.false c.if-row-ne0.true c.if-row-id-2.true)

pub returns-in-Some : goal.returns-in-Some
returns-in-Some c =
    let kept = values_of c.args.kept.now.entries in
    let row = c.index.result.now.row in
    let is : (d : Kept) → row ≡ (get_or kept c.args.at d).row = λ d. ap (λ x. x.row) (read_any kept c.args.at d c.index.result.now c.index.ensures) in
    let within = subst (λ n. c.args.at < n) (sym (length-values_of c.args.kept.now.entries)) c.requires.within in
    let parent = c.index-in-Some.result.now in
    let at = tells_below c.requires.ascends.most kept c.requires.ascends.tracked c.args.at c.args.id within row is in
    let lower = subst (λ r. r.parent < r.id) (sym (is parent)) (lower_at 0 c.requires.ascends.most kept c.args.at parent c.requires.ascends.tracked within) in
    at c.if-row-id.false c.if-row-ne0.true c.in-Some.place parent c.in-Some.ensures (read_any kept c.in-Some.place parent parent c.index-in-Some.ensures) lower c.if-id-row.true c.requires.before

pub returns-in-None : goal.returns-in-None
returns-in-None c =
    let kept = values_of c.args.kept.now.entries in
    let row = c.index.result.now.row in
    let is : (d : Kept) → row ≡ (get_or kept c.args.at d).row = λ d. ap (λ x. x.row) (read_any kept c.args.at d c.index.result.now c.index.ensures) in
    let within = subst (λ n. c.args.at < n) (sym (length-values_of c.args.kept.now.entries)) c.requires.within in
    let at = tells_orphan c.requires.ascends.most kept c.requires.ascends.tracked c.args.at c.args.id within row is in
    at c.if-row-id.false c.if-row-ne0.true c.if-row-id-2.false c.in-None.ensures

pub returns-else-id-row : goal.returns-else-id-row
returns-else-id-row c =
    let kept = values_of c.args.kept.now.entries in
    let row = c.index.result.now.row in
    let is : (d : Kept) → row ≡ (get_or kept c.args.at d).row = λ d. ap (λ x. x.row) (read_any kept c.args.at d c.index.result.now c.index.ensures) in
    let within = subst (λ n. c.args.at < n) (sym (length-values_of c.args.kept.now.entries)) c.requires.within in
    let at = tells_earlier c.requires.ascends.most kept c.requires.ascends.tracked c.args.at c.args.id within row is in
    let less : row.parent < c.args.id = omega (arith, c.if-id-row.false, c.if-row-id-2.false) in
    let test : nat_lt c.args.id row.parent ≡ false = grind (arith, nat_tests, less) in
    subst (TellsAt c.args.id kept c.args.at) (sym test) (at c.if-row-id.false c.if-row-ne0.true less)

pub returns-else-row-ne0 : goal.returns-else-row-ne0
returns-else-row-ne0 c =
    let kept = values_of c.args.kept.now.entries in
    let row = c.index.result.now.row in
    let is : (d : Kept) → row ≡ (get_or kept c.args.at d).row = λ d. ap (λ x. x.row) (read_any kept c.args.at d c.index.result.now c.index.ensures) in
    let within = subst (λ n. c.args.at < n) (sym (length-values_of c.args.kept.now.entries)) c.requires.within in
    let at = tells_root c.requires.ascends.most kept c.requires.ascends.tracked c.args.at c.args.id within row is in
    subst (λ b. TellsAt c.args.id kept c.args.at (not b)) (sym (same_test row.parent 0 c.if-row-ne0.false)) (at c.if-row-id.false c.if-row-ne0.false)

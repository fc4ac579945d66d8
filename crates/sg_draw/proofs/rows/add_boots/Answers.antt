-- A boot more has its rows.
use Rattle.std.proofs.Common.{◌≡◌, ◌+◌, ◌++◌, ◌∷◌, [], length, map, take, sym, ◌∙◌, ap, arith, List}
use Rattle.std.specs.Prelude.{codes}
use Rattle.std.specs.Fmt.{decimal}
use Rattle.std.proofs.lemmas.List.{length-map, length-take-le}
use Rattle.sg_facts.specs.Trace.{Boot}
use Rattle.sg_facts.specs.Inside.Rows.{boot_of}
use Rattle.sg_draw.specs.Labels.{label_of, labels_from}
use Rattle.sg_draw.specs.Inside.Rows.{labels_in, stop_labels}
use Rattle.sg_draw.proofs.More.{boot_added, boot_labels, labels_more, map_more}
use Rattle.sg_draw.proofs.rows.add_boots.Goals as goal

pub boots-preserved : goal.boots-preserved
boots-preserved c =
    let facts = c.args.iface.now.facts in
    let history = c.args.history.now.items in
    let boots = c.args.boots.now in
    let n = c.boots.at in
    let one = c.index-boots-at.result in
    let before : List Boot = map boot_of (take n boots) in
    let test = c.boots-test.true in
    let front = length-take-le n boots (omega (arith, test)) in
    let count : 1 + length before ≡ n + 1 = ap (λ k. 1 + k) (length-map (take n boots) boot_of ∙ front) ∙ omega arith in
    let next : labels_from facts history 1 (map boot_of (take (n + 1) boots)) ≡ labels_from facts history 1 before ++ boot_labels facts history (n + 1) (boot_of one)
    = ap (labels_from facts history 1) (map_more boot_of boots n one test c.index-boots-at.is) ∙ labels_more facts history 1 before (boot_of one)
    ∙ ap (λ k. labels_from facts history 1 before ++ boot_labels facts history k (boot_of one)) count in
    boot_added (labels_in c.args.rows.now) (labels_from facts history 1 before) ((codes "boot " ++ decimal (n + 1)) ∷ []) (map (label_of facts history) (boot_of one).items) (stop_labels one.stop)
    (labels_in c.add_boot.new.rows) (labels_in c.add_items.new.rows) (labels_in c.add_stop.new.rows)
    (c.in_ok-add_boot.ensures ∙ ap (λ v. v ++ (codes "boot " ++ decimal (n + 1)) ∷ []) c.boots.invariant)
    c.in_ok-add_items.ensures c.in_ok-add_stop.ensures
    ∙ ap (λ v. labels_in c.args.rows.now ++ v) (sym next)

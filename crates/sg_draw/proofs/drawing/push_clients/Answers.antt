-- A head more is drawn.
use Rattle.std.proofs.Common.{◌∙◌, ap, sym, List, ℕ, ◌∷◌, [], ◌++◌, map, take}
use Rattle.sg_draw.proofs.Documents.{drawn, still, then}
use Rattle.sg_draw.proofs.More.{map_more}
use Rattle.sg_draw.specs.Pictures.{client_name}
use Rattle.sg_draw.proofs.drawing.push_clients.Goals as goal

pub ends-init : goal.ends-init
ends-init c = still c.args.out.now

pub ends-preserved : goal.ends-preserved
ends-preserved c =
    drawn
    (map_more (λ e. client_name e.0) c.args.ends.now c.ends.at c.index-ends-at.result c.ends-test.true c.index-ends-at.is
    ∙ ap (λ (text : List ℕ). map (λ e. client_name e.0) (take c.ends.at c.args.ends.now) ++ text ∷ []) (sym (c.as_slice.ensures ∙ c.in_ok-name.ensures)))
    (then c.ends.invariant c.in_ok-push_head.ensures)

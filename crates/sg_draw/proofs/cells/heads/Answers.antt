-- A name more is written, and then that of the service.
use Rattle.std.proofs.Common.{◌++◌, ◌∙◌, ap, take}
use Rattle.std.specs.Prelude.{codes}
use Rattle.std.specs.List.{flat_map}
use Rattle.std.proofs.lemmas.List.{take_all}
use Rattle.sg_draw.proofs.Heads.{heads_more}
use Rattle.sg_draw.specs.Pictures.{client_name}
use Rattle.sg_draw.proofs.cells.heads.Goals as goal

pub ends-preserved : goal.ends-preserved
ends-preserved c =
    heads_more (λ e. take 5 (client_name e.0 ++ codes "     ")) c.args.ends.now c.ends.client-index c.ends-item.result c.ends.out c.push_name.new.out
    c.ends-test.true c.ends-item.is c.ends.invariant c.in_ok-push_name.ensures

pub returns : goal.returns
returns c =
    c.in_ok-extend_from_slice.ensures.ok
    ∙ ap (λ out. out ++ codes "service  ") (c.ends.invariant ∙ ap (flat_map (λ e. take 5 (client_name e.0 ++ codes "     "))) (take_all c.ends.client-index c.args.ends.now c.ends-test.false))

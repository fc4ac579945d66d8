-- An interface of a service that is played has the name of one kind.
use Rattle.std.proofs.Common.{◌∙◌, ap, sym}
use Rattle.sg_multi.specs.sg_facts.Interface.{Declared}
use Rattle.sg_top.proofs.EachKind.{has_kind, its_kind}
use Rattle.sg_top.proofs.services.kind_of.Goals as goal

pub unreachable-requires : goal.unreachable-requires
unreachable-requires c =
    has_kind c.args.iface.now.facts c.requires (λ kind is. c.in-None.ensures kind (ap (λ (i : Declared). i.facts.name) c.iface.view_is ∙ is))

pub returns : goal.returns
returns c =
    its_kind c.args.iface.now.facts c.in-Some.kind c.requires (sym (ap (λ (i : Declared). i.facts.name) c.iface.view_is) ∙ c.in-Some.ensures)

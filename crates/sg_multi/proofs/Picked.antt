-- Descriptions that are safe are picked as those of the members.
use Rattle.std.proofs.Common.{List, sym, ap, subst}
use Rattle.std.specs.Option.{option_map_or}
use Rattle.sg_facts.specs.sg_base.Lists.{Each}
use Rattle.sg_interpret.specs.sg_described.Described.{Described, described_of}
use Rattle.sg_interpret.specs.sg_described.Safe.{described_nothing}
use Rattle.sg_interpret.proofs.Picking.{picked}
use Rattle.sg_multi.specs.Beginning.{ArePicked, description_at, description_in}
use Rattle.sg_multi.specs.Serving.{IsFit, IsOfServed, IsPicked}
use Rattle.sg_multi.specs.declared.play.MemberTables.{MemberTables}
use Rattle.sg_multi.specs.declared.served.Served.{Served}
use Rattle.sg_multi.specs.declared.served.Served.TheVariants.{BuiltIn, Own}
use Rattle.sg_multi.proofs.Ending.{each_at}

is_picked : (served : Served) → IsFit served → IsPicked (description_in served) served
is_picked (BuiltIn kind) fit = tt
is_picked (Own d) fit = picked (described_of d) fit

pub are_picked : (tables : List MemberTables) → Each (λ (t : MemberTables). IsOfServed t.tables.iface t.service) tables → ArePicked (description_at tables) tables
are_picked tables services place t there =
    let of : IsOfServed t.tables.iface t.service = each_at (λ (x : MemberTables). IsOfServed x.tables.iface x.service) tables place t services there in
    subst (λ (d : Described). IsPicked d t.service) (ap (λ o. option_map_or (λ (x : MemberTables). description_in x.service) o described_nothing) (sym there)) (is_picked t.service of.fit)

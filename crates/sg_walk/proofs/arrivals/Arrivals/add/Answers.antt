-- A walk is added where none came.
use Rattle.std.proofs.Common.{◌∷◌, [], ◌++◌, sym, ◌∙◌, ap, subst, inr}
use Rattle.indexmap.proofs.CallerLemmas.{insert_entry-new}
use Rattle.sg_walk.specs.contracts.spot.SpotPartialEq.TheImpl.{eq-value}
use Rattle.sg_walk.specs.Inside.Arrivals.{AddsArrival}
use Rattle.sg_walk.proofs.KnownSpots.{known, not_known}
use Rattle.sg_walk.proofs.arrivals.Arrivals.add.Goals as goal

pub returns-then-contains_key-clause-ok : goal.returns-then-contains_key-clause-ok
returns-then-contains_key-clause-ok c =
    subst (λ l. AddsArrival l l c.args.spot c.args.walk) c.self.view_is
    (known c.self.inside.walks.entries c.args.spot c.args.walk (sym c.contains_key.ensures ∙ c.if-contains_key.true))

pub returns-clause-ok : goal.returns-clause-ok
returns-clause-ok c =
    inr (c.in_ok-insert.ensures.entries
    ∙ insert_entry-new eq-value.it c.self.inside.walks c.args.spot c.args.walk (not_known c.self.inside.walks.entries c.args.spot (sym c.contains_key.ensures ∙ c.if-contains_key.false))
    ∙ ap (λ l. l ++ (c.args.spot, c.args.walk) ∷ []) c.self.view_is)

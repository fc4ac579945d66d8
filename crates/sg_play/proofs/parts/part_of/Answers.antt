-- The part at the place that was found is the client's; none found, the client has none.
use Rattle.std.proofs.Common.{sym, ◌∙◌}
use Rattle.std.proofs.lemmas.Fn.{always_returns_same}
use Rattle.std.specs.Ordering.{nat_cmp}
use Rattle.sg_play.proofs.Finding.{found, not_found, rises}
use Rattle.sg_play.proofs.parts.part_of.Goals as goal

pub returns-in-Ok : goal.returns-in-Ok
returns-in-Ok g c =
    let at = c.in-Ok.ensures.position (λ p. nat_cmp p.0 c.args.client) (always_returns_same _ _ _ (λ a r f' k. (k.met.1, λ j. record { 0 = k.met.0 j }))) in
    c.as_slice.ensures ∙ sym (found c.args.clients.now c.args.client c.in-Ok.place c.index-clients-place.result c.requires c.in-Ok.ensures.bound (at c.index-clients-place.result))

pub returns-in-Err : goal.returns-in-Err
returns-in-Err g c =
    let at = c.in-Err.ensures.position (λ p. nat_cmp p.0 c.args.client) (always_returns_same _ _ _ (λ a r f' k. (k.met.1, λ j. record { 0 = k.met.0 j }))) in
    sym (not_found c.args.clients.now c.args.client c.in-Err.field-0 (at (rises c.args.clients.now c.args.client c.requires)))

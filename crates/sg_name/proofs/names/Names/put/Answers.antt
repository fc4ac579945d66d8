-- No other id has the service id.
use Rattle.std.proofs.Common.{◌≡◌, ℕ, Some, nat_eq, refl, subst, sym}
use Rattle.std.specs.Map.{lookup}
use Rattle.sg_name.specs.Names.{real_at}
use Rattle.sg_name.proofs.Directions.{apart_put, free_again, one_to_one}
use Rattle.sg_name.proofs.names.Names.put.Goals as goal

pub refill-requires-clause-apart : goal.refill-requires-clause-apart
refill-requires-clause-apart c =
    let s = c.self.inside in
    let free = subst (λ names. (other : ℕ) → real_at names.known other ≡ Some c.args.standing.real → other ≡ c.args.id) (sym c.self.view_is) c.requires.apart in
    apart_put (λ x. lookup (nat_eq x) s.standings.entries) (λ x. lookup (nat_eq x) c.exchange.new.standings.entries)
    (λ r. lookup (nat_eq r) s.ids.entries) (λ r. lookup (nat_eq r) s.ids.entries) c.args.id c.args.standing
    (one_to_one s.standings.entries s.ids.entries c.self.invariant.back) free (c.in-Some.ensures.updates refl).0

pub add-requires-clause-unknown : goal.add-requires-clause-unknown
add-requires-clause-unknown c =
    let s = c.self.inside in
    let free = subst (λ names. (other : ℕ) → real_at names.known other ≡ Some c.args.standing.real → other ≡ c.args.id) (sym c.self.view_is) c.requires.apart in
    free_again s.standings.entries s.ids.entries c.args.id c.args.standing.real c.self.invariant.back free (sym c.in-None.ensures.old)

-- The service id goes with its id.
use Rattle.std.proofs.Common.{◌≡◌, ℕ, ◌∙◌, Some, ap, arith, is_some, nat_eq, sym}
use Rattle.std.specs.declared.option.Option.{Option}
use Rattle.std.specs.Prelude.{if◌then◌else◌}
use Rattle.std.specs.Map.{lookup}
use Rattle.std.specs.Option.{option_map}
use Rattle.sg_name.proofs.Directions.{back_removed}
use Rattle.sg_name.proofs.names.Names.drop_id.Goals as goal

pub invariant_of-self : goal.invariant_of-self
invariant_of-self c =
    let s = c.self.inside in
    let standing = c.in-Some.standing in
    let known = sym c.in-Some.ensures.value in
    let its = (c.self.invariant.back c.args.id standing.real).1 (ap (option_map (λ t. t.real)) known) in
    let count : Option ℕ → ℕ = λ o. if is_some o then 1 else 0 in
    let forgotten : count c.swap_remove-in-Some.result ≡ count (Some c.args.id) = ap count (c.swap_remove-in-Some.ensures.value ∙ its) in
    record {
      back = back_removed (λ x. lookup (nat_eq x) s.standings.entries) (λ x. lookup (nat_eq x) c.swap_remove.new.self.entries)
          (λ r. lookup (nat_eq r) s.ids.entries) (λ r. lookup (nat_eq r) c.swap_remove-in-Some.new.self.entries) c.args.id standing
          c.self.invariant.back known c.in-Some.ensures.updates.0 c.swap_remove-in-Some.ensures.updates.0;
      same = omega (arith, forgotten, c.in-Some.ensures.len, c.swap_remove-in-Some.ensures.len, c.self.invariant.same);
    }

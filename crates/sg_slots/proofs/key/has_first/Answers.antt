-- The least key at or behind the number tells whether the number is there.
use Rattle.std.proofs.Common.{subst}
use Rattle.std.specs.Option.{IfSome}
use Rattle.std.specs.Prelude.{slice_get}
use Rattle.std.specs.BTreeMap.Range.{IsLeBy}
use Rattle.std.specs.BTreeSet.{IsKeyInRange}
use Rattle.std.specs.declared.ops.Bound.TheVariants.{Included, Unbounded}
use Rattle.sg_slots.specs.Inside.QueueKeys.{has, key_cmp}
use Rattle.sg_slots.proofs.Found.{found, from_least, key_of, not_found}
use Rattle.sg_slots.proofs.key.has_first.Goals as goal

pub returns-in-Some-clause-found : goal.returns-in-Some-clause-found
returns-in-Some-clause-found c test =
    let keys = c.args.keys.now in
    let range = c.range.ensures.in_range tt in
    let least = subst (λ r. IfSome (slice_get r 0) (IsKeyInRange key_cmp (Included (key_of c.args.first 0 0)) Unbounded keys)) c.in-Some.ensures.steps range.1 in
    found keys c.in-Some.key.now c.args.first least.1 test

pub returns-in-Some-clause-none : goal.returns-in-Some-clause-none
returns-in-Some-clause-none c test second id =
    let keys = c.args.keys.now in
    let range = c.range.ensures.in_range tt in
    let least = subst (λ r. IfSome (slice_get r 0) (IsKeyInRange key_cmp (Included (key_of c.args.first 0 0)) Unbounded keys)) c.in-Some.ensures.steps range.1 in
    let q = key_of c.args.first second id in
    not_found c.in-Some.key.now c.args.first second id least.0.0 test (has keys q)
    (λ there. subst (λ r. IfSome (slice_get r 0) (λ k. IsLeBy key_cmp k q)) c.in-Some.ensures.steps (range.2 q (from_least c.args.first second id, tt) there))

pub returns-in-None-clause-none : goal.returns-in-None-clause-none
returns-in-None-clause-none c test second id =
    let range = c.range.ensures.in_range tt in
    range.5 c.in-None.ensures.steps.0 (key_of c.args.first second id) (from_least c.args.first second id, tt)

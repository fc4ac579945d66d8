-- The runs of the lock service that do not recover: what each of them lacks.
use Rattle.std.proofs.Common.{◌≡◌, ap, arith, inl, refl, subst, sym, ◌∙◌}
use Rattle.std.specs.Prelude.{ℕ, ◌&&◌, nat_le, nat_lt, false, true, not, Some, [], ◌∷◌, find}
use Rattle.test_histories.specs.sg_facts.sg_base.Lists.{Each}
use Rattle.sg_recovery_laws.proofs.Lists.{each_contains}
use Rattle.std.proofs.lemmas.Bool.Decides.{nat_tests}
use Rattle.test_recovery.specs.LockRuns.{lock_stubs, out_of_order, two_makers_ends, two_makers_history, another_id, boot_without_a_stop, asked_after_a_stop, reply_without_an_item, taken_twice, walk_from_its_middle, walk_by_another, walk_too_long, rebuilt_for_nobody, rebuilt_too_late, served_without_a_walk, half_a_walk, stop_at_another_number, point_asked_in_vain, point_left_out, rebuilt_needlessly, stop_after_take_ends, stop_after_take_history, stop_before_storage_ends, stop_before_storage_history, two_locks_ends, two_locks_history}
use Rattle.sg_recovery_laws.specs.sg_hist.Recovered.{ArePointsOf, IsRebuiltFor, IsRecovered, waiting}
use Rattle.sg_recovery_laws.specs.sg_hist.Inside.Parts.{calls_made}
use Rattle.sg_recovery_laws.specs.sg_hist.Reading.{Position, is_whole_at, object_before}
use Rattle.test_histories.specs.Written.{ok, ok_at}
use Rattle.test_recovery.specs.Written.{bare_call, called, replied, walked}
use Rattle.test_histories.specs.sg_facts.Needs.{wanted}
use Rattle.test_recovery.proofs.Apart.{caller_of, desc_given, false_true, id_in, neither, none_some, not_empty}

-- the third call alone may be under way
third : (seq : ℕ) → nat_lt 1 seq && (nat_lt 2 seq && true) ≡ true → nat_le seq 3 && true ≡ true → seq ≡ 3
third seq above first = grind (arith, nat_tests, above, first)

abbrev place : Position
place = record {
  older = called (bare_call 1 1 1 0) 0 4 (replied (ok_at 1)) ∷ called (bare_call 1 2 1 0) 0 9 (replied (ok_at 2)) ∷ [];
  front = [];
  item = walked 2 1 1 (bare_call 1 0 1 0) 0 15 (replied (ok_at 1));
  rest = walked 1 1 1 (bare_call 1 0 1 0) 0 19 (replied (ok_at 2)) ∷ called (bare_call 1 3 2 1) 2 22 (replied ok) ∷ [];
  newer = [];
}

-- that is the take of the first lock
own : Each (λ c. c.seq ≡ 3 → c ≡ bare_call 1 3 2 1) (calls_made two_locks_history (waiting two_locks_ends))
own = ((λ e. absurd (omega (arith, e))), ((λ e. absurd (omega (arith, e))), ((λ e. refl), tt)))

not_least : IsRebuiltFor lock_stubs.interface lock_stubs.walks two_locks_history (waiting two_locks_ends) place 1 2 → ⊥
not_least d =
    let seq = third d.call.seq d.admitted.under_way.above d.admitted.under_way.first in
    let call : bare_call 1 3 2 1 ≡ d.call = sym (each_contains (λ c. c.seq ≡ 3 → c ≡ bare_call 1 3 2 1) (calls_made two_locks_history (waiting two_locks_ends)) d.call own d.admitted.under_way.its.made seq) in
    let e : 1 ≡ 2 = ap id_in (subst (λ c. find (λ i. not (is_whole_at lock_stubs.interface.facts lock_stubs.walks two_locks_history place i)) (wanted lock_stubs.interface (object_before lock_stubs.interface.facts two_locks_history place) c).ids ≡ Some 2) (sym call) d.least) in
    omega (arith, e)

pub another_id-wrong : IsRecovered lock_stubs stop_after_take_history another_id (waiting stop_after_take_ends) → ⊥
another_id-wrong r = let e : 1 ≡ 2 = ap desc_given r.reboots.table.0.0 in omega (arith, e)

pub boot_without_a_stop-wrong : IsRecovered lock_stubs stop_after_take_history boot_without_a_stop (waiting stop_after_take_ends) → ⊥
boot_without_a_stop-wrong r = false_true r.reboots.stopped.0

pub asked_after_a_stop-wrong : IsRecovered lock_stubs stop_before_storage_history asked_after_a_stop (waiting stop_before_storage_ends) → ⊥
asked_after_a_stop-wrong r = not_empty r.reboots.last.1.0

pub reply_without_an_item-wrong : IsRecovered lock_stubs stop_after_take_history reply_without_an_item (waiting stop_after_take_ends) → ⊥
reply_without_an_item-wrong r = r.served.items.1.1.1.0

pub taken_twice-wrong : IsRecovered lock_stubs stop_after_take_history taken_twice (waiting stop_after_take_ends) → ⊥
taken_twice-wrong r = false_true r.served.committed.1.0

pub walk_from_its_middle-wrong : IsRecovered lock_stubs stop_after_take_history walk_from_its_middle (waiting stop_after_take_ends) → ⊥
walk_from_its_middle-wrong r = let e : 1 ≡ 2 = r.walks.1.1.0.next in omega (arith, e)

pub walk_by_another-wrong : IsRecovered lock_stubs stop_after_take_history walk_by_another (waiting stop_after_take_ends) → ⊥
walk_by_another-wrong r = let e : 1 ≡ 2 = ap caller_of r.walks.1.1.1.0.call in omega (arith, e)

pub walk_too_long-wrong : IsRecovered lock_stubs stop_after_take_history walk_too_long (waiting stop_after_take_ends) → ⊥
walk_too_long-wrong r = none_some r.walks.1.1.1.1.0.call

pub rebuilt_for_nobody-wrong : IsRecovered lock_stubs stop_after_take_history rebuilt_for_nobody (waiting stop_after_take_ends) → ⊥
rebuilt_for_nobody-wrong r =
    let u = r.on_demand.1.1.0.admitted.under_way.its in
    let e : 1 ≡ 2 = sym (each_contains (λ c. c.client ≡ 1) (calls_made stop_after_take_history (waiting stop_after_take_ends)) r.on_demand.1.1.0.call (refl, (refl, (refl, (refl, tt)))) u.made) ∙ u.its in
    omega (arith, e)

pub rebuilt_too_late-wrong : IsRecovered lock_stubs stop_after_take_history rebuilt_too_late (waiting stop_after_take_ends) → ⊥
rebuilt_too_late-wrong r = r.walks.1.1.1.1.1.1.0

pub served_without_a_walk-wrong : IsRecovered lock_stubs stop_after_take_history served_without_a_walk (waiting stop_after_take_ends) → ⊥
served_without_a_walk-wrong r = false_true r.tracked_state.1.1.0.whole

pub half_a_walk-wrong : IsRecovered lock_stubs stop_after_take_history half_a_walk (waiting stop_after_take_ends) → ⊥
half_a_walk-wrong r = false_true r.tracked_state.1.1.1.0.whole

pub stop_at_another_number-wrong : IsRecovered lock_stubs stop_after_take_history stop_at_another_number (waiting stop_after_take_ends) → ⊥
stop_at_another_number-wrong r = neither r.points.1

pub point_left_out-wrong : IsRecovered lock_stubs stop_after_take_history point_left_out (waiting stop_after_take_ends) → ⊥
point_left_out-wrong r = let e : 3 ≡ 4 = r.points.0.0 in omega (arith, e)

pub rebuilt_needlessly-wrong : IsRecovered lock_stubs two_locks_history rebuilt_needlessly (waiting two_locks_ends) → ⊥
rebuilt_needlessly-wrong r = not_least r.on_demand.1.1.0

pub point_asked_in_vain-wrong : IsRecovered lock_stubs stop_after_take_history point_asked_in_vain (waiting stop_after_take_ends) → ⊥
point_asked_in_vain-wrong r = let e : 9 ≡ 8 = r.points.0.1.0 in omega (arith, e)

pub point_asked_in_vain-counted : ArePointsOf false lock_stubs.interface.facts lock_stubs.ask lock_stubs.parts 0 point_asked_in_vain.boots point_asked_in_vain.points
point_asked_in_vain-counted =
    ((omega arith, (omega arith, tt)), inl (refl, refl), ((omega arith, (omega arith, (omega arith, (omega arith, tt)))), refl, omega arith))

pub out_of_order-wrong : IsRecovered lock_stubs two_makers_history out_of_order (waiting two_makers_ends) → ⊥
out_of_order-wrong r = false_true r.served.order.1.0

-- What one member more came to.
use Rattle.std.proofs.Common.{◌≡◌, ◌∙◌, ◌+◌, ◌∷◌, [], List, Some, length, ap, arith, refl, slice_get, subst, sym, length-append}
use Rattle.sg_multi.specs.Members.{Membered}
use Rattle.sg_multi.specs.sg_sim.sg_play.sg_hist.declared.ended.Ended.{Ended}
use Rattle.sg_multi.specs.Inside.Ended.{AreEnded, IsEndedMember}
use Rattle.sg_multi.proofs.Growing.{ended_more}
use Rattle.sg_multi.proofs.Turning.{read_there}
use Rattle.sg_multi.proofs.play.ended_members.Goals as goal

pub members-init : goal.members-init
members-init g c =
    (refl, ap (λ (l : List Ended). length l) c.new-ended.ensures, λ k m e there at. let none : Some e ≡ slice_get [] k = sym at ∙ ap (λ l. slice_get l k) c.new-ended.ensures in absurd (cc none))

pub overflow_add-number : goal.overflow_add-number
overflow_add-number g c = omega (arith, c.members.invariant.0, c.members-test.true, c.requires)

pub members-preserved : goal.members-preserved
members-preserved g c =
    let ms = c.args.members.now in
    let ends = c.args.ends.now in
    let before = c.members.invariant in
    let k = c.members.member-index in
    let m = c.member-item.result in
    let e = c.in_ok-ended_member.field-0 in
    let there : slice_get ms k ≡ Some m = read_there ms k m c.members-test.true ∙ ap (λ (x : Membered). Some x) (sym c.member-item.is) in
    let pushed = c.in_ok-push.ensures.ok in (
      ap (λ n. n + 1) before.0,
      ap (λ (l : List Ended). length l) pushed ∙ length-append c.members.ended (e ∷ []) ∙ ap (λ n. n + 1) before.1,
      subst (AreEnded ms ends) (sym pushed) (ended_more ms ends c.members.ended k m e before.1 there (subst (λ n. IsEndedMember ends (n + 1) m e) before.0 c.in_ok-ended_member.ensures) before.2),
    )

pub returns : goal.returns
returns g c = record { count = omega (arith, c.members.invariant.1, c.members-test.false, c.members.auto.member-index-end); each = c.members.invariant.2 }

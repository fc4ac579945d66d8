-- A hold goes on with the call, or ends it.
use Rattle.std.proofs.Common.{◌∙◌, sym, subst, true≢false, ◌≡◌, inl}
use Rattle.sg_turn.specs.Seats.{HasLearnt}
use Rattle.sg_turn.specs.declared.shared.HoldEnd.{HoldEnd}
use Rattle.sg_turn.specs.declared.shared.WhenBlocked.TheVariants.{Withdraws}
use Rattle.sg_turn.specs.Inside.Calls.{EndsBlocked, HasHeld}
use Rattle.sg_turn.specs.Passes.{seen_by}
use Rattle.sg_turn.proofs.CallLaws.{gave_up, went_on, went_home, answered, withdrawn, blocked, stayed}
use Rattle.sg_turn.proofs.shared.Shared.go_on.Goals as goal
use Rattle.sg_turn.proofs.shared.Shared.go_on.Goals.{in-GoesOn, in-AllBlocked+in-Withdraws-blocked, in-AllBlocked+in-Stays, in-Answered, in-Short, in-Withdraws, in_default}

pub returns-then-may_withdraw : goal.returns-then-may_withdraw
returns-then-may_withdraw g c = λ o call u.
    let q = c.take-held.new.seat in
    let l = subst (λ s. HasLearnt s q) c.pass.view_is c.take-held.ensures.seat in
    let e = c.pass.invariant.1 ∙ sym c.take-held.ensures.seat.learns.number in
    let x = c.may_withdraw.ensures.asks c.if-may_withdraw.true in
    let t = gave_up o c.args.pass.now q c.withdraw.new.seat call c.pass.inside.client u l e x.0 _ _ x.1 c.withdraw.ensures.same (c.withdraw.ensures.log x.0 x.1) in
    withdrawn o c.withdraw.new.seat call _ _ t.0

pub returns-then-is_all_blocked : goal.returns-then-is_all_blocked
returns-then-is_all_blocked g c = λ o call u.
    let q = c.take-held.new.seat in
    let l = subst (λ s. HasLearnt s q) c.pass.view_is c.take-held.ensures.seat in
    let e = c.pass.invariant.1 ∙ sym c.take-held.ensures.seat.learns.number in
    let x = c.is_all_blocked.ensures.waits c.if-is_all_blocked.true in
    let r = c.withdraw-then-is_all_blocked.new.seat in
    let t = gave_up o c.args.pass.now q r call c.pass.inside.client u l e x.0 _ _ x.1 c.withdraw-then-is_all_blocked.ensures.same (c.withdraw-then-is_all_blocked.ensures.log x.0 x.1) in
    let withdraws : c.args.blocked ≡ Withdraws = elim c.match-matches.branch [ in-Withdraws m ↦ m.in-Withdraws.is | in_default m ↦ absurd (true≢false (sym c.if-matches.true ∙ m.matches-is)) ] in
    subst (λ b. EndsBlocked g.H.Host.waits b o call r) (sym withdraws)
    (blocked g.H.Host.waits o q r call _ t.0 t.2 (subst (g.H.Host.waits (seen_by q)) t.1 x.2) (c.is_all_blocked.ensures.rest c.if-is_all_blocked.true))

pub returns : goal.returns
returns g c = λ o call u.
    let p = c.args.pass.now in
    let q = c.take-held.new.seat in
    let r = c.step.new.seat in
    let client = c.pass.inside.client in
    let l = subst (λ s. HasLearnt s q) c.pass.view_is c.take-held.ensures.seat in
    let e = c.pass.invariant.1 ∙ sym c.take-held.ensures.seat.learns.number in
    let same = c.step.ensures.same in
    let Held : HoldEnd → Type 0 = λ end. HasHeld g.H.Host.legal (EndsBlocked g.H.Host.waits c.args.blocked) o call end r in
    elim c.match-step.branch [
      | in-GoesOn w ↦ subst Held (sym w.result-is) (went_on o p q r call client u l e same w.in-GoesOn.ensures.stepped)
      | in-AllBlocked+in-Withdraws-blocked w ↦ subst Held (sym w.result-is) (went_on o p q r call client u l e same w.in-AllBlocked.ensures.stepped.0)
      | in-AllBlocked+in-Stays w ↦
          let made = w.in-AllBlocked.ensures.stepped in
          subst Held (sym w.result-is) (subst (λ b. EndsBlocked g.H.Host.waits b o call r) (sym w.in-Stays.is)
          (stayed g.H.Host.waits o r call made.1 (went_on o p q r call client u l e same made.0) made.2 made.3))
      | in-Answered w ↦ subst Held (sym w.result-is)
          (answered g.H.Host.legal o r call w.in-Answered.reply (went_home o p q r call client u l e w.in-Answered.reply same w.in-Answered.ensures.stepped) c.step.ensures.legal)
      | in-Short w ↦ subst Held (sym w.result-is) (went_on o p q r call client u l e same (inl w.in-Short.ensures.stepped))
    ]

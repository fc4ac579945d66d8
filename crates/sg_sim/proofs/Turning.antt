-- Whose turn it is.
use Rattle.std.proofs.Common.{◌≡◌, ◌⊎◌, inl, inr, ℕ, zero, suc, ◌+◌, ◌<◌, ◌≤◌, true, false, List, [], ◌∷◌, Some, length, sym, ◌∙◌, ap, arith}
use Rattle.std.specs.Prelude.{slice_get}
use Rattle.std.proofs.lemmas.Bool.{cases_lt}
use Rattle.sg_play.proofs.Following.Turns.{turns_alike}
use Rattle.sg_play.proofs.Following.Whose.{next_around, next_after, scheduled_turn}
use Rattle.sg_play.specs.Following.Stages.{IsNextTurn}
use Rattle.sg_facts.specs.Interface.{Declared}
use Rattle.sg_play.specs.sg_plain.Playing.Callers.{is_setting_up}
use Rattle.sg_play.specs.sg_plain.Playing.Plays.{IsPlaying}
use Rattle.sg_play.specs.sg_plain.Playing.Turns.{NobodyGoes}
use Rattle.sg_sim.specs.Inside.Next.{IsFirstAfter, NoneAfter, NoneScheduled, may_go_next, stage_now}
use Rattle.sg_sim.specs.Playing.{Playing}

there_below : (xs : List ℕ) (k x : ℕ) → slice_get xs k ≡ Some x → k < length xs
there_below [] k x there = absurd (cc there)
there_below (y ∷ xs) zero x there = omega arith
there_below (y ∷ xs) (suc k) x there = omega (arith, there_below xs k x there)

module _ (p : Playing) (over : is_setting_up p.script p.view.seats ≡ false) where
  pub from_schedule : (at client : ℕ) → p.passed ≤ at → slice_get p.script.schedule at ≡ Some client → may_go_next p client ≡ true → NoneScheduled p at → IsNextTurn p.script (stage_now p) client (at + 1)
  from_schedule at client from there may before = scheduled_turn p.script p.view p.passed p.last over at client from there may (λ k other passed below is. before k other passed below is)

  pub more_scheduled : (at client : ℕ) → NoneScheduled p at → slice_get p.script.schedule at ≡ Some client → may_go_next p client ≡ false → NoneScheduled p (at + 1)
  more_scheduled at client before there may k other from below is = by (cases_lt k at)
    where
      by : (k < at) ⊎ (at ≤ k) → may_go_next p other ≡ false
      by (inl less) = before k other from less is
      by (inr more) =
          let same : k ≡ at = omega (arith, below, more) in
          let its : other ≡ client = let both : Some other ≡ Some client = sym is ∙ ap (slice_get p.script.schedule) same ∙ there in cc both in
          ap (may_go_next p) its ∙ may

  module _ (none : NoneScheduled p (length p.script.schedule)) where
    all_scheduled : (k other : ℕ) → p.passed ≤ k → slice_get p.script.schedule k ≡ Some other → may_go_next p other ≡ false
    all_scheduled k other from there = none k other from (there_below p.script.schedule k other there) there

    pub from_after : (client : ℕ) → IsFirstAfter p p.last (length p.view.seats) client → IsNextTurn p.script (stage_now p) client (length p.script.schedule)
    from_after client f = next_after p.script p.view p.passed p.last over all_scheduled client f.above f.within f.may f.before

    pub from_around : NoneAfter p p.last (length p.view.seats) → (client : ℕ) → IsFirstAfter p 0 p.last client → IsNextTurn p.script (stage_now p) client (length p.script.schedule)
    from_around none_later client f = next_around p.script p.view p.passed p.last over all_scheduled none_later client (omega (arith, f.above)) f.within f.may (λ other first. f.before other (omega (arith, first)))

-- nobody may
pub nobody : (i : Declared) (p : Playing) (given : List (List ℕ)) → IsPlaying i p.script p.view.history p.view.seats given → NoneAfter p p.last (length p.view.seats) → NoneAfter p 0 p.last → NobodyGoes p.script p.view.seats
nobody i p given is behind around client first last = sym (turns_alike i p.script p.view given is p.passed p.last client first last) ∙ by (cases_lt p.last client)
  where
    by : (p.last < client) ⊎ (client ≤ p.last) → may_go_next p client ≡ false
    by (inl more) = behind client more last
    by (inr less) = around client (omega (arith, first)) less

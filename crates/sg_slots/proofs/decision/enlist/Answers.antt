-- Three parts are the two of a making and one more.
use Rattle.std.proofs.Common.{◌≡◌, ℕ, ◌<◌, ◌≤◌, Bool, true, false, [], ◌∷◌, ◌++◌, None, Some, refl, sym, ◌∙◌, ap, inl, inr, arith}
use Rattle.std.specs.Prelude.{nat_lt}
use Rattle.std.specs.declared.option.Option.{Option}
use Rattle.std.proofs.lemmas.Bool.{cases_Bool}
use Rattle.std.proofs.lemmas.Bool.Decides.{nat_tests}
use Rattle.sg_facts.specs.sg_base.Counts.{last_count}
use Rattle.sg_facts.specs.sg_base.Stops.{asked_after}
use Rattle.sg_facts.specs.sg_base.declared.reply.Reply.{Reply}
use Rattle.sg_facts.specs.declared.outcome.Patch.{Patch}
use Rattle.sg_facts.specs.declared.outcome.Outcome.TheVariants.{Replied}
use Rattle.sg_facts.specs.Invoke.{Points}
use Rattle.sg_slots.specs.declared.decision.Decision.TheVariants.{Make, Enlist}
use Rattle.sg_slots.specs.Slots.{Held}
use Rattle.sg_slots.specs.Carry.{Carries, IsCut}
use Rattle.sg_slots.proofs.decision.enlist.Goals as goal

-- two points, and a third
asked_third : (a : ℕ) → asked_after (asked_after a 2) 1 ≡ asked_after a 3
asked_third a = omega arith

-- what strikes isn't the last that can be counted
counted : (asked : ℕ) (strikes : Bool) → strikes ≡ true → (last_count ≤ asked → strikes ≡ false) → asked < last_count
counted asked strikes is last = elim (cases_Bool (nat_lt asked last_count)) [
  | inl below ↦ grind (arith, nat_tests)
  | inr not ↦
      let at_end : last_count ≤ asked = grind (arith, nat_tests) in
      let clash : true ≡ false = sym is ∙ last at_end in
      absurd (cc clash)
]

module _ {E : Type 0} (old : Held E) (id : ℕ) (e : E) (word : Option ℕ) (points mid later : Points) (reply : Reply) (new : Held E) where
  -- the third part was asked
  asked_all : (patch : Option Patch) → Carries old id (Make e word) points (Replied reply patch) new mid → later.asked ≡ asked_after mid.asked 1 → later.struck ≡ mid.struck
      → Carries old id (Enlist e word) points (Replied reply patch) new later
  asked_all None made asked struck = record {
    answered = made.answered;
    changed = made.changed;
    asked = asked ∙ ap (λ a. asked_after a 1) made.asked ∙ asked_third points.asked;
    struck = struck ∙ made.struck;
  }
  asked_all (Some patch) made asked struck = absurd made

  -- the third part struck
  cut_third : (patch : Option Patch) → Carries old id (Make e word) points (Replied reply patch) new mid → mid.asked < last_count → later.asked ≡ asked_after mid.asked 1
      → later.struck ≡ mid.struck ++ later.asked ∷ [] → IsCut (Enlist e word) points later
  cut_third None made below asked struck =
      let two = made.asked in
      record {
        first = omega (arith, two, below, asked);
        last = omega (arith, two, below, asked);
        struck = struck ∙ ap (λ s. s ++ later.asked ∷ []) made.struck;
      }
  cut_third (Some patch) made below asked struck = absurd made

pub returns-then-strikes-clause-outcome : goal.returns-then-strikes-clause-outcome
returns-then-strikes-clause-outcome g c id =
    let before : Points = record { asked = g.T.Stops.asked c.args.stops.now; struck = g.T.Stops.struck c.args.stops.now } in
    let mid : Points = record { asked = g.T.Stops.asked c.make.new.stops; struck = g.T.Stops.struck c.make.new.stops } in
    let later : Points = record { asked = g.T.Stops.asked c.strikes.new.self; struck = g.T.Stops.struck c.strikes.new.self } in
    cut_third c.args.slots.now id c.args.entry c.args.word before mid later c.in-Replied.reply c.make.new.slots c.in-Replied.patch (c.in-Replied.ensures.outcome id)
    (counted (g.T.Stops.asked c.make.new.stops) true refl c.if-strikes.ensures.last) c.if-strikes.ensures.asked c.if-strikes.ensures.struck

pub returns-else-strikes-clause-outcome : goal.returns-else-strikes-clause-outcome
returns-else-strikes-clause-outcome g c id =
    let before : Points = record { asked = g.T.Stops.asked c.args.stops.now; struck = g.T.Stops.struck c.args.stops.now } in
    let mid : Points = record { asked = g.T.Stops.asked c.make.new.stops; struck = g.T.Stops.struck c.make.new.stops } in
    let later : Points = record { asked = g.T.Stops.asked c.strikes.new.self; struck = g.T.Stops.struck c.strikes.new.self } in
    asked_all c.args.slots.now id c.args.entry c.args.word before mid later c.in-Replied.reply c.make.new.slots c.in-Replied.patch (c.in-Replied.ensures.outcome id)
    c.if-strikes.ensures.asked c.if-strikes.ensures.struck

pub returns-in-Stopped-clause-outcome : goal.returns-in-Stopped-clause-outcome
returns-in-Stopped-clause-outcome g c id =
    let cut = c.in-Stopped.ensures.outcome id in
    let last = cut.last in
    record { first = cut.first; last = omega (arith, last); struck = cut.struck }

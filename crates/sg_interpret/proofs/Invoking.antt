-- A decision that is right and carried out is what asking a service does.
use Rattle.std.proofs.Common.{◌≡◌, ℕ, ◌+◌, ◌<◌, [], None, Some, refl, sym, ◌∙◌, ap, subst, arith}
use Rattle.std.specs.Prelude.{IfSome}
use Rattle.sg_described.specs.sg_facts.sg_base.Stops.{asked_after}
use Rattle.sg_described.specs.sg_facts.sg_base.declared.call.Call.{Call}
use Rattle.sg_described.specs.sg_facts.sg_base.declared.reply.Good.{Good}
use Rattle.sg_described.specs.sg_facts.sg_base.declared.reply.Reply.{Reply}
use Rattle.sg_described.specs.sg_facts.sg_base.declared.reply.Reply.TheVariants.{Ok}
use Rattle.sg_described.specs.sg_facts.declared.outcome.Outcome.{Outcome}
use Rattle.sg_described.specs.sg_facts.declared.outcome.Outcome.TheVariants.{Replied, Blocks, Stopped, NoMemory}
use Rattle.sg_described.specs.sg_facts.Facts.{Facts}
use Rattle.sg_described.specs.sg_facts.Invoke.{Invokes, Points, parts_of}
use Rattle.sg_described.specs.sg_facts.Legal.{Table}
use Rattle.sg_described.specs.sg_facts.Object.{after}
use Rattle.sg_described.specs.sg_slots.declared.decision.Decision.{Decision}
use Rattle.sg_described.specs.sg_slots.declared.decision.Decision.TheVariants.{Refuse, Block, Make, Enlist, Set, Keep, Remove}
use Rattle.sg_described.specs.sg_slots.Carry.{Carries, held_after, parts_in, reply_to, words_of}
use Rattle.sg_described.specs.sg_slots.Decide.{Decides}
use Rattle.sg_described.specs.sg_slots.Slots.{Body, Held, object_of}

module _ {E : Type 0} (facts : Facts) (ask : Table) (parts : ℕ → ℕ) (body : E → Body) (held : Held E) (call : Call) (d : Decision E) (is : Decides facts ask parts body held call d) where
  -- a decision of some part has an Ok as its reply
  has_good : (x : Decision E) → 0 < parts_in x → (good : Good) × (reply_to held x ≡ Some (Ok good))
  has_good (Refuse code) some = absurd (omega (arith, some))
  has_good Block some = absurd (omega (arith, some))
  has_good (Make e word) some = (record { desc = held.given + 1; words = words_of word; bytes = [] }, refl)
  has_good (Enlist e word) some = (record { desc = held.given + 1; words = words_of word; bytes = [] }, refl)
  has_good (Set e word) some = (record { desc = 0; words = words_of word; bytes = [] }, refl)
  has_good (Keep desc word) some = absurd (omega (arith, some))
  has_good Remove some = (record { desc = 0; words = []; bytes = [] }, refl)

  parted : (reply : Reply) → reply_to held d ≡ Some reply → parts_in d ≡ parts_of parts call reply
  parted reply some = subst (λ r. IfSome r (λ x. parts_in d ≡ parts_of parts call x)) some is.parted

  pub invoked : (points later : Points) (outcome : Outcome) (new : Held E) → Carries held call.desc d points outcome new later → Invokes facts ask parts (object_of body held) call points outcome (object_of body new) later
  invoked points later (Replied reply None) new done = record {
    answered = is.answered ∙ done.answered;
    changed = ap (object_of body) done.changed ∙ subst (λ r. IfSome r (λ x. object_of body (held_after held call.desc d) ≡ after facts (object_of body held) call x)) done.answered is.changed;
    written = sym (is.unwritten reply);
    asked = done.asked ∙ ap (asked_after points.asked) (parted reply done.answered);
    struck = done.struck;
  }
  invoked points later (Replied reply (Some patch)) new done = absurd done
  invoked points later Blocks new done = (is.answered ∙ done.0, record { same = ap (object_of body) done.1.same; unasked = done.1.unasked })
  invoked points later Stopped new cut =
      let first = cut.first in
      let last = cut.last in
      let some : 0 < parts_in d = omega (arith, first, last) in
      let good = has_good d some in
      let same = parted (Ok good.0) good.1 in
      record { answered = (good.0, is.answered ∙ good.1); first = cut.first; last = omega (arith, last, same); struck = cut.struck }
  invoked points later NoMemory new done = record { same = ap (object_of body) done.same; unasked = done.unasked }

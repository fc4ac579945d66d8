-- When a decision is the right one.
use Rattle.std.specs.Prelude.{ℕ, ◌≡◌, None, IfSome}
use Rattle.sg_facts.specs.sg_base.declared.call.Call.{Call}
use Rattle.sg_facts.specs.sg_base.declared.reply.Reply.{Reply}
use Rattle.sg_facts.specs.Facts.{Facts}
use Rattle.sg_facts.specs.Object.{after, patch_of}
use Rattle.sg_facts.specs.Legal.{Table}
use Rattle.sg_facts.specs.Invoke.{parts_of}
use Rattle.sg_slots.specs.declared.decision.Decision.{Decision}
use Rattle.sg_slots.specs.Slots.{Held, Body, object_of}
use Rattle.sg_slots.specs.Carry.{reply_to, held_after, parts_in, IsAbout}

-- a decision on a call does what the service's table says: the reply is the table's, the change is the reply's, the
-- parts are the reply's, and no file is written
pub record Decides {E : Type 0} (facts : Facts) (ask : Table) (parts : ℕ → ℕ) (body : E → Body) (held : Held E) (call : Call) (d : Decision E) : Type 0 where
  pub about : IsAbout held call.desc d
  pub answered : ask (object_of body held) call ≡ reply_to held d
  pub changed : IfSome (reply_to held d) (λ reply. object_of body (held_after held call.desc d) ≡ after facts (object_of body held) call reply)
  pub parted : IfSome (reply_to held d) (λ reply. parts_in d ≡ parts_of parts call reply)
  pub unwritten : (reply : Reply) → patch_of facts (object_of body held) call reply ≡ None

-- Whoever waits in a world waits in a call on no descriptor or on a live one.
use Rattle.std.proofs.Common.{List, None, Option, Some, [], ap, refl, slice_set, suc, true, zero, ℕ, ◌+◌, ◌∷◌, ◌≡◌}
use Rattle.sg_facts.specs.sg_base.Lists.{Each}
use Rattle.sg_facts.specs.sg_base.declared.reply.Code.{Code}
use Rattle.sg_facts.specs.sg_base.declared.reply.Reply.{Reply}
use Rattle.sg_facts.specs.declared.entry.Entry.{Entry}
use Rattle.sg_facts.specs.Guard.{guard}
use Rattle.sg_facts.specs.Inside.Rows.{refused_or}
use Rattle.sg_facts.specs.Object.{object_of}
use Rattle.sg_world_laws.specs.sg_recovery_laws.Midway.Progress.{IsNone}
use Rattle.sg_clients.specs.WorldView.{Seat, is_blocked_phase, is_offered}
use Rattle.sg_clients.specs.declared.phase.Phase.{Phase}
use Rattle.sg_clients.specs.declared.phase.Phase.TheVariants.{Asked, Blocked, Held, Idle, Left, Receipted}
use Rattle.sg_clients.specs.declared.withdrawn.Withdrawn.{Withdrawn}
use Rattle.sg_world_laws.proofs.LetIn.{desc_there}
use Rattle.sg_world_laws.specs.Seats.{AreSeated}
use Rattle.sg_world_laws.specs.Setting.{IsSetting, Setting}

passed : (g : Option Code) (answered : Option Reply) → refused_or g answered ≡ None → g ≡ None
passed None answered is = refl
passed (Some code) answered is = absurd (cc is)

blocked_is : (p : Phase) → is_blocked_phase p ≡ true → p ≡ Blocked
blocked_is Blocked is = refl
blocked_is Idle is = absurd (cc is)
blocked_is Asked is = absurd (cc is)
blocked_is Held is = absurd (cc is)
blocked_is Receipted is = absurd (cc is)
blocked_is Left is = absurd (cc is)

pub wait_on_live : (z : Setting) (set : IsSetting z) (history : List Entry) (withdrawn : List Withdrawn) (client : ℕ) (seats : List Seat) → AreSeated z history withdrawn client seats
    → Each (λ s. is_blocked_phase s.phase ≡ true → IsNone (object_of z.iface.facts history).rows s.call.desc) seats
wait_on_live z set history withdrawn client [] all = tt
wait_on_live z set history withdrawn client (s ∷ seats) all = (
  λ waits.
      let blocked : s.phase ≡ Blocked = blocked_is s.phase waits in
      let offers : is_offered s.phase ≡ true = ap is_offered blocked in
      desc_there z.iface (object_of z.iface.facts history) s.call (all.0.may offers).is_clients.is_call set.law.shape.shape
      (passed (guard z.iface (object_of z.iface.facts history) s.call) (z.ask (object_of z.iface.facts history) s.call) (all.0.waits blocked)),
  wait_on_live z set history withdrawn (client + 1) seats all.2,
)

-- so where one of them doesn't wait
pub each_set : (P : Seat → Type 0) (seats : List Seat) (at : ℕ) (new : Seat) → P new → Each P seats → Each P (slice_set seats at new)
each_set P [] at new one all = tt
each_set P (s ∷ seats) zero new one all = (one, all.1)
each_set P (s ∷ seats) (suc at) new one all = (all.0, each_set P seats at new one all.1)

-- A client's seat stays what it is where an answered call is committed that wakes_seat it or leaves it waiting.

-- a call that is offered and let pass passes at the object of the history
use Rattle.std.proofs.Common.{Bool, List, None, Option, Some, [], ap, append-nil, arith, cond, false, length, refl, subst, sym, true, ℕ, ◌++◌, ◌+◌, ◌<◌, ◌==◌, ◌^◌, ◌∙◌, ◌∷◌, ◌≡◌, ◌≢◌}
use Rattle.std.proofs.Math.ListN.{set}
use Rattle.std.proofs.lemmas.List.Elements.{filter-append}
use Rattle.sg_facts.specs.sg_base.declared.call.Call.{Call}
use Rattle.sg_facts.specs.sg_base.declared.reply.Code.{Code}
use Rattle.sg_facts.specs.sg_base.declared.reply.Reply.{Reply}
use Rattle.sg_facts.specs.sg_base.declared.reply.Reply.TheVariants.{Ok, Refused}
use Rattle.sg_facts.specs.Guard.{guard}
use Rattle.sg_facts.specs.Laws.{Passes, slow}
use Rattle.sg_facts.specs.Legal.{answer}
use Rattle.sg_facts.specs.Inside.Rows.{refused_or}
use Rattle.sg_facts.specs.Object.{after, empty_object, object_of}
use Rattle.sg_facts.specs.declared.entry.Entry.{Entry}
use Rattle.sg_recovery_laws.proofs.Midway.Tabled.{passes_whole}
use Rattle.sg_recovery_laws.specs.sg_hist.Clients.{MayBeMade, calls_of}
use Rattle.sg_clients.specs.WorldView.{Seat, wakes_seat, woken_seat}
use Rattle.sg_clients.specs.declared.phase.Phase.{Phase}
use Rattle.sg_clients.specs.declared.phase.Phase.TheVariants.{Asked, Blocked, Held, Idle, Left, Receipted}
use Rattle.sg_facts.proofs.Replaying.Found.{other_test}
use Rattle.sg_world_laws.proofs.Drawn.{object_after}
use Rattle.sg_world_laws.proofs.Waits.{still_waits, waits_both}
use Rattle.sg_world_laws.specs.Keeping.{IsSettledObject}
use Rattle.sg_world_laws.specs.Seats.{IsSeated, last_of}
use Rattle.sg_world_laws.specs.Setting.{IsSetting, Setting}

pub seat_passes : (z : Setting) (set : IsSetting z) (h : List Entry) (call : Call) → IsSettledObject z h → slow + length h + 256 < 2 ^ 63 → MayBeMade z.iface call → guard z.iface (object_of z.iface.facts h) call ≡ None
    → Passes z.iface.facts (object_of z.iface.facts h) call
seat_passes z set h call o few may passes = record {
  is_call = may.is_clients.is_call;
  words = may.is_clients.words;
  within = record { client_first = may.is_clients.client_first; client_last = may.is_clients.client_last; counted = omega (arith, o.counted, few); given = omega (arith, o.given, few) };
  guarded = passes_whole z.iface (object_of z.iface.facts h) call set.fits passes;
}

module _ (z : Setting) (set : IsSetting z) (h : List Entry) (e : Entry) (o : IsSettledObject z h) (few : slow + length h + 256 < 2 ^ 63)
    (answered : answer z.iface z.ask (object_of z.iface.facts h) e.call ≡ Some e.reply) (may : MayBeMade z.iface e.call) (d : ℕ) (s : Seat) (other : e.call.client ≢ d) where
  -- another client's entries are as before
  same_calls : calls_of (h ++ e ∷ []) d ≡ calls_of h d
  same_calls = filter-append (λ x. x.call.client == d) h (e ∷ []) ∙ ap (λ b. calls_of h d ++ cond b (e ∷ []) []) (other_test e.call.client d other) ∙ append-nil (calls_of h d)

  pub seat_on : IsSeated z h d s → IsSeated z (h ++ e ∷ []) d (woken_seat (wakes_seat z.iface.facts (object_of z.iface.facts h).rows e.call e.reply) s)
  seat_on is = by s.phase is
    where
      plain : (p : Phase) → (p ≡ Blocked → ⊥) → IsSeated z h d (record s { phase = p }) → IsSeated z (h ++ e ∷ []) d (record s { phase = p })
      plain p isn't is = record {
        its = is.its;
        next = is.next;
        may = is.may;
        waits = λ one. absurd (isn't one);
        receipt = λ one. ap last_of same_calls ∙ is.receipt one;
        count = is.count ∙ ap length (sym same_calls);
        few = is.few;
      }

      now_asked : IsSeated z h d (record s { phase = Blocked }) → IsSeated z (h ++ e ∷ []) d (record s { phase = Asked })
      now_asked is = record { its = is.its; next = is.next; may = is.may; waits = λ one. absurd (cc one); receipt = λ one. absurd (cc one); count = is.count ∙ ap length (sym same_calls); few = is.few }

      -- a refusal by the guard leaves the object as it is, and an answered call leaves those waiting that it doesn't wake
      still : (g : Option Code) → guard z.iface (object_of z.iface.facts h) e.call ≡ g → (r : Reply) → e.reply ≡ r → IsSeated z h d (record s { phase = Blocked })
          → wakes_seat z.iface.facts (object_of z.iface.facts h).rows e.call e.reply s.call ≡ false → answer z.iface z.ask (after z.iface.facts (object_of z.iface.facts h) e.call e.reply) s.call ≡ None
      still g lets (Refused code) reply_is is unwoken = subst (λ r. answer z.iface z.ask (after z.iface.facts (object_of z.iface.facts h) e.call r) s.call ≡ None) (sym reply_is) (is.waits refl)
      still (Some code) lets (Ok g) reply_is is unwoken =
          absurd (let both : Some (Refused code) ≡ Some (Ok g) = sym (ap (λ c. refused_or c (z.ask (object_of z.iface.facts h) e.call)) lets) ∙ answered ∙ ap (λ r. Some r) reply_is in cc both)
      still None lets (Ok g) reply_is is unwoken =
          let asked : z.ask (object_of z.iface.facts h) e.call ≡ Some e.reply = sym (ap (λ c. refused_or c (z.ask (object_of z.iface.facts h) e.call)) lets) ∙ answered in
          still_waits z.iface z.ask z.sound set.law (object_of z.iface.facts h) e.call s.call o.good
          (seat_passes z set h s.call o few (is.may refl) (waits_both (guard z.iface (object_of z.iface.facts h) s.call) (z.ask (object_of z.iface.facts h) s.call) (is.waits refl)).0)
          e.reply (record { passes = seat_passes z set h e.call o few may lets; answered = asked }) (is.waits refl) unwoken

      waiting_on : (b : Bool) → wakes_seat z.iface.facts (object_of z.iface.facts h).rows e.call e.reply s.call ≡ b → IsSeated z h d (record s { phase = Blocked })
          → IsSeated z (h ++ e ∷ []) d (cond b (record s { phase = Asked }) (record s { phase = Blocked }))
      waiting_on true unwoken is = now_asked is
      waiting_on false unwoken is = record {
        its = is.its;
        next = is.next;
        may = is.may;
        waits = λ one. ap (λ x. answer z.iface z.ask x s.call) (object_after z.iface.facts empty_object h (e ∷ [])) ∙ still (guard z.iface (object_of z.iface.facts h) e.call) refl e.reply refl is unwoken;
        receipt = λ one. absurd (cc one);
        count = is.count ∙ ap length (sym same_calls);
        few = is.few;
      }

      by : (p : Phase) → IsSeated z h d (record s { phase = p }) → IsSeated z (h ++ e ∷ []) d (woken_seat (wakes_seat z.iface.facts (object_of z.iface.facts h).rows e.call e.reply) (record s { phase = p }))
      by Idle is = plain Idle (λ one. cc one) is
      by Asked is = plain Asked (λ one. cc one) is
      by Held is = plain Held (λ one. cc one) is
      by Receipted is = plain Receipted (λ one. cc one) is
      by Left is = plain Left (λ one. cc one) is
      by Blocked is = waiting_on (wakes_seat z.iface.facts (object_of z.iface.facts h).rows e.call e.reply s.call) refl is

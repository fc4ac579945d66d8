-- A reply that a client holds is of a call that isn't visible, whatever is done in its member's world.
use Rattle.std.proofs.Common.{◌≡◌, ◌≢◌, ℕ, ◌+◌, ◌-◌, ◌≤◌, Bool, true, length, map, refl, sym, ◌∙◌, ap, subst, inl, inr, arith, slice_set}
use Rattle.sg_facts.specs.sg_base.declared.call.Call.{Call}
use Rattle.sg_facts.specs.sg_base.declared.reply.Reply.{Reply}
use Rattle.sg_facts.specs.declared.entry.Entry.{Entry}
use Rattle.sg_facts.specs.Facts.{Facts}
use Rattle.sg_facts.specs.Object.{object_of}
use Rattle.sg_multi.proofs.sg_sim.sg_play.Following.Seats.{asked_holds, each_set, each_woken, plain_holds}
use Rattle.sg_multi.proofs.sg_sim.sg_play.Waking.Shapes.{call_is_next, call_is_own}
use Rattle.sg_multi.proofs.sg_sim.sg_play.sg_plain.sg_clients.Lines.{length_map}
use Rattle.sg_multi.proofs.sg_sim.sg_play.sg_world.sg_world_laws.Ending.Shapes.{answered_seats, given_seats, seat_after, woken}
use Rattle.sg_multi.specs.sg_sim.sg_plain.Playing.Callers.{IsCaller}
use Rattle.sg_multi.specs.sg_sim.sg_play.Following.Follows.{HoldAll, HoldsSo}
use Rattle.sg_multi.specs.sg_sim.sg_clients.WorldView.{Seat, WorldView, answered_to, boot_number, committed, happened, is_offered, no_reply, offered, seat_of, wakes_seat, woken_seat}
use Rattle.sg_multi.specs.sg_sim.sg_clients.declared.phase.Phase.{Phase}
use Rattle.sg_multi.specs.sg_sim.sg_clients.declared.phase.Phase.TheVariants.{Idle, Asked, Held, Receipted, Blocked}
use Rattle.sg_multi.specs.sg_sim.sg_world.declared.did.Did.{Did}
use Rattle.sg_multi.specs.sg_sim.sg_world.declared.did.Did.TheVariants.{Answered, Blocked as Waits, Booted, Loaded, Lost, Replayed, Served, Skipped, Struck}
use Rattle.sg_multi.specs.sg_sim.sg_world.Steps.{Commits, Steps}
use Rattle.sg_multi.specs.sg_sim.sg_world_laws.Setting.{Setting}
use Rattle.sg_multi.specs.Inside.Member.{KeepsMember}

module _ (z : Setting) (w : WorldView) (c : ℕ) (first : 1 ≤ c) (last : c ≤ length w.seats) (is : KeepsMember z w) (hold : HoldAll z.iface.facts w.seats) where
  abbrev s : Seat
  s = seat_of w c

  abbrev facts : Facts
  facts = z.iface.facts

  abbrev entry_by : Reply → Entry
  entry_by reply = record { call = s.call; reply = reply }

  caller : IsCaller facts is.script w.history c s
  caller = is.playing.callers.each c first last

  offers_by : (p : Phase) → s.phase ≡ p → is_offered p ≡ true → is_offered s.phase ≡ true
  offers_by p at offers = ap is_offered at ∙ offers

  its : is_offered s.phase ≡ true → s.call.client ≡ c
  its = call_is_own facts is.script w.history c s caller

  number : is_offered s.phase ≡ true → s.call.seq ≡ s.seq + 1
  number = call_is_next facts is.script w.history c s caller

  hold_set : (new : Seat) → HoldsSo facts new → HoldAll facts (slice_set w.seats (c - 1) new)
  hold_set new own = each_set (HoldsSo facts) w.seats c new first last hold own

  set_to : (p : Phase) (boot : ℕ) (kept : Reply) → p ≢ Held → p ≢ Receipted → HoldAll facts (slice_set w.seats (c - 1) (record s { phase = p; boot = boot; reply = kept }))
  set_to p boot kept not_held not_receipted =
      hold_set (record s { phase = p; boot = boot; reply = kept }) (plain_holds facts (record s { phase = p; boot = boot; reply = kept }) not_held not_receipted)

  hold_woken : (test : Call → Bool) → HoldAll facts (map (woken_seat test) w.seats)
  hold_woken test = each_woken (HoldsSo facts) test w.seats (asked_holds facts) hold

  entered : (p : Phase) (reply kept : Reply) → HoldsSo facts (seat_after facts w c reply p kept) → HoldAll facts (slice_set (woken facts w c reply) (c - 1) (seat_after facts w c reply p kept))
  entered p reply kept own =
      let test = wakes_seat facts (object_of facts w.history).rows s.call reply in
      each_set (HoldsSo facts) (woken facts w c reply) c (seat_after facts w c reply p kept) first (omega (arith, last, length_map (woken_seat test) w.seats)) (hold_woken test) own

  answered : (reply : Reply) → is_offered s.phase ≡ true → HoldAll facts (answered_to (committed facts w (entry_by reply)) (entry_by reply)).seats
  answered reply offers =
      subst (HoldAll facts) (sym (answered_seats facts w c reply (its offers)))
      (entered Idle reply no_reply (plain_holds facts (seat_after facts w c reply Idle no_reply) (λ held. cc held) (λ receipted. cc receipted)))

  commits : (between : WorldView) → Commits z w c between → HoldAll facts between.seats
  commits between l =
      let offers = offers_by Asked l.asks.reaches.uses.let_in.phase refl in
      subst (HoldAll facts) (sym (ap (λ (y : WorldView). y.seats) l.now ∙ given_seats facts w c l.reply (its offers)))
      (entered Receipted l.reply l.reply (record { hidden = λ held. absurd (cc held); receipt = λ receipted. omega (arith, number offers) }))

  abbrev At : WorldView → Type 0
  At y = HoldAll facts y.seats

  -- each client's seat after a step
  pub hold_stepped : (did : Did) (later : WorldView) → Steps z w c did later → HoldAll facts later.seats
  hold_stepped Skipped later l = subst At (sym l.now) hold
  hold_stepped (Answered reply) later (inl l) = subst At (sym l.now) (set_to Idle s.boot no_reply (λ held. cc held) (λ receipted. cc receipted))
  hold_stepped (Answered reply) later (inr (inl l)) = subst At (sym l.now) (answered reply (offers_by Held l.phase refl))
  hold_stepped (Answered reply) later (inr (inr l)) = subst At (sym l.now) (answered reply (offers_by Asked l.phase refl))
  hold_stepped Lost later l = subst At (sym l.now) (set_to Asked s.boot s.reply (λ held. cc held) (λ receipted. cc receipted))
  hold_stepped Booted later l = subst At (sym l.now) (hold_woken (λ call. true))
  hold_stepped Struck later (inl l) = subst At (sym l.now) hold
  hold_stepped Struck later (inr (inl l)) = subst At (sym l.now) hold
  hold_stepped Struck later (inr (inr (inl l))) = subst At (sym l.now) hold
  hold_stepped Struck later (inr (inr (inr l))) = subst At (sym l.now) (commits l.between l.commits)
  hold_stepped Replayed later l = subst At (sym l.now) hold
  hold_stepped Loaded later l = subst At (sym l.now) hold
  hold_stepped Waits later l = subst At (sym l.now) (set_to Blocked s.boot s.reply (λ held. cc held) (λ receipted. cc receipted))
  hold_stepped Served later (inl l) = subst At (sym l.now) (commits l.between l.commits)
  hold_stepped Served later (inr l) = subst At (sym l.now)
      (hold_set (record s { phase = Held; boot = boot_number w; reply = l.reply }) (record { hidden = λ held. l.hidden; receipt = λ receipted. absurd (cc receipted) }))

-- a client offers a call
pub hold_offered : (facts : Facts) (w : WorldView) (c : ℕ) (call : Call) → 1 ≤ c → c ≤ length w.seats → HoldAll facts w.seats → HoldAll facts (happened (offered w c call)).seats
hold_offered facts w c call first last hold =
    let new : Seat = record (seat_of w c) { phase = Asked; call = call } in
    each_set (HoldsSo facts) w.seats c new first last hold (plain_holds facts new (λ held. cc held) (λ receipted. cc receipted))

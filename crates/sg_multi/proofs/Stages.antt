-- What a turn of the play without stops makes of the stage that a play over several services is at, by what the client's seat is at.
use Rattle.std.proofs.Common.{◌≡◌, ◌≢◌, ◌⊎◌, ℕ, zero, suc, ◌+◌, ◌-◌, ◌<◌, ◌≤◌, Bool, true, false, cond, List, [], ◌∷◌, ◌++◌, None, Some, length, map, refl, sym, ◌∙◌, ap, subst, inl, inr, arith, slice_set, length-append}
use Rattle.std.specs.Prelude.{◌==◌, ◌&&◌, nat_lt, option_map, slice_get, unwrap_or}
use Rattle.std.specs.Option.{option_map_or}
use Rattle.std.specs.declared.option.Option.{Option}
use Rattle.std.proofs.lemmas.Bool.Decides.{nat_tests}
use Rattle.sg_facts.specs.Tables.{Compiled}
use Rattle.sg_facts.specs.sg_base.declared.call.Call.{Call}
use Rattle.sg_facts.specs.sg_base.declared.reply.Reply.{Reply}
use Rattle.sg_facts.specs.sg_base.declared.reply.Reply.TheVariants.{Ok, Refused}
use Rattle.sg_facts.specs.declared.entry.Entry.{Entry}
use Rattle.sg_facts.specs.declared.row.Row.{Row}
use Rattle.sg_facts.specs.Facts.{Facts, is_visible}
use Rattle.sg_facts.specs.Guard.{guard}
use Rattle.sg_facts.specs.Interface.{Declared}
use Rattle.sg_facts.specs.Object.{object_of}
use Rattle.sg_facts.proofs.Replaying.Found.{other_test, same_test}
use Rattle.sg_multi.proofs.sg_sim.sg_play.Waking.Shapes.{call_is_next}
use Rattle.sg_multi.proofs.sg_sim.sg_play.sg_plain.sg_clients.Lines.{length_map, same_or_other, seat_here, seat_there, seat_woken}
use Rattle.sg_multi.proofs.sg_sim.sg_play.sg_world.sg_world_laws.Ending.Shapes.{seat_after, woken}
use Rattle.sg_multi.specs.Members.{ChangesAt, Membered, setting_by, setting_in, view_in}
use Rattle.sg_multi.specs.Serving.{Serving}
use Rattle.sg_multi.specs.sg_sim.sg_plain.Calls.{ascending_from, most_client, resolved_by}
use Rattle.sg_multi.specs.sg_sim.sg_plain.Inside.Turns.{after_call, after_guard, handed_over, served}
use Rattle.sg_multi.specs.sg_sim.sg_plain.Plain.{PlainPhase, Player, Stage, System, Workload, appended, at_phase, blocked, gone_on, holding, player_at, player_of, ready, replied, through, turned, woken_phase}
use Rattle.sg_multi.specs.sg_sim.sg_plain.Playing.Callers.{is_receipted}
use Rattle.sg_multi.specs.sg_sim.sg_plain.Playing.Given.{given_in, with_handed}
use Rattle.sg_multi.specs.sg_sim.sg_play.Following.Stages.{phase_by}
use Rattle.sg_multi.specs.sg_sim.sg_play.Turning.{handed_by}
use Rattle.sg_multi.specs.sg_sim.sg_play.sg_hist.Clients.{calls_of}
use Rattle.sg_multi.specs.sg_sim.sg_play.sg_hist.Recovered.{Stubs}
use Rattle.sg_multi.specs.sg_sim.sg_play.sg_hist.Wakes.{wakes}
use Rattle.sg_multi.specs.sg_sim.sg_script.declared.multi.MultiCall.{MultiCall}
use Rattle.sg_multi.specs.sg_sim.sg_script.declared.multi.MultiScript.{MultiScript}
use Rattle.sg_multi.specs.sg_sim.sg_clients.WorldView.{Seat, WorldView, is_blocked_phase, is_offered, no_reply, no_seat, seat_in, seat_of, wakes_seat, woken_seat}
use Rattle.sg_multi.specs.sg_sim.sg_clients.declared.phase.Phase.{Phase}
use Rattle.sg_multi.specs.sg_sim.sg_clients.declared.phase.Phase.TheVariants.{Idle, Asked, Held, Receipted, Blocked, Left}
use Rattle.sg_multi.specs.sg_sim.sg_world.declared.did.Did.{Did}
use Rattle.sg_multi.specs.sg_sim.sg_world_laws.Setting.{Setting}
use Rattle.sg_multi.specs.Calls.{multi_calls}
use Rattle.sg_multi.specs.Inside.Callers.{IsSeatOf}
use Rattle.sg_multi.specs.Inside.Following.{phase_at, player_now, stage_with}
use Rattle.sg_multi.specs.Inside.Keeps.{IsMultiCaller, KeepsMulti, interfaces_of}
use Rattle.sg_multi.specs.Inside.Member.{KeepsMember}
use Rattle.sg_multi.specs.Inside.Whose.{next_of, seat_at}
use Rattle.sg_multi.specs.Merged.{Merges, MultiEntry, entries_at, entries_in}
use Rattle.sg_multi.specs.Played.{stubs_in}
use Rattle.sg_multi.specs.SeveralServices.{MemberCall, made_of, member_at, multi_workload, object_at, several_services}
use Rattle.sg_multi.proofs.Calling.{fits_at, offers_alone, receipt_alone}
use Rattle.sg_multi.proofs.Keeping.{given_here, given_there, never_less, one_less}
use Rattle.sg_multi.proofs.Merging.{at_mapped, map_kept, map_set, mapped_at, merges_push, merges_same, set_elsewhere, set_there}
use Rattle.sg_multi.proofs.Players.{player_in, same_from, set_from, woken_from, woken_same}
use Rattle.sg_multi.proofs.Unstopped.{EntersAs, Reseats, TurnsAs}

-- ---- phases

-- a client with no call under way at its next call's member is ready
free_ready : (p : Phase) (reply : Reply) → is_offered p ≡ false → is_receipted p ≡ false → phase_by p reply ready ≡ ready
free_ready Idle reply offers has = refl
free_ready Left reply offers has = refl
free_ready Asked reply offers has = absurd (cc offers)
free_ready Held reply offers has = absurd (cc offers)
free_ready Receipted reply offers has = absurd (cc has)
free_ready Blocked reply offers has = absurd (cc offers)

-- who is ready for the next call, where there is one
pub ready_next : (calls : List MultiCall) (k : ℕ) (phase : MultiCall → PlainPhase) → ((c : MultiCall) → phase c ≡ ready) → option_map_or phase (slice_get calls k) through ≡ cond (nat_lt k (length calls)) ready through
ready_next calls k phase all = by (slice_get calls k) refl
  where
    within : (l : List MultiCall) (m : ℕ) (c : MultiCall) → slice_get l m ≡ Some c → m < length l
    within [] m c is = absurd (cc is)
    within (d ∷ l) zero c is = omega arith
    within (d ∷ l) (suc m) c is = omega (arith, within l m c is)

    beyond : (l : List MultiCall) (m : ℕ) → slice_get l m ≡ None → length l ≤ m
    beyond [] m none = omega arith
    beyond (c ∷ l) zero none = absurd (cc none)
    beyond (c ∷ l) (suc m) none = omega (arith, beyond l m none)

    is_below : (m n : ℕ) → m < n → nat_lt m n ≡ true
    is_below m n is = grind (arith, nat_tests)

    not_below : (m n : ℕ) → n ≤ m → nat_lt m n ≡ false
    not_below m n is = grind (arith, nat_tests)

    by : (o : Option MultiCall) → slice_get calls k ≡ o → option_map_or phase o through ≡ cond (nat_lt k (length calls)) ready through
    by None there = ap (λ b. cond b ready through) (sym (not_below k (length calls) (beyond calls k there)))
    by (Some c) there = all c ∙ ap (λ b. cond b ready through) (sym (is_below k (length calls) (within calls k c there)))

wakes_same : (facts : Facts) (rows : List Row) (call : Call) (reply : Reply) (other : Call) → wakes facts rows call reply other.desc ≡ wakes_seat facts rows call reply other
wakes_same facts rows call (Refused code) other = refl
wakes_same facts rows call (Ok good) other = refl

not_true : (b : Bool) → (b ≡ true → ⊥) → b ≡ false
not_true true not = absurd (not refl)
not_true false not = refl

phase_busy : (p : Phase) (reply : Reply) → is_blocked_phase p ≡ false → phase_by p reply ready ≢ blocked
phase_busy Idle reply is same = cc same
phase_busy Left reply is same = cc same
phase_busy Asked reply is same = cc same
phase_busy Held reply is same = cc same
phase_busy Receipted reply is same = cc same
phase_busy Blocked reply is same = cc is

is_blocked : (p : Phase) → is_blocked_phase p ≡ true → p ≡ Blocked
is_blocked Blocked is = refl
is_blocked Idle is = absurd (cc is)
is_blocked Left is = absurd (cc is)
is_blocked Asked is = absurd (cc is)
is_blocked Held is = absurd (cc is)
is_blocked Receipted is = absurd (cc is)

-- ---- the interface of a member

pub its_interface : (k : Serving) (t : Compiled) → (setting_by k t).iface ≡ t.iface
its_interface k t = refl

-- ---- what is played

module _ (members : List Membered) (script : MultiScript) (given : List (List ℕ)) (order : List ℕ) (is : KeepsMulti members script given order) where
  abbrev sys : System MultiEntry MemberCall
  sys = several_services (map stubs_in members) script

  abbrev work : Workload
  work = multi_workload script

  abbrev n : ℕ
  n = most_client script.clients

  stubs_there : (q : ℕ) (x : Membered) → slice_get members q ≡ Some x → member_at (map stubs_in members) (q + 1) ≡ Some (stubs_in x)
  stubs_there q x there = ap (slice_get (map stubs_in members)) (let same : q + 1 - 1 ≡ q = omega arith in same) ∙ mapped_at stubs_in members q x there

  entries_there : (q : ℕ) (x : Membered) → slice_get members q ≡ Some x → entries_at (q + 1) is.merged ≡ (view_in x).history
  entries_there q x there = is.merges.each q (view_in x).history (mapped_at (λ (y : Membered). (view_in y).history) members q x there)

  seat_there_is : (q : ℕ) (x : Membered) (d : ℕ) → slice_get members q ≡ Some x → seat_at members q d ≡ seat_of (view_in x) d
  seat_there_is q x d there = ap (λ o. option_map_or (λ m. seat_of (view_in m) d) o no_seat) there

  -- the call that a client has under way is its next there
  pub next_call_is : (d : ℕ) → 1 ≤ d → d ≤ n → (written : MultiCall) → next_of script given d ≡ Some written → (q : ℕ) → q + 1 ≡ written.member → (x : Membered) → slice_get members q ≡ Some x
      → is_offered (seat_of (view_in x) d).phase ≡ true → sys.next is.merged d (length (given_in given d)) ≡ Some (record { member = q + 1; call = (seat_of (view_in x) d).call })
  next_call_is d first last written next q number x there offers =
      ap (λ o. option_map_or (λ (c : MultiCall). option_map (made_of is.merged d c) (member_at (map stubs_in members) c.member)) o None) next
      ∙ ap (λ k. option_map (made_of is.merged d written) (member_at (map stubs_in members) k)) (sym number)
      ∙ ap (option_map (made_of is.merged d written)) (stubs_there q x there)
      ∙ ap (λ c. Some c) (ap (λ k. record { member = k; call = resolved_by facts (entries_in is.merged) d (length (calls_of (entries_at k is.merged) d) + 1) written.call }) (sym number)
      ∙ ap (λ c. record { member = q + 1; call = c }) call_is)
    where
      facts : Facts
      facts = (setting_in x).iface.facts

      caller : IsMultiCaller members script is.merged d (given_in given d)
      caller = is.callers d first last

      keeps : KeepsMember (setting_in x) (view_in x)
      keeps = is.each q x there

      within : d ≤ length (view_in x).seats
      within = omega (arith, last, is.clients q x there)

      call_is : resolved_by facts (entries_in is.merged) d (length (calls_of (entries_at (q + 1) is.merged) d) + 1) written.call ≡ (seat_of (view_in x) d).call
      call_is =
          let o = (caller.seats q x there).offers offers in
          let both : Some written ≡ Some o.written = sym next ∙ o.next in
          let its : written ≡ o.written = cc both in
          let own = keeps.playing.callers.each d first within in
          let seq : (seat_of (view_in x) d).call.seq ≡ length (calls_of (entries_at (q + 1) is.merged) d) + 1
          = call_is_next (setting_in x).iface.facts keeps.script (view_in x).history d (seat_of (view_in x) d) own offers ∙ ap (λ k. k + 1) own.count
          ∙ ap (λ h. length (calls_of h d) + 1) (sym (entries_there q x there)) in
          let iface_both : Some x.world.tables.iface ≡ Some o.its.iface
          = sym (mapped_at (λ (y : Membered). y.world.tables.iface) members q x there) ∙ ap (slice_get (interfaces_of members)) (let same : q ≡ q + 1 - 1 = omega arith in same) ∙ o.its.there in
          let iface : (setting_in x).iface ≡ o.its.iface = its_interface x.service x.world.tables ∙ cc iface_both in
          ap (λ (i : Declared). resolved_by i.facts (entries_in is.merged) d (length (calls_of (entries_at (q + 1) is.merged) d) + 1) written.call) iface
          ∙ ap (λ k. resolved_by o.its.iface.facts (entries_in is.merged) d k written.call) (sym seq)
          ∙ ap (λ (c : MultiCall). resolved_by o.its.iface.facts (entries_in is.merged) d (seat_of (view_in x) d).call.seq c.call) its
          ∙ sym o.its.is

  -- a client's next call is of one of the members
  next_there : (d : ℕ) (written : MultiCall) → next_of script given d ≡ Some written → (x : Membered) × (slice_get members (written.member - 1) ≡ Some x) × (written.member - 1 + 1 ≡ written.member)
  next_there d written next =
      let fits = fits_at (interfaces_of members) 1 (multi_calls script d) (length (given_in given d)) written (is.playable.fit d) next in
      let found = at_mapped (λ (y : Membered). y.world.tables.iface) members (written.member - 1) fits.iface fits.there in
      (found.0, found.1, omega (arith, fits.first))

  -- ---- a member changes

  module _ (later : List Membered) (place : ℕ) (m : Membered) (now : WorldView) (changes : ChangesAt members place m now later) where
    abbrev w : WorldView
    w = view_in m

    seat_elsewhere : (q d : ℕ) → q ≢ place → seat_at later q d ≡ seat_at members q d
    seat_elsewhere q d other = ap (λ o. option_map_or (λ x. seat_of (view_in x) d) o no_seat) (ap (λ l. slice_get l q) changes.are ∙ set_elsewhere members place q changes.new other)

    pub seat_now : (d : ℕ) → seat_at later place d ≡ seat_of now d
    seat_now d =
        ap (λ o. option_map_or (λ x. seat_of (view_in x) d) o no_seat) (ap (λ l. slice_get l place) changes.are ∙ set_there members place m changes.new changes.there)
        ∙ ap (λ v. seat_of v d) changes.view_is

    seat_was : (d : ℕ) → seat_at members place d ≡ seat_of w d
    seat_was d = seat_there_is place m d changes.there

    -- a client whose seat there is as before has the player that it had
    pub player_same : (gave : List (List ℕ)) (d : ℕ) → given_in gave d ≡ given_in given d → phase_at (seat_of now d) ≡ phase_at (seat_of w d) → player_now later script gave d ≡ player_now members script given d
    player_same gave d same seat =
        ap (λ (l : List ℕ). record { done = length l; phase = option_map_or (λ (c : MultiCall). phase_at (seat_at later (c.member - 1) d)) (slice_get (multi_calls script d) (length l)) through }) same
        ∙ ap (λ p. record { done = length (given_in given d); phase = p }) (by (next_of script given d))
      where
        at : (q : ℕ) → (q ≡ place) ⊎ (q ≢ place) → phase_at (seat_at later q d) ≡ phase_at (seat_at members q d)
        at q (inl its) = ap (λ k. phase_at (seat_at later k d)) its ∙ ap phase_at (seat_now d) ∙ seat ∙ ap phase_at (sym (seat_was d)) ∙ ap (λ k. phase_at (seat_at members k d)) (sym its)
        at q (inr other) = ap phase_at (seat_elsewhere q d other)

        by : (o : Option MultiCall) → option_map_or (λ (c : MultiCall). phase_at (seat_at later (c.member - 1) d)) o through ≡ option_map_or (λ (c : MultiCall). phase_at (seat_at members (c.member - 1) d)) o through
        by None = refl
        by (Some c) = at (c.member - 1) (same_or_other (c.member - 1) place)

    -- ---- an answered call wakes who waits in another of its member

    module _ (call : Call) (reply : Reply) where
      abbrev wake : Call → Bool
      wake = wakes_seat (setting_in m).iface.facts (object_of (setting_in m).iface.facts w.history).rows call reply

      abbrev answered : MemberCall
      answered = record { member = place + 1; call = call }

      abbrev wakes_then : ℕ → ℕ → Bool
      wakes_then d done = sys.wakes is.merged answered reply (sys.next is.merged d done)

      -- the player of a client behind the answered call
      abbrev woken_player : ℕ → Player
      woken_player d = record (player_now members script given d) { phase = woken_phase (wakes_then d (length (given_in given d))) (player_now members script given d).phase }

      -- who waits in a call of a member is woken where its seat is
      wakes_is : (d : ℕ) → 1 ≤ d → d ≤ n → (written : MultiCall) → next_of script given d ≡ Some written → (q : ℕ) → q + 1 ≡ written.member → (x : Membered) → slice_get members q ≡ Some x
          → (seat_of (view_in x) d).phase ≡ Blocked
          → wakes_then d (length (given_in given d)) ≡ ((q + 1 == place + 1) && wake (seat_of (view_in x) d).call)
      wakes_is d first last written next q number x there waits =
          ap (sys.wakes is.merged answered reply) (next_call_is d first last written next q number x there (ap is_offered waits))
          ∙ ap (λ o. (q + 1 == place + 1) && option_map_or (λ (s : Stubs). wakes s.interface.facts (object_at s (place + 1) is.merged).rows call reply (seat_of (view_in x) d).call.desc) o false) (stubs_there place m changes.there)
          ∙ ap (λ h. (q + 1 == place + 1) && wakes (setting_in m).iface.facts (object_of (setting_in m).iface.facts h).rows call reply (seat_of (view_in x) d).call.desc) (entries_there place m changes.there)
          ∙ ap (λ b. (q + 1 == place + 1) && b) (wakes_same (setting_in m).iface.facts (object_of (setting_in m).iface.facts w.history).rows call reply (seat_of (view_in x) d).call)

      -- what a seat is at that is woken, or not
      seat_phase : (b : Bool) (test : Call → Bool) (s : Seat) → (is_blocked_phase s.phase ≡ true → b ≡ test s.call) → woken_phase b (phase_at s) ≡ phase_at (woken_seat test s)
      seat_phase b test s same = by s.phase s.call s.seq s.boot s.reply same
        where
          by : (p : Phase) (own : Call) (seq boot : ℕ) (kept : Reply) → (is_blocked_phase p ≡ true → b ≡ test own) → woken_phase b (phase_by p kept ready) ≡ phase_at (woken_seat test (record { phase = p; call = own; seq = seq; boot = boot; reply = kept }))
          by Idle own seq boot kept same = woken_same b ready (λ is. cc is)
          by Left own seq boot kept same = woken_same b ready (λ is. cc is)
          by Asked own seq boot kept same = woken_same b ready (λ is. cc is)
          by Held own seq boot kept same = woken_same b (holding kept) (λ is. cc is)
          by Receipted own seq boot kept same = woken_same b replied (λ is. cc is)
          by Blocked own seq boot kept same = ap (λ t. woken_phase t blocked) (same refl) ∙ at (test own)
            where
              at : (t : Bool) → woken_phase t blocked ≡ phase_at (cond t (record { phase = Asked; call = own; seq = seq; boot = boot; reply = kept }) (record { phase = Blocked; call = own; seq = seq; boot = boot; reply = kept }))
              at true = refl
              at false = refl

      pub player_woken : (gave : List (List ℕ)) (d : ℕ) → 1 ≤ d → d ≤ n → given_in gave d ≡ given_in given d → phase_at (seat_of now d) ≡ phase_at (woken_seat wake (seat_of w d))
          → player_now later script gave d ≡ woken_player d
      player_woken gave d first last same seat =
          ap (λ (l : List ℕ). record { done = length l; phase = option_map_or (λ (c : MultiCall). phase_at (seat_at later (c.member - 1) d)) (slice_get (multi_calls script d) (length l)) through }) same
          ∙ ap (λ p. record { done = length (given_in given d); phase = p }) (by (next_of script given d) refl)
        where
          b : Bool
          b = wakes_then d (length (given_in given d))

          at : (q : ℕ) (x : Membered) → slice_get members q ≡ Some x → (written : MultiCall) → next_of script given d ≡ Some written → q + 1 ≡ written.member → (q ≡ place) ⊎ (q ≢ place)
              → phase_at (seat_at later q d) ≡ woken_phase b (phase_at (seat_at members q d))
          at q x there written next number (inl its) =
              let both : Some x ≡ Some m = sym there ∙ ap (slice_get members) its ∙ changes.there in
              let same_member : x ≡ m = cc both in
              ap (λ k. phase_at (seat_at later k d)) its ∙ ap phase_at (seat_now d) ∙ seat
              ∙ sym (seat_phase b wake (seat_of w d) (λ waits.
              wakes_is d first last written next place (ap (λ k. k + 1) (sym its) ∙ number) m changes.there (is_blocked (seat_of w d).phase waits)
              ∙ ap (λ t. t && wake (seat_of w d).call) (same_test (place + 1) (place + 1) refl)))
              ∙ ap (λ s. woken_phase b (phase_at s)) (sym (seat_was d)) ∙ ap (λ k. woken_phase b (phase_at (seat_at members k d))) (sym its)
          at q x there written next number (inr other) =
              ap phase_at (seat_elsewhere q d other ∙ seat_there_is q x d there)
              ∙ sym (waits_on (is_blocked_phase (seat_of (view_in x) d).phase) refl) ∙ ap (λ s. woken_phase b (phase_at s)) (sym (seat_there_is q x d there))
            where
              waits_on : (t : Bool) → is_blocked_phase (seat_of (view_in x) d).phase ≡ t → woken_phase b (phase_at (seat_of (view_in x) d)) ≡ phase_at (seat_of (view_in x) d)
              waits_on false busy = woken_same b (phase_at (seat_of (view_in x) d)) (phase_busy (seat_of (view_in x) d).phase (seat_of (view_in x) d).reply busy)
              waits_on true waits =
                  let blocks : (seat_of (view_in x) d).phase ≡ Blocked = is_blocked (seat_of (view_in x) d).phase waits in
                  let not : b ≡ false = wakes_is d first last written next q number x there blocks ∙ ap (λ t. t && wake (seat_of (view_in x) d).call) (other_test (q + 1) (place + 1) (λ its. other (omega (arith, its)))) in
                  ap (λ t. woken_phase t (phase_at (seat_of (view_in x) d))) not ∙ ap (λ p. woken_phase false (phase_by p (seat_of (view_in x) d).reply ready)) blocks
                  ∙ ap (λ p. phase_by p (seat_of (view_in x) d).reply ready) (sym blocks)

          by : (o : Option MultiCall) → next_of script given d ≡ o → option_map_or (λ (c : MultiCall). phase_at (seat_at later (c.member - 1) d)) o through
              ≡ woken_phase b (option_map_or (λ (c : MultiCall). phase_at (seat_at members (c.member - 1) d)) o through)
          by None next = sym (woken_same b through (λ is. cc is))
          by (Some written) next = let found = next_there d written next in at (written.member - 1) found.0 found.1 written next found.2 (same_or_other (written.member - 1) place)

    -- ---- the turn of a client

    module _ (c : ℕ) (first : 1 ≤ c) (last : c ≤ n) (written : MultiCall) (next : next_of script given c ≡ Some written) (number : place + 1 ≡ written.member) (schedule : List ℕ) (turn_of : ℕ) where
      abbrev z : Setting
      z = setting_in m

      abbrev s : Seat
      s = seat_of w c

      abbrev count : ℕ
      count = length (given_in given c)

      abbrev stage : Stage MultiEntry
      stage = stage_with members script given is.merged schedule turn_of

      abbrev stage_then : List (List ℕ) → List MultiEntry → Stage MultiEntry
      stage_then gave merged = stage_with later script gave merged schedule turn_of

      abbrev clients : List ℕ
      clients = ascending_from 1 n

      -- what the client's turn makes of the stage
      abbrev pub turn : Stage MultiEntry
      turn = turned sys work c stage (player_of stage c).phase

      below_all : c < 1 + n
      below_all = omega (arith, last)

      within_seats : c ≤ length w.seats
      within_seats = omega (arith, last, is.clients place m changes.there)

      place_is : written.member - 1 ≡ place
      place_is = omega (arith, number)

      player_is : player_of stage c ≡ player_now members script given c
      player_is = ap (λ (o : Option Player). unwrap_or o (record { done = 0; phase = through })) (player_in (player_now members script given) n c first last)

      done_is : (player_of stage c).done ≡ count
      done_is = ap (λ (p : Player). p.done) player_is

      phase_is : (p : Phase) → s.phase ≡ p → (player_of stage c).phase ≡ phase_by p s.reply ready
      phase_is p at =
          ap (λ (x : Player). x.phase) player_is ∙ ap (λ o. option_map_or (λ (x : MultiCall). phase_at (seat_at members (x.member - 1) c)) o through) next
          ∙ ap (λ k. phase_at (seat_at members k c)) place_is ∙ ap phase_at (seat_was c) ∙ ap (λ q. phase_by q s.reply ready) at

      turn_by : (p : PlainPhase) → (player_of stage c).phase ≡ p → turn ≡ turned sys work c stage p
      turn_by p at = ap (turned sys work c stage) at

      -- ---- the client's player then

      -- it has as many replies, and its seat is this one
      own_quiet : (t : Seat) → seat_of now c ≡ t → player_now later script given c ≡ record { done = count; phase = phase_at t }
      own_quiet t at =
          ap (λ o. record { done = count; phase = option_map_or (λ (x : MultiCall). phase_at (seat_at later (x.member - 1) c)) o through }) next
          ∙ ap (λ k. record { done = count; phase = phase_at (seat_at later k c) }) place_is ∙ ap (λ (x : Seat). record { done = count; phase = phase_at x }) (seat_now c ∙ at)

      others_given : (id d : ℕ) → 1 ≤ d → d ≢ c → given_in (with_handed given c (Some id)) d ≡ given_in given d
      others_given id d from other = given_there given c d (given_in given c ++ id ∷ []) first from other

      -- it was handed its reply, and has no call under way
      module _ (under_way : (is_offered s.phase ≡ true) ⊎ (is_receipted s.phase ≡ true)) (idle : (seat_of now c).phase ≡ Idle) where
        caller : IsMultiCaller members script is.merged c (given_in given c)
        caller = is.callers c first last

        seat_then : IsSeatOf (interfaces_of members) script is.merged c (given_in given c) place s
        seat_then = caller.seats place m changes.there

        rests : (q : ℕ) (x : Membered) → q ≢ place → slice_get members q ≡ Some x → (is_offered (seat_of (view_in x) c).phase ≡ true → ⊥) × (is_receipted (seat_of (view_in x) c).phase ≡ true → ⊥)
        rests q x other there = by under_way
          where
            by : (is_offered s.phase ≡ true) ⊎ (is_receipted s.phase ≡ true) → (is_offered (seat_of (view_in x) c).phase ≡ true → ⊥) × (is_receipted (seat_of (view_in x) c).phase ≡ true → ⊥)
            by (inl offers) = offers_alone (interfaces_of members) script is.merged c (given_in given c) place q s (seat_of (view_in x) c) (λ same. other (sym same)) offers seat_then (caller.seats q x there)
            by (inr has) = receipt_alone (interfaces_of members) script is.merged c (given_in given c) place q s (seat_of (view_in x) c) (λ same. other (sym same)) has seat_then (caller.seats q x there)

        free_now : (q : ℕ) → phase_at (seat_at later q c) ≡ ready
        free_now q = by (same_or_other q place)
          where
            elsewhere : q ≢ place → (o : Option Membered) → slice_get members q ≡ o → phase_at (seat_at members q c) ≡ ready
            elsewhere other None there = ap (λ o. phase_at (option_map_or (λ x. seat_of (view_in x) c) o no_seat)) there
            elsewhere other (Some x) there =
                let alone = rests q x other there in
                ap phase_at (seat_there_is q x c there)
                ∙ free_ready (seat_of (view_in x) c).phase (seat_of (view_in x) c).reply (not_true (is_offered (seat_of (view_in x) c).phase) alone.0) (not_true (is_receipted (seat_of (view_in x) c).phase) alone.1)

            by : (q ≡ place) ⊎ (q ≢ place) → phase_at (seat_at later q c) ≡ ready
            by (inl its) = ap (λ k. phase_at (seat_at later k c)) its ∙ ap phase_at (seat_now c) ∙ ap (λ p. phase_by p (seat_of now c).reply ready) idle
            by (inr other) = ap phase_at (seat_elsewhere q c other) ∙ elsewhere other (slice_get members q) refl

        own_handed : (id : ℕ) → player_now later script (with_handed given c (Some id)) c ≡ player_at work c (count + 1)
        own_handed id =
            let more : length (given_in (with_handed given c (Some id)) c) ≡ count + 1
            = ap (λ (l : List ℕ). length l) (given_here given c (given_in given c ++ id ∷ []) first (let within : c ≤ length given = omega (arith, last, is.lists) in within)) ∙ length-append (given_in given c) (id ∷ []) in
            ap (λ k. record { done = k; phase = option_map_or (λ (x : MultiCall). phase_at (seat_at later (x.member - 1) c)) (slice_get (multi_calls script c) k) through }) more
            ∙ ap (λ p. record { done = count + 1; phase = p }) (ready_next (multi_calls script c) (count + 1) (λ x. phase_at (seat_at later (x.member - 1) c)) (λ x. free_now (x.member - 1)))

      -- ---- no entry is made

      module _ (new : Seat) (re : Reseats w c new now) where
        own_seat : seat_of now c ≡ new
        own_seat = ap (λ l. seat_in l c) re.seats ∙ seat_here w.seats c new first within_seats

        players_set : (gave : List (List ℕ)) → ((d : ℕ) → 1 ≤ d → d ≢ c → given_in gave d ≡ given_in given d) → (p : Player) → player_now later script gave c ≡ p
            → slice_set (map (player_now members script given) clients) (c - 1) p ≡ map (player_now later script gave) clients
        players_set gave same p own =
            ap (slice_set (map (player_now members script given) clients) (c - 1)) (sym own)
            ∙ sym (set_from (player_now later script gave) (player_now members script given) 1 n c first below_all
            (λ d from below other. player_same gave d (same d from other) (ap (λ l. phase_at (seat_in l d)) re.seats ∙ ap phase_at (seat_there w.seats c d new first from other))))

        gone_set : (id : ℕ) → player_now later script (with_handed given c (Some id)) c ≡ player_at work c (count + 1) → gone_on work c stage ≡ stage_then (with_handed given c (Some id)) is.merged
        gone_set id own =
            ap (λ k. record stage { players = slice_set (map (player_now members script given) clients) (c - 1) (player_at work c (k + 1)) }) done_is
            ∙ ap (λ ps. record stage { players = ps }) (players_set (with_handed given c (Some id)) (others_given id) (player_at work c (count + 1)) own)

        phase_set : (p : PlainPhase) → phase_at new ≡ p → at_phase c p stage ≡ stage_then given is.merged
        phase_set p same =
            ap (λ (x : Player). record stage { players = slice_set (map (player_now members script given) clients) (c - 1) (record x { phase = p }) }) player_is
            ∙ ap (λ ps. record stage { players = ps }) (players_set given (λ d from other. refl) (record { done = count; phase = p }) (own_quiet new own_seat ∙ ap (λ q. record { done = count; phase = q }) same))

      -- ---- an entry is made

      abbrev pub entry_with : Reply → MultiEntry
      entry_with reply = record { member = place + 1; entry = record { call = s.call; reply = reply } }

      module _ (p : Phase) (reply kept : Reply) (e : EntersAs z w c p reply kept now) where
        abbrev merged_then : List MultiEntry
        merged_then = is.merged ++ entry_with reply ∷ []

        abbrev new_seat : Seat
        new_seat = seat_after z.iface.facts w c reply p kept

        abbrev woken_players : List Player
        woken_players = map (woken_player s.call reply) clients

        entered_seat : seat_of now c ≡ new_seat
        entered_seat = ap (λ l. seat_in l c) e.seats ∙ seat_here (woken z.iface.facts w c reply) c new_seat first (omega (arith, within_seats, length_map (woken_seat (wake s.call reply)) w.seats))

        other_seat : (d : ℕ) → 1 ≤ d → d ≢ c → seat_of now d ≡ woken_seat (wake s.call reply) (seat_of w d)
        other_seat d from other = ap (λ l. seat_in l d) e.seats ∙ seat_there (woken z.iface.facts w c reply) c d new_seat first from other ∙ seat_woken (wake s.call reply) w.seats d

        appended_is : appended sys stage (answered s.call reply) reply ≡ record stage { history = merged_then; players = woken_players }
        appended_is = ap (λ ps. record stage { history = merged_then; players = ps }) (woken_from (player_now members script given) (wakes_then s.call reply) 1 n)

        woken_is : player_of (record stage { history = merged_then; players = woken_players }) c ≡ woken_player s.call reply c
        woken_is = ap (λ (o : Option Player). unwrap_or o (record { done = 0; phase = through })) (player_in (woken_player s.call reply) n c first last)

        players_entered : (gave : List (List ℕ)) → ((d : ℕ) → 1 ≤ d → d ≢ c → given_in gave d ≡ given_in given d) → (q : Player) → player_now later script gave c ≡ q
            → slice_set woken_players (c - 1) q ≡ map (player_now later script gave) clients
        players_entered gave same q own =
            ap (slice_set woken_players (c - 1)) (sym own)
            ∙ sym (set_from (player_now later script gave) (woken_player s.call reply) 1 n c first below_all
            (λ d from below other. player_woken s.call reply gave d from (omega (arith, below)) (same d from other) (ap phase_at (other_seat d from other))))

        gone_entered : (id : ℕ) → player_now later script (with_handed given c (Some id)) c ≡ player_at work c (count + 1)
            → gone_on work c (appended sys stage (answered s.call reply) reply) ≡ stage_then (with_handed given c (Some id)) merged_then
        gone_entered id own =
            ap (gone_on work c) appended_is
            ∙ ap (λ (x : Player). record stage { history = merged_then; players = slice_set woken_players (c - 1) (player_at work c (x.done + 1)) }) woken_is
            ∙ ap (λ ps. record stage { history = merged_then; players = ps }) (players_entered (with_handed given c (Some id)) (others_given id) (player_at work c (count + 1)) own)

        phase_entered : (q : PlainPhase) → phase_at new_seat ≡ q → at_phase c q (appended sys stage (answered s.call reply) reply) ≡ stage_then given merged_then
        phase_entered q same =
            ap (at_phase c q) appended_is
            ∙ ap (λ (x : Player). record stage { history = merged_then; players = slice_set woken_players (c - 1) (record x { phase = q }) }) woken_is
            ∙ ap (λ ps. record stage { history = merged_then; players = ps })
            (players_entered given (λ d from other. refl) (record { done = count; phase = q }) (own_quiet new_seat entered_seat ∙ ap (λ x. record { done = count; phase = x }) same))

      -- ---- a call

      module _ (reply : Reply) (offers : is_offered s.phase ≡ true) where
        abbrev its_call : MemberCall
        its_call = record { member = place + 1; call = s.call }

        called : sys.next is.merged c (player_of stage c).done ≡ Some its_call
        called = ap (sys.next is.merged c) done_is ∙ next_call_is c first last written next place number m changes.there offers

        guard_is : sys.guard is.merged its_call ≡ guard z.iface (object_of z.iface.facts w.history) s.call
        guard_is =
            ap (λ o. option_map_or (λ (x : Stubs). guard x.interface (object_at x (place + 1) is.merged) s.call) o None) (stubs_there place m changes.there)
            ∙ ap (λ h. guard z.iface (object_of z.iface.facts h) s.call) (entries_there place m changes.there)

        ask_is : sys.ask is.merged its_call ≡ z.ask (object_of z.iface.facts w.history) s.call
        ask_is =
            ap (λ o. option_map_or (λ (x : Stubs). x.ask (object_at x (place + 1) is.merged) s.call) o None) (stubs_there place m changes.there)
            ∙ ap (λ h. z.ask (object_of z.iface.facts h) s.call) (entries_there place m changes.there)

        visible_is : sys.visible its_call ≡ is_visible z.iface.facts s.call.fun
        visible_is = ap (λ o. option_map_or (λ (x : Stubs). is_visible x.interface.facts s.call.fun) o false) (stubs_there place m changes.there)

        turn_asked : s.phase ≡ Asked → turn ≡ after_guard sys work c stage its_call (sys.guard is.merged its_call)
        turn_asked at = turn_by ready (phase_is Asked at) ∙ ap (after_call sys work c stage) called

        turn_passes : s.phase ≡ Asked → guard z.iface (object_of z.iface.facts w.history) s.call ≡ None → (told : Option Reply) → z.ask (object_of z.iface.facts w.history) s.call ≡ told → turn ≡ served sys c stage its_call told
        turn_passes at passes told answers =
            turn_asked at ∙ ap (after_guard sys work c stage its_call) (guard_is ∙ passes) ∙ ap (served sys c stage its_call) (ask_is ∙ answers)

      -- ---- the turn

      -- the entries then, and the stage that the turn leads to, where what the client is given and the order of entries are as the step says
      pub record TurnedInto (did : Did) : Type 0 where
        pub merged : List MultiEntry
        pub merges : Merges (cond (nat_lt s.seq (seat_of now c).seq) (order ++ (place + 1) ∷ []) order) (map (λ x. (view_in x).history) later) merged
        pub leads : turn ≡ stage_then (with_handed given c (handed_by did)) merged

      abbrev histories : List Membered → List (List Entry)
      histories list = map (λ x. (view_in x).history) list

      merges_quiet : now.history ≡ w.history → (seat_of now c).seq ≡ s.seq → Merges (cond (nat_lt s.seq (seat_of now c).seq) (order ++ (place + 1) ∷ []) order) (histories later) is.merged
      merges_quiet same seq =
          subst (λ b. Merges (cond b (order ++ (place + 1) ∷ []) order) (histories later) is.merged) (sym (never_less s.seq (seat_of now c).seq seq))
          (merges_same order (histories members) (histories later) is.merged
          (ap histories changes.are ∙ map_kept (λ x. (view_in x).history) members place m changes.new changes.there (ap (λ v. v.history) changes.view_is ∙ same)) is.merges)

      quiet_into : (did : Did) → handed_by did ≡ None → now.history ≡ w.history → (seat_of now c).seq ≡ s.seq → turn ≡ stage_then given is.merged → TurnedInto did
      quiet_into did quiet history seq leads = record {
        merged = is.merged;
        merges = merges_quiet history seq;
        leads = leads ∙ ap (λ o. stage_then (with_handed given c o) is.merged) (sym quiet);
      }

      merges_entry : (p : Phase) (reply kept : Reply) → is_offered s.phase ≡ true → EntersAs z w c p reply kept now
          → Merges (cond (nat_lt s.seq (seat_of now c).seq) (order ++ (place + 1) ∷ []) order) (histories later) (is.merged ++ entry_with reply ∷ [])
      merges_entry p reply kept offers e =
          let keeps = is.each place m changes.there in
          let seq : (seat_of now c).seq ≡ s.seq + 1
          = ap (λ (x : Seat). x.seq) (entered_seat p reply kept e) ∙ call_is_next z.iface.facts keeps.script w.history c s (keeps.playing.callers.each c first within_seats) offers in
          let grown : histories later ≡ slice_set (histories members) place (w.history ++ record { call = s.call; reply = reply } ∷ [])
          = ap histories changes.are ∙ map_set (λ x. (view_in x).history) members place changes.new
          ∙ ap (slice_set (histories members) place) (ap (λ (v : WorldView). v.history) changes.view_is ∙ e.history) in
          subst (λ b. Merges (cond b (order ++ (place + 1) ∷ []) order) (histories later) (is.merged ++ entry_with reply ∷ [])) (sym (one_less s.seq (seat_of now c).seq seq))
          (subst (λ h. Merges (order ++ (place + 1) ∷ []) h (is.merged ++ entry_with reply ∷ [])) (sym grown)
          (merges_push order (histories members) is.merged place w.history (record { call = s.call; reply = reply }) (mapped_at (λ (x : Membered). (view_in x).history) members place m changes.there) is.merges))

      entry_into : (did : Did) (p : Phase) (reply kept : Reply) → is_offered s.phase ≡ true → EntersAs z w c p reply kept now
          → turn ≡ stage_then (with_handed given c (handed_by did)) (is.merged ++ entry_with reply ∷ []) → TurnedInto did
      entry_into did p reply kept offers e leads = record { merged = is.merged ++ entry_with reply ∷ []; merges = merges_entry p reply kept offers e; leads = leads }

      given_by : (did : Did) (id : ℕ) (merged : List MultiEntry) → handed_by did ≡ Some id → stage_then (with_handed given c (Some id)) merged ≡ stage_then (with_handed given c (handed_by did)) merged
      given_by did id merged gives = ap (λ o. stage_then (with_handed given c o) merged) (sym gives)

      idle_entered : (reply : Reply) (e : EntersAs z w c Idle reply no_reply now) → (seat_of now c).phase ≡ Idle
      idle_entered reply e = ap (λ (x : Seat). x.phase) (entered_seat Idle reply no_reply e)

      -- a turn of the client does the same
      pub turned_into : (did : Did) → TurnsAs z w c did now → TurnedInto did
      turned_into did (inl t) =
          quiet_into did t.quiet t.history (ap (λ l. (seat_in l c).seq) t.seats)
          (turn_by blocked (phase_is Blocked t.phase)
          ∙ ap (λ ps. record stage { players = ps }) (sym (same_from (player_now later script given) (player_now members script given) 1 n (λ d from below. player_same given d refl (ap (λ l. phase_at (seat_in l d)) t.seats)))))
      turned_into did (inr (inl t)) =
          let new : Seat = record s { phase = Idle; reply = no_reply } in
          let seat = own_seat new t.reseats in
          record {
            merged = is.merged;
            merges = merges_quiet t.reseats.history (ap (λ (x : Seat). x.seq) seat);
            leads = turn_by replied (phase_is Receipted t.phase)
                ∙ gone_set new t.reseats t.id (own_handed (inr (ap is_receipted t.phase)) (ap (λ (x : Seat). x.phase) seat) t.id) ∙ given_by did t.id is.merged t.gives;
          }
      turned_into did (inr (inr (inl t))) =
          let offers : is_offered s.phase ≡ true = ap is_offered t.phase in
          entry_into did Idle s.reply no_reply offers t.enters
          (turn_by (holding s.reply) (phase_is Held t.phase) ∙ ap (handed_over sys work c stage s.reply) (called s.reply offers)
          ∙ gone_entered Idle s.reply no_reply t.enters t.id (own_handed (inl offers) (idle_entered s.reply t.enters) t.id) ∙ given_by did t.id (is.merged ++ entry_with s.reply ∷ []) t.gives)
      turned_into did (inr (inr (inr (inl t)))) =
          let offers : is_offered s.phase ≡ true = ap is_offered t.phase in
          entry_into did Idle (Refused t.code) no_reply offers t.enters
          (turn_asked (Refused t.code) offers t.phase ∙ ap (after_guard sys work c stage (its_call (Refused t.code) offers)) (guard_is (Refused t.code) offers ∙ t.refuses)
          ∙ gone_entered Idle (Refused t.code) no_reply t.enters t.id (own_handed (inl offers) (idle_entered (Refused t.code) t.enters) t.id) ∙ given_by did t.id (is.merged ++ entry_with (Refused t.code) ∷ []) t.gives)
      turned_into did (inr (inr (inr (inr (inl t))))) =
          let new : Seat = record s { phase = Blocked } in
          let offers : is_offered s.phase ≡ true = ap is_offered t.phase in
          quiet_into did t.quiet t.reseats.history (ap (λ (x : Seat). x.seq) (own_seat new t.reseats))
          (turn_passes no_reply offers t.phase t.passes None t.none ∙ phase_set new t.reseats blocked refl)
      turned_into did (inr (inr (inr (inr (inr (inl t)))))) =
          let offers : is_offered s.phase ≡ true = ap is_offered t.phase in
          entry_into did Receipted t.reply t.reply offers t.enters
          (turn_passes t.reply offers t.phase t.passes (Some t.reply) t.answers
          ∙ ap (λ b. cond b (at_phase c replied (appended sys stage (answered s.call t.reply) t.reply)) (at_phase c (holding t.reply) stage)) (visible_is t.reply offers ∙ t.visible)
          ∙ phase_entered Receipted t.reply t.reply t.enters replied refl ∙ ap (λ o. stage_then (with_handed given c o) (is.merged ++ entry_with t.reply ∷ [])) (sym t.quiet))
      turned_into did (inr (inr (inr (inr (inr (inr t)))))) =
          let new : Seat = record s { phase = Held; boot = t.boot; reply = t.reply } in
          let offers : is_offered s.phase ≡ true = ap is_offered t.phase in
          quiet_into did t.quiet t.reseats.history (ap (λ (x : Seat). x.seq) (own_seat new t.reseats))
          (turn_passes t.reply offers t.phase t.passes (Some t.reply) t.answers
          ∙ ap (λ b. cond b (at_phase c replied (appended sys stage (answered s.call t.reply) t.reply)) (at_phase c (holding t.reply) stage)) (visible_is t.reply offers ∙ t.hidden)
          ∙ phase_set new t.reseats (holding t.reply) refl)

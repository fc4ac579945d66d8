-- A play follows the play without stops from its beginning, over offers and turns, and so it ends.
use Rattle.std.proofs.Common.{◌≡◌, ◌≢◌, ◌⊎◌, ℕ, zero, suc, ◌+◌, ◌-◌, ◌≤◌, Bool, true, false, cond, List, [], ◌∷◌, ◌++◌, None, Some, IsSome, drop, length, replicate, refl, sym, ◌∙◌, ap, subst, inl, inr, arith, slice_set, take, append-nil}
use Rattle.std.specs.Prelude.{nat_lt, slice_get, unwrap_or}
use Rattle.std.specs.List.{flat_map}
use Rattle.std.specs.declared.option.Option.{Option}
use Rattle.std.proofs.lemmas.Bool.Decides.{nat_tests}
use Rattle.sg_facts.specs.sg_base.Lists.{Each}
use Rattle.sg_facts.specs.sg_base.declared.call.Call.{Call}
use Rattle.sg_facts.specs.sg_base.declared.reply.Reply.{Reply}
use Rattle.sg_facts.specs.declared.entry.Entry.{Entry}
use Rattle.sg_facts.specs.Facts.{Facts}
use Rattle.sg_facts.specs.Trace.{Boot, Run}
use Rattle.sg_plain.specs.sg_hist.Clients.{calls_of}
use Rattle.sg_plain.specs.sg_hist.Recovered.{struck_in}
use Rattle.sg_plain.specs.sg_hist.Inside.Parts.{HasItem, stop_in}
use Rattle.sg_plain.specs.Calls.{call_after, most_client, script_calls}
use Rattle.sg_plain.specs.Inside.Turns.{IsPlainPlay, resolved, stage_after}
use Rattle.sg_plain.specs.OneService.{workload_of}
use Rattle.sg_plain.specs.Plain.{Stage, left_schedule, next_turn, player_at}
use Rattle.sg_plain.specs.Promises.{FollowsPlain, is_in_first_boot, up_to_last}
use Rattle.sg_play.specs.Recovering.{RecoversSoFar}
use Rattle.sg_play.specs.Turning.{StepsInTurn, after_step, with_call, with_leaving, with_offer}
use Rattle.sg_plain.specs.Playing.Plays.{IsPlaying}
use Rattle.sg_plain.specs.Playing.Turns.{is_free_phase}
use Rattle.sg_plain.proofs.sg_clients.Lines.{seat_here}
use Rattle.sg_plain.specs.sg_script.declared.script.Script.{Script}
use Rattle.sg_plain.specs.sg_script.declared.script.ScriptCall.{ScriptCall}
use Rattle.sg_plain.specs.sg_clients.WorldView.{Seat, WorldView, happened, in_phase, is_left_phase, new_world, no_seat, offered, seat_of, with_leave, with_mark, with_seat}
use Rattle.sg_plain.specs.sg_clients.declared.mark.MarkKind.{MarkKind}
use Rattle.sg_plain.specs.sg_clients.declared.mark.MarkKind.TheVariants.{Leave, Offer}
use Rattle.sg_plain.specs.sg_clients.declared.phase.Phase.{Phase as SeatPhase}
use Rattle.sg_plain.specs.sg_clients.declared.phase.Phase.TheVariants.{Idle, Asked, Held, Receipted, Blocked, Left}
use Rattle.sg_world.specs.declared.did.Did.{Did}
use Rattle.sg_world.specs.declared.did.Did.TheVariants.{Answered, Blocked as Waits, Booted, Loaded, Lost, Replayed, Served, Skipped, Struck}
use Rattle.sg_world.specs.Steps.{Steps, LackedMemory}
use Rattle.sg_world.specs.sg_world_laws.Setting.{Setting}
use Rattle.sg_play.specs.Asked.{AsksPlain, are_asked_so, first_items}
use Rattle.sg_play.specs.Following.Asking.{asked_by}
use Rattle.sg_play.specs.Following.Follows.{IsPastStop, HoldsSo, IsFollowing, NeverStopped}
use Rattle.sg_play.specs.Following.Stages.{IsNextTurn, player_by, stage_of}
use Rattle.sg_play.proofs.Fronts.{up_to_front, up_to_takes}
use Rattle.sg_play.proofs.Following.Asks.{asked_front, front_of_asked, whole_asked}
use Rattle.sg_play.proofs.Following.Onward.{front_of_play, whole_play}
use Rattle.sg_play.proofs.Following.Players.{new_players, same_players}
use Rattle.sg_play.proofs.Following.Seats.{each_set, plain_holds}
use Rattle.sg_play.proofs.Following.Stepped.{clients_stepped, follow_stepped, follow_stopped, idle_stepped}
use Rattle.sg_play.proofs.Following.There.{nothing_there}

-- ---- the beginning

new_seat_in : (count k : ℕ) → unwrap_or (slice_get (replicate count no_seat) k) no_seat ≡ no_seat
new_seat_in zero k = refl
new_seat_in (suc count) zero = refl
new_seat_in (suc count) (suc k) = new_seat_in count k

-- a world in which nothing was done follows it
pub following_new : (z : Setting) (script : Script) (w : WorldView) → w ≡ new_world (replicate (most_client script.clients) no_seat) → IsFollowing z script w 0 0
following_new z script w new = subst (λ y. IsFollowing z script y 0 0) (sym new) (record {
  hold = λ client from. subst (HoldsSo z.iface.facts) (sym (new_seat_in (most_client script.clients) (client - 1))) (plain_holds z.iface.facts no_seat (λ held. cc held) (λ receipted. cc receipted));
  follows = inl (record {
    items = [];
    one = refl;
    up = refl;
    all_there = nothing_there z.iface.facts;
    held = λ client from. subst (λ (s : Seat). s.phase ≡ Held → s.boot ≡ 1) (sym (new_seat_in (most_client script.clients) (client - 1))) (λ held. absurd (cc held));
    turns = 0;
    at = ap (λ ps. record { history = []; players = ps; schedule = script.schedule; last = 0 }) (new_players script 1 (most_client script.clients));
    asks = refl;
    all_asked = refl;
  });
})

-- ---- changes of one seat

-- an event that no call is done in
pub following_happened : (z : Setting) (script : Script) (w : WorldView) (passed last : ℕ) → IsFollowing z script w passed last → IsFollowing z script (happened w) passed last
following_happened z script w passed last f = record { hold = f.hold; follows = f.follows }

-- a client whose player stays the same, and that then neither holds a reply nor has a receipt
reseated : (z : Setting) (script : Script) (w : WorldView) (passed last c : ℕ) (new : Seat) → 1 ≤ c → c ≤ length w.seats → IsFollowing z script w passed last
    → player_by script c new ≡ player_by script c (seat_of w c) → new.phase ≢ Held → new.phase ≢ Receipted → IsFollowing z script (with_seat w c new) passed last
reseated z script w passed last c new first within f same not_held not_receipted = record {
  hold = each_set (HoldsSo z.iface.facts) w.seats c new first within f.hold (plain_holds z.iface.facts new not_held not_receipted);
  follows = by f.follows;
}
  where
    by : NeverStopped z script w.history w.run.boots w.running w.seats (stage_of script w passed last) ⊎ IsPastStop z script w.history w.run.boots w.running
        → NeverStopped z script w.history w.run.boots w.running (slice_set w.seats (c - 1) new) (stage_of script (with_seat w c new) passed last) ⊎ IsPastStop z script w.history w.run.boots w.running
    by (inr stopped) = inr stopped
    by (inl never) = inl (record {
      items = never.items;
      one = never.one;
      up = never.up;
      all_there = never.all_there;
      held = each_set (λ (s : Seat). s.phase ≡ Held → s.boot ≡ 1) w.seats c new first within never.held (λ held. absurd (not_held held));
      turns = never.turns;
      at = ap (λ ps. record { history = w.history; players = ps; schedule = drop passed script.schedule; last = last }) (same_players script w.seats c new first within same) ∙ never.at;
      asks = never.asks;
      all_asked = never.all_asked;
    })

-- something is marked of a client
remarked : (z : Setting) (script : Script) (w : WorldView) (passed last c : ℕ) (kind : MarkKind) → IsFollowing z script w passed last → IsFollowing z script (with_mark w c kind) passed last
remarked z script w passed last c kind f = record { hold = f.hold; follows = f.follows }

-- where a client has no call under way its player is that of the number of its calls
free_player : (script : Script) (c : ℕ) (s : Seat) → is_free_phase s.phase ≡ true → player_by script c s ≡ player_at (workload_of script) c s.seq
free_player script c s free = by s.phase s.call s.seq s.boot s.reply free
  where
    by : (p : SeatPhase) (call : Call) (seq boot : ℕ) (kept : Reply) → is_free_phase p ≡ true → player_by script c (record { phase = p; call = call; seq = seq; boot = boot; reply = kept }) ≡ player_at (workload_of script) c seq
    by Idle call seq boot kept free = refl
    by Left call seq boot kept free = refl
    by Asked call seq boot kept free = absurd (cc free)
    by Held call seq boot kept free = absurd (cc free)
    by Receipted call seq boot kept free = absurd (cc free)
    by Blocked call seq boot kept free = absurd (cc free)

-- ---- an offer

-- it changes nothing of it
pub following_offer : (z : Setting) (script : Script) (w : WorldView) (client passed last : ℕ) → 1 ≤ client → client ≤ length w.seats → IsFollowing z script w passed last
    → IsFollowing z script (with_offer z.iface.facts script w client) passed last
following_offer z script w client passed last first within f =
    by (is_free_phase (seat_of w client).phase) refl (call_after z.iface.facts script w.history client (length (calls_of w.history client)))
  where
    by : (b : Bool) → is_free_phase (seat_of w client).phase ≡ b → (call : Option Call) → IsFollowing z script (cond b (with_call w client call) w) passed last
    by false free call = f
    by true free None = f
    by true free (Some call) =
        let new : Seat = record (seat_of w client) { phase = Asked; call = call } in
        following_happened z script (offered w client call) passed last (remarked z script (with_seat w client new) passed last client Offer
        (reseated z script w passed last client new first within f (sym (free_player script client (seat_of w client) free)) (λ held. cc held) (λ receipted. cc receipted)))

-- and the stage after it is that before
pub stage_offered : (facts : Facts) (script : Script) (w : WorldView) (client passed last : ℕ) → 1 ≤ client → client ≤ length w.seats
    → stage_of script (with_offer facts script w client) passed last ≡ stage_of script w passed last
stage_offered facts script w client passed last first within = by (is_free_phase (seat_of w client).phase) refl (call_after facts script w.history client (length (calls_of w.history client)))
  where
    by : (b : Bool) → is_free_phase (seat_of w client).phase ≡ b → (call : Option Call) → stage_of script (cond b (with_call w client call) w) passed last ≡ stage_of script w passed last
    by false free call = refl
    by true free None = refl
    by true free (Some call) =
        ap (λ ps. record { history = w.history; players = ps; schedule = drop passed script.schedule; last = last })
        (same_players script w.seats client (record (seat_of w client) { phase = Asked; call = call }) first within (sym (free_player script client (seat_of w client) free)))

no_more : (calls : List ScriptCall) (k : ℕ) → slice_get calls k ≡ None → nat_lt k (length calls) ≡ false
no_more calls k none = not_below k (length calls) (by calls k none)
  where
    not_below : (m n : ℕ) → n ≤ m → nat_lt m n ≡ false
    not_below m n is = grind (arith, nat_tests)

    by : (l : List ScriptCall) (m : ℕ) → slice_get l m ≡ None → length l ≤ m
    by [] m none = omega arith
    by (c ∷ l) zero none = absurd (cc none)
    by (c ∷ l) (suc m) none = omega (arith, by l m none)

-- and after it who has no call under way has none left
pub offered_first : (z : Setting) (script : Script) (w : WorldView) (given : List (List ℕ)) (client : ℕ) → IsPlaying z.iface script w.history w.seats given → 1 ≤ client → client ≤ length w.seats
    → is_free_phase (seat_of (with_offer z.iface.facts script w client) client).phase ≡ true
    → nat_lt (seat_of (with_offer z.iface.facts script w client) client).seq (length (script_calls script client)) ≡ false
offered_first z script w given client is first within free =
    by (is_free_phase (seat_of w client).phase) refl (call_after z.iface.facts script w.history client (length (calls_of w.history client))) refl free
  where
    none_left : (found : Option ScriptCall) → slice_get (script_calls script client) (length (calls_of w.history client)) ≡ found
        → resolved z.iface.facts w.history client (length (calls_of w.history client) + 1) found ≡ None → slice_get (script_calls script client) (length (calls_of w.history client)) ≡ None
    none_left None there none = there
    none_left (Some c) there none = absurd (cc none)

    by : (b : Bool) → is_free_phase (seat_of w client).phase ≡ b → (call : Option Call) → call_after z.iface.facts script w.history client (length (calls_of w.history client)) ≡ call
        → is_free_phase (seat_of (cond b (with_call w client call) w) client).phase ≡ true → nat_lt (seat_of (cond b (with_call w client call) w) client).seq (length (script_calls script client)) ≡ false
    by false busy call next free = absurd (cc (sym busy ∙ free))
    by true was None next free =
        ap (λ n. nat_lt n (length (script_calls script client))) (is.callers.each client first within).count
        ∙ no_more (script_calls script client) (length (calls_of w.history client)) (none_left (slice_get (script_calls script client) (length (calls_of w.history client))) refl next)
    by true was (Some call) next free =
        absurd (cc (sym free ∙ ap (λ (s : Seat). is_free_phase s.phase) (seat_here w.seats client (record (seat_of w client) { phase = Asked; call = call }) first within)))

-- ---- a turn

-- a client leaves that has no call under way
following_leaving : (z : Setting) (script : Script) (w : WorldView) (passed last c : ℕ) → 1 ≤ c → c ≤ length w.seats → (seat_of w c).phase ≡ Idle → IsFollowing z script w passed last
    → IsFollowing z script (with_leaving script w c) passed last
following_leaving z script w passed last c first within idle f = by (nat_lt (seat_of w c).seq (length (script_calls script c)))
  where
    leave : (b : Bool) → IsFollowing z script (cond b w (with_mark (in_phase w c Left) c Leave)) passed last
    leave true = f
    leave false = remarked z script (in_phase w c Left) passed last c Leave
        (reseated z script w passed last c (record (seat_of w c) { phase = Left }) first within f (sym (free_player script c (seat_of w c) (ap is_free_phase idle))) (λ held. cc held) (λ receipted. cc receipted))

    by : (b : Bool) → IsFollowing z script (cond b w (happened (with_leave w c))) passed last
    by true = f
    by false = following_happened z script (with_leave w c) passed last (leave (is_left_phase (seat_of w c).phase))

module _ (z : Setting) (script : Script) (x now : WorldView) (given : List (List ℕ)) (client passed last later : ℕ) (is : IsPlaying z.iface script x.history x.seats given)
    (so : RecoversSoFar z x) (so_now : RecoversSoFar z now) (first : 1 ≤ client) (within : client ≤ length x.seats)
    (none_left : is_free_phase (seat_of x client).phase ≡ true → nat_lt (seat_of x client).seq (length (script_calls script client)) ≡ false) (f : IsFollowing z script x passed last)
    (turn : next_turn (workload_of script) (stage_of script x passed last) ≡ Some client) (schedule : drop later script.schedule ≡ left_schedule (workload_of script) (stage_of script x passed last)) where
  stepped : (did : Did) (w : WorldView) → Steps z x client did w → (did ≡ Served → Each (HasItem z.iface.facts w.history w.run) w.history) → IsFollowing z script w later client
  stepped did w l served = by f.follows
    where
      by : NeverStopped z script x.history x.run.boots x.running x.seats (stage_of script x passed last) ⊎ IsPastStop z script x.history x.run.boots x.running → IsFollowing z script w later client
      by (inl never) = follow_stepped z script x given client first within is passed last later f so turn schedule none_left never did w l served
      by (inr stopped) = follow_stopped z script x given client first within is passed last later f stopped did w l

  served_now : (w : WorldView) → now ≡ happened w → Each (HasItem z.iface.facts w.history w.run) w.history
  served_now w same = subst (λ (y : WorldView). Each (HasItem z.iface.facts y.history y.run) y.history) same so_now.recovering.served.items

  plain : (did : Did) (w : WorldView) → Steps z x client did w → now ≡ happened w → IsFollowing z script now later client
  plain did w l same = subst (λ y. IsFollowing z script y later client) (sym same) (following_happened z script w later client (stepped did w l (λ is_served. served_now w same)))

  answered : (reply : Reply) (w : WorldView) → Steps z x client (Answered reply) w → (y : WorldView) → y ≡ happened w → now ≡ with_leaving script y client → IsFollowing z script now later client
  answered reply w l y counted same =
      subst (λ k. IsFollowing z script k later client) (sym same) (subst (λ k. IsFollowing z script (with_leaving script k client) later client) (sym counted)
      (following_leaving z script (happened w) later client client first (omega (arith, within, clients_stepped z script x given client first within is passed last later f reply w l))
      (idle_stepped z script x given client first within is passed last later f reply w l)
      (following_happened z script w later client (stepped (Answered reply) w l (λ is_served. absurd (cc is_served))))))

  by_did : (did : Did) (w : WorldView) → Steps z x client did w → (y : WorldView) → y ≡ happened w → now ≡ after_step script client did y → IsFollowing z script now later client
  by_did (Answered reply) w l y counted same = answered reply w l y counted same
  by_did Skipped w l y counted same = plain Skipped w l (same ∙ counted)
  by_did Struck w l y counted same = plain Struck w l (same ∙ counted)
  by_did Booted w l y counted same = plain Booted w l (same ∙ counted)
  by_did Replayed w l y counted same = plain Replayed w l (same ∙ counted)
  by_did Loaded w l y counted same = plain Loaded w l (same ∙ counted)
  by_did Served w l y counted same = plain Served w l (same ∙ counted)
  by_did Waits w l y counted same = plain Waits w l (same ∙ counted)
  by_did Lost w l y counted same = plain Lost w l (same ∙ counted)

  -- the turn of the client whose turn it is in the play without stops, after its offer
  pub following_turn : (handed : Option ℕ) → StepsInTurn z script x client handed now → IsFollowing z script now later client
  following_turn handed t = by_did t.did t.stepped.later t.stepped.steps t.later t.stepped.counted t.is

-- the same of an offer with the turn after it
module _ (z : Setting) (script : Script) (w : WorldView) (given : List (List ℕ)) (client passed last : ℕ) (is : IsPlaying z.iface script w.history w.seats given) (first : 1 ≤ client)
    (within : client ≤ length w.seats) (f : IsFollowing z script w passed last) where
  abbrev behind : WorldView
  behind = with_offer z.iface.facts script w client

  pub following_taken : (now : WorldView) (later : ℕ) (handed : Option ℕ) → IsNextTurn script (stage_of script w passed last) client later → IsPlaying z.iface script behind.history behind.seats given → RecoversSoFar z behind → RecoversSoFar z now
      → StepsInTurn z script behind client handed now → IsFollowing z script now later client
  following_taken now later handed next offered told_before told steps =
      let same : stage_of script behind passed last ≡ stage_of script w passed last = stage_offered z.iface.facts script w client passed last first within in
      following_turn z script behind now given client passed last later offered told_before told first (omega (arith, within, is.clients, offered.clients))
      (offered_first z script w given client is first within) (following_offer z script w client passed last first within f)
      (ap (next_turn (workload_of script)) same ∙ next.turn) (next.schedule ∙ ap (left_schedule (workload_of script)) (sym same)) handed steps

-- ---- a turn that wanted memory

-- it changes nothing of it
pub following_wanted : (z : Setting) (script : Script) (x now : WorldView) (client passed last : ℕ) → LackedMemory z x client now → IsFollowing z script x passed last → IsFollowing z script now passed last
following_wanted z script x now client passed last wants f = subst (λ y. IsFollowing z script y passed last) (sym wants.counted) (record { hold = f.hold; follows = f.follows })

-- ---- the end

-- a run whose first boot stopped was struck
was_struck : (run : Run) (first : Boot) (newer : List Boot) → run.boots ≡ first ∷ newer → IsSome first.stop → struck_in run ≡ [] → ⊥
was_struck run first newer are stopped none = by first.stop stopped (sym (ap (flat_map (λ b. stop_in b.stop)) are) ∙ none)
  where
    by : (o : Option ℕ) → IsSome o → stop_in o ++ flat_map (λ b. stop_in b.stop) newer ≡ [] → ⊥
    by None some nothing = cc some
    by (Some n) some nothing = cc nothing

module _ (z : Setting) (script : Script) (w : WorldView) (passed last : ℕ) (f : IsFollowing z script w passed last) (over : next_turn (workload_of script) (stage_of script w passed last) ≡ None) where
  abbrev test : Entry → Bool
  test = is_in_first_boot z.iface.facts w.run.boots

  -- where nobody can take a turn, it is as promised to the play without stops
  pub following_end : (plain : List Entry) → IsPlainPlay z.iface z.ask script plain → FollowsPlain z.iface.facts w.run w.history plain
  following_end plain play = by f.follows
    where
      by : NeverStopped z script w.history w.run.boots w.running w.seats (stage_of script w passed last) ⊎ IsPastStop z script w.history w.run.boots w.running
          → FollowsPlain z.iface.facts w.run w.history plain
      by (inl never) =
          let plain_is : plain ≡ w.history = whole_play z.iface z.ask script never.turns plain (ap (next_turn (workload_of script)) (sym never.at) ∙ over) play ∙ ap (λ (s : Stage Entry). s.history) (sym never.at) in
          record {
            first_boot = up_to_takes test w.history [] ∙ ap (take (length (up_to_last test w.history))) (append-nil w.history ∙ sym plain_is);
            whole = λ none. sym plain_is;
          }
      by (inr stopped) =
          let front = (stage_after z.iface z.ask script stopped.turns).history in
          let begins = front_of_play z.iface z.ask script stopped.turns plain play in
          let same : up_to_last test w.history ≡ up_to_last test front = ap (up_to_last test) stopped.entries ∙ up_to_front test front stopped.more stopped.later in
          record {
            first_boot = same ∙ up_to_takes test front begins.rest ∙ ap (take (length (up_to_last test front))) (sym begins.is) ∙ ap (λ l. take (length l) plain) (sym same);
            whole = λ none. absurd (was_struck w.run stopped.first stopped.newer stopped.are stopped.stopped none);
          }

  -- and so is what it asked
  pub following_asked : (plain : List Entry) (play : IsPlainPlay z.iface z.ask script plain) → AsksPlain w.run (asked_by z.iface z.ask script play.turns)
  following_asked plain play = by f.follows
    where
      by : NeverStopped z script w.history w.run.boots w.running w.seats (stage_of script w passed last) ⊎ IsPastStop z script w.history w.run.boots w.running
          → AsksPlain w.run (asked_by z.iface z.ask script play.turns)
      by (inl never) =
          let same = whole_asked z.iface z.ask script never.turns plain (ap (next_turn (workload_of script)) (sym never.at) ∙ over) play in
          let first : first_items w.run.boots ≡ never.items = ap first_items never.one in
          record {
            first_boot = ap (λ l. are_asked_so l (asked_by z.iface z.ask script play.turns)) first ∙ ap (are_asked_so never.items) same ∙ never.asks;
            whole = λ none. ap length first ∙ never.all_asked ∙ sym (ap length same);
          }
      by (inr stopped) =
          let front = front_of_asked z.iface z.ask script stopped.asked plain play in
          let first : first_items w.run.boots ≡ stopped.first.items = ap first_items stopped.are in
          record {
            first_boot = ap (λ l. are_asked_so l (asked_by z.iface z.ask script play.turns)) first ∙ ap (are_asked_so stopped.first.items) front.1
                ∙ asked_front stopped.first.items (asked_by z.iface z.ask script stopped.asked) front.0 stopped.asks;
            whole = λ none. absurd (was_struck w.run stopped.first stopped.newer stopped.are stopped.stopped none);
          }

  -- and where nothing struck it is a play without stops
  pub following_over : struck_in w.run ≡ [] → IsPlainPlay z.iface z.ask script w.history
  following_over none = by f.follows
    where
      by : NeverStopped z script w.history w.run.boots w.running w.seats (stage_of script w passed last) ⊎ IsPastStop z script w.history w.run.boots w.running → IsPlainPlay z.iface z.ask script w.history
      by (inl never) = record { turns = never.turns; over = ap (next_turn (workload_of script)) (sym never.at) ∙ over; is = ap (λ (s : Stage Entry). s.history) never.at }
      by (inr stopped) = absurd (was_struck w.run stopped.first stopped.newer stopped.are stopped.stopped none)

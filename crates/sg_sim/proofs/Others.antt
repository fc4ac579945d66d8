-- The turn of a client leaves the seats of the others that don't wait; so the turns of the setup leave those of all but client 1.
use Rattle.std.proofs.Common.{◌≡◌, ◌≢◌, ◌⊎◌, ℕ, zero, suc, ◌+◌, ◌-◌, ◌<◌, ◌≤◌, Bool, true, false, cond, List, ◌++◌, ◌∷◌, [], None, Some, length, map, refl, sym, ◌∙◌, ap, subst, inl, inr, arith, slice_set}
use Rattle.std.specs.declared.option.Option.{Option}
use Rattle.std.specs.Prelude.{◌&&◌, nat_lt, slice_get, unwrap_or}
use Rattle.std.proofs.lemmas.Bool.Decides.{nat_tests}
use Rattle.std.proofs.lemmas.List.{length-append}
use Rattle.sg_facts.specs.Facts.{Facts}
use Rattle.sg_facts.specs.Interface.{Declared}
use Rattle.sg_facts.specs.Limits.{most_script_calls}
use Rattle.sg_facts.specs.Object.{object_of}
use Rattle.sg_facts.specs.declared.entry.Entry.{Entry}
use Rattle.sg_facts.specs.sg_base.declared.call.Call.{Call}
use Rattle.sg_facts.specs.sg_base.declared.reply.Reply.{Reply}
use Rattle.sg_play.proofs.sg_plain.Playing.Calling.{its_client}
use Rattle.sg_play.proofs.sg_plain.sg_clients.Lines.{length_map, length_set, seat_here, seat_there, seat_woken}
use Rattle.sg_play.specs.Turning.{StepsInTurn, after_step, handed_by, with_call, with_leaving, with_offer}
use Rattle.sg_play.specs.sg_hist.Clients.{calls_of}
use Rattle.sg_play.specs.sg_plain.Calls.{call_after, script_calls}
use Rattle.sg_play.specs.sg_plain.Playing.Callers.{handed, is_setting_up}
use Rattle.sg_play.specs.sg_plain.Playing.Given.{given_in, with_handed}
use Rattle.sg_play.specs.sg_plain.Playing.Playable.{IsPlayable}
use Rattle.sg_play.specs.sg_plain.Playing.Plays.{IsPlaying}
use Rattle.sg_play.specs.sg_plain.Playing.Turns.{is_free_phase, may_go, may_take_turn}
use Rattle.sg_play.specs.sg_script.declared.script.Script.{Script}
use Rattle.sg_play.specs.sg_clients.WorldView.{Seat, WorldView, happened, in_phase, is_blocked_phase, is_left_phase, is_offered, no_reply, seat_in, seat_of, wakes_seat, with_leave, with_mark, woken_seat}
use Rattle.sg_play.specs.sg_clients.declared.mark.MarkKind.TheVariants.{Leave}
use Rattle.sg_play.specs.sg_clients.declared.phase.Phase.{Phase}
use Rattle.sg_play.specs.sg_clients.declared.phase.Phase.TheVariants.{Asked, Blocked, Held, Idle, Left, Receipted}
use Rattle.sg_play.specs.sg_world.declared.did.Did.{Did}
use Rattle.sg_play.specs.sg_world.declared.did.Did.TheVariants.{Answered, Blocked as Waits, Booted, Loaded, Lost, Replayed, Served, Skipped, Struck}
use Rattle.sg_play.specs.sg_world.Steps.{Commits, HasStepped, Steps, LackedMemory}
use Rattle.sg_play.specs.sg_world_laws.Setting.{Setting}
use Rattle.sg_sim.proofs.Beginning.{clients_from_one, given_count}
use Rattle.sg_sim.specs.Inside.Taken.{MissesTurn, TakesTurn, after_offer}
use Rattle.sg_sim.specs.Playing.{HasMissed}

-- each client but one keeps its seat, unless it waits
abbrev pub OthersKeep : ℕ → List Seat → List Seat → Type 0
OthersKeep c seats later = (client : ℕ) → 1 ≤ client → client ≢ c → is_blocked_phase (seat_in seats client).phase ≡ false → seat_in later client ≡ seat_in seats client

-- ---- small changes

keep_same : (c : ℕ) (seats : List Seat) → OthersKeep c seats seats
keep_same c seats client from other runs = refl

keep_set : (c : ℕ) (seats : List Seat) (new : Seat) → 1 ≤ c → OthersKeep c seats (slice_set seats (c - 1) new)
keep_set c seats new first client from other runs = seat_there seats c client new first from other

runs_on : (f : Call → Bool) (s : Seat) → is_blocked_phase s.phase ≡ false → woken_seat f s ≡ s
runs_on f s runs = ap (λ b. cond (b && f s.call) (record s { phase = Asked }) s) runs

keep_woken : (c : ℕ) (f : Call → Bool) (seats : List Seat) → OthersKeep c seats (map (woken_seat f) seats)
keep_woken c f seats client from other runs = seat_woken f seats client ∙ runs_on f (seat_in seats client) runs

keep_entered : (c : ℕ) (f : Call → Bool) (seats : List Seat) (new : Seat) → 1 ≤ c → OthersKeep c seats (slice_set (map (woken_seat f) seats) (c - 1) new)
keep_entered c f seats new first client from other runs =
    seat_there (map (woken_seat f) seats) c client new first from other ∙ keep_woken c f seats client from other runs

-- what a change keeps, by the seats that it leaves
keep_by : (c : ℕ) (seats later later' : List Seat) → later' ≡ later → OthersKeep c seats later → OthersKeep c seats later'
keep_by c seats later later' same keeps = subst (OthersKeep c seats) (sym same) keeps

-- one change after another, where the first leaves who waits as it is
keep_then : (c : ℕ) (seats between later : List Seat) → OthersKeep c seats between → OthersKeep c between later → OthersKeep c seats later
keep_then c seats between later one two client from other runs =
    let same = one client from other runs in
    two client from other (ap (λ s. is_blocked_phase s.phase) same ∙ runs) ∙ same

-- ---- a step

module _ (z : Setting) (w : WorldView) (c : ℕ) (first : 1 ≤ c) (its : is_offered (seat_of w c).phase ≡ true → (seat_of w c).call.client ≡ c) where
  abbrev s : Seat
  s = seat_of w c

  abbrev woken : Reply → List Seat
  woken reply = map (woken_seat (wakes_seat z.iface.facts (object_of z.iface.facts w.history).rows s.call reply)) w.seats

  -- an entry of the client's call, after which its seat is another
  entered : (reply : Reply) (new : ℕ → Seat) (later : WorldView) → is_offered s.phase ≡ true → later.seats ≡ slice_set (woken reply) (s.call.client - 1) (new s.call.client) → OthersKeep c w.seats later.seats
  entered reply new later offers seats =
      keep_by c w.seats _ later.seats (seats ∙ ap (λ n. slice_set (woken reply) (n - 1) (new n)) (its offers))
      (keep_entered c (wakes_seat z.iface.facts (object_of z.iface.facts w.history).rows s.call reply) w.seats (new c) first)

  same : (later : WorldView) → later.seats ≡ w.seats → OthersKeep c w.seats later.seats
  same later seats = keep_by c w.seats w.seats later.seats seats (keep_same c w.seats)

  set : (later : WorldView) (new : Seat) → later.seats ≡ slice_set w.seats (c - 1) new → OthersKeep c w.seats later.seats
  set later new seats = keep_by c w.seats _ later.seats seats (keep_set c w.seats new first)

  commits : (between : WorldView) → Commits z w c between → OthersKeep c w.seats between.seats
  commits between l =
      entered l.reply (λ n. record (seat_in (woken l.reply) n) { phase = Receipted; seq = s.call.seq; reply = l.reply }) between (ap is_offered l.asks.reaches.uses.let_in.phase) (ap (λ x. x.seats) l.now)

  answered : (reply : Reply) (later : WorldView) → is_offered s.phase ≡ true
      → later.seats ≡ slice_set (woken reply) (s.call.client - 1) (record (seat_in (woken reply) s.call.client) { phase = Idle; seq = s.call.seq; reply = no_reply }) → OthersKeep c w.seats later.seats
  answered reply later offers seats = entered reply (λ n. record (seat_in (woken reply) n) { phase = Idle; seq = s.call.seq; reply = no_reply }) later offers seats

  pub others_step : (did : Did) (later : WorldView) → Steps z w c did later → OthersKeep c w.seats later.seats
  others_step Skipped later l = same later (ap (λ x. x.seats) l.now)
  others_step (Answered reply) later (inl l) = set later (record s { phase = Idle; reply = no_reply }) (ap (λ x. x.seats) l.now)
  others_step (Answered reply) later (inr (inl l)) = answered reply later (ap is_offered l.phase) (ap (λ x. x.seats) l.now)
  others_step (Answered reply) later (inr (inr l)) = answered reply later (ap is_offered l.phase) (ap (λ x. x.seats) l.now)
  others_step Lost later l = set later (record s { phase = Asked }) (ap (λ x. x.seats) l.now)
  others_step Booted later l = keep_by c w.seats _ later.seats (ap (λ x. x.seats) l.now) (keep_woken c (λ call. true) w.seats)
  others_step Struck later (inl l) = same later (ap (λ x. x.seats) l.now)
  others_step Struck later (inr (inl l)) = same later (ap (λ x. x.seats) l.now)
  others_step Struck later (inr (inr (inl l))) = same later (ap (λ x. x.seats) l.now)
  others_step Struck later (inr (inr (inr l))) = keep_by c w.seats _ later.seats (ap (λ x. x.seats) l.now) (commits l.between l.commits)
  others_step Replayed later l = same later (ap (λ x. x.seats) l.now)
  others_step Loaded later l = same later (ap (λ x. x.seats) l.now)
  others_step Waits later l = set later (record s { phase = Blocked }) (ap (λ x. x.seats) l.now)
  others_step Served later (inl l) = keep_by c w.seats _ later.seats (ap (λ x. x.seats) l.now) (commits l.between l.commits)
  others_step Served later (inr l) = set later (record s { phase = Held; boot = length w.run.boots; reply = l.reply }) (ap (λ x. x.seats) l.now)

-- ---- an offer, and a leaving

others_called : (w : WorldView) (c : ℕ) (call : Option Call) → 1 ≤ c → OthersKeep c w.seats (with_call w c call).seats
others_called w c None first = keep_same c w.seats
others_called w c (Some call) first = keep_set c w.seats (record (seat_of w c) { phase = Asked; call = call }) first

others_offered : (facts : Facts) (script : Script) (w : WorldView) (c : ℕ) → 1 ≤ c → OthersKeep c w.seats (with_offer facts script w c).seats
others_offered facts script w c first = by (is_free_phase (seat_of w c).phase)
  where
    next : Option Call
    next = call_after facts script w.history c (length (calls_of w.history c))

    by : (b : Bool) → OthersKeep c w.seats (cond b (with_call w c next) w).seats
    by true = others_called w c next first
    by false = keep_same c w.seats

left : (w : WorldView) (c : ℕ) → 1 ≤ c → OthersKeep c w.seats (with_leave w c).seats
left w c first = by (is_left_phase (seat_of w c).phase)
  where
    by : (b : Bool) → OthersKeep c w.seats (cond b w (with_mark (in_phase w c Left) c Leave)).seats
    by true = keep_same c w.seats
    by false = keep_set c w.seats (record (seat_of w c) { phase = Left }) first

others_left : (script : Script) (w : WorldView) (c : ℕ) → 1 ≤ c → OthersKeep c w.seats (with_leaving script w c).seats
others_left script w c first = by (nat_lt (seat_of w c).seq (length (script_calls script c)))
  where
    by : (b : Bool) → OthersKeep c w.seats (cond b w (happened (with_leave w c))).seats
    by true = keep_same c w.seats
    by false = left w c first

others_after : (script : Script) (c : ℕ) (did : Did) (later : WorldView) → 1 ≤ c → OthersKeep c later.seats (after_step script c did later).seats
others_after script c Skipped later first = keep_same c later.seats
others_after script c (Answered reply) later first = others_left script later c first
others_after script c Lost later first = keep_same c later.seats
others_after script c Booted later first = keep_same c later.seats
others_after script c Struck later first = keep_same c later.seats
others_after script c Replayed later first = keep_same c later.seats
others_after script c Loaded later first = keep_same c later.seats
others_after script c Waits later first = keep_same c later.seats
others_after script c Served later first = keep_same c later.seats

-- ---- a turn

module _ (z : Setting) (script : Script) (w : WorldView) (given : List (List ℕ)) (c : ℕ) (first : 1 ≤ c) where
  abbrev x : WorldView
  x = after_offer z script w given c

  others_turned : (handed : Option ℕ) (now : WorldView) → c ≤ length x.seats → IsPlaying z.iface script x.history x.seats given → StepsInTurn z script x c handed now → OthersKeep c x.seats now.seats
  others_turned handed now last is t =
      let its : is_offered (seat_of x c).phase ≡ true → (seat_of x c).call.client ≡ c
      = λ offers. its_client z.iface.facts script x.history c (length (calls_of x.history c)) (seat_of x c).call ((is.callers.each c first last).next offers) in
      let stepped = keep_by c x.seats _ t.later.seats (ap (λ v. v.seats) t.stepped.counted) (others_step z x c first its t.did t.stepped.later t.stepped.steps) in
      keep_by c x.seats _ now.seats (ap (λ v. v.seats) t.is) (keep_then c x.seats t.later.seats _ stepped (others_after script c t.did t.later first))

  pub others_taken : (handed : Option ℕ) (now : WorldView) (later : List (List ℕ)) → IsPlaying z.iface script w.history w.seats given → c ≤ length w.seats → TakesTurn z script w given c handed now later
      → OthersKeep c w.seats now.seats
  others_taken handed now later was last t =
      keep_then c w.seats x.seats now.seats (others_offered z.iface.facts script w c first)
      (others_turned handed now (omega (arith, last, was.clients, t.offered.clients)) t.offered t.steps)

  pub others_missed : (now : WorldView) (later : List (List ℕ)) → MissesTurn z script w given c now later → OthersKeep c w.seats now.seats
  others_missed now later m = by m.missed
    where
      by : (now ≡ w) ⊎ (now ≡ happened w) ⊎ (IsPlaying z.iface script x.history x.seats given × LackedMemory z x c now) → OthersKeep c w.seats now.seats
      by (inl is) = keep_by c w.seats w.seats now.seats (ap (λ v. v.seats) is) (keep_same c w.seats)
      by (inr (inl is)) = keep_by c w.seats w.seats now.seats (ap (λ v. v.seats) is) (keep_same c w.seats)
      by (inr (inr both)) = keep_by c w.seats x.seats now.seats (ap (λ v. v.seats) both.1.counted) (others_offered z.iface.facts script w c first)

-- ---- the setup

-- who offers nothing doesn't wait
runs : (p : Phase) → is_offered p ≡ false → is_blocked_phase p ≡ false
runs Idle free = refl
runs Asked free = refl
runs Held free = refl
runs Receipted free = refl
runs Blocked free = absurd (cc free)
runs Left free = refl

-- while client 1 is at the calls of the setup, the others keep their seats where they keep them unless they wait
pub setup_keeps : (i : Declared) (script : Script) (history : List Entry) (seats later : List Seat) (given : List (List ℕ)) → IsPlaying i script history seats given → is_setting_up script seats ≡ true
    → OthersKeep 1 seats later → (client : ℕ) → 2 ≤ client → seat_in later client ≡ seat_in seats client
setup_keeps i script history seats later given is setting keeps client from =
    let first : 1 ≤ client = omega (arith, from) in
    let other : client ≢ 1 = λ same. omega (arith, from, same) in
    keeps client first other (runs (seat_in seats client).phase (is.first.others setting client first other))

-- ---- replies that are handed over

one_longer : (given : List (List ℕ)) (k j id : ℕ) → length (unwrap_or (slice_get (slice_set given k (unwrap_or (slice_get given k) [] ++ id ∷ [])) j) []) ≤ length (unwrap_or (slice_get given j) []) + 1
one_longer [] k j id = omega arith
one_longer (l ∷ given) zero zero id = omega (arith, length-append l (id ∷ []))
one_longer (l ∷ given) zero (suc j) id = omega arith
one_longer (l ∷ given) (suc k) zero id = omega arith
one_longer (l ∷ given) (suc k) (suc j) id = one_longer given k j id

gave_one : (given : List (List ℕ)) (client : ℕ) (told : Option ℕ) → length (given_in (with_handed given client told) 1) ≤ length (given_in given 1) + 1
gave_one given client None = omega arith
gave_one given client (Some id) = one_longer given (client - 1) 0 id

-- client 1 was handed over so many replies more as it was given descriptors
more_handed : (i : Declared) (script : Script) (history now : List Entry) (seats later : List Seat) (given gave : List (List ℕ)) → IsPlaying i script history seats given → IsPlaying i script now later gave
    → length (given_in gave 1) ≤ length (given_in given 1) + 1 → handed (seat_in later 1) ≤ handed (seat_in seats 1) + 1
more_handed i script history now seats later given gave was is more =
    let first_was : 1 ≤ length seats = omega (arith, was.clients, clients_from_one 0 script.clients was.playable.clients) in
    let first_is : 1 ≤ length later = omega (arith, is.clients, clients_from_one 0 script.clients is.playable.clients) in
    omega (arith, more, given_count i script history seats given was 1 (omega arith) first_was, given_count i script now later gave is 1 (omega arith) first_is)

module _ (z : Setting) (script : Script) (w : WorldView) (given : List (List ℕ)) (c : ℕ) (was : IsPlaying z.iface script w.history w.seats given) where
  pub one_taken : (told : Option ℕ) (now : WorldView) (gave : List (List ℕ)) → TakesTurn z script w given c told now gave → handed (seat_of now 1) ≤ handed (seat_of w 1) + 1
  one_taken told now gave t =
      more_handed z.iface script w.history now.history w.seats now.seats given gave was t.playing (subst (λ l. length (given_in l 1) ≤ length (given_in given 1) + 1) (sym t.gives) (gave_one given c told))

  pub one_missed : (now : WorldView) (gave : List (List ℕ)) → MissesTurn z script w given c now gave → handed (seat_of now 1) ≤ handed (seat_of w 1) + 1
  one_missed now gave m = more_handed z.iface script w.history now.history w.seats now.seats given given was m.playing (omega arith)

-- one reply more than fewer than all is at most all
pub up_to_all : (a b n : ℕ) → nat_lt a n ≡ true → b ≤ a + 1 → b ≤ n
up_to_all a b n below more = grind (arith, nat_tests)

-- ---- who was handed a reply over has no call under way

-- a client has no call under way, and there are as many clients as before
record IsIdle (w : WorldView) (c : ℕ) (later : WorldView) : Type 0 where
  pub idle : (seat_of later c).phase ≡ Idle
  pub clients : length later.seats ≡ length w.seats

module _ (z : Setting) (w : WorldView) (c : ℕ) (first : 1 ≤ c) (last : c ≤ length w.seats) (its : is_offered (seat_of w c).phase ≡ true → (seat_of w c).call.client ≡ c) where
  idle_set : (later : WorldView) (seats : List Seat) (new : Seat) → length seats ≡ length w.seats → later.seats ≡ slice_set seats (c - 1) new → new.phase ≡ Idle → IsIdle w c later
  idle_set later seats new same is idle = record {
    idle = ap (λ l. (seat_in l c).phase) is ∙ ap (λ x. x.phase) (seat_here seats c new first (omega (arith, last, same))) ∙ idle;
    clients = ap length is ∙ length_set seats (c - 1) new ∙ same;
  }

  abbrev asked_again : Reply → List Seat
  asked_again reply = map (woken_seat (wakes_seat z.iface.facts (object_of z.iface.facts w.history).rows (seat_of w c).call reply)) w.seats

  idle_entered : (reply : Reply) (later : WorldView) → is_offered (seat_of w c).phase ≡ true
      → later.seats ≡ slice_set (asked_again reply) ((seat_of w c).call.client - 1) (record (seat_in (asked_again reply) (seat_of w c).call.client) { phase = Idle; seq = (seat_of w c).call.seq; reply = no_reply }) → IsIdle w c later
  idle_entered reply later offers seats =
      idle_set later (asked_again reply) (record (seat_in (asked_again reply) c) { phase = Idle; seq = (seat_of w c).call.seq; reply = no_reply })
      (length_map (woken_seat (wakes_seat z.iface.facts (object_of z.iface.facts w.history).rows (seat_of w c).call reply)) w.seats)
      (seats ∙ ap (λ n. slice_set (asked_again reply) (n - 1) (record (seat_in (asked_again reply) n) { phase = Idle; seq = (seat_of w c).call.seq; reply = no_reply })) (its offers)) refl

  idle_answered : (reply : Reply) (later : WorldView) → Steps z w c (Answered reply) later → IsIdle w c later
  idle_answered reply later (inl l) = idle_set later w.seats (record (seat_of w c) { phase = Idle; reply = no_reply }) refl (ap (λ x. x.seats) l.now) refl
  idle_answered reply later (inr (inl l)) = idle_entered reply later (ap is_offered l.phase) (ap (λ x. x.seats) l.now)
  idle_answered reply later (inr (inr l)) = idle_entered reply later (ap is_offered l.phase) (ap (λ x. x.seats) l.now)

free_gone : (w : WorldView) (c : ℕ) → 1 ≤ c → c ≤ length w.seats → (seat_of w c).phase ≡ Idle → is_free_phase (seat_of (with_leave w c) c).phase ≡ true
free_gone w c first last idle = by (is_left_phase (seat_of w c).phase)
  where
    by : (b : Bool) → is_free_phase (seat_of (cond b w (with_mark (in_phase w c Left) c Leave)) c).phase ≡ true
    by true = ap is_free_phase idle
    by false = ap (λ x. is_free_phase x.phase) (seat_here w.seats c (record (seat_of w c) { phase = Left }) first last)

free_left : (script : Script) (w : WorldView) (c : ℕ) → 1 ≤ c → c ≤ length w.seats → (seat_of w c).phase ≡ Idle → is_free_phase (seat_of (with_leaving script w c) c).phase ≡ true
free_left script w c first last idle = by (nat_lt (seat_of w c).seq (length (script_calls script c)))
  where
    by : (b : Bool) → is_free_phase (seat_of (cond b w (happened (with_leave w c))) c).phase ≡ true
    by true = ap is_free_phase idle
    by false = free_gone w c first last idle

module _ (z : Setting) (script : Script) (w : WorldView) (c : ℕ) (first : 1 ≤ c) (last : c ≤ length w.seats) (its : is_offered (seat_of w c).phase ≡ true → (seat_of w c).call.client ≡ c) where
  free_told : (id : ℕ) (did : Did) (later now : WorldView) → HasStepped z w c did later → Some id ≡ handed_by did → now ≡ after_step script c did later → is_free_phase (seat_of now c).phase ≡ true
  free_told id (Answered reply) later now stepped told is =
      let there = idle_answered z w c first last its reply stepped.later stepped.steps in
      let clients : length later.seats ≡ length w.seats = ap (λ v. length v.seats) stepped.counted ∙ there.clients in
      let idle : (seat_of later c).phase ≡ Idle = ap (λ v. (seat_of v c).phase) stepped.counted ∙ there.idle in
      ap (λ v. is_free_phase (seat_of v c).phase) is ∙ free_left script later c first (omega (arith, last, clients)) idle
  free_told id Skipped later now stepped told is = absurd (cc told)
  free_told id Lost later now stepped told is = absurd (cc told)
  free_told id Booted later now stepped told is = absurd (cc told)
  free_told id Struck later now stepped told is = absurd (cc told)
  free_told id Replayed later now stepped told is = absurd (cc told)
  free_told id Loaded later now stepped told is = absurd (cc told)
  free_told id Waits later now stepped told is = absurd (cc told)
  free_told id Served later now stepped told is = absurd (cc told)

-- a setup that goes on, and one that is done
on_and_done : (a b n : ℕ) → a ≡ b → nat_lt a n ≡ true → nat_lt b n ≡ false → ⊥
on_and_done a b n same on done = grind (arith, nat_tests)

module _ (z : Setting) (script : Script) (w : WorldView) (given : List (List ℕ)) (c : ℕ) (first : 1 ≤ c) (last : c ≤ length w.seats) (was : IsPlaying z.iface script w.history w.seats given) where
  abbrev y : WorldView
  y = after_offer z script w given c

  -- where nothing was handed over the setup goes on
  none_given : (now : WorldView) → IsPlaying z.iface script now.history now.seats given → is_setting_up script w.seats ≡ true → is_setting_up script now.seats ≡ false → ⊥
  none_given now is on done =
      let first_was : 1 ≤ length w.seats = omega (arith, was.clients, clients_from_one 0 script.clients was.playable.clients) in
      let first_is : 1 ≤ length now.seats = omega (arith, is.clients, clients_from_one 0 script.clients is.playable.clients) in
      let before = given_count z.iface script w.history w.seats given was 1 (omega arith) first_was in
      let behind = given_count z.iface script now.history now.seats given is 1 (omega arith) first_is in
      on_and_done (handed (seat_in w.seats 1)) (handed (seat_in now.seats 1)) (length script.setup) (sym before ∙ behind) on done

  -- a turn that ends the setup leaves its client with no call under way
  pub done_free : (told : Option ℕ) (now : WorldView) (gave : List (List ℕ)) → TakesTurn z script w given c told now gave → is_setting_up script w.seats ≡ true → is_setting_up script now.seats ≡ false
      → is_free_phase (seat_of now c).phase ≡ true
  done_free None now gave t on done = absurd (none_given now (subst (IsPlaying z.iface script now.history now.seats) t.gives t.playing) on done)
  done_free (Some id) now gave t on done =
      let s = t.steps in
      let its : is_offered (seat_of y c).phase ≡ true → (seat_of y c).call.client ≡ c
      = λ offers. its_client z.iface.facts script y.history c (length (calls_of y.history c)) (seat_of y c).call ((t.offered.callers.each c first (omega (arith, last, was.clients, t.offered.clients))).next offers) in
      free_told z script y c first (omega (arith, last, was.clients, t.offered.clients)) its id s.did s.later now s.stepped s.told s.is

  pub missed_on : (now : WorldView) (gave : List (List ℕ)) → MissesTurn z script w given c now gave → is_setting_up script w.seats ≡ true → is_setting_up script now.seats ≡ false → ⊥
  missed_on now gave m on done = none_given now m.playing on done

-- ---- a turn that was missed

pub has_missed : (z : Setting) (script : Script) (w : WorldView) (given : List (List ℕ)) (c : ℕ) (now : WorldView) (gave : List (List ℕ)) → MissesTurn z script w given c now gave → HasMissed z script w c now
has_missed z script w given c now gave m = by m.missed
  where
    by : (now ≡ w) ⊎ (now ≡ happened w) ⊎ (IsPlaying z.iface script (after_offer z script w given c).history (after_offer z script w given c).seats given × LackedMemory z (after_offer z script w given c) c now)
        → HasMissed z script w c now
    by (inl is) = inl is
    by (inr (inl is)) = inr (inl is)
    by (inr (inr both)) = inr (inr both.1)

-- ---- the number of the next call

has_more : (p : Phase) (more : Bool) → is_free_phase p ≡ true → may_go p more ≡ true → more ≡ true
has_more Idle more free may = may
has_more Left more free may = may
has_more Asked more free may = absurd (cc free)
has_more Held more free may = absurd (cc free)
has_more Receipted more free may = absurd (cc free)
has_more Blocked more free may = absurd (cc free)

below_most : (a n : ℕ) → nat_lt a n ≡ true → n ≤ most_script_calls → a < most_script_calls
below_most a n below few = grind (arith, nat_tests)

-- who has none under way and may take a turn has made fewer calls than a script may have
pub few_made : (i : Declared) (script : Script) (s : Seat) (client : ℕ) → IsPlayable i script → is_free_phase s.phase ≡ true → may_take_turn script client s ≡ true → s.seq < most_script_calls
few_made i script s client playable free may =
    below_most s.seq (length (script_calls script client)) (has_more s.phase (nat_lt s.seq (length (script_calls script client))) free may) (playable.few client)

-- A play over several services follows the play without stops, from its beginning, over offers and steps, while no member is stopped.
use Rattle.std.proofs.Common.{◌≡◌, ◌≢◌, ◌⊎◌, ℕ, suc, ◌+◌, ◌-◌, ◌≤◌, true, false, cond, List, [], ◌∷◌, ◌++◌, None, Some, drop, length, map, refl, sym, ◌∙◌, ap, subst, inl, inr, arith, replicate, zero}
use Rattle.std.specs.Prelude.{nat_lt, slice_get, unwrap_or}
use Rattle.std.specs.Option.{option_map_or}
use Rattle.std.specs.declared.option.Option.{Option}
use Rattle.sg_facts.specs.declared.entry.Entry.{Entry}
use Rattle.sg_facts.specs.Trace.{run_of}
use Rattle.sg_facts.specs.sg_base.Lists.{Each}
use Rattle.sg_facts.specs.sg_base.declared.call.Call.{Call}
use Rattle.sg_multi.proofs.sg_sim.Beginning.{new_seat}
use Rattle.sg_multi.proofs.sg_sim.sg_play.sg_plain.sg_clients.Lines.{same_or_other, seat_here, seat_there}
use Rattle.sg_multi.specs.Members.{ChangesAt, Membered, setting_in, view_in}
use Rattle.sg_multi.specs.sg_sim.sg_plain.Calls.{most_client}
use Rattle.sg_multi.specs.sg_sim.sg_plain.Plain.{IsPlay, Player, Stage, first_stage, next_turn, player_at, player_of, ready, stage_from, through, turned}
use Rattle.sg_multi.specs.sg_sim.sg_plain.Playing.Given.{given_in, with_handed}
use Rattle.sg_multi.specs.sg_sim.sg_plain.Playing.Turns.{is_free_phase}
use Rattle.sg_multi.specs.sg_sim.sg_play.Following.Follows.{HoldAll}
use Rattle.sg_multi.specs.sg_sim.sg_play.Following.Stages.{phase_by}
use Rattle.sg_multi.specs.sg_sim.sg_play.Recovering.{RecoversSoFar}
use Rattle.sg_multi.specs.sg_sim.sg_play.Turning.{handed_by}
use Rattle.sg_multi.specs.sg_sim.sg_play.sg_hist.Recovered.{Stubs, struck_in}
use Rattle.sg_multi.specs.sg_sim.sg_play.sg_hist.declared.ended.Ended.{Ended}
use Rattle.sg_multi.specs.sg_sim.sg_script.declared.multi.MultiCall.{MultiCall}
use Rattle.sg_multi.specs.sg_sim.sg_script.declared.multi.MultiScript.{MultiScript}
use Rattle.sg_multi.specs.sg_sim.sg_clients.WorldView.{Seat, WorldView, happened, new_world, no_seat, offered, seat_of}
use Rattle.sg_multi.specs.sg_sim.sg_clients.declared.phase.Phase.{Phase}
use Rattle.sg_multi.specs.sg_sim.sg_clients.declared.phase.Phase.TheVariants.{Idle, Asked, Held, Receipted, Blocked, Left}
use Rattle.sg_multi.specs.sg_sim.sg_world.declared.did.Did.{Did}
use Rattle.sg_multi.specs.sg_sim.sg_world.Steps.{HasStepped, LackedMemory}
use Rattle.sg_multi.specs.Calls.{multi_calls}
use Rattle.sg_multi.specs.Inside.Asked.{AreAskedSoFar}
use Rattle.sg_multi.specs.Inside.Ended.{AreEndedMembers}
use Rattle.sg_multi.specs.Inside.Following.{Begins, FollowsMulti, IsNextMultiTurn, NeverStruck, NoneStruck, phase_at, player_now, players_now, stage_now, stage_with}
use Rattle.sg_multi.specs.Inside.Keeps.{KeepsMulti, is_multi_setting_up}
use Rattle.sg_multi.specs.Inside.SettingUp.{AreSettingUp}
use Rattle.sg_multi.specs.Inside.Turns.{SameMembers}
use Rattle.sg_multi.specs.Inside.Whose.{NobodyGoesOn, next_of, seat_at}
use Rattle.sg_multi.specs.Merged.{MultiEntry}
use Rattle.sg_multi.specs.Played.{stubs_in}
use Rattle.sg_multi.specs.SeveralServices.{multi_workload, several_services}
use Rattle.sg_multi.specs.declared.ended.MultiEnd.{MultiEnd}
use Rattle.sg_multi.proofs.Asking.{asked_still}
use Rattle.sg_multi.proofs.Beginning.{first_client}
use Rattle.sg_multi.proofs.Ending.{each_at}
use Rattle.sg_multi.proofs.Keeping.{later_cases, moved, new_there, same_members, still_there}
use Rattle.sg_multi.proofs.Merging.{map_kept, merges_same, there_is, there_within}
use Rattle.sg_multi.proofs.NextTurn.{nobody_next}
use Rattle.sg_multi.proofs.Onward.{merged_one, turned_at, turned_on}
use Rattle.sg_multi.proofs.PastStop.{begins_still}
use Rattle.sg_multi.proofs.Players.{player_in, same_from}
use Rattle.sg_multi.proofs.SettingUp.{sets_up_still}
use Rattle.sg_multi.proofs.Stages.{player_same, ready_next}
use Rattle.sg_multi.proofs.Unstopped.{never_new, never_offered, never_wanted, none_before, unstopped}

free_phase : (p : Phase) (s : Seat) → s.phase ≡ p → is_free_phase p ≡ true → phase_at s ≡ ready
free_phase Idle s at free = ap (λ p. phase_by p s.reply ready) at
free_phase Left s at free = ap (λ p. phase_by p s.reply ready) at
free_phase Asked s at free = absurd (cc free)
free_phase Held s at free = absurd (cc free)
free_phase Receipted s at free = absurd (cc free)
free_phase Blocked s at free = absurd (cc free)

-- ---- a member changes

-- a play keeps what it keeps, and is at the stage at which it was
pub record StillKeeps (members later : List Membered) (script : MultiScript) (given : List (List ℕ)) (order : List ℕ) (is : KeepsMulti members script given order) : Type 0 where
  pub kept : KeepsMulti later script given order
  pub same : SameMembers members later
  pub players : players_now later script given ≡ players_now members script given
  pub sets_up : AreSettingUp members script given → AreSettingUp later script given
  pub asked : AreAskedSoFar members script is.merged → AreAskedSoFar later script kept.merged
  pub begins : Begins members script is.merged → Begins later script kept.merged
  pub follows : (passed last : ℕ) → (NoneStruck members → FollowsMulti members script given is.merged passed last) → NoneStruck later → FollowsMulti later script given kept.merged passed last

module _ (members later : List Membered) (script : MultiScript) (given : List (List ℕ)) (order : List ℕ) (place : ℕ) (m : Membered) (now : WorldView) (changes : ChangesAt members place m now later)
    (is : KeepsMulti members script given order) where
  abbrev w : WorldView
  w = view_in m

  -- where none was stopped by it, none was before
  none_now : NoneStruck later → struck_in now.run ≡ []
  none_now none = ap (λ (v : WorldView). struck_in v.run) (sym changes.view_is) ∙ none place changes.new (new_there members later script given order place m now changes is)

  none_members : (struck_in now.run ≡ [] → struck_in w.run ≡ []) → NoneStruck later → NoneStruck members
  none_members back none q x there = by (same_or_other q place)
    where
      by : (q ≡ place) ⊎ (q ≢ place) → struck_in (view_in x).run ≡ []
      by (inl its) =
          let both : Some x ≡ Some m = sym there ∙ ap (slice_get members) its ∙ changes.there in
          let same : x ≡ m = cc both in
          ap (λ y. struck_in (view_in y).run) same ∙ back (none_now none)
      by (inr other) = none q x (still_there members later script given order place m now changes is q x other there)

  up_later : ((q : ℕ) (x : Membered) → slice_get members q ≡ Some x → NeverStruck (setting_in x) (view_in x)) → NeverStruck (setting_in m) now → (q : ℕ) (x : Membered) → slice_get later q ≡ Some x → NeverStruck (setting_in x) (view_in x)
  up_later up own q x there = by (later_cases members later script given order place m now changes is q x there)
    where
      by : ((q ≡ place) × (x ≡ changes.new)) ⊎ ((q ≢ place) × (slice_get members q ≡ Some x)) → NeverStruck (setting_in x) (view_in x)
      by (inl its) = subst (λ (y : Membered). NeverStruck (setting_in y) (view_in y)) (sym its.1) (moved NeverStruck m changes.new now changes.service changes.tables changes.view_is own)
      by (inr other) = up q x other.1

  -- ---- nothing of it is a turn

  -- the players stay where no client's seat is at something else
  pub players_stay : ((d : ℕ) → 1 ≤ d → phase_at (seat_of now d) ≡ phase_at (seat_of w d)) → players_now later script given ≡ players_now members script given
  players_stay same = same_from (player_now later script given) (player_now members script given) 1 (most_client script.clients)
      (λ d from below. player_same members script given order is later place m now changes given d refl (same d from))

  pub follows_still : (merged : List MultiEntry) (passed last : ℕ) → (struck_in now.run ≡ [] → struck_in w.run ≡ []) → (NeverStruck (setting_in m) w → NeverStruck (setting_in m) now)
      → ((d : ℕ) → 1 ≤ d → phase_at (seat_of now d) ≡ phase_at (seat_of w d))
      → (NoneStruck members → FollowsMulti members script given merged passed last) → NoneStruck later → FollowsMulti later script given merged passed last
  follows_still merged passed last back never same follows none =
      let f = follows (none_members back none) in
      record {
        up = up_later f.up (never (f.up place m changes.there));
        turns = f.turns;
        at = ap (λ (ps : List Player). record { history = merged; players = ps; schedule = drop passed script.schedule; last = last }) (players_stay same)
            ∙ f.at ∙ ap (λ (l : List Stubs). stage_from (several_services l script) (multi_workload script) (first_stage (multi_workload script)) f.turns) (sym (same_members members later script given order place m now changes is));
      }

  -- the entries are as they were
  merged_still : now.history ≡ w.history → (kept : KeepsMulti later script given order) → is.merged ≡ kept.merged
  merged_still history kept = merged_one order (histories later) is.merged kept.merged
      (merges_same order (histories members) (histories later) is.merged
      (ap histories changes.are ∙ map_kept (λ x. (view_in x).history) members place m changes.new changes.there (ap (λ v. v.history) changes.view_is ∙ history)) is.merges) kept.merges
    where
      histories : List Membered → List (List Entry)
      histories list = map (λ x. (view_in x).history) list

  pub still : now.history ≡ w.history → now.run.boots ≡ w.run.boots → now.running ≡ w.running → (HoldAll (setting_in m).iface.facts w.seats → HoldAll (setting_in m).iface.facts now.seats) → (struck_in now.run ≡ [] → struck_in w.run ≡ []) → (NeverStruck (setting_in m) w → NeverStruck (setting_in m) now)
      → ((d : ℕ) → 1 ≤ d → phase_at (seat_of now d) ≡ phase_at (seat_of w d)) → KeepsMulti later script given order → StillKeeps members later script given order is
  still history boots running hold back never same kept = record {
    kept = kept;
    same = same_members members later script given order place m now changes is;
    players = players_stay same;
    sets_up = sets_up_still members later script given order place m now changes is (first_client 0 script.clients is.playable.clients) boots;
    asked = asked_still members later script given order place m now changes is boots kept.merged (sym (merged_still history kept));
    begins = begins_still members later script given order place m now changes is given order kept refl history boots running hold;
    follows = λ passed last follows none. subst (λ g. FollowsMulti later script given g passed last) (merged_still history kept) (follows_still is.merged passed last back never same follows none);
  }

  -- a client offers a call that had none under way
  module _ (c : ℕ) (call : Call) (first : 1 ≤ c) (within : c ≤ length w.seats) (free : is_free_phase (seat_of w c).phase ≡ true) (offers : now ≡ happened (offered w c call)) where
    pub offer_stays : (d : ℕ) → 1 ≤ d → phase_at (seat_of now d) ≡ phase_at (seat_of w d)
    offer_stays d from = ap (λ (x : WorldView). phase_at (seat_of x d)) offers ∙ by (same_or_other d c)
      where
        new : Seat
        new = record (seat_of w c) { phase = Asked; call = call }

        by : (d ≡ c) ⊎ (d ≢ c) → phase_at (seat_of (happened (offered w c call)) d) ≡ phase_at (seat_of w d)
        by (inl its) =
            ap (λ k. phase_at (seat_of (happened (offered w c call)) k)) its ∙ ap phase_at (seat_here w.seats c new first within) ∙ sym (free_phase (seat_of w c).phase (seat_of w c) refl free)
            ∙ ap (λ k. phase_at (seat_of w k)) (sym its)
        by (inr other) = ap phase_at (seat_there w.seats c d new first from other)

    pub offer_back : struck_in now.run ≡ [] → struck_in w.run ≡ []
    offer_back none = ap (λ (x : WorldView). struck_in x.run) (sym offers) ∙ none

    pub offer_never : NeverStruck (setting_in m) w → NeverStruck (setting_in m) now
    offer_never a = subst (NeverStruck (setting_in m)) (sym offers) (never_offered (setting_in m) w c call first within a)

  -- an event is counted
  pub happened_stays : now ≡ happened w → (d : ℕ) → 1 ≤ d → phase_at (seat_of now d) ≡ phase_at (seat_of w d)
  happened_stays counted d from = ap (λ (x : WorldView). phase_at (seat_of x d)) counted

  pub happened_back : now ≡ happened w → struck_in now.run ≡ [] → struck_in w.run ≡ []
  happened_back counted none = ap (λ (x : WorldView). struck_in x.run) (sym counted) ∙ none

  pub happened_never : now ≡ happened w → NeverStruck (setting_in m) w → NeverStruck (setting_in m) now
  happened_never counted a = never_wanted (setting_in m) w now (ap (λ x. x.run.boots) counted) (ap (λ x. x.running) counted) (ap (λ x. x.history) counted) (ap (λ x. x.seats) counted) a

  -- a step wanted memory
  module _ (c : ℕ) (wants : LackedMemory (setting_in m) w c now) where
    pub wanted_stays : (d : ℕ) → 1 ≤ d → phase_at (seat_of now d) ≡ phase_at (seat_of w d)
    wanted_stays d from = ap (λ (x : WorldView). phase_at (seat_of x d)) wants.counted

    pub wanted_back : struck_in now.run ≡ [] → struck_in w.run ≡ []
    wanted_back none = ap (λ (x : WorldView). struck_in x.run) (sym wants.counted) ∙ none

    pub wanted_never : NeverStruck (setting_in m) w → NeverStruck (setting_in m) now
    wanted_never a =
        never_wanted (setting_in m) w now (ap (λ (x : WorldView). x.run.boots) wants.counted) (ap (λ (x : WorldView). x.running) wants.counted) (ap (λ (x : WorldView). x.history) wants.counted)
        (ap (λ (x : WorldView). x.seats) wants.counted) a

  -- ---- a turn

  module _ (c : ℕ) (first : 1 ≤ c) (last : c ≤ most_client script.clients) (written : MultiCall) (next : next_of script given c ≡ Some written) (number : place + 1 ≡ written.member)
      (busy : is_free_phase (seat_of w c).phase ≡ false) (before : RecoversSoFar (setting_in m) w) (behind : RecoversSoFar (setting_in m) now) (did : Did) (steps : HasStepped (setting_in m) w c did now)
      (order_then : List ℕ) (order_is : cond (nat_lt (seat_of w c).seq (seat_of now c).seq) (order ++ (place + 1) ∷ []) order ≡ order_then)
      (kept : KeepsMulti later script (with_handed given c (handed_by did)) order_then) (passed latest taken : ℕ)
      (turn : IsNextMultiTurn script (stage_now members script given is.merged passed latest) c taken) where
    within : c ≤ length w.seats
    within = omega (arith, last, is.clients place m changes.there)

    pub follows_turn : (NoneStruck members → FollowsMulti members script given is.merged passed latest) → NoneStruck later
        → FollowsMulti later script (with_handed given c (handed_by did)) kept.merged taken c
    follows_turn follows none =
        let f = follows (none_members (none_before (setting_in m) w c did now steps) none) in
        let a = f.up place m changes.there in
        let both = unstopped (setting_in m) w c first within (is.each place m changes.there) before a busy did now steps behind (none_now none) in
        record {
          up = up_later f.up both.0;
          turns = suc f.turns;
          at = turned_at members later script given order place m now changes is c first last written next number did both.1 order_then order_is kept passed latest taken f.turns turn f.at
              ∙ ap (λ (l : List Stubs). stage_from (several_services l script) (multi_workload script) (first_stage (multi_workload script)) (suc f.turns)) (sym (same_members members later script given order place m now changes is));
        }

-- a client that has no call more takes its turn: nothing is done
pub follows_idle : (members : List Membered) (script : MultiScript) (given : List (List ℕ)) (merged : List MultiEntry) (passed last c taken : ℕ) → 1 ≤ c → c ≤ most_client script.clients → next_of script given c ≡ None
    → IsNextMultiTurn script (stage_now members script given merged passed last) c taken → FollowsMulti members script given merged passed last → FollowsMulti members script given merged taken c
follows_idle members script given merged passed last c taken first within none turn f =
    let sys = several_services (map stubs_in members) script in
    let work = multi_workload script in
    let stage = stage_with members script given merged (drop taken script.schedule) c in
    let phase : (player_of stage c).phase ≡ through
    = ap (λ (o : Option Player). (unwrap_or o (record { done = 0; phase = through })).phase) (player_in (player_now members script given) (most_client script.clients) c first within)
    ∙ ap (λ o. option_map_or (λ (x : MultiCall). phase_at (seat_at members (x.member - 1) c)) o through) none in
    record {
      up = f.up;
      turns = suc f.turns;
      at = sym (ap (turned sys work c stage) phase) ∙ turned_on sys members script given merged passed last c taken f.turns turn f.at;
    }

-- ---- the beginning

abbrev none_given : List ℕ
none_given = []

module _ (members : List Membered) (script : MultiScript) (new : (q : ℕ) (x : Membered) → slice_get members q ≡ Some x → view_in x ≡ new_world (replicate (most_client script.clients) no_seat)) where
  abbrev n : ℕ
  n = most_client script.clients

  seat_new : (q d : ℕ) → phase_at (seat_at members q d) ≡ ready
  seat_new q d = by (slice_get members q) refl
    where
      by : (o : Option Membered) → slice_get members q ≡ o → phase_at (option_map_or (λ x. seat_of (view_in x) d) o no_seat) ≡ ready
      by None there = refl
      by (Some x) there = ap (λ (v : WorldView). phase_at (seat_of v d)) (new q x there) ∙ ap phase_at (new_seat n d)

  nothing_given : (count k : ℕ) → length (given_in (replicate count []) k) ≡ 0
  nothing_given count k = at count (k - 1)
    where
      at : (count k : ℕ) → length (unwrap_or (slice_get (replicate count none_given) k) []) ≡ 0
      at zero k = refl
      at (suc count) zero = refl
      at (suc count) (suc k) = at count k

  pub follows_new : FollowsMulti members script (replicate n []) [] 0 0
  follows_new = record {
    up = λ q x there. never_new (setting_in x) (view_in x) n (new q x there);
    turns = 0;
    at = ap (λ (ps : List Player). record { history = []; players = ps; schedule = script.schedule; last = 0 })
        (same_from (player_now members script (replicate n [])) (λ client. player_at (multi_workload script) client 0) 1 n
        (λ d from below. ap (λ k. record { done = k; phase = option_map_or (λ (c : MultiCall). phase_at (seat_at members (c.member - 1) d)) (slice_get (multi_calls script d) k) through }) (nothing_given n d)
        ∙ ap (λ p. record { done = 0; phase = p }) (ready_next (multi_calls script d) 0 (λ c. phase_at (seat_at members (c.member - 1) d)) (λ c. seat_new (c.member - 1) d))));
  }

no_entries : (merged : List MultiEntry) → map (λ e. e.member) merged ≡ [] → merged ≡ []
no_entries [] none = refl
no_entries (e ∷ merged) none = absurd (cc none)

-- a play in which nothing was done follows it
pub new_follows : (members : List Membered) (script : MultiScript) → ((q : ℕ) (x : Membered) → slice_get members q ≡ Some x → view_in x ≡ new_world (replicate (most_client script.clients) no_seat))
    → (kept : KeepsMulti members script (replicate (most_client script.clients) []) []) → NoneStruck members → FollowsMulti members script (replicate (most_client script.clients) []) kept.merged 0 0
new_follows members script new kept unstruck =
    subst (λ g. FollowsMulti members script (replicate (most_client script.clients) []) g 0 0) (sym (no_entries kept.merged kept.merges.members)) (follows_new members script new)

-- ---- the end

-- where nobody can take a turn it is a play without stops, if no member was stopped
pub follows_over : (members : List Membered) (script : MultiScript) (given : List (List ℕ)) (order : List ℕ) (is : KeepsMulti members script given order) (passed last : ℕ) → NobodyGoesOn members script given
    → is_multi_setting_up script given ≡ false → (NoneStruck members → FollowsMulti members script given is.merged passed last)
    → (ends : List (ℕ × MultiEnd)) (ended : List Ended) → AreEndedMembers members ends ended
    → Each (λ e. struck_in (run_of e.trace) ≡ []) ended → IsPlay (several_services (map stubs_in members) script) (multi_workload script) is.merged
follows_over members script given order is passed last nobody settled follows ends ended are none =
    let f = follows (λ q x there.
    let e = there_is ended q (omega (arith, are.count, there_within members q x there)) in
    ap struck_in (sym (are.each q x e.0 there e.1).its.1) ∙ each_at (λ (y : Ended). struck_in (run_of y.trace) ≡ []) ended q e.0 none e.1) in
    record {
      turns = f.turns;
      over = ap (next_turn (multi_workload script)) (sym f.at)
          ∙ nobody_next members script given is.merged passed last (first_client 0 script.clients is.playable.clients) is.playable.turns settled nobody;
      is = ap (λ (s : Stage MultiEntry). s.history) f.at;
    }

-- Once a member was stopped it makes no visible entry any more that has its item in its first boot; and so all entries begin as the play without stops does.
use Rattle.std.proofs.Common.{◌≡◌, ◌≢◌, ◌⊎◌, ℕ, suc, ◌+◌, ◌≤◌, Bool, true, false, cond, not, List, [], ◌∷◌, ◌++◌, None, Some, IsSome, filter, flat_map, is_some, length, map, take, refl, sym, ◌∙◌, ap, subst, inl, inr, arith, append-nil, append_assoc, length-append}
use Rattle.std.specs.Prelude.{◌==◌, ◌&&◌, ◌||◌, nat_lt, slice_get}
use Rattle.std.specs.List.{list_any}
use Rattle.std.specs.declared.option.Option.{Option}
use Rattle.std.proofs.lemmas.List.{take-append-le}
use Rattle.sg_facts.specs.sg_base.Lists.{Each}
use Rattle.sg_facts.specs.sg_base.Stops.{asked_after}
use Rattle.sg_facts.specs.sg_base.declared.reply.Reply.{Reply}
use Rattle.sg_facts.specs.declared.entry.Entry.{Entry}
use Rattle.sg_facts.specs.declared.trace.Item.{Item}
use Rattle.sg_facts.specs.declared.trace.Tag.TheVariants.{Client}
use Rattle.sg_facts.specs.Facts.{Facts, is_visible}
use Rattle.sg_facts.specs.Object.{Object, object_of}
use Rattle.sg_facts.specs.Trace.{Boot, Run, run_of}
use Rattle.sg_facts.proofs.Replaying.Found.{same_test}
use Rattle.sg_multi.proofs.sg_sim.sg_play.Following.Created.{any_left, any_right}
use Rattle.sg_multi.proofs.sg_sim.sg_play.Fronts.{up_to_front}
use Rattle.sg_multi.proofs.sg_sim.sg_play.Waking.Shapes.{call_is_own}
use Rattle.sg_multi.proofs.sg_sim.sg_play.sg_plain.sg_clients.Lines.{same_or_other}
use Rattle.sg_multi.proofs.sg_sim.sg_play.sg_plain.sg_hist.Growing.{items_booted, items_more, items_struck}
use Rattle.sg_multi.proofs.sg_sim.sg_play.sg_world.sg_world_laws.Refusing.{by_the_guard}
use Rattle.sg_multi.proofs.sg_sim.sg_play.sg_world.sg_world_laws.sg_recovery_laws.Lists.{each_map, each_push}
use Rattle.sg_multi.specs.Members.{ChangesAt, Membered, setting_in, view_in}
use Rattle.sg_multi.specs.sg_sim.sg_plain.Calls.{most_client}
use Rattle.sg_multi.specs.sg_sim.sg_plain.Plain.{Stage, first_stage, stage_from}
use Rattle.sg_multi.specs.sg_sim.sg_plain.Playing.Given.{with_handed}
use Rattle.sg_multi.specs.sg_sim.sg_plain.Playing.Turns.{is_free_phase}
use Rattle.sg_multi.specs.sg_sim.sg_plain.Promises.{is_in_first_boot, up_to_last}
use Rattle.sg_multi.specs.sg_sim.sg_play.Following.Follows.{HoldAll}
use Rattle.sg_multi.specs.sg_sim.sg_play.Recovering.{RecoversSoFar}
use Rattle.sg_multi.specs.sg_sim.sg_play.Turning.{handed_by}
use Rattle.sg_multi.specs.sg_sim.sg_play.sg_hist.Growing.{booted, noted, struck}
use Rattle.sg_multi.specs.sg_sim.sg_play.sg_hist.Inside.Parts.{stop_in}
use Rattle.sg_multi.specs.sg_sim.sg_play.sg_hist.Inside.Reads.{after_item}
use Rattle.sg_multi.specs.sg_sim.sg_play.sg_hist.Reading.{is_by_guard, is_item_of, is_tagged, items_of}
use Rattle.sg_multi.specs.sg_sim.sg_play.sg_hist.Recovered.{Stubs, struck_in}
use Rattle.sg_multi.specs.sg_sim.sg_play.sg_hist.declared.ended.Ended.{Ended}
use Rattle.sg_multi.specs.sg_sim.sg_script.declared.multi.MultiCall.{MultiCall}
use Rattle.sg_multi.specs.sg_sim.sg_script.declared.multi.MultiScript.{MultiScript}
use Rattle.sg_multi.specs.sg_sim.sg_clients.WorldView.{Seat, WorldView, is_offered, rebooted, seat_of}
use Rattle.sg_multi.specs.sg_sim.sg_world.declared.did.Did.{Did}
use Rattle.sg_multi.specs.sg_sim.sg_world.declared.did.Did.TheVariants.{Answered, Blocked as Waits, Booted, Loaded, Lost, Replayed, Served, Skipped, Struck}
use Rattle.sg_multi.specs.sg_sim.sg_world.Steps.{Commits, HasStepped, Steps}
use Rattle.sg_multi.specs.sg_sim.sg_world_laws.Setting.{Setting}
use Rattle.sg_multi.specs.Inside.Ended.{AreEndedMembers}
use Rattle.sg_multi.specs.Inside.Following.{Begins, FollowsMulti, HasStopped, IsNextMultiTurn, IsNotBefore, IsPastFirstStop, NoneStruck, stage_now}
use Rattle.sg_multi.specs.Inside.Keeps.{KeepsMulti}
use Rattle.sg_multi.specs.Inside.Member.{KeepsMember}
use Rattle.sg_multi.specs.Inside.Whose.{next_of}
use Rattle.sg_multi.specs.Merged.{MultiEntry, entries_at}
use Rattle.sg_multi.specs.Played.{AreBeforeStops, stubs_in}
use Rattle.sg_multi.specs.SeveralServices.{multi_workload, several_services}
use Rattle.sg_multi.specs.declared.ended.MultiEnd.{MultiEnd}
use Rattle.sg_multi.proofs.Grown.{GrowsTo, grows, merged_same}
use Rattle.sg_multi.proofs.Holding.{hold_stepped}
use Rattle.sg_multi.proofs.Keeping.{later_cases, moved, new_there, same_members, still_there}
use Rattle.sg_multi.proofs.Merging.{at_more, at_same, mapped_at, there_is, there_within}
use Rattle.sg_multi.proofs.Onward.{turned_at}
use Rattle.sg_multi.proofs.Unstopped.{StopsFirst, TurnsAs, stops_or_not}

-- ---- lists

same_push : (xs : List Entry) (x y : Entry) → xs ++ x ∷ [] ≡ xs ++ y ∷ [] → x ≡ y
same_push [] x y same = cc same
same_push (z ∷ xs) x y same = let rest : xs ++ x ∷ [] ≡ xs ++ y ∷ [] = cc same in same_push xs x y rest

never_push : (xs : List Entry) (x : Entry) → xs ≡ xs ++ x ∷ [] → ⊥
never_push xs x same = omega (arith, ap (λ (l : List Entry). length l) same, length-append xs (x ∷ []))

-- an entry of a member meets a test where one of those of the member does
any_at : (number : ℕ) (test : Entry → Bool) (es : List MultiEntry) → list_any (λ e. (e.member == number) && test e.entry) es ≡ list_any test (entries_at number es)
any_at number test [] = refl
any_at number test (x ∷ es) = by (x.member == number) (any_at number test es)
  where
    by : (b : Bool) → list_any (λ e. (e.member == number) && test e.entry) es ≡ list_any test (entries_at number es)
        → ((b && test x.entry) || list_any (λ e. (e.member == number) && test e.entry) es) ≡ list_any test (map (λ e. e.entry) (cond b (x ∷ filter (λ e. e.member == number) es) (filter (λ e. e.member == number) es)))
    by true rest = ap (λ b. test x.entry || b) rest
    by false rest = rest

up_to_short : (test : MultiEntry → Bool) (es : List MultiEntry) → length (up_to_last test es) ≤ length es
up_to_short test [] = omega arith
up_to_short test (x ∷ es) = by (test x || list_any test es) (up_to_short test es)
  where
    by : (b : Bool) → length (up_to_last test es) ≤ length es → length (cond b (x ∷ up_to_last test es) []) ≤ length (x ∷ es)
    by true rest = omega (arith, rest)
    by false rest = omega arith

-- ---- a service that stopped

some_noted : (b : Boot) (boots : List Boot) (item : Item) → noted (b ∷ boots) item ≢ []
some_noted b [] item none = cc none
some_noted b (c ∷ boots) item none = cc none

some_struck : (b : Boot) (boots : List Boot) (stop : ℕ) → struck (b ∷ boots) stop ≢ []
some_struck b [] stop none = cc none
some_struck b (c ∷ boots) stop none = cc none

some_booted : (boots : List Boot) → booted boots ≢ []
some_booted [] none = cc none
some_booted (b ∷ boots) none = cc none

module _ (facts : Facts) where
  -- with more items
  with_more : (items more : List Item) (e : Entry) → IsNotBefore facts items e → IsNotBefore facts (items ++ more) e
  with_more items more e (inl hidden) = inl hidden
  with_more items more e (inr (inl guards)) = inr (inl guards)
  with_more items more e (inr (inr has)) = inr (inr (any_left (is_item_of e) items more has))

  not_first : (first : Boot) (newer : List Boot) (es : List Entry) → Each (IsNotBefore facts (items_of newer)) es → list_any (is_in_first_boot facts (first ∷ newer)) es ≡ false
  not_first first newer [] all = refl
  not_first first newer (e ∷ es) all =
      ap (λ b. b || list_any (is_in_first_boot facts (first ∷ newer)) es)
      (by (is_visible facts e.call.fun) (is_by_guard e.reply) (list_any (is_item_of e) first.items) (list_any (is_item_of e) (items_of newer)) all.0)
      ∙ not_first first newer es all.1
    where
      by : (v g f n : Bool) → (v ≡ false) ⊎ (g ≡ true) ⊎ (n ≡ true) → (v && not g && f && not n) ≡ false
      by false g f n is = refl
      by true true f n is = refl
      by true false false n is = refl
      by true false true true is = refl
      by true false true false (inl v) = absurd (cc v)
      by true false true false (inr (inl g)) = absurd (cc g)
      by true false true false (inr (inr n)) = absurd (cc n)

  module _ (since : List Entry) (boots : List Boot) (running : Option Object) (s : HasStopped facts since boots running) where
    -- later boots have more items, or as many
    grown_to : (newer now : List Boot) (up : Option Object) (more : List Item) → now ≡ s.first ∷ newer → newer ≢ [] → items_of newer ≡ items_of s.newer ++ more → HasStopped facts since now up
    grown_to newer now up more are some items = record {
      first = s.first;
      newer = newer;
      are = are;
      stopped = s.stopped;
      again = λ runs. some;
      later = each_map (IsNotBefore facts (items_of s.newer)) (IsNotBefore facts (items_of newer)) since
          (λ e is. subst (λ l. IsNotBefore facts l e) (sym items) (with_more (items_of s.newer) more e is)) s.later;
    }

    entered : (e : Entry) → IsNotBefore facts (items_of s.newer) e → HasStopped facts (since ++ e ∷ []) boots running
    entered e is = record {
      first = s.first;
      newer = s.newer;
      are = s.are;
      stopped = s.stopped;
      again = s.again;
      later = each_push (IsNotBefore facts (items_of s.newer)) since e s.later is;
    }

    again_booted : (up : Option Object) → HasStopped facts since (booted boots) up
    again_booted up = grown_to (booted s.newer) (booted boots) up [] (ap booted s.are) (some_booted s.newer) (items_booted s.newer ∙ sym (append-nil (items_of s.newer)))

    module _ (runs : IsSome running) where
      -- the service stops again
      again_struck : (stop : ℕ) (up : Option Object) → HasStopped facts since (struck boots stop) up
      again_struck stop up = by s.newer refl
        where
          by : (newer : List Boot) → s.newer ≡ newer → HasStopped facts since (struck boots stop) up
          by [] none = absurd (s.again runs none)
          by (b ∷ newer) is = grown_to (struck (b ∷ newer) stop) (struck boots stop) up [] (ap (λ l. struck l stop) (s.are ∙ ap (λ l. s.first ∷ l) is)) (some_struck b newer stop)
              (items_struck (b ∷ newer) stop ∙ ap items_of (sym is) ∙ sym (append-nil (items_of s.newer)))

      module _ (item : Item) (up : Option Object) where
        -- an item is noted
        more_noted : HasStopped facts since (noted boots item) up
        more_noted = by s.newer refl
          where
            by : (newer : List Boot) → s.newer ≡ newer → HasStopped facts since (noted boots item) up
            by [] none = absurd (s.again runs none)
            by (b ∷ newer) is = grown_to (noted (b ∷ newer) item) (noted boots item) up (item ∷ []) (ap (λ l. noted l item) (s.are ∙ ap (λ l. s.first ∷ l) is)) (some_noted b newer item)
                (items_more b newer item ∙ ap (λ l. l ++ item ∷ []) (ap items_of (sym is)))

        -- with its entry
        committed : (e : Entry) → is_item_of e item ≡ true → HasStopped facts (since ++ e ∷ []) (noted boots item) up
        committed e own = by s.newer refl
          where
            with_entry : (newer : List Boot) → noted boots item ≡ s.first ∷ newer → newer ≢ [] → items_of newer ≡ items_of s.newer ++ item ∷ [] → HasStopped facts (since ++ e ∷ []) (noted boots item) up
            with_entry newer are some items = record {
              first = s.first;
              newer = newer;
              are = are;
              stopped = s.stopped;
              again = λ up_so. some;
              later = each_push (IsNotBefore facts (items_of newer)) since e
                  (each_map (IsNotBefore facts (items_of s.newer)) (IsNotBefore facts (items_of newer)) since
                  (λ x is. subst (λ l. IsNotBefore facts l x) (sym items) (with_more (items_of s.newer) (item ∷ []) x is)) s.later)
                  (inr (inr (ap (list_any (is_item_of e)) items ∙ any_right (is_item_of e) (items_of s.newer) (item ∷ []) (ap (λ t. t || false) own))));
            }

            by : (newer : List Boot) → s.newer ≡ newer → HasStopped facts (since ++ e ∷ []) (noted boots item) up
            by [] none = absurd (s.again runs none)
            by (b ∷ newer) is = with_entry (noted (b ∷ newer) item) (ap (λ l. noted l item) (s.are ∙ ap (λ l. s.first ∷ l) is)) (some_noted b newer item)
                (items_more b newer item ∙ ap (λ l. l ++ item ∷ []) (ap items_of (sym is)))

-- ---- a step in the world of a member that was stopped

some_is : (o : Option Object) (v : Object) → o ≡ Some v → IsSome o
some_is o v is = ap is_some is

module _ (z : Setting) (w : WorldView) (c : ℕ) (first : 1 ≤ c) (last : c ≤ length w.seats) (is : KeepsMember z w) (hold : HoldAll z.iface.facts w.seats) (since : List Entry)
    (b : HasStopped z.iface.facts since w.run.boots w.running) where
  abbrev s : Seat
  s = seat_of w c

  abbrev facts : Facts
  facts = z.iface.facts

  abbrev entry_by : Reply → Entry
  entry_by reply = record { call = s.call; reply = reply }

  abbrev Then : List Entry → WorldView → Type 0
  Then es v = HasStopped facts es v.run.boots v.running

  -- no entry is made by it, or one, and it goes on so
  abbrev pub GoesOnPast : WorldView → Type 0
  GoesOnPast v = ((v.history ≡ w.history) × Then since v) ⊎ ((e : Entry) × (v.history ≡ w.history ++ e ∷ []) × Then (since ++ e ∷ []) v)

  notes_one : IsSome w.running → (item : Item) (up : Option Object) → HasStopped facts since (noted w.run.boots item) up
  notes_one runs item up = more_noted facts since w.run.boots w.running b runs item up

  commits : (between : WorldView) (l : Commits z w c between) → Then (since ++ entry_by l.reply ∷ []) between
  commits between l =
      let its : s.call.client ≡ c = call_is_own facts is.script w.history c s (is.playing.callers.each c first last) (ap is_offered l.asks.reaches.uses.let_in.phase) in
      let own : is_item_of (entry_by l.reply) l.asks.item ≡ true = ap (is_tagged s.call.client s.call.seq) l.asks.tag ∙ own_tag s.call.client s.call.seq its in
      subst (Then (since ++ entry_by l.reply ∷ [])) (sym l.now)
      (committed facts since w.run.boots w.running b (some_is w.running l.asks.service l.asks.reaches.uses.running) l.asks.item (Some (after_item facts l.asks.service l.asks.item)) (entry_by l.reply) own)
    where
      own_tag : (n seq : ℕ) → n ≡ c → is_tagged n seq (Client c seq) ≡ true
      own_tag n seq same = ap (λ t. t && (seq == seq)) (same_test c n (sym same)) ∙ same_test seq seq refl

  committed_history : (between : WorldView) (l : Commits z w c between) → between.history ≡ w.history ++ entry_by l.reply ∷ []
  committed_history between l = ap (λ (y : WorldView). y.history) l.now

  past_by : (did : Did) (later : WorldView) → Steps z w c did later → GoesOnPast later
  past_by Skipped later l = subst GoesOnPast (sym l.now) (inl (refl, b))
  past_by (Answered reply) later (inl l) = subst GoesOnPast (sym l.now) (inl (refl, b))
  past_by (Answered reply) later (inr (inl l)) = subst GoesOnPast (sym l.now)
      (inr (entry_by reply, refl, entered facts since w.run.boots w.running b (entry_by reply) (inl ((hold c first).hidden l.phase))))
  past_by (Answered reply) later (inr (inr l)) = subst GoesOnPast (sym l.now)
      (inr (
        entry_by reply,
        refl,
        entered facts since w.run.boots w.running b (entry_by reply) (inr (inl (ap is_by_guard l.its ∙ by_the_guard z.iface (object_of facts w.history) s.call l.code l.guarded))),
      ))
  past_by Lost later l = subst GoesOnPast (sym l.now) (inl (refl, b))
  past_by Booted later l = subst GoesOnPast (sym l.now) (inl (refl, again_booted facts since w.run.boots w.running b (rebooted w).running))
  past_by Struck later (inl l) = subst GoesOnPast (sym l.now)
      (inl (refl, again_struck facts since w.run.boots w.running b (some_is w.running l.service l.uses.running) (asked_after w.run.points 1) None))
  past_by Struck later (inr (inl l)) = subst GoesOnPast (sym l.now)
      (let runs = some_is w.running l.service l.uses.running in
      inl (refl, again_struck facts since (noted w.run.boots l.item) w.running (notes_one runs l.item w.running) runs l.item.points None))
  past_by Struck later (inr (inr (inl l))) = subst GoesOnPast (sym l.now)
      (let runs = some_is w.running l.asks.service l.asks.reaches.uses.running in
      inl (refl, again_struck facts since (noted w.run.boots l.asks.item) w.running (notes_one runs l.asks.item w.running) runs l.asks.item.points None))
  past_by Struck later (inr (inr (inr l))) = subst GoesOnPast (sym l.now)
      (inr (
        entry_by l.commits.reply,
        committed_history l.between l.commits,
        again_struck facts (since ++ entry_by l.commits.reply ∷ []) l.between.run.boots l.between.running (commits l.between l.commits)
            (ap (λ (y : WorldView). is_some y.running) l.commits.now) (asked_after l.between.run.points 1) None,
      ))
  past_by Replayed later l = subst GoesOnPast (sym l.now)
      (inl (refl, notes_one (some_is w.running l.service l.uses.running) l.item (Some (after_item facts l.service l.item))))
  past_by Loaded later l = subst GoesOnPast (sym l.now)
      (inl (refl, notes_one (some_is w.running l.service l.uses.running) l.item (Some (after_item facts l.service l.item))))
  past_by Waits later l = subst GoesOnPast (sym l.now) (inl (refl, notes_one (some_is w.running l.asks.service l.asks.reaches.uses.running) l.asks.item w.running))
  past_by Served later (inl l) = subst GoesOnPast (sym l.now) (inr (entry_by l.commits.reply, committed_history l.between l.commits, commits l.between l.commits))
  past_by Served later (inr l) = subst GoesOnPast (sym l.now)
      (inl (refl, notes_one (some_is w.running l.asks.service l.asks.reaches.uses.running) l.asks.item (Some (after_item facts l.asks.service l.asks.item))))

  pub past_stepped : (did : Did) (now : WorldView) → HasStepped z w c did now → GoesOnPast now
  past_stepped did now stepped = subst GoesOnPast (sym stepped.counted) (past_by did stepped.later stepped.steps)

-- ---- a member changes

module _ (members later : List Membered) (script : MultiScript) (given : List (List ℕ)) (order : List ℕ) (place : ℕ) (m : Membered) (now : WorldView) (changes : ChangesAt members place m now later)
    (is : KeepsMulti members script given order) (gave : List (List ℕ)) (order_then : List ℕ) (kept : KeepsMulti later script gave order_then) where
  abbrev w : WorldView
  w = view_in m

  abbrev z : Setting
  z = setting_in m

  -- the entries of the play without stops after so many turns
  abbrev front : List Stubs → ℕ → List MultiEntry
  front stubs turns = (stage_from (several_services stubs script) (multi_workload script) (first_stage (multi_workload script)) turns).history

  begun : (turns : ℕ) (more : List MultiEntry) → kept.merged ≡ front (map stubs_in members) turns ++ more → kept.merged ≡ front (map stubs_in later) turns ++ more
  begun turns more are = are ∙ ap (λ l. front l turns ++ more) (sym (same_members members later script given order place m now changes is))

  -- it is the member that was stopped
  own_past : (turns : ℕ) (more : List MultiEntry) → kept.merged ≡ front (map stubs_in members) turns ++ more → HasStopped z.iface.facts (entries_at (place + 1) more) now.run.boots now.running
      → HoldAll z.iface.facts now.seats → IsPastFirstStop later script kept.merged
  own_past turns more are past hold = record {
    place = place;
    member = changes.new;
    there = new_there members later script given order place m now changes is;
    turns = turns;
    more = more;
    entries = begun turns more are;
    past = moved (λ y v. HasStopped y.iface.facts (entries_at (place + 1) more) v.run.boots v.running) m changes.new now changes.service changes.tables changes.view_is past;
    hold = moved (λ y v. HoldAll y.iface.facts v.seats) m changes.new now changes.service changes.tables changes.view_is hold;
  }

  -- it is another
  other_past : (p : IsPastFirstStop members script is.merged) → p.place ≢ place → (more : List MultiEntry) → kept.merged ≡ front (map stubs_in members) p.turns ++ more
      → entries_at (p.place + 1) more ≡ entries_at (p.place + 1) p.more → IsPastFirstStop later script kept.merged
  other_past p other more are same = record {
    place = p.place;
    member = p.member;
    there = still_there members later script given order place m now changes is p.place p.member other p.there;
    turns = p.turns;
    more = more;
    entries = begun p.turns more are;
    past = subst (λ es. HasStopped (setting_in p.member).iface.facts es (view_in p.member).run.boots (view_in p.member).running) (sym same) p.past;
    hold = p.hold;
  }

  -- what is known of the member that was stopped, where it is this one
  module _ (p : IsPastFirstStop members script is.merged) (same : p.place ≡ place) where
    its : p.member ≡ m
    its = let both : Some p.member ≡ Some m = sym p.there ∙ ap (slice_get members) same ∙ changes.there in cc both

    pub its_past : HasStopped z.iface.facts (entries_at (place + 1) p.more) w.run.boots w.running
    its_past =
        subst (λ n. HasStopped z.iface.facts (entries_at (n + 1) p.more) w.run.boots w.running) same
        (subst (λ (x : Membered). HasStopped (setting_in x).iface.facts (entries_at (p.place + 1) p.more) (view_in x).run.boots (view_in x).running) its p.past)

    pub its_hold : HoldAll z.iface.facts w.seats
    its_hold = subst (λ (x : Membered). HoldAll (setting_in x).iface.facts (view_in x).seats) its p.hold

  -- no call is done in it
  still_past : order ≡ order_then → now.history ≡ w.history → now.run.boots ≡ w.run.boots → now.running ≡ w.running → (HoldAll z.iface.facts w.seats → HoldAll z.iface.facts now.seats)
      → IsPastFirstStop members script is.merged → IsPastFirstStop later script kept.merged
  still_past order_same history boots running hold p = by (same_or_other p.place place)
    where
      are : kept.merged ≡ front (map stubs_in members) p.turns ++ p.more
      are = merged_same members later script given order place m now changes is gave order_then kept order_same history ∙ p.entries

      by : (p.place ≡ place) ⊎ (p.place ≢ place) → IsPastFirstStop later script kept.merged
      by (inl same) =
          own_past p.turns p.more are
          (subst (λ r. HasStopped z.iface.facts (entries_at (place + 1) p.more) now.run.boots r) (sym running)
          (subst (λ l. HasStopped z.iface.facts (entries_at (place + 1) p.more) l w.running) (sym boots) (its_past p same)))
          (hold (its_hold p same))
      by (inr other) = other_past p other p.more are refl

  -- and so nothing changes of it
  pub begins_still : order ≡ order_then → now.history ≡ w.history → now.run.boots ≡ w.run.boots → now.running ≡ w.running → (HoldAll z.iface.facts w.seats → HoldAll z.iface.facts now.seats)
      → Begins members script is.merged → Begins later script kept.merged
  begins_still order_same history boots running hold (inr p) = inr (still_past order_same history boots running hold p)
  begins_still order_same history boots running hold (inl none) = inl (λ q x there. by q x (later_cases members later script given order place m now changes is q x there))
    where
      by : (q : ℕ) (x : Membered) → ((q ≡ place) × (x ≡ changes.new)) ⊎ ((q ≢ place) × (slice_get members q ≡ Some x)) → struck_in (view_in x).run ≡ []
      by q x (inl its) =
          ap (λ (y : Membered). struck_in (view_in y).run) its.1 ∙ ap (λ (v : WorldView). struck_in v.run) changes.view_is ∙ ap (flat_map (λ b. stop_in b.stop)) boots ∙ none place m changes.there
      by q x (inr other) = none q x other.1

  -- ---- a step

  module _ (c : ℕ) (first : 1 ≤ c) (last : c ≤ most_client script.clients) (did : Did) (steps : HasStepped z w c did now)
      (order_is : cond (nat_lt (seat_of w c).seq (seat_of now c).seq) (order ++ (place + 1) ∷ []) order ≡ order_then) where
    within : c ≤ length w.seats
    within = omega (arith, last, is.clients place m changes.there)

    abbrev Grows : Type 0
    Grows = GrowsTo (place + 1) w.history is.merged now.history kept.merged

    grown : Grows
    grown = grows members later script given order place m now changes is gave order_then kept c first last did steps order_is

    hold_now : HoldAll z.iface.facts w.seats → HoldAll z.iface.facts now.seats
    hold_now hold = subst (λ (y : WorldView). HoldAll z.iface.facts y.seats) (sym steps.counted) (hold_stepped z w c first within (is.each place m changes.there) hold did steps.later steps.steps)

    -- a member was stopped before
    past_turn : IsPastFirstStop members script is.merged → IsPastFirstStop later script kept.merged
    past_turn p = by (same_or_other p.place place) grown
      where
        by : (p.place ≡ place) ⊎ (p.place ≢ place) → Grows → IsPastFirstStop later script kept.merged
        by (inr other) (inl (history, are)) = other_past p other p.more (are ∙ p.entries) refl
        by (inr other) (inr (e, history, are)) =
            let x : MultiEntry = record { member = place + 1; entry = e } in
            other_past p other (p.more ++ x ∷ [])
            (are ∙ ap (λ l. l ++ x ∷ []) p.entries ∙ append_assoc (front (map stubs_in members) p.turns) p.more (x ∷ []))
            (at_same p.more x (p.place + 1) (λ same. other (omega (arith, same))))
        by (inl same) grown = own grown (past_stepped z w c first within (is.each place m changes.there) (its_hold p same) (entries_at (place + 1) p.more) (its_past p same) did now steps)
          where
            own : Grows → ((now.history ≡ w.history) × HasStopped z.iface.facts (entries_at (place + 1) p.more) now.run.boots now.running)
                ⊎ ((e : Entry) × (now.history ≡ w.history ++ e ∷ []) × HasStopped z.iface.facts (entries_at (place + 1) p.more ++ e ∷ []) now.run.boots now.running)
                → IsPastFirstStop later script kept.merged
            own (inl (history, are)) (inl (same_history, past)) = own_past p.turns p.more (are ∙ p.entries) past (hold_now (its_hold p same))
            own (inl (history, are)) (inr (d, longer, past)) = absurd (never_push w.history d (sym history ∙ longer))
            own (inr (e, history, are)) (inl (same_history, past)) = absurd (never_push w.history e (sym same_history ∙ history))
            own (inr (e, history, are)) (inr (d, longer, past)) =
                let x : MultiEntry = record { member = place + 1; entry = e } in
                let both : d ≡ e = same_push w.history d e (sym longer ∙ history) in
                own_past p.turns (p.more ++ x ∷ [])
                (are ∙ ap (λ l. l ++ x ∷ []) p.entries ∙ append_assoc (front (map stubs_in members) p.turns) p.more (x ∷ []))
                (subst (λ es. HasStopped z.iface.facts es now.run.boots now.running)
                (ap (λ k. entries_at (place + 1) p.more ++ k ∷ []) both ∙ sym (at_more p.more x (place + 1) refl)) past)
                (hold_now (its_hold p same))

-- ---- a turn

module _ (members later : List Membered) (script : MultiScript) (given : List (List ℕ)) (order : List ℕ) (place : ℕ) (m : Membered) (now : WorldView) (changes : ChangesAt members place m now later)
    (is : KeepsMulti members script given order) (c : ℕ) (first : 1 ≤ c) (last : c ≤ most_client script.clients) (written : MultiCall) (next : next_of script given c ≡ Some written) (number : place + 1 ≡ written.member)
    (busy : is_free_phase (seat_of (view_in m) c).phase ≡ false) (before : RecoversSoFar (setting_in m) (view_in m)) (did : Did) (steps : HasStepped (setting_in m) (view_in m) c did now) (order_then : List ℕ)
    (order_is : cond (nat_lt (seat_of (view_in m) c).seq (seat_of now c).seq) (order ++ (place + 1) ∷ []) order ≡ order_then) (kept : KeepsMulti later script (with_handed given c (handed_by did)) order_then)
    (passed latest taken : ℕ) (turn : IsNextMultiTurn script (stage_now members script given is.merged passed latest) c taken) where
  abbrev gave : List (List ℕ)
  gave = with_handed given c (handed_by did)

  abbrev work_turns : ℕ → List MultiEntry
  work_turns turns = (stage_from (several_services (map stubs_in members) script) (multi_workload script) (first_stage (multi_workload script)) turns).history

  -- the service stops for the first time
  first_stop : FollowsMulti members script given is.merged passed latest → StopsFirst (setting_in m) (view_in m) c did now → IsPastFirstStop later script kept.merged
  first_stop f s = by s.done
    where
      stopped : HasStopped (setting_in m).iface.facts [] now.run.boots now.running
      stopped = record { first = record { items = s.items; stop = Some s.stop }; newer = []; are = s.one; stopped = refl; again = λ runs. absurd (let down = s.down in cc (runs, ap is_some down)); later = tt }

      from : (turns : ℕ) → kept.merged ≡ work_turns turns → IsPastFirstStop later script kept.merged
      from turns are = own_past members later script given order place m now changes is gave order_then kept turns [] (are ∙ sym (append-nil (work_turns turns))) stopped s.hold

      same : (now.history ≡ (view_in m).history) → GrowsTo (place + 1) (view_in m).history is.merged now.history kept.merged → kept.merged ≡ is.merged
      same history (inl (also, are)) = are
      same history (inr (e, longer, are)) = absurd (never_push (view_in m).history e (sym history ∙ longer))

      by : ((now.history ≡ (view_in m).history) × (now.seats ≡ (view_in m).seats)) ⊎ TurnsAs (setting_in m) (view_in m) c did now → IsPastFirstStop later script kept.merged
      by (inl quiet) =
          from f.turns (same quiet.0 (grows members later script given order place m now changes is gave order_then kept c first last did steps order_is) ∙ ap (λ (t : Stage MultiEntry). t.history) f.at)
      by (inr turns_as) =
          from (suc f.turns) (ap (λ (t : Stage MultiEntry). t.history)
          (turned_at members later script given order place m now changes is c first last written next number did turns_as order_then order_is kept passed latest taken f.turns turn f.at))

  -- no member was stopped yet, or one was
  pub begins_turn : (NoneStruck members → FollowsMulti members script given is.merged passed latest) → Begins members script is.merged → Begins later script kept.merged
  begins_turn follows (inr p) = inr (past_turn members later script given order place m now changes is gave order_then kept c first last did steps order_is p)
  begins_turn follows (inl none) = by (stops_or_not (setting_in m) (view_in m) c first within_seats (is.each place m changes.there) before ((follows none).up place m changes.there) busy did now steps)
    where
      within_seats : c ≤ length (view_in m).seats
      within_seats = omega (arith, last, is.clients place m changes.there)

      by : (struck_in now.run ≡ []) ⊎ StopsFirst (setting_in m) (view_in m) c did now → Begins later script kept.merged
      by (inr s) = inr (first_stop (follows none) s)
      by (inl not) = inl (λ q x there. at q x (later_cases members later script given order place m now changes is q x there))
        where
          at : (q : ℕ) (x : Membered) → ((q ≡ place) × (x ≡ changes.new)) ⊎ ((q ≢ place) × (slice_get members q ≡ Some x)) → struck_in (view_in x).run ≡ []
          at q x (inl its) = ap (λ (y : Membered). struck_in (view_in y).run) its.1 ∙ ap (λ (v : WorldView). struck_in v.run) changes.view_is ∙ not
          at q x (inr other) = none q x other.1

-- ---- the end

-- a run whose first boot stopped was struck
was_struck : (run : Run) (first : Boot) (newer : List Boot) → run.boots ≡ first ∷ newer → IsSome first.stop → struck_in run ≢ []
was_struck run first newer are stopped none = by first.stop stopped (sym (ap (flat_map (λ b. stop_in b.stop)) are) ∙ none)
  where
    by : (o : Option ℕ) → IsSome o → stop_in o ++ flat_map (λ b. stop_in b.stop) newer ≡ [] → ⊥
    by None some nothing = cc some
    by (Some n) some nothing = cc nothing

-- up to the last visible entry of the first boot of each member that was stopped, the entries are those of the play without stops
pub begins_over : (members : List Membered) (script : MultiScript) (given : List (List ℕ)) (merged : List MultiEntry) (passed last : ℕ) → (NoneStruck members → FollowsMulti members script given merged passed last) → Begins members script merged
    → (ends : List (ℕ × MultiEnd)) (eds : List Ended) → AreEndedMembers members ends eds → (n : ℕ) → AreBeforeStops (map stubs_in members) eds merged n
    → (turns : ℕ) × (take n merged ≡ take n (stage_from (several_services (map stubs_in members) script) (multi_workload script) (first_stage (multi_workload script)) turns).history)
begins_over members script given merged passed last follows (inl none) ends eds are n all = let f = follows none in (f.turns, ap (λ (s : Stage MultiEntry). take n s.history) f.at)
begins_over members script given merged passed last follows (inr p) ends eds are n all = (p.turns, ap (take n) p.entries ∙ take-append-le n front p.more within)
  where
    front : List MultiEntry
    front = (stage_from (several_services (map stubs_in members) script) (multi_workload script) (first_stage (multi_workload script)) p.turns).history

    within : n ≤ length front
    within =
        let found = there_is eds p.place (omega (arith, are.count, there_within members p.place p.member p.there)) in
        let run : run_of found.0.trace ≡ (view_in p.member).run = (are.each p.place p.member found.0 p.there found.1).its.1 in
        let facts = (setting_in p.member).iface.facts in
        let test : MultiEntry → Bool = λ e. (e.member == p.place + 1) && is_in_first_boot facts (view_in p.member).run.boots e.entry in
        let first : n ≤ length (up_to_last test merged)
        = subst (λ (r : Run). n ≤ length (up_to_last (λ e. (e.member == p.place + 1) && is_in_first_boot facts r.boots e.entry) merged)) run
        (all p.place (stubs_in p.member) found.0 (mapped_at stubs_in members p.place p.member p.there) found.1 (λ none. was_struck (view_in p.member).run p.past.first p.past.newer p.past.are p.past.stopped (ap struck_in (sym run) ∙ none))) in
        let later : list_any test p.more ≡ false
        = any_at (p.place + 1) (is_in_first_boot facts (view_in p.member).run.boots) p.more ∙ ap (λ l. list_any (is_in_first_boot facts l) (entries_at (p.place + 1) p.more)) p.past.are
        ∙ not_first facts p.past.first p.past.newer (entries_at (p.place + 1) p.more) p.past.later in
        let short : up_to_last test merged ≡ up_to_last test front = ap (up_to_last test) p.entries ∙ up_to_front test front p.more later in
        omega (arith, first, ap (λ (l : List MultiEntry). length l) short, up_to_short test front)

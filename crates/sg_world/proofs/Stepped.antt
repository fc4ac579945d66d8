-- The points of a world stay counted, whatever a step does.
use Rattle.std.proofs.Common.{Bool, List, None, Some, [], ap, arith, false, inl, inr, refl, subst, sym, true, ℕ, ◌&&◌, ◌++◌, ◌+◌, ◌∙◌, ◌∷◌, ◌≡◌, ◌≢◌, ◌≤◌, ◌⊎◌}
use Rattle.std.specs.Prelude.{◌==◌, if◌then◌else◌, min, unwrap_or}
use Rattle.std.proofs.lemmas.Bool.Decides.{nat_tests}
use Rattle.sg_facts.specs.sg_base.Counts.{last_count}
use Rattle.sg_facts.specs.sg_base.Stops.{asked_after}
use Rattle.sg_facts.specs.sg_base.declared.call.Call.{Call}
use Rattle.sg_replay.specs.sg_boot.Cells.{IsCell, IsRunning}
use Rattle.sg_facts.specs.declared.entry.Entry.{Entry}
use Rattle.sg_facts.specs.declared.outcome.Outcome.{Outcome}
use Rattle.sg_facts.specs.declared.outcome.Outcome.TheVariants.{Blocks, NoMemory, Replied, Stopped}
use Rattle.sg_facts.specs.declared.trace.Item.{Item}
use Rattle.sg_facts.specs.Facts.{Facts, is_visible}
use Rattle.sg_facts.specs.Legal.{Table}
use Rattle.sg_facts.specs.Object.{Object}
use Rattle.sg_facts.specs.Trace.{Boot}
use Rattle.sg_replay.specs.sg_hist.Recovered.{ArePointsOf, IsCount, asked_with_commit, asked_in, ends_committed, is_clients, is_replied, is_visible_reply}
use Rattle.sg_replay.specs.sg_hist.Inside.Parts.{IsPointOf, answer_to, is_stopped}
use Rattle.sg_world_laws.proofs.sg_recovery_laws.Points.{points_booted, points_counted, points_noted, points_stopped, points_struck}
use Rattle.sg_replay.specs.sg_hist.Growing.{asked_over, booted, last_stop, noted, struck}
use Rattle.sg_replay.specs.sg_hist.Reading.{last_items}
use Rattle.sg_clients.specs.WorldView.{WorldView, seat_of, struck_at, with_points}
use Rattle.sg_world.proofs.Counting.{count_on, point_of, sum_is, weak_of}
use Rattle.sg_world.specs.declared.did.Did.{Did}
use Rattle.sg_world.specs.declared.did.Did.TheVariants.{Answered, Blocked as Waits, Booted, Loaded, Lost, Replayed, Served, Skipped, Struck}
use Rattle.sg_world.specs.Steps.{Commits, IsNotedBy, Steps, StopsIdle}
use Rattle.sg_world.specs.Worlded.{CountsAll}
use Rattle.sg_world_laws.specs.Setting.{Setting}

-- ---- the last boot, however the boots are given

noted_on : (exact : Bool) (facts : Facts) (ask : Table) (parts : ℕ → ℕ) (boots : List Boot) (points later : ℕ) (item : Item) → boots ≢ [] → last_stop boots ≡ None → is_stopped item.outcome ≡ false
    → IsPointOf exact parts (asked_over facts 0 boots) (answer_to facts ask (last_items boots) item) item.tag item.shown.fun item.outcome item.points → IsCount exact later (asked_with_commit facts item)
    → ArePointsOf exact facts ask parts 0 boots points → ArePointsOf exact facts ask parts 0 (noted boots item) later
noted_on exact facts ask parts [] points later item begun running going one count all = absurd (begun refl)
noted_on exact facts ask parts (b ∷ boots) points later item begun running going one count all = points_noted exact facts ask parts 0 b boots points later item running going one count all

stopped_on : (exact : Bool) (facts : Facts) (ask : Table) (parts : ℕ → ℕ) (boots : List Boot) (points later : ℕ) (item : Item) → boots ≢ [] → last_stop boots ≡ None → is_stopped item.outcome ≡ true
    → IsPointOf exact parts (asked_over facts 0 boots) (answer_to facts ask (last_items boots) item) item.tag item.shown.fun item.outcome item.points → IsCount exact later item.points
    → ArePointsOf exact facts ask parts 0 boots points → ArePointsOf exact facts ask parts 0 (struck (noted boots item) item.points) later
stopped_on exact facts ask parts [] points later item begun running stopped one count all = absurd (begun refl)
stopped_on exact facts ask parts (b ∷ boots) points later item begun running stopped one count all = points_stopped exact facts ask parts 0 b boots points later item running stopped one count all

struck_on : (exact : Bool) (facts : Facts) (ask : Table) (parts : ℕ → ℕ) (boots : List Boot) (points later stop : ℕ) → boots ≢ [] → last_stop boots ≡ None
    → ((ends_committed facts (last_items boots) ≡ true) × (stop ≡ asked_over facts 0 boots)) ⊎ IsCount exact stop (asked_after (asked_over facts 0 boots) 1)
    → IsCount exact later stop → ArePointsOf exact facts ask parts 0 boots points → ArePointsOf exact facts ask parts 0 (struck boots stop) later
struck_on exact facts ask parts [] points later stop begun running at count all = absurd (begun refl)
struck_on exact facts ask parts (b ∷ boots) points later stop begun running at count all = points_struck exact facts ask parts 0 b boots points later stop running at count all

booted_on : (exact : Bool) (facts : Facts) (ask : Table) (parts : ℕ → ℕ) (boots : List Boot) (points : ℕ) → boots ≢ [] → ArePointsOf exact facts ask parts 0 boots points → ArePointsOf exact facts ask parts 0 (booted boots) points
booted_on exact facts ask parts [] points begun all = absurd (begun refl)
booted_on exact facts ask parts (b ∷ boots) points begun all = points_booted exact facts ask parts 0 b boots points all

noted_begun : (boots : List Boot) (item : Item) → boots ≢ [] → noted boots item ≢ []
noted_begun [] item begun none = begun refl
noted_begun (b ∷ []) item begun none = cc none
noted_begun (b ∷ c ∷ boots) item begun none = cc none

noted_stop : (boots : List Boot) (item : Item) → last_stop (noted boots item) ≡ last_stop boots
noted_stop [] item = refl
noted_stop (b ∷ []) item = refl
noted_stop (b ∷ c ∷ []) item = refl
noted_stop (b ∷ c ∷ d ∷ boots) item = noted_stop (c ∷ d ∷ boots) item

committed_last : (facts : Facts) (boots : List Boot) (item : Item) → boots ≢ [] → is_visible_reply facts item ≡ true → ends_committed facts (last_items (noted boots item)) ≡ true
committed_last facts [] item begun visible = absurd (begun refl)
committed_last facts (b ∷ []) item begun visible = pushed b.items
  where
    pushed : (items : List Item) → ends_committed facts (items ++ item ∷ []) ≡ true
    pushed [] = visible
    pushed (x ∷ []) = visible
    pushed (x ∷ y ∷ items) = pushed (y ∷ items)
committed_last facts (b ∷ c ∷ []) item begun visible = committed_last facts (c ∷ []) item (λ none. cc none) visible
committed_last facts (b ∷ c ∷ d ∷ boots) item begun visible = committed_last facts (c ∷ d ∷ boots) item (λ none. cc none) visible

asked_noted : (facts : Facts) (boots : List Boot) (item : Item) → boots ≢ [] → last_stop boots ≡ None → asked_over facts 0 (noted boots item) ≡ asked_with_commit facts item
asked_noted facts boots item = from 0 boots
  where
    in_boot : (n : ℕ) (items : List Item) → asked_in facts n (items ++ item ∷ []) ≡ asked_with_commit facts item
    in_boot n [] = refl
    in_boot n (x ∷ items) = in_boot (asked_with_commit facts x) items

    from : (n : ℕ) (boots : List Boot) → boots ≢ [] → last_stop boots ≡ None → asked_over facts n (noted boots item) ≡ asked_with_commit facts item
    from n [] begun running = absurd (begun refl)
    from n (b ∷ []) begun running = ap (λ x. unwrap_or x (asked_in facts n (b.items ++ item ∷ []))) running ∙ in_boot n b.items
    from n (b ∷ d ∷ boots) begun running = from (unwrap_or b.stop (asked_in facts n b.items)) (d ∷ boots) (λ none. cc none) running

-- ---- which items are visible replies

tag_hidden : (facts : Facts) (item : Item) → is_clients item.tag ≡ false → is_visible_reply facts item ≡ false
tag_hidden facts item is = ap (λ t. t && is_visible facts item.shown.fun && is_replied item.outcome) is

outcome_hidden : (facts : Facts) (item : Item) → is_replied item.outcome ≡ false → is_visible_reply facts item ≡ false
outcome_hidden facts item is = ap (λ t. is_clients item.tag && is_visible facts item.shown.fun && t) is ∙ none (is_clients item.tag && is_visible facts item.shown.fun)
  where
    none : (t : Bool) → (t && false) ≡ false
    none true = refl
    none false = refl

fun_hidden : (facts : Facts) (item : Item) (call : Call) → item.shown ≡ call → is_visible facts call.fun ≡ false → is_visible_reply facts item ≡ false
fun_hidden facts item call shown is = ap (λ t. is_clients item.tag && t && is_replied item.outcome) (ap (λ x. is_visible facts x.fun) shown ∙ is) ∙ none (is_clients item.tag) (is_replied item.outcome)
  where
    none : (a b : Bool) → (a && false && b) ≡ false
    none true b = refl
    none false b = refl

after_hidden : (facts : Facts) (item : Item) → is_visible_reply facts item ≡ false → asked_with_commit facts item ≡ item.points
after_hidden facts item is = ap (λ t. if t then asked_after item.points 1 else item.points) is

reply_going : (outcome : Outcome) → is_replied outcome ≡ true → is_stopped outcome ≡ false
reply_going (Replied reply patch) is = refl
reply_going Blocks is = absurd (cc is)
reply_going Stopped is = absurd (cc is)
reply_going NoMemory is = absurd (cc is)

same_count : (exact : Bool) (n m : ℕ) → n ≡ m → IsCount exact n m
same_count true n m is = is
same_count false n m is = omega (arith, is)

-- ---- each line

module _ (z : Setting) (w : WorldView) (c : ℕ) (cell : IsCell z.iface.facts w.running w.run.boots) (was : CountsAll z w) where
  abbrev exact : Bool
  exact = w.refused == 0

  going : (v : Object) → w.running ≡ Some v → last_stop w.run.boots ≡ None
  going v up = (subst (IsRunning z.iface.facts w.run.boots) up cell.runs).unstopped

  module _ (v : Object) (up : w.running ≡ Some v) (item : Item) (history : List Entry) (left : List Call) (n : IsNotedBy z w c item history left) where
    one : IsPointOf (w.refused == 0) z.parts (asked_over z.iface.facts 0 w.run.boots) (answer_to z.iface.facts z.ask (last_items w.run.boots) item) item.tag item.shown.fun item.outcome item.points
    one = point_of (w.refused == 0) z.parts (asked_over z.iface.facts 0 w.run.boots) w.run.points (answer_to z.iface.facts z.ask (last_items w.run.boots) item) item.tag item.shown.fun item.outcome item.points
        (sum_is (w.refused == 0) z.iface.facts z.ask z.parts 0 w.run.boots w.run.points was) n.points

    noted_counts : is_stopped item.outcome ≡ false → (later : ℕ) → IsCount (w.refused == 0) later (asked_with_commit z.iface.facts item) → ArePointsOf (w.refused == 0) z.iface.facts z.ask z.parts 0 (noted w.run.boots item) later
    noted_counts goes later count = noted_on (w.refused == 0) z.iface.facts z.ask z.parts w.run.boots w.run.points later item cell.begun (going v up) goes one count was

    hidden_counts : is_stopped item.outcome ≡ false → is_visible_reply z.iface.facts item ≡ false → ArePointsOf (w.refused == 0) z.iface.facts z.ask z.parts 0 (noted w.run.boots item) item.points
    hidden_counts goes hidden = noted_counts goes item.points (same_count (w.refused == 0) item.points (asked_with_commit z.iface.facts item) (sym (after_hidden z.iface.facts item hidden)))

    stopped_counts : is_stopped item.outcome ≡ true → ArePointsOf (w.refused == 0) z.iface.facts z.ask z.parts 0 (struck (noted w.run.boots item) item.points) item.points
    stopped_counts stopped = stopped_on (w.refused == 0) z.iface.facts z.ask z.parts w.run.boots w.run.points item.points item cell.begun (going v up) stopped one (same_count (w.refused == 0) item.points item.points refl) was

  -- a stop at the point before the service is used
  idle_counts : StopsIdle z w c (struck_at w (asked_after w.run.points 1)) → CountsAll z (struck_at w (asked_after w.run.points 1))
  idle_counts s =
      struck_on (w.refused == 0) z.iface.facts z.ask z.parts w.run.boots w.run.points (asked_after w.run.points 1) (asked_after w.run.points 1) cell.begun (going s.service s.uses.running)
      (inr (count_on (w.refused == 0) (asked_over z.iface.facts 0 w.run.boots) w.run.points (asked_after w.run.points 1) 1 (sum_is (w.refused == 0) z.iface.facts z.ask z.parts 0 w.run.boots w.run.points was) refl))
      (same_count (w.refused == 0) (asked_after w.run.points 1) (asked_after w.run.points 1) refl) was

  -- a point after the commit of a visible call
  module _ (between : WorldView) (s : Commits z w c between) where
    between_run : (between.run.boots ≡ noted w.run.boots s.asks.item) × (between.run.points ≡ s.asks.item.points) × (between.refused ≡ w.refused)
    between_run = (ap (λ x. x.run.boots) s.now, ap (λ x. x.run.points) s.now, ap (λ x. x.refused) s.now)

    visible_reply : is_visible_reply z.iface.facts s.asks.item ≡ true
    visible_reply = both (is_clients s.asks.item.tag) (is_visible z.iface.facts s.asks.item.shown.fun) (is_replied s.asks.item.outcome) (ap is_clients s.asks.tag) (ap (λ x. is_visible z.iface.facts x.fun) s.asks.shown ∙ s.visible) s.outcome
      where
        both : (a b d : Bool) → a ≡ true → b ≡ true → d ≡ true → (a && b && d) ≡ true
        both true true true p q r = refl
        both false b d p q r = absurd (cc p)
        both true false d p q r = absurd (cc q)
        both true true false p q r = absurd (cc r)

    after_one : asked_with_commit z.iface.facts s.asks.item ≡ asked_after s.asks.item.points 1
    after_one = ap (λ t. if t then asked_after s.asks.item.points 1 else s.asks.item.points) visible_reply

    after_sum : asked_after between.run.points 1 ≡ asked_with_commit z.iface.facts s.asks.item
    after_sum = ap (λ n. asked_after n 1) between_run.1 ∙ sym after_one

    goes_counts : CountsAll z (with_points between (asked_after between.run.points 1))
    goes_counts =
        subst (λ r. ArePointsOf (r == 0) z.iface.facts z.ask z.parts 0 between.run.boots (asked_after between.run.points 1)) (sym between_run.2)
        (subst (λ b. ArePointsOf (w.refused == 0) z.iface.facts z.ask z.parts 0 b (asked_after between.run.points 1)) (sym between_run.0)
        (noted_counts s.asks.service s.asks.reaches.uses.running s.asks.item (w.history ++ record { call = (seat_of w c).call; reply = s.reply } ∷ []) _ s.noted (reply_going s.asks.item.outcome s.outcome) (asked_after between.run.points 1)
        (same_count (w.refused == 0) (asked_after between.run.points 1) (asked_with_commit z.iface.facts s.asks.item) after_sum)))

    after_counts : CountsAll z (struck_at between (asked_after between.run.points 1))
    after_counts =
        let noted_all = noted_counts s.asks.service s.asks.reaches.uses.running s.asks.item (w.history ++ record { call = (seat_of w c).call; reply = s.reply } ∷ []) _ s.noted (reply_going s.asks.item.outcome s.outcome) (asked_with_commit z.iface.facts s.asks.item)
        (same_count (w.refused == 0) (asked_with_commit z.iface.facts s.asks.item) (asked_with_commit z.iface.facts s.asks.item) refl) in
        subst (λ r. ArePointsOf (r == 0) z.iface.facts z.ask z.parts 0 (struck between.run.boots (asked_after between.run.points 1)) (asked_after between.run.points 1)) (sym between_run.2)
        (subst (λ b. ArePointsOf (w.refused == 0) z.iface.facts z.ask z.parts 0 (struck b (asked_after between.run.points 1)) (asked_after between.run.points 1)) (sym between_run.0)
        (struck_on (w.refused == 0) z.iface.facts z.ask z.parts (noted w.run.boots s.asks.item) (asked_with_commit z.iface.facts s.asks.item) (asked_after between.run.points 1) (asked_after between.run.points 1)
        (noted_begun w.run.boots s.asks.item cell.begun) (noted_stop w.run.boots s.asks.item ∙ going s.asks.service s.asks.reaches.uses.running)
        (inl (committed_last z.iface.facts w.run.boots s.asks.item cell.begun visible_reply, after_sum ∙ sym (asked_noted z.iface.facts w.run.boots s.asks.item cell.begun (going s.asks.service s.asks.reaches.uses.running))))
        (same_count (w.refused == 0) (asked_after between.run.points 1) (asked_after between.run.points 1) refl) noted_all))

  -- whatever a step does, the points are counted after it
  pub steps_counted : (did : Did) (later : WorldView) → Steps z w c did later → CountsAll z later
  steps_counted Skipped later s = subst (CountsAll z) (sym s.now) was
  steps_counted (Answered reply) later (inl s) = subst (CountsAll z) (sym s.now) was
  steps_counted (Answered reply) later (inr (inl s)) = subst (CountsAll z) (sym s.now) was
  steps_counted (Answered reply) later (inr (inr s)) = subst (CountsAll z) (sym s.now) was
  steps_counted Lost later s = subst (CountsAll z) (sym s.now) was
  steps_counted Booted later s = subst (CountsAll z) (sym s.now) (booted_on (w.refused == 0) z.iface.facts z.ask z.parts w.run.boots w.run.points cell.begun was)
  steps_counted Struck later (inl s) = subst (CountsAll z) (sym s.now) (idle_counts (record { service = s.service; uses = s.uses; now = refl }))
  steps_counted Struck later (inr (inl s)) =
      subst (CountsAll z) (sym s.now) (stopped_counts s.service s.uses.running s.item w.history _ s.noted (ap is_stopped s.outcome))
  steps_counted Struck later (inr (inr (inl s))) =
      subst (CountsAll z) (sym s.now) (stopped_counts s.asks.service s.asks.reaches.uses.running s.asks.item w.history _ s.noted (ap is_stopped s.outcome))
  steps_counted Struck later (inr (inr (inr s))) = subst (CountsAll z) (sym s.now) (after_counts s.between s.commits)
  steps_counted Replayed later s =
      subst (CountsAll z) (sym s.now) (hidden_counts s.service s.uses.running s.item w.history _ s.noted s.outcome (tag_hidden z.iface.facts s.item (ap is_clients s.tag)))
  steps_counted Loaded later s =
      subst (CountsAll z) (sym s.now) (hidden_counts s.service s.uses.running s.item w.history _ s.noted s.outcome (tag_hidden z.iface.facts s.item (ap is_clients s.tag)))
  steps_counted Waits later s =
      subst (CountsAll z) (sym s.now) (hidden_counts s.asks.service s.asks.reaches.uses.running s.asks.item w.history _ s.noted (ap is_stopped s.outcome) (outcome_hidden z.iface.facts s.asks.item (ap is_replied s.outcome)))
  steps_counted Served later (inl s) = subst (CountsAll z) (sym s.now) (goes_counts s.between s.commits)
  steps_counted Served later (inr s) =
      subst (CountsAll z) (sym s.now) (hidden_counts s.asks.service s.asks.reaches.uses.running s.asks.item w.history _ s.noted (reply_going s.asks.item.outcome s.outcome) (fun_hidden z.iface.facts s.asks.item (seat_of w c).call s.asks.shown s.hidden))

  -- where a step gets no memory, they are counted at least
  pub wants_counted : (points : ℕ) → (points ≡ w.run.points) ⊎ (points ≡ asked_after w.run.points 1) → CountsAll z (record (with_points w points) { refused = min (w.refused + 1) last_count })
  wants_counted points asked =
      let more : w.run.points ≤ points = grown asked in
      let all = weak_of (w.refused == 0) z.iface.facts z.ask z.parts 0 w.run.boots w.run.points was in
      let sum = sum_is false z.iface.facts z.ask z.parts 0 w.run.boots w.run.points all in
      subst (λ e. ArePointsOf e z.iface.facts z.ask z.parts 0 w.run.boots points) (sym some_refused)
      (points_counted false z.iface.facts z.ask z.parts 0 w.run.boots w.run.points points (let now : asked_over z.iface.facts 0 w.run.boots ≤ points = omega (arith, sum, more) in now) all)
    where
      grown : (points ≡ w.run.points) ⊎ (points ≡ asked_after w.run.points 1) → w.run.points ≤ points
      grown (inl is) = omega (arith, is)
      grown (inr is) = omega (arith, is)

      some_refused : (min (w.refused + 1) last_count == 0) ≡ false
      some_refused = grind (arith, nat_tests)

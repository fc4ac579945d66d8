-- What the world must know, and goes on to keep, where its service is asked and nothing is committed.
use Rattle.std.proofs.Common.{IsSome, List, None, Option, Some, [], ap, arith, cond, false, length, map, refl, slice_get, subst, suc, sym, true, ℕ, ◌&&◌, ◌++◌, ◌+◌, ◌-◌, ◌==◌, ◌∙◌, ◌∷◌, ◌≡◌, ◌≤◌}
use Rattle.std.proofs.lemmas.Bool.Decides.{nat_tests}
use Rattle.std.specs.List.{list_all}
use Rattle.std.specs.Prelude.{nat_le}
use Rattle.sg_facts.specs.sg_base.declared.call.Call.{Call}
use Rattle.sg_facts.specs.sg_base.declared.reply.Good.{Good}
use Rattle.sg_facts.specs.sg_base.declared.reply.Reply.TheVariants.{Ok}
use Rattle.sg_facts.specs.Allowed.{acts_on_one, is_allowed, keeps_private, keeps_to, replays_all}
use Rattle.sg_facts.specs.Facts.{Facts, fun_at, writes}
use Rattle.sg_facts.specs.Fields.{is_set}
use Rattle.sg_facts.specs.Held.{set_of}
use Rattle.sg_facts.specs.Invoke.{loaded}
use Rattle.sg_facts.specs.Laws.{is_none, next_call}
use Rattle.sg_facts.specs.Object.{Object, after, file_at, first_text, object_of, patch_of, path_of, place_of}
use Rattle.sg_facts.specs.Inside.Rows.{patch_at}
use Rattle.sg_facts.specs.Trace.{Boot}
use Rattle.sg_facts.specs.Track.{row_at}
use Rattle.sg_facts.specs.Walks.{replayed_call}
use Rattle.sg_facts.specs.declared.outcome.Outcome.TheVariants.{Blocks, Replied, Stopped}
use Rattle.sg_facts.specs.declared.row.Row.{Row}
use Rattle.sg_facts.specs.declared.trace.Item.{Item}
use Rattle.sg_facts.proofs.Replaying.Found.{other_test}
use Rattle.sg_facts.proofs.Replaying.Steps.{declared_within}
use Rattle.sg_recovery_laws.specs.sg_hist.Reading.{service_call}
use Rattle.sg_recovery_laws.specs.sg_hist.Recovered.{IsByTable, is_replied, is_visible_reply}
use Rattle.sg_recovery_laws.specs.sg_hist.Inside.Parts.{IsOkOrStopped, call_in, is_stopped}
use Rattle.sg_recovery_laws.specs.sg_hist.Growing.{IsNextItem, noted, place_after}
use Rattle.sg_recovery_laws.proofs.Objects.Guarded.{both_true, first_four, well_allowed, writes_none}
use Rattle.sg_recovery_laws.proofs.Midway.Tabled.{reach_length}
use Rattle.sg_recovery_laws.proofs.Midway.Walking.{MayReplay, may_replay, replayed_is, writes_no}
use Rattle.sg_clients.specs.WorldView.{Seat, WorldView, held_in, unanswered}
use Rattle.sg_world_laws.specs.Keeping.{KeepsPromise, Stub, standing}
use Rattle.sg_world_laws.specs.Seats.{HaveSeats}
use Rattle.sg_world_laws.specs.Setting.{IsSetting, Setting, stubs_of}
use Rattle.sg_world_laws.specs.Turns.{HasAll, IsAskedItem, IsLetIn}
use Rattle.sg_world_laws.specs.Advancing.Advancing.{IsEverDue, IsFirstLeft, IsLeftToLoad, IsLoadItem, IsRebuildable, IsReplayItem, loaded_stub, replayed_stub, stopped_within, with_noted}
use Rattle.sg_world_laws.proofs.Advancing.Loading.{load_due, load_hidden, load_makes, load_stands}
use Rattle.sg_world_laws.proofs.Advancing.Noted.{keeps_noted, keeps_stopped, length_noted, next_now}
use Rattle.sg_world_laws.proofs.Advancing.Rebuilding.{has_next, its_walk, least, none_done, reach_r, step_now}
use Rattle.sg_world_laws.proofs.Advancing.Replayed.{call_is, replay_due, replay_hidden, replay_makes, replay_stands}
use Rattle.sg_world_laws.proofs.Advancing.Waited.{asked_due, asked_hidden, waits_makes, waits_stands, waits_there}

-- the number of a row's fields, and the call of a walk by its number
count_map : {X Y : Type 0} (f : X → Y) (xs : List X) → length (map f xs) ≡ length xs
count_map f [] = refl
count_map f (x ∷ xs) = ap suc (count_map f xs)

few_fields : (facts : Facts) → is_allowed facts ≡ true → length facts.fields ≤ 8
few_fields facts allowed =
    let few = nat_le (length facts.fields) 8 in
    let all = list_all (keeps_to facts) facts.funs in
    let three = (both_true (few && keeps_private facts && all) (replays_all facts (length facts.funs)) (first_four facts allowed)).0 in
    let two = (both_true (few && keeps_private facts) all three).0 in
    let one = (both_true few (keeps_private facts) two).0 in
    grind (arith, nat_tests, one)

numbered_call : (facts : Facts) (r : Row) (done rest : List ℕ) (fun : ℕ) → call_in facts r (length done + 1) (Some (done ++ fun ∷ rest)) ≡ Some (replayed_call facts r (is_none done) fun)
numbered_call facts r done rest fun =
    let place_is : length done + 1 - 1 ≡ length done = omega arith in
    let fun_is : slice_get (done ++ fun ∷ rest) (length done + 1 - 1) ≡ Some fun = ap (slice_get (done ++ fun ∷ rest)) place_is ∙ got done in
    numbered (slice_get (done ++ fun ∷ rest) (length done + 1 - 1)) refl fun_is ∙ ap (λ t. Some (replayed_call facts r t fun)) (first_is done)
  where
    got : (ds : List ℕ) → slice_get (ds ++ fun ∷ rest) (length ds) ≡ Some fun
    got [] = refl
    got (d ∷ ds) = got ds

    first_is : (ds : List ℕ) → (length ds + 1 == 1) ≡ is_none ds
    first_is [] = refl
    first_is (d ∷ ds) = other_test (suc (length ds) + 1) 1 (λ is. absurd (omega (arith, is)))

    numbered : (x : Option ℕ) → slice_get (done ++ fun ∷ rest) (length done + 1 - 1) ≡ x → x ≡ Some fun
        → call_in facts r (length done + 1) (Some (done ++ fun ∷ rest)) ≡ Some (replayed_call facts r (length done + 1 == 1) fun)
    numbered x got_it is = simp (got_it ∙ is) refl

-- ---- a row is rebuilt

module _ (z : Setting) (set : IsSetting z) (w : WorldView) (b : Boot) (boots : List Boot) (v : Object) (stub : Stub) (k : KeepsPromise z (standing w b boots (Some v)) stub)
    (call : Call) (let_in : IsLetIn z (standing w b boots (Some v)) call) (id : ℕ) (first : IsFirstLeft z (standing w b boots (Some v)) stub call id) where
  -- the first needed row that isn't whole may be rebuilt by the next call of its walk
  pub ready : IsRebuildable z (standing w b boots (Some v)) stub v id
  ready =
      let row_is = least z set w b boots v stub k call let_in id first in
      let n = has_next z set w b boots v stub k call let_in id first row_is.row row_is.there in
      let step = step_now z set w b boots v stub k call let_in id first row_is.row row_is.there n.done n.rest n.fun n.walk n.tells in
      let its = its_walk z set w b boots v stub k call let_in id first row_is.row row_is.there n.done n.rest n.fun n.walk n.tells in
      let replays = may_replay z.iface n.done n.rest n.fun row_is.row.made row_is.row.state (set_of row_is.row) its in
      record {
        row = row_is.row;
        done = n.done;
        rest = n.rest;
        fun = n.fun;
        its = record { there = row_is.there; walk = n.walk; told = n.tells };
        part = row_is.part;
        begun = none_done z set w b boots v stub k call let_in id first row_is.row row_is.there n.done n.rest n.fun n.walk n.tells;
        shown = ap (call_in z.iface.facts row_is.row (length n.done + 1)) n.walk ∙ numbered_call z.iface.facts row_is.row n.done n.rest n.fun;
        fields = fields_few row_is.row row_is.there;
        may = step.may_ask;
        good = step.good;
        answered = step.answered;
        unwritten = writes_nothing row_is.row n.done n.fun step.good replays;
        first = λ none. (replays.first none, set.law.keeps.next v (next_call z.iface.facts stub.names row_is.row n.done n.fun) step.good step.answered (replays.first none));
      }
    where
      fields_few : (r : Row) → row_at (object_of z.iface.facts w.history).rows id ≡ Some r → length r.fields ≤ 8
      fields_few r there =
          let long = reach_length z.iface r.made r.state (set_of r) (reach_r z set w b boots v stub k call let_in id first r there) in
          let same : length (set_of r) ≡ length r.fields = count_map is_set r.fields in
          let few = few_fields z.iface.facts set.law.shape.shape in
          omega (arith, long, same, few)

      writes_nothing : (r : Row) (done : List ℕ) (fun : ℕ) (good : Good) → MayReplay z.iface done fun → patch_of z.iface.facts v (next_call z.iface.facts stub.names r done fun) (Ok good) ≡ None
      writes_nothing r done fun good replays =
          let within = declared_within z.iface fun set.fits replays.declared in
          let none : writes (fun_at z.iface.facts.funs fun) ≡ false
          = writes_no z.iface.facts fun (length z.iface.facts.funs) (both_true (list_all (acts_on_one z.iface.facts) z.iface.facts.funs) (writes_none z.iface.facts (length z.iface.facts.funs)) (well_allowed z.iface.facts set.law.shape.shape)).1
          within.0 within.1 (replayed_is z.iface done fun set.fits replays) in
          let asked = next_call z.iface.facts stub.names r done fun in
          ap (λ t. cond t (patch_at (path_of v.rows asked.desc) (place_of (fun_at z.iface.facts.funs fun) (row_at v.rows asked.desc)) (first_text asked.args)) None) none

  module _ (it : IsRebuildable z (standing w b boots (Some v)) stub v id) (item : Item) (is : IsReplayItem z.iface.facts stub id call.client it.row it.done it.fun item) where
    asked_is : service_call item ≡ next_call z.iface.facts stub.names it.row it.done it.fun
    asked_is = call_is z set w b boots v stub k call let_in id first it.row it.done it.rest it.fun it.its item is

    hidden : is_visible_reply z.iface.facts item ≡ false
    hidden = replay_hidden z set w b boots v stub k call let_in id first it.row it.done it.rest it.fun it.its item is

    due : IsOkOrStopped item.outcome → IsByTable z.iface.facts z.ask v (service_call item) item.outcome → IsEverDue z (standing w b boots (Some v)) item
    due goes table = replay_due z set w b boots v stub k call let_in id first it.row it.done it.rest it.fun it.its item is goes table

    module _ (replied : item.outcome ≡ Replied (Ok it.good) None) where
      due_replied : IsEverDue z (standing w b boots (Some v)) item
      due_replied =
          due (subst IsOkOrStopped (sym replied) tt)
          (subst (IsByTable z.iface.facts z.ask v (service_call item)) (sym replied) (ap (z.ask v) asked_is ∙ it.answered, sym (ap (λ x. patch_of z.iface.facts v x (Ok it.good)) asked_is ∙ it.unwritten)))

      -- it was replayed: its item is the next, and the world keeps what it keeps, with the row so much further
      pub replayed_next : IsNextItem (stubs_of z) w.history (unanswered (standing w b boots (Some v))) (place_after [] (b ∷ boots) item)
      replayed_next = next_now z set w b boots v stub k item hidden due_replied w.run.points

      pub replayed : (points : ℕ)
          → KeepsPromise z (with_noted (standing w b boots (Some v)) item points (after z.iface.facts v (next_call z.iface.facts stub.names it.row it.done it.fun) (Ok it.good)) w.seats) (replayed_stub stub id it.row it.done it.rest it.good)
      replayed points =
          keeps_noted z set w b boots v stub k item hidden due_replied points (after z.iface.facts v (next_call z.iface.facts stub.names it.row it.done it.fun) (Ok it.good)) w.seats
          (replayed_stub stub id it.row it.done it.rest it.good) refl refl (subst (λ n. HaveSeats z w.history w.withdrawn n w.seats) (sym (length_noted (b ∷ boots) item)) k.seats) (ap is_stopped replied)
          (replay_makes z set w b boots v stub k call let_in id first it.row it.done it.rest it.fun it.its item is it.good it.answered replied)
          (replay_stands z set w b boots v stub k call let_in id first it.row it.done it.rest it.fun it.its item is it.good it.answered replied)

    module _ (stops : item.outcome ≡ Stopped) where
      due_stopped : IsEverDue z (standing w b boots (Some v)) item
      due_stopped =
          due (subst IsOkOrStopped (sym stops) tt)
          (subst (IsByTable z.iface.facts z.ask v (service_call item)) (sym stops) (subst IsSome (sym (ap (z.ask v) asked_is ∙ it.answered)) refl))

      -- the service stopped within it: its item is the next, and the world keeps what it keeps, with no service
      pub replay_stopped_next : IsNextItem (stubs_of z) w.history (unanswered (standing w b boots (Some v))) (place_after [] (b ∷ boots) item)
      replay_stopped_next = next_now z set w b boots v stub k item hidden due_stopped w.run.points

      pub replay_stopped : (stop points : ℕ) (later : Stub) → KeepsPromise z (stopped_within (standing w b boots (Some v)) item points stop) later
      replay_stopped stop points later = keeps_stopped z set w b boots v stub k item hidden due_stopped w.run.points stop points later

-- ---- a file is loaded

module _ (z : Setting) (set : IsSetting z) (w : WorldView) (b : Boot) (boots : List Boot) (v : Object) (stub : Stub) (k : KeepsPromise z (standing w b boots (Some v)) stub)
    (call : Call) (let_in : IsLetIn z (standing w b boots (Some v)) call) (key : List ℕ) (left : IsLeftToLoad z (standing w b boots (Some v)) stub call key)
    (item : Item) (is : IsLoadItem call.client key (file_at (object_of z.iface.facts w.history).files key) item) where
  load_hidden_now : is_visible_reply z.iface.facts item ≡ false
  load_hidden_now = load_hidden z set w b boots v stub k call let_in key left item is

  load_due_now : IsEverDue z (standing w b boots (Some v)) item
  load_due_now = load_due z set w b boots v stub k call let_in key left item is

  -- the item is the next, and the world keeps what it keeps, with the file in its service
  pub loaded_next : IsNextItem (stubs_of z) w.history (unanswered (standing w b boots (Some v))) (place_after [] (b ∷ boots) item)
  loaded_next = next_now z set w b boots v stub k item load_hidden_now load_due_now w.run.points

  pub file_loaded : (points : ℕ)
      → KeepsPromise z (with_noted (standing w b boots (Some v)) item points (loaded z.iface.facts v key (file_at (object_of z.iface.facts w.history).files key)) w.seats) (loaded_stub stub key)
  file_loaded points =
      keeps_noted z set w b boots v stub k item load_hidden_now load_due_now points (loaded z.iface.facts v key (file_at (object_of z.iface.facts w.history).files key)) w.seats (loaded_stub stub key) refl refl
      (subst (λ n. HaveSeats z w.history w.withdrawn n w.seats) (sym (length_noted (b ∷ boots) item)) k.seats) (ap is_stopped (ap (λ (x : Item). x.outcome) is))
      (load_makes z set w b boots v stub k call let_in key left item is) (load_stands z set w b boots v stub k call let_in key left item is)

-- ---- a client's call gets no reply

module _ (z : Setting) (set : IsSetting z) (w : WorldView) (b : Boot) (boots : List Boot) (v : Object) (stub : Stub) (k : KeepsPromise z (standing w b boots (Some v)) stub)
    (call : Call) (let_in : IsLetIn z (standing w b boots (Some v)) call) (all : HasAll z (standing w b boots (Some v)) stub call) (item : Item) (asked : IsAskedItem z stub v call item) where
  due_asked : IsEverDue z (standing w b boots (Some v)) item
  due_asked = asked_due z set w b boots v stub k call let_in all item asked

  module _ (waits : item.outcome ≡ Blocks) where
    waits_hidden : is_visible_reply z.iface.facts item ≡ false
    waits_hidden = asked_hidden z set w b boots v stub k call let_in all item asked (ap is_replied waits)

    -- it waits: it would wait at the object of the history, its item is the next, and the world keeps what it keeps with seats of which
    -- the same replies are held and the same calls unanswered
    pub would_wait : z.ask (object_of z.iface.facts w.history) call ≡ None
    would_wait = waits_there z set w b boots v stub k call let_in all item asked waits

    pub waiting_next : IsNextItem (stubs_of z) w.history (unanswered (standing w b boots (Some v))) (place_after [] (b ∷ boots) item)
    waiting_next = next_now z set w b boots v stub k item waits_hidden due_asked w.run.points

    pub waited : (points : ℕ) (seats : List Seat) → held_in (length (b ∷ boots)) seats ≡ held_in (length (b ∷ boots)) w.seats
        → unanswered (with_noted (standing w b boots (Some v)) item points v seats) ≡ unanswered (standing w b boots (Some v)) → HaveSeats z w.history w.withdrawn (length (noted (b ∷ boots) item)) seats
        → KeepsPromise z (with_noted (standing w b boots (Some v)) item points v seats) stub
    waited points seats held calls have =
        keeps_noted z set w b boots v stub k item waits_hidden due_asked points v seats stub held calls have (ap is_stopped waits)
        (waits_makes z set w b boots v stub k call let_in all item asked waits) (waits_stands z set w b boots v stub k call let_in all item asked waits)

  module _ (stops : item.outcome ≡ Stopped) where
    stops_hidden : is_visible_reply z.iface.facts item ≡ false
    stops_hidden = asked_hidden z set w b boots v stub k call let_in all item asked (ap is_replied stops)

    -- the service stopped within it: its item is the next, and the world keeps what it keeps, with no service
    pub stopped_next : IsNextItem (stubs_of z) w.history (unanswered (standing w b boots (Some v))) (place_after [] (b ∷ boots) item)
    stopped_next = next_now z set w b boots v stub k item stops_hidden due_asked w.run.points

    pub call_stopped : (stop points : ℕ) (later : Stub) → KeepsPromise z (stopped_within (standing w b boots (Some v)) item points stop) later
    call_stopped stop points later = keeps_stopped z set w b boots v stub k item stops_hidden due_asked w.run.points stop points later

-- The world keeps what it keeps when a call of a client is served and its reply is held.
use Rattle.std.proofs.Common.{◌≡◌, ℕ, suc, ◌<◌, ◌≤◌, Bool, true, false, cond, List, [], ◌∷◌, ◌++◌, None, Some, length, refl, sym, ◌∙◌, ap, subst, inl, inr, append_assoc, append-nil, arith}
use Rattle.std.specs.Prelude.{◌==◌, ◌||◌, ◌&&◌, ◌≢◌}
use Rattle.std.specs.List.{Contains, list_any}
use Rattle.std.specs.declared.option.Option.{Option}
use Rattle.sg_facts.specs.sg_base.Lists.{Each}
use Rattle.sg_facts.specs.sg_base.declared.call.Call.{Call}
use Rattle.sg_facts.specs.sg_base.declared.reply.Reply.{Reply}
use Rattle.sg_facts.specs.sg_base.declared.reply.Reply.TheVariants.{Ok, Refused}
use Rattle.sg_world_laws.specs.Committing.Serving.{IsHeldBy, IsServedCall}
use Rattle.sg_world_laws.proofs.Alike.{read_alike}
use Rattle.sg_world_laws.proofs.Committing.Later.{answered_it, moved, names_by, patch_it, told_by}
use Rattle.sg_world_laws.proofs.Committing.Noted.{cell_noted, held_noted, items_noted, last_noted, length_noted, own_noted, spelt_is}
use Rattle.sg_world_laws.proofs.Committing.Numbers.{numbers_served}
use Rattle.sg_world_laws.proofs.Committing.Recovering.{hidden_held, item_es, last_es, next_old, own, served_it}
use Rattle.sg_world_laws.proofs.Committing.Storing.{hidden_writes_none}
use Rattle.sg_world_laws.proofs.Committing.Traced.{item_names, names_any, read_plain}
use Rattle.sg_facts.proofs.RowLists.{row_of_live}
use Rattle.sg_facts.specs.declared.entry.Entry.{Entry}
use Rattle.sg_facts.specs.declared.outcome.Outcome.TheVariants.{Replied}
use Rattle.sg_facts.specs.declared.outcome.Patch.{Patch}
use Rattle.sg_facts.specs.declared.trace.Item.{Item}
use Rattle.sg_facts.specs.Alike.{named, under_names}
use Rattle.sg_facts.specs.Facts.{Facts, fun_at, is_visible}
use Rattle.sg_facts.specs.Legal.{Table}
use Rattle.sg_facts.specs.Limits.{last_client}
use Rattle.sg_facts.specs.Needs.{is_needed}
use Rattle.sg_facts.specs.Object.{Object, after, object_of, patch_of}
use Rattle.sg_facts.specs.Inside.Rows.{object_from}
use Rattle.sg_facts.specs.Trace.{Boot, Run}
use Rattle.sg_facts.specs.Track.{row_at}
use Rattle.sg_recovery_laws.specs.Midway.Numbers.{AreNumbers}
use Rattle.sg_recovery_laws.specs.Midway.Progress.{IsInRecovery, complete}
use Rattle.sg_recovery_laws.specs.Midway.Stepping.{present_with}
use Rattle.sg_recovery_laws.proofs.Midway.Glue.{under_named}
use Rattle.sg_recovery_laws.proofs.Midway.Least.{or_left}
use Rattle.sg_recovery_laws.specs.sg_hist.Reading.{Position, id_given, is_ok, item_of, last_items, names_at, older_items, pair_of}
use Rattle.sg_recovery_laws.specs.sg_hist.Inside.Reads.{entries_before}
use Rattle.sg_recovery_laws.specs.sg_hist.Recovered.{is_clients, is_replied, is_visible_reply}
use Rattle.sg_recovery_laws.specs.sg_hist.Inside.Parts.{GivesEntry, calls_made, is_patch_at}
use Rattle.sg_recovery_laws.specs.Objects.Waiting.{AreWaiting, IsWaiting, NoneBy}
use Rattle.sg_recovery_laws.proofs.Objects.Waiting.{hidden_is}
use Rattle.sg_recovery_laws.specs.sg_hist.Growing.{AreKept, IsGrown, IsInLast, IsLastCall, IsNextItem, IsOfNoEntry, IsRecovering, noted, place_after}
use Rattle.sg_recovery_laws.proofs.Events.{own_item}
use Rattle.sg_recovery_laws.proofs.sg_hist.Growing.{entries_before-more, names_at-more, places-more}
use Rattle.sg_recovery_laws.proofs.InBoots.{older_noted}
use Rattle.sg_recovery_laws.proofs.Lists.{each_append, each_contains, each_map, each_split}
use Rattle.sg_recovery_laws.proofs.Onward.{its_kept, made_stays}
use Rattle.sg_recovery_laws.proofs.Served.{item_of-own}
use Rattle.sg_clients.specs.WorldView.{WorldView, held_in, unanswered}
use Rattle.sg_recovery_laws.specs.LastItem.Told.{IsRead}
use Rattle.sg_recovery_laws.proofs.LastItem.Making.{entries_put}
use Rattle.sg_world_laws.specs.Keeping.{ClientsDiffer, AreDrawn, KeepsPromise, MayEnter, Stands, Stub, standing}
use Rattle.sg_world_laws.specs.Seats.{HaveSeats}
use Rattle.sg_world_laws.specs.Setting.{IsSetting, Setting, stubs_of}
use Rattle.sg_world_laws.proofs.Ahead.{holds_ahead_with, noted_ahead}
use Rattle.sg_world_laws.proofs.Asked.{its_es, next_es, none_of}
use Rattle.sg_world_laws.proofs.Drawn.{committed_same, waiting_apart, waiting_without}
use Rattle.sg_world_laws.proofs.Entering.{kept_all, kept_with}
use Rattle.sg_world_laws.proofs.Lasts.{held_lasts}
use Rattle.sg_world_laws.proofs.Orders.{good_now, held_few, time_now}
use Rattle.sg_world_laws.proofs.Split.{drawn_either}
use Rattle.sg_world_laws.proofs.Struck.{no_drawn}

each_put : (P : Entry → Type 0) (front back : List Entry) (e : Entry) → Each P (front ++ back) → P e → Each P (front ++ e ∷ back)
each_put P front back e all own = let parts = each_split P front back all in each_append P front (e ∷ back) parts.0 (own, parts.1)

-- a reply more of another client may be held
waiting_put : (facts : Facts) (ask : Table) (o : Object) (front back : List Entry) (e : Entry) → IsWaiting facts ask o e → NoneBy e.call.client (front ++ back) → AreWaiting facts ask o (front ++ back)
    → AreWaiting facts ask o (front ++ e ∷ back)
waiting_put facts ask o [] back e own none all = (own, none, all)
waiting_put facts ask o (x ∷ front) back e own none all = (
  all.0,
  each_put (λ y. y.call.client ≢ x.call.client) front back e all.1 (λ same. none.0 (sym same)),
  waiting_put facts ask o front back e own none.1 all.2,
)

module _ (z : Setting) (set : IsSetting z) (w : WorldView) (b : Boot) (boots : List Boot) (v : Object) (stub : Stub) (k : KeepsPromise z (standing w b boots (Some v)) stub)
    (call : Call) (item : Item) (reply other : Reply) (patch : Option Patch) (s : IsServedCall z (standing w b boots (Some v)) stub v call item reply other patch)
    (hidden : is_visible z.iface.facts call.fun ≡ false) (front back : List Entry) (w' : WorldView) (c : IsHeldBy z (standing w b boots (Some v)) stub v call item reply other front back w') where
  abbrev facts : Facts
  facts = z.iface.facts

  abbrev o : Object
  o = object_of z.iface.facts w.history

  abbrev ws : List Entry
  ws = held_in (length (b ∷ boots)) w.seats

  abbrev e : Entry
  e = record { call = call; reply = reply }

  abbrev v1 : Object
  v1 = after z.iface.facts v (under_names stub.names call) other

  -- the calls that weren't answered
  abbrev u : List Call
  u = unanswered (standing w b boots (Some v))

  abbrev run_now : Run
  run_now = record { boots = noted (b ∷ boots) item; points = w'.run.points }

  -- the later world, spelt out by the earlier one
  abbrev later : WorldView
  later = record w' { history = w.history; run = record { boots = noted (b ∷ boots) item; points = w'.run.points }; running = Some v1 }

  same_world : w' ≡ later
  same_world = spelt_is w' w.history (noted (b ∷ boots) item) (Some v1) c.history c.boots c.running

  same_held : held_in (length (noted (b ∷ boots) item)) w'.seats ≡ front ++ e ∷ back
  same_held = ap (λ n. held_in n w'.seats) (length_noted b boots item) ∙ c.held

  waits : AreWaiting facts z.ask o (front ++ e ∷ back)
  waits = waiting_put facts z.ask o front back e (record { hidden = hidden; answered = answered_it z set w b boots v stub k call item reply other patch s })
      (subst (NoneBy call.client) c.held_before s.let_in.none_by) (subst (AreWaiting facts z.ask o) c.held_before k.waiting)

  few_held : length (front ++ e ∷ back) ≤ last_client
  few_held = let few = held_few (length (b ∷ boots)) w'.seats in let same : length (held_in (length (b ∷ boots)) w'.seats) ≡ length (front ++ e ∷ back) = ap length c.held in let most = c.seats.few in omega (arith, few, same, most)

  apart_now : ClientsDiffer (front ++ e ∷ back)
  apart_now = waiting_apart facts z.ask o (front ++ e ∷ back) waits

  apart_was : ClientsDiffer (front ++ back)
  apart_was = waiting_apart facts z.ask o (front ++ back) (waiting_without facts z.ask o front back e waits)

  drawn_was : (es : List Entry) → AreDrawn (front ++ back) es → AreDrawn ws es
  drawn_was es drawn = subst (λ l. AreDrawn l es) (sym c.held_before) drawn

  quiet : (fun_at facts.funs call.fun).creation ≡ false
  quiet = (hidden_is facts call.fun hidden).makes

  and_false : (q : Bool) → (q && false) ≡ false
  and_false true = refl
  and_false false = refl

  -- ---- the run recovers

  unseen : is_visible_reply facts item ≡ false
  unseen =
      ap (λ (x : Call). is_clients item.tag && is_visible facts x.fun && is_replied item.outcome) s.replied.asked.shown
      ∙ ap (λ q. is_clients item.tag && q && is_replied item.outcome) hidden ∙ at (is_clients item.tag) (is_replied item.outcome)
    where
      at : (q x : Bool) → (q && false && x) ≡ false
      at true x = refl
      at false x = refl

  none_es : (es : List Entry) → AreDrawn ws es → IsOfNoEntry item (w.history ++ es)
  none_es es drawn = none_of z set w b boots v stub k call s.let_in s.all item s.replied.asked es drawn

  noted_now : (es : List Entry) → AreDrawn ws es → IsRecovering (stubs_of z) (w.history ++ es) run_now u
  noted_now = noted_ahead (stubs_of z) w.history ws b boots w.run.points w'.run.points u u item unseen
      (λ es drawn. (none_es es drawn, (λ x has. has), next_old z set w b boots v stub k call item reply other patch s es drawn)) k.recovering

  place_of_it : item_of run_now e ≡ Some (place_after [] (b ∷ boots) item)
  place_of_it = item_of-own item e (place_after [] (b ∷ boots) item) (record { boots = b ∷ boots; points = w.run.points }) run_now (places-more [] b boots item) (own_item [] b boots item)
      (own z set w b boots v stub k call item reply other patch s)

  hidden_were : Each (λ x. is_visible facts x.call.fun ≡ false) (front ++ back)
  hidden_were = subst (Each (λ x. is_visible facts x.call.fun ≡ false)) c.held_before (hidden_held z set w b boots v stub k call item reply other patch s)

  held_now : (xs ys : List Entry) → AreDrawn (front ++ e ∷ back) (xs ++ e ∷ ys) → AreDrawn (front ++ back) (xs ++ ys) → NoneBy call.client (xs ++ ys) → Each (Contains (front ++ back)) (xs ++ ys)
      → IsRecovering (stubs_of z) (w.history ++ (xs ++ e ∷ ys)) run_now u
  held_now xs ys all drawn none among =
      let d = drawn_was (xs ++ ys) drawn in
      let it = item_es z set w b boots v stub k call item reply other patch s (xs ++ ys) d in
      holds_ahead_with (stubs_of z) w.history xs ys e b boots w'.run.points u item (own z set w b boots v stub k call item reply other patch s) (each_split (λ x. x.call.client ≢ call.client) xs ys none).1
      (each_split (λ x. is_visible facts x.call.fun ≡ false) xs ys
      (each_map (Contains (front ++ back)) (λ x. is_visible facts x.call.fun ≡ false) (xs ++ ys) (λ x has. each_contains (λ y. is_visible facts y.call.fun ≡ false) (front ++ back) x hidden_were has) among)).1
      (record {
        hidden = hidden;
        served = served_it z set w b boots v stub k call item reply other patch s;
        own = subst (GivesEntry facts ((w.history ++ (xs ++ ys)) ++ e ∷ []) e) (sym place_of_it) (it.shown, it.reply);
      })
      (last_es z set w b boots v stub k call item reply other patch s (xs ++ ys) d) (kept_one (w.history ++ (xs ++ ys))) lasts (noted_now (xs ++ ys) d)
    where
      kept_one : (l : List Entry) → AreKept l u (l ++ e ∷ []) u
      kept_one l = kept_with l e u u (λ x has. inr has)

      -- no call that the client of a held reply made has a greater number
      lasts_later : Each (λ x. IsLastCall (w.history ++ (xs ++ e ∷ ys)) (unanswered w') x.call) (xs ++ e ∷ ys)
      lasts_later = held_lasts z (record w' { history = w.history }) (length (b ∷ boots)) c.seats (xs ++ e ∷ ys) (subst (λ l. AreDrawn l (xs ++ e ∷ ys)) (sym c.held) all)

      lasts : Each (λ x. IsLastCall ((w.history ++ xs) ++ e ∷ ys) u x.call) ys
      lasts = each_map (λ x. IsLastCall (w.history ++ (xs ++ e ∷ ys)) (unanswered w') x.call) (λ x. IsLastCall ((w.history ++ xs) ++ e ∷ ys) u x.call) ys
          (λ x last y made. last y (kept_all (w.history ++ (xs ++ e ∷ ys)) u (unanswered w') c.left y (subst (λ l. Contains (calls_made l u) y) (append_assoc w.history xs (e ∷ ys)) made)))
          (each_split (λ x. IsLastCall (w.history ++ (xs ++ e ∷ ys)) (unanswered w') x.call) xs (e ∷ ys) lasts_later).1.1

  recover_now : (es : List Entry) → AreDrawn (front ++ e ∷ back) es → IsRecovering (stubs_of z) (w.history ++ es) run_now u
  recover_now es drawn = elim (drawn_either front back e es apart_now apart_was drawn) [
    | inl less ↦ noted_now es (drawn_was es less)
    | inr x ↦ subst (λ l. IsRecovering (stubs_of z) (w.history ++ l) run_now u) (sym x.0.is) (held_now x.0.front x.0.rest (subst (AreDrawn (front ++ e ∷ back)) x.0.is drawn) x.1 x.0.none x.0.each)
  ]

  recover_later : (es : List Entry) → AreDrawn (front ++ e ∷ back) es → IsRecovering (stubs_of z) (w.history ++ es) run_now (unanswered w')
  recover_later es drawn = made_stays (stubs_of z) (w.history ++ es) run_now u (unanswered w') (kept_all (w.history ++ es) u (unanswered w') c.left) (recover_now es drawn)

  -- ---- the trace

  no_patch : patch ≡ None
  no_patch = hidden_writes_none z set w b boots v stub k call item reply other patch s hidden

  read_at : (xs ys : List Entry) → AreDrawn ws xs → ((p q : Position) → IsGrown item p q → entries_before (w.history ++ ys) q ≡ entries_before (w.history ++ xs) p)
      → IsRead facts z.walks (w.history ++ ys) (older_items [] (b ∷ boots)) (last_items (b ∷ boots) ++ item ∷ []) stub.names stub.told stub.present o.rows
  read_at xs ys drawn same_entries =
      read_alike facts z.walks (w.history ++ ys) (older_items [] (b ∷ boots)) (last_items (b ∷ boots) ++ item ∷ []) stub.names stub.names stub.told stub.told (λ path. stub.present path || is_patch_at path item.outcome) stub.present
      o.rows o.rows (λ id live. live) refl (λ id live. refl) (λ id live. refl)
      (λ path. or_false (stub.present path) ∙ ap (λ q. stub.present path || is_patch_at path (Replied other q)) (sym no_patch) ∙ ap (λ x. stub.present path || is_patch_at path x) (sym s.replied.outcome))
      (read_plain z set w b boots v stub k call item reply other patch s xs ys drawn same_entries (ap (λ q. is_ok (Replied other patch) && q) quiet ∙ and_false (is_ok (Replied other patch))))
    where
      or_false : (q : Bool) → q ≡ (q || false)
      or_false true = refl
      or_false false = refl

  put_at : (xs ys : List Entry) (p q : Position) → IsOfNoEntry item (w.history ++ (xs ++ ys)) → IsGrown item p q → entries_before (w.history ++ (xs ++ e ∷ ys)) q ≡ entries_before (w.history ++ (xs ++ ys)) p
  put_at xs ys p q none g =
      ap (λ l. entries_before l q) (sym (append_assoc w.history xs (e ∷ ys)))
      ∙ entries_put (w.history ++ xs) ys e item p q (subst (IsOfNoEntry item) (sym (append_assoc w.history xs ys)) none) (own z set w b boots v stub k call item reply other patch s) g
      ∙ ap (λ l. entries_before l p) (append_assoc w.history xs ys)

  read_held : (es : List Entry) → AreDrawn (front ++ e ∷ back) es
      → IsRead facts z.walks (w.history ++ es) (older_items [] (b ∷ boots)) (last_items (b ∷ boots) ++ item ∷ []) stub.names stub.told stub.present o.rows
  read_held es drawn = elim (drawn_either front back e es apart_now apart_was drawn) [
    | inl less ↦ let d = drawn_was es less in read_at es es d (λ p q g. entries_before-more item p q (w.history ++ es) g (none_es es d))
    | inr x ↦
        let d = drawn_was (x.0.front ++ x.0.rest) x.1 in
        subst (λ l. IsRead facts z.walks (w.history ++ l) (older_items [] (b ∷ boots)) (last_items (b ∷ boots) ++ item ∷ []) stub.names stub.told stub.present o.rows) (sym x.0.is)
        (read_at (x.0.front ++ x.0.rest) (x.0.front ++ e ∷ x.0.rest) d (λ p q g. put_at x.0.front x.0.rest p q (none_es (x.0.front ++ x.0.rest) d) g))
  ]

  read_now : (es : List Entry) → AreDrawn (front ++ e ∷ back) es
      → IsRead facts z.walks (w.history ++ es) (older_items [] (noted (b ∷ boots) item)) (last_items (noted (b ∷ boots) item)) stub.names stub.told stub.present o.rows
  read_now es drawn =
      subst (λ l. IsRead facts z.walks (w.history ++ es) l (last_items (noted (b ∷ boots) item)) stub.names stub.told stub.present o.rows) (sym (older_noted [] b boots item))
      (subst (λ l. IsRead facts z.walks (w.history ++ es) (older_items [] (b ∷ boots)) l stub.names stub.told stub.present o.rows) (sym (last_noted b boots item)) (read_held es drawn))

  unnamed_now : (es : List Entry) (id : ℕ) → o.given < id → list_any (λ (n : ℕ × ℕ). n.0 == id) (names_at facts (w.history ++ es) (last_items (noted (b ∷ boots) item))) ≡ false
  unnamed_now es id above =
      ap (λ f. list_any (λ (n : ℕ × ℕ). n.0 == id) (names_at facts (w.history ++ es) f)) (last_noted b boots item)
      ∙ ap (λ l. list_any (λ (n : ℕ × ℕ). n.0 == id) l) (names_at-more facts (w.history ++ es) (last_items (b ∷ boots)) item
      ∙ ap (λ l. names_at facts (w.history ++ es) (last_items (b ∷ boots)) ++ l) (item_names z set w b boots v stub k call item reply other patch s (w.history ++ es)
      ∙ ap (λ q. cond q (pair_of (id_given (w.history ++ es) call.client call.seq) (Replied other patch)) []) quiet)
      ∙ append-nil (names_at facts (w.history ++ es) (last_items (b ∷ boots)))
      ∙ names_any z set w b boots v stub k call item reply other patch s [] es)
      ∙ k.stands.unnamed [] (no_drawn ws) id above

  -- ---- the service

  -- the object after all held replies is that after the new one and the others
  after_all : object_from facts (after z.iface.facts o call reply) ws ≡ object_from facts o (front ++ e ∷ back)
  after_all = ap (object_from facts (after z.iface.facts o call reply)) c.held_before
      ∙ committed_same facts z.ask z.sound set.law o front back e (good_now z set w b boots (Some v) stub k) (time_now z set w b boots (Some v) stub k (suc (suc (length (front ++ e ∷ back)))) (omega (arith, few_held))) waits

  same_names : (r p : Reply) (id : ℕ) → named stub.names id ≡ named (names_by facts stub.names call r p) id
  same_names (Refused code) p id = refl
  same_names (Ok g) (Refused code) id = refl
  same_names (Ok g) (Ok h) id = ap (λ q. named (cond q ((g.desc, h.desc) ∷ stub.names) stub.names) id) (sym quiet)

  same_told : (r : Reply) (id : ℕ) → stub.told id ≡ told_by facts call r stub.told id
  same_told (Refused code) id = refl
  same_told (Ok g) id = sym (ap (λ q. cond (q && (id == g.desc)) complete (stub.told id)) quiet)

  under_now : IsInRecovery z.iface z.walks stub.names stub.told stub.present (object_from facts o (front ++ e ∷ back)) v1
  under_now =
      subst (λ x. IsInRecovery z.iface z.walks stub.names stub.told stub.present x v1) after_all
      (under_named z.iface z.walks (names_by facts stub.names call reply other) stub.names (same_names reply other) (object_from facts (after z.iface.facts o call reply) ws) v1 (told_by facts call reply stub.told) stub.told
      (present_with (patch_of facts o call reply) stub.present) stub.present (same_told reply)
      (λ path. ap (λ q. present_with q stub.present path) (sym no_patch ∙ patch_it z set w b boots v stub k call item reply other patch s))
      (moved z set w b boots v stub k call item reply other patch s).in_recovery)

  numbers_now : AreNumbers facts stub.told (length w.history) (object_from facts o (front ++ e ∷ back)) v1
  numbers_now = subst (λ x. AreNumbers facts stub.told (length w.history) x v1) after_all
      (numbers_served z set w b boots v stub k call item reply other patch s stub.told (length w.history) (omega arith) (λ id live. same_told reply id))

  stands_now : Stands z later stub v1
  stands_now = record {
    numbers = subst (λ l. AreNumbers facts stub.told (length w.history) (object_from facts o l) v1) (sym same_held) numbers_now;
    named_live = k.stands.named_live;
    in_recovery = subst (λ l. IsInRecovery z.iface z.walks stub.names stub.told stub.present (object_from facts o l) v1) (sym same_held) under_now;
    read = λ es drawn. read_now es (subst (λ l. AreDrawn l es) same_held drawn);
    unnamed = λ es drawn. unnamed_now es;
    rebuilt = λ eager some id live.
        let x = row_of_live o.rows id live in
        ap stub.told (sym x.2) ∙ s.all.rows x.0 (ap (row_at o.rows) x.2 ∙ x.1) (or_left z.iface.eager (is_needed facts o.rows call x.0) eager);
  }

  -- the world keeps what it keeps
  pub held_keeps : KeepsPromise z w' stub
  held_keeps = subst (λ x. KeepsPromise z x stub) (sym same_world) (record {
    legal = k.legal;
    calls = k.calls;
    object = k.object;
    seats = subst (λ n. HaveSeats z w.history w'.withdrawn n w'.seats) (sym (length_noted b boots item)) c.seats;
    waiting = subst (AreWaiting facts z.ask o) (sym same_held) waits;
    enter = subst (Each (MayEnter z w.history)) (sym same_held) (each_put (MayEnter z w.history) front back e (subst (Each (MayEnter z w.history)) c.held_before k.enter) (record { may = s.let_in.may; guarded = s.let_in.guarded }));
    items = items_noted z set w b boots v stub k call item reply other patch s;
    held_items = subst (Each (IsInLast run_now)) (sym same_held)
        (each_put (IsInLast run_now) front back e (subst (Each (IsInLast run_now)) c.held_before (held_noted z set w b boots v stub k call item reply other patch s w'.run.points)) (own_noted z set w b boots v stub k call item reply other patch s w'.run.points));
    recovering = λ es drawn. recover_later es (subst (λ l. AreDrawn l es) same_held drawn);
    cell = cell_noted z set w b boots v stub k call item reply other patch s;
    stands = stands_now;
  })

  -- its item pays what it owes, before its entry
  pub held_next : IsNextItem (stubs_of z) w.history (unanswered w') (place_after [] (b ∷ boots) item)
  held_next = subst (λ l. IsNextItem (stubs_of z) l (unanswered w') (place_after [] (b ∷ boots) item)) (append-nil w.history)
      (next_es z set w b boots v stub k call s.let_in s.all item s.replied.asked [] (no_drawn ws) (unanswered w')
      (its_kept (w.history ++ []) u (w.history ++ []) (unanswered w') item.shown (kept_all (w.history ++ []) u (unanswered w') c.left) item.tag (its_es z set w b boots v stub k call s.let_in s.all item s.replied.asked [] (no_drawn ws))))

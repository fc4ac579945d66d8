-- What holds in a world whichever held replies are committed first.

-- ---- numbers

-- no more replies are held than there are seats
use Rattle.std.proofs.Common.{Bool, List, None, Option, Some, [], ap, arith, false, filter, if◌then◌else◌, inl, inr, length, length-append, map, refl, subst, suc, sym, true, ℕ, ◌*◌, ◌++◌, ◌+◌, ◌<◌, ◌^◌, ◌||◌, ◌∙◌, ◌∷◌, ◌≡◌, ◌≢◌, ◌≤◌}
use Rattle.std.proofs.lemmas.List.Elements.{Contains-append_right}
use Rattle.std.specs.List.{Contains, list_any}
use Rattle.sg_facts.specs.sg_base.Lists.{Each}
use Rattle.sg_facts.specs.sg_base.declared.call.Call.{Call}
use Rattle.sg_facts.specs.sg_base.declared.reply.Reply.{Reply}
use Rattle.sg_facts.proofs.RowLists.{live_of_row, row_of_live}
use Rattle.sg_facts.specs.Facts.{fun_at}
use Rattle.sg_facts.specs.Guard.{guard}
use Rattle.sg_facts.specs.Held.{AreReachable}
use Rattle.sg_facts.specs.Interface.{Declared, declares}
use Rattle.sg_facts.specs.Laws.{slow}
use Rattle.sg_facts.specs.Legal.{LegalFrom, Table}
use Rattle.sg_facts.specs.Inside.Rows.{refused_or, object_from}
use Rattle.sg_facts.specs.Limits.{last_client}
use Rattle.sg_facts.specs.Needs.{Needs, is_needed, is_wanted, needs, wanted}
use Rattle.sg_facts.specs.Object.{Object, after, empty_object, object_of, path_of}
use Rattle.sg_facts.specs.Sound.{IsSound}
use Rattle.sg_facts.specs.Trace.{Boot}
use Rattle.sg_facts.specs.Track.{is_live, row_at}
use Rattle.sg_facts.specs.declared.entry.Entry.{Entry}
use Rattle.sg_facts.specs.declared.row.Row.{Row}
use Rattle.sg_facts.specs.declared.trace.Item.{Item}
use Rattle.sg_recovery_laws.proofs.Midway.Least.{either_of, or_left, or_right}
use Rattle.sg_recovery_laws.specs.Midway.Progress.{IsNone, complete}
use Rattle.sg_recovery_laws.specs.sg_hist.Reading.{is_by_guard, is_item_of, last_items, older_items}
use Rattle.sg_recovery_laws.specs.sg_hist.Recovered.{IsCallOf}
use Rattle.sg_recovery_laws.proofs.Objects.Guarded.{acts}
use Rattle.sg_recovery_laws.proofs.Objects.Narrow.{guard_stays}
use Rattle.sg_recovery_laws.proofs.Objects.Needed.{needed_back, needed_same, needs_same}
use Rattle.sg_recovery_laws.proofs.Objects.Serves.{fewer_later, needed_after}
use Rattle.sg_recovery_laws.proofs.Objects.Steady.{after_good, others_stay}
use Rattle.sg_recovery_laws.proofs.Objects.Waiting.{good_later, hidden_is, less_time, time_after, waiting_after}
use Rattle.sg_recovery_laws.specs.Objects.Serving.{HasTime, IsAnsweredAt, IsLegalObject}
use Rattle.sg_recovery_laws.specs.Objects.Waiting.{AreWaiting, NoneBy}
use Rattle.sg_recovery_laws.proofs.Lists.{each_append, each_contains, each_map, each_split}
use Rattle.sg_recovery_laws.specs.sg_hist.Growing.{IsInLast, IsOfNoEntry}
use Rattle.sg_clients.specs.WorldView.{Seat, WorldView, held_in, held_replies, is_held_in, unanswered}
use Rattle.sg_clients.specs.declared.withdrawn.Withdrawn.{Withdrawn}
use Rattle.sg_recovery_laws.proofs.LastItem.Reached.{reach_all}
use Rattle.sg_recovery_laws.specs.sg_hist.Clients.{IsClientsCall, MayBeMade}
use Rattle.sg_recovery_laws.specs.LastItem.LastPlace.{HaveItems}
use Rattle.sg_recovery_laws.specs.LastItem.Told.{IsKnown, IsRead}
use Rattle.sg_world_laws.proofs.Drawn.{drawn_waiting, object_after, waiting_apart}
use Rattle.sg_world_laws.proofs.Items.{has_item}
use Rattle.sg_world_laws.specs.Keeping.{AreDrawn, KeepsPromise, MayEnter, Stands, Stub, standing}
use Rattle.sg_world_laws.specs.Seats.{AreSeated, HaveSeats, all_seqs}
use Rattle.sg_world_laws.specs.Setting.{IsSetting, Setting}
use Rattle.sg_world_laws.specs.Turns.{HasAll, IsLetIn}

pub held_few : (boot : ℕ) (seats : List Seat) → length (held_in boot seats) ≤ length seats
held_few boot [] = omega arith
held_few boot (s ∷ seats) = at (is_held_in boot s) (held_few boot seats)
  where
    at : (b : Bool) → length (held_in boot seats) ≤ length seats
        → length (if b then record { call = s.call; reply = s.reply } ∷ held_in boot seats else held_in boot seats) ≤ suc (length seats)
    at true few = omega (arith, few)
    at false few = omega (arith, few)

-- so many entries at most: each client's are numbered
few_seqs : (z : Setting) (history : List Entry) (withdrawn : List Withdrawn) (client : ℕ) (seats : List Seat) → AreSeated z history withdrawn client seats → all_seqs seats ≤ 4294967295 * length seats
few_seqs z history withdrawn client [] all = omega arith
few_seqs z history withdrawn client (s ∷ seats) all =
    let rest = few_seqs z history withdrawn (client + 1) seats all.2 in
    let own = all.0.few in
    omega (arith, rest, own)

-- a history is far from the end of its numbers
pub far : (z : Setting) (history : List Entry) (withdrawn : List Withdrawn) (boots : ℕ) (seats : List Seat) → HaveSeats z history withdrawn boots seats → slow + 9 * length history + 256 < 2 ^ 63
far z history withdrawn boots seats have =
    let most = few_seqs z history withdrawn 1 seats have.each in
    let total = have.total in
    let few = have.few in
    omega (arith, most, total, few)

-- ---- the guard and the table say the same of what follows

pub legal_append : (i : Declared) (ask : Table) (o : Object) (xs ys : List Entry) → LegalFrom i ask o xs → LegalFrom i ask (object_from i.facts o xs) ys → LegalFrom i ask o (xs ++ ys)
legal_append i ask o [] ys was more = more
legal_append i ask o (x ∷ xs) ys was more = (was.0, legal_append i ask (after i.facts o x.call x.reply) xs ys was.1 more)

-- what the guard lets pass of other clients' held replies, it lets pass after an answered call
module _ (z : Setting) (set : IsSetting z) where
  pub lets_after : (o : Object) (call : Call) (reply : Reply) → z.iface.facts.global ≡ false → IsLegalObject z.iface.facts z.sound o → IsAnsweredAt z.iface.facts z.ask o call reply → (es : List Entry)
      → NoneBy call.client es → AreWaiting z.iface.facts z.ask o es → Each (λ e. guard z.iface o e.call ≡ None) es → Each (λ e. guard z.iface (after z.iface.facts o call reply) e.call ≡ None) es
  lets_after o call reply alone ok is [] none wait lets = tt
  lets_after o call reply alone ok is (e ∷ es) none wait lets =
      let hidden = hidden_is z.iface.facts e.call.fun wait.0.hidden in
      let own = wait.0.answered.passes.is_call in (
        guard_stays z.iface z.ask z.sound set.law o (after z.iface.facts o call reply) e.call alone ok (after_good z.iface.facts z.ask z.sound set.law o call reply ok is)
            (acts z.iface.facts e.call.fun set.law.shape.shape own.first own.last)
            (others_stay z.iface.facts z.ask z.sound set.law o call reply e.call.client alone ok is (λ same. none.0 (sym same))) hidden.makes lets.0,
        lets_after o call reply alone ok is es none.1 wait.2 lets.1,
      )

  -- so held replies are a legal history from the object of the history on, in any order
  pub legal_held : (o : Object) (es : List Entry) → IsLegalObject z.iface.facts z.sound o → HasTime z.iface.facts (length es) o → AreWaiting z.iface.facts z.ask o es
      → Each (λ e. guard z.iface o e.call ≡ None) es → LegalFrom z.iface z.ask o es
  legal_held o [] ok time wait lets = tt
  legal_held o (e ∷ es) ok time wait lets =
      let own = wait.0.answered in
      let hidden = hidden_is z.iface.facts e.call.fun wait.0.hidden in
      let ok' = after_good z.iface.facts z.ask z.sound set.law o e.call e.reply ok own in
      let later = time_after z.iface.facts z.ask z.sound set.law (length es) o e.call e.reply ok own time in
      let wait' = waiting_after z.iface.facts z.ask z.sound set.law o e.call e.reply es ok own (less_time z.iface.facts z.ask z.sound set.law (length es) 0 (after z.iface.facts o e.call e.reply) (omega arith) later) wait.1 wait.2 in (
        ap (λ g. refused_or g (z.ask o e.call)) lets.0 ∙ own.answered,
        legal_held (after z.iface.facts o e.call e.reply) es ok' later wait' (lets_after o e.call e.reply hidden.alone ok own es wait.1 wait.2 lets.1),
      )

-- ---- at the objects after some of the held replies

module _ (z : Setting) (set : IsSetting z) (w : WorldView) (b : Boot) (boots : List Boot) (running : Option Object) (stub : Stub) (k : KeepsPromise z (standing w b boots running) stub) where
  abbrev o : Object
  o = object_of z.iface.facts w.history

  abbrev ws : List Entry
  ws = held_replies (standing w b boots running)

  pub good_now : IsLegalObject z.iface.facts z.sound (object_of z.iface.facts w.history)
  good_now = k.object.good

  pub far_now : slow + 9 * length w.history + 256 < 2 ^ 63
  far_now = far z w.history w.withdrawn (length (b ∷ boots)) w.seats k.seats

  pub time_now : (n : ℕ) → n ≤ 200 → HasTime z.iface.facts n (object_of z.iface.facts w.history)
  time_now n le = record { counted = omega (arith, le, k.object.counted, far_now); given = omega (arith, le, k.object.given, far_now) }

  pub few_now : length (held_replies (standing w b boots running)) ≤ last_client
  few_now = by running
    where
      by : (r : Option Object) → length (held_replies (standing w b boots r)) ≤ last_client
      by None = omega arith
      by (Some v) = let few = held_few (length (b ∷ boots)) w.seats in omega (arith, few, k.seats.few)

  -- all of the held replies, in their order
  pub all_drawn : AreDrawn (held_replies (standing w b boots running)) (held_replies (standing w b boots running))
  all_drawn = record { each = self ws; apart = waiting_apart z.iface.facts z.ask o ws k.waiting; few = omega arith }
    where
      more : (x : Entry) (xs es : List Entry) → Each (Contains xs) es → Each (Contains (x ∷ xs)) es
      more x xs es each = each_map (Contains xs) (Contains (x ∷ xs)) es (λ e has. Contains-append_right (x ∷ []) xs e has) each

      self : (xs : List Entry) → Each (Contains xs) xs
      self [] = tt
      self (x ∷ xs) = ((0, omega arith, refl), more x xs xs (self xs))

  module _ (es : List Entry) (drawn : AreDrawn (held_replies (standing w b boots running)) es) where
    pub drawn_each : (P : Entry → Type 0) → Each P (held_replies (standing w b boots running)) → Each P es
    drawn_each P all = each_map (Contains ws) P es (λ e has. each_contains P ws e all has) drawn.each

    pub wait_es : AreWaiting z.iface.facts z.ask (object_of z.iface.facts w.history) es
    wait_es = drawn_waiting z.iface.facts z.ask o ws es k.waiting drawn

    pub time_es : HasTime z.iface.facts (length es) (object_of z.iface.facts w.history)
    time_es = time_now (length es) (omega (arith, drawn.few, few_now))

    pub good_es : IsLegalObject z.iface.facts z.sound (object_from z.iface.facts (object_of z.iface.facts w.history) es)
    good_es = good_later z.iface.facts z.ask z.sound set.law o es good_now time_es wait_es

    pub sound_es : IsSound z.iface.facts (object_from z.iface.facts (object_of z.iface.facts w.history) es)
    sound_es = set.law.keeps.general (object_from z.iface.facts o es) good_es.is_sound

    pub object_es : object_of z.iface.facts (w.history ++ es) ≡ object_from z.iface.facts (object_of z.iface.facts w.history) es
    object_es = object_after z.iface.facts empty_object w.history es

    -- their rows are such as descriptors can come to
    pub reachable_es : AreReachable z.iface (object_from z.iface.facts (object_of z.iface.facts w.history) es).rows
    reachable_es =
        let n : length (w.history ++ es) ≡ length w.history + length es = length-append w.history es in
        let may = each_append (λ e. MayBeMade z.iface e.call) w.history es k.calls (drawn_each (λ e. MayBeMade z.iface e.call) (each_map (MayEnter z w.history) (λ e. MayBeMade z.iface e.call) ws (λ e enters. enters.may) k.enter)) in
        let lets = drawn_each (λ e. guard z.iface o e.call ≡ None) (each_map (MayEnter z w.history) (λ e. guard z.iface o e.call ≡ None) ws (λ e enters. enters.guarded) k.enter) in
        subst (λ x. AreReachable z.iface x.rows) object_es
        (reach_all z.iface z.ask z.sound set.fits set.law.shape.shape set.law.keeps set.law.counts (w.history ++ es) (omega (arith, n, drawn.few, few_now, far_now))
        (each_map (λ e. MayBeMade z.iface e.call) (λ e. IsClientsCall z.iface.facts e.call) (w.history ++ es) (λ e m. m.is_clients) may)
        (each_map (λ e. MayBeMade z.iface e.call) (λ e. declares z.iface e.call.fun ≡ true) (w.history ++ es) (λ e m. m.declared) may)
        (legal_append z.iface z.ask empty_object w.history es k.legal (legal_held z set o es good_now time_es wait_es lets)))

    -- their items stand in the trace
    pub items_es : HaveItems (older_items [] (b ∷ boots) ++ last_items (b ∷ boots)) (w.history ++ es)
    items_es = each_append (λ e. is_by_guard e.reply || list_any (is_item_of e) (older_items [] (b ∷ boots) ++ last_items (b ∷ boots)) ≡ true) w.history es k.items
        (drawn_each (λ e. is_by_guard e.reply || list_any (is_item_of e) (older_items [] (b ∷ boots) ++ last_items (b ∷ boots)) ≡ true)
        (each_map (IsInLast (standing w b boots running).run) (λ e. is_by_guard e.reply || list_any (is_item_of e) (older_items [] (b ∷ boots) ++ last_items (b ∷ boots)) ≡ true) ws
        (λ e in_last. has_item (standing w b boots running).run e in_last) k.held_items))

    -- what is live after them is live at the history
    pub live_es : (x : ℕ) → is_live (object_from z.iface.facts (object_of z.iface.facts w.history) es).rows x ≡ true → is_live (object_of z.iface.facts w.history).rows x ≡ true
    live_es x live =
        let found = row_of_live (object_from z.iface.facts o es).rows x live in
        fewer_later z.iface.facts z.ask z.sound set.law o es good_now time_es wait_es x found.0 found.1

    -- a call that is let in needs the same there
    module _ (call : Call) (let_in : IsLetIn z (standing w b boots running) call) where
      pub none_es : NoneBy call.client es
      none_es = drawn_each (λ e. e.call.client ≢ call.client) let_in.none_by

      pub needs_es : needs z.iface.facts (object_from z.iface.facts (object_of z.iface.facts w.history) es) call ≡ needs z.iface.facts (object_of z.iface.facts w.history) call
      needs_es = needs_same z.iface.facts z.ask z.sound set.law o es call good_now time_es wait_es none_es let_in.passes

      pub there_es : (r : Row) → row_at (object_of z.iface.facts w.history).rows r.id ≡ Some r → is_needed z.iface.facts (object_of z.iface.facts w.history).rows call r ≡ true
          → row_at (object_from z.iface.facts (object_of z.iface.facts w.history) es).rows r.id ≡ Some r
      there_es r there need = needed_after z.iface.facts z.ask z.sound set.law o es call r good_now time_es wait_es none_es let_in.passes there need

      pub back_es : (r : Row) → row_at (object_from z.iface.facts (object_of z.iface.facts w.history) es).rows r.id ≡ Some r
          → is_needed z.iface.facts (object_from z.iface.facts (object_of z.iface.facts w.history) es).rows call r ≡ true
          → (row_at (object_of z.iface.facts w.history).rows r.id ≡ Some r) × (is_needed z.iface.facts (object_of z.iface.facts w.history).rows call r ≡ true)
      back_es r there need = (
        needed_back z.iface.facts z.ask z.sound set.law o es call good_now time_es wait_es none_es let_in.passes r there need,
        sym (needed_same z.iface.facts z.ask z.sound set.law o es call good_now time_es wait_es none_es let_in.passes r) ∙ need,
      )

      -- what is wanted for it there is told whole, where all that is wanted for it at the history is
      pub told_es : ((r : Row) → row_at (object_of z.iface.facts w.history).rows r.id ≡ Some r → is_wanted z.iface (object_of z.iface.facts w.history).rows call r ≡ true → stub.told r.id ≡ complete)
          → (r : Row) → row_at (object_from z.iface.facts (object_of z.iface.facts w.history) es).rows r.id ≡ Some r
          → is_wanted z.iface (object_from z.iface.facts (object_of z.iface.facts w.history) es).rows call r ≡ true → stub.told r.id ≡ complete
      told_es whole r there want = elim (either_of z.iface.eager (is_needed z.iface.facts (object_from z.iface.facts (object_of z.iface.facts w.history) es).rows call r) want) [
        | inl all ↦
            let x = row_of_live (object_of z.iface.facts w.history).rows r.id (live_es r.id (live_of_row (object_from z.iface.facts (object_of z.iface.facts w.history) es).rows r.id r there)) in
            ap stub.told (sym x.2) ∙ whole x.0 (ap (row_at (object_of z.iface.facts w.history).rows) x.2 ∙ x.1) (or_left z.iface.eager (is_needed z.iface.facts (object_of z.iface.facts w.history).rows call x.0) all)
        | inr need ↦
            let was = back_es r there need in
            whole r was.0 (or_right z.iface.eager (is_needed z.iface.facts (object_of z.iface.facts w.history).rows call r) was.1)
      ]

      -- it is the client's last
      pub above_es : Each (λ e. e.call.client ≡ call.client → e.call.seq < call.seq) (w.history ++ es)
      above_es =
          let parts = each_split (λ e. e.call.client ≡ call.client → e.call.seq < call.seq) w.history ws let_in.above in
          each_append (λ e. e.call.client ≡ call.client → e.call.seq < call.seq) w.history es parts.0 (drawn_each (λ e. e.call.client ≡ call.client → e.call.seq < call.seq) parts.1)

      pub call_es : IsCallOf (w.history ++ es) (unanswered (standing w b boots running)) call.client call
      call_es = record { its = refl; made = Contains-append_right (map (λ e. e.call) (w.history ++ es)) (unanswered (standing w b boots running)) call let_in.made }

-- ---- while the service is up

module _ (z : Setting) (set : IsSetting z) (w : WorldView) (b : Boot) (boots : List Boot) (v : Object) (stub : Stub) (k : KeepsPromise z (standing w b boots (Some v)) stub) (es : List Entry)
    (drawn : AreDrawn (held_replies (standing w b boots (Some v))) es) where
  -- what is told is read of the rows after them too, as these are among the live ones
  pub read_es : IsRead z.iface.facts z.walks (w.history ++ es) (older_items [] (b ∷ boots)) (last_items (b ∷ boots)) stub.names stub.told stub.present (object_from z.iface.facts (object_of z.iface.facts w.history) es).rows
  read_es =
      let up : Stands z (standing w b boots (Some v)) stub v = k.stands in
      let r0 = up.read es drawn in
      record {
        names_are = λ x known. r0.names_are x (known_o x known);
        whole = λ x live. r0.whole x (live_es z set w b boots (Some v) stub k es drawn x live);
        calls = λ x live. r0.calls x (live_es z set w b boots (Some v) stub k es drawn x live);
        files = r0.files;
      }
    where
      known_o : (x : ℕ) → IsNone (object_from z.iface.facts (object_of z.iface.facts w.history) es).rows x → IsNone (object_of z.iface.facts w.history).rows x
      known_o x (inl none) = inl none
      known_o x (inr live) = inr (live_es z set w b boots (Some v) stub k es drawn x live)

  -- an item that is noted last there, and is of none of these entries, is known
  pub known_es : (item : Item) → IsOfNoEntry item (w.history ++ es)
      → IsKnown z.iface.facts z.walks (w.history ++ es) (older_items [] (b ∷ boots)) (last_items (b ∷ boots)) item stub.names stub.told stub.present (object_from z.iface.facts (object_of z.iface.facts w.history) es)
  known_es item none = record {
    object = object_es z set w b boots (Some v) stub k es drawn;
    sound = sound_es z set w b boots (Some v) stub k es drawn;
    none = none;
    items = items_es z set w b boots (Some v) stub k es drawn;
    read = read_es;
  }

-- where rows are rebuilt when a call needs them, what is wanted for a call is what it needs
pub wanted_is : (i : Declared) (o : Object) (call : Call) → i.eager ≡ false → wanted i o call ≡ needs i.facts o call
wanted_is i o call on_demand =
    let of : Bool → Needs = λ t. record {
      ids = map (λ r. r.id) (filter (λ r. t || is_needed i.facts o.rows call r) o.rows);
      file = if (fun_at i.facts.funs call.fun).uses_file then Some (path_of o.rows call.desc) else None;
    } in
    ap of on_demand

-- what a call needs is told whole, where all that is wanted for it is
pub needs_told : (z : Setting) (w : WorldView) (stub : Stub) (call : Call) → HasAll z w stub call → (r : Row) → row_at (object_of z.iface.facts w.history).rows r.id ≡ Some r
    → is_needed z.iface.facts (object_of z.iface.facts w.history).rows call r ≡ true → stub.told r.id ≡ complete
needs_told z w stub call all r there need = all.rows r there (or_right z.iface.eager (is_needed z.iface.facts (object_of z.iface.facts w.history).rows call r) need)

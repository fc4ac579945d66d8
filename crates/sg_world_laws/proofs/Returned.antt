-- The world keeps what it keeps where a held reply is committed and handed over.
use Rattle.std.proofs.Common.{Bool, List, None, Some, [], ap, append_assoc, arith, cond, false, filter, inl, inr, length, length-append, refl, subst, suc, sym, true, ℕ, ◌++◌, ◌+◌, ◌<◌, ◌==◌, ◌||◌, ◌∙◌, ◌∷◌, ◌≡◌, ◌≢◌, ◌≤◌, ◌⊎◌}
use Rattle.std.specs.List.{Contains, list_any}
use Rattle.sg_facts.specs.sg_base.Lists.{Each}
use Rattle.sg_facts.specs.sg_base.declared.call.Call.{Call}
use Rattle.sg_facts.specs.sg_base.declared.reply.Reply.{Reply}
use Rattle.sg_facts.specs.sg_base.declared.reply.Reply.TheVariants.{Ok, Refused}
use Rattle.sg_facts.proofs.RowLists.{row_of_live}
use Rattle.sg_facts.specs.Alike.{named}
use Rattle.sg_facts.specs.Facts.{fun_at}
use Rattle.sg_facts.specs.Guard.{guard}
use Rattle.sg_facts.specs.Legal.{answer}
use Rattle.sg_facts.specs.Inside.Rows.{refused_or, given_after, object_from}
use Rattle.sg_facts.specs.Object.{Object, after, empty_object, object_of}
use Rattle.sg_facts.specs.Sound.{IsSound}
use Rattle.sg_facts.specs.Trace.{Boot}
use Rattle.sg_facts.specs.Track.{is_live}
use Rattle.sg_facts.specs.declared.entry.Entry.{Entry}
use Rattle.sg_facts.specs.declared.row.Row.{Row}
use Rattle.sg_recovery_laws.proofs.Midway.Dropped.{under_dropped}
use Rattle.sg_recovery_laws.specs.Midway.Numbers.{AreNumbers, left_of, sum_told, unbegun}
use Rattle.sg_recovery_laws.specs.Midway.Progress.{IsInRecovery, IsNone, TellsCalls, Told, is_complete}
use Rattle.sg_recovery_laws.specs.sg_hist.Reading.{is_by_guard, is_item_of, last_items, names_at, older_items}
use Rattle.sg_recovery_laws.specs.sg_hist.Inside.Parts.{is_walk_of}
use Rattle.sg_recovery_laws.proofs.Objects.Serves.{fewer_later}
use Rattle.sg_recovery_laws.proofs.Objects.Steady.{after_good}
use Rattle.sg_recovery_laws.proofs.Objects.Waiting.{hidden_is, time_after}
use Rattle.sg_recovery_laws.specs.Objects.Serving.{HasTime, IsLegalObject}
use Rattle.sg_recovery_laws.specs.Objects.Waiting.{AreWaiting, IsWaiting}
use Rattle.sg_recovery_laws.proofs.Lists.{each_append, each_both, each_map, each_split}
use Rattle.sg_recovery_laws.proofs.Onward.{made_stays}
use Rattle.sg_recovery_laws.specs.sg_hist.Growing.{IsInLast}
use Rattle.sg_clients.specs.WorldView.{WorldView, held_in, unanswered}
use Rattle.sg_recovery_laws.specs.LastItem.Told.{IsRead}
use Rattle.sg_facts.proofs.Replaying.Files.{told}
use Rattle.sg_facts.proofs.Replaying.Found.{above, same_test}
use Rattle.sg_world_laws.proofs.Ahead.{drawn_with, held_ahead}
use Rattle.sg_world_laws.proofs.Drawn.{committed_same, committed_waiting, none_apart, object_after, waiting_apart, waiting_one, waiting_without}
use Rattle.sg_world_laws.proofs.Entering.{kept_within, legal_push, settled_after}
use Rattle.sg_world_laws.proofs.Items.{has_item}
use Rattle.sg_world_laws.proofs.Orders.{all_drawn, few_now, lets_after, sound_es, time_now}
use Rattle.sg_world_laws.specs.Keeping.{ClientsDiffer, AreDrawn, KeepsPromise, MayEnter, Stands, Stub, standing}
use Rattle.sg_world_laws.specs.Seats.{HaveSeats}
use Rattle.sg_recovery_laws.specs.sg_hist.Clients.{MayBeMade}
use Rattle.sg_world_laws.specs.Setting.{IsSetting, Setting, stubs_of}

-- a sum of what is told of rows goes by what is told of each
pub sum_told_alike : (f : Told → ℕ) (told told' : ℕ → Told) (rows : List Row) → ((x : ℕ) → is_live rows x ≡ true → told' x ≡ told x) → sum_told f told' rows ≡ sum_told f told rows
sum_told_alike f told told' [] same = refl
sum_told_alike f told told' (r ∷ rows) same =
    let rest = sum_told_alike f told told' rows (λ x live. same x (later (r.id == x) (is_live rows x) live)) in
    let own : f (told' r.id) ≡ f (told r.id) = ap f (same r.id (own_live (r.id == r.id) (is_live rows r.id) (same_test r.id r.id refl))) in
    omega (arith, rest, own)
  where
    later : (c live : Bool) → live ≡ true → (c || live) ≡ true
    later true live is = refl
    later false live is = is

    own_live : (c live : Bool) → c ≡ true → (c || live) ≡ true
    own_live true live is = refl
    own_live false live is = absurd (cc is)

module _ (z : Setting) (set : IsSetting z) (w : WorldView) (b : Boot) (boots : List Boot) (v : Object) (stub : Stub) (k : KeepsPromise z (standing w b boots (Some v)) stub)
    (pre post : List Entry) (p : Entry) (held : held_in (length (b ∷ boots)) w.seats ≡ pre ++ p ∷ post) where
  up : Stands z (standing w b boots (Some v)) stub v
  up = k.stands

  ok : IsLegalObject z.iface.facts z.sound (object_of z.iface.facts w.history)
  ok = k.object.good

  wait : AreWaiting z.iface.facts z.ask (object_of z.iface.facts w.history) (pre ++ p ∷ post)
  wait = subst (AreWaiting z.iface.facts z.ask (object_of z.iface.facts w.history)) held k.waiting

  its : IsWaiting z.iface.facts z.ask (object_of z.iface.facts w.history) p
  its = waiting_one z.iface.facts z.ask (object_of z.iface.facts w.history) pre post p wait

  time_o : (n : ℕ) → n ≤ 200 → HasTime z.iface.facts n (object_of z.iface.facts w.history)
  time_o = time_now z set w b boots (Some v) stub k

  few : length (pre ++ p ∷ post) ≤ 64
  few = let n : length (held_in (length (b ∷ boots)) w.seats) ≡ length (pre ++ p ∷ post) = ap length held in let most = few_now z set w b boots (Some v) stub k in omega (arith, n, most)

  time : HasTime z.iface.facts (suc (suc (length (pre ++ p ∷ post)))) (object_of z.iface.facts w.history)
  time = time_o (suc (suc (length (pre ++ p ∷ post)))) (omega (arith, few))

  object_now : object_of z.iface.facts (w.history ++ p ∷ []) ≡ after z.iface.facts (object_of z.iface.facts w.history) p.call p.reply
  object_now = object_after z.iface.facts empty_object w.history (p ∷ [])

  apart : ClientsDiffer (pre ++ p ∷ post)
  apart = waiting_apart z.iface.facts z.ask (object_of z.iface.facts w.history) (pre ++ p ∷ post) wait

  enters : MayEnter z w.history p
  enters = (each_split (MayEnter z w.history) pre (p ∷ post) (subst (Each (MayEnter z w.history)) held k.enter)).1.0

  -- its call may be asked, and is answered so: the reply of a held call is the answer at the object of the history
  pub answer_held : answer z.iface z.ask (object_of z.iface.facts w.history) p.call ≡ Some p.reply
  unfolding its
  answer_held = ap (λ g. refused_or g (z.ask (object_of z.iface.facts w.history) p.call)) enters.guarded ∙ its.answered.answered

  module _ (w' : WorldView) (history : w'.history ≡ w.history ++ p ∷ []) (run : w'.run ≡ record { boots = b ∷ boots; points = w.run.points }) (running : w'.running ≡ Some v)
      (left : held_in (length (b ∷ boots)) w'.seats ≡ pre ++ post) (seats : HaveSeats z (w.history ++ p ∷ []) w'.withdrawn (length (b ∷ boots)) w'.seats)
      (kept : (x : Call) → Contains (unanswered (standing w b boots (Some v))) x → (x ≡ p.call) ⊎ Contains (unanswered w') x) (stub' : Stub)
      (same_names : (id : ℕ) → is_live (after z.iface.facts (object_of z.iface.facts w.history) p.call p.reply).rows id ≡ true → named stub'.names id ≡ named stub.names id)
      (fewer_names : (id : ℕ) → (named stub'.names id ≡ named stub.names id) ⊎ (named stub'.names id ≡ 0))
      (live_names : (id : ℕ) → (named stub'.names id ≡ 0) ⊎ (is_live (after z.iface.facts (object_of z.iface.facts w.history) p.call p.reply).rows id ≡ true))
      (same_told : (id : ℕ) → is_live (after z.iface.facts (object_of z.iface.facts w.history) p.call p.reply).rows id ≡ true → stub'.told id ≡ stub.told id)
      (same_present : stub'.present ≡ stub.present) where
    -- the later world, spelt out by the earlier one
    abbrev later : WorldView
    later = record w' { history = w.history ++ p ∷ []; run = record { boots = b ∷ boots; points = w.run.points }; running = Some v }

    drawn_p : (es : List Entry) → AreDrawn (held_in (length (b ∷ boots)) w'.seats) es → AreDrawn (held_in (length (b ∷ boots)) w.seats) (p ∷ es)
    drawn_p es drawn = subst (λ l. AreDrawn l (p ∷ es)) (sym held) (drawn_with pre post es p apart (subst (λ l. AreDrawn l es) left drawn))

    without : (P : Entry → Type 0) → Each P (held_in (length (b ∷ boots)) w.seats) → Each P (held_in (length (b ∷ boots)) w'.seats) × P p
    without P all =
        let parts = each_split P pre (p ∷ post) (subst (Each P) held all) in
        (subst (Each P) (sym left) (each_append P pre post parts.0 parts.1.1), parts.1.0)

    good_after : IsLegalObject z.iface.facts z.sound (after z.iface.facts (object_of z.iface.facts w.history) p.call p.reply)
    unfolding its
    good_after = after_good z.iface.facts z.ask z.sound set.law (object_of z.iface.facts w.history) p.call p.reply ok its.answered

    -- the others are held as before
    wait_after : AreWaiting z.iface.facts z.ask (after z.iface.facts (object_of z.iface.facts w.history) p.call p.reply) (held_in (length (b ∷ boots)) w'.seats)
    wait_after = subst (AreWaiting z.iface.facts z.ask (after z.iface.facts (object_of z.iface.facts w.history) p.call p.reply)) (sym left)
        (committed_waiting z.iface.facts z.ask z.sound set.law (object_of z.iface.facts w.history) pre post p ok time wait)

    guards_after : Each (λ e. guard z.iface (after z.iface.facts (object_of z.iface.facts w.history) p.call p.reply) e.call ≡ None) (pre ++ post)
    unfolding its
    guards_after =
        let hidden = hidden_is z.iface.facts p.call.fun its.hidden in
        let none = none_apart pre post p apart in
        let parts = each_split (MayEnter z w.history) pre (p ∷ post) (subst (Each (MayEnter z w.history)) held k.enter) in
        lets_after z set (object_of z.iface.facts w.history) p.call p.reply hidden.alone ok its.answered (pre ++ post)
        (each_append (λ e. e.call.client ≢ p.call.client) pre post none.0 none.1)
        (waiting_without z.iface.facts z.ask (object_of z.iface.facts w.history) pre post p wait)
        (each_map (MayEnter z w.history) (λ e. guard z.iface (object_of z.iface.facts w.history) e.call ≡ None) (pre ++ post) (λ e m. m.guarded) (each_append (MayEnter z w.history) pre post parts.0 parts.1.1))

    enter_after : Each (MayEnter z (w.history ++ p ∷ [])) (held_in (length (b ∷ boots)) w'.seats)
    enter_after =
        let parts = each_split (MayEnter z w.history) pre (p ∷ post) (subst (Each (MayEnter z w.history)) held k.enter) in
        let both = each_both (MayEnter z w.history) (λ e. guard z.iface (after z.iface.facts (object_of z.iface.facts w.history) p.call p.reply) e.call ≡ None) (pre ++ post)
        (each_append (MayEnter z w.history) pre post parts.0 parts.1.1) guards_after in
        subst (Each (MayEnter z (w.history ++ p ∷ []))) (sym left)
        (each_map (λ e. MayEnter z w.history e × (guard z.iface (after z.iface.facts (object_of z.iface.facts w.history) p.call p.reply) e.call ≡ None)) (MayEnter z (w.history ++ p ∷ [])) (pre ++ post)
        (λ e is. record { may = is.0.may; guarded = subst (λ o. guard z.iface o e.call ≡ None) (sym object_now) is.1 }) both)

    -- after all of them the object is as it was
    after_all : object_from z.iface.facts (object_of z.iface.facts (w.history ++ p ∷ [])) (held_in (length (b ∷ boots)) w'.seats) ≡ object_from z.iface.facts (object_of z.iface.facts w.history) (held_in (length (b ∷ boots)) w.seats)
    after_all =
        ap (λ o. object_from z.iface.facts o (held_in (length (b ∷ boots)) w'.seats)) object_now
        ∙ ap (object_from z.iface.facts (after z.iface.facts (object_of z.iface.facts w.history) p.call p.reply)) left
        ∙ committed_same z.iface.facts z.ask z.sound set.law (object_of z.iface.facts w.history) pre post p ok time wait
        ∙ ap (object_from z.iface.facts (object_of z.iface.facts w.history)) (sym held)

    sound_all : IsSound z.iface.facts (object_from z.iface.facts (object_of z.iface.facts (w.history ++ p ∷ [])) (held_in (length (b ∷ boots)) w'.seats))
    sound_all = subst (IsSound z.iface.facts) (sym after_all) (sound_es z set w b boots (Some v) stub k (held_in (length (b ∷ boots)) w.seats) (all_drawn z set w b boots (Some v) stub k))

    -- what is live after all is live after the entry, and at the history
    live_after : (x : ℕ) → is_live (object_of z.iface.facts (w.history ++ p ∷ [])).rows x ≡ true → is_live (after z.iface.facts (object_of z.iface.facts w.history) p.call p.reply).rows x ≡ true
    live_after x live = ap (λ y. is_live y.rows x) (sym object_now) ∙ live

    live_before : (x : ℕ) → is_live (object_of z.iface.facts (w.history ++ p ∷ [])).rows x ≡ true → is_live (object_of z.iface.facts w.history).rows x ≡ true
    live_before x live =
        let found = row_of_live (after z.iface.facts (object_of z.iface.facts w.history) p.call p.reply).rows x (live_after x live) in
        fewer_later z.iface.facts z.ask z.sound set.law (object_of z.iface.facts w.history) (p ∷ []) ok (time_o 1 (omega arith)) (its, tt, tt) x found.0 found.1

    time_after_it : HasTime z.iface.facts (length (pre ++ post)) (after z.iface.facts (object_of z.iface.facts w.history) p.call p.reply)
    unfolding its
    time_after_it =
        let a : length (pre ++ post) ≡ length pre + length post = length-append pre post in
        let c : length (pre ++ p ∷ post) ≡ length pre + suc (length post) = length-append pre (p ∷ post) in
        time_after z.iface.facts z.ask z.sound set.law (length (pre ++ post)) (object_of z.iface.facts w.history) p.call p.reply ok its.answered (time_o (suc (length (pre ++ post))) (omega (arith, a, c, few)))

    live_later : (x : ℕ) → is_live (object_from z.iface.facts (object_of z.iface.facts (w.history ++ p ∷ [])) (held_in (length (b ∷ boots)) w'.seats)).rows x ≡ true
        → is_live (after z.iface.facts (object_of z.iface.facts w.history) p.call p.reply).rows x ≡ true
    live_later x live =
        let now : is_live (object_from z.iface.facts (after z.iface.facts (object_of z.iface.facts w.history) p.call p.reply) (pre ++ post)).rows x ≡ true
        = sym (ap (λ o. is_live (object_from z.iface.facts o (held_in (length (b ∷ boots)) w'.seats)).rows x) object_now ∙ ap (λ l. is_live (object_from z.iface.facts (after z.iface.facts (object_of z.iface.facts w.history) p.call p.reply) l).rows x) left) ∙ live in
        let found = row_of_live (object_from z.iface.facts (after z.iface.facts (object_of z.iface.facts w.history) p.call p.reply) (pre ++ post)).rows x now in
        fewer_later z.iface.facts z.ask z.sound set.law (after z.iface.facts (object_of z.iface.facts w.history) p.call p.reply) (pre ++ post) good_after time_after_it
        (subst (AreWaiting z.iface.facts z.ask (after z.iface.facts (object_of z.iface.facts w.history) p.call p.reply)) left wait_after) x found.0 found.1

    -- 0 names nothing
    zero_names : named stub'.names 0 ≡ named stub.names 0
    unfolding up
    zero_names = elim (fewer_names 0) [ inl is ↦ is | inr is ↦ is ∙ sym up.in_recovery.holds.names_are.none ]

    read_later : (es : List Entry) → AreDrawn (held_in (length (b ∷ boots)) w'.seats) es
        → IsRead z.iface.facts z.walks ((w.history ++ p ∷ []) ++ es) (older_items [] (b ∷ boots)) (last_items (b ∷ boots)) stub'.names stub'.told stub'.present (object_of z.iface.facts (w.history ++ p ∷ [])).rows
    unfolding up
    read_later es drawn =
        let r0 = up.read (p ∷ es) (drawn_p es drawn) in
        subst (λ l. IsRead z.iface.facts z.walks l (older_items [] (b ∷ boots)) (last_items (b ∷ boots)) stub'.names stub'.told stub'.present (object_of z.iface.facts (w.history ++ p ∷ [])).rows) (sym (append_assoc w.history (p ∷ []) es)) (record {
          names_are = λ x known. r0.names_are x (known_before x known) ∙ sym (names_known x known);
          whole = λ x live. r0.whole x (live_before x live) ∙ ap is_complete (sym (same_told x (live_after x live)));
          calls = λ x live. subst (λ t. TellsCalls t (length (filter (λ item. is_walk_of x item.tag) (last_items (b ∷ boots))))) (sym (same_told x (live_after x live))) (r0.calls x (live_before x live));
          files = λ path. r0.files path ∙ ap (λ f. f path) (sym same_present);
        })
      where
        names_known : (x : ℕ) → IsNone (object_of z.iface.facts (w.history ++ p ∷ [])).rows x → named stub'.names x ≡ named stub.names x
        names_known x (inr live) = same_names x (live_after x live)
        names_known x (inl zero_it) = ap (named stub'.names) zero_it ∙ zero_names ∙ sym (ap (named stub.names) zero_it)

        known_before : (x : ℕ) → IsNone (object_of z.iface.facts (w.history ++ p ∷ [])).rows x → IsNone (object_of z.iface.facts w.history).rows x
        known_before x (inl none) = inl none
        known_before x (inr live) = inr (live_before x live)

    above_before : (id : ℕ) → (after z.iface.facts (object_of z.iface.facts w.history) p.call p.reply).given < id → (object_of z.iface.facts w.history).given < id
    above_before id above = by p.reply above
      where
        more : (c : Bool) → cond c ((object_of z.iface.facts w.history).given + 1) (object_of z.iface.facts w.history).given < id → (object_of z.iface.facts w.history).given < id
        more true lt = omega (arith, lt)
        more false lt = lt

        by : (reply : Reply) → given_after z.iface.facts (object_of z.iface.facts w.history).given p.call reply < id → (object_of z.iface.facts w.history).given < id
        by (Ok g) lt = more (fun_at z.iface.facts.funs p.call.fun).creation lt
        by (Refused code) lt = lt

    numbers_later : AreNumbers z.iface.facts stub'.told (length (w.history ++ p ∷ [])) (object_from z.iface.facts (object_of z.iface.facts (w.history ++ p ∷ [])) (held_in (length (b ∷ boots)) w'.seats)) v
    unfolding up
    numbers_later =
        let n : length (w.history ++ p ∷ []) ≡ length w.history + 1 = length-append w.history (p ∷ []) in
        let g = up.numbers.given in
        let c = up.numbers.counted in
        let rows = object_from z.iface.facts (object_of z.iface.facts (w.history ++ p ∷ [])) (held_in (length (b ∷ boots)) w'.seats) in
        let left_one = sum_told_alike unbegun stub.told stub'.told rows.rows (λ x live. same_told x (live_later x live)) in
        let left_all = sum_told_alike left_of stub.told stub'.told rows.rows (λ x live. same_told x (live_later x live)) in
        let was : AreNumbers z.iface.facts stub.told (length w.history) rows v = subst (λ o. AreNumbers z.iface.facts stub.told (length w.history) o v) (sym after_all) up.numbers in
        let wg = was.given in
        let wc = was.counted in
        record { given = omega (arith, wg, left_one); counted = omega (arith, wc, left_all, n) }

    pub returned : KeepsPromise z w' stub'
    unfolding up its
    returned = subst (λ x. KeepsPromise z x stub') (sym spelt) (record {
      legal = legal_push z.iface z.ask empty_object w.history p k.legal answer_held;
      calls = each_append (λ x. MayBeMade z.iface x.call) w.history (p ∷ []) k.calls (enters.may, tt);
      object = settled_after z set w.history p k.object its.answered;
      seats = seats;
      waiting = subst (λ o. AreWaiting z.iface.facts z.ask o (held_in (length (b ∷ boots)) w'.seats)) (sym object_now) wait_after;
      enter = enter_after;
      items = each_append (λ e. is_by_guard e.reply || list_any (is_item_of e) (older_items [] (b ∷ boots) ++ last_items (b ∷ boots)) ≡ true) w.history (p ∷ []) k.items (has_item (standing w b boots (Some v)).run p in_last, tt);
      held_items = (without (IsInLast (standing w b boots (Some v)).run) k.held_items).0;
      recovering = λ es drawn. made_stays (stubs_of z) ((w.history ++ p ∷ []) ++ es) (standing w b boots (Some v)).run (unanswered (standing w b boots (Some v))) (unanswered later)
          (kept_within w.history es p (unanswered (standing w b boots (Some v))) (unanswered later) kept)
          (held_ahead (stubs_of z) w.history pre post p (standing w b boots (Some v)).run (unanswered (standing w b boots (Some v))) apart
          (λ xs drawn_xs. k.recovering xs (subst (λ l. AreDrawn l xs) (sym held) drawn_xs)) es (subst (λ l. AreDrawn l es) left drawn));
      cell = k.cell;
      stands = record {
        numbers = numbers_later;
        named_live = λ x. elim (live_names x) [ inl none ↦ inl none | inr live ↦ inr (ap (λ y. is_live y.rows x) object_now ∙ live) ];
        in_recovery = under_dropped z.iface z.walks stub.names stub'.names (object_from z.iface.facts (object_of z.iface.facts (w.history ++ p ∷ [])) (held_in (length (b ∷ boots)) w'.seats)) v sound_all up.in_recovery.holds.names_are.none
            (λ x live. same_names x (live_later x live)) fewer_names stub.told stub'.told stub'.present (λ x live. same_told x (live_later x live))
            (subst (λ f. IsInRecovery z.iface z.walks stub.names stub.told f (object_from z.iface.facts (object_of z.iface.facts (w.history ++ p ∷ [])) (held_in (length (b ∷ boots)) w'.seats)) v) (sym same_present)
            (subst (λ o. IsInRecovery z.iface z.walks stub.names stub.told stub.present o v) (sym after_all) up.in_recovery));
        read = read_later;
        unnamed = λ es drawn id above. subst (λ l. list_any (λ n. n.0 == id) (names_at z.iface.facts l (last_items (b ∷ boots))) ≡ false) (sym (append_assoc w.history (p ∷ []) es))
            (up.unnamed (p ∷ es) (drawn_p es drawn) id (above_before id (subst (λ x. x.given < id) object_now above)));
        rebuilt = λ eager some x live. same_told x (live_after x live) ∙ up.rebuilt eager (λ none. some_held pre (sym held ∙ none)) x (live_before x live);
      };
    })
      where
        some_held : (l : List Entry) → l ++ p ∷ post ≡ [] → ⊥
        some_held [] is = cc is
        some_held (e ∷ l) is = cc is

        in_last : IsInLast (standing w b boots (Some v)).run p
        in_last = (without (IsInLast (standing w b boots (Some v)).run) k.held_items).1

        spelt : w' ≡ later
        spelt =
            subst (λ h. w' ≡ record w' { history = h; run = record { boots = b ∷ boots; points = w.run.points }; running = Some v }) history
            (subst (λ r. w' ≡ record w' { run = r; running = Some v }) run (subst (λ s. w' ≡ record w' { running = s }) running refl))

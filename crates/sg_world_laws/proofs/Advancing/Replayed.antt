-- A call more of a walk is replayed, or the service stops within it: what its item owes, and what stands after it.
use Rattle.std.proofs.Common.{Bool, List, None, Some, [], ap, arith, cond, false, inl, inr, length, refl, subst, sym, true, ℕ, ◌&&◌, ◌++◌, ◌+◌, ◌<◌, ◌==◌, ◌||◌, ◌∙◌, ◌∷◌, ◌≡◌, ◌⊎◌}
use Rattle.std.proofs.lemmas.Bool.Decides.{eqb_tells}
use Rattle.std.specs.List.{list_any}
use Rattle.sg_facts.specs.sg_base.declared.call.Call.{Call}
use Rattle.sg_facts.specs.sg_base.declared.reply.Good.{Good}
use Rattle.sg_facts.specs.sg_base.declared.reply.Reply.TheVariants.{Ok}
use Rattle.sg_facts.specs.Alike.{named, under_names}
use Rattle.sg_facts.specs.Facts.{is_visible}
use Rattle.sg_facts.specs.Laws.{is_none, names_after, next_call}
use Rattle.sg_facts.specs.Object.{Object, after, object_of}
use Rattle.sg_facts.specs.Inside.Rows.{object_from}
use Rattle.sg_facts.specs.Sound.{IsRow}
use Rattle.sg_facts.specs.Trace.{Boot}
use Rattle.sg_facts.specs.Track.{is_live, row_at}
use Rattle.sg_facts.specs.declared.entry.Entry.{Entry}
use Rattle.sg_facts.specs.declared.outcome.Outcome.TheVariants.{Replied}
use Rattle.sg_facts.specs.declared.row.Row.{Row}
use Rattle.sg_facts.specs.declared.trace.Item.{Item}
use Rattle.sg_facts.specs.declared.trace.Tag.TheVariants.{Client, Load, Walk}
use Rattle.sg_facts.specs.declared.trace.Tag.{Tag}
use Rattle.sg_facts.proofs.RowLists.{live_of_row}
use Rattle.sg_facts.proofs.Replaying.Found.{other_test, within}
use Rattle.sg_recovery_laws.specs.sg_hist.Reading.{given_by, is_tagged, last_items, older_items, pair_of, service_call}
use Rattle.sg_recovery_laws.specs.sg_hist.Inside.Reads.{after_item, names_in}
use Rattle.sg_recovery_laws.specs.sg_hist.Recovered.{IsByTable, is_clients, is_replied, is_visible_reply}
use Rattle.sg_recovery_laws.specs.sg_hist.Inside.Parts.{AskedAs, IsDemanded, IsItsCall, IsOkOrStopped, IsTrackedAt, IsWalked}
use Rattle.sg_recovery_laws.specs.sg_hist.Growing.{IsNextItem, IsOfNoEntry, place_after}
use Rattle.sg_recovery_laws.proofs.InBoots.{place_is}
use Rattle.sg_recovery_laws.proofs.Objects.Apart.{Ascends}
use Rattle.sg_recovery_laws.proofs.Objects.Steady.{ascends}
use Rattle.sg_recovery_laws.specs.Midway.Numbers.{AreNumbers}
use Rattle.sg_recovery_laws.specs.Midway.Progress.{IsInRecovery, IsNone, TellsCalls, complete, fresh, is_complete}
use Rattle.sg_recovery_laws.specs.Midway.Stepping.{IsStepped, told_after}
use Rattle.sg_recovery_laws.specs.LastItem.LastPlace.{last_place}
use Rattle.sg_recovery_laws.specs.LastItem.Told.{IsKnown, IsRead}
use Rattle.sg_recovery_laws.proofs.LastItem.Later.{object_before_last}
use Rattle.sg_recovery_laws.proofs.LastItem.Noting.{least_told, walk_settled}
use Rattle.sg_recovery_laws.proofs.LastItem.Reading.{read_walk}
use Rattle.sg_clients.specs.WorldView.{WorldView, held_in, unanswered}
use Rattle.sg_world_laws.specs.Keeping.{AreDrawn, KeepsPromise, Stands, Stub, standing}
use Rattle.sg_world_laws.specs.Setting.{IsSetting, Setting, stubs_of}
use Rattle.sg_world_laws.specs.Turns.{IsLetIn}
use Rattle.sg_world_laws.proofs.Orders.{all_drawn, known_es, sound_es}
use Rattle.sg_world_laws.specs.Advancing.Advancing.{IsDue, IsFirstLeft, IsNextOf, IsReplayItem, StandsAfter, replayed_stub}
use Rattle.sg_world_laws.proofs.Advancing.Admitted.{admitted_es, ascends_es, known_item}
use Rattle.sg_world_laws.proofs.Advancing.Later.{counted_after}
use Rattle.sg_world_laws.proofs.Advancing.Counting.{numbers_now}
use Rattle.sg_world_laws.proofs.Advancing.Rebuilding.{first_es, id_es, id_is, is_new, its_walk, least, none_done, parent_es, row_es, sound_now, step_now}

none_of_walk : (item : Item) (id k client : ℕ) → item.tag ≡ Walk id k client → (h : List Entry) → IsOfNoEntry item h
none_of_walk item id k client tag [] = tt
none_of_walk item id k client tag (e ∷ h) = (ap (is_tagged e.call.client e.call.seq) tag, none_of_walk item id k client tag h)

module _ (z : Setting) (set : IsSetting z) (w : WorldView) (b : Boot) (boots : List Boot) (v : Object) (stub : Stub) (k : KeepsPromise z (standing w b boots (Some v)) stub)
    (call : Call) (let_in : IsLetIn z (standing w b boots (Some v)) call) (id : ℕ) (first : IsFirstLeft z (standing w b boots (Some v)) stub call id)
    (r : Row) (done rest : List ℕ) (fun : ℕ) (its : IsNextOf z (standing w b boots (Some v)) stub id r done rest fun)
    (item : Item) (is : IsReplayItem z.iface.facts stub id call.client r done fun item) where
  abbrev o : Object
  o = object_of z.iface.facts w.history

  abbrev ws : List Entry
  ws = held_in (length (b ∷ boots)) w.seats

  up : Stands z (standing w b boots (Some v)) stub v
  up = k.stands

  part : is_complete (stub.told id) ≡ false
  part = (least z set w b boots v stub k call let_in id first).part

  nothing_done : stub.told id ≡ fresh → done ≡ []
  nothing_done = none_done z set w b boots v stub k call let_in id first r its.there done rest fun its.walk its.told

  -- ---- what the item owes

  module _ (goes : IsOkOrStopped item.outcome) (table : IsByTable z.iface.facts z.ask v (service_call item) item.outcome) (es : List Entry) (drawn : AreDrawn (held_in (length (b ∷ boots)) w.seats) es) where
    none_of : IsOfNoEntry item (w.history ++ es)
    none_of = none_of_walk item id (length done + 1) call.client is.tag (w.history ++ es)

    known : IsKnown z.iface.facts z.walks (w.history ++ es) (older_items [] (b ∷ boots)) (last_items (b ∷ boots)) item stub.names stub.told stub.present (object_from z.iface.facts (object_of z.iface.facts w.history) es)
    known = known_item z set w b boots v stub k call let_in item es drawn none_of

    are : Ascends 0 (object_from z.iface.facts (object_of z.iface.facts w.history) es).given (object_from z.iface.facts (object_of z.iface.facts w.history) es).rows
    are = ascends_es z set w b boots v stub k call let_in item es drawn none_of

    parent : (r.parent ≡ 0) ⊎ ((is_live (object_from z.iface.facts (object_of z.iface.facts w.history) es).rows r.parent ≡ true) × (stub.told r.parent ≡ complete))
    parent = parent_es z set w b boots v stub k call let_in id first r its.there es drawn

    -- its call is on the row, or on its parent, which is there
    desc_es : IsNone (object_from z.iface.facts (object_of z.iface.facts w.history) es).rows item.shown.desc
    desc_es = subst (λ x. IsNone (object_from z.iface.facts (object_of z.iface.facts w.history) es).rows x.desc) (sym is.shown) (at (is_none done))
      where
        above : (r.parent ≡ 0) ⊎ ((is_live (object_from z.iface.facts (object_of z.iface.facts w.history) es).rows r.parent ≡ true) × (stub.told r.parent ≡ complete))
            → IsNone (object_from z.iface.facts (object_of z.iface.facts w.history) es).rows r.parent
        above (inl none) = inl none
        above (inr full) = inr full.0

        at : (t : Bool) → IsNone (object_from z.iface.facts (object_of z.iface.facts w.history) es).rows (cond t r.parent r.id)
        at true = above parent
        at false = inr (live_of_row (object_from z.iface.facts (object_of z.iface.facts w.history) es).rows r.id r (row_es z set w b boots v stub k call let_in id first r its.there es drawn))

    next_es : IsNextItem (stubs_of z) (w.history ++ es) (unanswered (standing w b boots (Some v))) (place_after [] (b ∷ boots) item)
    next_es = subst (IsNextItem (stubs_of z) (w.history ++ es) (unanswered (standing w b boots (Some v)))) (sym (place_is [] b boots item)) (record {
      running = k.cell.runs.unbroken;
      table = table_of item.tag is.tag;
      call = its_of item.tag is.tag;
      settled = record { walk = walked item.tag is.tag; demand = demanded item.tag is.tag; state = state_of item.tag is.tag };
    })
      where
        its_of : (t : Tag) → t ≡ Walk id (length done + 1) call.client → IsItsCall (w.history ++ es) (unanswered (standing w b boots (Some v))) item.shown t
        its_of (Walk i n x) tag = tt
        its_of (Load key x) tag = tt
        its_of (Client x s) tag = absurd (cc tag)

        state_of : (t : Tag) → t ≡ Walk id (length done + 1) call.client → IsTrackedAt z.iface z.walks (w.history ++ es) (last_place (older_items [] (b ∷ boots)) (last_items (b ∷ boots)) item) t
        state_of (Walk i n x) tag = tt
        state_of (Load key x) tag = tt
        state_of (Client x s) tag = absurd (cc tag)

        table_of : (t : Tag) → t ≡ Walk id (length done + 1) call.client → AskedAs z.iface.facts z.ask (last_place (older_items [] (b ∷ boots)) (last_items (b ∷ boots)) item) t
        table_of (Walk i n x) tag = subst (λ held. IsByTable z.iface.facts z.ask held (service_call item) item.outcome) k.cell.runs.folded table
        table_of (Load key x) tag = tt
        table_of (Client x s) tag = absurd (cc tag)

        walked : (t : Tag) → t ≡ Walk id (length done + 1) call.client → IsWalked z.iface.facts z.walks (w.history ++ es) (last_place (older_items [] (b ∷ boots)) (last_items (b ∷ boots)) item) t
        walked t tag = subst (IsWalked z.iface.facts z.walks (w.history ++ es) (last_place (older_items [] (b ∷ boots)) (last_items (b ∷ boots)) item)) (sym tag)
            (walk_settled z.iface z.walks (w.history ++ es) (unanswered (standing w b boots (Some v))) (older_items [] (b ∷ boots)) (last_items (b ∷ boots)) item stub.names stub.told stub.present
            (object_from z.iface.facts (object_of z.iface.facts w.history) es) known.object known.sound are none_of known.items known.read
            id (length done + 1) call.client r done rest fun (id_es z set w b boots v stub k call let_in id first r its.there es drawn) part its.told nothing_done refl its.walk is.shown parent desc_es is.real goes)

        demanded : (t : Tag) → t ≡ Walk id (length done + 1) call.client → IsDemanded z.iface z.walks (w.history ++ es) (unanswered (standing w b boots (Some v))) (last_place (older_items [] (b ∷ boots)) (last_items (b ∷ boots)) item) t
        demanded t tag = subst (IsDemanded z.iface z.walks (w.history ++ es) (unanswered (standing w b boots (Some v))) (last_place (older_items [] (b ∷ boots)) (last_items (b ∷ boots)) item)) (sym tag) (record {
          call = call;
          admitted = admitted_es z set w b boots v stub k call let_in item es drawn none_of;
          least = least_told z.iface z.walks (w.history ++ es) (unanswered (standing w b boots (Some v))) (older_items [] (b ∷ boots)) (last_items (b ∷ boots)) item stub.names stub.told stub.present
              (object_from z.iface.facts (object_of z.iface.facts w.history) es) known.object known.sound are none_of known.items known.read call id
              (first_es z set w b boots v stub k call let_in id first r its.there es drawn);
        })

    pub replay_due : IsDue z (standing w b boots (Some v)) item es
    replay_due = record { none = none_of; next = next_es }

  -- it is no visible reply
  pub replay_hidden : is_visible_reply z.iface.facts item ≡ false
  replay_hidden = ap (λ t. is_clients t && is_visible z.iface.facts item.shown.fun && is_replied item.outcome) is.tag

  pub call_is : service_call item ≡ next_call z.iface.facts stub.names r done fun
  call_is = ap (λ n. record item.shown { desc = n }) is.real ∙ ap (under_names stub.names) is.shown

  -- ---- what stands after it

  module _ (good : Good) (answered : z.ask v (next_call z.iface.facts stub.names r done fun) ≡ Some (Ok good)) (outcome : item.outcome ≡ Replied (Ok good) None) where
    all : AreDrawn (held_in (length (b ∷ boots)) w.seats) (held_in (length (b ∷ boots)) w.seats)
    all = all_drawn z set w b boots (Some v) stub k

    step : IsStepped z.iface z.ask z.walks stub.names stub.told stub.present (object_from z.iface.facts (object_of z.iface.facts w.history) (held_in (length (b ∷ boots)) w.seats)) v r done rest fun
    step = step_now z set w b boots v stub k call let_in id first r its.there done rest fun its.walk its.told

    r_id : r.id ≡ id
    r_id = id_is z set w b boots v stub k call let_in id first r its.there

    in_recovery_now : IsInRecovery z.iface z.walks (names_after stub.names r done good) (told_after stub.told id done rest) stub.present
        (object_from z.iface.facts (object_of z.iface.facts w.history) (held_in (length (b ∷ boots)) w.seats)) (after z.iface.facts v (next_call z.iface.facts stub.names r done fun) (Ok good))
    unfolding step
    in_recovery_now =
        let both : Some (Ok step.good) ≡ Some (Ok good) = sym step.answered ∙ answered in
        let same : step.good ≡ good = cc both in
        subst (λ n. IsInRecovery z.iface z.walks (names_after stub.names r done good) (told_after stub.told n done rest) stub.present (object_from z.iface.facts (object_of z.iface.facts w.history) ws)
        (after z.iface.facts v (next_call z.iface.facts stub.names r done fun) (Ok good))) r_id
        (subst (λ g. IsInRecovery z.iface z.walks (names_after stub.names r done g) (told_after stub.told r.id done rest) stub.present (object_from z.iface.facts (object_of z.iface.facts w.history) ws)
        (after z.iface.facts v (next_call z.iface.facts stub.names r done fun) (Ok g))) same step.under_way)

    numbers_after : AreNumbers z.iface.facts (told_after stub.told id done rest) (length w.history) (object_from z.iface.facts (object_of z.iface.facts w.history) (held_in (length (b ∷ boots)) w.seats))
        (after z.iface.facts v (next_call z.iface.facts stub.names r done fun) (Ok good))
    unfolding step
    numbers_after =
        subst (λ n. AreNumbers z.iface.facts (told_after stub.told n done rest) (length w.history) (object_from z.iface.facts (object_of z.iface.facts w.history) ws) (after z.iface.facts v (next_call z.iface.facts stub.names r done fun) (Ok good))) r_id
        (numbers_now z.iface z.ask z.sound set.law set.fits stub.names stub.told (length w.history) (object_from z.iface.facts (object_of z.iface.facts w.history) ws) v up.numbers
        (ascends z.iface.facts (object_from z.iface.facts (object_of z.iface.facts w.history) ws) (sound_es z set w b boots (Some v) stub k ws all)) (counted_after z set w b boots (Some v) stub k) r done rest fun
        (row_es z set w b boots v stub k call let_in id first r its.there ws all) (its_walk z set w b boots v stub k call let_in id first r its.there done rest fun its.walk its.told)
        (subst (λ n. TellsCalls (stub.told n) (length done)) (sym r_id) its.told) (ap (λ n. is_complete (stub.told n)) r_id ∙ part)
        (λ none. ap stub.told r_id ∙ is_new z set w b boots v stub k call let_in id first r its.there done rest fun its.walk its.told none) good step.may_ask answered)

    live_now : (ds : List ℕ) → (x : ℕ) → (named (names_after stub.names r ds good) x ≡ 0) ⊎ (is_live (object_of z.iface.facts w.history).rows x ≡ true)
    live_now [] x = elim (eqb_tells r.id x) [
      | inl same ↦ inr (ap (is_live (object_of z.iface.facts w.history).rows) (sym same.1 ∙ r_id) ∙ live_of_row (object_of z.iface.facts w.history).rows id r its.there)
      | inr apart ↦ elim (up.named_live x) [
        | inl none ↦ inl (ap (λ t. cond t good.desc (named stub.names x)) apart.0 ∙ none)
        | inr live ↦ inr live
      ]
    ]
    live_now (d ∷ ds) x = up.named_live x

    read_now : (es : List Entry) → AreDrawn (held_in (length (b ∷ boots)) w.seats) es
        → IsRead z.iface.facts z.walks (w.history ++ es) (older_items [] (b ∷ boots)) (last_items (b ∷ boots) ++ item ∷ []) (names_after stub.names r done good) (told_after stub.told id done rest) stub.present (object_of z.iface.facts w.history).rows
    read_now es drawn =
        let none = none_of_walk item id (length done + 1) call.client is.tag (w.history ++ es) in
        let known = known_es z set w b boots v stub k es drawn item none in
        read_walk z.iface.facts z.walks (w.history ++ es) (older_items [] (b ∷ boots)) (last_items (b ∷ boots)) item none stub.names stub.told stub.present (object_of z.iface.facts w.history).rows (up.read es drawn)
        id call.client r done rest fun good is.tag outcome
        (ap (λ x. row_at x.rows id) (object_before_last z.iface.facts (older_items [] (b ∷ boots)) (last_items (b ∷ boots)) item (w.history ++ es) none known.items ∙ known.object)
        ∙ id_es z set w b boots v stub k call let_in id first r its.there es drawn)
        its.walk r_id part its.told nothing_done (live_of_row (object_of z.iface.facts w.history).rows id r its.there)

    unnamed_now : (es : List Entry) → (x : ℕ) → (object_of z.iface.facts w.history).given < x → list_any (λ n. n.0 == x) (names_in z.iface.facts (w.history ++ es) item.shown.fun item.tag item.outcome) ≡ false
    unnamed_now es x above =
        ap (λ t. list_any (λ (n : ℕ × ℕ). n.0 == x) (names_in z.iface.facts (w.history ++ es) item.shown.fun t item.outcome)) is.tag
        ∙ ap (λ p. list_any (λ (n : ℕ × ℕ). n.0 == x) (cond (length done + 1 == 1) (pair_of id p) [])) outcome
        ∙ other_pair (length done + 1 == 1) low_id
      where
        other_pair : (q : Bool) → (id == x) ≡ false → list_any (λ (n : ℕ × ℕ). n.0 == x) (cond q ((id, good.desc) ∷ []) []) ≡ false
        other_pair true isn't = ap (λ t. t || false) isn't
        other_pair false isn't = refl

        low_id : (id == x) ≡ false
        low_id =
            let low = within (IsRow z.iface.facts (object_of z.iface.facts w.history).rows) 0 (object_of z.iface.facts w.history).given id (object_of z.iface.facts w.history).rows r
            (sound_now z set w b boots v stub k call let_in id first).rows its.there in
            other_test id x (λ same. omega (arith, above, low, r_id, same))

    pub replay_stands : StandsAfter z (standing w b boots (Some v)) item (replayed_stub stub id r done rest good) (after z.iface.facts v (next_call z.iface.facts stub.names r done fun) (Ok good))
    replay_stands = record {
      numbers = numbers_after;
      named_live = live_now done;
      in_recovery = in_recovery_now;
      read = read_now;
      unnamed = λ es drawn x above. unnamed_now es x above;
      rebuilt = λ eager some. absurd (let whole = up.rebuilt eager some id (live_of_row (object_of z.iface.facts w.history).rows id r its.there) in cc (whole, part));
    }

    -- what its item makes of the service
    pub replay_makes : after z.iface.facts v (next_call z.iface.facts stub.names r done fun) (Ok good) ≡ after_item z.iface.facts v item
    replay_makes = sym (ap (given_by z.iface.facts v item.tag (service_call item)) outcome ∙ gives item.tag is.tag ∙ ap (λ x. after z.iface.facts v x (Ok good)) call_is)
      where
        gives : (t : Tag) → t ≡ Walk id (length done + 1) call.client → given_by z.iface.facts v t (service_call item) (Replied (Ok good) None) ≡ after z.iface.facts v (service_call item) (Ok good)
        gives (Walk i n x) tag = refl
        gives (Load key x) tag = absurd (cc tag)
        gives (Client x s) tag = refl

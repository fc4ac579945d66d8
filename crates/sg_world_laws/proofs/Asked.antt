-- What a client's item owes where it is noted last, whichever held replies are committed first.
use Rattle.std.proofs.Common.{Bool, List, None, Option, Some, [], ap, arith, false, inl, inr, length, refl, subst, suc, sym, true, ℕ, ◌&&◌, ◌++◌, ◌<◌, ◌==◌, ◌∙◌, ◌∷◌, ◌≡◌}
use Rattle.std.proofs.lemmas.Bool.Decides.{nat_tests}
use Rattle.sg_facts.specs.sg_base.Lists.{Each}
use Rattle.sg_facts.specs.sg_base.declared.call.Call.{Call}
use Rattle.sg_facts.proofs.RowLists.{live_of_row, row_of_live}
use Rattle.sg_facts.specs.Alike.{HasAlike, SameFile, Serves, named}
use Rattle.sg_facts.specs.Guard.{guard}
use Rattle.sg_facts.specs.Needs.{is_needed, is_wanted, needs}
use Rattle.sg_facts.specs.Object.{Object, file_at, object_of}
use Rattle.sg_facts.specs.Inside.Rows.{object_from}
use Rattle.sg_facts.specs.Trace.{Boot}
use Rattle.sg_facts.specs.Track.{is_live, row_at}
use Rattle.sg_facts.specs.declared.entry.Entry.{Entry}
use Rattle.sg_facts.specs.declared.row.Row.{Row}
use Rattle.sg_facts.specs.declared.trace.Item.{Item}
use Rattle.sg_facts.specs.declared.trace.Tag.{Tag}
use Rattle.sg_facts.specs.declared.trace.Tag.TheVariants.{Client, Load, Walk}
use Rattle.sg_recovery_laws.proofs.Midway.Served.{serves_it}
use Rattle.sg_recovery_laws.specs.Midway.Progress.{IsNone, complete}
use Rattle.sg_recovery_laws.specs.sg_hist.Reading.{is_tagged, last_items, older_items, service_call, stands_before}
use Rattle.sg_recovery_laws.specs.sg_hist.Recovered.{IsAdmitted, IsByTable, IsCallOf, IsTracked}
use Rattle.sg_recovery_laws.specs.sg_hist.Inside.Parts.{AskedAs, IsDemanded, IsItsCall, IsTrackedAt, IsWalked}
use Rattle.sg_recovery_laws.proofs.Objects.Apart.{Ascends}
use Rattle.sg_recovery_laws.proofs.Objects.Room.{guard_after}
use Rattle.sg_recovery_laws.proofs.Objects.Serves.{its_own}
use Rattle.sg_recovery_laws.proofs.Objects.Steady.{ascends}
use Rattle.sg_recovery_laws.proofs.Objects.Waiting.{after_same}
use Rattle.sg_recovery_laws.proofs.InBoots.{place_is}
use Rattle.sg_recovery_laws.proofs.Lists.{each_map}
use Rattle.sg_recovery_laws.specs.sg_hist.Growing.{IsNextItem, IsOfNoEntry, place_after}
use Rattle.sg_clients.specs.WorldView.{WorldView, held_in, unanswered}
use Rattle.sg_recovery_laws.proofs.LastItem.Noting.{admitted_last, client_tracked}
use Rattle.sg_recovery_laws.specs.LastItem.LastPlace.{last_place}
use Rattle.sg_recovery_laws.specs.LastItem.Told.{IsKnown}
use Rattle.sg_recovery_laws.proofs.sg_track.Above.{root}
use Rattle.sg_facts.proofs.Replaying.Found.{other_test}
use Rattle.sg_world_laws.proofs.Orders.{above_es, back_es, call_es, few_now, good_now, known_es, needs_es, needs_told, none_es, there_es, time_es, time_now, told_es, wait_es}
use Rattle.sg_world_laws.specs.Keeping.{AreDrawn, KeepsPromise, Stands, Stub, standing}
use Rattle.sg_world_laws.specs.Setting.{IsSetting, Setting, stubs_of}
use Rattle.sg_world_laws.specs.Turns.{HasAll, IsAskedItem, IsLetIn}

module _ (z : Setting) (set : IsSetting z) (w : WorldView) (b : Boot) (boots : List Boot) (v : Object) (stub : Stub) (k : KeepsPromise z (standing w b boots (Some v)) stub)
    (call : Call) (let_in : IsLetIn z (standing w b boots (Some v)) call) (all : HasAll z (standing w b boots (Some v)) stub call) where
  up : Stands z (standing w b boots (Some v)) stub v
  up = k.stands

  abbrev o : Object
  o = object_of z.iface.facts w.history

  abbrev ws : List Entry
  ws = held_in (length (b ∷ boots)) w.seats

  -- the service serves the call
  pub serves_call : Serves z.iface.facts stub.names (object_of z.iface.facts w.history) v call
  unfolding up
  serves_call = serves_it z.iface z.ask z.sound z.walks stub.names stub.told stub.present o v ws set.law (good_now z set w b boots (Some v) stub k) k.waiting
      (time_now z set w b boots (Some v) stub k (suc (suc (length ws))) (let few = few_now z set w b boots (Some v) stub k in omega (arith, few))) up.in_recovery call let_in.passes let_in.none_by
      (needs_told z (standing w b boots (Some v)) stub call all) all.file

  module _ (item : Item) (asked : IsAskedItem z stub v call item) (es : List Entry) (drawn : AreDrawn (held_in (length (b ∷ boots)) w.seats) es) where
    abbrev o_es : Object
    o_es = object_from z.iface.facts (object_of z.iface.facts w.history) es

    above : Each (λ e. e.call.client ≡ call.client → e.call.seq < call.seq) (w.history ++ es)
    above = above_es z set w b boots (Some v) stub k es drawn call let_in

    -- no entry is of the item
    pub none_of : IsOfNoEntry item (w.history ++ es)
    none_of = none (w.history ++ es) above
      where
        none : (xs : List Entry) → Each (λ x. x.call.client ≡ call.client → x.call.seq < call.seq) xs → IsOfNoEntry item xs
        none [] all = tt
        none (x ∷ xs) all = (ap (is_tagged x.call.client x.call.seq) asked.tag ∙ by (call.client == x.call.client) refl, none xs all.1)
          where
            by : (q : Bool) → (call.client == x.call.client) ≡ q → ((call.client == x.call.client) && (call.seq == x.call.seq)) ≡ false
            by false is = ap (λ c. c && (call.seq == x.call.seq)) is
            by true is =
                let less = all.0 (grind (arith, nat_tests, is)) in
                ap (λ c. c && (call.seq == x.call.seq)) is ∙ other_test call.seq x.call.seq (λ one. omega (arith, one, less))

    known : IsKnown z.iface.facts z.walks (w.history ++ es) (older_items [] (b ∷ boots)) (last_items (b ∷ boots)) item stub.names stub.told stub.present (object_from z.iface.facts (object_of z.iface.facts w.history) es)
    known = known_es z set w b boots v stub k es drawn item none_of

    are : Ascends 0 (object_from z.iface.facts (object_of z.iface.facts w.history) es).given (object_from z.iface.facts (object_of z.iface.facts w.history) es).rows
    are = ascends z.iface.facts (object_from z.iface.facts (object_of z.iface.facts w.history) es) known.sound

    desc_es : IsNone (object_from z.iface.facts (object_of z.iface.facts w.history) es).rows call.desc
    desc_es = by all.desc
      where
        by : IsNone (object_of z.iface.facts w.history).rows call.desc → IsNone (object_from z.iface.facts (object_of z.iface.facts w.history) es).rows call.desc
        by (inl root) = inl root
        by (inr live) =
            let r = row_of_live (object_of z.iface.facts w.history).rows call.desc live in
            let there : row_at (object_of z.iface.facts w.history).rows r.0.id ≡ Some r.0 = ap (row_at (object_of z.iface.facts w.history).rows) r.2 ∙ r.1 in
            let there_now = there_es z set w b boots (Some v) stub k es drawn call let_in r.0 there (its_own z.iface.facts z.ask z.sound set.law z.iface.facts (object_of z.iface.facts w.history).rows call r.0 r.2) in
            inr (ap (is_live (object_from z.iface.facts (object_of z.iface.facts w.history) es).rows) (sym r.2) ∙ live_of_row (object_from z.iface.facts (object_of z.iface.facts w.history) es).rows r.0.id r.0 there_now)

    file_es : SameFile (object_from z.iface.facts (object_of z.iface.facts w.history) es) v call.desc (named stub.names call.desc) (needs z.iface.facts (object_from z.iface.facts (object_of z.iface.facts w.history) es) call).file
    unfolding serves_call
    file_es =
        subst (SameFile (object_from z.iface.facts (object_of z.iface.facts w.history) es) v call.desc (named stub.names call.desc))
        (sym (ap (λ n. n.file) (needs_es z set w b boots (Some v) stub k es drawn call let_in)))
        (by (needs z.iface.facts (object_of z.iface.facts w.history) call).file serves_call.file)
      where
        files : (object_from z.iface.facts (object_of z.iface.facts w.history) es).files ≡ (object_of z.iface.facts w.history).files
        files = (after_same z.iface.facts z.ask z.sound set.law (object_of z.iface.facts w.history) es call.client (good_now z set w b boots (Some v) stub k) (time_es z set w b boots (Some v) stub k es drawn)
            (wait_es z set w b boots (Some v) stub k es drawn) (none_es z set w b boots (Some v) stub k es drawn call let_in)).1

        by : (path : Option (List ℕ)) → SameFile (object_of z.iface.facts w.history) v call.desc (named stub.names call.desc) path
            → SameFile (object_from z.iface.facts (object_of z.iface.facts w.history) es) v call.desc (named stub.names call.desc) path
        by None same = tt
        by (Some path) same = (same.0, same.1 ∙ ap (λ fs. file_at fs path) (sym files))

    -- it is tracked there
    tracked_es : IsTracked z.iface z.walks (w.history ++ es) (last_place (older_items [] (b ∷ boots)) (last_items (b ∷ boots)) item)
    unfolding up serves_call
    tracked_es =
        client_tracked z.iface z.walks (w.history ++ es) [] (older_items [] (b ∷ boots)) (last_items (b ∷ boots)) item stub.names stub.told stub.present (object_from z.iface.facts (object_of z.iface.facts w.history) es)
        known.object known.sound are none_of known.items known.read v (sym k.cell.runs.folded)
        (subst (λ x. (r : Row) → row_at (object_from z.iface.facts (object_of z.iface.facts w.history) es).rows r.id ≡ Some r → is_wanted z.iface (object_from z.iface.facts (object_of z.iface.facts w.history) es).rows x r ≡ true → stub.told r.id ≡ complete) (sym asked.shown)
        (told_es z set w b boots (Some v) stub k es drawn call let_in all.rows))
        (subst (λ x. (r : Row) → row_at (object_from z.iface.facts (object_of z.iface.facts w.history) es).rows r.id ≡ Some r → is_needed z.iface.facts (object_from z.iface.facts (object_of z.iface.facts w.history) es).rows x r ≡ true → HasAlike stub.names v r) (sym asked.shown)
        (λ r there need. let was = back_es z set w b boots (Some v) stub k es drawn call let_in r there need in serves_call.needed r was.0 was.1))
        (subst (λ x. IsNone (object_from z.iface.facts (object_of z.iface.facts w.history) es).rows x.desc) (sym asked.shown) desc_es)
        (asked.real ∙ ap (λ x. named stub.names x.desc) (sym asked.shown))
        (subst (λ x. SameFile (object_from z.iface.facts (object_of z.iface.facts w.history) es) v x.desc (named stub.names x.desc) (needs z.iface.facts (object_from z.iface.facts (object_of z.iface.facts w.history) es) x).file) (sym asked.shown) file_es)

    -- and pays all that an item owes
    pub next_es : (u : List Call) → IsItsCall (w.history ++ es) u item.shown item.tag → IsNextItem (stubs_of z) (w.history ++ es) u (place_after [] (b ∷ boots) item)
    next_es u its = subst (IsNextItem (stubs_of z) (w.history ++ es) u) (sym (place_is [] b boots item)) (record {
      running = k.cell.runs.unbroken;
      table = table_of item.tag asked.tag;
      call = its;
      settled = record { walk = walked item.tag asked.tag; demand = demanded item.tag asked.tag its; state = state_of item.tag asked.tag };
    })
      where
        seqs : Each (λ e. (e.call.client == call.client) ≡ true → e.call.seq < call.seq) (w.history ++ es)
        seqs = each_map (λ e. e.call.client ≡ call.client → e.call.seq < call.seq) (λ e. (e.call.client == call.client) ≡ true → e.call.seq < call.seq) (w.history ++ es) (λ e so is. so (grind (arith, nat_tests, is))) above

        lets : guard z.iface (object_from z.iface.facts (object_of z.iface.facts w.history) es) call ≡ None
        lets = guard_after z.iface z.ask z.sound set.law (object_of z.iface.facts w.history) es call (good_now z set w b boots (Some v) stub k) (time_es z set w b boots (Some v) stub k es drawn)
            (wait_es z set w b boots (Some v) stub k es drawn) (none_es z set w b boots (Some v) stub k es drawn call let_in) let_in.passes.is_call.first let_in.passes.is_call.last let_in.guarded

        admitted : IsCallOf (w.history ++ es) u call.client call → IsAdmitted z.iface (w.history ++ es) u (stands_before (last_place (older_items [] (b ∷ boots)) (last_items (b ∷ boots)) item)) call.client call
        admitted is = admitted_last z.iface z.walks (w.history ++ es) u (older_items [] (b ∷ boots)) (last_items (b ∷ boots)) item stub.names stub.told stub.present (object_from z.iface.facts (object_of z.iface.facts w.history) es)
            known.object known.sound are none_of known.items known.read call.client call is seqs lets

        table_of : (t : Tag) → t ≡ Client call.client call.seq → AskedAs z.iface.facts z.ask (last_place (older_items [] (b ∷ boots)) (last_items (b ∷ boots)) item) t
        table_of (Walk i n x) is = absurd (cc is)
        table_of (Load key x) is = tt
        table_of (Client x s) is = subst (λ held. IsByTable z.iface.facts z.ask held (service_call item) item.outcome) k.cell.runs.folded asked.table

        walked : (t : Tag) → t ≡ Client call.client call.seq → IsWalked z.iface.facts z.walks (w.history ++ es) (last_place (older_items [] (b ∷ boots)) (last_items (b ∷ boots)) item) t
        walked (Walk i n x) is = absurd (cc is)
        walked (Load key x) is = tt
        walked (Client x s) is = tt

        demanded : (t : Tag) → t ≡ Client call.client call.seq → IsItsCall (w.history ++ es) u item.shown t
            → IsDemanded z.iface z.walks (w.history ++ es) u (last_place (older_items [] (b ∷ boots)) (last_items (b ∷ boots)) item) t
        demanded (Walk i n x) is its = absurd (cc is)
        demanded (Load key x) is its = absurd (cc is)
        demanded (Client x s) is its =
            let one : x ≡ call.client = cc is in
            let own : IsCallOf (w.history ++ es) u call.client call = subst (λ n. IsCallOf (w.history ++ es) u n call) one (subst (IsCallOf (w.history ++ es) u x) asked.shown its.0) in
            subst (λ n. IsAdmitted z.iface (w.history ++ es) u (stands_before (last_place (older_items [] (b ∷ boots)) (last_items (b ∷ boots)) item)) n item.shown) (sym one)
            (subst (IsAdmitted z.iface (w.history ++ es) u (stands_before (last_place (older_items [] (b ∷ boots)) (last_items (b ∷ boots)) item)) call.client) (sym asked.shown) (admitted own))

        state_of : (t : Tag) → t ≡ Client call.client call.seq → IsTrackedAt z.iface z.walks (w.history ++ es) (last_place (older_items [] (b ∷ boots)) (last_items (b ∷ boots)) item) t
        state_of (Walk i n x) is = absurd (cc is)
        state_of (Load key x) is = tt
        state_of (Client x s) is = tracked_es

    -- the item is the client's call, as it is offered
    pub its_es : IsItsCall (w.history ++ es) (unanswered (standing w b boots (Some v))) item.shown item.tag
    its_es =
        subst (IsItsCall (w.history ++ es) (unanswered (standing w b boots (Some v))) item.shown) (sym asked.tag)
        (subst (λ x. IsCallOf (w.history ++ es) (unanswered (standing w b boots (Some v))) call.client x × (x.seq ≡ call.seq)) (sym asked.shown)
        (call_es z set w b boots (Some v) stub k es drawn call let_in, refl))

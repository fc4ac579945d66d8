-- A run that recovers goes on to do so, whatever comes next.
use Rattle.std.proofs.Common.{◌≡◌, ◌≢◌, ℕ, Bool, true, false, not, ◌&&◌, ◌||◌, List, [], ◌∷◌, ◌++◌, Option, None, Some, IsSome, cond, refl, sym, ◌∙◌, ap, subst, append-nil}
use Rattle.std.proofs.lemmas.List.Folds.{list_any-append}
use Rattle.std.proofs.lemmas.List.Sorted.{IsPermutation-reverse, list_any-IsPermutation}
use Rattle.std.specs.List.{list_all, list_any}
use Rattle.std.specs.Prelude.{find, reverse}
use Rattle.sg_facts.specs.sg_base.Lists.{Each, When}
use Rattle.sg_facts.specs.sg_base.declared.call.Call.{Call}
use Rattle.sg_facts.specs.declared.entry.Entry.{Entry}
use Rattle.sg_facts.specs.declared.trace.Item.{Item}
use Rattle.sg_facts.specs.declared.trace.Tag.{Tag}
use Rattle.sg_facts.specs.declared.trace.Tag.TheVariants.{Walk, Load, Client}
use Rattle.sg_facts.specs.Facts.{Facts, is_visible}
use Rattle.sg_facts.specs.Trace.{Boot, Run}
use Rattle.sg_recovery_laws.proofs.Events.{no_after, own_item, reboots_noted, stopped_booted, stopped_struck, with_last}
use Rattle.sg_recovery_laws.proofs.Given.{IsGiven, committed_given, each_front, given_same, names_same, refused_same}
use Rattle.sg_hist.proofs.Growing.{past_all, places-booted, places-more, places-struck}
use Rattle.sg_recovery_laws.proofs.Lists.{each_both, each_map, each_push}
use Rattle.sg_recovery_laws.proofs.Same.{IsSame, again_is, demanded_same, tracked_same, walked_same}
use Rattle.sg_recovery_laws.proofs.Served.{IsNamed, committed_stay, entered_later, item_of-own, items_stay, committed_later, has_same, order_push, order_stays}
use Rattle.sg_recovery_laws.proofs.Stays.{same_committed, same_held, same_noted, same_refused}
use Rattle.sg_hist.specs.Growing.{AreKept, HasOneMore, IsGrown, IsHeldReply, IsItemOf, IsLastCall, IsNextItem, IsRecovering, IsSettled, IsOfNoEntry, booted, last_stop, noted, place_after, struck, IsSameId}
use Rattle.sg_hist.specs.Reading.{Position, items_after, is_by_guard, is_item_of, item_of, items_of, places_from, places_in, places_of, stands_before}
use Rattle.sg_hist.specs.Inside.Reads.{past}
use Rattle.sg_hist.specs.Recovered.{AreInOrder, AreStopped, IsAdmitted, IsUnderWay, Stubs, is_entered, is_visible_reply}
use Rattle.sg_hist.specs.Inside.Parts.{ComeBefore, HasItem, GivesEntry, IsCommitted, AskedAs, IsDemanded, IsItsCall, IsLastIfStopped, IsTrackedAt, IsWalked}

-- ---- calls

pub its_kept : (h : List Entry) (u : List Call) (h' : List Entry) (u' : List Call) (shown : Call) → AreKept h u h' u' → (tag : Tag)
    → IsItsCall h u shown tag → IsItsCall h' u' shown tag
its_kept h u h' u' shown kept (Client client seq) its = (record { its = its.0.its; made = kept shown its.0.made }, its.1)
its_kept h u h' u' shown kept (Walk id k client) its = tt
its_kept h u h' u' shown kept (Load key client) its = tt

its_again : (h : List Entry) (u : List Call) (h' : List Entry) (u' : List Call) (item : Item) (p q : Position) → AreKept h u h' u' → IsGrown item p q
    → IsItsCall h u p.item.shown p.item.tag → IsItsCall h' u' q.item.shown q.item.tag
its_again h u h' u' item p q kept g its = subst (λ i. IsItsCall h' u' i.shown i.tag) (sym g.own) (its_kept h u h' u' p.item.shown kept p.item.tag its)

-- ---- an item that is of no entry

pub noted_stays : (s : Stubs) (h : List Entry) (b : Boot) (boots : List Boot) (points later : ℕ) (u u' : List Call) (item : Item)
    → IsOfNoEntry item h → is_visible_reply s.interface.facts item ≡ false → AreKept h u h u' → IsNextItem s h u' (place_after [] (b ∷ boots) item)
    → IsRecovering s h (record { boots = b ∷ boots; points = points }) u
    → IsRecovering s h (record { boots = noted (b ∷ boots) item; points = later }) u'
noted_stays s h b boots points later u u' item none hidden kept next r =
    let last : Position = place_after [] (b ∷ boots) item in
    let before : List Position = places_from [] (b ∷ boots) in
    let now : List Position = places_from [] (noted (b ∷ boots) item) in
    let more : HasOneMore item last before now = places-more [] b boots item in
    let own : last.item ≡ item = own_item [] b boots item in
    let old : Run = record { boots = b ∷ boots; points = points } in
    let new : Run = record { boots = noted (b ∷ boots) item; points = later } in
    let same : (p q : Position) → IsGrown item p q → IsSame s.interface.facts s.walks h u h u' p q.rest q.newer
    = λ p q g. same_noted s.interface.facts s.walks h u u' item p q.rest q.newer none g.after_it kept in
    record {
      reboots = reboots_noted s.interface.facts s.ask b boots points later item next.running next.table r.reboots;
      served = record {
        calls = with_last item last (λ p. IsItsCall h u p.item.shown p.item.tag) (λ p. IsItsCall h u' p.item.shown p.item.tag) before now more
            (λ p q g its. its_again h u h u' item p q kept g its) next.call r.served.calls;
        items = items_stay s.interface.facts h h item last old new h more own none (all_named before) r.served.items;
        committed = with_last item last (IsCommitted s.interface.facts h) (IsCommitted s.interface.facts h) before now more
            (λ p q g c. subst (λ v. IsCommitted s.interface.facts v q) (append-nil h) (committed_stay s.interface.facts item h [] p q g none c))
            (subst (λ b. When b (is_entered h last ≡ true)) (sym (ap (is_visible_reply s.interface.facts) own ∙ hidden)) tt) r.served.committed;
        order = order_stays s.interface.facts item last old new [] h more own tt none r.served.order;
      };
      walks = with_last item last (λ p. IsWalked s.interface.facts s.walks h p p.item.tag) (λ p. IsWalked s.interface.facts s.walks h p p.item.tag) before now more
          (λ p q g w. subst (λ v. IsWalked s.interface.facts s.walks h v v.item.tag) (again_is item p q g) (walked_same s.interface.facts s.walks h u h u' p q.rest q.newer (same p q g) w))
          next.settled.walk r.walks;
      on_demand = with_last item last (λ p. IsDemanded s.interface s.walks h u p p.item.tag) (λ p. IsDemanded s.interface s.walks h u' p p.item.tag) before now more
          (λ p q g d. subst (λ v. IsDemanded s.interface s.walks h u' v v.item.tag) (again_is item p q g) (demanded_same s.interface s.walks h u h u' p q.rest q.newer (same p q g) d))
          next.settled.demand r.on_demand;
      tracked_state = with_last item last (λ p. IsTrackedAt s.interface s.walks h p p.item.tag) (λ p. IsTrackedAt s.interface s.walks h p p.item.tag) before now more
          (λ p q g t. subst (λ v. IsTrackedAt s.interface s.walks h v v.item.tag) (again_is item p q g) (tracked_same s.interface s.walks h u h u' p q.rest q.newer (same p q g) t))
          next.settled.state r.tracked_state;
    }
  where
    all_named : (ps : List Position) → Each (IsNamed s.interface.facts h h) ps
    all_named [] = tt
    all_named (p ∷ ps) = (refl, all_named ps)

-- ---- an item with its entry

-- the entries that came before have their items before the last place
any_in : (e : Entry) (older front items newer : List Item) → list_any (λ p. is_item_of e p.item) (places_in older front items newer) ≡ list_any (is_item_of e) items
any_in e older front [] newer = refl
any_in e older front (x ∷ items) newer = ap (λ b. is_item_of e x || b) (any_in e older (front ++ x ∷ []) items newer)

any_places : (e : Entry) (older : List Item) (boots : List Boot) → list_any (λ p. is_item_of e p.item) (places_from older boots) ≡ list_any (is_item_of e) (items_of boots)
any_places e older [] = refl
any_places e older (b ∷ boots) =
    list_any-append (λ p. is_item_of e p.item) (places_in older [] b.items (items_of boots)) (places_from (older ++ b.items) boots)
    ∙ ap (λ v. v || list_any (λ p. is_item_of e p.item) (places_from (older ++ b.items) boots)) (any_in e older [] b.items (items_of boots))
    ∙ ap (λ v. list_any (is_item_of e) b.items || v) (any_places e (older ++ b.items) boots)
    ∙ sym (list_any-append (is_item_of e) b.items (items_of boots))

abbrev IsFound : Option Position → Type 0
IsFound None = ⊥
IsFound (Some p) = Unit {0}

found_any : (test : Position → Bool) (ps : List Position) → IsFound (find test ps) → list_any test ps ≡ true
found_any test [] found = absurd found
found_any test (p ∷ ps) found = by (found_any test ps) (test p) found
  where
    by : (IsFound (find test ps) → list_any test ps ≡ true) → (b : Bool) → IsFound (cond b (Some p) (find test ps)) → b || list_any test ps ≡ true
    by rest true found = refl
    by rest false found = rest found

was_found : (facts : Facts) (h : List Entry) (e : Entry) (o : Option Position) → GivesEntry facts h e o → IsFound o
was_found facts h e None a = a
was_found facts h e (Some p) a = tt

has_any : (facts : Facts) (h : List Entry) (b : Boot) (boots : List Boot) (points : ℕ) (e : Entry)
    → GivesEntry facts h e (item_of (record { boots = b ∷ boots; points = points }) e) → list_any (is_item_of e) (items_of (b ∷ boots)) ≡ true
has_any facts h b boots points e a =
    let ps : List Position = places_from [] (b ∷ boots) in
    sym (any_places e [] (b ∷ boots)) ∙ list_any-IsPermutation (λ p. is_item_of e p.item) ps (reverse ps) (IsPermutation-reverse ps)
    ∙ found_any (λ p. is_item_of e p.item) (reverse ps) (was_found facts h e (find (λ p. is_item_of e p.item) (reverse ps)) a)

come_last : (facts : Facts) (h : List Entry) (b : Boot) (boots : List Boot) (points : ℕ) (item : Item) (es : List Entry) → IsOfNoEntry item es
    → Each (HasItem facts h (record { boots = b ∷ boots; points = points })) es → ComeBefore es (Some (place_after [] (b ∷ boots) item))
come_last facts h b boots points item [] none has = refl
come_last facts h b boots points item (e ∷ es) none has =
    let last : Position = place_after [] (b ∷ boots) item in
    let one : is_by_guard e.reply || stands_before last e ≡ true = by (is_by_guard e.reply) has.0 in
    ap (λ v. v && list_all (λ x. is_by_guard x.reply || stands_before last x) es) one ∙ come_last facts h b boots points item es none.1 has.1
  where
    last_of : Position
    last_of = place_after [] (b ∷ boots) item

    none_at : is_item_of e last_of.item || list_any (is_item_of e) (items_after last_of) ≡ false
    none_at = ap (λ i. is_item_of e i || list_any (is_item_of e) (items_after last_of)) (own_item [] b boots item)
        ∙ ap (λ v. is_item_of e item || list_any (is_item_of e) v) (no_after [] b boots item) ∙ ap (λ v. v || false) none.0

    by : (g : Bool) → When (not g) (GivesEntry facts h e (item_of (record { boots = b ∷ boots; points = points }) e))
        → g || (not g && list_any (is_item_of e) (past last_of) && not (is_item_of e last_of.item || list_any (is_item_of e) (items_after last_of))) ≡ true
    by true a = refl
    by false a = ap (λ v. v && not (is_item_of e last_of.item || list_any (is_item_of e) (items_after last_of)))
        (ap (list_any (is_item_of e)) (past_all [] b boots item) ∙ has_any facts h b boots points e a)
        ∙ ap not none_at

pub committed_stays : (s : Stubs) (h : List Entry) (b : Boot) (boots : List Boot) (points later : ℕ) (u u' : List Call) (item : Item) (e : Entry)
    → IsOfNoEntry item h → IsItemOf s.interface.facts h (place_after [] (b ∷ boots) item) e → IsLastCall h u e.call → AreKept h u (h ++ e ∷ []) u'
    → IsNextItem s (h ++ e ∷ []) u' (place_after [] (b ∷ boots) item)
    → IsRecovering s h (record { boots = b ∷ boots; points = points }) u
    → IsRecovering s (h ++ e ∷ []) (record { boots = noted (b ∷ boots) item; points = later }) u'
committed_stays s h b boots points later u u' item e none of_it last_call kept next r =
    let last : Position = place_after [] (b ∷ boots) item in
    let before : List Position = places_from [] (b ∷ boots) in
    let now : List Position = places_from [] (noted (b ∷ boots) item) in
    let more : HasOneMore item last before now = places-more [] b boots item in
    let own : last.item ≡ item = own_item [] b boots item in
    let h' : List Entry = h ++ e ∷ [] in
    let old : Run = record { boots = b ∷ boots; points = points } in
    let new : Run = record { boots = noted (b ∷ boots) item; points = later } in
    let tagged : is_item_of e item ≡ true = ap (is_item_of e) (sym own) ∙ of_it.tagged in
    let given : Each (λ p. IsGiven s.interface.facts h p.item) before = each_map (IsCommitted s.interface.facts h) (λ p. IsGiven s.interface.facts h p.item) before (committed_given s.interface.facts h) r.served.committed in
    let fronts : Each (λ p. Each (IsGiven s.interface.facts h) p.front) before = each_front (IsGiven s.interface.facts h) [] (b ∷ boots) given in
    let same : (p q : Position) → IsGrown item p q → Each (IsGiven s.interface.facts h) p.front → IsSame s.interface.facts s.walks h u h' u' p q.rest q.newer
    = λ p q g ids. same_committed s.interface.facts s.walks h u u' e item p q.rest q.newer none tagged g.after_it kept last_call ids in
    let its : item_of new e ≡ Some last = item_of-own item e last old new more own tagged in
    record {
      reboots = reboots_noted s.interface.facts s.ask b boots points later item next.running next.table r.reboots;
      served = record {
        calls = with_last item last (λ p. IsItsCall h u p.item.shown p.item.tag) (λ p. IsItsCall h' u' p.item.shown p.item.tag) before now more
            (λ p q g c. its_again h u h' u' item p q kept g c) next.call r.served.calls;
        items = each_push (HasItem s.interface.facts h' new) h e
            (items_stay s.interface.facts h h' item last old new h more own none
            (each_map (λ p. Each (IsGiven s.interface.facts h) p.front × IsGiven s.interface.facts h p.item) (IsNamed s.interface.facts h h') before named
            (each_both (λ p. Each (IsGiven s.interface.facts h) p.front) (λ p. IsGiven s.interface.facts h p.item) before fronts given)) r.served.items)
            (subst (λ v. When (not v) (GivesEntry s.interface.facts h' e (item_of new e))) (sym of_it.served) (subst (GivesEntry s.interface.facts h' e) (sym its) (of_it.shown, of_it.reply)));
        committed = with_last item last (IsCommitted s.interface.facts h) (IsCommitted s.interface.facts h') before now more
            (λ p q g c. committed_stay s.interface.facts item h (e ∷ []) p q g none c) (last_entered last of_it.tagged (no_after [] b boots item)) r.served.committed;
        order = order_push s.interface.facts new [] h e (order_stays s.interface.facts item last old new [] h more own tt none r.served.order)
            (always (is_visible s.interface.facts e.call.fun && not (is_by_guard e.reply)) (subst (ComeBefore h) (sym its) (come_last s.interface.facts h b boots points item h none r.served.items)));
      };
      walks = with_last item last (λ p. Each (IsGiven s.interface.facts h) p.front × IsWalked s.interface.facts s.walks h p p.item.tag) (λ p. IsWalked s.interface.facts s.walks h' p p.item.tag) before now more
          (λ p q g w. subst (λ v. IsWalked s.interface.facts s.walks h' v v.item.tag) (again_is item p q g) (walked_same s.interface.facts s.walks h u h' u' p q.rest q.newer (same p q g w.0) w.1))
          next.settled.walk (each_both (λ p. Each (IsGiven s.interface.facts h) p.front) (λ p. IsWalked s.interface.facts s.walks h p p.item.tag) before fronts r.walks);
      on_demand = with_last item last (λ p. Each (IsGiven s.interface.facts h) p.front × IsDemanded s.interface s.walks h u p p.item.tag) (λ p. IsDemanded s.interface s.walks h' u' p p.item.tag) before now more
          (λ p q g w. subst (λ v. IsDemanded s.interface s.walks h' u' v v.item.tag) (again_is item p q g) (demanded_same s.interface s.walks h u h' u' p q.rest q.newer (same p q g w.0) w.1))
          next.settled.demand (each_both (λ p. Each (IsGiven s.interface.facts h) p.front) (λ p. IsDemanded s.interface s.walks h u p p.item.tag) before fronts r.on_demand);
      tracked_state = with_last item last (λ p. Each (IsGiven s.interface.facts h) p.front × IsTrackedAt s.interface s.walks h p p.item.tag) (λ p. IsTrackedAt s.interface s.walks h' p p.item.tag) before now more
          (λ p q g w. subst (λ v. IsTrackedAt s.interface s.walks h' v v.item.tag) (again_is item p q g) (tracked_same s.interface s.walks h u h' u' p q.rest q.newer (same p q g w.0) w.1))
          next.settled.state (each_both (λ p. Each (IsGiven s.interface.facts h) p.front) (λ p. IsTrackedAt s.interface s.walks h p p.item.tag) before fronts r.tracked_state);
    }
  where
    named : (p : Position) → Each (IsGiven s.interface.facts h) p.front × IsGiven s.interface.facts h p.item → IsNamed s.interface.facts h (h ++ e ∷ []) p
    named p both = names_same s.interface.facts h (h ++ e ∷ []) (p.front ++ p.item ∷ [])
        (each_map (IsGiven s.interface.facts h) (IsSameId s.interface.facts h (h ++ e ∷ [])) (p.front ++ p.item ∷ []) (given_same s.interface.facts h e) (each_push (IsGiven s.interface.facts h) p.front p.item both.0 both.1))

    always : {P : Type 0} (v : Bool) → P → When v P
    always true is = is
    always false is = tt

    either : (v : Bool) → v || (true || false) ≡ true
    either true = refl
    either false = refl

    last_entered : (last : Position) → is_item_of e last.item ≡ true → items_after last ≡ [] → IsCommitted s.interface.facts (h ++ e ∷ []) last
    last_entered last tagged nothing =
        let own : not (is_by_guard e.reply) && is_item_of e last.item && not (list_any (is_item_of e) (items_after last)) ≡ true
        = ap (λ v. not v && is_item_of e last.item && not (list_any (is_item_of e) (items_after last))) of_it.served
        ∙ ap (λ v. v && not (list_any (is_item_of e) (items_after last))) tagged ∙ ap (λ v. not (list_any (is_item_of e) v)) nothing in
        always (is_visible_reply s.interface.facts last.item)
        (list_any-append (λ x. not (is_by_guard x.reply) && is_item_of x last.item && not (list_any (is_item_of x) (items_after last))) h (e ∷ [])
        ∙ ap (λ v. is_entered h last || (v || false)) own ∙ either (is_entered h last))

-- ---- a refusal by the guard

-- each item's names stay with a refusal by the guard
named_refused : (facts : Facts) (h : List Entry) (e : Entry) → is_by_guard e.reply ≡ true → (ps : List Position) → Each (IsNamed facts h (h ++ e ∷ [])) ps
named_refused facts h e guards [] = tt
named_refused facts h e guards (p ∷ ps) = (names_same facts h (h ++ e ∷ []) (p.front ++ p.item ∷ []) (all (p.front ++ p.item ∷ [])), named_refused facts h e guards ps)
  where
    all : (items : List Item) → Each (IsSameId facts h (h ++ e ∷ [])) items
    all [] = tt
    all (i ∷ items) = (refused_same facts h e i guards, all items)

pub refused_stays : (s : Stubs) (h : List Entry) (run : Run) (u u' : List Call) (e : Entry) → is_by_guard e.reply ≡ true → IsLastCall h u e.call → AreKept h u (h ++ e ∷ []) u'
    → IsRecovering s h run u → IsRecovering s (h ++ e ∷ []) run u'
refused_stays s h run u u' e guards last kept r =
    let h' : List Entry = h ++ e ∷ [] in
    let same : (p : Position) → IsSame s.interface.facts s.walks h u h' u' p p.rest p.newer = λ p. same_refused s.interface.facts s.walks h u u' e p guards last kept in
    record {
      reboots = r.reboots;
      served = record {
        calls = each_map (λ p. IsItsCall h u p.item.shown p.item.tag) (λ p. IsItsCall h' u' p.item.shown p.item.tag) (places_of run)
            (λ p its. its_kept h u h' u' p.item.shown kept p.item.tag its) r.served.calls;
        items = each_push (HasItem s.interface.facts h' run) h e (each_map (HasItem s.interface.facts h run) (HasItem s.interface.facts h' run) h (has_same s.interface.facts h h' run (named_refused s.interface.facts h e guards (places_of run))) r.served.items)
            (subst (λ v. When (not v) (GivesEntry s.interface.facts h' e (item_of run e))) (sym guards) tt);
        committed = each_map (IsCommitted s.interface.facts h) (IsCommitted s.interface.facts h') (places_of run) (committed_later s.interface.facts h (e ∷ [])) r.served.committed;
        order = order_push s.interface.facts run [] h e r.served.order (unasked (is_visible s.interface.facts e.call.fun));
      };
      walks = each_map (λ p. IsWalked s.interface.facts s.walks h p p.item.tag) (λ p. IsWalked s.interface.facts s.walks h' p p.item.tag) (places_of run)
          (λ p w. walked_same s.interface.facts s.walks h u h' u' p p.rest p.newer (same p) w) r.walks;
      on_demand = each_map (λ p. IsDemanded s.interface s.walks h u p p.item.tag) (λ p. IsDemanded s.interface s.walks h' u' p p.item.tag) (places_of run)
          (λ p w. demanded_same s.interface s.walks h u h' u' p p.rest p.newer (same p) w) r.on_demand;
      tracked_state = each_map (λ p. IsTrackedAt s.interface s.walks h p p.item.tag) (λ p. IsTrackedAt s.interface s.walks h' p p.item.tag) (places_of run)
          (λ p w. tracked_same s.interface s.walks h u h' u' p p.rest p.newer (same p) w) r.tracked_state;
    }
  where
    later : (p : Position) → IsCommitted s.interface.facts h p → IsCommitted s.interface.facts (h ++ e ∷ []) p
    later p c = by (is_visible_reply s.interface.facts p.item) c
      where
        by : (b : Bool) → When b (is_entered h p ≡ true) → When b (is_entered (h ++ e ∷ []) p ≡ true)
        by true is = entered_later p h (e ∷ []) is
        by false is = tt

    unasked : (v : Bool) → When (v && not (is_by_guard e.reply)) (ComeBefore h (item_of run e))
    unasked true = subst (λ g. When (not g) (ComeBefore h (item_of run e))) (sym guards) tt
    unasked false = tt

-- ---- a held reply that is committed

-- the names stay with an entry more, where what gives a name belongs to an entry
given_named : (facts : Facts) (h : List Entry) (e : Entry) (p : Position) → Each (IsGiven facts h) p.front × IsGiven facts h p.item → IsNamed facts h (h ++ e ∷ []) p
given_named facts h e p both = names_same facts h (h ++ e ∷ []) (p.front ++ p.item ∷ [])
    (each_map (IsGiven facts h) (IsSameId facts h (h ++ e ∷ [])) (p.front ++ p.item ∷ []) (given_same facts h e) (each_push (IsGiven facts h) p.front p.item both.0 both.1))

pub held_stays : (s : Stubs) (h : List Entry) (run : Run) (u u' : List Call) (e : Entry) → IsHeldReply s.interface.facts h run e → IsLastCall h u e.call → AreKept h u (h ++ e ∷ []) u'
    → Each (λ p. stands_before p e ≡ true → IsSettled s (h ++ e ∷ []) u' p) (places_of run) → IsRecovering s h run u → IsRecovering s (h ++ e ∷ []) run u'
held_stays s h run u u' e held last kept after_it r =
    let h' : List Entry = h ++ e ∷ [] in
    let ps : List Position = places_of run in
    let given : Each (λ p. IsGiven s.interface.facts h p.item) ps = each_map (IsCommitted s.interface.facts h) (λ p. IsGiven s.interface.facts h p.item) ps (committed_given s.interface.facts h) r.served.committed in
    let fronts : Each (λ p. Each (IsGiven s.interface.facts h) p.front) ps = each_front (IsGiven s.interface.facts h) [] run.boots given in
    let named : Each (IsNamed s.interface.facts h h') ps = each_map (λ p. Each (IsGiven s.interface.facts h) p.front × IsGiven s.interface.facts h p.item) (IsNamed s.interface.facts h h') ps (given_named s.interface.facts h e)
    (each_both (λ p. Each (IsGiven s.interface.facts h) p.front) (λ p. IsGiven s.interface.facts h p.item) ps fronts given) in
    let before : Each (λ p. IsSettled s h u p) ps = settled_each ps r.walks r.on_demand r.tracked_state in
    let now : Each (λ p. IsSettled s h' u' p) ps = each_map
    (λ p. (stands_before p e ≡ true → IsSettled s h' u' p) × (Each (IsGiven s.interface.facts h) p.front × IsSettled s h u p)) (λ p. IsSettled s h' u' p) ps settled
    (each_both (λ p. stands_before p e ≡ true → IsSettled s h' u' p) (λ p. Each (IsGiven s.interface.facts h) p.front × IsSettled s h u p) ps after_it
    (each_both (λ p. Each (IsGiven s.interface.facts h) p.front) (λ p. IsSettled s h u p) ps fronts before)) in
    record {
      reboots = r.reboots;
      served = record {
        calls = each_map (λ p. IsItsCall h u p.item.shown p.item.tag) (λ p. IsItsCall h' u' p.item.shown p.item.tag) ps
            (λ p its. its_kept h u h' u' p.item.shown kept p.item.tag its) r.served.calls;
        items = each_push (HasItem s.interface.facts h' run) h e (each_map (HasItem s.interface.facts h run) (HasItem s.interface.facts h' run) h (has_same s.interface.facts h h' run named) r.served.items)
            (subst (λ v. When (not v) (GivesEntry s.interface.facts h' e (item_of run e))) (sym held.served) held.own);
        committed = each_map (IsCommitted s.interface.facts h) (IsCommitted s.interface.facts h') ps (committed_later s.interface.facts h (e ∷ [])) r.served.committed;
        order = order_push s.interface.facts run [] h e r.served.order
            (subst (λ v. When (v && not (is_by_guard e.reply)) (ComeBefore h (item_of run e))) (sym held.hidden) tt);
      };
      walks = each_map (λ p. IsSettled s h' u' p) (λ p. IsWalked s.interface.facts s.walks h' p p.item.tag) ps (λ p is. is.walk) now;
      on_demand = each_map (λ p. IsSettled s h' u' p) (λ p. IsDemanded s.interface s.walks h' u' p p.item.tag) ps (λ p is. is.demand) now;
      tracked_state = each_map (λ p. IsSettled s h' u' p) (λ p. IsTrackedAt s.interface s.walks h' p p.item.tag) ps (λ p is. is.state) now;
    }
  where
    settled_each : (ps : List Position) → Each (λ p. IsWalked s.interface.facts s.walks h p p.item.tag) ps → Each (λ p. IsDemanded s.interface s.walks h u p p.item.tag) ps
        → Each (λ p. IsTrackedAt s.interface s.walks h p p.item.tag) ps → Each (λ p. IsSettled s h u p) ps
    settled_each [] walks demands states = tt
    settled_each (p ∷ ps) walks demands states = (record { walk = walks.0; demand = demands.0; state = states.0 }, settled_each ps walks.1 demands.1 states.1)

    settled : (p : Position) → (stands_before p e ≡ true → IsSettled s (h ++ e ∷ []) u' p) × (Each (IsGiven s.interface.facts h) p.front × IsSettled s h u p) → IsSettled s (h ++ e ∷ []) u' p
    settled p has = by (stands_before p e) refl
      where
        by : (b : Bool) → stands_before p e ≡ b → IsSettled s (h ++ e ∷ []) u' p
        by true is = has.0 is
        by false is =
            let same : IsSame s.interface.facts s.walks h u (h ++ e ∷ []) u' p p.rest p.newer = same_held s.interface.facts s.walks h u u' e p is kept last has.1.0 in
            record {
              walk = walked_same s.interface.facts s.walks h u (h ++ e ∷ []) u' p p.rest p.newer same has.1.1.walk;
              demand = demanded_same s.interface s.walks h u (h ++ e ∷ []) u' p p.rest p.newer same has.1.1.demand;
              state = tracked_same s.interface s.walks h u (h ++ e ∷ []) u' p p.rest p.newer same has.1.1.state;
            }

-- ---- a call more, a stop, a boot

-- what is asked of the calls that aren't answered stays with more of them
pub made_stays : (s : Stubs) (h : List Entry) (run : Run) (u u' : List Call) → AreKept h u h u' → IsRecovering s h run u → IsRecovering s h run u'
made_stays s h run u u' kept r = record {
  reboots = r.reboots;
  served = record {
    calls = each_map (λ p. IsItsCall h u p.item.shown p.item.tag) (λ p. IsItsCall h u' p.item.shown p.item.tag) (places_of run)
        (λ p its. its_kept h u h u' p.item.shown kept p.item.tag its) r.served.calls;
    items = r.served.items;
    committed = r.served.committed;
    order = r.served.order;
  };
  walks = r.walks;
  on_demand = each_map (λ p. IsDemanded s.interface s.walks h u p p.item.tag) (λ p. IsDemanded s.interface s.walks h u' p p.item.tag) (places_of run) demanded r.on_demand;
  tracked_state = r.tracked_state;
}
  where
    under : (p : Position) (client : ℕ) (call : Call) → IsUnderWay s.interface.facts h u (stands_before p) client call → IsUnderWay s.interface.facts h u' (stands_before p) client call
    under p client call w = record { its = record { its = w.its.its; made = kept call w.its.made }; above = w.above; first = w.first }

    admitted : (p : Position) (client : ℕ) (call : Call) → IsAdmitted s.interface h u (stands_before p) client call → IsAdmitted s.interface h u' (stands_before p) client call
    admitted p client call a = record { under_way = under p client call a.under_way; guarded = a.guarded }

    demanded : (p : Position) → IsDemanded s.interface s.walks h u p p.item.tag → IsDemanded s.interface s.walks h u' p p.item.tag
    demanded p d = by p.item.tag d
      where
        by : (tag : Tag) → IsDemanded s.interface s.walks h u p tag → IsDemanded s.interface s.walks h u' p tag
        by (Walk id k client) d = record { call = d.call; admitted = admitted p client d.call d.admitted; least = d.least }
        by (Load key client) d = record {
          call = d.call;
          admitted = admitted p client d.call d.admitted;
          rows = d.rows;
          file = d.file;
          absent = d.absent;
          some = d.some;
          load = d.load;
        }
        by (Client client seq) d = admitted p client p.item.shown d

order_places : (facts : Facts) (run later : Run) (earlier es : List Entry) → places_of later ≡ places_of run → AreInOrder facts run earlier es → AreInOrder facts later earlier es
order_places facts run later earlier [] same order = tt
order_places facts run later earlier (e ∷ es) same order = (
  subst (λ ps. When (is_visible facts e.call.fun && not (is_by_guard e.reply)) (ComeBefore earlier (find (λ p. is_item_of e p.item) (reverse ps)))) (sym same) order.0,
  order_places facts run later (earlier ++ e ∷ []) es same order.1,
)

-- a run with the same places
same_places : (s : Stubs) (h : List Entry) (run later : Run) (u : List Call) → places_of later ≡ places_of run → later.boots ≢ [] → AreStopped later.boots
    → IsRecovering s h run u → IsRecovering s h later u
same_places s h run later u same booted stopped r = record {
  reboots = record {
    booted = booted;
    table = subst (Each (λ p. AskedAs s.interface.facts s.ask p p.item.tag)) (sym same) r.reboots.table;
    stopped = stopped;
    last = subst (Each (λ p. IsLastIfStopped p.rest p.item.outcome)) (sym same) r.reboots.last;
  };
  served = record {
    calls = subst (Each (λ p. IsItsCall h u p.item.shown p.item.tag)) (sym same) r.served.calls;
    items = each_map (HasItem s.interface.facts h run) (HasItem s.interface.facts h later) h
        (λ e has. subst (λ ps. When (not (is_by_guard e.reply)) (GivesEntry s.interface.facts h e (find (λ p. is_item_of e p.item) (reverse ps)))) (sym same) has) r.served.items;
    committed = subst (Each (IsCommitted s.interface.facts h)) (sym same) r.served.committed;
    order = order_places s.interface.facts run later [] h same r.served.order;
  };
  walks = subst (Each (λ p. IsWalked s.interface.facts s.walks h p p.item.tag)) (sym same) r.walks;
  on_demand = subst (Each (λ p. IsDemanded s.interface s.walks h u p p.item.tag)) (sym same) r.on_demand;
  tracked_state = subst (Each (λ p. IsTrackedAt s.interface s.walks h p p.item.tag)) (sym same) r.tracked_state;
}

pub struck_stays : (s : Stubs) (h : List Entry) (boots : List Boot) (points later stop : ℕ) (u : List Call)
    → IsRecovering s h (record { boots = boots; points = points }) u → IsRecovering s h (record { boots = struck boots stop; points = later }) u
struck_stays s h boots points later stop u r =
    same_places s h (record { boots = boots; points = points }) (record { boots = struck boots stop; points = later }) u
    (places-struck [] boots stop) (struck_some boots r.reboots.booted) (stopped_struck boots stop r.reboots.stopped) r
  where
    struck_some : (bs : List Boot) → bs ≢ [] → struck bs stop ≢ []
    struck_some [] some is = some refl
    struck_some (b ∷ []) some is = absurd (cc is)
    struck_some (b ∷ c ∷ bs) some is = absurd (cc is)

pub booted_stays : (s : Stubs) (h : List Entry) (b : Boot) (boots : List Boot) (points later : ℕ) (u : List Call) → IsSome (last_stop (b ∷ boots))
    → IsRecovering s h (record { boots = b ∷ boots; points = points }) u → IsRecovering s h (record { boots = booted (b ∷ boots); points = later }) u
booted_stays s h b boots points later u stop r =
    same_places s h (record { boots = b ∷ boots; points = points }) (record { boots = booted (b ∷ boots); points = later }) u
    (places-booted [] (b ∷ boots)) (λ is. absurd (cc is)) (stopped_booted b boots stop r.reboots.stopped) r

-- ---- the beginning

pub nothing_yet : (s : Stubs) → IsRecovering s [] (record { boots = booted []; points = 0 }) []
nothing_yet s = record {
  reboots = record { booted = λ is. absurd (cc is); table = tt; stopped = tt; last = tt };
  served = record { calls = tt; items = tt; committed = tt; order = tt };
  walks = tt;
  on_demand = tt;
  tracked_state = tt;
}

-- A served call is committed with its item, whichever held replies are committed first: its item pays what it owes, and the run recovers.
use Rattle.std.proofs.Common.{◌≡◌, ℕ, ◌<◌, Bool, true, false, cond, not, List, [], ◌∷◌, ◌++◌, Some, length, map, refl, sym, ◌∙◌, ap, subst, inl, inr, ◌⊎◌, arith}
use Rattle.std.specs.Prelude.{◌==◌, ◌||◌, ◌&&◌, find}
use Rattle.std.specs.List.{Contains, list_any}
use Rattle.std.proofs.lemmas.Bool.Decides.{nat_tests}
use Rattle.std.proofs.lemmas.List.Elements.{Contains-append_cases}
use Rattle.std.specs.declared.option.Option.{Option}
use Rattle.sg_facts.specs.sg_base.Lists.{Each}
use Rattle.sg_facts.specs.sg_base.declared.call.Call.{Call}
use Rattle.sg_facts.specs.sg_base.declared.reply.Good.{Good}
use Rattle.sg_facts.specs.sg_base.declared.reply.Reply.{Reply}
use Rattle.sg_facts.specs.sg_base.declared.reply.Reply.TheVariants.{Ok, Refused}
use Rattle.sg_world_laws.specs.Committing.Serving.{IsServedCall}
use Rattle.sg_world_laws.proofs.Committing.Later.{apart_ok}
use Rattle.sg_facts.specs.declared.entry.Entry.{Entry}
use Rattle.sg_facts.specs.declared.outcome.Patch.{Patch}
use Rattle.sg_facts.specs.declared.trace.Item.{Item}
use Rattle.sg_facts.specs.Alike.{SameReply, Serves, named, under_names}
use Rattle.sg_facts.specs.Facts.{fun_at, is_visible}
use Rattle.sg_facts.specs.Object.{Object, object_of}
use Rattle.sg_facts.specs.Trace.{Boot}
use Rattle.sg_recovery_laws.specs.Midway.Progress.{IsNone}
use Rattle.sg_recovery_laws.proofs.Midway.Back.{named_or_none}
use Rattle.sg_recovery_laws.specs.sg_hist.Reading.{Position, desc_in, id_given, is_by_guard, is_item_of, is_tagged, last_items, names_at, older_items, places_from}
use Rattle.sg_recovery_laws.specs.sg_hist.Inside.Reads.{desc_of}
use Rattle.sg_recovery_laws.specs.sg_hist.Recovered.{IsReplyOf}
use Rattle.sg_recovery_laws.specs.sg_hist.Inside.Parts.{IsCommitted}
use Rattle.sg_recovery_laws.specs.Objects.Waiting.{AreWaiting}
use Rattle.sg_recovery_laws.specs.sg_hist.Growing.{AreKept, IsItemOf, IsLastCall, IsNextItem, IsRecovering, IsSameId, IsSettled, noted, place_after}
use Rattle.sg_recovery_laws.proofs.Given.{IsGiven, committed_given, given_same, is_numbered, names_same}
use Rattle.sg_recovery_laws.proofs.InBoots.{place_is}
use Rattle.sg_recovery_laws.proofs.Lists.{each_contains, each_map}
use Rattle.sg_recovery_laws.proofs.Onward.{its_kept}
use Rattle.sg_recovery_laws.proofs.Same.{IsSame, demanded_same, tracked_same, walked_same}
use Rattle.sg_recovery_laws.proofs.Stays.{same_held}
use Rattle.sg_clients.specs.WorldView.{WorldView, held_in, unanswered}
use Rattle.sg_recovery_laws.specs.LastItem.LastPlace.{last_place}
use Rattle.sg_recovery_laws.proofs.LastItem.Replying.{reply_at}
use Rattle.sg_facts.proofs.Replaying.Found.{other_test, same_test}
use Rattle.sg_world_laws.specs.Keeping.{AreDrawn, KeepsPromise, Stands, Stub, standing}
use Rattle.sg_world_laws.specs.Setting.{IsSetting, Setting, stubs_of}
use Rattle.sg_world_laws.proofs.Ahead.{served_ahead}
use Rattle.sg_world_laws.proofs.Asked.{its_es, next_es, none_of, serves_call}
use Rattle.sg_world_laws.proofs.Entering.{kept_with}
use Rattle.sg_world_laws.proofs.Given.{front_items}
use Rattle.sg_world_laws.proofs.Orders.{above_es, good_now}

each_call : (P : Call → Type 0) (h : List Entry) → Each (λ e. P e.call) h → Each P (map (λ e. e.call) h)
each_call P [] all = tt
each_call P (e ∷ h) all = (all.0, each_call P h all.1)

-- the number of an entry that is appended after others of lower numbers finds it
pub given_pushed : (h : List Entry) (e : Entry) → Each (λ x. x.call.client ≡ e.call.client → x.call.seq < e.call.seq) h → (rest : List Entry) → id_given (h ++ e ∷ rest) e.call.client e.call.seq ≡ desc_of e.reply
given_pushed [] e all rest =
    ap desc_in (ap (λ t. cond t (Some e) (find (is_numbered e.call.client e.call.seq) rest)) (two (same_test e.call.client e.call.client refl) (same_test e.call.seq e.call.seq refl)))
  where
    two : {a c : Bool} → a ≡ true → c ≡ true → (a && c) ≡ true
    two {a = true} {c = true} x y = refl
    two {a = true} {c = false} x y = absurd (cc y)
    two {a = false} x y = absurd (cc x)
given_pushed (x ∷ h) e all rest =
    ap (λ t. desc_in (cond t (Some x) (find (is_numbered e.call.client e.call.seq) (h ++ e ∷ rest)))) (isn't (x.call.client == e.call.client) refl) ∙ given_pushed h e all.1 rest
  where
    isn't : (t : Bool) → (x.call.client == e.call.client) ≡ t → ((x.call.client == e.call.client) && (x.call.seq == e.call.seq)) ≡ false
    isn't false is = ap (λ c. c && (x.call.seq == e.call.seq)) is
    isn't true is =
        let less = all.0 (grind (arith, nat_tests, is)) in
        ap (λ c. c && (x.call.seq == e.call.seq)) is ∙ other_test x.call.seq e.call.seq (λ same. omega (arith, same, less))

module _ (z : Setting) (set : IsSetting z) (w : WorldView) (b : Boot) (boots : List Boot) (v : Object) (stub : Stub) (k : KeepsPromise z (standing w b boots (Some v)) stub)
    (call : Call) (item : Item) (reply other : Reply) (patch : Option Patch) (s : IsServedCall z (standing w b boots (Some v)) stub v call item reply other patch) where
  abbrev up : Stands z (standing w b boots (Some v)) stub v
  up = k.stands

  abbrev o : Object
  o = object_of z.iface.facts w.history

  abbrev ws : List Entry
  ws = held_in (length (b ∷ boots)) w.seats

  abbrev e : Entry
  e = record { call = call; reply = reply }

  -- the calls that weren't answered
  abbrev u : List Call
  u = unanswered (standing w b boots (Some v))

  pub served_it : is_by_guard reply ≡ false
  served_it = by reply s.replied.answered
    where
      by : (r : Reply) → z.ask o call ≡ Some r → is_by_guard r ≡ false
      by (Ok g) is = refl
      by (Refused code) is = set.law.shape.refuses o call code is

  pub own : is_item_of (record { call = call; reply = reply }) item ≡ true
  own = ap (is_tagged call.client call.seq) s.replied.asked.tag ∙ two (call.client == call.client) (call.seq == call.seq) (same_test call.client call.client refl) (same_test call.seq call.seq refl)
    where
      two : (a c : Bool) → a ≡ true → c ≡ true → (a && c) ≡ true
      two true true x y = refl
      two true false x y = absurd (cc y)
      two false c x y = absurd (cc x)

  serves : Serves z.iface.facts stub.names (object_of z.iface.facts w.history) v call
  serves = serves_call z set w b boots v stub k call s.let_in s.all

  module _ (es : List Entry) (drawn : AreDrawn (held_in (length (b ∷ boots)) w.seats) es) where
    less : Each (λ x. x.call.client ≡ call.client → x.call.seq < call.seq) (w.history ++ es)
    less = above_es z set w b boots (Some v) stub k es drawn call s.let_in

    recover_es : IsRecovering (stubs_of z) (w.history ++ es) (standing w b boots (Some v)).run (unanswered (standing w b boots (Some v)))
    recover_es = k.recovering es drawn

    -- what gave a name so far belongs to an entry
    pub given_es : Each (IsGiven z.iface.facts (w.history ++ es)) (last_items (b ∷ boots))
    given_es = front_items (IsGiven z.iface.facts (w.history ++ es)) [] b boots
        (each_map (IsCommitted z.iface.facts (w.history ++ es)) (λ p. IsGiven z.iface.facts (w.history ++ es) p.item) (places_from [] (b ∷ boots)) (committed_given z.iface.facts (w.history ++ es)) recover_es.served.committed)

    names_es : names_at z.iface.facts ((w.history ++ es) ++ e ∷ []) (last_items (b ∷ boots)) ≡ names_at z.iface.facts (w.history ++ es) (last_items (b ∷ boots))
    names_es = names_same z.iface.facts (w.history ++ es) ((w.history ++ es) ++ e ∷ []) (last_items (b ∷ boots))
        (each_map (IsGiven z.iface.facts (w.history ++ es)) (IsSameId z.iface.facts (w.history ++ es) ((w.history ++ es) ++ e ∷ [])) (last_items (b ∷ boots)) (given_same z.iface.facts (w.history ++ es) e) given_es)

    pub last_es : IsLastCall (w.history ++ es) (unanswered (standing w b boots (Some v))) call
    last_es x has its = elim (Contains-append_cases (map (λ y. y.call) (w.history ++ es)) u x has) [
      | inl old ↦
          let lower = each_contains (λ y. y.client ≡ call.client → y.seq < call.seq) (map (λ y. y.call) (w.history ++ es)) x (each_call (λ y. y.client ≡ call.client → y.seq < call.seq) (w.history ++ es) less) old its in
          omega (arith, lower)
      | inr one ↦ s.let_in.last x one its
    ]

    -- its item may be noted there, before its entry
    pub next_old : IsNextItem (stubs_of z) (w.history ++ es) (unanswered (standing w b boots (Some v))) (place_after [] (b ∷ boots) item)
    next_old = next_es z set w b boots v stub k call s.let_in s.all item s.replied.asked es drawn u (its_es z set w b boots v stub k call s.let_in s.all item s.replied.asked es drawn)

    -- the item has the entry's reply
    no_desc : (g : Good) → reply ≡ Ok g → (fun_at z.iface.facts.funs call.fun).creation ≡ false → named stub.names g.desc ≡ 0 → g.desc ≡ 0
    no_desc g is makes none = by other s.replied.answered_there s.replied.same
      where
        by : (p : Reply) → z.ask v (under_names stub.names call) ≡ Some p → SameReply stub.names (fun_at z.iface.facts.funs call.fun).creation (Some reply) (Some p) → g.desc ≡ 0
        by (Refused code) is_v same = absurd (apart_ok stub.names (fun_at z.iface.facts.funs call.fun).creation g code (subst (λ r. SameReply stub.names (fun_at z.iface.facts.funs call.fun).creation (Some r) (Some (Refused code))) is same))
        by (Ok h) is_v same =
            named_or_none z.iface.facts z.ask z.sound set.law.alike stub.names o v call (good_now z set w b boots (Some v) stub k).is_sound
            (set.law.keeps.general o (good_now z set w b boots (Some v) stub k).is_sound) s.let_in.passes serves up.in_recovery.holds.given makes s.all.desc
            g h (s.replied.answered ∙ ap (λ r. Some r) is) is_v none

    known : (g : Good) → reply ≡ Ok g → (fun_at z.iface.facts.funs call.fun).creation ≡ false → IsNone o.rows g.desc
    known g is makes = elim (up.named_live g.desc) [
      | inl none ↦ inl (no_desc g is makes none)
      | inr live ↦ inr live
    ]

    reply_es : IsReplyOf (names_at z.iface.facts ((w.history ++ es) ++ e ∷ []) (last_items (b ∷ boots) ++ item ∷ [])) item.outcome reply
    reply_es =
        reply_at z.iface.facts ((w.history ++ es) ++ e ∷ []) (last_items (b ∷ boots)) item call stub.names patch s.replied.asked.tag s.replied.asked.shown reply other s.replied.outcome s.replied.same
        (given_pushed (w.history ++ es) e less [])
        (λ g is makes. ap (λ l. list_any (λ (n : ℕ × ℕ). n.0 == g.desc) l) names_es
        ∙ up.unnamed es drawn g.desc (let next = set.law.keeps.next o call g (s.replied.answered ∙ ap (λ r. Some r) is) makes in omega (arith, next)))
        (λ g is makes zero_it. let next = set.law.keeps.next v (under_names stub.names call) g (s.replied.answered_there ∙ ap (λ r. Some r) is) makes in omega (arith, next, zero_it))
        (λ g is makes. ap (λ l. named l g.desc) names_es ∙ (up.read es drawn).names_are g.desc (known g is makes))
        no_desc

    pub item_es : IsItemOf z.iface.facts (w.history ++ es) (place_after [] (b ∷ boots) item) (record { call = call; reply = reply })
    item_es = subst (λ p. IsItemOf z.iface.facts (w.history ++ es) p e) (sym (place_is [] b boots item)) (record {
      tagged = own;
      served = served_it;
      shown = s.replied.asked.shown;
      reply = reply_es;
    })

    -- with its entry, which leaves out no other call that wasn't answered
    module _ (u' : List Call) (left : (x : Call) → Contains (unanswered (standing w b boots (Some v))) x → (x ≡ call) ⊎ Contains u' x) where
      pub kept_es : AreKept (w.history ++ es) (unanswered (standing w b boots (Some v))) ((w.history ++ es) ++ (record { call = call; reply = reply }) ∷ []) u'
      kept_es = kept_with (w.history ++ es) e u u' left

      abbrev p : Position
      p = last_place (older_items [] (b ∷ boots)) (last_items (b ∷ boots)) item

      -- what the item owes it owes with its entry too
      settled_es : IsSettled (stubs_of z) (w.history ++ es) u p → IsSettled (stubs_of z) ((w.history ++ es) ++ e ∷ []) u' p
      settled_es was =
          let same : IsSame z.iface.facts z.walks (w.history ++ es) u ((w.history ++ es) ++ e ∷ []) u' p p.rest p.newer
          = same_held z.iface.facts z.walks (w.history ++ es) u u' e p
          (three (not (is_by_guard reply)) (list_any (is_item_of e) (older_items [] (b ∷ boots) ++ last_items (b ∷ boots))) (is_item_of e item) own) kept_es last_es given_es in
          record {
            walk = walked_same z.iface.facts z.walks (w.history ++ es) u ((w.history ++ es) ++ e ∷ []) u' p p.rest p.newer same was.walk;
            demand = demanded_same z.iface z.walks (w.history ++ es) u ((w.history ++ es) ++ e ∷ []) u' p p.rest p.newer same was.demand;
            state = tracked_same z.iface z.walks (w.history ++ es) u ((w.history ++ es) ++ e ∷ []) u' p p.rest p.newer same was.state;
          }
        where
          three : (g a o : Bool) → o ≡ true → (g && a && not (o || false)) ≡ false
          three g a false is = absurd (cc is)
          three false a true is = refl
          three true false true is = refl
          three true true true is = refl

      pub next_now : IsNextItem (stubs_of z) ((w.history ++ es) ++ (record { call = call; reply = reply }) ∷ []) u' (place_after [] (b ∷ boots) item)
      next_now =
          let n : IsNextItem (stubs_of z) (w.history ++ es) u p = subst (IsNextItem (stubs_of z) (w.history ++ es) u) (place_is [] b boots item) next_old in
          subst (IsNextItem (stubs_of z) ((w.history ++ es) ++ e ∷ []) u') (sym (place_is [] b boots item)) (record {
            running = n.running;
            table = n.table;
            call = its_kept (w.history ++ es) u ((w.history ++ es) ++ e ∷ []) u' item.shown kept_es item.tag n.call;
            settled = settled_es n.settled;
          })

  pub hidden_held : Each (λ x. is_visible z.iface.facts x.call.fun ≡ false) (held_in (length (b ∷ boots)) w.seats)
  hidden_held = hidden ws k.waiting
    where
      hidden : (l : List Entry) → AreWaiting z.iface.facts z.ask o l → Each (λ x. is_visible z.iface.facts x.call.fun ≡ false) l
      hidden [] all = tt
      hidden (x ∷ l) all = (all.0.hidden, hidden l all.2)

  -- the run recovers with it, whichever held replies are committed first
  pub served_recovers : (later : ℕ) (u' : List Call) → ((x : Call) → Contains (unanswered (standing w b boots (Some v))) x → (x ≡ call) ⊎ Contains u' x)
      → ((es : List Entry) → AreDrawn (held_in (length (b ∷ boots)) w.seats) es → Each (λ x. IsLastCall (w.history ++ (record { call = call; reply = reply }) ∷ es) u' x.call) es)
      → (es : List Entry) → AreDrawn (held_in (length (b ∷ boots)) w.seats) es
      → IsRecovering (stubs_of z) ((w.history ++ (record { call = call; reply = reply }) ∷ []) ++ es) (record { boots = noted (b ∷ boots) item; points = later }) u'
  served_recovers later u' left lasts = served_ahead (stubs_of z) w.history ws b boots w.run.points later u u' item e own s.let_in.none_by hidden_held
      (λ es drawn. (none_of z set w b boots v stub k call s.let_in s.all item s.replied.asked es drawn, item_es es drawn, last_es es drawn, kept_es es drawn u' left, next_now es drawn u' left, lasts es drawn)) k.recovering

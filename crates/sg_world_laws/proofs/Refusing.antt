-- The world keeps what it keeps where the guard refuses a call, whether the service is up or down: the refusal is an entry without an item.
use Rattle.std.proofs.Common.{◌≢◌, List, None, Option, Some, [], ap, append_assoc, arith, false, inl, inr, length, length-append, refl, subst, sym, true, ℕ, ◌*◌, ◌++◌, ◌+◌, ◌<◌, ◌==◌, ◌||◌, ◌∙◌, ◌∷◌, ◌≡◌, ◌≤◌, ◌⊎◌, Bool, if◌then◌else◌, not, ◌&&◌}
use Rattle.std.specs.List.{Contains, list_any}
use Rattle.std.specs.Prelude.{nat_le}
use Rattle.sg_facts.specs.sg_base.Lists.{Each}
use Rattle.sg_facts.specs.sg_base.declared.call.Call.{Call}
use Rattle.sg_facts.specs.sg_base.declared.reply.Code.{Code}
use Rattle.sg_facts.specs.sg_base.declared.reply.Code.TheVariants.{BadState, Full, HasChildren, NoDesc, NoParent}
use Rattle.sg_facts.specs.sg_base.declared.reply.Reply.TheVariants.{Refused}
use Rattle.sg_facts.specs.Alike.{named}
use Rattle.sg_facts.specs.Counted.{most_counted}
use Rattle.sg_facts.specs.Facts.{is_visible, fun_at, takes_desc, takes_parent}
use Rattle.sg_facts.specs.Guard.{guard, is_guards}
use Rattle.sg_facts.specs.Inside.Guards.{in_state, may_be_parent, may_use}
use Rattle.sg_facts.specs.Interface.{Declared}
use Rattle.sg_facts.specs.Laws.{slow}
use Rattle.sg_facts.specs.Inside.Rows.{refused_or, object_from, has_child}
use Rattle.sg_facts.specs.Limits.{most_live}
use Rattle.sg_facts.specs.Object.{Object, empty_object, object_of}
use Rattle.sg_facts.specs.Trace.{Boot}
use Rattle.sg_facts.specs.Track.{is_live, row_at}
use Rattle.sg_facts.specs.declared.entry.Entry.{Entry}
use Rattle.sg_recovery_laws.specs.Midway.Numbers.{left_of, sum_told, unbegun}
use Rattle.sg_recovery_laws.specs.Midway.Progress.{IsInRecovery}
use Rattle.sg_recovery_laws.specs.sg_hist.Reading.{is_by_guard, is_item_of, is_made, last_items, names_at, older_items, places_in}
use Rattle.sg_recovery_laws.specs.sg_hist.Inside.Reads.{is_rebuilt_at}
use Rattle.sg_recovery_laws.specs.Objects.Waiting.{AreWaiting, NoneBy}
use Rattle.sg_recovery_laws.proofs.Given.{IsGiven, made_same, names_same}
use Rattle.sg_recovery_laws.proofs.Lists.{each_append, each_map}
use Rattle.sg_recovery_laws.proofs.Same.{any_same, rebuilt_again}
use Rattle.sg_recovery_laws.specs.sg_hist.Growing.{IsInLast, IsLastCall, IsSameId}
use Rattle.sg_clients.specs.WorldView.{WorldView, held_in, held_replies, unanswered}
use Rattle.sg_recovery_laws.proofs.LastItem.Reading.{unnamed}
use Rattle.sg_recovery_laws.specs.LastItem.Told.{IsRead, whole_after}
use Rattle.sg_recovery_laws.proofs.sg_track.KeptLists.{read}
use Rattle.sg_facts.proofs.Replaying.Above.{up}
use Rattle.sg_world_laws.proofs.Ahead.{drawn_each, refused_ahead}
use Rattle.sg_world_laws.proofs.Lasts.{held_drawn, held_lasts}
use Rattle.sg_world_laws.proofs.Entering.{kept_with, legal_push, object_refused, settled_refused}
use Rattle.sg_world_laws.proofs.Given.{before_same, given_any, given_now}
use Rattle.sg_world_laws.specs.Keeping.{AreDrawn, KeepsPromise, MayEnter, StandsIn, Stub, standing}
use Rattle.sg_world_laws.specs.Seats.{HaveSeats}
use Rattle.sg_recovery_laws.specs.sg_hist.Clients.{MayBeMade}
use Rattle.sg_world_laws.specs.Setting.{IsSetting, Setting, stubs_of}

-- a code of the guard is one of its own
pub by_the_guard : (i : Declared) (o : Object) (call : Call) (code : Code) → guard i o call ≡ Some code → is_guards code ≡ true
by_the_guard i o call code is =
    by (fun_at i.facts.funs call.fun).query
    (takes_parent (fun_at i.facts.funs call.fun) && not (may_be_parent i.facts.parents (row_at o.rows call.desc) call.desc call.client))
    ((fun_at i.facts.funs call.fun).creation && nat_le most_live (length o.rows))
    (takes_desc (fun_at i.facts.funs call.fun) && not (may_use i.facts (row_at o.rows call.desc) call.client))
    (takes_desc (fun_at i.facts.funs call.fun) && not (in_state i (row_at o.rows call.desc) call.fun))
    ((fun_at i.facts.funs call.fun).terminal && not i.facts.subtree && has_child o.rows call.desc) is
  where
    own : (c : Code) → is_guards c ≡ true → Some c ≡ Some code → is_guards code ≡ true
    own c guards same = let one : c ≡ code = cc same in subst (λ x. is_guards x ≡ true) one guards

    by : (q p f d s h : Bool) → (if q then None else if p then Some NoParent else if f then Some Full else if d then Some NoDesc else if s then Some BadState else if h then Some HasChildren else None) ≡ Some code → is_guards code ≡ true
    by true p f d s h none = absurd (cc none)
    by false true f d s h same = own NoParent refl same
    by false false true d s h same = own Full refl same
    by false false false true s h same = own NoDesc refl same
    by false false false false true h same = own BadState refl same
    by false false false false false true same = own HasChildren refl same
    by false false false false false false none = absurd (cc none)

module _ (z : Setting) (set : IsSetting z) (w : WorldView) (b : Boot) (boots : List Boot) (running : Option Object) (stub : Stub) (k : KeepsPromise z (standing w b boots running) stub)
    (call : Call) (code : Code) (refuses : guard z.iface (object_of z.iface.facts w.history) call ≡ Some code) (may : MayBeMade z.iface call) (none : NoneBy call.client (held_replies (standing w b boots running)))
    (last : (es : List Entry) → NoneBy call.client es → IsLastCall (w.history ++ es) (unanswered (standing w b boots running)) call)
    (w' : WorldView) (history : w'.history ≡ w.history ++ record { call = call; reply = Refused code } ∷ []) where
  abbrev e : Entry
  e = record { call = call; reply = Refused code }

  guards : is_by_guard (Refused code) ≡ true
  guards = by_the_guard z.iface (object_of z.iface.facts w.history) call code refuses

  same_o : object_of z.iface.facts (w.history ++ e ∷ []) ≡ object_of z.iface.facts w.history
  same_o = object_refused z set w.history e k.object guards

  -- what is read stays
  read_on : (es : List Entry) → Each (IsGiven z.iface.facts w.history) (last_items (b ∷ boots))
      → IsRead z.iface.facts z.walks (w.history ++ es) (older_items [] (b ∷ boots)) (last_items (b ∷ boots)) stub.names stub.told stub.present (object_of z.iface.facts w.history).rows
      → IsRead z.iface.facts z.walks (w.history ++ e ∷ es) (older_items [] (b ∷ boots)) (last_items (b ∷ boots)) stub.names stub.told stub.present (object_of z.iface.facts w.history).rows
  read_on es given read = record {
    names_are = λ id known. ap (λ l. named l id) (names_same z.iface.facts (w.history ++ es) (w.history ++ e ∷ es) (last_items (b ∷ boots)) ids) ∙ read.names_are id known;
    whole = λ id live. whole_same id ∙ read.whole id live;
    calls = read.calls;
    files = read.files;
  }
    where
      ids : Each (IsSameId z.iface.facts (w.history ++ es) (w.history ++ e ∷ es)) (last_items (b ∷ boots))
      ids = given_any z.iface.facts w.history es (e ∷ es) (last_items (b ∷ boots)) given

      whole_same : (id : ℕ) → whole_after z.iface.facts z.walks (w.history ++ e ∷ es) (older_items [] (b ∷ boots)) (last_items (b ∷ boots)) id
          ≡ whole_after z.iface.facts z.walks (w.history ++ es) (older_items [] (b ∷ boots)) (last_items (b ∷ boots)) id
      whole_same id =
          ap (λ q. q || list_any (is_rebuilt_at z.iface.facts z.walks (w.history ++ e ∷ es) id) (places_in (older_items [] (b ∷ boots)) [] (last_items (b ∷ boots)) []))
          (made_same z.iface.facts (w.history ++ es) (w.history ++ e ∷ es) id (last_items (b ∷ boots)) ids)
          ∙ ap (λ q. list_any (is_made z.iface.facts (w.history ++ es) id) (last_items (b ∷ boots)) || q)
          (any_same (is_rebuilt_at z.iface.facts z.walks (w.history ++ e ∷ es) id) (is_rebuilt_at z.iface.facts z.walks (w.history ++ es) id) (places_in (older_items [] (b ∷ boots)) [] (last_items (b ∷ boots)) [])
          (λ p. rebuilt_again z.iface.facts z.walks (w.history ++ es) (w.history ++ e ∷ es) id p p.rest p.newer (ap (object_of z.iface.facts) (before_same w.history es e p guards))))

  -- the later world, spelt out by the earlier one
  abbrev later : WorldView
  later = record w' { history = w.history ++ e ∷ []; run = record { boots = b ∷ boots; points = w.run.points }; running = running }

  stands_on : (r : Option Object) → held_replies (record later { running = r }) ≡ held_replies (standing w b boots r) → StandsIn z (standing w b boots r) stub r → StandsIn z (record later { running = r }) stub r
  stands_on None same stands = tt
  stands_on (Some v) same up = record {
    numbers = record {
      given = subst (λ o. v.given + sum_told unbegun stub.told o.rows ≤ o.given) (sym object_after_all) up.numbers.given;
      counted = let more = up.numbers.counted in let n : length (w.history ++ e ∷ []) ≡ length w.history + 1 = length-append w.history (e ∷ []) in
          subst (λ o. most_counted z.iface.facts v.rows + sum_told left_of stub.told o.rows ≤ slow + length (w.history ++ e ∷ []) + 128 + 8 * o.given) (sym object_after_all) (omega (arith, more, n));
    };
    named_live = λ id. elim (up.named_live id) [ inl unnamed ↦ inl unnamed | inr live ↦ inr (ap (λ o. is_live o.rows id) same_o ∙ live) ];
    in_recovery = subst (λ o. IsInRecovery z.iface z.walks stub.names stub.told stub.present o v) (sym object_after_all) up.in_recovery;
    read = λ es drawn. subst (λ l. IsRead z.iface.facts z.walks l (older_items [] (b ∷ boots)) (last_items (b ∷ boots)) stub.names stub.told stub.present (object_of z.iface.facts (w.history ++ e ∷ [])).rows) (sym (append_assoc w.history (e ∷ []) es))
        (subst (λ o. IsRead z.iface.facts z.walks (w.history ++ e ∷ es) (older_items [] (b ∷ boots)) (last_items (b ∷ boots)) stub.names stub.told stub.present o.rows) (sym same_o)
        (read_on es given (up.read es (subst (λ l. AreDrawn l es) same drawn))));
    unnamed = λ es drawn id above.
        ap (λ l. list_any (λ (n : ℕ × ℕ). n.0 == id) (names_at z.iface.facts l (last_items (b ∷ boots)))) (append_assoc w.history (e ∷ []) es)
        ∙ ap (λ l. list_any (λ (n : ℕ × ℕ). n.0 == id) l) (names_same z.iface.facts (w.history ++ es) (w.history ++ e ∷ es) (last_items (b ∷ boots)) (given_any z.iface.facts w.history es (e ∷ es) (last_items (b ∷ boots)) given))
        ∙ up.unnamed es (subst (λ l. AreDrawn l es) same drawn) id (subst (λ o. o.given < id) same_o above);
    rebuilt = λ eager some id live. up.rebuilt eager (λ none. some (same ∙ none)) id (ap (λ o. is_live o.rows id) (sym same_o) ∙ live);
  }
    where
      given : Each (IsGiven z.iface.facts w.history) (last_items (b ∷ boots))
      given = given_now z w b boots running stub k

      object_after_all : object_from z.iface.facts (object_of z.iface.facts (w.history ++ e ∷ [])) (held_in (length (b ∷ boots)) w'.seats)
          ≡ object_from z.iface.facts (object_of z.iface.facts w.history) (held_in (length (b ∷ boots)) w.seats)
      object_after_all = ap (λ o. object_from z.iface.facts o (held_in (length (b ∷ boots)) w'.seats)) same_o ∙ ap (object_from z.iface.facts (object_of z.iface.facts w.history)) same

  hidden : (ws : List Entry) → AreWaiting z.iface.facts z.ask (object_of z.iface.facts w.history) ws → Each (λ x. is_visible z.iface.facts x.call.fun ≡ false) ws
  hidden [] all = tt
  hidden (x ∷ ws) all = (all.0.hidden, hidden ws all.2)

  pub refused : w'.run ≡ record { boots = b ∷ boots; points = w.run.points } → w'.running ≡ running → held_replies w' ≡ held_replies (standing w b boots running)
      → HaveSeats z (w.history ++ record { call = call; reply = Refused code } ∷ []) w'.withdrawn (length (b ∷ boots)) w'.seats
      → ((x : Call) → Contains (unanswered (standing w b boots running)) x → (x ≡ call) ⊎ Contains (unanswered w') x) → KeepsPromise z w' stub
  refused run up held seats kept = subst (λ x. KeepsPromise z x stub) (sym spelt) (record {
    legal = legal_push z.iface z.ask empty_object w.history e k.legal (ap (λ g. refused_or g (z.ask (object_of z.iface.facts w.history) call)) refuses);
    calls = each_append (λ x. MayBeMade z.iface x.call) w.history (e ∷ []) k.calls (may, tt);
    object = settled_refused z set w.history e k.object guards;
    seats = seats;
    waiting = subst (λ o. AreWaiting z.iface.facts z.ask o (held_replies later)) (sym same_o) (subst (AreWaiting z.iface.facts z.ask (object_of z.iface.facts w.history)) (sym held_later) k.waiting);
    enter = subst (Each (MayEnter z (w.history ++ e ∷ []))) (sym held_later)
        (each_map (MayEnter z w.history) (MayEnter z (w.history ++ e ∷ [])) (held_replies (standing w b boots running)) (λ x enters. record { may = enters.may; guarded = subst (λ o. guard z.iface o x.call ≡ None) (sym same_o) enters.guarded }) k.enter);
    items = each_append (λ x. is_by_guard x.reply || list_any (is_item_of x) (older_items [] (b ∷ boots) ++ last_items (b ∷ boots)) ≡ true) w.history (e ∷ []) k.items
        (ap (λ q. q || list_any (is_item_of e) (older_items [] (b ∷ boots) ++ last_items (b ∷ boots))) guards, tt);
    held_items = subst (Each (IsInLast (standing w b boots running).run)) (sym held_later) k.held_items;
    recovering = λ es drawn. refused_ahead (stubs_of z) w.history (held_replies (standing w b boots running)) e (standing w b boots running).run (unanswered (standing w b boots running)) (unanswered later) guards none
        (hidden (held_replies (standing w b boots running)) k.waiting) (λ es' d. (last es' (drawn_each (λ x. x.call.client ≢ call.client) (held_replies (standing w b boots running)) es' none d), lasts es' d, kept_with (w.history ++ es') e (unanswered (standing w b boots running)) (unanswered later) kept))
        k.recovering es (subst (λ l. AreDrawn l es) held_later drawn);
    cell = k.cell;
    stands = stands_on running held_later k.stands;
  })
    where
      spelt : w' ≡ later
      spelt =
          subst (λ h. w' ≡ record w' { history = h; run = record { boots = b ∷ boots; points = w.run.points }; running = running }) history
          (subst (λ r. w' ≡ record w' { run = r; running = running }) run (subst (λ s. w' ≡ record w' { running = s }) up refl))

      held_later : held_replies later ≡ held_replies (standing w b boots running)
      held_later = ap held_replies (sym spelt) ∙ held

      lasts : (es : List Entry) → AreDrawn (held_replies (standing w b boots running)) es → Each (λ x. IsLastCall (w.history ++ e ∷ es) (unanswered later) x.call) es
      lasts es drawn =
          subst (λ l. Each (λ x. IsLastCall l (unanswered later) x.call) es) (append_assoc w.history (e ∷ []) es)
          (held_lasts z later (length (b ∷ boots)) seats es (held_drawn later running es (subst (λ l. AreDrawn l es) (sym held_later) drawn)))

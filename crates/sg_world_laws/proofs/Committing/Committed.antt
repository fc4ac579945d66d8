-- The world keeps what it keeps when a call of a client is served and committed with its item.
use Rattle.std.proofs.Common.{◌≡◌, ℕ, ◌+◌, ◌<◌, true, false, List, [], ◌∷◌, ◌++◌, None, Some, length, length-append, refl, sym, ◌∙◌, ap, subst, inl, inr, append_assoc, append-nil, arith}
use Rattle.std.specs.Prelude.{◌==◌, ◌||◌}
use Rattle.std.specs.List.{list_any}
use Rattle.std.specs.declared.option.Option.{Option}
use Rattle.sg_facts.specs.sg_base.Lists.{Each}
use Rattle.sg_facts.specs.sg_base.declared.call.Call.{Call}
use Rattle.sg_facts.specs.sg_base.declared.reply.Reply.{Reply}
use Rattle.sg_world_laws.specs.Committing.Serving.{IsCommittedIn, IsServedCall}
use Rattle.sg_world_laws.specs.Committing.Telling.{TellsAfter}
use Rattle.sg_world_laws.proofs.Alike.{read_alike}
use Rattle.sg_world_laws.proofs.Lasts.{held_lasts}
use Rattle.sg_world_laws.proofs.Committing.Later.{answered_it, live_all, moved, names_by, sound_all, told_by, wait_after}
use Rattle.sg_world_laws.proofs.Committing.Noted.{cell_noted, held_noted, items_noted, last_noted, length_noted, own_noted, spelt_is}
use Rattle.sg_world_laws.proofs.Committing.Numbers.{numbers_served}
use Rattle.sg_world_laws.proofs.Committing.Recovering.{next_now, served_recovers}
use Rattle.sg_world_laws.proofs.Committing.Telling.{named_is_live, named_live_on, named_or_gone, told_live_on, told_whole}
use Rattle.sg_world_laws.proofs.Committing.Traced.{read_with, unnamed_with}
use Rattle.sg_facts.specs.declared.entry.Entry.{Entry}
use Rattle.sg_facts.specs.declared.outcome.Patch.{Patch}
use Rattle.sg_facts.specs.declared.trace.Item.{Item}
use Rattle.sg_facts.specs.Alike.{named, under_names}
use Rattle.sg_facts.specs.Facts.{Facts}
use Rattle.sg_facts.specs.Guard.{guard}
use Rattle.sg_facts.specs.Inside.Rows.{refused_or, object_from}
use Rattle.sg_facts.specs.Object.{Object, after, empty_object, object_of, patch_of}
use Rattle.sg_facts.specs.Trace.{Boot}
use Rattle.sg_facts.specs.Track.{is_live}
use Rattle.sg_recovery_laws.specs.Midway.Numbers.{AreNumbers}
use Rattle.sg_recovery_laws.specs.Midway.Progress.{IsInRecovery}
use Rattle.sg_recovery_laws.specs.Midway.Stepping.{present_with}
use Rattle.sg_recovery_laws.proofs.Midway.Dropped.{under_dropped}
use Rattle.sg_recovery_laws.proofs.Midway.Glue.{under_named}
use Rattle.sg_recovery_laws.specs.sg_hist.Reading.{is_by_guard, is_item_of, last_items, names_at, older_items}
use Rattle.sg_recovery_laws.specs.Objects.Waiting.{AreWaiting, NoneBy}
use Rattle.sg_recovery_laws.proofs.Objects.Guarded.{acts}
use Rattle.sg_recovery_laws.proofs.Objects.Waiting.{hidden_is}
use Rattle.sg_recovery_laws.specs.sg_hist.Growing.{IsInLast, IsLastCall, IsNextItem, noted, place_after}
use Rattle.sg_recovery_laws.proofs.InBoots.{older_noted}
use Rattle.sg_recovery_laws.proofs.Lists.{each_append, each_map}
use Rattle.sg_clients.specs.WorldView.{WorldView, held_in, unanswered}
use Rattle.sg_recovery_laws.specs.LastItem.Told.{IsRead}
use Rattle.sg_world_laws.specs.Keeping.{AreDrawn, KeepsPromise, MayEnter, Stands, Stub, standing}
use Rattle.sg_world_laws.specs.Seats.{HaveSeats}
use Rattle.sg_recovery_laws.specs.sg_hist.Clients.{MayBeMade}
use Rattle.sg_world_laws.specs.Setting.{IsSetting, Setting, stubs_of}
use Rattle.sg_world_laws.proofs.Drawn.{object_after}
use Rattle.sg_world_laws.proofs.Entering.{legal_push, settled_after}
use Rattle.sg_world_laws.proofs.Items.{has_item}
use Rattle.sg_world_laws.proofs.Orders.{good_now, lets_after}
use Rattle.sg_world_laws.proofs.Struck.{no_drawn}

module _ (z : Setting) (set : IsSetting z) (w : WorldView) (b : Boot) (boots : List Boot) (v : Object) (stub : Stub) (k : KeepsPromise z (standing w b boots (Some v)) stub)
    (call : Call) (item : Item) (reply other : Reply) (patch : Option Patch) (s : IsServedCall z (standing w b boots (Some v)) stub v call item reply other patch)
    (w' : WorldView) (c : IsCommittedIn z (standing w b boots (Some v)) stub v call item reply other w') where
  abbrev facts : Facts
  facts = z.iface.facts

  abbrev o : Object
  o = object_of z.iface.facts w.history

  abbrev ws : List Entry
  ws = held_in (length (b ∷ boots)) w.seats

  abbrev e : Entry
  e = record { call = call; reply = reply }

  -- the object of the history after it, and the service
  abbrev o1 : Object
  o1 = after z.iface.facts (object_of z.iface.facts w.history) call reply

  abbrev v1 : Object
  v1 = after z.iface.facts v (under_names stub.names call) other

  -- the later world, spelt out by the earlier one
  abbrev later : WorldView
  later = record w' { history = w.history ++ e ∷ []; run = record { boots = noted (b ∷ boots) item; points = w'.run.points }; running = Some v1 }

  same_world : w' ≡ later
  same_world = spelt_is w' (w.history ++ e ∷ []) (noted (b ∷ boots) item) (Some v1) c.history c.boots c.running

  object_now : object_of z.iface.facts (w.history ++ e ∷ []) ≡ o1
  object_now = object_after facts empty_object w.history (e ∷ [])

  same_held : held_in (length (noted (b ∷ boots) item)) w'.seats ≡ ws
  same_held = ap (λ n. held_in n w'.seats) (length_noted b boots item) ∙ c.held

  seats_now : HaveSeats z (w.history ++ e ∷ []) w'.withdrawn (length (noted (b ∷ boots) item)) w'.seats
  seats_now = subst (λ n. HaveSeats z (w.history ++ e ∷ []) w'.withdrawn n w'.seats) (sym (length_noted b boots item)) (subst (λ l. HaveSeats z l w'.withdrawn (length (b ∷ boots)) w'.seats) c.history c.seats)

  -- ---- the held replies could still be committed

  lets : Each (λ x. guard z.iface o1 x.call ≡ None) ws
  lets = by ws k.waiting s.let_in.none_by (each_map (MayEnter z w.history) (λ x. guard z.iface o x.call ≡ None) ws (λ x enters. enters.guarded) k.enter)
    where
      by : (l : List Entry) → AreWaiting facts z.ask o l → NoneBy call.client l → Each (λ x. guard z.iface o x.call ≡ None) l → Each (λ x. guard z.iface o1 x.call ≡ None) l
      by [] waiting none was = tt
      by (p ∷ l) waiting none was =
          lets_after z set o call reply (hidden_is facts p.call.fun waiting.0.hidden).alone (good_now z set w b boots (Some v) stub k) (answered_it z set w b boots v stub k call item reply other patch s) (p ∷ l) none waiting was

  enter_now : Each (MayEnter z (w.history ++ e ∷ [])) ws
  enter_now = both ws k.enter lets
    where
      both : (l : List Entry) → Each (MayEnter z w.history) l → Each (λ x. guard z.iface o1 x.call ≡ None) l → Each (MayEnter z (w.history ++ e ∷ [])) l
      both [] was now = tt
      both (x ∷ l) was now = (record { may = was.0.may; guarded = ap (λ y. guard z.iface y x.call) object_now ∙ now.0 }, both l was.1 now.1)

  -- ---- the service stands for the object after it

  module _ (stub' : Stub) (tells : TellsAfter z.iface.facts (object_of z.iface.facts w.history) call reply other stub stub') where
    under_now : IsInRecovery z.iface z.walks stub'.names stub'.told stub'.present (object_from facts o1 ws) v1
    under_now =
        let all = moved z set w b boots v stub k call item reply other patch s in
        let live = live_all z set w b boots v stub k call item reply other patch s in
        under_named z.iface z.walks stub'.names stub'.names (λ id. refl) (object_from facts o1 ws) v1 stub'.told stub'.told (present_with (patch_of facts o call reply) stub.present) stub'.present (λ id. refl) tells.present
        (under_dropped z.iface z.walks (names_by facts stub.names call reply other) stub'.names (object_from facts o1 ws) v1 (sound_all z set w b boots v stub k call item reply other patch s) all.in_recovery.holds.names_are.none
        (λ x is. named_live_on facts o call reply other stub stub' tells s.replied.same x (live x is)) (named_or_gone facts o call reply other stub stub' tells s.replied.same) (told_by facts call reply stub.told) stub'.told
        (present_with (patch_of facts o call reply) stub.present) (λ x is. told_live_on facts o call reply other stub stub' tells s.replied.same x (live x is)) all.in_recovery)

    no_name : named stub'.names 0 ≡ named (names_by facts stub.names call reply other) 0
    no_name =
        let none = (moved z set w b boots v stub k call item reply other patch s).in_recovery.holds.names_are.none in
        elim (named_or_gone facts o call reply other stub stub' tells s.replied.same 0) [ inl is ↦ is | inr is ↦ is ∙ sym none ]

    read_now : (es : List Entry) → AreDrawn ws es → IsRead facts z.walks ((w.history ++ e ∷ []) ++ es) (older_items [] (noted (b ∷ boots) item)) (last_items (noted (b ∷ boots) item)) stub'.names stub'.told stub'.present
        (object_of z.iface.facts (w.history ++ e ∷ [])).rows
    read_now es drawn =
        subst (λ l. IsRead facts z.walks l (older_items [] (noted (b ∷ boots) item)) (last_items (noted (b ∷ boots) item)) stub'.names stub'.told stub'.present (object_of z.iface.facts (w.history ++ e ∷ [])).rows)
        (sym (append_assoc w.history (e ∷ []) es))
        (subst (λ l. IsRead facts z.walks (w.history ++ e ∷ es) l (last_items (noted (b ∷ boots) item)) stub'.names stub'.told stub'.present (object_of z.iface.facts (w.history ++ e ∷ [])).rows) (sym (older_noted [] b boots item))
        (subst (λ l. IsRead facts z.walks (w.history ++ e ∷ es) (older_items [] (b ∷ boots)) l stub'.names stub'.told stub'.present (object_of z.iface.facts (w.history ++ e ∷ [])).rows) (sym (last_noted b boots item))
        (subst (λ x. IsRead facts z.walks (w.history ++ e ∷ es) (older_items [] (b ∷ boots)) (last_items (b ∷ boots) ++ item ∷ []) stub'.names stub'.told stub'.present x.rows) (sym object_now)
        (read_alike facts z.walks (w.history ++ e ∷ es) (older_items [] (b ∷ boots)) (last_items (b ∷ boots) ++ item ∷ []) (names_by facts stub.names call reply other) stub'.names (told_by facts call reply stub.told) stub'.told
        (present_with (patch_of facts o call reply) stub.present) stub'.present o1.rows o1.rows (λ id live. live) no_name (named_live_on facts o call reply other stub stub' tells s.replied.same)
        (told_live_on facts o call reply other stub stub' tells s.replied.same) tells.present (read_with z set w b boots v stub k call item reply other patch s es drawn)))))

    unnamed_now : (es : List Entry) → AreDrawn ws es → (id : ℕ) → (object_of z.iface.facts (w.history ++ e ∷ [])).given < id
        → list_any (λ (n : ℕ × ℕ). n.0 == id) (names_at facts ((w.history ++ e ∷ []) ++ es) (last_items (noted (b ∷ boots) item))) ≡ false
    unnamed_now es drawn id above =
        ap (λ l. list_any (λ (n : ℕ × ℕ). n.0 == id) (names_at facts l (last_items (noted (b ∷ boots) item)))) (append_assoc w.history (e ∷ []) es)
        ∙ ap (λ f. list_any (λ (n : ℕ × ℕ). n.0 == id) (names_at facts (w.history ++ e ∷ es) f)) (last_noted b boots item)
        ∙ unnamed_with z set w b boots v stub k call item reply other patch s es drawn id (subst (λ x. x.given < id) object_now above)

    numbers_now : AreNumbers facts stub'.told (length (w.history ++ e ∷ [])) (object_from facts o1 ws) v1
    numbers_now =
        numbers_served z set w b boots v stub k call item reply other patch s stub'.told (length (w.history ++ e ∷ [])) (let n : length (w.history ++ e ∷ []) ≡ length w.history + 1 = length-append w.history (e ∷ []) in omega (arith, n))
        (λ id live. told_live_on facts o call reply other stub stub' tells s.replied.same id (live_all z set w b boots v stub k call item reply other patch s id live))

    -- the object after the held replies, at the later world
    after_now : object_from facts (object_of z.iface.facts (w.history ++ e ∷ [])) (held_in (length (noted (b ∷ boots) item)) w'.seats) ≡ object_from facts o1 ws
    after_now = ap (object_from facts (object_of z.iface.facts (w.history ++ e ∷ []))) same_held ∙ ap (λ x. object_from facts x ws) object_now

    stands_now : Stands z later stub' v1
    stands_now = record {
      numbers = subst (λ x. AreNumbers facts stub'.told (length (w.history ++ e ∷ [])) x v1) (sym after_now) numbers_now;
      named_live = λ id. elim (named_is_live facts o call reply other stub stub' tells s.replied.same (acts facts call.fun set.law.shape.shape s.let_in.passes.is_call.first s.let_in.passes.is_call.last) k.stands.named_live id) [
        | inl none ↦ inl none
        | inr live ↦ inr (ap (λ y. is_live y.rows id) object_now ∙ live)
      ];
      in_recovery = subst (λ x. IsInRecovery z.iface z.walks stub'.names stub'.told stub'.present x v1) (sym after_now) under_now;
      read = λ es drawn. read_now es (subst (λ l. AreDrawn l es) same_held drawn);
      unnamed = λ es drawn. unnamed_now es (subst (λ l. AreDrawn l es) same_held drawn);
      rebuilt = λ eager some id live. told_whole facts o call reply other stub stub' tells s.replied.same (acts facts call.fun set.law.shape.shape s.let_in.passes.is_call.first s.let_in.passes.is_call.last)
          (k.stands.rebuilt eager (λ none. some (same_held ∙ none))) id (ap (λ y. is_live y.rows id) (sym object_now) ∙ live);
    }

    -- no call that the client of a held reply made has a greater number
    lasts_now : (es : List Entry) → AreDrawn ws es → Each (λ x. IsLastCall (w.history ++ e ∷ es) (unanswered w') x.call) es
    lasts_now es drawn =
        subst (λ l. Each (λ x. IsLastCall l (unanswered w') x.call) es) (append_assoc w.history (e ∷ []) es)
        (held_lasts z (record w' { history = w.history ++ e ∷ [] }) (length (b ∷ boots)) (subst (λ h. HaveSeats z h w'.withdrawn (length (b ∷ boots)) w'.seats) c.history c.seats) es (subst (λ l. AreDrawn l es) (sym c.held) drawn))

    -- the world keeps what it keeps
    pub committed_keeps : KeepsPromise z w' stub'
    committed_keeps = subst (λ x. KeepsPromise z x stub') (sym same_world) (record {
      legal = legal_push z.iface z.ask empty_object w.history e k.legal (ap (λ g. refused_or g (z.ask o call)) s.let_in.guarded ∙ s.replied.answered);
      calls = each_append (λ x. MayBeMade z.iface x.call) w.history (e ∷ []) k.calls (s.let_in.may, tt);
      object = settled_after z set w.history e k.object (answered_it z set w b boots v stub k call item reply other patch s);
      seats = seats_now;
      waiting = subst (λ x. AreWaiting facts z.ask x (held_in (length (noted (b ∷ boots) item)) w'.seats)) (sym object_now) (subst (AreWaiting facts z.ask o1) (sym same_held) (wait_after z set w b boots v stub k call item reply other patch s));
      enter = subst (Each (MayEnter z (w.history ++ e ∷ []))) (sym same_held) enter_now;
      items = each_append (λ x. is_by_guard x.reply || list_any (is_item_of x) (older_items [] (noted (b ∷ boots) item) ++ last_items (noted (b ∷ boots) item)) ≡ true) w.history (e ∷ [])
          (items_noted z set w b boots v stub k call item reply other patch s)
          (has_item (record { boots = noted (b ∷ boots) item; points = w'.run.points }) e (own_noted z set w b boots v stub k call item reply other patch s w'.run.points), tt);
      held_items = subst (Each (IsInLast (record { boots = noted (b ∷ boots) item; points = w'.run.points }))) (sym same_held) (held_noted z set w b boots v stub k call item reply other patch s w'.run.points);
      recovering = λ es drawn. served_recovers z set w b boots v stub k call item reply other patch s w'.run.points (unanswered w') c.left lasts_now es (subst (λ l. AreDrawn l es) same_held drawn);
      cell = cell_noted z set w b boots v stub k call item reply other patch s;
      stands = stands_now;
    })

  -- its item pays what it owes, with its entry
  pub committed_next : IsNextItem (stubs_of z) (w.history ++ (record { call = call; reply = reply }) ∷ []) (unanswered w') (place_after [] (b ∷ boots) item)
  committed_next = subst (λ l. IsNextItem (stubs_of z) (l ++ e ∷ []) (unanswered w') (place_after [] (b ∷ boots) item)) (append-nil w.history)
      (next_now z set w b boots v stub k call item reply other patch s [] (no_drawn ws) (unanswered w') c.left)

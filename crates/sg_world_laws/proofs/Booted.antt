-- The world keeps what it keeps where the service is booted afresh: it is empty, nothing is told of any row, and who waited is asked.

-- an empty service stands at the beginning of a recovery
use Rattle.std.proofs.Common.{Bool, List, None, Some, [], ap, append-nil, arith, false, inl, length, length-append, map, refl, subst, sym, true, ℕ, ◌++◌, ◌+◌, ◌==◌, ◌∙◌, ◌∷◌, ◌≡◌}
use Rattle.std.specs.List.{list_any}
use Rattle.sg_facts.specs.sg_base.Lists.{Each}
use Rattle.sg_boot.proofs.Keeping.{kept_booted}
use Rattle.sg_boot.proofs.LastBoot.{items_booted}
use Rattle.sg_facts.specs.Interface.{Declared}
use Rattle.sg_facts.specs.Object.{Object, empty_object, object_of}
use Rattle.sg_facts.specs.Inside.Rows.{object_from}
use Rattle.sg_facts.specs.Sound.{IsSound}
use Rattle.sg_facts.specs.Trace.{Boot}
use Rattle.sg_facts.specs.declared.entry.Entry.{Entry}
use Rattle.sg_facts.specs.declared.tables.WalkLine.{WalkLine}
use Rattle.sg_facts.specs.declared.trace.Item.{Item}
use Rattle.sg_recovery_laws.proofs.Midway.Numbers.{few_rows, sum_fresh}
use Rattle.sg_recovery_laws.specs.Midway.Numbers.{AreNumbers, left_of, unbegun}
use Rattle.sg_recovery_laws.specs.Midway.Progress.{HasFile, IsInRecovery, fresh}
use Rattle.sg_recovery_laws.specs.sg_hist.Reading.{last_items, names_at, older_items}
use Rattle.sg_recovery_laws.proofs.Objects.Steady.{ascends}
use Rattle.sg_recovery_laws.specs.Objects.Waiting.{AreWaiting}
use Rattle.sg_recovery_laws.proofs.Onward.{booted_stays}
use Rattle.sg_recovery_laws.specs.sg_hist.Growing.{IsInLast, IsRecovering, booted}
use Rattle.sg_clients.specs.WorldView.{Seat, WorldView, held_in, unanswered, woken_seat}
use Rattle.sg_recovery_laws.specs.LastItem.LastPlace.{HaveItems}
use Rattle.sg_recovery_laws.specs.LastItem.Told.{IsRead}
use Rattle.sg_world_laws.proofs.Struck.{no_drawn, none_drawn}
use Rattle.sg_world_laws.proofs.Woken.{held_woken, none_held, offered_woken, seats_woken}
use Rattle.sg_world_laws.specs.Keeping.{AreDrawn, KeepsPromise, MayEnter, Stub, standing}
use Rattle.sg_world_laws.specs.Setting.{IsSetting, Setting, stubs_of}

pub begins : (i : Declared) (walks : List WalkLine) (o : Object) (present : List ℕ → Bool) → ((path : List ℕ) → present path ≡ false) → IsSound i.facts empty_object → IsInRecovery i walks [] (λ id. fresh) present o empty_object
begins i walks o present absent empty = record {
  holds = record { names_are = record { none = refl; apart = λ a b same. inl refl }; held_sound = empty; given = λ id. omega arith; each = tt };
  rows = λ r there. refl;
  files = λ path. subst (λ b. HasFile b path o empty_object) (sym (absent path)) refl;
}

older_booted : (before : List Item) (b : Boot) (boots : List Boot) → older_items before (booted (b ∷ boots)) ≡ older_items before (b ∷ boots) ++ last_items (b ∷ boots)
older_booted before b [] = refl
older_booted before b (c ∷ boots) = older_booted (before ++ b.items) c boots

module _ (z : Setting) (set : IsSetting z) (w : WorldView) (b : Boot) (boots : List Boot) (stub : Stub) (k : KeepsPromise z (standing w b boots None) stub) where
  abbrev seats_now : List Seat
  seats_now = map (woken_seat (λ call. true)) w.seats

  abbrev later : WorldView
  later = record w { run = record { boots = booted (b ∷ boots); points = w.run.points }; running = Some empty_object; seats = map (woken_seat (λ call. true)) w.seats }

  longer : length (booted (b ∷ boots)) ≡ length (b ∷ boots) + 1
  longer = length-append (b ∷ boots) (record { items = []; stop = None } ∷ [])

  none_now : held_in (length (booted (b ∷ boots))) (map (woken_seat (λ call. true)) w.seats) ≡ []
  none_now = held_woken (length (booted (b ∷ boots))) (λ call. true) w.seats ∙ ap (λ n. held_in n w.seats) longer ∙ none_held (length (b ∷ boots)) w.seats k.seats.boots_few

  empty_drawn : (es : List Entry) → AreDrawn (held_in (length (booted (b ∷ boots))) (map (woken_seat (λ call. true)) w.seats)) es → es ≡ []
  empty_drawn es drawn = none_drawn es (subst (λ l. AreDrawn l es) none_now drawn)

  same_calls : unanswered later ≡ unanswered (standing w b boots None)
  same_calls = ap (λ l. l ++ map (λ x. x.call) w.withdrawn) (offered_woken (λ call. true) w.seats)

  items_same : older_items [] (booted (b ∷ boots)) ++ last_items (booted (b ∷ boots)) ≡ older_items [] (b ∷ boots) ++ last_items (b ∷ boots)
  items_same = ap (λ l. older_items [] (booted (b ∷ boots)) ++ l) (items_booted (b ∷ boots)) ∙ append-nil (older_items [] (booted (b ∷ boots))) ∙ older_booted [] b boots

  recover_now : (es : List Entry) → es ≡ [] → IsRecovering (stubs_of z) (w.history ++ es) (record { boots = booted (b ∷ boots); points = w.run.points }) (unanswered later)
  recover_now es is =
      subst (λ l. IsRecovering (stubs_of z) (w.history ++ l) (record { boots = booted (b ∷ boots); points = w.run.points }) (unanswered later)) (sym is)
      (subst (λ u. IsRecovering (stubs_of z) (w.history ++ []) (record { boots = booted (b ∷ boots); points = w.run.points }) u) (sym same_calls)
      (booted_stays (stubs_of z) (w.history ++ []) b boots w.run.points w.run.points (unanswered (standing w b boots None)) k.cell.runs (k.recovering [] (no_drawn []))))

  read_fresh : (es : List Entry) (older front : List Item) → front ≡ [] → IsRead z.iface.facts z.walks (w.history ++ es) older front [] (λ id. fresh) (λ path. false) (object_of z.iface.facts w.history).rows
  read_fresh es older front is =
      subst (λ f. IsRead z.iface.facts z.walks (w.history ++ es) older f [] (λ id. fresh) (λ path. false) (object_of z.iface.facts w.history).rows) (sym is)
      (record { names_are = λ id known. refl; whole = λ id live. refl; calls = λ id live. refl; files = λ path. refl })

  -- as many rows as ids at most, each of which may take eight calls
  numbers_now : (ws : List Entry) → ws ≡ [] → AreNumbers z.iface.facts (λ id. fresh) (length w.history) (object_from z.iface.facts (object_of z.iface.facts w.history) ws) empty_object
  numbers_now ws is =
      let o : Object = object_of z.iface.facts w.history in
      let rows = few_rows 0 o.given o.rows (ascends z.iface.facts o (set.law.keeps.general o k.object.good.is_sound)) (omega arith) in
      let one = sum_fresh unbegun o.rows in
      let eight = sum_fresh left_of o.rows in
      subst (λ l. AreNumbers z.iface.facts (λ id. fresh) (length w.history) (object_from z.iface.facts o l) empty_object) (sym is)
      (record { given = omega (arith, rows, one); counted = omega (arith, rows, eight) })

  pub booted_again : KeepsPromise z (record w { run = record { boots = booted (b ∷ boots); points = w.run.points }; running = Some empty_object; seats = map (woken_seat (λ call. true)) w.seats })
      (record { names = []; told = λ id. fresh; present = λ path. false })
  booted_again = record {
    legal = k.legal;
    calls = k.calls;
    object = k.object;
    seats = seats_woken z w.history w.withdrawn (length (b ∷ boots)) (length (booted (b ∷ boots))) w.seats (λ call. true) (omega (arith, longer)) k.seats;
    waiting = subst (AreWaiting z.iface.facts z.ask (object_of z.iface.facts w.history)) (sym none_now) tt;
    enter = subst (Each (MayEnter z w.history)) (sym none_now) tt;
    items = subst (λ l. HaveItems l w.history) (sym items_same) k.items;
    held_items = subst (Each (IsInLast later.run)) (sym none_now) tt;
    recovering = λ es drawn. recover_now es (empty_drawn es drawn);
    cell = kept_booted z.iface.facts (b ∷ boots);
    stands = record {
      numbers = numbers_now (held_in (length (booted (b ∷ boots))) (map (woken_seat (λ call. true)) w.seats)) none_now;
      named_live = λ id. inl refl;
      in_recovery = begins z.iface z.walks (object_from z.iface.facts (object_of z.iface.facts w.history) (held_in (length (booted (b ∷ boots))) (map (woken_seat (λ call. true)) w.seats))) (λ path. false) (λ path. refl) (set.law.keeps.general empty_object set.law.keeps.empty);
      read = λ es drawn. read_fresh es (older_items [] (booted (b ∷ boots))) (last_items (booted (b ∷ boots))) (items_booted (b ∷ boots));
      unnamed = λ es drawn id above. ap (λ f. list_any (λ (n : ℕ × ℕ). n.0 == id) (names_at z.iface.facts (w.history ++ es) f)) (items_booted (b ∷ boots));
      rebuilt = λ eager some. absurd (some none_now);
    };
  }

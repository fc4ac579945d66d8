-- Along a history the boots of the entries' items never go back, whatever comes next.
use Rattle.std.proofs.Common.{◌≡◌, ℕ, ◌+◌, ◌≤◌, Bool, true, false, cond, not, ◌&&◌, List, [], ◌∷◌, ◌++◌, Option, None, Some, length, length-append, refl, sym, ◌∙◌, ap, subst, arith}
use Rattle.std.specs.List.{list_any}
use Rattle.std.specs.Prelude.{find, reverse}
use Rattle.sg_facts.specs.sg_base.Lists.{Each}
use Rattle.sg_facts.specs.sg_base.Stops.{asked_after}
use Rattle.sg_facts.specs.declared.entry.Entry.{Entry}
use Rattle.sg_facts.specs.declared.trace.Item.{Item}
use Rattle.sg_facts.specs.Facts.{Facts}
use Rattle.sg_facts.specs.Trace.{Boot, Run}
use Rattle.sg_hist.specs.Reading.{Position, is_by_guard, is_item_of, item_of, items_of, last_items, older_items, places_from, places_in, places_of}
use Rattle.sg_hist.specs.Recovered.{AreInBoots, is_stopped_after, start_after, start_of}
use Rattle.sg_hist.specs.Inside.Parts.{IsCommitted, boot_start}
use Rattle.sg_hist.specs.Growing.{IsInLast, IsOfNoEntry, asked_over, booted, last_stop, noted, place_after, struck}
use Rattle.sg_recovery_laws.proofs.Events.{own_item}
use Rattle.sg_hist.proofs.Growing.{places-booted, places-more, places-struck}
use Rattle.sg_recovery_laws.proofs.Lists.{each_append}
use Rattle.sg_recovery_laws.proofs.Served.{Has, IsGrownTo, each_reverse, found_has, item_of-more, item_of-own}
use Rattle.sg_recovery_laws.proofs.StoppedAfter.{StandsEarlier, after_booted, after_noted, after_struck, none_between, none_other, stands_earlier}

-- ---- the last boot

pub older_noted : (before : List Item) (b : Boot) (boots : List Boot) (item : Item) → older_items before (noted (b ∷ boots) item) ≡ older_items before (b ∷ boots)
older_noted before b [] item = refl
older_noted before b (c ∷ []) item = refl
older_noted before b (c ∷ d ∷ boots) item = older_noted (before ++ b.items) c (d ∷ boots) item

older_struck : (before : List Item) (boots : List Boot) (stop : ℕ) → older_items before (struck boots stop) ≡ older_items before boots
older_struck before [] stop = refl
older_struck before (b ∷ []) stop = refl
older_struck before (b ∷ c ∷ []) stop = refl
older_struck before (b ∷ c ∷ d ∷ boots) stop = older_struck (before ++ b.items) (c ∷ d ∷ boots) stop

last_noted : (b : Boot) (boots : List Boot) (item : Item) → last_items (noted (b ∷ boots) item) ≡ last_items (b ∷ boots) ++ item ∷ []
last_noted b [] item = refl
last_noted b (c ∷ []) item = refl
last_noted b (c ∷ d ∷ boots) item = last_noted c (d ∷ boots) item

stop_noted : (b : Boot) (boots : List Boot) (item : Item) → last_stop (noted (b ∷ boots) item) ≡ last_stop (b ∷ boots)
stop_noted b [] item = refl
stop_noted b (c ∷ []) item = refl
stop_noted b (c ∷ d ∷ boots) item = stop_noted c (d ∷ boots) item

-- where an item is noted it stands in the last boot
pub place_is : (before : List Item) (b : Boot) (boots : List Boot) (item : Item)
    → place_after before (b ∷ boots) item ≡ record { older = older_items before (b ∷ boots); front = last_items (b ∷ boots); item = item; rest = []; newer = [] }
place_is before b [] item = refl
place_is before b (c ∷ boots) item = place_is (before ++ b.items) c boots item

-- ---- no item stands after more boots than those of the last

abbrev IsAfter : ℕ → Position → Type 0
IsAfter most p = length p.older ≤ most

each_in : (most : ℕ) (older front items newer : List Item) → length older ≤ most → Each (IsAfter most) (places_in older front items newer)
each_in most older front [] newer few = tt
each_in most older front (item ∷ items) newer few = (few, each_in most older (front ++ item ∷ []) items newer few)

grows : (before : List Item) (boots : List Boot) → length before ≤ length (older_items before boots)
grows before [] = omega arith
grows before (b ∷ []) = omega arith
grows before (b ∷ c ∷ boots) = let more = grows (before ++ b.items) (c ∷ boots) in let n = length-append before b.items in omega (arith, more, n)

each_after : (before : List Item) (boots : List Boot) → Each (IsAfter (length (older_items before boots))) (places_from before boots)
each_after before [] = tt
each_after before (b ∷ []) = each_append (IsAfter (length before)) (places_in before [] b.items (items_of [])) [] (each_in (length before) before [] b.items (items_of []) (omega arith)) tt
each_after before (b ∷ c ∷ boots) =
    let most = length (older_items (before ++ b.items) (c ∷ boots)) in
    each_append (IsAfter most) (places_in before [] b.items (items_of (c ∷ boots))) (places_from (before ++ b.items) (c ∷ boots))
    (each_in most before [] b.items (items_of (c ∷ boots)) (grows before (b ∷ c ∷ boots))) (each_after (before ++ b.items) (c ∷ boots))

no_later : (run : Run) (e : Entry) (p : Position) → item_of run e ≡ Some p → length p.older ≤ length (older_items [] run.boots)
no_later run e p is =
    let most = length (older_items [] run.boots) in
    subst (Has (IsAfter most)) is
    (found_has (IsAfter most) (λ q. is_item_of e q.item) (reverse (places_of run)) (each_reverse (IsAfter most) (places_of run) (each_after [] run.boots)))

-- ---- entries that are appended

-- one whose item stands in the last boot, which goes on; visible replies are committed, whatever the entries
pub boots_appended : (facts : Facts) (run : Run) (entries h : List Entry) (e : Entry) → last_stop run.boots ≡ None → Each (IsCommitted facts entries) (places_of run)
    → is_by_guard e.reply ≡ false → IsInLast run e → AreInBoots facts run 0 h → AreInBoots facts run 0 (h ++ e ∷ [])
boots_appended facts run entries h e running committed served last all = from 0 h (omega arith) all
  where
    top : ℕ
    top = length (older_items [] run.boots)

    starts : (n : ℕ) → start_of run e n ≡ top
    starts n = ap (λ g. cond g n (boot_start (item_of run e) n)) served ∙ ap (λ o. boot_start o n) last.its ∙ ap length last.older

    -- no entry makes those that follow stand after the last boot
    below : (x : Entry) (low : ℕ) → low ≤ top → start_after facts run x low ≤ top
    below x low le = by (is_by_guard x.reply) (item_of run x) (list_any (is_stopped_after facts x) run.boots) refl refl
      where
        by : (g : Bool) (o : Option Position) (t : Bool) → item_of run x ≡ o → list_any (is_stopped_after facts x) run.boots ≡ t → cond (not g && t) (cond g low (boot_start o low) + 1) (cond g low (boot_start o low)) ≤ top
        by true o t is stopped = le
        by false None false is stopped = le
        by false (Some p) false is stopped = no_later run x p is
        by false o true is stopped = at o is (stands_earlier facts entries x [] run.boots running committed stopped)
          where
            at : (o : Option Position) → item_of run x ≡ o → StandsEarlier x [] run.boots → boot_start o low + 1 ≤ top
            at None is s = absurd (cc (sym is ∙ s.its))
            at (Some p) is s = let same : p ≡ s.place = cc (sym is ∙ s.its) in let at_place = ap (λ q. length q.older) same in let before = s.earlier in omega (arith, at_place, before)

    from : (low : ℕ) (h : List Entry) → low ≤ top → AreInBoots facts run low h → AreInBoots facts run low (h ++ e ∷ [])
    from low [] le all = (subst (λ n. low ≤ n) (sym (starts low)) le, tt)
    from low (x ∷ h) le all = (all.0, from (start_after facts run x low) h (below x low le) all.1)

-- a refusal by the guard
pub boots_refused : (facts : Facts) (run : Run) (h : List Entry) (e : Entry) → is_by_guard e.reply ≡ true → AreInBoots facts run 0 h → AreInBoots facts run 0 (h ++ e ∷ [])
boots_refused facts run h e guards all = from 0 h all
  where
    from : (low : ℕ) (h : List Entry) → AreInBoots facts run low h → AreInBoots facts run low (h ++ e ∷ [])
    from low [] all = (subst (λ n. low ≤ n) (sym (ap (λ g. cond g low (boot_start (item_of run e) low)) guards)) (omega arith), tt)
    from low (x ∷ h) all = (all.0, from (start_after facts run x low) h all.1)

-- ---- the run grows

-- the item of an entry is in a boot of the same start, and a boot stopped right after its commit or not as before
record IsSameStart (facts : Facts) (run later : Run) (e : Entry) : Type 0 where
  start : (n : ℕ) → start_of later e n ≡ start_of run e n
  behind : list_any (is_stopped_after facts e) later.boots ≡ list_any (is_stopped_after facts e) run.boots

-- where it is so of each entry, nothing changes
stays : (facts : Facts) (run later : Run) (h : List Entry) (low : ℕ) → Each (IsSameStart facts run later) h → AreInBoots facts run low h → AreInBoots facts later low h
stays facts run later [] low same all = tt
stays facts run later (e ∷ h) low same all = (subst (λ n. low ≤ n) (sym (same.0.start low)) all.0, subst (λ n. AreInBoots facts later n h) (sym after) (stays facts run later h (start_after facts run e low) same.1 all.1))
  where
    after : start_after facts later e low ≡ start_after facts run e low
    after =
        ap (λ t. cond (not (is_by_guard e.reply) && t) (start_of later e low + 1) (start_of later e low)) same.0.behind
        ∙ ap (λ n. cond (not (is_by_guard e.reply) && list_any (is_stopped_after facts e) run.boots) (n + 1) n) (same.0.start low)

-- nor where it is so of each but the last, whose item is in a boot of the same start
stays_but_last : (facts : Facts) (run later : Run) (h : List Entry) (e : Entry) (low : ℕ) → Each (IsSameStart facts run later) h → ((n : ℕ) → start_of later e n ≡ start_of run e n)
    → AreInBoots facts run low (h ++ e ∷ []) → AreInBoots facts later low (h ++ e ∷ [])
stays_but_last facts run later [] e low same start all = (subst (λ n. low ≤ n) (sym (start low)) all.0, tt)
stays_but_last facts run later (x ∷ h) e low same start all =
    (subst (λ n. low ≤ n) (sym (same.0.start low)) all.0, subst (λ n. AreInBoots facts later n (h ++ e ∷ [])) (sym after) (stays_but_last facts run later h e (start_after facts run x low) same.1 start all.1))
  where
    after : start_after facts later x low ≡ start_after facts run x low
    after =
        ap (λ t. cond (not (is_by_guard x.reply) && t) (start_of later x low + 1) (start_of later x low)) same.0.behind
        ∙ ap (λ n. cond (not (is_by_guard x.reply) && list_any (is_stopped_after facts x) run.boots) (n + 1) n) (same.0.start low)

-- an item more that is of none of the entries
pub boots_noted : (facts : Facts) (b : Boot) (boots : List Boot) (points later : ℕ) (item : Item) (h : List Entry) → last_stop (b ∷ boots) ≡ None → IsOfNoEntry item h
    → AreInBoots facts (record { boots = b ∷ boots; points = points }) 0 h → AreInBoots facts (record { boots = noted (b ∷ boots) item; points = later }) 0 h
boots_noted facts b boots points later item h running none all = stays facts run now h 0 (each h none) all
  where
    run : Run
    run = record { boots = b ∷ boots; points = points }

    now : Run
    now = record { boots = noted (b ∷ boots) item; points = later }

    grown : (o o' : Option Position) (n : ℕ) → IsGrownTo item o o' → boot_start o' n ≡ boot_start o n
    grown None None n g = refl
    grown (Some p) (Some q) n g = ap length g.older
    grown None (Some q) n g = absurd g
    grown (Some p) None n g = absurd g

    each : (h : List Entry) → IsOfNoEntry item h → Each (IsSameStart facts run now) h
    each [] none = tt
    each (e ∷ h) none = (
      record {
        start = λ n. ap (cond (is_by_guard e.reply) n) (grown (item_of run e) (item_of now e) n
            (item_of-more item e (place_after [] (b ∷ boots) item) run now (places-more [] b boots item) (own_item [] b boots item) none.0));
        behind = after_noted facts e b boots item running;
      },
      each h none.1,
    )

-- in a run with the same places an entry's item is in a boot of the same start
same_start : (run later : Run) (e : Entry) → places_of later ≡ places_of run → (n : ℕ) → start_of later e n ≡ start_of run e n
same_start run later e same n = ap (λ ps. cond (is_by_guard e.reply) n (boot_start (find (λ p. is_item_of e p.item) (reverse ps)) n)) same

struck_same : (facts : Facts) (boots : List Boot) (points later stop : ℕ) (h : List Entry) → last_stop boots ≡ None
    → Each (λ e. is_stopped_after facts e (record { items = last_items boots; stop = Some stop }) ≡ false) h
    → Each (IsSameStart facts (record { boots = boots; points = points }) (record { boots = struck boots stop; points = later })) h
struck_same facts boots points later stop [] running none = tt
struck_same facts boots points later stop (e ∷ h) running none = (
  record {
    start = same_start (record { boots = boots; points = points }) (record { boots = struck boots stop; points = later }) e (places-struck [] boots stop);
    behind = after_struck facts e boots stop running none.0;
  },
  struck_same facts boots points later stop h running none.1,
)

-- the service stops, but right after no commit of these entries
boots_struck : (facts : Facts) (boots : List Boot) (points later stop : ℕ) (h : List Entry) → last_stop boots ≡ None
    → Each (λ e. is_stopped_after facts e (record { items = last_items boots; stop = Some stop }) ≡ false) h
    → AreInBoots facts (record { boots = boots; points = points }) 0 h → AreInBoots facts (record { boots = struck boots stop; points = later }) 0 h
boots_struck facts boots points later stop h running none all =
    stays facts (record { boots = boots; points = points }) (record { boots = struck boots stop; points = later }) h 0 (struck_same facts boots points later stop h running none) all

-- as it is about to be used: the stop is no earlier than the next point
pub boots_between : (facts : Facts) (asked : ℕ) (boots : List Boot) (points later stop : ℕ) (h : List Entry) → last_stop boots ≡ None → asked_after (asked_over facts asked boots) 1 ≤ stop
    → AreInBoots facts (record { boots = boots; points = points }) 0 h → AreInBoots facts (record { boots = struck boots stop; points = later }) 0 h
boots_between facts asked boots points later stop h running late all = boots_struck facts boots points later stop h running (each h) all
  where
    each : (h : List Entry) → Each (λ e. is_stopped_after facts e (record { items = last_items boots; stop = Some stop }) ≡ false) h
    each [] = tt
    each (e ∷ h) = (none_between facts e asked boots stop running late, each h)

-- within an item that is of none of the entries
none_of_it : (facts : Facts) (b : Boot) (boots : List Boot) (stop : ℕ) (item : Item) (h : List Entry) → IsOfNoEntry item h
    → Each (λ e. is_stopped_after facts e (record { items = last_items (noted (b ∷ boots) item); stop = Some stop }) ≡ false) h
none_of_it facts b boots stop item [] none = tt
none_of_it facts b boots stop item (e ∷ h) none = (
  ap (λ l. is_stopped_after facts e (record { items = l; stop = Some stop })) (last_noted b boots item) ∙ none_other facts e stop (last_items (b ∷ boots)) item none.0,
  none_of_it facts b boots stop item h none.1,
)

pub boots_within : (facts : Facts) (b : Boot) (boots : List Boot) (points later stop : ℕ) (item : Item) (h : List Entry) → last_stop (b ∷ boots) ≡ None → IsOfNoEntry item h
    → AreInBoots facts (record { boots = b ∷ boots; points = points }) 0 h → AreInBoots facts (record { boots = struck (noted (b ∷ boots) item) stop; points = later }) 0 h
boots_within facts b boots points later stop item h running none all =
    boots_struck facts (noted (b ∷ boots) item) points later stop h (stop_noted b boots item ∙ running) (none_of_it facts b boots stop item h none)
    (boots_noted facts b boots points points item h running none all)

pub boots_booted : (facts : Facts) (boots : List Boot) (points later : ℕ) (h : List Entry) → AreInBoots facts (record { boots = boots; points = points }) 0 h
    → AreInBoots facts (record { boots = booted boots; points = later }) 0 h
boots_booted facts boots points later h all = stays facts run now h 0 (each h) all
  where
    run : Run
    run = record { boots = boots; points = points }

    now : Run
    now = record { boots = booted boots; points = later }

    each : (h : List Entry) → Each (IsSameStart facts run now) h
    each [] = tt
    each (e ∷ h) = (record { start = same_start run now e (places-booted [] boots); behind = after_booted facts e boots }, each h)

-- points more are counted
pub boots_counted : (facts : Facts) (boots : List Boot) (points later : ℕ) (h : List Entry) → AreInBoots facts (record { boots = boots; points = points }) 0 h
    → AreInBoots facts (record { boots = boots; points = later }) 0 h
boots_counted facts boots points later h all = stays facts (record { boots = boots; points = points }) (record { boots = boots; points = later }) h 0 (each h) all
  where
    each : (h : List Entry) → Each (IsSameStart facts (record { boots = boots; points = points }) (record { boots = boots; points = later })) h
    each [] = tt
    each (e ∷ h) = (record { start = λ n. refl; behind = refl }, each h)

-- ---- who stands in the last boot

-- the entry of the item noted last
pub own_last : (b : Boot) (boots : List Boot) (points later : ℕ) (item : Item) (e : Entry) → is_item_of e item ≡ true → IsInLast (record { boots = noted (b ∷ boots) item; points = later }) e
own_last b boots points later item e own = record {
  place = place_after [] (b ∷ boots) item;
  its = item_of-own item e (place_after [] (b ∷ boots) item) (record { boots = b ∷ boots; points = points }) (record { boots = noted (b ∷ boots) item; points = later })
      (places-more [] b boots item) (own_item [] b boots item) own;
  older = ap (λ p. p.older) (place_is [] b boots item) ∙ sym (older_noted [] b boots item);
}

-- one that stood there, where another's item is noted
pub still_last : (b : Boot) (boots : List Boot) (points later : ℕ) (item : Item) (e : Entry) → is_item_of e item ≡ false
    → IsInLast (record { boots = b ∷ boots; points = points }) e → IsInLast (record { boots = noted (b ∷ boots) item; points = later }) e
still_last b boots points later item e none last =
    by (item_of now e) refl (subst (λ o. IsGrownTo item o (item_of now e)) last.its
    (item_of-more item e (place_after [] (b ∷ boots) item) (record { boots = b ∷ boots; points = points }) now (places-more [] b boots item) (own_item [] b boots item) none))
  where
    now : Run
    now = record { boots = noted (b ∷ boots) item; points = later }

    by : (o : Option Position) → item_of now e ≡ o → IsGrownTo item (Some last.place) o → IsInLast now e
    by None is g = absurd g
    by (Some q) is g = record { place = q; its = is; older = g.older ∙ last.older ∙ sym (older_noted [] b boots item) }

-- ---- an item with its entry

-- a visible call is committed
pub boots_committed : (facts : Facts) (b : Boot) (boots : List Boot) (points later : ℕ) (item : Item) (entries h : List Entry) (e : Entry) → last_stop (b ∷ boots) ≡ None
    → IsOfNoEntry item h → is_item_of e item ≡ true → is_by_guard e.reply ≡ false → Each (IsCommitted facts entries) (places_of (record { boots = noted (b ∷ boots) item; points = later }))
    → AreInBoots facts (record { boots = b ∷ boots; points = points }) 0 h → AreInBoots facts (record { boots = noted (b ∷ boots) item; points = later }) 0 (h ++ e ∷ [])
boots_committed facts b boots points later item entries h e running none own served committed all =
    boots_appended facts (record { boots = noted (b ∷ boots) item; points = later }) entries h e (stop_noted b boots item ∙ running) committed served (own_last b boots points later item e own)
    (boots_noted facts b boots points later item h running none all)

-- and the service stops right after that: the entry is the last whose item is in its boot
pub boots_after : (facts : Facts) (b : Boot) (boots : List Boot) (points later stop : ℕ) (item : Item) (entries h : List Entry) (e : Entry) → last_stop (b ∷ boots) ≡ None
    → IsOfNoEntry item h → is_item_of e item ≡ true → is_by_guard e.reply ≡ false → Each (IsCommitted facts entries) (places_of (record { boots = struck (noted (b ∷ boots) item) stop; points = later }))
    → AreInBoots facts (record { boots = b ∷ boots; points = points }) 0 h → AreInBoots facts (record { boots = struck (noted (b ∷ boots) item) stop; points = later }) 0 (h ++ e ∷ [])
boots_after facts b boots points later stop item entries h e running none own served committed all =
    let run : Run = record { boots = noted (b ∷ boots) item; points = later } in
    let now : Run = record { boots = struck (noted (b ∷ boots) item) stop; points = later } in
    let same : places_of now ≡ places_of run = places-struck [] (noted (b ∷ boots) item) stop in
    stays_but_last facts run now h e 0
    (struck_same facts (noted (b ∷ boots) item) later later stop h (stop_noted b boots item ∙ running) (none_of_it facts b boots stop item h none)) (same_start run now e same)
    (boots_committed facts b boots points later item entries h e running none own served (subst (Each (IsCommitted facts entries)) same committed) all)

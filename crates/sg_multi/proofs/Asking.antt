-- A member is asked a client's call once the client's earlier calls were answered, over all members: it holds of a new play, it is kept by all that happens, and it gives the promise.
use Rattle.std.proofs.Common.{◌≡◌, ◌≢◌, ◌⊎◌, ℕ, zero, suc, ◌+◌, ◌<◌, ◌≤◌, Bool, true, false, cond, not, List, [], ◌∷◌, ◌++◌, Some, drop, filter, length, map, replicate, take, refl, sym, ◌∙◌, ap, subst, inl, inr, arith, append-nil, append_assoc, length-append}
use Rattle.std.specs.Prelude.{◌==◌, ◌&&◌, ◌||◌, slice_get, take_while}
use Rattle.std.specs.List.{list_any, prefix_len}
use Rattle.std.proofs.lemmas.Bool.{cases_lt}
use Rattle.std.proofs.lemmas.List.{map-append, take-append-drop}
use Rattle.std.proofs.lemmas.List.Elements.{filter-append}
use Rattle.std.proofs.lemmas.List.Sums.{take_while-cons}
use Rattle.sg_facts.specs.Facts.{Facts, is_visible}
use Rattle.sg_facts.specs.Trace.{Boot}
use Rattle.sg_facts.specs.declared.entry.Entry.{Entry}
use Rattle.sg_facts.specs.declared.trace.Item.{Item}
use Rattle.sg_facts.specs.declared.trace.Tag.{Tag}
use Rattle.sg_facts.specs.declared.trace.Tag.TheVariants.{Client, Load, Walk}
use Rattle.sg_facts.specs.sg_base.Lists.{Each}
use Rattle.sg_facts.proofs.Replaying.Found.{same_test}
use Rattle.sg_multi.proofs.sg_sim.sg_play.Following.Numbered.{load_of_none, next_is_new, of_no_entry, walk_of_none}
use Rattle.sg_multi.proofs.sg_sim.sg_play.Waking.Items.{have_items}
use Rattle.sg_multi.proofs.sg_sim.sg_play.Waking.Shapes.{call_is_next}
use Rattle.sg_multi.proofs.sg_sim.sg_play.sg_plain.sg_hist.Growing.{places-more, stands_before-more}
use Rattle.sg_multi.proofs.sg_sim.sg_play.sg_world.sg_world_laws.Ending.Calls.{test_same}
use Rattle.sg_multi.proofs.sg_sim.sg_play.sg_world.sg_world_laws.sg_recovery_laws.Lists.{each_append, each_map}
use Rattle.sg_multi.specs.Members.{ChangesAt, Membered, setting_in, view_in}
use Rattle.sg_multi.specs.sg_sim.sg_plain.Calls.{most_client, script_calls}
use Rattle.sg_multi.specs.sg_sim.sg_plain.Playing.Callers.{IsCaller}
use Rattle.sg_multi.specs.sg_sim.sg_plain.Playing.Given.{given_in}
use Rattle.sg_multi.specs.sg_sim.sg_play.Recovering.{RecoversSoFar}
use Rattle.sg_multi.specs.sg_sim.sg_play.sg_hist.Clients.{AreNumbered, calls_of}
use Rattle.sg_multi.specs.sg_sim.sg_play.sg_hist.Growing.{AreGrown, IsGrown, IsOfNoEntry, noted, place_after}
use Rattle.sg_multi.specs.sg_sim.sg_play.sg_hist.Reading.{Position, is_by_guard, is_item_of, last_items, older_items, places_from, places_of, stands_before}
use Rattle.sg_multi.specs.sg_sim.sg_play.sg_hist.Recovered.{is_answered_later}
use Rattle.sg_multi.specs.sg_sim.sg_play.sg_world.sg_recovery_laws.LastItem.LastPlace.{HaveItems, last_place}
use Rattle.sg_multi.specs.sg_sim.sg_script.declared.multi.MultiScript.{MultiScript}
use Rattle.sg_multi.specs.sg_sim.sg_clients.WorldView.{WorldView, is_offered, new_world, no_seat, seat_of}
use Rattle.sg_multi.specs.sg_sim.sg_clients.declared.phase.Phase.TheVariants.{Asked}
use Rattle.sg_multi.specs.Calls.{AreFirstMultiCalls, multi_calls}
use Rattle.sg_multi.specs.Inside.Asked.{AreAskedSoFar, IsCallAfter, WasAsked, WasAskedAfter, calls_there}
use Rattle.sg_multi.specs.Inside.Callers.{Offers}
use Rattle.sg_multi.specs.Inside.Keeps.{IsMultiCaller, KeepsMulti, interfaces_of}
use Rattle.sg_multi.specs.Inside.Member.{KeepsMember}
use Rattle.sg_multi.specs.Merged.{MultiEntry, entries_at, is_of_call, number_over_all, own_in}
use Rattle.sg_multi.specs.Played.{IsAskedInTurn}
use Rattle.sg_multi.proofs.Calling.{at_its_member, first_front}
use Rattle.sg_multi.proofs.Counting.{as_many_there, own_there}
use Rattle.sg_multi.proofs.Grown.{GrowsTo}
use Rattle.sg_multi.proofs.Keeping.{later_cases, moved}
use Rattle.sg_multi.proofs.Merging.{calls_at, mapped_at}
use Rattle.sg_multi.proofs.Noting.{IsOwnTag, Notes}

-- ---- lists

-- a client has as many entries, with one entry more in the list, or more
own_longer : (client : ℕ) (merged : List MultiEntry) (x : MultiEntry) → length (own_in client merged) ≤ length (own_in client (merged ++ x ∷ []))
own_longer client merged x =
    omega (arith, ap (λ (l : List MultiEntry). length l) (filter-append (λ e. e.entry.call.client == client) merged (x ∷ [])), length-append (own_in client merged) (own_in client (x ∷ [])))

-- where a longer list has an element, the list has it, or it is the last
split_push : (merged : List MultiEntry) (x : MultiEntry) (before : List MultiEntry) (e : MultiEntry) (rest : List MultiEntry) → merged ++ x ∷ [] ≡ before ++ e ∷ rest
    → ((more : List MultiEntry) × (merged ≡ before ++ e ∷ more)) ⊎ (before ≡ merged)
split_push [] x [] e rest same = inr refl
split_push [] x (b ∷ before) e rest same = absurd (omega (arith, ap (λ (l : List MultiEntry). length l) same, length-append before (e ∷ rest)))
split_push (y ∷ merged) x [] e rest same = let head : y ≡ e = cc same in inl (merged, ap (λ k. k ∷ merged) head)
split_push (y ∷ merged) x (b ∷ before) e rest same =
    let head : y ≡ b = cc same in
    let tail : merged ++ x ∷ [] ≡ before ++ e ∷ rest = cc same in
    by head (split_push merged x before e rest tail)
  where
    by : y ≡ b → ((more : List MultiEntry) × (merged ≡ before ++ e ∷ more)) ⊎ (before ≡ merged) → ((more : List MultiEntry) × (y ∷ merged ≡ b ∷ before ++ e ∷ more)) ⊎ (b ∷ before ≡ y ∷ merged)
    by head (inl (more, is)) = inl (more, ap (λ k. k ∷ merged) head ∙ ap (λ l. b ∷ l) is)
    by head (inr is) = inr (ap (λ k. k ∷ before) (sym head) ∙ ap (λ l. y ∷ l) is)

each_grown : (item : Item) (P Q : Position → Type 0) → ((p q : Position) → IsGrown item p q → P p → Q q) → (ps qs : List Position) → AreGrown item ps qs → Each P ps → Each Q qs
each_grown item P Q so [] [] grown all = tt
each_grown item P Q so [] (q ∷ qs) grown all = absurd grown
each_grown item P Q so (p ∷ ps) [] grown all = absurd grown
each_grown item P Q so (p ∷ ps) (q ∷ qs) grown all = (so p q grown.0 all.0, each_grown item P Q so ps qs grown.1 all.1)

-- what holds of the places of boots, and of that of an item more, holds of those with the item
more_places : (P : Position → Type 0) (boots : List Boot) (item : Item) → ((p q : Position) → IsGrown item p q → P p → P q) → P (place_after [] boots item) → Each P (places_from [] boots) → Each P (places_from [] (noted boots item))
more_places P [] item grown own all = tt
more_places P (b ∷ boots) item grown own all =
    let more = places-more [] b boots item in
    subst (Each P) (sym more.are)
    (each_append P more.grown (place_after [] (b ∷ boots) item ∷ []) (each_grown item P P grown (places_from [] (b ∷ boots)) more.grown more.each all) (own, tt))

-- where an item stands that is noted after all others
place_is : (older : List Item) (boots : List Boot) (item : Item) → place_after older boots item ≡ last_place (older_items older boots) (last_items boots) item
place_is older [] item = refl
place_is older (b ∷ []) item = refl
place_is older (b ∷ c ∷ boots) item = place_is (older ++ b.items) (c ∷ boots) item

-- who has its item before isn't answered later
not_later : (older front : List Item) (item : Item) (e : Entry) → (is_by_guard e.reply || list_any (is_item_of e) (older ++ front)) ≡ true → is_item_of e item ≡ false → is_answered_later (stands_before (last_place older front item)) e ≡ false
not_later older front item e has none = by (is_by_guard e.reply) (list_any (is_item_of e) (older ++ front)) (is_item_of e item) has none
  where
    by : (g a i : Bool) → (g || a) ≡ true → i ≡ false → not (g || (not g && a && not (i || false))) ≡ false
    by true a i has none = refl
    by false true false has none = refl
    by false true true has none = absurd (cc none)
    by false false i has none = absurd (cc has)

-- ---- entries of a member

entries_split : (member : ℕ) (before : List MultiEntry) (e : MultiEntry) (rest : List MultiEntry) → e.member ≡ member → entries_at member (before ++ e ∷ rest) ≡ entries_at member before ++ e.entry ∷ entries_at member rest
entries_split member before e rest its =
    ap (map (λ (x : MultiEntry). x.entry)) (filter-append (λ x. x.member == member) before (e ∷ rest)
    ∙ ap (λ b. filter (λ x. x.member == member) before ++ cond b (e ∷ filter (λ x. x.member == member) rest) (filter (λ x. x.member == member) rest)) (same_test e.member member its))
    ∙ map-append (λ (x : MultiEntry). x.entry) (filter (λ x. x.member == member) before) (e ∷ filter (λ x. x.member == member) rest)

own_split : (client : ℕ) (before : List MultiEntry) (e : MultiEntry) (rest : List MultiEntry) → e.entry.call.client ≡ client → own_in client (before ++ e ∷ rest) ≡ own_in client before ++ e ∷ own_in client rest
own_split client before e rest its =
    filter-append (λ x. x.entry.call.client == client) before (e ∷ rest) ∙ ap (λ b. own_in client before ++ cond b (e ∷ own_in client rest) (own_in client rest)) (same_test e.entry.call.client client its)

-- an item is of none of the entries of a list
none_in : (item : Item) (before : List Entry) (e : Entry) (rest : List Entry) → IsOfNoEntry item (before ++ e ∷ rest) → is_item_of e item ≡ false
none_in item [] e rest none = none.0
none_in item (x ∷ before) e rest none = none_in item before e rest none.1

-- entries are numbered one after the other
number_in : (before xs : List Entry) (e : Entry) (rest : List Entry) → AreNumbered before (xs ++ e ∷ rest) → e.call.seq ≡ length (calls_of (before ++ xs) e.call.client) + 1
number_in before [] e rest are = are.0 ∙ ap (λ l. length (calls_of l e.call.client) + 1) (sym (append-nil before))
number_in before (x ∷ xs) e rest are = number_in (before ++ x ∷ []) xs e rest are.1 ∙ ap (λ l. length (calls_of l e.call.client) + 1) (append_assoc before (x ∷ []) xs)

-- a client with more entries than a number has one behind so many of its own
behind_own : (client done : ℕ) (es : List MultiEntry) → done < length (own_in client es)
    → (before : List MultiEntry) × (e : MultiEntry) × (rest : List MultiEntry) × (es ≡ before ++ e ∷ rest) × (e.entry.call.client ≡ client) × (length (own_in client before) ≡ done)
behind_own client done [] more = absurd (omega (arith, more))
behind_own client done (x ∷ es) more = by (x.entry.call.client == client) refl done more (λ n. behind_own client n es)
  where
    by : (b : Bool) → (x.entry.call.client == client) ≡ b → (n : ℕ) → n < length (cond b (x ∷ own_in client es) (own_in client es))
        → ((k : ℕ) → k < length (own_in client es)
        → (before : List MultiEntry) × (e : MultiEntry) × (rest : List MultiEntry) × (es ≡ before ++ e ∷ rest) × (e.entry.call.client ≡ client) × (length (own_in client before) ≡ k))
        → (before : List MultiEntry) × (e : MultiEntry) × (rest : List MultiEntry) × (x ∷ es ≡ before ++ e ∷ rest) × (e.entry.call.client ≡ client) × (length (own_in client before) ≡ n)
    by true its zero more later = ([], x, es, refl, test_same x.entry.call.client client its, refl)
    by true its (suc n) more later =
        let found = later n (omega (arith, more)) in (
          x ∷ found.0,
          found.1,
          found.2,
          ap (λ l. x ∷ l) found.3,
          found.4,
          ap (λ b. length (cond b (x ∷ own_in client found.0) (own_in client found.0))) its ∙ ap suc found.5,
        )
    by false other n more later =
        let found = later n more in (
          x ∷ found.0,
          found.1,
          found.2,
          ap (λ l. x ∷ l) found.3,
          found.4,
          ap (λ b. length (cond b (x ∷ own_in client found.0) (own_in client found.0))) other ∙ found.5,
        )

-- what is taken while a test is met meets it
passes : (test : MultiEntry → Bool) (es before : List MultiEntry) (e : MultiEntry) (rest : List MultiEntry) → take_while test es ≡ before ++ e ∷ rest → test e ≡ true
passes test [] before e rest same = absurd (omega (arith, ap (λ (l : List MultiEntry). length l) same, length-append before (e ∷ rest)))
passes test (x ∷ es) [] e rest same = by (test x) refl (sym (take_while-cons test x es) ∙ same)
  where
    by : (b : Bool) → test x ≡ b → cond b (x ∷ take_while test es) [] ≡ e ∷ rest → test e ≡ true
    by true meets is = let head : x ≡ e = cc is in ap test (sym head) ∙ meets
    by false meets is = absurd (cc is)
passes test (x ∷ es) (y ∷ before) e rest same = by (test x) (sym (take_while-cons test x es) ∙ same) (passes test es before e rest)
  where
    by : (b : Bool) → cond b (x ∷ take_while test es) [] ≡ y ∷ before ++ e ∷ rest → (take_while test es ≡ before ++ e ∷ rest → test e ≡ true) → test e ≡ true
    by true is more = let tail : take_while test es ≡ before ++ e ∷ rest = cc is in more tail
    by false is more = absurd (cc is)

-- ---- an item that was noted

module _ (facts : Facts) (script : MultiScript) (member : ℕ) where
  -- the merged list has one entry more
  asked_longer : (merged : List MultiEntry) (x : MultiEntry) (p : Position) (tag : Tag) → WasAsked facts script merged member p tag → WasAsked facts script (merged ++ x ∷ []) member p tag
  asked_longer merged x p (Walk id k client) a = tt
  asked_longer merged x p (Load key client) a = tt
  asked_longer merged x p (Client client seq) a = record {
    done = a.done;
    call = a.call;
    reached = omega (arith, a.reached, own_longer client merged x);
    later = λ before e rest same its visible answered. by before e its visible answered (split_push merged x before e rest same);
  }
    where
      by : (before : List MultiEntry) (e : MultiEntry) → e.member ≡ member → is_visible facts e.entry.call.fun ≡ true → is_answered_later (stands_before p) e.entry ≡ true
          → ((more : List MultiEntry) × (merged ≡ before ++ e ∷ more)) ⊎ (before ≡ merged) → a.done ≤ length (own_in client before)
      by before e its visible answered (inl (more, is)) = a.later before e more is its visible answered
      by before e its visible answered (inr is) = subst (λ (l : List MultiEntry). a.done ≤ length (own_in client l)) (sym is) a.reached

  -- an item more stands after it, which is of no entry of the member
  asked_grown : (merged : List MultiEntry) (item : Item) → IsOfNoEntry item (entries_at member merged) → (p q : Position) → IsGrown item p q → (tag : Tag) → WasAsked facts script merged member p tag → WasAsked facts script merged member q tag
  asked_grown merged item none p q grown (Walk id k client) a = tt
  asked_grown merged item none p q grown (Load key client) a = tt
  asked_grown merged item none p q grown (Client client seq) a = record {
    done = a.done;
    call = a.call;
    reached = a.reached;
    later = λ before e rest same its visible answered.
        let apart : is_item_of e.entry item ≡ false = none_in item (entries_at member before) e.entry (entries_at member rest) (subst (IsOfNoEntry item) (ap (entries_at member) same ∙ entries_split member before e rest its) none) in
        a.later before e rest same its visible (ap (λ b. not (is_by_guard e.entry.reply || b)) (sym (stands_before-more item p q e.entry grown apart)) ∙ answered);
  }

  abbrev pub AtPlace : List MultiEntry → Position → Type 0
  AtPlace merged p = WasAsked facts script merged member p p.item.tag

  at_grown : (merged : List MultiEntry) (item : Item) → IsOfNoEntry item (entries_at member merged) → (p q : Position) → IsGrown item p q → AtPlace merged p → AtPlace merged q
  at_grown merged item none p q grown a =
      subst (λ (i : Item). WasAsked facts script merged member q i.tag) (sym grown.own) (asked_grown merged item none p q grown p.item.tag a)

-- ---- an item that is noted

module _ (members : List Membered) (script : MultiScript) (given : List (List ℕ)) (order : List ℕ) (is : KeepsMulti members script given order) (place : ℕ) (m : Membered) (there : slice_get members place ≡ Some m)
    (c : ℕ) (first : 1 ≤ c) (last : c ≤ most_client script.clients) (told : RecoversSoFar (setting_in m) (view_in m)) where
  abbrev w : WorldView
  w = view_in m

  abbrev facts : Facts
  facts = (setting_in m).iface.facts

  history_is : entries_at (place + 1) is.merged ≡ w.history
  history_is = is.merges.each place w.history (mapped_at (λ (x : Membered). (view_in x).history) members place m there)

  keeps : KeepsMember (setting_in m) w
  keeps = is.each place m there

  own : IsCaller facts keeps.script w.history c (seat_of w c)
  own = keeps.playing.callers.each c first (omega (arith, last, is.clients place m there))

  caller : IsMultiCaller members script is.merged c (given_in given c)
  caller = is.callers c first last

  next_seq : (seat_of w c).phase ≡ Asked → (seat_of w c).call.seq ≡ length (calls_of w.history c) + 1
  next_seq asked = call_is_next facts keeps.script w.history c (seat_of w c) own (ap is_offered asked) ∙ ap (λ n. n + 1) own.count

  -- it is of no entry
  of_none : (item : Item) → IsOwnTag w c item.tag → IsOfNoEntry item w.history
  of_none item = by item.tag refl
    where
      by : (tag : Tag) → item.tag ≡ tag → IsOwnTag w c tag → IsOfNoEntry item w.history
      by (Walk id k client) is_so its = walk_of_none item id k client w.history is_so
      by (Load key client) is_so its = load_of_none item key client w.history is_so
      by (Client client seq) is_so its =
          of_no_entry item c (length (calls_of w.history c) + 1) w.history
          (is_so ∙ ap (λ k. Client k seq) its.0 ∙ ap (Client c) (its.2 ∙ next_seq its.1))
          (next_is_new facts w.history c (script_calls keeps.script c) own.made)

  -- all earlier visible entries of the member were answered before it
  answered_before : (item : Item) → IsOwnTag w c item.tag → (before : List MultiEntry) (e : MultiEntry) (rest : List MultiEntry) → is.merged ≡ before ++ e ∷ rest → e.member ≡ place + 1
      → is_answered_later (stands_before (last_place (older_items [] w.run.boots) (last_items w.run.boots) item)) e.entry ≡ false
  answered_before item its before e rest same at =
      let history : w.history ≡ entries_at (place + 1) before ++ e.entry ∷ entries_at (place + 1) rest = sym history_is ∙ ap (entries_at (place + 1)) same ∙ entries_split (place + 1) before e rest at in
      not_later (older_items [] w.run.boots) (last_items w.run.boots) item e.entry
      (has (entries_at (place + 1) before) (subst (HaveItems (older_items [] w.run.boots ++ last_items w.run.boots)) history (have_items facts w.history w.run told.recovering.served.items)))
      (none_in item (entries_at (place + 1) before) e.entry (entries_at (place + 1) rest) (subst (IsOfNoEntry item) history (of_none item its)))
    where
      has : (es : List Entry) → HaveItems (older_items [] w.run.boots ++ last_items w.run.boots) (es ++ e.entry ∷ entries_at (place + 1) rest)
          → (is_by_guard e.entry.reply || list_any (is_item_of e.entry) (older_items [] w.run.boots ++ last_items w.run.boots)) ≡ true
      has [] all = all.0
      has (x ∷ es) all = has es all.1

  -- the call that the client asks is the one that it makes when as many are done as it was given replies
  its_call : (seq : ℕ) → (seat_of w c).phase ≡ Asked → seq ≡ (seat_of w c).call.seq → IsCallAfter script (place + 1) c seq (length (given_in given c)) × (length (given_in given c) ≤ length (own_in c is.merged))
  its_call seq asked same =
      let o : Offers (interfaces_of members) script is.merged c (given_in given c) place (seat_of w c) = (caller.seats place m there).offers (ap is_offered asked) in (
        record {
          written = o.written;
          next = o.next;
          its_member = sym o.its.its_member;
          number = ap (λ n. length (calls_there (place + 1) (take n (multi_calls script c))) + 1) (sym o.all_given)
              ∙ ap (λ n. n + 1) (sym (as_many_there (interfaces_of members) is.merged c (place + 1) (own_in c is.merged) (multi_calls script c) caller.made))
              ∙ ap (λ n. n + 1) (sym (own_there members script given order is place c m there)) ∙ sym (next_seq asked) ∙ sym same;
        },
        omega (arith, o.all_given),
      )

  abbrev At : List MultiEntry → Position → Type 0
  At merged p = AtPlace facts script (place + 1) merged p

  at_last : (item : Item) → IsOwnTag w c item.tag → At is.merged (place_after [] w.run.boots item)
  at_last item its = subst (At is.merged) (sym (place_is [] w.run.boots item)) (by item.tag its)
    where
      by : (tag : Tag) → IsOwnTag w c tag → WasAsked facts script is.merged (place + 1) (last_place (older_items [] w.run.boots) (last_items w.run.boots) item) tag
      by (Walk id k client) own_so = tt
      by (Load key client) own_so = tt
      by (Client client seq) own_so =
          let called = its_call seq own_so.1 own_so.2 in
          subst (λ k. WasAskedAfter facts script is.merged (place + 1) (last_place (older_items [] w.run.boots) (last_items w.run.boots) item) k seq) (sym own_so.0)
          (record {
            done = length (given_in given c);
            call = called.0;
            reached = called.1;
            later = λ before e rest same at visible answered. absurd (let not_so = answered_before item its before e rest same at in cc (answered, not_so));
          })

  -- the client notes nothing or one item in its turn
  pub asked_noted : (later : List Boot) → Notes w c later → Each (At is.merged) (places_from [] w.run.boots) → Each (At is.merged) (places_from [] later)
  asked_noted later (inl same) all = subst (Each (At is.merged)) (sym same.places) all
  asked_noted later (inr n) all =
      subst (Each (At is.merged)) (sym n.same.places)
      (more_places (At is.merged) w.run.boots n.item (at_grown facts script (place + 1) is.merged n.item (subst (IsOfNoEntry n.item) (sym history_is) (of_none n.item n.own))) (at_last n.item n.own) all)

-- ---- all members

-- the merged list has one entry more
asked_more : (members : List Membered) (script : MultiScript) (merged : List MultiEntry) (x : MultiEntry) → AreAskedSoFar members script merged → AreAskedSoFar members script (merged ++ x ∷ [])
asked_more members script merged x all q y there =
    each_map (AtPlace (setting_in y).iface.facts script (q + 1) merged) (AtPlace (setting_in y).iface.facts script (q + 1) (merged ++ x ∷ [])) (places_of (view_in y).run)
    (λ p. asked_longer (setting_in y).iface.facts script (q + 1) merged x p p.item.tag) (all q y there)

module _ (members later : List Membered) (script : MultiScript) (given : List (List ℕ)) (order : List ℕ) (place : ℕ) (m : Membered) (now : WorldView) (changes : ChangesAt members place m now later)
    (is : KeepsMulti members script given order) where
  -- one of them changes
  asked_at : (merged : List MultiEntry) → Each (AtPlace (setting_in m).iface.facts script (place + 1) merged) (places_from [] now.run.boots) → AreAskedSoFar members script merged → AreAskedSoFar later script merged
  asked_at merged own all q x there = by (later_cases members later script given order place m now changes is q x there)
    where
      by : ((q ≡ place) × (x ≡ changes.new)) ⊎ ((q ≢ place) × (slice_get members q ≡ Some x)) → Each (AtPlace (setting_in x).iface.facts script (q + 1) merged) (places_of (view_in x).run)
      by (inl its) =
          subst (λ n. Each (AtPlace (setting_in x).iface.facts script (n + 1) merged) (places_of (view_in x).run)) (sym its.0)
          (subst (λ (y : Membered). Each (AtPlace (setting_in y).iface.facts script (place + 1) merged) (places_of (view_in y).run)) (sym its.1)
          (moved (λ z v. Each (AtPlace z.iface.facts script (place + 1) merged) (places_of v.run)) m changes.new now changes.service changes.tables changes.view_is own))
      by (inr other) = all q x other.1

  -- a client takes its turn at one of them
  pub asked_turn : (c : ℕ) → 1 ≤ c → c ≤ most_client script.clients → RecoversSoFar (setting_in m) (view_in m) → Notes (view_in m) c now.run.boots → (then : List MultiEntry)
      → GrowsTo (place + 1) (view_in m).history is.merged now.history then → AreAskedSoFar members script is.merged → AreAskedSoFar later script then
  asked_turn c first last told notes then grown all = by grown
    where
      noted_so : AreAskedSoFar later script is.merged
      noted_so = asked_at is.merged (asked_noted members script given order is place m changes.there c first last told now.run.boots notes (all place m changes.there)) all

      by : GrowsTo (place + 1) (view_in m).history is.merged now.history then → AreAskedSoFar later script then
      by (inl (history, are)) = subst (AreAskedSoFar later script) (sym are) noted_so
      by (inr (e, history, are)) = subst (AreAskedSoFar later script) (sym are) (asked_more later script is.merged (record { member = place + 1; entry = e }) noted_so)

  -- nothing is noted, and no entry is made
  pub asked_still : now.run.boots ≡ (view_in m).run.boots → (then : List MultiEntry) → then ≡ is.merged → AreAskedSoFar members script is.merged → AreAskedSoFar later script then
  asked_still boots then same all =
      subst (AreAskedSoFar later script) (sym same)
      (asked_at is.merged (subst (λ l. Each (AtPlace (setting_in m).iface.facts script (place + 1) is.merged) (places_from [] l)) (sym boots) (all place m changes.there)) all)

-- nothing was done yet
pub asked_new : (members : List Membered) (script : MultiScript) (merged : List MultiEntry) (n : ℕ) → ((q : ℕ) (x : Membered) → slice_get members q ≡ Some x → view_in x ≡ new_world (replicate n no_seat)) → AreAskedSoFar members script merged
asked_new members script merged n new q x there = subst (λ (v : WorldView). Each (AtPlace (setting_in x).iface.facts script (q + 1) merged) (places_of v.run)) (sym (new q x there)) tt

-- ---- the end

module _ (members : List Membered) (script : MultiScript) (given : List (List ℕ)) (order : List ℕ) (is : KeepsMulti members script given order) (place : ℕ) (m : Membered) (there : slice_get members place ≡ Some m) where
  -- the entries before that of a call, and the others
  abbrev before_it : ℕ → ℕ → List MultiEntry
  before_it client seq = take_while (λ e. not (is_of_call (place + 1) client seq e)) is.merged

  abbrev after_it : ℕ → ℕ → List MultiEntry
  after_it client seq = drop (prefix_len (λ e. not (is_of_call (place + 1) client seq e)) is.merged) is.merged

  -- the earlier calls of a client's call are no more than are done before it
  bounded : (client seq done : ℕ) → IsCallAfter script (place + 1) client seq done → number_over_all is.merged (place + 1) client seq ≤ done + 1
  bounded client seq done call = by (cases_lt done (length (own_in client (before_it client seq))))
    where
      wrong : (b : List MultiEntry) (e : MultiEntry) (r : List MultiEntry) → before_it client seq ≡ b ++ e ∷ r → e.entry.call.client ≡ client → length (own_in client b) ≡ done → ⊥
      wrong b e r split its count =
          let whole : is.merged ≡ b ++ e ∷ (r ++ after_it client seq)
          = sym (take-append-drop (prefix_len (λ e. not (is_of_call (place + 1) client seq e)) is.merged) is.merged) ∙ ap (λ l. l ++ after_it client seq) split ∙ append_assoc b (e ∷ r) (after_it client seq) in
          let owned : own_in client is.merged ≡ own_in client b ++ e ∷ own_in client (r ++ after_it client seq) = ap (own_in client) whole ∙ own_split client b e (r ++ after_it client seq) its in
          let range = is.none_else client (λ none. by_length (own_in client b) e (own_in client (r ++ after_it client seq)) (sym owned ∙ none)) in
          let made : AreFirstMultiCalls (interfaces_of members) is.merged client (own_in client b ++ e ∷ own_in client (r ++ after_it client seq)) (multi_calls script client)
          = subst (λ es. AreFirstMultiCalls (interfaces_of members) is.merged client es (multi_calls script client)) owned (is.callers client range.0 range.1).made in
          let at : e.member ≡ place + 1
          = at_its_member (interfaces_of members) is.merged client (own_in client b) e (own_in client (r ++ after_it client seq)) (multi_calls script client) call.written made (ap (slice_get (multi_calls script client)) count ∙ call.next) ∙ call.its_member in
          let history : (view_in m).history ≡ entries_at (place + 1) b ++ e.entry ∷ entries_at (place + 1) (r ++ after_it client seq)
          = sym (is.merges.each place (view_in m).history (mapped_at (λ (x : Membered). (view_in x).history) members place m there)) ∙ ap (entries_at (place + 1)) whole ∙ entries_split (place + 1) b e (r ++ after_it client seq) at in
          let number : e.entry.call.seq ≡ seq
          = number_in [] (entries_at (place + 1) b) e.entry (entries_at (place + 1) (r ++ after_it client seq)) (subst (AreNumbered []) history (is.each place m there).numbered)
          ∙ ap (λ n. length (calls_of (entries_at (place + 1) b) n) + 1) its ∙ ap (λ (l : List Entry). length l + 1) (calls_at b (place + 1) client)
          ∙ ap (λ n. n + 1) (as_many_there (interfaces_of members) is.merged client (place + 1) (own_in client b) (multi_calls script client)
          (first_front (interfaces_of members) is.merged client (own_in client b) (e ∷ own_in client (r ++ after_it client seq)) (multi_calls script client) made))
          ∙ ap (λ n. length (calls_there (place + 1) (take n (multi_calls script client))) + 1) count ∙ call.number in
          let its_own : is_of_call (place + 1) client seq e ≡ true
          = ap (λ t. t && (e.entry.call.client == client) && (e.entry.call.seq == seq)) (same_test e.member (place + 1) at)
          ∙ ap (λ t. t && (e.entry.call.seq == seq)) (same_test e.entry.call.client client its) ∙ same_test e.entry.call.seq seq number in
          let passed : not (is_of_call (place + 1) client seq e) ≡ true = passes (λ e. not (is_of_call (place + 1) client seq e)) is.merged b e r split in
          cc (sym (ap not its_own) ∙ passed)
        where
          by_length : (xs : List MultiEntry) (x : MultiEntry) (ys : List MultiEntry) → xs ++ x ∷ ys ≡ [] → ⊥
          by_length xs x ys none = omega (arith, ap (λ (l : List MultiEntry). length l) none, length-append xs (x ∷ ys))

      by : (done < length (own_in client (before_it client seq))) ⊎ (length (own_in client (before_it client seq)) ≤ done) → number_over_all is.merged (place + 1) client seq ≤ done + 1
      by (inl more) = let found = behind_own client done (before_it client seq) more in absurd (wrong found.0 found.1 found.2 found.3 found.4 found.5)
      by (inr most) = omega (arith, most)

  in_turn : (p : Position) (tag : Tag) → WasAsked (setting_in m).iface.facts script is.merged (place + 1) p tag → IsAskedInTurn (setting_in m).iface.facts is.merged (place + 1) p tag
  in_turn p (Walk id k client) a = tt
  in_turn p (Load key client) a = tt
  in_turn p (Client client seq) a = λ before e later same its visible answered. omega (arith, bounded client seq a.done a.call, a.later before e later same its visible answered)

  -- as it is promised
  pub asked_over : AreAskedSoFar members script is.merged → Each (λ p. IsAskedInTurn (setting_in m).iface.facts is.merged (place + 1) p p.item.tag) (places_of (view_in m).run)
  asked_over all =
      each_map (AtPlace (setting_in m).iface.facts script (place + 1) is.merged) (λ p. IsAskedInTurn (setting_in m).iface.facts is.merged (place + 1) p p.item.tag) (places_of (view_in m).run)
      (λ p. in_turn p p.item.tag) (all place m there)

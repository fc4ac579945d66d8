-- A descriptor of which a walk is under way has the row that it had when its boot opened.
use Rattle.std.proofs.Common.{◌≡◌, ◌≢◌, ℕ, Bool, true, false, cond, ◌||◌, ◌&&◌, not, List, [], ◌∷◌, ◌++◌, None, Some, filter, find, map, refl, sym, ◌∙◌, ap, subst, append_assoc, inl, inr, arith}
use Rattle.std.specs.Prelude.{◌==◌, if◌then◌else◌}
use Rattle.std.specs.List.{list_all, list_any}
use Rattle.std.specs.declared.option.Option.{Option}
use Rattle.std.proofs.lemmas.Bool.Decides.{eqb_tells, nat_tests}
use Rattle.sg_facts.specs.sg_base.Lists.{Each, When}
use Rattle.sg_facts.specs.sg_base.declared.call.Call.{Call}
use Rattle.sg_facts.specs.sg_base.declared.reply.Good.{Good}
use Rattle.sg_facts.specs.sg_base.declared.reply.Reply.{Reply}
use Rattle.sg_facts.specs.sg_base.declared.reply.Reply.TheVariants.{Ok, Refused}
use Rattle.sg_facts.proofs.RowLists.{row_at-changed}
use Rattle.sg_facts.specs.Allowed.{is_allowed}
use Rattle.sg_facts.specs.Facts.{Facts, fun_at}
use Rattle.sg_facts.specs.Guard.{guard}
use Rattle.sg_facts.specs.Inside.Guards.{is_own, is_there}
use Rattle.sg_facts.specs.Kinds.{IsCall}
use Rattle.sg_facts.specs.Needs.{is_wanted}
use Rattle.sg_facts.specs.Object.{Object, after, empty_object, object_of}
use Rattle.sg_facts.specs.Inside.Rows.{object_from, row_after, track}
use Rattle.sg_facts.specs.Trace.{Boot, Run}
use Rattle.sg_facts.specs.Track.{ends_with, is_ancestor, new_row, row_at}
use Rattle.sg_facts.specs.declared.entry.Entry.{Entry}
use Rattle.sg_facts.specs.declared.outcome.Outcome.{Outcome}
use Rattle.sg_facts.specs.declared.outcome.Outcome.TheVariants.{Replied, Blocks, Stopped, NoMemory}
use Rattle.sg_facts.specs.declared.row.Row.{Row}
use Rattle.sg_facts.specs.declared.trace.Item.{Item}
use Rattle.sg_facts.specs.declared.trace.Tag.{Tag}
use Rattle.sg_facts.specs.declared.trace.Tag.TheVariants.{Walk, Load, Client}
use Rattle.sg_report.specs.sg_hist.Reading.{Position, id_given, is_made, is_ok, is_tagged, is_whole_at, item_of, items_of, object_before, stands_before}
use Rattle.sg_report.specs.sg_hist.Inside.Reads.{desc_of, made_by}
use Rattle.sg_report.specs.sg_hist.Recovered.{IsAdmitted, IsNextCall, IsRebuiltFor, IsRecovered, IsReplyOf, IsTracked, Stubs}
use Rattle.sg_report.specs.sg_hist.Inside.Parts.{GivesEntry, IsCallOfRow, IsWalked, HasItem, IsDemanded, IsTrackedAt}
use Rattle.sg_world_laws.proofs.sg_recovery_laws.Objects.Guarded.{acts, let_pass}
use Rattle.sg_facts.proofs.Replaying.Found.{from_left, from_more, other_test, same_test}
use Rattle.sg_world_laws.proofs.Drawn.{object_after}
use Rattle.sg_cost.specs.Costs.{opening}
use Rattle.sg_cost.proofs.Few.Lists.{any_right, both_true, each_left}
use Rattle.sg_cost.proofs.Few.Openings.{InBoot, comes, in_boot, newer_ones, opens, ordered}
use Rattle.sg_cost.proofs.Few.Places.{at_one, each_in_boot, place_at, whole_later}

-- an entry makes no row of an id, and changes none
pub record Leaves (facts : Facts) (id : ℕ) (e : Entry) : Type 0 where
  pub made : (good : Good) → e.reply ≡ Ok good → (fun_at facts.funs e.call.fun).creation ≡ true → good.desc ≢ id
  pub changed : (good : Good) → e.reply ≡ Ok good → (fun_at facts.funs e.call.fun).query ≡ false → (fun_at facts.funs e.call.fun).creation ≡ false → e.call.desc ≢ id

-- the row that an id has after such an entry, it had before
row_back : (facts : Facts) (o : Object) (e : Entry) (id : ℕ) (r : Row) → Leaves facts id e → row_at (after facts o e.call e.reply).rows id ≡ Some r → row_at o.rows id ≡ Some r
row_back facts o e id r leaves there = by e.reply refl there
  where
    by : (reply : Reply) → e.reply ≡ reply → row_at (track facts o.rows e.call reply) id ≡ Some r → row_at o.rows id ≡ Some r
    by (Refused code) is there = there
    by (Ok good) is there = at (fun_at facts.funs e.call.fun).query (fun_at facts.funs e.call.fun).creation (fun_at facts.funs e.call.fun).terminal refl refl there
      where
        at : (q c t : Bool) → (fun_at facts.funs e.call.fun).query ≡ q → (fun_at facts.funs e.call.fun).creation ≡ c
            → row_at (cond q o.rows (cond c (o.rows ++ new_row facts e.call good ∷ []) (cond t (filter (λ x. not (ends_with facts o.rows e.call.desc x.id)) o.rows)
            (map (λ x. if x.id == e.call.desc then row_after facts e.call good x else x) o.rows)))) id ≡ Some r → row_at o.rows id ≡ Some r
        at true c t q_is c_is there = there
        at false true t q_is c_is there = elim (from_more (λ x. Unit {0}) 0 0 o.rows (new_row facts e.call good) r id there) [
          | inl was ↦ was
          | inr new ↦ absurd (leaves.made good is c_is new.1)
        ]
        at false false true q_is c_is there = let was = from_left (λ x. not (ends_with facts o.rows e.call.desc x)) o.rows id r there in was.there
        at false false false q_is c_is there =
            sym (row_at-changed (row_after facts e.call good) (λ x. refl) o.rows e.call.desc id (other_test id e.call.desc (λ same. leaves.changed good is q_is c_is (sym same)))) ∙ there

rows_back : (facts : Facts) (id : ℕ) (r : Row) (es : List Entry) (o : Object) → Each (Leaves facts id) es → row_at (object_from facts o es).rows id ≡ Some r → row_at o.rows id ≡ Some r
rows_back facts id r [] o all there = there
rows_back facts id r (e ∷ es) o all there = row_back facts o e id r all.0 (rows_back facts id r es (after facts o e.call e.reply) all.1 there)

-- ---- what items say

tag_is : (client seq : ℕ) (t : Tag) → is_tagged client seq t ≡ true → t ≡ Client client seq
tag_is client seq (Walk id k c) is = absurd (cc is)
tag_is client seq (Load key c) is = absurd (cc is)
tag_is client seq (Client c n) is =
    let two = both_true (c == client) (n == seq) is in
    let one : c ≡ client = let t = two.0 in grind (arith, nat_tests, t) in
    let other : n ≡ seq = let t = two.1 in grind (arith, nat_tests, t) in
    ap (λ x. Client x n) one ∙ ap (λ x. Client client x) other

-- an item that gave an Ok was one
ok_given : (names : List (ℕ × ℕ)) (outcome : Outcome) (good : Good) → IsReplyOf names outcome (Ok good) → is_ok outcome ≡ true
ok_given names (Replied (Ok real) patch) good is = refl
ok_given names (Replied (Refused code) patch) good is = absurd is
ok_given names Blocks good is = absurd is
ok_given names Stopped good is = absurd is
ok_given names NoMemory good is = absurd is

found_passes : (f : ℕ → Bool) (ns : List ℕ) (n : ℕ) → find f ns ≡ Some n → f n ≡ true
found_passes f [] n is = absurd (cc is)
found_passes f (x ∷ ns) n is = by (f x) refl is (found_passes f ns n)
  where
    by : (b : Bool) → f x ≡ b → cond b (Some x) (find f ns) ≡ Some n → (find f ns ≡ Some n → f n ≡ true) → f n ≡ true
    by true passes is rest = let one : x ≡ n = cc is in subst (λ y. f y ≡ true) one passes
    by false fails is rest = rest is

-- what holds of all needed ids holds of a needed row's
needed_passes : (need : ℕ → Bool) (test : ℕ → Bool) (rows : List Row) (id : ℕ) (r : Row) → list_all test (map (λ x. x.id) (filter (λ x. need x.id) rows)) ≡ true → row_at rows id ≡ Some r → need id ≡ true → test id ≡ true
needed_passes need test [] id r all there needed = absurd (cc there)
needed_passes need test (x ∷ rows) id r all there needed = elim (eqb_tells x.id id) [
  | inl same ↦
      let is : need x.id ≡ true = ap need same.1 ∙ needed in
      let first = both_true (test x.id) (list_all test (map (λ x. x.id) (filter (λ x. need x.id) rows))) (sym (ap (λ b. list_all test (map (λ x. x.id) (cond b (x ∷ filter (λ x. need x.id) rows) (filter (λ x. need x.id) rows)))) is) ∙ all) in
      sym (ap test same.1) ∙ first.0
  | inr other ↦ needed_passes need test rows id r (rest (need x.id) all) (sym (ap (λ b. cond b (Some x) (row_at rows id)) other.0) ∙ there) needed
]
  where
    rest : (b : Bool) → list_all test (map (λ x. x.id) (cond b (x ∷ filter (λ x. need x.id) rows) (filter (λ x. need x.id) rows))) ≡ true → list_all test (map (λ x. x.id) (filter (λ x. need x.id) rows)) ≡ true
    rest true all = (both_true (test x.id) (list_all test (map (λ x. x.id) (filter (λ x. need x.id) rows))) all).1
    rest false all = all

module _ (s : Stubs) (history : List Entry) (run : Run) (unanswered : List Call) (recovered : IsRecovered s history run unanswered) (allowed : is_allowed s.interface.facts ≡ true)
    (before : List Boot) (b : Boot) (behind : List Boot) (boots : run.boots ≡ before ++ b ∷ behind) (f : List Item) (y : Item) (rest : List Item) (items : b.items ≡ f ++ y ∷ rest)
    (id k client : ℕ) (walk : y.tag ≡ Walk id k client) where
  abbrev facts : Facts
  facts = s.interface.facts

  abbrev here : Position
  here = place_at (items_of before) f y rest (items_of behind)

  -- the id isn't whole there
  not_whole : is_whole_at facts s.walks history here id ≡ false
  not_whole =
      let demanded : IsDemanded s.interface s.walks history unanswered here y.tag
      = at_one (λ p. IsDemanded s.interface s.walks history unanswered p p.item.tag) (items_of before) f y rest (items_of behind) b.items items
      (each_in_boot (λ p. IsDemanded s.interface s.walks history unanswered p p.item.tag) run before b behind boots recovered.on_demand) in
      let rebuilt : IsRebuiltFor s.interface s.walks history unanswered here client id = subst (IsDemanded s.interface s.walks history unanswered here) walk demanded in
      not_not (is_whole_at facts s.walks history here id) (found_passes (λ n. not (is_whole_at facts s.walks history here n)) _ id rebuilt.least)
    where
      not_not : (a : Bool) → not a ≡ true → a ≡ false
      not_not true is = absurd (cc is)
      not_not false is = refl

  -- it is the next call of the row's walk
  pub next_call : (r : Row) → row_at (object_before facts history here).rows id ≡ Some r → IsNextCall facts s.walks history here id k r
  next_call r there =
      let walked = at_one (λ p. IsWalked facts s.walks history p p.item.tag) (items_of before) f y rest (items_of behind) b.items items
      (each_in_boot (λ p. IsWalked facts s.walks history p p.item.tag) run before b behind boots recovered.walks) in
      let its : IsWalked facts s.walks history here (Walk id k client) = subst (IsWalked facts s.walks history here) walk walked in
      subst (IsCallOfRow facts s.walks history here id k) there its

  -- and it has one
  pub has_row : (r : Row) × (row_at (object_before facts history here).rows id ≡ Some r)
  has_row =
      let walked = at_one (λ p. IsWalked facts s.walks history p p.item.tag) (items_of before) f y rest (items_of behind) b.items items
      (each_in_boot (λ p. IsWalked facts s.walks history p p.item.tag) run before b behind boots recovered.walks) in
      let its : IsWalked facts s.walks history here (Walk id k client) = subst (IsWalked facts s.walks history here) walk walked in
      by (row_at (object_before facts history here).rows id) refl its
    where
      by : (found : Option Row) → row_at (object_before facts history here).rows id ≡ found → IsCallOfRow facts s.walks history here id k found → (r : Row) × (row_at (object_before facts history here).rows id ≡ Some r)
      by None is its = absurd its
      by (Some r) is its = (r, is)

  -- an entry of the boot leaves its row
  leaves : (r : Row) → row_at (object_before facts history here).rows id ≡ Some r → (e : Entry) → HasItem facts history run e → IsCall facts e.call → id_given history e.call.client e.call.seq ≡ desc_of e.reply
      → InBoot run before b behind boots f y rest items e → Leaves facts id e
  leaves r there e has is_call given i = record { made = made; changed = changed }
    where
      at : Position
      at = place_at (items_of before) i.front i.item (i.mid ++ y ∷ rest) (items_of behind)

      split : b.items ≡ i.front ++ i.item ∷ (i.mid ++ y ∷ rest)
      split = items ∙ ap (λ x. x ++ y ∷ rest) i.is ∙ append_assoc i.front (i.item ∷ i.mid) (y ∷ rest)

      gives : GivesEntry facts history e (Some at)
      gives = subst (GivesEntry facts history e) i.at (subst (λ g. When (not g) (GivesEntry facts history e (item_of run e))) i.served has)

      tag : i.item.tag ≡ Client e.call.client e.call.seq
      tag = tag_is e.call.client e.call.seq i.item.tag i.own

      made : (good : Good) → e.reply ≡ Ok good → (fun_at facts.funs e.call.fun).creation ≡ true → good.desc ≢ id
      made good is makes same =
          let ok : is_ok i.item.outcome ≡ true = ok_given _ i.item.outcome good (subst (IsReplyOf _ i.item.outcome) is gives.1) in
          let its : id_given history e.call.client e.call.seq ≡ id = given ∙ ap desc_of is ∙ same in
          let by_it : made_by facts history id i.item.shown.fun i.item.tag ≡ true
          = ap (made_by facts history id i.item.shown.fun) tag ∙ ap (λ c. (fun_at facts.funs c.fun).creation && (id_given history e.call.client e.call.seq == id)) gives.0
          ∙ ap (λ a. a && (id_given history e.call.client e.call.seq == id)) makes ∙ same_test (id_given history e.call.client e.call.seq) id its in
          let own : is_made facts history id i.item ≡ true = ap (λ a. a && made_by facts history id i.item.shown.fun i.item.tag) ok ∙ by_it in
          let any : list_any (is_made facts history id) f ≡ true
          = ap (list_any (is_made facts history id)) i.is ∙ any_right (is_made facts history id) i.front (i.item ∷ i.mid) (ap (λ a. a || list_any (is_made facts history id) i.mid) own) in
          let both : true ≡ false = sym any ∙ (next_call r there).unmade in
          cc both

      -- its call passed the guard there, and what it needs was whole
      admitted : IsAdmitted s.interface history unanswered (stands_before at) e.call.client i.item.shown
      admitted =
          let demanded = at_one (λ p. IsDemanded s.interface s.walks history unanswered p p.item.tag) (items_of before) i.front i.item (i.mid ++ y ∷ rest) (items_of behind) b.items split
          (each_in_boot (λ p. IsDemanded s.interface s.walks history unanswered p p.item.tag) run before b behind boots recovered.on_demand) in
          subst (IsDemanded s.interface s.walks history unanswered at) tag demanded

      tracked : IsTracked s.interface s.walks history at
      tracked =
          let all = at_one (λ p. IsTrackedAt s.interface s.walks history p p.item.tag) (items_of before) i.front i.item (i.mid ++ y ∷ rest) (items_of behind) b.items split
          (each_in_boot (λ p. IsTrackedAt s.interface s.walks history p p.item.tag) run before b behind boots recovered.tracked_state) in
          subst (IsTrackedAt s.interface s.walks history at) tag all

      changed : (good : Good) → e.reply ≡ Ok good → (fun_at facts.funs e.call.fun).query ≡ false → (fun_at facts.funs e.call.fun).creation ≡ false → e.call.desc ≢ id
      changed good is no_query makes_none same =
          let o = object_before facts history at in
          let guarded : guard s.interface o e.call ≡ None = ap (guard s.interface o) (sym gives.0) ∙ admitted.guarded in
          let takes = ((acts facts e.call.fun allowed is_call.first is_call.last).on makes_none no_query).0 in
          let row = used o.rows e.call.desc e.call.client facts.global (row_at o.rows e.call.desc) refl ((let_pass s.interface o e.call no_query guarded).desc takes) in
          let whole : list_all (is_whole_at facts s.walks history at) (map (λ x. x.id) (filter (is_wanted s.interface o.rows e.call) o.rows)) ≡ true
          = ap (λ c. list_all (is_whole_at facts s.walks history at) (map (λ x. x.id) (filter (is_wanted s.interface o.rows c) o.rows))) (sym gives.0) ∙ tracked.whole in
          let need : (s.interface.eager || ((fun_at facts.funs e.call.fun).all || (e.call.desc == e.call.desc) || is_ancestor o.rows e.call.desc e.call.desc)) ≡ true
          = ap (λ t. s.interface.eager || ((fun_at facts.funs e.call.fun).all || t || is_ancestor o.rows e.call.desc e.call.desc)) (same_test e.call.desc e.call.desc refl)
          ∙ wanted_own s.interface.eager (fun_at facts.funs e.call.fun).all (is_ancestor o.rows e.call.desc e.call.desc) in
          let there_whole = needed_passes (λ n. s.interface.eager || ((fun_at facts.funs e.call.fun).all || (n == e.call.desc) || is_ancestor o.rows n e.call.desc)) (is_whole_at facts s.walks history at) o.rows e.call.desc row.0 whole row.1 need in
          let later = whole_later facts s.walks history e.call.desc (items_of before) i.front i.item i.mid y rest (items_of behind) there_whole in
          let now : is_whole_at facts s.walks history here id ≡ true
          = ap (is_whole_at facts s.walks history here) (sym same) ∙ ap (λ l. is_whole_at facts s.walks history (place_at (items_of before) l y rest (items_of behind)) e.call.desc) i.is ∙ later in
          let both : true ≡ false = sym now ∙ not_whole in
          cc both
        where
          used : (rows : List Row) (n c : ℕ) (g : Bool) (found : Option Row) → row_at rows n ≡ found → cond g (is_there found) (is_own found c) ≡ true → (r : Row) × (row_at rows n ≡ Some r)
          used rows n c g (Some r) is may = (r, is)
          used rows n c true None is may = absurd (cc may)
          used rows n c false None is may = absurd (cc may)

          wanted_own : (w a c : Bool) → (w || (a || true || c)) ≡ true
          wanted_own true a c = refl
          wanted_own false true c = refl
          wanted_own false false c = refl

  -- its row is that of the opening
  pub row_then : Each (HasItem facts history run) history → Each (λ e. IsCall facts e.call) history → Each (λ e. id_given history e.call.client e.call.seq ≡ desc_of e.reply) history
      → (r : Row) → row_at (object_before facts history here).rows id ≡ Some r → row_at (opening facts history before (b ∷ behind)).rows id ≡ Some r
  row_then has calls given r there =
      rows_back facts id r (newer_ones run before b behind boots f y rest items history) (opening facts history before (b ∷ behind))
      (each_left (Leaves facts id) (λ e. comes run before b behind boots f y rest items e && not (opens run before b behind boots e)) history (all history has calls given))
      (sym (ap (λ o. row_at o.rows id) (ap (object_of facts) (ordered run before b behind boots f y rest items facts 0 history recovered.held)
      ∙ object_after facts empty_object (filter (opens run before b behind boots) history) (newer_ones run before b behind boots f y rest items history))) ∙ there)
    where
      all : (hs : List Entry) → Each (HasItem facts history run) hs → Each (λ e. IsCall facts e.call) hs → Each (λ e. id_given history e.call.client e.call.seq ≡ desc_of e.reply) hs
          → Each (λ e. (comes run before b behind boots f y rest items e && not (opens run before b behind boots e)) ≡ true → Leaves facts id e) hs
      all [] has calls given = tt
      all (e ∷ hs) has calls given = (
        (λ is. let two = both_true (comes run before b behind boots f y rest items e) (not (opens run before b behind boots e)) is in
            leaves r there e has.0 calls.0 given.0 (in_boot run before b behind boots f y rest items e two.0 (not_so (opens run before b behind boots e) two.1))),
        all hs has.1 calls.1 given.1,
      )
        where
          not_so : (a : Bool) → not a ≡ true → a ≡ false
          not_so true is = absurd (cc is)
          not_so false is = refl

-- What an item rests on stays: where an item is noted, with its entry or without, and where a refusal by the guard is appended.
use Rattle.std.proofs.Common.{◌≡◌, ℕ, Bool, true, false, ◌==◌, ◌≤◌, ◌<◌, not, subst, ◌&&◌, ◌||◌, List, [], ◌∷◌, ◌++◌, refl, sym, ◌∙◌, ap, append_assoc, arith}
use Rattle.std.proofs.lemmas.Bool.Decides.{nat_tests}
use Rattle.std.proofs.lemmas.List.Folds.{list_any-append}
use Rattle.std.specs.List.{list_any}
use Rattle.sg_facts.specs.sg_base.Lists.{Each, When}
use Rattle.sg_facts.specs.sg_base.declared.call.Call.{Call}
use Rattle.sg_facts.specs.declared.entry.Entry.{Entry}
use Rattle.sg_facts.specs.declared.tables.WalkLine.{WalkLine}
use Rattle.sg_facts.specs.declared.trace.Item.{Item}
use Rattle.sg_facts.specs.Facts.{Facts, is_visible}
use Rattle.sg_facts.specs.Object.{object_of}
use Rattle.sg_recovery_laws.proofs.Given.{IsGiven, given_same, made_same, names_same, refused_same}
use Rattle.sg_hist.proofs.Growing.{entries_before-committed, entries_before-more, entries_before-not_yet, entries_before-refused, in_older, stands_before-more, stands_before-own}
use Rattle.sg_recovery_laws.proofs.Lists.{each_map}
use Rattle.sg_recovery_laws.proofs.Same.{IsSame, again, any_rebuilt, any_same, rebuilt_again}
use Rattle.sg_hist.specs.Growing.{AreKept, IsGrown, IsLastCall, IsOfNoEntry, IsSameId}
use Rattle.sg_hist.specs.Reading.{Position, items_after, is_by_guard, is_made, is_item_of, is_whole_at, places_in, stands_before}
use Rattle.sg_hist.specs.Inside.Reads.{entries_before, is_rebuilt_at, past}
use Rattle.sg_hist.specs.Recovered.{IsUnderWay, is_answered_later}
use Rattle.sg_recovery_laws.proofs.UnderWay.{AreBelow, AreFrom, below_of, from_of, of_below, of_from}

-- ---- what is whole

whole_grown : (facts : Facts) (walks : List WalkLine) (h h' : List Entry) (item : Item) (p : Position) (r n : List Item) (id : ℕ)
    → list_any (is_made facts h' id) p.front ≡ list_any (is_made facts h id) p.front
    → ((p q : Position) → IsGrown item p q → entries_before h' q ≡ entries_before h p) → r ++ n ≡ items_after p ++ item ∷ []
    → is_whole_at facts walks h' (again p r n) id ≡ is_whole_at facts walks h p id
whole_grown facts walks h h' item p r n id made same more =
    ap (λ b. b || list_any (is_rebuilt_at facts walks h' id) (places_in p.older [] p.front (p.item ∷ (r ++ n)))) made
    ∙ ap (λ v. list_any (is_made facts h id) p.front || list_any (is_rebuilt_at facts walks h' id) (places_in p.older [] p.front (p.item ∷ v))) more
    ∙ ap (λ b. list_any (is_made facts h id) p.front || b)
    (any_rebuilt facts walks h h' id item (places_in p.older [] p.front (p.item ∷ items_after p)) (places_in p.older [] p.front ((p.item ∷ items_after p) ++ item ∷ [])) same
    (in_older p.older [] p.front (p.item ∷ items_after p) item))

-- ---- calls that are under way

-- entries stand before a place as they did before it grew
pub stands_each : (item : Item) (p q : Position) (h : List Entry) → IsOfNoEntry item h → IsGrown item p q → Each (λ e. stands_before q e ≡ stands_before p e) h
stands_each item p q [] none g = tt
stands_each item p q (e ∷ h) none g = (stands_before-more item p q e g none.0, stands_each item p q h none.1 g)

pub when_not : (b : Bool) (A : Type 0) → When (b && false) A
when_not true A = tt
when_not false A = tt

pub when_own : (b c : Bool) (A : Type 0) → (b ≡ true → A) → When (b && c) A
when_own true true A own = own refl
when_own true false A own = tt
when_own false c A own = tt

any_each : (facts : Facts) (f g : Entry → Bool) (h : List Entry) → Each (λ e. g e ≡ f e) h
    → list_any (λ x. is_visible facts x.call.fun && g x) h ≡ list_any (λ x. is_visible facts x.call.fun && f x) h
any_each facts f g [] same = refl
any_each facts f g (e ∷ h) same =
    ap (λ b. (is_visible facts e.call.fun && b) || list_any (λ x. is_visible facts x.call.fun && g x) h) same.0
    ∙ ap (λ b. (is_visible facts e.call.fun && f e) || b) (any_each facts f g h same.1)

below_each : (facts : Facts) (f g : Entry → Bool) (client seq : ℕ) (h : List Entry) → Each (λ e. g e ≡ f e) h → AreBelow facts f client seq h → AreBelow facts g client seq h
below_each facts f g client seq [] same are = tt
below_each facts f g client seq (e ∷ h) same are = (
  subst (λ b. When ((e.call.client == client) && b) (e.call.seq < seq))
      (sym (ap (λ b. b || list_any (λ x. is_visible facts x.call.fun && g x) h) same.0 ∙ ap (λ b. f e || b) (any_each facts f g h same.1))) are.0,
  below_each facts f g client seq h same.1 are.1,
)

from_each : (f g : Entry → Bool) (client seq : ℕ) (late : Bool) (h : List Entry) → Each (λ e. g e ≡ f e) h → AreFrom f client seq late h → AreFrom g client seq late h
from_each f g client seq late [] same are = tt
from_each f g client seq late (e ∷ h) same are =
    let one : (late || is_answered_later g e) ≡ (late || is_answered_later f e) = ap (λ b. late || not (is_by_guard e.reply || b)) same.0 in (
      subst (λ b. When ((e.call.client == client) && b) (seq ≤ e.call.seq)) (sym one) are.0,
      subst (λ b. AreFrom g client seq b h) (sym one) (from_each f g client seq (late || is_answered_later f e) h same.1 are.1),
    )

-- where the same entries stand before the place, and the calls that were made are still made
pub under_each : (facts : Facts) (f g : Entry → Bool) (h : List Entry) (u u' : List Call) → Each (λ e. g e ≡ f e) h → AreKept h u h u'
    → (client : ℕ) (call : Call) → IsUnderWay facts h u f client call → IsUnderWay facts h u' g client call
under_each facts f g h u u' same kept client call w = record {
  its = record { its = w.its.its; made = kept call w.its.made };
  above = of_below facts g client call.seq h (below_each facts f g client call.seq h same (below_of facts f client call.seq h w.above));
  first = of_from g client call.seq false h (from_each f g client call.seq false h same (from_of f client call.seq false h w.first));
}

under_noted : (facts : Facts) (item : Item) (p q : Position) (h : List Entry) (u u' : List Call) → IsOfNoEntry item h → IsGrown item p q → AreKept h u h u'
    → (client : ℕ) (call : Call) → IsUnderWay facts h u (stands_before p) client call → IsUnderWay facts h u' (stands_before q) client call
under_noted facts item p q h u u' none g kept = under_each facts (stands_before p) (stands_before q) h u u' (stands_each item p q h none g) kept

-- an entry more that doesn't stand before the place
pub any_push : (facts : Facts) (before : Entry → Bool) (h : List Entry) (e : Entry) → before e ≡ false
    → list_any (λ x. is_visible facts x.call.fun && before x) (h ++ e ∷ []) ≡ list_any (λ x. is_visible facts x.call.fun && before x) h
any_push facts before [] e stands = ap (λ b. (is_visible facts e.call.fun && b) || false) stands ∙ none (is_visible facts e.call.fun)
  where
    none : (v : Bool) → (v && false) || false ≡ false
    none true = refl
    none false = refl
any_push facts before (x ∷ h) e stands = ap (λ b. (is_visible facts x.call.fun && before x) || b) (any_push facts before h e stands)

below_push : (facts : Facts) (before : Entry → Bool) (client seq : ℕ) (h : List Entry) (e : Entry) → before e ≡ false → AreBelow facts before client seq h → AreBelow facts before client seq (h ++ e ∷ [])
below_push facts before client seq [] e stands are =
    (subst (λ b. When ((e.call.client == client) && (b || false)) (e.call.seq < seq)) (sym stands) (when_not (e.call.client == client) _), tt)
below_push facts before client seq (x ∷ h) e stands are = (
  subst (λ b. When ((x.call.client == client) && (before x || b)) (x.call.seq < seq)) (sym (any_push facts before h e stands)) are.0,
  below_push facts before client seq h e stands are.1,
)

from_push : (before : Entry → Bool) (client seq : ℕ) (late : Bool) (h : List Entry) (e : Entry) → ((e.call.client == client) ≡ true → seq ≤ e.call.seq) → AreFrom before client seq late h
    → AreFrom before client seq late (h ++ e ∷ [])
from_push before client seq late [] e own are = (when_own (e.call.client == client) (late || is_answered_later before e) _ own, tt)
from_push before client seq late (x ∷ h) e own are = (are.0, from_push before client seq (late || is_answered_later before x) h e own are.1)

-- with an entry more that doesn't stand before the place, and is of its client's last call
pub under_more : (facts : Facts) (h : List Entry) (e : Entry) (u u' : List Call) (before : Entry → Bool) → before e ≡ false → IsLastCall h u e.call
    → AreKept h u (h ++ e ∷ []) u' → (client : ℕ) (call : Call) → IsUnderWay facts h u before client call → IsUnderWay facts (h ++ e ∷ []) u' before client call
under_more facts h e u u' before stands last kept client call w = record {
  its = record { its = w.its.its; made = kept call w.its.made };
  above = of_below facts before client call.seq (h ++ e ∷ []) (below_push facts before client call.seq h e stands (below_of facts before client call.seq h w.above));
  first = of_from before client call.seq false (h ++ e ∷ [])
      (from_push before client call.seq false h e (λ own. last call w.its.made (same_client call.client e.call.client client w.its.its own)) (from_of before client call.seq false h w.first));
}
  where
    same_client : (a b c : ℕ) → a ≡ c → b == c ≡ true → a ≡ b
    same_client a b c is own = grind (arith, nat_tests, is, own)

-- ---- what an item rests on

pub same_noted : (facts : Facts) (walks : List WalkLine) (h : List Entry) (u u' : List Call) (item : Item) (p : Position) (r n : List Item)
    → IsOfNoEntry item h → r ++ n ≡ items_after p ++ item ∷ [] → AreKept h u h u' → IsSame facts walks h u h u' p r n
same_noted facts walks h u u' item p r n none more kept =
    let g : IsGrown item p (again p r n) = record { older = refl; front = refl; own = refl; after_it = more } in
    record {
      object = ap (object_of facts) (entries_before-more item p (again p r n) h g none);
      names = refl;
      made = λ id. refl;
      whole = λ id. whole_grown facts walks h h item p r n id refl (λ x y is. entries_before-more item x y h is none) more;
      under_way = under_noted facts item p (again p r n) h u u' none g kept;
    }

pub same_committed : (facts : Facts) (walks : List WalkLine) (h : List Entry) (u u' : List Call) (e : Entry) (item : Item) (p : Position) (r n : List Item)
    → IsOfNoEntry item h → is_item_of e item ≡ true → r ++ n ≡ items_after p ++ item ∷ [] → AreKept h u (h ++ e ∷ []) u'
    → IsLastCall h u e.call
    → Each (IsGiven facts h) p.front → IsSame facts walks h u (h ++ e ∷ []) u' p r n
same_committed facts walks h u u' e item p r n none own more kept last given =
    let g : IsGrown item p (again p r n) = record { older = refl; front = refl; own = refl; after_it = more } in
    let ids : Each (IsSameId facts h (h ++ e ∷ [])) p.front = each_map (IsGiven facts h) (IsSameId facts h (h ++ e ∷ [])) p.front (given_same facts h e) given in
    record {
      object = ap (object_of facts) (entries_before-committed item p (again p r n) h e g none own);
      names = names_same facts h (h ++ e ∷ []) p.front ids;
      made = λ id. made_same facts h (h ++ e ∷ []) id p.front ids;
      whole = λ id. whole_grown facts walks h (h ++ e ∷ []) item p r n id (made_same facts h (h ++ e ∷ []) id p.front ids)
          (λ x y is. entries_before-committed item x y h e is none own) more;
      under_way = λ client call w. under_more facts h e u u' (stands_before (again p r n)) (stands_before-own item p (again p r n) e g own) last kept client call
          (under_noted facts item p (again p r n) h u u none g (λ c has. has) client call w);
    }

pub same_refused : (facts : Facts) (walks : List WalkLine) (h : List Entry) (u u' : List Call) (e : Entry) (p : Position)
    → is_by_guard e.reply ≡ true → IsLastCall h u e.call → AreKept h u (h ++ e ∷ []) u' → IsSame facts walks h u (h ++ e ∷ []) u' p p.rest p.newer
same_refused facts walks h u u' e p guards last kept =
    let ids : Each (IsSameId facts h (h ++ e ∷ [])) p.front = all p.front in
    let made : (id : ℕ) → list_any (is_made facts (h ++ e ∷ []) id) p.front ≡ list_any (is_made facts h id) p.front = λ id. made_same facts h (h ++ e ∷ []) id p.front ids in
    record {
      object = ap (object_of facts) (entries_before-refused p h e guards);
      names = names_same facts h (h ++ e ∷ []) p.front ids;
      made = made;
      whole = λ id. ap (λ b. b || list_any (is_rebuilt_at facts walks (h ++ e ∷ []) id) (places_in p.older [] p.front (p.item ∷ items_after p))) (made id)
          ∙ ap (λ b. list_any (is_made facts h id) p.front || b)
          (any_same (is_rebuilt_at facts walks (h ++ e ∷ []) id) (is_rebuilt_at facts walks h id) (places_in p.older [] p.front (p.item ∷ items_after p))
          (λ x. rebuilt_again facts walks h (h ++ e ∷ []) id x x.rest x.newer (ap (object_of facts) (entries_before-refused x h e guards))));
      under_way = under_more facts h e u u' (stands_before p) (ap (λ b. not b && list_any (is_item_of e) (past p) && not (list_any (is_item_of e) (p.item ∷ items_after p))) guards) last kept;
    }
  where
    all : (items : List Item) → Each (IsSameId facts h (h ++ e ∷ [])) items
    all [] = tt
    all (x ∷ items) = (refused_same facts h e x guards, all items)

-- ---- a held reply that is committed

not_earlier : (a o f i n : Bool) → a && (o || (f || i)) && not n ≡ false → a && (o || f) && not (i || n) ≡ false
not_earlier false o f i n is = refl
not_earlier true false false i n is = refl
not_earlier true true f i true is = turn i
  where
    turn : (i : Bool) → not (i || true) ≡ false
    turn true = refl
    turn false = refl
not_earlier true false true i true is = turn i
  where
    turn : (i : Bool) → not (i || true) ≡ false
    turn true = refl
    turn false = refl
not_earlier true true f i false is = absurd cc
not_earlier true false true i false is = absurd cc

or_assoc : (a b c : Bool) → a || (b || c) ≡ (a || b) || c
or_assoc true b c = refl
or_assoc false b c = refl

-- what doesn't stand before a place doesn't stand before an earlier one of its boot
pub earlier_place : (e : Entry) (older done : List Item) (item : Item) (items newer : List Item)
    → not (is_by_guard e.reply) && list_any (is_item_of e) (older ++ (done ++ item ∷ items)) && not (list_any (is_item_of e) newer) ≡ false
    → stands_before (record { older = older; front = done; item = item; rest = items; newer = newer }) e ≡ false
earlier_place e older done item items newer is =
    let test : Item → Bool = is_item_of e in
    let all : list_any test (older ++ (done ++ item ∷ items)) ≡ list_any test older || (list_any test done || list_any test (item ∷ items))
    = list_any-append test older (done ++ item ∷ items) ∙ ap (λ b. list_any test older || b) (list_any-append test done (item ∷ items)) in
    let later : is_item_of e item || list_any test (items ++ newer) ≡ list_any test (item ∷ items) || list_any test newer
    = ap (λ b. is_item_of e item || b) (list_any-append test items newer) ∙ or_assoc (is_item_of e item) (list_any test items) (list_any test newer) in
    ap (λ b. not (is_by_guard e.reply) && b && not (is_item_of e item || list_any test (items ++ newer))) (list_any-append test older done)
    ∙ ap (λ b. not (is_by_guard e.reply) && (list_any test older || list_any test done) && not b) later
    ∙ not_earlier (not (is_by_guard e.reply)) (list_any test older) (list_any test done) (list_any test (item ∷ items)) (list_any test newer)
    (ap (λ b. not (is_by_guard e.reply) && b && not (list_any test newer)) (sym all) ∙ is)

rebuilt_earlier : (facts : Facts) (walks : List WalkLine) (h : List Entry) (e : Entry) (id : ℕ) (older done items newer : List Item)
    → not (is_by_guard e.reply) && list_any (is_item_of e) (older ++ (done ++ items)) && not (list_any (is_item_of e) newer) ≡ false
    → list_any (is_rebuilt_at facts walks (h ++ e ∷ []) id) (places_in older done items newer) ≡ list_any (is_rebuilt_at facts walks h id) (places_in older done items newer)
rebuilt_earlier facts walks h e id older done [] newer is = refl
rebuilt_earlier facts walks h e id older done (x ∷ items) newer is =
    let p : Position = record { older = older; front = done; item = x; rest = items; newer = newer } in
    let one : is_rebuilt_at facts walks (h ++ e ∷ []) id p ≡ is_rebuilt_at facts walks h id p
    = rebuilt_again facts walks h (h ++ e ∷ []) id p items newer (ap (object_of facts) (entries_before-not_yet p h e (earlier_place e older done x items newer is))) in
    let rest : list_any (is_rebuilt_at facts walks (h ++ e ∷ []) id) (places_in older (done ++ x ∷ []) items newer) ≡ list_any (is_rebuilt_at facts walks h id) (places_in older (done ++ x ∷ []) items newer)
    = rebuilt_earlier facts walks h e id older (done ++ x ∷ []) items newer
    (ap (λ v. not (is_by_guard e.reply) && list_any (is_item_of e) (older ++ v) && not (list_any (is_item_of e) newer)) (append_assoc done (x ∷ []) items) ∙ is) in
    ap (λ b. b || list_any (is_rebuilt_at facts walks (h ++ e ∷ []) id) (places_in older (done ++ x ∷ []) items newer)) one
    ∙ ap (λ b. is_rebuilt_at facts walks h id p || b) rest

pub same_held : (facts : Facts) (walks : List WalkLine) (h : List Entry) (u u' : List Call) (e : Entry) (p : Position)
    → stands_before p e ≡ false → AreKept h u (h ++ e ∷ []) u' → IsLastCall h u e.call
    → Each (IsGiven facts h) p.front → IsSame facts walks h u (h ++ e ∷ []) u' p p.rest p.newer
same_held facts walks h u u' e p after_it kept last given =
    let ids : Each (IsSameId facts h (h ++ e ∷ [])) p.front = each_map (IsGiven facts h) (IsSameId facts h (h ++ e ∷ [])) p.front (given_same facts h e) given in
    record {
      object = ap (object_of facts) (entries_before-not_yet p h e after_it);
      names = names_same facts h (h ++ e ∷ []) p.front ids;
      made = λ id. made_same facts h (h ++ e ∷ []) id p.front ids;
      whole = λ id. ap (λ b. b || list_any (is_rebuilt_at facts walks (h ++ e ∷ []) id) (places_in p.older [] p.front (p.item ∷ items_after p))) (made_same facts h (h ++ e ∷ []) id p.front ids)
          ∙ ap (λ b. list_any (is_made facts h id) p.front || b) (rebuilt_earlier facts walks h e id p.older [] p.front (p.item ∷ items_after p) after_it);
      under_way = under_more facts h e u u' (stands_before p) after_it last kept;
    }

-- What was served stays so: each entry has its item, and each visible reply its entry, in the order of the history.
use Rattle.std.proofs.Common.{◌≡◌, Bool, true, false, not, ◌&&◌, ◌||◌, List, [], ◌∷◌, ◌++◌, Option, None, Some, cond, refl, sym, ◌∙◌, ap, subst, append_assoc, append-nil}
use Rattle.std.proofs.lemmas.Grind.{reverse_onto}
use Rattle.std.proofs.lemmas.List.Folds.{list_any-append}
use Rattle.std.specs.List.{list_all, list_any}
use Rattle.std.specs.Prelude.{find, reverse}
use Rattle.sg_facts.specs.sg_base.Lists.{Each, When}
use Rattle.sg_facts.specs.declared.entry.Entry.{Entry}
use Rattle.sg_facts.specs.declared.trace.Item.{Item}
use Rattle.sg_facts.specs.Facts.{Facts, is_visible}
use Rattle.sg_facts.specs.Trace.{Run}
use Rattle.sg_hist.proofs.Growing.{both_grown}
use Rattle.sg_recovery_laws.proofs.Lists.{each_push}
use Rattle.sg_recovery_laws.proofs.Stays.{stands_each}
use Rattle.sg_hist.specs.Growing.{AreGrown, HasOneMore, IsGrown, IsOfNoEntry}
use Rattle.sg_hist.specs.Reading.{Position, items_after, is_by_guard, is_item_of, item_of, names_at, places_of, stands_before}
use Rattle.sg_hist.specs.Recovered.{AreInOrder, IsReplyOf, is_entered, is_visible_reply}
use Rattle.sg_hist.specs.Inside.Parts.{ComeBefore, HasItem, GivesEntry, IsCommitted}

-- ---- lists from after

reverse_push : {A : Type 0} (xs : List A) (x : A) → reverse (xs ++ x ∷ []) ≡ x ∷ reverse xs
reverse_push [] x = refl
reverse_push (y ∷ xs) x = reverse_onto (xs ++ x ∷ []) y [] ∙ ap (λ v. v ++ y ∷ []) (reverse_push xs x) ∙ ap (λ v. x ∷ v) (sym (reverse_onto xs y []))

pub each_reverse : {A : Type 0} (P : A → Type 0) (xs : List A) → Each P xs → Each P (reverse xs)
each_reverse P [] all = tt
each_reverse P (x ∷ xs) all = subst (Each P) (sym (reverse_onto xs x [])) (each_push P (reverse xs) x (each_reverse P xs all.1) all.0)

reverse_grown : (item : Item) (ps qs : List Position) → AreGrown item ps qs → AreGrown item (reverse ps) (reverse qs)
reverse_grown item [] [] g = tt
reverse_grown item [] (q ∷ qs) g = absurd g
reverse_grown item (p ∷ ps) [] g = absurd g
reverse_grown item (p ∷ ps) (q ∷ qs) g =
    subst (λ v. AreGrown item v (reverse (q ∷ qs))) (sym (reverse_onto ps p []))
    (subst (AreGrown item (reverse ps ++ p ∷ [])) (sym (reverse_onto qs q []))
    (both_grown item (reverse ps) (reverse qs) (p ∷ []) (q ∷ []) (reverse_grown item ps qs g.1) (g.0, tt)))

-- ---- items of entries

-- the place of an entry's item, where there is one, has a property
abbrev pub Has : (Position → Type 0) → Option Position → Type 0
Has P None = Unit {0}
Has P (Some p) = P p

pub found_has : (P : Position → Type 0) (test : Position → Bool) (ps : List Position) → Each P ps → Has P (find test ps)
found_has P test [] all = tt
found_has P test (p ∷ ps) all = by (found_has P test ps all.1) (test p)
  where
    by : Has P (find test ps) → (b : Bool) → Has P (cond b (Some p) (find test ps))
    by rest true = all.0
    by rest false = rest

-- it grew, or there is none
abbrev pub IsGrownTo : Item → Option Position → Option Position → Type 0
IsGrownTo item None None = Unit {0}
IsGrownTo item (Some p) (Some q) = IsGrown item p q
IsGrownTo item None (Some q) = ⊥
IsGrownTo item (Some p) None = ⊥

found_grown : (item : Item) (e : Entry) (ps qs : List Position) → AreGrown item ps qs → IsGrownTo item (find (λ p. is_item_of e p.item) ps) (find (λ p. is_item_of e p.item) qs)
found_grown item e [] [] g = tt
found_grown item e [] (q ∷ qs) g = absurd g
found_grown item e (p ∷ ps) [] g = absurd g
found_grown item e (p ∷ ps) (q ∷ qs) g =
    subst (λ i. IsGrownTo item (find (λ x. is_item_of e x.item) (p ∷ ps)) (cond (is_item_of e i) (Some q) (find (λ x. is_item_of e x.item) qs))) (sym g.0.own)
    (by (found_grown item e ps qs g.1) (is_item_of e p.item))
  where
    by : IsGrownTo item (find (λ x. is_item_of e x.item) ps) (find (λ x. is_item_of e x.item) qs) → (b : Bool)
        → IsGrownTo item (cond b (Some p) (find (λ x. is_item_of e x.item) ps)) (cond b (Some q) (find (λ x. is_item_of e x.item) qs))
    by rest true = g.0
    by rest false = rest

-- of places one of which was added after, the item of an entry is the last one's, or it is where it was
find_last : (e : Entry) (grown : List Position) (last : Position) → find (λ p. is_item_of e p.item) (reverse (grown ++ last ∷ []))
    ≡ cond (is_item_of e last.item) (Some last) (find (λ p. is_item_of e p.item) (reverse grown))
find_last e grown last = ap (find (λ p. is_item_of e p.item)) (reverse_push grown last)

pub item_of-more : (item : Item) (e : Entry) (last : Position) (run later : Run) → HasOneMore item last (places_of run) (places_of later) → last.item ≡ item
    → is_item_of e item ≡ false → IsGrownTo item (item_of run e) (item_of later e)
item_of-more item e last run later more own none =
    let is : item_of later e ≡ find (λ p. is_item_of e p.item) (reverse more.grown)
    = ap (λ ps. find (λ p. is_item_of e p.item) (reverse ps)) more.are ∙ find_last e more.grown last
    ∙ ap (λ b. cond b (Some last) (find (λ p. is_item_of e p.item) (reverse more.grown))) (ap (is_item_of e) own ∙ none) in
    subst (IsGrownTo item (item_of run e)) (sym is)
    (found_grown item e (reverse (places_of run)) (reverse more.grown) (reverse_grown item (places_of run) more.grown more.each))

pub item_of-own : (item : Item) (e : Entry) (last : Position) (run later : Run) → HasOneMore item last (places_of run) (places_of later) → last.item ≡ item
    → is_item_of e item ≡ true → item_of later e ≡ Some last
item_of-own item e last run later more own one =
    ap (λ ps. find (λ p. is_item_of e p.item) (reverse ps)) more.are ∙ find_last e more.grown last
    ∙ ap (λ b. cond b (Some last) (find (λ p. is_item_of e p.item) (reverse more.grown))) (ap (is_item_of e) own ∙ one)

-- ---- entries have their items

-- the names after a place are the same in two histories
abbrev pub IsNamed : Facts → List Entry → List Entry → Position → Type 0
IsNamed facts h h' p = names_at facts h' (p.front ++ p.item ∷ []) ≡ names_at facts h (p.front ++ p.item ∷ [])

-- an entry keeps its item
has_item : (facts : Facts) (h h' : List Entry) (item : Item) (e : Entry) (run later : Run) → IsGrownTo item (item_of run e) (item_of later e)
    → Has (IsNamed facts h h') (item_of run e) → HasItem facts h run e → HasItem facts h' later e
has_item facts h h' item e run later grown named has = by (not (is_by_guard e.reply)) has
  where
    at : (p q : Option Position) → IsGrownTo item p q → Has (IsNamed facts h h') p → GivesEntry facts h e p → GivesEntry facts h' e q
    at None None g named a = a
    at None (Some q) g named a = absurd g
    at (Some p) None g named a = absurd g
    at (Some p) (Some q) g named a = (
      ap (λ i. i.shown) g.own ∙ a.0,
      subst (λ i. IsReplyOf (names_at facts h' (q.front ++ i ∷ [])) i.outcome e.reply) (sym g.own)
          (subst (λ f. IsReplyOf (names_at facts h' (f ++ p.item ∷ [])) p.item.outcome e.reply) (sym g.front)
          (subst (λ ns. IsReplyOf ns p.item.outcome e.reply) (sym named) a.1)),
    )

    by : (b : Bool) → When b (GivesEntry facts h e (item_of run e)) → When b (GivesEntry facts h' e (item_of later e))
    by true a = at (item_of run e) (item_of later e) grown named a
    by false a = tt

pub items_stay : (facts : Facts) (h h' : List Entry) (item : Item) (last : Position) (run later : Run) (es : List Entry)
    → HasOneMore item last (places_of run) (places_of later) → last.item ≡ item → IsOfNoEntry item es → Each (IsNamed facts h h') (places_of run)
    → Each (HasItem facts h run) es → Each (HasItem facts h' later) es
items_stay facts h h' item last run later [] more own none named has = tt
items_stay facts h h' item last run later (e ∷ es) more own none named has = (
  has_item facts h h' item e run later (item_of-more item e last run later more own none.0)
      (found_has (IsNamed facts h h') (λ p. is_item_of e p.item) (reverse (places_of run)) (each_reverse (IsNamed facts h h') (places_of run) named)) has.0,
  items_stay facts h h' item last run later es more own none.1 named has.1,
)

-- in the same run
pub has_same : (facts : Facts) (h h' : List Entry) (run : Run) → Each (IsNamed facts h h') (places_of run) → (e : Entry) → HasItem facts h run e → HasItem facts h' run e
has_same facts h h' run named e has =
    by (found_has (IsNamed facts h h') (λ p. is_item_of e p.item) (reverse (places_of run)) (each_reverse (IsNamed facts h h') (places_of run) named)) (not (is_by_guard e.reply)) has
  where
    at : (p : Option Position) → Has (IsNamed facts h h') p → GivesEntry facts h e p → GivesEntry facts h' e p
    at None named a = a
    at (Some p) named a = (a.0, subst (λ ns. IsReplyOf ns p.item.outcome e.reply) (sym named) a.1)

    by : Has (IsNamed facts h h') (item_of run e) → (b : Bool) → When b (GivesEntry facts h e (item_of run e)) → When b (GivesEntry facts h' e (item_of run e))
    by own true a = at (item_of run e) own a
    by own false a = tt

-- ---- visible replies have their entries

-- no item more is of an entry that has another
after_more : (item : Item) (p q : Position) (e : Entry) → IsGrown item p q → is_item_of e item ≡ false
    → (not (is_by_guard e.reply) && is_item_of e q.item && not (list_any (is_item_of e) (items_after q)))
    ≡ (not (is_by_guard e.reply) && is_item_of e p.item && not (list_any (is_item_of e) (items_after p)))
after_more item p q e g none =
    let later : list_any (is_item_of e) (items_after q) ≡ list_any (is_item_of e) (items_after p)
    = ap (list_any (is_item_of e)) g.after_it ∙ list_any-append (is_item_of e) (items_after p) (item ∷ []) ∙ ap (λ b. list_any (is_item_of e) (items_after p) || (b || false)) none
    ∙ or_none (list_any (is_item_of e) (items_after p)) in
    ap (λ i. not (is_by_guard e.reply) && is_item_of e i && not (list_any (is_item_of e) (items_after q))) g.own
    ∙ ap (λ b. not (is_by_guard e.reply) && is_item_of e p.item && not b) later
  where
    or_none : (b : Bool) → b || (false || false) ≡ b
    or_none true = refl
    or_none false = refl

pub entered_more : (item : Item) (p q : Position) (h : List Entry) → IsGrown item p q → IsOfNoEntry item h → is_entered h q ≡ is_entered h p
entered_more item p q [] g none = refl
entered_more item p q (e ∷ h) g none =
    ap (λ b. b || is_entered h q) (after_more item p q e g none.0)
    ∙ ap (λ b. (not (is_by_guard e.reply) && is_item_of e p.item && not (list_any (is_item_of e) (items_after p))) || b) (entered_more item p q h g none.1)

-- what was entered is so with entries more
pub entered_later : (p : Position) (h es : List Entry) → is_entered h p ≡ true → is_entered (h ++ es) p ≡ true
entered_later p h es is =
    list_any-append (λ e. not (is_by_guard e.reply) && is_item_of e p.item && not (list_any (is_item_of e) (items_after p))) h es ∙ ap (λ b. b || is_entered es p) is

pub committed_stay : (facts : Facts) (item : Item) (h es : List Entry) (p q : Position) → IsGrown item p q → IsOfNoEntry item h → IsCommitted facts h p → IsCommitted facts (h ++ es) q
committed_stay facts item h es p q g none committed =
    subst (λ i. When (is_visible_reply facts i) (is_entered (h ++ es) q ≡ true)) (sym g.own) (by (is_visible_reply facts p.item) committed)
  where
    by : (b : Bool) → When b (is_entered h p ≡ true) → When b (is_entered (h ++ es) q ≡ true)
    by true is = entered_later q h es (entered_more item p q h g none ∙ is)
    by false is = tt

pub committed_later : (facts : Facts) (h es : List Entry) (p : Position) → IsCommitted facts h p → IsCommitted facts (h ++ es) p
committed_later facts h es p committed = by (is_visible_reply facts p.item) committed
  where
    by : (b : Bool) → When b (is_entered h p ≡ true) → When b (is_entered (h ++ es) p ≡ true)
    by true is = entered_later p h es is
    by false is = tt

-- ---- the order of visible calls

earlier_stay : (item : Item) (p q : Position) (es : List Entry) → Each (λ e. stands_before q e ≡ stands_before p e) es
    → list_all (λ e. is_by_guard e.reply || stands_before q e) es ≡ list_all (λ e. is_by_guard e.reply || stands_before p e) es
earlier_stay item p q [] same = refl
earlier_stay item p q (e ∷ es) same =
    ap (λ b. (is_by_guard e.reply || b) && list_all (λ x. is_by_guard x.reply || stands_before q x) es) same.0
    ∙ ap (λ b. (is_by_guard e.reply || stands_before p e) && b) (earlier_stay item p q es same.1)

come_stay : (item : Item) (earlier : List Entry) (p q : Option Position) → IsOfNoEntry item earlier → IsGrownTo item p q → ComeBefore earlier p → ComeBefore earlier q
come_stay item earlier None None none g come = come
come_stay item earlier None (Some q) none g come = absurd g
come_stay item earlier (Some p) None none g come = absurd g
come_stay item earlier (Some p) (Some q) none g come = earlier_stay item p q earlier (stands_each item p q earlier none g) ∙ come

none_push : (item : Item) (h : List Entry) (e : Entry) → IsOfNoEntry item h → is_item_of e item ≡ false → IsOfNoEntry item (h ++ e ∷ [])
none_push item [] e none one = (one, tt)
none_push item (x ∷ h) e none one = (none.0, none_push item h e none.1 one)

pub order_stays : (facts : Facts) (item : Item) (last : Position) (run later : Run) (earlier es : List Entry) → HasOneMore item last (places_of run) (places_of later)
    → last.item ≡ item → IsOfNoEntry item earlier → IsOfNoEntry item es → AreInOrder facts run earlier es → AreInOrder facts later earlier es
order_stays facts item last run later earlier [] more own before none order = tt
order_stays facts item last run later earlier (e ∷ es) more own before none order = (
  by (is_visible facts e.call.fun && not (is_by_guard e.reply)) order.0,
  order_stays facts item last run later (earlier ++ e ∷ []) es more own (none_push item earlier e before none.0) none.1 order.1,
)
  where
    by : (b : Bool) → When b (ComeBefore earlier (item_of run e)) → When b (ComeBefore earlier (item_of later e))
    by true come = come_stay item earlier (item_of run e) (item_of later e) before (item_of-more item e last run later more own none.0) come
    by false come = tt

-- an entry more comes after all
pub order_push : (facts : Facts) (run : Run) (earlier es : List Entry) (e : Entry) → AreInOrder facts run earlier es
    → When (is_visible facts e.call.fun && not (is_by_guard e.reply)) (ComeBefore (earlier ++ es) (item_of run e)) → AreInOrder facts run earlier (es ++ e ∷ [])
order_push facts run earlier [] e order one =
    (subst (λ v. When (is_visible facts e.call.fun && not (is_by_guard e.reply)) (ComeBefore v (item_of run e))) (append-nil earlier) one, tt)
order_push facts run earlier (x ∷ es) e order one = (
  order.0,
  order_push facts run (earlier ++ x ∷ []) es e order.1
      (subst (λ v. When (is_visible facts e.call.fun && not (is_by_guard e.reply)) (ComeBefore v (item_of run e))) (sym (append_assoc earlier (x ∷ []) es)) one),
)

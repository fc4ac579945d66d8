-- The places of a boot, and the place of an entry's item.
use Rattle.std.proofs.Common.{◌≡◌, ℕ, Bool, true, false, ◌||◌, List, [], ◌∷◌, ◌++◌, Some, find, refl, sym, ◌∙◌, ap, subst, append-nil, append_assoc}
use Rattle.std.specs.Prelude.{reverse}
use Rattle.std.specs.List.{list_any}
use Rattle.sg_facts.specs.sg_base.Lists.{Each}
use Rattle.sg_facts.specs.Facts.{Facts}
use Rattle.sg_facts.specs.Trace.{Boot, Run}
use Rattle.sg_facts.specs.declared.entry.Entry.{Entry}
use Rattle.sg_facts.specs.declared.tables.WalkLine.{WalkLine}
use Rattle.sg_facts.specs.declared.trace.Item.{Item}
use Rattle.sg_report.specs.sg_hist.Reading.{Position, is_item_of, is_made, is_whole_at, item_of, items_of, places_from, places_in, places_of}
use Rattle.sg_report.specs.sg_hist.Inside.Reads.{is_rebuilt_at}
use Rattle.sg_world_laws.proofs.sg_recovery_laws.Lists.{each_split}
use Rattle.sg_cost.proofs.Few.Lists.{any_left, find_last, none_all, none_both}

-- an item's place, by what stands around it
abbrev pub place_at : List Item → List Item → Item → List Item → List Item → Position
place_at older front item rest newer = record { older = older; front = front; item = item; rest = rest; newer = newer }

-- ---- what holds of all places of a run

pub items_append : (before boots : List Boot) → items_of (before ++ boots) ≡ items_of before ++ items_of boots
items_append [] boots = refl
items_append (b ∷ before) boots = ap (λ l. b.items ++ l) (items_append before boots) ∙ sym (append_assoc b.items (items_of before) (items_of boots))

each_in : (P : Position → Type 0) (acc : List Item) (before : List Boot) (b : Boot) (behind : List Boot) → Each P (places_from acc (before ++ b ∷ behind))
    → Each P (places_in (acc ++ items_of before) [] b.items (items_of behind))
each_in P acc [] b behind all = subst (λ o. Each P (places_in o [] b.items (items_of behind))) (sym (append-nil acc)) (each_split P (places_in acc [] b.items (items_of behind)) (places_from (acc ++ b.items) behind) all).0
each_in P acc (c ∷ before) b behind all =
    subst (λ o. Each P (places_in o [] b.items (items_of behind))) (append_assoc acc c.items (items_of before))
    (each_in P (acc ++ c.items) before b behind (each_split P (places_in acc [] c.items (items_of (before ++ b ∷ behind))) (places_from (acc ++ c.items) (before ++ b ∷ behind)) all).1)

-- what holds of all places of a run holds of those of a boot
pub each_in_boot : (P : Position → Type 0) (run : Run) (before : List Boot) (b : Boot) (behind : List Boot) → run.boots ≡ before ++ b ∷ behind → Each P (places_of run)
    → Each P (places_in (items_of before) [] b.items (items_of behind))
each_in_boot P run before b behind is all = each_in P [] before b behind (subst (λ l. Each P (places_from [] l)) is all)

each_one : (P : Position → Type 0) (older front f : List Item) (x : Item) (rest newer : List Item) → Each P (places_in older front (f ++ x ∷ rest) newer) → P (place_at older (front ++ f) x rest newer)
each_one P older front [] x rest newer all = subst (λ l. P (place_at older l x rest newer)) (sym (append-nil front)) all.0
each_one P older front (y ∷ f) x rest newer all = subst (λ l. P (place_at older l x rest newer)) (append_assoc front (y ∷ []) f) (each_one P older (front ++ y ∷ []) f x rest newer all.1)

-- and so of each of them
pub at_one : (P : Position → Type 0) (older f : List Item) (x : Item) (rest newer items : List Item) → items ≡ f ++ x ∷ rest → Each P (places_in older [] items newer) → P (place_at older f x rest newer)
at_one P older f x rest newer items is all = each_one P older [] f x rest newer (subst (λ l. Each P (places_in older [] l newer)) is all)

-- ---- the place of an entry's item

any_in : (test : Item → Bool) (older front items newer : List Item) → list_any (λ p. test p.item) (places_in older front items newer) ≡ list_any test items
any_in test older front [] newer = refl
any_in test older front (x ∷ items) newer = ap (λ b. test x || b) (any_in test older (front ++ x ∷ []) items newer)

-- where no item passes, no place does
pub none_in : (test : Item → Bool) (older : List Item) (boots : List Boot) → list_any test (items_of boots) ≡ false → list_any (λ p. test p.item) (places_from older boots) ≡ false
none_in test older [] none = refl
none_in test older (b ∷ boots) none =
    let two = none_both test b.items (items_of boots) none in
    none_all (λ p. test p.item) (places_in older [] b.items (items_of boots)) (places_from (older ++ b.items) boots) (any_in test older [] b.items (items_of boots) ∙ two.one) (none_in test (older ++ b.items) boots two.two)

-- places before and after that of an item
record Splits (ps : List Position) (p : Position) (newer : List Position) : Type 0 where
  older : List Position
  is : ps ≡ older ++ p ∷ newer

in_boot : (older front f : List Item) (x : Item) (rest newer : List Item)
    → Splits (places_in older front (f ++ x ∷ rest) newer) (place_at older (front ++ f) x rest newer) (places_in older (front ++ f ++ x ∷ []) rest newer)
in_boot older front [] x rest newer = record {
  older = [];
  is = ap (λ l. place_at older l x rest newer ∷ places_in older (l ++ x ∷ []) rest newer) (sym (append-nil front));
}
in_boot older front (y ∷ f) x rest newer =
    let s = in_boot older (front ++ y ∷ []) f x rest newer in
    record {
      older = place_at older front y (f ++ x ∷ rest) newer ∷ s.older;
      is = ap (λ l. place_at older front y (f ++ x ∷ rest) newer ∷ l)
          (s.is ∙ ap (λ l. s.older ++ place_at older l x rest newer ∷ places_in older (l ++ x ∷ []) rest newer) (append_assoc front (y ∷ []) f));
    }

in_run : (acc : List Item) (before : List Boot) (b : Boot) (behind : List Boot) (f : List Item) (x : Item) (rest : List Item) → b.items ≡ f ++ x ∷ rest
    → Splits (places_from acc (before ++ b ∷ behind)) (place_at (acc ++ items_of before) f x rest (items_of behind))
    (places_in (acc ++ items_of before) (f ++ x ∷ []) rest (items_of behind) ++ places_from (acc ++ items_of before ++ b.items) behind)
in_run acc [] b behind f x rest is =
    let s = in_boot acc [] f x rest (items_of behind) in
    record {
      older = s.older;
      is = ap (λ l. places_in acc [] l (items_of behind) ++ places_from (acc ++ b.items) behind) is ∙ ap (λ l. l ++ places_from (acc ++ b.items) behind) s.is
          ∙ append_assoc s.older (place_at acc f x rest (items_of behind) ∷ places_in acc (f ++ x ∷ []) rest (items_of behind)) (places_from (acc ++ b.items) behind)
          ∙ ap (λ o. s.older ++ place_at o f x rest (items_of behind) ∷ (places_in o (f ++ x ∷ []) rest (items_of behind) ++ places_from (o ++ b.items) behind)) (sym (append-nil acc));
    }
in_run acc (c ∷ before) b behind f x rest is =
    let s = in_run (acc ++ c.items) before b behind f x rest is in
    record {
      older = places_in acc [] c.items (items_of (before ++ b ∷ behind)) ++ s.older;
      is = ap (λ l. places_in acc [] c.items (items_of (before ++ b ∷ behind)) ++ l) s.is
          ∙ sym (append_assoc (places_in acc [] c.items (items_of (before ++ b ∷ behind))) s.older
          (place_at (acc ++ c.items ++ items_of before) f x rest (items_of behind) ∷ (places_in (acc ++ c.items ++ items_of before) (f ++ x ∷ []) rest (items_of behind) ++ places_from (acc ++ c.items ++ items_of before ++ b.items) behind)))
          ∙ ap (λ o. places_in acc [] c.items (items_of (before ++ b ∷ behind)) ++ s.older ++ place_at o f x rest (items_of behind) ∷ (places_in o (f ++ x ∷ []) rest (items_of behind) ++ places_from (o ++ b.items) behind)) (append_assoc acc c.items (items_of before));
    }

-- the last item of an entry's call is the entry's
pub item_at : (run : Run) (e : Entry) (before : List Boot) (b : Boot) (behind : List Boot) (f : List Item) (x : Item) (rest : List Item)
    → run.boots ≡ before ++ b ∷ behind → b.items ≡ f ++ x ∷ rest → is_item_of e x ≡ true → list_any (is_item_of e) rest ≡ false → list_any (is_item_of e) (items_of behind) ≡ false
    → item_of run e ≡ Some (place_at (items_of before) f x rest (items_of behind))
item_at run e before b behind f x rest boots items own none none_later =
    let s = in_run [] before b behind f x rest items in
    ap (λ l. find (λ p. is_item_of e p.item) (reverse (places_from [] l))) boots ∙ ap (λ l. find (λ p. is_item_of e p.item) (reverse l)) s.is
    ∙ find_last (λ p. is_item_of e p.item) s.older (place_at (items_of before) f x rest (items_of behind))
    (places_in (items_of before) (f ++ x ∷ []) rest (items_of behind) ++ places_from (items_of before ++ b.items) behind) own
    (none_all (λ p. is_item_of e p.item) (places_in (items_of before) (f ++ x ∷ []) rest (items_of behind)) (places_from (items_of before ++ b.items) behind)
    (any_in (is_item_of e) (items_of before) (f ++ x ∷ []) rest (items_of behind) ∙ none) (none_in (is_item_of e) (items_of before ++ b.items) behind none_later))

-- the last boot with an item that passes a test
pub record LastBoot (test : Item → Bool) (boots : List Boot) : Type 0 where
  pub before : List Boot
  pub one : Boot
  pub behind : List Boot
  pub is : boots ≡ before ++ one ∷ behind
  pub any : list_any test one.items ≡ true
  pub none : list_any test (items_of behind) ≡ false

pub last_boot : (test : Item → Bool) (boots : List Boot) → list_any test (items_of boots) ≡ true → LastBoot test boots
last_boot test [] any = absurd (cc any)
last_boot test (b ∷ boots) any = by (list_any test (items_of boots)) refl (last_boot test boots)
  where
    here : (t : Bool) → list_any test b.items ≡ t → list_any test (items_of boots) ≡ false → LastBoot test (b ∷ boots)
    here true is none = record { before = []; one = b; behind = boots; is = refl; any = is; none = none }
    here false is none = absurd (let both : true ≡ false = sym any ∙ none_all test b.items (items_of boots) is none in cc both)

    by : (t : Bool) → list_any test (items_of boots) ≡ t → (list_any test (items_of boots) ≡ true → LastBoot test boots) → LastBoot test (b ∷ boots)
    by true later rest = let l = rest later in record { before = b ∷ l.before; one = l.one; behind = l.behind; is = ap (λ l. b ∷ l) l.is; any = l.any; none = l.none }
    by false later rest = here (list_any test b.items) refl later

-- ---- what is whole stays so in its boot

-- a test of places that looks at what stands before, at the item, and at all that stands after it together
abbrev LooksAround : (Position → Bool) → Type 0
LooksAround test = (older front : List Item) (x : Item) (rest newer : List Item) → test (place_at older front x rest newer) ≡ test (place_at older front x [] (rest ++ newer))

any_more : (test : Position → Bool) → LooksAround test → (older front xs ys newer : List Item) → list_any test (places_in older front xs (ys ++ newer)) ≡ true → list_any test (places_in older front (xs ++ ys) newer) ≡ true
any_more test around older front [] ys newer any = absurd (cc any)
any_more test around older front (x ∷ xs) ys newer any =
    ap (λ b. b || list_any test (places_in older (front ++ x ∷ []) (xs ++ ys) newer)) same ∙ by (test (place_at older front x xs (ys ++ newer))) any (any_more test around older (front ++ x ∷ []) xs ys newer)
  where
    same : test (place_at older front x (xs ++ ys) newer) ≡ test (place_at older front x xs (ys ++ newer))
    same = around older front x (xs ++ ys) newer ∙ ap (λ l. test (place_at older front x [] l)) (append_assoc xs ys newer) ∙ sym (around older front x xs (ys ++ newer))

    by : (b : Bool) → (b || list_any test (places_in older (front ++ x ∷ []) xs (ys ++ newer))) ≡ true
        → (list_any test (places_in older (front ++ x ∷ []) xs (ys ++ newer)) ≡ true → list_any test (places_in older (front ++ x ∷ []) (xs ++ ys) newer) ≡ true)
        → (b || list_any test (places_in older (front ++ x ∷ []) (xs ++ ys) newer)) ≡ true
    by true any rest = refl
    by false any rest = rest any

-- what is whole at a place is so at a later one of the boot
pub whole_later : (facts : Facts) (walks : List WalkLine) (history : List Entry) (id : ℕ) (older f : List Item) (x : Item) (mid : List Item) (y : Item) (rest newer : List Item)
    → is_whole_at facts walks history (place_at older f x (mid ++ y ∷ rest) newer) id ≡ true → is_whole_at facts walks history (place_at older (f ++ x ∷ mid) y rest newer) id ≡ true
whole_later facts walks history id older f x mid y rest newer whole = by (list_any (is_made facts history id) f) refl whole
  where
    rebuilt : Position → Bool
    rebuilt p = is_rebuilt_at facts walks history id p

    by : (m : Bool) → list_any (is_made facts history id) f ≡ m → (m || list_any (is_rebuilt_at facts walks history id) (places_in older [] f (x ∷ (mid ++ y ∷ rest ++ newer)))) ≡ true
        → (list_any (is_made facts history id) (f ++ x ∷ mid) || list_any (is_rebuilt_at facts walks history id) (places_in older [] (f ++ x ∷ mid) (y ∷ (rest ++ newer)))) ≡ true
    by true made is = ap (λ b. b || list_any (is_rebuilt_at facts walks history id) (places_in older [] (f ++ x ∷ mid) (y ∷ (rest ++ newer)))) (any_left (is_made facts history id) f (x ∷ mid) made)
    by false made is =
        or_right (list_any (is_made facts history id) (f ++ x ∷ mid)) (list_any (is_rebuilt_at facts walks history id) (places_in older [] (f ++ x ∷ mid) (y ∷ (rest ++ newer))))
        (any_more (is_rebuilt_at facts walks history id) (λ older front x rest newer. refl) older [] f (x ∷ mid) (y ∷ (rest ++ newer))
        (ap (λ l. list_any (is_rebuilt_at facts walks history id) (places_in older [] f (x ∷ l))) (sym (append_assoc mid (y ∷ rest) newer)) ∙ is))
      where
        or_right : (a b : Bool) → b ≡ true → (a || b) ≡ true
        or_right true b is = refl
        or_right false b is = is

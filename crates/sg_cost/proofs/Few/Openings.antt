-- The entries before a place of a boot: those before the boot's opening, and then those of the boot.
use Rattle.std.proofs.Common.{◌≡◌, ℕ, suc, ◌+◌, ◌<◌, ◌≤◌, Bool, true, false, cond, ◌&&◌, not, List, [], ◌∷◌, ◌++◌, Some, filter, length, refl, sym, ◌∙◌, ap, append_assoc, length-append, arith}
use Rattle.std.specs.Prelude.{if◌then◌else◌}
use Rattle.std.specs.List.{list_any}
use Rattle.sg_facts.specs.Facts.{Facts}
use Rattle.sg_facts.specs.Trace.{Boot, Run}
use Rattle.sg_facts.specs.declared.entry.Entry.{Entry}
use Rattle.sg_facts.specs.declared.trace.Item.{Item}
use Rattle.sg_report.specs.sg_hist.Reading.{Position, is_by_guard, is_item_of, item_of, items_of, stands_before}
use Rattle.sg_report.specs.sg_hist.Recovered.{AreInBoots, is_stopped_after, start_after, start_of}
use Rattle.sg_report.specs.sg_hist.Inside.Parts.{boot_start}
use Rattle.sg_cost.specs.Inside.Pieces.{stands_in}
use Rattle.sg_cost.proofs.Few.Lists.{any_left, both_true, last_of, none_all, none_both}
use Rattle.sg_cost.proofs.Few.Places.{item_at, items_append, last_boot, place_at}

not_true : (b : Bool) → not b ≡ true → b ≡ false
not_true true is = absurd (cc is)
not_true false is = refl

-- three tests that hold
record Three (g a n : Bool) : Type 0 where
  guard : g ≡ false
  any : a ≡ true
  none : n ≡ false

three : (g a n : Bool) → (not g && a && not n) ≡ true → Three g a n
three g a n is =
    let one = both_true (not g && a) (not n) is in
    let two = both_true (not g) a one.0 in
    record { guard = not_true g two.0; any = two.1; none = not_true n one.1 }

all_three : (g a n : Bool) → g ≡ false → a ≡ true → n ≡ false → (not g && a && not n) ≡ true
all_three g a n one two three = ap (λ x. not x && a && not n) one ∙ ap (λ x. x && not n) two ∙ ap not three

-- an entry makes no later one stand before its own boot
pub no_earlier : (facts : Facts) (run : Run) (e : Entry) (low : ℕ) → start_of run e low ≤ start_after facts run e low
no_earlier facts run e low = at (not (is_by_guard e.reply) && list_any (is_stopped_after facts e) run.boots)
  where
    at : (stopped : Bool) → start_of run e low ≤ cond stopped (start_of run e low + 1) (start_of run e low)
    at true = omega arith
    at false = omega arith

module _ (run : Run) (before : List Boot) (b : Boot) (behind : List Boot) (boots : run.boots ≡ before ++ b ∷ behind) where
  abbrev older : List Item
  older = items_of before

  abbrev pub opens : Entry → Bool
  opens e = stands_in before (b ∷ behind) e

  start_is : (e : Entry) (low : ℕ) (p : Position) → is_by_guard e.reply ≡ false → item_of run e ≡ Some p → start_of run e low ≡ length p.older
  start_is e low p none is = ap (λ g. if g then low else boot_start (item_of run e) low) none ∙ ap (λ o. boot_start o low) is

  -- an entry whose item stands before the boot has it in an earlier one
  pub starts_below : (e : Entry) (low : ℕ) → opens e ≡ true → start_of run e low < length older
  starts_below e low is =
      let t = three (is_by_guard e.reply) (list_any (is_item_of e) older) (list_any (is_item_of e) (items_of (b ∷ behind))) is in
      let l = last_boot (is_item_of e) before t.any in
      let o = last_of (is_item_of e) l.one.items l.any in
      let all : run.boots ≡ l.before ++ l.one ∷ (l.behind ++ b ∷ behind) = boots ∙ ap (λ x. x ++ b ∷ behind) l.is ∙ append_assoc l.before (l.one ∷ l.behind) (b ∷ behind) in
      let later : list_any (is_item_of e) (items_of (l.behind ++ b ∷ behind)) ≡ false
      = ap (list_any (is_item_of e)) (items_append l.behind (b ∷ behind)) ∙ none_all (is_item_of e) (items_of l.behind) (items_of (b ∷ behind)) l.none t.none in
      let at = item_at run e l.before l.one (l.behind ++ b ∷ behind) o.front o.one o.rest all o.is o.passes o.none later in
      let start = start_is e low (place_at (items_of l.before) o.front o.one o.rest (items_of (l.behind ++ b ∷ behind))) t.guard at in
      let one : length older ≡ length (items_of l.before) + length (items_of (l.one ∷ l.behind))
      = ap (λ x. length (items_of x)) l.is ∙ ap length (items_append l.before (l.one ∷ l.behind)) ∙ length-append (items_of l.before) (items_of (l.one ∷ l.behind)) in
      let two : length (items_of (l.one ∷ l.behind)) ≡ length l.one.items + length (items_of l.behind) = length-append l.one.items (items_of l.behind) in
      let more : length l.one.items ≡ length o.front + suc (length o.rest) = ap length o.is ∙ length-append o.front (o.one ∷ o.rest) in
      omega (arith, start, one, two, more)

  -- from an entry on whose boot isn't an earlier one none stands before the boot
  pub none_opens : (facts : Facts) (low : ℕ) (hs : List Entry) → length older ≤ low → AreInBoots facts run low hs → filter opens hs ≡ []
  none_opens facts low [] far in_boots = refl
  none_opens facts low (e ∷ hs) far in_boots = by (opens e) refl (none_opens facts (start_after facts run e low) hs (let more = no_earlier facts run e low in omega (arith, far, in_boots.0, more)) in_boots.1)
    where
      by : (o : Bool) → opens e ≡ o → filter opens hs ≡ [] → cond o (e ∷ filter opens hs) (filter opens hs) ≡ []
      by true is rest = absurd (let below = starts_below e low is in omega (arith, below, far, in_boots.0))
      by false is rest = rest

  module _ (f : List Item) (y : Item) (rest : List Item) (items : b.items ≡ f ++ y ∷ rest) where
    abbrev here : Position
    here = place_at older f y rest (items_of behind)

    abbrev pub comes : Entry → Bool
    comes e = stands_before here e

    after_is : (e : Entry) → list_any (is_item_of e) (items_of (b ∷ behind)) ≡ false → list_any (is_item_of e) (y ∷ (rest ++ items_of behind)) ≡ false
    after_is e none =
        let two = none_both (is_item_of e) f (y ∷ (rest ++ items_of behind))
        (ap (list_any (is_item_of e)) (sym (append_assoc f (y ∷ rest) (items_of behind)) ∙ ap (λ l. l ++ items_of behind) (sym items)) ∙ none) in
        two.two

    -- an entry before the opening is before the place
    pub opens_comes : (e : Entry) → opens e ≡ true → comes e ≡ true
    opens_comes e is =
        let t = three (is_by_guard e.reply) (list_any (is_item_of e) older) (list_any (is_item_of e) (items_of (b ∷ behind))) is in
        all_three (is_by_guard e.reply) (list_any (is_item_of e) (older ++ f)) (list_any (is_item_of e) (y ∷ (rest ++ items_of behind))) t.guard (any_left (is_item_of e) older f t.any) (after_is e t.none)

    -- an entry of the boot, before the place: its item stands between the opening and the place
    pub record InBoot (e : Entry) : Type 0 where
      pub front : List Item
      pub item : Item
      pub mid : List Item
      pub is : f ≡ front ++ item ∷ mid
      pub own : is_item_of e item ≡ true
      pub at : item_of run e ≡ Some (place_at older front item (mid ++ y ∷ rest) (items_of behind))
      pub served : is_by_guard e.reply ≡ false

    pub in_boot : (e : Entry) → comes e ≡ true → opens e ≡ false → InBoot e
    in_boot e is isn't =
        let t = three (is_by_guard e.reply) (list_any (is_item_of e) (older ++ f)) (list_any (is_item_of e) (y ∷ (rest ++ items_of behind))) is in
        let l = last_of (is_item_of e) f (some t.guard t.any t.none (list_any (is_item_of e) f) refl) in
        let two = none_both (is_item_of e) (y ∷ rest) (items_of behind) t.none in
        let split : b.items ≡ l.front ++ l.one ∷ (l.rest ++ y ∷ rest) = items ∙ ap (λ x. x ++ y ∷ rest) l.is ∙ append_assoc l.front (l.one ∷ l.rest) (y ∷ rest) in
        record {
          front = l.front;
          item = l.one;
          mid = l.rest;
          is = l.is;
          own = l.passes;
          at = item_at run e before b behind l.front l.one (l.rest ++ y ∷ rest) boots split l.passes (none_all (is_item_of e) l.rest (y ∷ rest) l.none two.one) two.two;
          served = t.guard;
        }
      where
        some : is_by_guard e.reply ≡ false → list_any (is_item_of e) (older ++ f) ≡ true → list_any (is_item_of e) (y ∷ (rest ++ items_of behind)) ≡ false → (a : Bool) → list_any (is_item_of e) f ≡ a → list_any (is_item_of e) f ≡ true
        some served any none true is = is
        some served any none false none_here = by (list_any (is_item_of e) older) refl
          where
            later : list_any (is_item_of e) (items_of (b ∷ behind)) ≡ false
            later =
                ap (list_any (is_item_of e)) (ap (λ l. l ++ items_of behind) items ∙ append_assoc f (y ∷ rest) (items_of behind))
                ∙ none_all (is_item_of e) f (y ∷ (rest ++ items_of behind)) none_here none

            by : (a : Bool) → list_any (is_item_of e) older ≡ a → list_any (is_item_of e) f ≡ true
            by true there = absurd (let both : true ≡ false = sym (all_three (is_by_guard e.reply) (list_any (is_item_of e) older) (list_any (is_item_of e) (items_of (b ∷ behind))) served there later) ∙ isn't in cc both)
            by false there = absurd (let both : true ≡ false = sym any ∙ none_all (is_item_of e) older f there none_here in cc both)

    starts_here : (e : Entry) (low : ℕ) → comes e ≡ true → opens e ≡ false → start_of run e low ≡ length older
    starts_here e low is isn't =
        let i = in_boot e is isn't in
        start_is e low (place_at older i.front i.item (i.mid ++ y ∷ rest) (items_of behind)) i.served i.at

    -- the entries of the boot before the place
    abbrev pub newer_ones : List Entry → List Entry
    newer_ones hs = filter (λ e. comes e && not (opens e)) hs

    pub ordered : (facts : Facts) (low : ℕ) (hs : List Entry) → AreInBoots facts run low hs → filter comes hs ≡ filter opens hs ++ newer_ones hs
    ordered facts low [] in_boots = refl
    ordered facts low (e ∷ hs) in_boots = by (opens e) (comes e) refl refl (ordered facts (start_after facts run e low) hs in_boots.1)
      where
        by : (o c : Bool) → opens e ≡ o → comes e ≡ c → filter comes hs ≡ filter opens hs ++ newer_ones hs
            → cond c (e ∷ filter comes hs) (filter comes hs) ≡ cond o (e ∷ filter opens hs) (filter opens hs) ++ cond (c && not o) (e ∷ newer_ones hs) (newer_ones hs)
        by true true o_is c_is rest = ap (λ l. e ∷ l) rest
        by true false o_is c_is rest = absurd (let both : true ≡ false = sym (opens_comes e o_is) ∙ c_is in cc both)
        by false false o_is c_is rest = rest
        by false true o_is c_is rest =
            let start = starts_here e low c_is o_is in
            let more = no_earlier facts run e low in
            let none = none_opens facts (start_after facts run e low) hs (omega (arith, start, more)) in_boots.1 in
            ap (λ l. e ∷ l) (rest ∙ ap (λ l. l ++ newer_ones hs) none) ∙ ap (λ l. l ++ e ∷ newer_ones hs) (sym none)

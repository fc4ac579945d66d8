-- The rows that the entries come to which count before a boot are those of its opening.
use Rattle.std.proofs.Common.{◌≡◌, ◌≢◌, ℕ, zero, suc, ◌+◌, ◌≤◌, Bool, true, false, cond, ◌&&◌, not, List, [], ◌∷◌, ◌++◌, None, Some, drop, filter, find, length, refl, sym, ◌∙◌, ap, subst, take, append-nil, append_assoc, length-append, arith}
use Rattle.std.specs.Prelude.{nat_le, reverse, slice_get}
use Rattle.std.specs.List.{list_all, list_any}
use Rattle.std.proofs.lemmas.Bool.Decides.{nat_tests}
use Rattle.std.proofs.lemmas.List.{take-append-drop}
use Rattle.std.proofs.lemmas.List.Elements.{filter-append}
use Rattle.sg_cost.proofs.Few.Lists.{any_reverse, both_true, find_after, last_of, none_all}
use Rattle.sg_cost.proofs.Few.Openings.{no_earlier, none_opens}
use Rattle.sg_cost.proofs.Few.Places.{item_at, items_append, last_boot as last_having, none_in, place_at}
use Rattle.sg_cost.proofs.LastBoots.{StandsLater, counts_stands, stands_later}
use Rattle.sg_cost.specs.Costs.{opening}
use Rattle.sg_cost.specs.Inside.Pieces.{stands_in}
use Rattle.sg_cost.specs.Inside.Fronts.{AreInRun}
use Rattle.sg_cost.specs.Inside.LastBoots.{AreLastBoots, counts_by, is_over, last_boot}
use Rattle.sg_facts.specs.Facts.{Facts}
use Rattle.sg_facts.specs.Object.{Object, after, empty_object, object_of}
use Rattle.sg_facts.specs.Inside.Rows.{object_from}
use Rattle.sg_facts.specs.Trace.{Boot, Run}
use Rattle.sg_facts.specs.declared.entry.Entry.{Entry}
use Rattle.sg_facts.specs.sg_base.Lists.{Each, When}
use Rattle.sg_facts.specs.sg_base.declared.reply.Reply.{Reply}
use Rattle.sg_facts.specs.sg_base.declared.reply.Reply.TheVariants.{Ok, Refused}
use Rattle.sg_report.specs.sg_hist.Reading.{Position, is_by_guard, is_item_of, item_of, items_of, places_of}
use Rattle.sg_report.specs.sg_hist.Recovered.{AreInBoots, start_after, start_of}
use Rattle.sg_report.specs.sg_hist.Inside.Parts.{GivesEntry, HasItem, boot_start}
use Rattle.sg_world_laws.proofs.sg_recovery_laws.Lists.{each_split}

-- the entries after some others are in boots too
in_boots_after : (facts : Facts) (run : Run) (low : ℕ) (xs ys : List Entry) → AreInBoots facts run low (xs ++ ys) → (from : ℕ) × AreInBoots facts run from ys
in_boots_after facts run low [] ys are = (low, are)
in_boots_after facts run low (e ∷ xs) ys are = in_boots_after facts run (start_after facts run e low) xs ys are.1

-- where no item is an entry's, it has no place
no_item : (run : Run) (e : Entry) → list_any (is_item_of e) (items_of run.boots) ≡ false → item_of run e ≡ None
no_item run e none =
    ap (find (λ p. is_item_of e p.item)) (sym (append-nil (reverse (places_of run))))
    ∙ find_after (λ p. is_item_of e p.item) (reverse (places_of run)) [] (any_reverse (λ p. is_item_of e p.item) (places_of run) ∙ none_in (is_item_of e) [] run.boots none)

-- entries of which each counts, or is a refusal
module _ (facts : Facts) (test : Entry → Bool) (kept : List ((ℕ × ℕ) × ℕ)) (first : ℕ) (stands : (e : Entry) → is_by_guard e.reply ≡ false → is_over kept first e ≡ true → ((code : _) → e.reply ≢ Refused code) → test e ≡ true) where
  pub left_out : (o : Object) (es : List Entry) → list_all (is_over kept first) es ≡ true → object_from facts o (filter test es) ≡ object_from facts o es
  left_out o [] over = refl
  left_out o (e ∷ es) over =
      let two = both_true (is_over kept first e) (list_all (is_over kept first) es) over in
      by two.0 e.reply refl (left_out (after facts o e.call e.reply) es two.1) (left_out o es two.1)
    where
      by : is_over kept first e ≡ true → (reply : Reply) → e.reply ≡ reply
          → object_from facts (after facts o e.call e.reply) (filter test es) ≡ object_from facts (after facts o e.call e.reply) es → object_from facts o (filter test es) ≡ object_from facts o es
          → object_from facts o (cond (test e) (e ∷ filter test es) (filter test es)) ≡ object_from facts (after facts o e.call e.reply) es
      by over (Ok good) is with_it without =
          let own : test e ≡ true = stands e (ap is_by_guard is) over (λ code refused. let both : Ok good ≡ Refused code = sym is ∙ refused in cc both) in
          ap (λ b. object_from facts o (cond b (e ∷ filter test es) (filter test es))) own ∙ with_it
      by over (Refused code) is with_it without = at (test e)
        where
          same : after facts o e.call e.reply ≡ o
          same = ap (after facts o e.call) is

          at : (b : Bool) → object_from facts o (cond b (e ∷ filter test es) (filter test es)) ≡ object_from facts (after facts o e.call e.reply) es
          at true = with_it
          at false = without ∙ ap (λ x. object_from facts x es) (sym same)

module _ (facts : Facts) (history : List Entry) (run : Run) (in_run : AreInRun facts history run) (before : List Boot) (b : Boot) (later : List Boot) (boots : run.boots ≡ before ++ b ∷ later)
    (kept : List ((ℕ × ℕ) × ℕ)) (lasts : AreLastBoots kept run.boots) where
  abbrev opens : Entry → Bool
  opens e = stands_in before (b ∷ later) e

  last_is : (e : Entry) (good : _) → e.reply ≡ Ok good → is_over kept (length before) e ≡ (nat_le 1 (last_boot (before ++ b ∷ later) e.call.client e.call.seq) && nat_le (last_boot (before ++ b ∷ later) e.call.client e.call.seq) (length before))
  last_is e good is =
      ap (counts_by _ (length before)) is
      ∙ ap (λ n. nat_le 1 n && nat_le n (length before)) (lasts e.call.client e.call.seq ∙ ap (λ bs. last_boot bs e.call.client e.call.seq) boots)

  -- an answer that counts stands before the boot
  over_opens : (e : Entry) → is_by_guard e.reply ≡ false → is_over kept (length before) e ≡ true → ((code : _) → e.reply ≢ Refused code) → opens e ≡ true
  over_opens e served over answered = by e.reply refl
    where
      by : (reply : Reply) → e.reply ≡ reply → opens e ≡ true
      by (Ok good) is = counts_stands before (b ∷ later) e served (sym (last_is e good is) ∙ over)
      by (Refused code) is = absurd (answered code is)

  -- one that doesn't is of this boot or a later one
  record ComesLater (e : Entry) : Type 0 where
    not_before : opens e ≡ false
    starts : (low : ℕ) → length (items_of before) ≤ start_of run e low

  comes_after : (e : Entry) → HasItem facts history run e → is_over kept (length before) e ≡ false → ComesLater e
  comes_after e has over = by e.reply refl
    where
      by : (reply : Reply) → e.reply ≡ reply → ComesLater e
      by (Refused code) is = absurd (let both : true ≡ false = sym (ap (counts_by _ (length before)) is) ∙ over in cc both)
      by (Ok good) is = record { not_before = s.not_before; starts = λ low. at low (list_any (is_item_of e) (items_of (b ∷ later))) refl }
        where
          s : StandsLater before (b ∷ later) e
          s = stands_later before (b ∷ later) e (sym (last_is e good is) ∙ over)

          served : is_by_guard e.reply ≡ false
          served = ap is_by_guard is

          gives : GivesEntry facts history e (item_of run e)
          gives = subst (λ g. When (not g) (GivesEntry facts history e (item_of run e))) served has

          start : (low : ℕ) (p : Position) → item_of run e ≡ Some p → start_of run e low ≡ length p.older
          start low p found = ap (λ g. cond g low (boot_start (item_of run e) low)) served ∙ ap (λ o. boot_start o low) found

          at : (low : ℕ) (any : Bool) → list_any (is_item_of e) (items_of (b ∷ later)) ≡ any → length (items_of before) ≤ start_of run e low
          at low true any =
              let l = last_having (is_item_of e) (b ∷ later) any in
              let o = last_of (is_item_of e) l.one.items l.any in
              let all : run.boots ≡ (before ++ l.before) ++ l.one ∷ l.behind = boots ∙ ap (λ x. before ++ x) l.is ∙ sym (append_assoc before l.before (l.one ∷ l.behind)) in
              let found = item_at run e (before ++ l.before) l.one l.behind o.front o.one o.rest all o.is o.passes o.none l.none in
              let begins = start low (place_at (items_of (before ++ l.before)) o.front o.one o.rest (items_of l.behind)) found in
              let longer : length (items_of (before ++ l.before)) ≡ length (items_of before) + length (items_of l.before) = ap length (items_append before l.before) ∙ length-append (items_of before) (items_of l.before) in
              omega (arith, begins, longer)
          at low false none =
              let nothing : list_any (is_item_of e) (items_of run.boots) ≡ false
              = ap (λ bs. list_any (is_item_of e) (items_of bs)) boots ∙ ap (list_any (is_item_of e)) (items_append before (b ∷ later)) ∙ none_all (is_item_of e) (items_of before) (items_of (b ∷ later)) (s.nowhere none) none in
              absurd (subst (GivesEntry facts history e) (no_item run e nothing) gives)

  -- after the first that doesn't count none stands before the boot
  none_after : (low : ℕ) (es : List Entry) → Each (HasItem facts history run) es → AreInBoots facts run low es → ((e : Entry) (rest : List Entry) → es ≡ e ∷ rest → is_over kept (length before) e ≡ false) → filter opens es ≡ []
  none_after low [] has are next = refl
  none_after low (e ∷ es) has are next =
      let c = comes_after e has.0 (next e es refl) in
      ap (λ t. cond t (e ∷ filter opens es) (filter opens es)) c.not_before ∙ none_opens run before b later boots facts (start_after facts run e low) es (let starts = c.starts low in let more = no_earlier facts run e low in omega (arith, starts, more)) are.1

  reads : (xs : List Entry) (n : ℕ) (e : Entry) (rest : List Entry) → drop n xs ≡ e ∷ rest → slice_get xs n ≡ Some e
  reads [] zero e rest is = absurd (cc is)
  reads [] (suc n) e rest is = absurd (cc is)
  reads (x ∷ xs) zero e rest is = let one : x ≡ e = cc is in ap (λ y. Some y) one
  reads (x ∷ xs) (suc n) e rest is = reads xs n e rest is

  -- so the opening is what the entries that count come to
  pub front_opens : (place : ℕ) → list_all (is_over kept (length before)) (take place history) ≡ true → ((e : Entry) → slice_get history place ≡ Some e → is_over kept (length before) e ≡ false)
      → opening facts history before (b ∷ later) ≡ object_of facts (take place history)
  front_opens place over next =
      let split : take place history ++ drop place history ≡ history = take-append-drop place history in
      let rest = in_boots_after facts run 0 (take place history) (drop place history) (subst (AreInBoots facts run 0) (sym split) in_run.held) in
      let has = (each_split (HasItem facts history run) (take place history) (drop place history) (subst (Each (HasItem facts history run)) (sym split) in_run.items)).1 in
      let none : filter opens (drop place history) ≡ [] = none_after rest.0 (drop place history) has rest.1 (λ e es is. next e (reads history place e es is)) in
      ap (λ h. object_of facts (filter opens h)) (sym split)
      ∙ ap (object_of facts) (filter-append opens (take place history) (drop place history) ∙ ap (λ l. filter opens (take place history) ++ l) none ∙ append-nil (filter opens (take place history)))
      ∙ left_out facts opens kept (length before) over_opens empty_object (take place history) over

-- what counts before a boot counts before later ones
pub over_more : (kept : List ((ℕ × ℕ) × ℕ)) (first : ℕ) (es : List Entry) → list_all (is_over kept first) es ≡ true → list_all (is_over kept (first + 1)) es ≡ true
over_more kept first [] over = refl
over_more kept first (e ∷ es) over =
    let two = both_true (is_over kept first e) (list_all (is_over kept first) es) over in
    ap (λ b. b && list_all (is_over kept (first + 1)) es) (one _ e.reply two.0) ∙ over_more kept first es two.1
  where
    one : (boot : ℕ) (reply : Reply) → counts_by boot first reply ≡ true → counts_by boot (first + 1) reply ≡ true
    one boot (Refused code) is = refl
    one boot (Ok good) is =
        let two = both_true (nat_le 1 boot) (nat_le boot first) is in
        let low = two.1 in
        let more : nat_le boot (first + 1) ≡ true = let l : boot ≤ first = grind (arith, nat_tests, low) in let m : boot ≤ first + 1 = omega (arith, l) in grind (arith, nat_tests, m) in
        ap (λ b. b && nat_le boot (first + 1)) two.0 ∙ more

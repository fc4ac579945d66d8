-- What stands before an item that is noted last: the object of the whole history, and what is whole at its end.
use Rattle.std.proofs.Common.{◌≡◌, ℕ, Bool, true, false, cond, not, List, [], ◌∷◌, ◌++◌, Some, map, filter, refl, sym, ◌∙◌, ap, arith}
use Rattle.std.specs.Prelude.{◌||◌, ◌&&◌}
use Rattle.std.specs.List.{list_all, list_any}
use Rattle.sg_facts.specs.sg_base.Lists.{Each}
use Rattle.sg_facts.specs.sg_base.declared.call.Call.{Call}
use Rattle.sg_facts.specs.sg_base.declared.reply.Reply.{Reply}
use Rattle.sg_facts.specs.sg_base.declared.reply.Reply.TheVariants.{Ok, Refused}
use Rattle.sg_facts.specs.declared.entry.Entry.{Entry}
use Rattle.sg_facts.specs.declared.row.Row.{Row}
use Rattle.sg_facts.specs.declared.tables.WalkLine.{WalkLine}
use Rattle.sg_facts.specs.declared.trace.Item.{Item}
use Rattle.sg_facts.specs.Facts.{Facts}
use Rattle.sg_facts.specs.Object.{Object, after, object_of, empty_object}
use Rattle.sg_facts.specs.Inside.Rows.{object_from}
use Rattle.sg_facts.specs.Track.{row_at}
use Rattle.sg_hist.specs.Reading.{is_by_guard, is_item_of, is_made, is_whole_at, object_before, places_in, stands_before}
use Rattle.sg_hist.specs.Growing.{IsOfNoEntry}
use Rattle.sg_hist.proofs.Growing.{entries_before-more, in_older}
use Rattle.sg_recovery_laws.proofs.Same.{any_rebuilt}
use Rattle.sg_recovery_laws.specs.LastItem.LastPlace.{HaveItems, last_place}
use Rattle.sg_recovery_laws.specs.LastItem.Told.{whole_after}
use Rattle.sg_recovery_laws.proofs.Objects.Apart.{Ascends}
use Rattle.sg_facts.proofs.Replaying.Found.{above, other_test, same_test}

-- a refusal by the guard changes nothing
pub guard_leaves : (facts : Facts) (o : Object) (call : Call) (reply : Reply) → is_by_guard reply ≡ true → after facts o call reply ≡ o
guard_leaves facts o call (Ok good) is = absurd (cc is)
guard_leaves facts o call (Refused code) is = refl

stands_is : (older front : List Item) (item : Item) (e : Entry) → is_item_of e item ≡ false → (is_by_guard e.reply || list_any (is_item_of e) (older ++ front)) ≡ true → stands_before (last_place older front item) e ≡ not (is_by_guard e.reply)
stands_is older front item e none has =
    ap (λ b. not (is_by_guard e.reply) && list_any (is_item_of e) (older ++ front) && not (b || false)) none ∙ at (is_by_guard e.reply) (list_any (is_item_of e) (older ++ front)) has
  where
    at : (g a : Bool) → (g || a) ≡ true → (not g && a && not (false || false)) ≡ not g
    at true a has = refl
    at false true has = refl
    at false false has = absurd (cc has)

-- the object before the item is that of the whole history
pub object_last : (facts : Facts) (older front : List Item) (item : Item) (o : Object) (history : List Entry) → IsOfNoEntry item history → HaveItems (older ++ front) history
    → object_from facts o (filter (stands_before (last_place older front item)) history) ≡ object_from facts o history
object_last facts older front item o [] none has = refl
object_last facts older front item o (e ∷ history) none has =
    ap (λ b. object_from facts o (cond b (e ∷ filter (stands_before (last_place older front item)) history) (filter (stands_before (last_place older front item)) history)))
    (stands_is older front item e none.0 has.0)
    ∙ at (is_by_guard e.reply) refl (object_last facts older front item (after facts o e.call e.reply) history none.1 has.1) (object_last facts older front item o history none.1 has.1)
  where
    at : (g : Bool) → is_by_guard e.reply ≡ g
        → object_from facts (after facts o e.call e.reply) (filter (stands_before (last_place older front item)) history) ≡ object_from facts (after facts o e.call e.reply) history
        → object_from facts o (filter (stands_before (last_place older front item)) history) ≡ object_from facts o history
        → object_from facts o (cond (not g) (e ∷ filter (stands_before (last_place older front item)) history) (filter (stands_before (last_place older front item)) history)) ≡ object_from facts (after facts o e.call e.reply) history
    at true is with_it without = without ∙ ap (λ x. object_from facts x history) (sym (guard_leaves facts o e.call e.reply is))
    at false is with_it without = with_it

pub object_before_last : (facts : Facts) (older front : List Item) (item : Item) (history : List Entry) → IsOfNoEntry item history → HaveItems (older ++ front) history
    → object_before facts history (last_place older front item) ≡ object_of facts history
object_before_last facts older front item history none has = object_last facts older front item empty_object history none has

-- what is whole at the item is what is whole after the items
pub whole_last : (facts : Facts) (walks : List WalkLine) (older front : List Item) (item : Item) (history : List Entry) (id : ℕ) → IsOfNoEntry item history
    → is_whole_at facts walks history (last_place older front item) id ≡ whole_after facts walks history older front id
whole_last facts walks older front item history id none =
    ap (λ b. list_any (is_made facts history id) front || b)
    (any_rebuilt facts walks history history id item (places_in older [] front []) (places_in older [] front (item ∷ []))
    (λ p q g. entries_before-more item p q history g none) (in_older older [] front [] item))

-- each row that passes a test
pub each_filtered : (P : Row → Type 0) (test : Row → Bool) (low high : ℕ) (rows : List Row) → Ascends low high rows → ((r : Row) → row_at rows r.id ≡ Some r → test r ≡ true → P r) → Each P (filter test rows)
each_filtered P test low high [] are so = tt
each_filtered P test low high (x ∷ rows) are so =
    at (test x) refl (so x (ap (λ b. cond b (Some x) (row_at rows x.id)) (same_test x.id x.id refl)))
    (each_filtered P test x.id high rows are.3 (λ r there passes.
    let more = above (λ y. Unit {0}) x.id high r.id rows r are.3 there in
    so r (ap (λ b. cond b (Some x) (row_at rows r.id)) (other_test x.id r.id (λ is. absurd (omega (arith, is, more)))) ∙ there) passes))
  where
    at : (b : Bool) → test x ≡ b → (test x ≡ true → P x) → Each P (filter test rows) → Each P (cond b (x ∷ filter test rows) (filter test rows))
    at true is own rest = (own is, rest)
    at false is own rest = rest

pub all_mapped : (test : ℕ → Bool) (rows : List Row) → Each (λ r. test r.id ≡ true) rows → list_all test (map (λ r. r.id) rows) ≡ true
all_mapped test [] each = refl
all_mapped test (r ∷ rows) each = ap (λ b. b && list_all test (map (λ x. x.id) rows)) each.0 ∙ all_mapped test rows each.1

-- The rows that entries come to are few, and have the service's fields.
use Rattle.std.proofs.Common.{◌≡◌, ℕ, ◌+◌, ◌≤◌, Bool, true, false, cond, not, List, [], ◌∷◌, ◌++◌, Some, filter, length, map, sym, ◌∙◌, subst, take, length-append, arith}
use Rattle.std.specs.Prelude.{◌==◌, if◌then◌else◌}
use Rattle.std.proofs.lemmas.List.{length-map, length-take-le}
use Rattle.sg_cost.proofs.Indexed.{each_more}
use Rattle.sg_cost.specs.Costs.{most_entries}
use Rattle.sg_cost.specs.Inside.Fronts.{AreFewRows, IsFront}
use Rattle.sg_facts.specs.Facts.{Facts, fun_at}
use Rattle.sg_facts.specs.Limits.{most_fields}
use Rattle.sg_facts.specs.Object.{Object, after, empty_object, object_of}
use Rattle.sg_facts.specs.Inside.Rows.{object_from, row_after, track}
use Rattle.sg_facts.specs.Fields.{empty_field}
use Rattle.sg_facts.specs.Track.{ends_with, new_row, row_at}
use Rattle.sg_facts.specs.declared.entry.Entry.{Entry}
use Rattle.sg_facts.specs.declared.row.Row.{Row}
use Rattle.sg_facts.specs.sg_base.Lists.{Each}
use Rattle.sg_facts.specs.sg_base.declared.call.Call.{Call}
use Rattle.sg_facts.specs.sg_base.declared.reply.Reply.{Reply}
use Rattle.sg_facts.specs.sg_base.declared.reply.Reply.TheVariants.{Ok, Refused}
use Rattle.sg_needs.specs.sg_track.Tracked.{Tracked}
use Rattle.sg_world_laws.proofs.sg_recovery_laws.sg_track.Premises.{length_after}

-- what holds of each row holds of that of an id
pub each_row : (P : Row → Type 0) (rows : List Row) (id : ℕ) (r : Row) → Each P rows → row_at rows id ≡ Some r → P r
each_row P [] id r all there = absurd (cc there)
each_row P (x ∷ rows) id r all there = by (x.id == id) there (each_row P rows id r all.1)
  where
    by : (b : Bool) → cond b (Some x) (row_at rows id) ≡ Some r → (row_at rows id ≡ Some r → P r) → P r
    by true is rest = let one : x ≡ r = cc is in subst P one all.0
    by false is rest = rest is

left_few : (test : Row → Bool) (rows : List Row) → length (filter test rows) ≤ length rows
left_few test [] = omega arith
left_few test (r ∷ rows) = by (test r) (left_few test rows)
  where
    by : (b : Bool) → length (filter test rows) ≤ length rows → length (cond b (r ∷ filter test rows) (filter test rows)) ≤ length (r ∷ rows)
    by true rest = omega (arith, rest)
    by false rest = omega (arith, rest)

each_left : (P : Row → Type 0) (test : Row → Bool) (rows : List Row) → Each P rows → Each P (filter test rows)
each_left P test [] all = tt
each_left P test (r ∷ rows) all = by (test r) (each_left P test rows all.1)
  where
    by : (b : Bool) → Each P (filter test rows) → Each P (cond b (r ∷ filter test rows) (filter test rows))
    by true rest = (all.0, rest)
    by false rest = rest

each_mapped : (P : Row → Type 0) (change : Row → Row) → ((r : Row) → P r → P (change r)) → (rows : List Row) → Each P rows → Each P (map change rows)
each_mapped P change keeps [] all = tt
each_mapped P change keeps (r ∷ rows) all = (keeps r all.0, each_mapped P change keeps rows all.1)

module _ (facts : Facts) where
  -- a row has the service's fields
  abbrev HasFields : Row → Type 0
  HasFields r = length r.fields ≡ length facts.fields

  -- rows have the service's fields, and are no more than so many
  record AreSome (most : ℕ) (rows : List Row) : Type 0 where
    fields : Each HasFields rows
    few : length rows ≤ most

  some_more : (rows : List Row) (call : Call) (reply : Reply) (most : ℕ) → AreSome most rows → AreSome (most + 1) (track facts rows call reply)
  some_more rows call (Refused code) most some = let few = some.few in record { fields = some.fields; few = omega (arith, few) }
  some_more rows call (Ok good) most some = by (fun_at facts.funs call.fun).query (fun_at facts.funs call.fun).creation (fun_at facts.funs call.fun).terminal
    where
      change : Row → Row
      change r = if r.id == call.desc then row_after facts call good r else r

      changes : (r : Row) → HasFields r → HasFields (change r)
      changes r has = at (r.id == call.desc)
        where
          at : (b : Bool) → HasFields (cond b (row_after facts call good r) r)
          at true = length_after call good (fun_at facts.funs call.fun).effects r.fields ∙ has
          at false = has

      by : (q m t : Bool) → AreSome (most + 1) (cond q rows (cond m (rows ++ new_row facts call good ∷ []) (cond t (filter (λ x. not (ends_with facts rows call.desc x.id)) rows) (map change rows))))
      by true m t = let few = some.few in record { fields = some.fields; few = omega (arith, few) }
      by false true t =
          let few = some.few in
          let more : length (rows ++ new_row facts call good ∷ []) ≡ length rows + 1 = length-append rows (new_row facts call good ∷ []) in
          record {
            fields = each_more HasFields rows (new_row facts call good) some.fields (length_after call good (fun_at facts.funs call.fun).effects (map empty_field facts.fields) ∙ length-map facts.fields empty_field);
            few = omega (arith, few, more);
          }
      by false false true =
          let few = some.few in
          let less = left_few (λ x. not (ends_with facts rows call.desc x.id)) rows in
          record { fields = each_left HasFields (λ x. not (ends_with facts rows call.desc x.id)) rows some.fields; few = omega (arith, few, less) }
      by false false false =
          let few = some.few in
          let same = length-map rows change in
          record { fields = each_mapped HasFields change changes rows some.fields; few = omega (arith, few, same) }

  some_from : (o : Object) (es : List Entry) (most : ℕ) → AreSome most o.rows → AreSome (most + length es) (object_from facts o es).rows
  some_from o [] most some = let few = some.few in record { fields = some.fields; few = omega (arith, few) }
  some_from o (e ∷ es) most some =
      let rest = some_from (after facts o e.call e.reply) es (most + 1) (some_more o.rows e.call e.reply most some) in
      let few = rest.few in
      record { fields = rest.fields; few = omega (arith, few) }

  fields_few : (rows : List Row) → length facts.fields ≤ most_fields → Each HasFields rows → Each (λ r. length r.fields ≤ most_fields) rows
  fields_few [] few all = tt
  fields_few (r ∷ rows) few all = (let own = all.0 in omega (arith, few, own), fields_few rows few all.1)

  -- so are those of a front
  pub front_rows : (history : List Entry) (place : ℕ) (t : Tracked) → IsFront facts history place t → length facts.fields ≤ most_fields → length history ≤ most_entries → AreFewRows t.rows
  front_rows history place t front fields few =
      let some = some_from empty_object (take place history) 0 (record { fields = tt; few = omega arith }) in
      let most = some.few in
      let taken = length-take-le place history front.few in
      let place_few = front.few in
      subst AreFewRows (sym front.rows_of.rows) (record { fields = fields_few (object_of facts (take place history)).rows fields some.fields; few = omega (arith, most, taken, few, place_few) })

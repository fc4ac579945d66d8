-- Replayed calls of a boot are few.
use Rattle.std.proofs.Common.{◌≡◌, ℕ, zero, suc, ◌+◌, ◌-◌, ◌<◌, ◌≤◌, Bool, true, false, cond, ◌||◌, List, [], ◌∷◌, ◌++◌, None, Some, filter, length, map, refl, sym, ◌∙◌, ap, subst, arith}
use Rattle.std.specs.Prelude.{◌==◌, slice_get}
use Rattle.std.specs.List.{list_any}
use Rattle.std.specs.declared.option.Option.{Option}
use Rattle.std.proofs.lemmas.Bool.Decides.{nat_tests}
use Rattle.sg_facts.specs.sg_base.Lists.{Each}
use Rattle.sg_facts.specs.sg_base.declared.call.Call.{Call}
use Rattle.sg_facts.proofs.RowLists.{row_at-left}
use Rattle.sg_facts.specs.Allowed.{is_allowed}
use Rattle.sg_facts.specs.Facts.{Facts, fun_at}
use Rattle.sg_facts.specs.Kinds.{IsCall}
use Rattle.sg_facts.specs.Needs.{is_wanted, wanted}
use Rattle.sg_facts.specs.Object.{Object}
use Rattle.sg_facts.specs.Trace.{Boot, Run}
use Rattle.sg_facts.specs.Track.{is_ancestor, row_at}
use Rattle.sg_facts.specs.declared.entry.Entry.{Entry}
use Rattle.sg_facts.specs.declared.outcome.Outcome.{Outcome}
use Rattle.sg_facts.specs.declared.row.Row.{Row}
use Rattle.sg_facts.specs.declared.trace.Item.{Item}
use Rattle.sg_facts.specs.declared.trace.Tag.{Tag}
use Rattle.sg_facts.specs.declared.trace.Tag.TheVariants.{Walk, Load, Client}
use Rattle.sg_report.specs.sg_hist.Reading.{walk_in}
use Rattle.sg_report.specs.sg_hist.Recovered.{IsRecovered, Stubs, is_replied}
use Rattle.sg_report.specs.sg_hist.Inside.Parts.{call_in, is_walk_of}
use Rattle.sg_report.specs.sg_hist.Clients.{AreNumbered}
use Rattle.sg_cost.specs.Costs.{AreFew, opening, walk_length}
use Rattle.std.specs.Option.{option_map_or}
use Rattle.sg_report.specs.Inside.Pieces.{is_replay_for}
use Rattle.sg_report.specs.Report.{replays_for}
use Rattle.sg_cost.proofs.Few.Counting.{among_first, fewer, over_rows}
use Rattle.sg_cost.proofs.Few.Lists.{both_true}
use Rattle.sg_cost.proofs.Few.Numbered.{given_own}
use Rattle.sg_cost.proofs.Few.Rows.{has_row, next_call, row_then}

-- a call of a walk is one of as many as the walk has
within_walk : (facts : Facts) (r : Row) (k : ℕ) (shown : Call) (walk : Option (List ℕ)) → 1 ≤ k → call_in facts r k walk ≡ Some shown → k ≤ option_map_or length walk 0
within_walk facts r k shown None first is = absurd (cc is)
within_walk facts r k shown (Some walk) first is = by (slice_get walk (k - 1)) refl
  where
    there : (ns : List ℕ) (at fun : ℕ) → slice_get ns at ≡ Some fun → at < length ns
    there [] at fun got = absurd (cc got)
    there (n ∷ ns) zero fun got = omega arith
    there (n ∷ ns) (suc at) fun got = let lt = there ns at fun got in omega (arith, lt)

    by : (x : Option ℕ) → slice_get walk (k - 1) ≡ x → k ≤ length walk
    by None got = absurd (let none : call_in facts r k (Some walk) ≡ None = simp got refl in let both : None ≡ Some shown = sym none ∙ is in cc both)
    by (Some fun) got = let lt = there walk (k - 1) fun got in omega (arith, lt, first)

module _ (s : Stubs) (history : List Entry) (run : Run) (unanswered : List Call) (recovered : IsRecovered s history run unanswered) (allowed : is_allowed s.interface.facts ≡ true)
    (numbered : AreNumbered [] history) (calls : Each (λ e. IsCall s.interface.facts e.call) history) (before : List Boot) (b : Boot) (behind : List Boot) (boots : run.boots ≡ before ++ b ∷ behind) where
  abbrev facts : Facts
  facts = s.interface.facts

  abbrev o : Object
  o = opening s.interface.facts history before (b ∷ behind)

  tag_of : (id : ℕ) (t : Tag) → is_walk_of id t ≡ true → (k : ℕ) × (client : ℕ) × (t ≡ Walk id k client)
  tag_of id (Walk i k client) is = let one : i ≡ id = grind (arith, nat_tests, is) in (k, client, ap (λ n. Walk n k client) one)
  tag_of id (Load key client) is = absurd (cc is)
  tag_of id (Client client seq) is = absurd (cc is)

  -- a call of a walk of an id has fewer before it in its boot than the walk at the opening has calls
  one_more : (id : ℕ) (f : List Item) (y : Item) (rest : List Item) → b.items ≡ f ++ y ∷ rest → is_walk_of id y.tag ≡ true → length (filter (λ item. is_walk_of id item.tag) f) + 1 ≤ walk_length s.walks (row_at o.rows id)
  one_more id f y rest items is =
      let t = tag_of id y.tag is in
      let r = has_row s history run unanswered recovered allowed before b behind boots f y rest items id t.0 t.1 t.2 in
      let next = next_call s history run unanswered recovered allowed before b behind boots f y rest items id t.0 t.1 t.2 r.0 r.1 in
      let then = row_then s history run unanswered recovered allowed before b behind boots f y rest items id t.0 t.1 t.2 recovered.served.items calls (given_own history numbered) r.0 r.1 in
      let k = next.next in
      let within : t.0 ≤ walk_length s.walks (Some r.0) = within_walk facts r.0 t.0 y.shown (walk_in s.walks (Some r.0)) (omega (arith, k)) next.call in
      subst (λ row. length (filter (λ item. is_walk_of id item.tag) f) + 1 ≤ walk_length s.walks row) (sym then) (omega (arith, k, within))

  -- so an id has no more replayed calls than that
  each_few : (id : ℕ) → replays_for (λ i. i == id) b.items ≤ walk_length s.walks (row_at o.rows id)
  each_few id =
      let walked = among_first (λ item. is_walk_of id item.tag) (walk_length s.walks (row_at o.rows id)) [] b.items (one_more id) (omega arith) in
      let few = fewer (λ item. is_replay_for (λ i. i == id) item.tag item.outcome) (λ item. is_walk_of id item.tag) (λ item is. by item.tag item.outcome is) b.items in
      omega (arith, walked, few)
    where
      by : (t : Tag) (outcome : Outcome) → is_replay_for (λ i. i == id) t outcome ≡ true → is_walk_of id t ≡ true
      by (Walk i k client) outcome is = (both_true (i == id) (is_replied outcome) is).0
      by (Load key client) outcome is = absurd (cc is)
      by (Client client seq) outcome is = absurd (cc is)

  any_needed : (need : ℕ → Bool) (rows : List Row) (id : ℕ) → list_any (λ n. n == id) (map (λ r. r.id) (filter (λ r. need r.id) rows)) ≡ true → need id ≡ true
  any_needed need [] id any = absurd (cc any)
  any_needed need (r ∷ rows) id any = by (need r.id) refl any (any_needed need rows id)
    where
      here : (t : Bool) → (r.id == id) ≡ t → need r.id ≡ true → (t || list_any (λ n. n == id) (map (λ r. r.id) (filter (λ r. need r.id) rows))) ≡ true
          → (list_any (λ n. n == id) (map (λ r. r.id) (filter (λ r. need r.id) rows)) ≡ true → need id ≡ true) → need id ≡ true
      here true same needed any rest = let one : r.id ≡ id = grind (arith, nat_tests, same) in sym (ap need one) ∙ needed
      here false same needed any rest = rest any

      by : (n : Bool) → need r.id ≡ n → list_any (λ n. n == id) (map (λ r. r.id) (cond n (r ∷ filter (λ r. need r.id) rows) (filter (λ r. need r.id) rows))) ≡ true
          → (list_any (λ n. n == id) (map (λ r. r.id) (filter (λ r. need r.id) rows)) ≡ true → need id ≡ true) → need id ≡ true
      by true needed any rest = here (r.id == id) refl needed any rest
      by false needed any rest = rest any

  pub are_few : AreFew s.interface s.walks history before b behind
  are_few = record {
    each = each_few;
    for_call = λ call. over_rows s.walks b.items (λ i. list_any (λ n. n == i) (wanted s.interface o call).ids) (filter (is_wanted s.interface o.rows call) o.rows)
        (λ id is.
        let need : ℕ → Bool = λ n. s.interface.eager || ((fun_at facts.funs call.fun).all || (n == call.desc) || is_ancestor o.rows n call.desc) in
        subst (λ row. replays_for (λ i. i == id) b.items ≤ walk_length s.walks row) (sym (row_at-left need o.rows id (any_needed need o.rows id is))) (each_few id));
    all = over_rows s.walks b.items (λ i. true) o.rows (λ id is. each_few id);
  }

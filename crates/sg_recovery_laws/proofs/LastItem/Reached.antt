-- The rows of the object of a legal history are such as descriptors can come to.
use Rattle.std.proofs.Common.{◌≡◌, ℕ, zero, suc, ◌+◌, ◌<◌, ◌≤◌, Bool, true, false, cond, List, [], ◌∷◌, ◌++◌, None, Some, length, map, filter, refl, sym, ◌∙◌, ap, arith}
use Rattle.std.specs.Prelude.{◌==◌, ◌&&◌, not, if◌then◌else◌}
use Rattle.std.specs.List.{list_all}
use Rattle.std.specs.declared.option.Option.{Option}
use Rattle.std.proofs.lemmas.Bool.Decides.{nat_tests}
use Rattle.sg_facts.specs.sg_base.Lists.{Each}
use Rattle.sg_facts.specs.sg_base.declared.value.Value.{Value}
use Rattle.sg_facts.specs.sg_base.declared.value.Value.TheVariants.{Word, Text}
use Rattle.sg_facts.specs.sg_base.declared.call.Call.{Call}
use Rattle.sg_facts.specs.sg_base.declared.reply.Code.{Code}
use Rattle.sg_facts.specs.sg_base.declared.reply.Good.{Good}
use Rattle.sg_facts.specs.sg_base.declared.reply.Reply.{Reply}
use Rattle.sg_facts.specs.sg_base.declared.reply.Reply.TheVariants.{Ok, Refused}
use Rattle.sg_facts.specs.declared.entry.Entry.{Entry}
use Rattle.sg_facts.specs.declared.row.Row.{Row}
use Rattle.sg_facts.specs.declared.shape.Effect.{Effect}
use Rattle.sg_facts.specs.Allowed.{is_allowed, is_text_field}
use Rattle.sg_facts.specs.Facts.{Field, fun_at}
use Rattle.sg_facts.specs.Fits.{Fits}
use Rattle.sg_facts.specs.Guard.{guard}
use Rattle.sg_facts.specs.Inside.Guards.{in_state}
use Rattle.sg_facts.specs.Held.{AreReachable, set_of}
use Rattle.sg_facts.specs.Interface.{Declared, declares, moves_on}
use Rattle.sg_facts.specs.Kinds.{IsCall}
use Rattle.sg_facts.specs.Laws.{AnswersAndKeeps, CountsSlowly, slow}
use Rattle.sg_facts.specs.Legal.{LegalFrom, Table, answer}
use Rattle.sg_facts.specs.Inside.Rows.{refused_or, object_from, row_after}
use Rattle.sg_facts.specs.Limits.{end_of_counts}
use Rattle.sg_facts.specs.Object.{Object, after, empty_object, object_of}
use Rattle.sg_facts.specs.Sound.{AreFields, AreRows, IsRow, IsSound}
use Rattle.sg_facts.specs.Track.{ends_with, field_at, new_row, row_at, rows_after}
use Rattle.sg_facts.specs.Walks.{IsReachable, effect_on}
use Rattle.sg_facts.proofs.RowLists.{changed}
use Rattle.sg_facts.proofs.Replaying.Found.{all_found, met}
use Rattle.sg_recovery_laws.proofs.Objects.Guarded.{acts, keeps as keeps_to_it, let_pass}
use Rattle.sg_recovery_laws.proofs.Objects.Reachable.{IsNoText, made_reachable, moved_reachable}
use Rattle.sg_recovery_laws.specs.LastItem.Asked.{IsComeTo}
use Rattle.sg_hist.specs.Clients.{IsClientsCall}
use Rattle.sg_recovery_laws.proofs.LastItem.Sound.{come_on, nothing_yet}

-- ---- fields that effects change hold no text

effects_plain : (fields : List Field) (es : List (ℕ × Effect)) (y : ℕ) (e : Effect) → list_all (λ x. not (is_text_field fields x.0)) es ≡ true → effect_on es y ≡ Some e → is_text_field fields y ≡ false
effects_plain fields [] y e all is = absurd (cc is)
effects_plain fields (x ∷ es) y e all is = at (is_text_field fields x.0) refl (x.0 == y) refl all is (effects_plain fields es y e)
  where
    at : (t : Bool) → is_text_field fields x.0 ≡ t → (b : Bool) → (x.0 == y) ≡ b → (not t && list_all (λ z. not (is_text_field fields z.0)) es) ≡ true → cond b (Some x.1) (effect_on es y) ≡ Some e
        → (list_all (λ z. not (is_text_field fields z.0)) es ≡ true → effect_on es y ≡ Some e → is_text_field fields y ≡ false) → is_text_field fields y ≡ false
    at true text b same all is rest = absurd (cc all)
    at false text true same all is rest = let one : x.0 ≡ y = grind (arith, nat_tests, same) in ap (is_text_field fields) (sym one) ∙ text
    at false text false same all is rest = rest all is

value_plain : (fields : List Field) (vs : List Value) (y : ℕ) → AreFields fields vs → is_text_field fields y ≡ false → y < length vs → IsNoText (field_at vs y)
value_plain [] [] y are text low = absurd (omega (arith, low))
value_plain [] (v ∷ vs) y are text low = absurd are
value_plain (f ∷ fields) [] y are text low = absurd are
value_plain (f ∷ fields) (Word n ∷ vs) zero are text low = tt
value_plain (f ∷ fields) (Text bytes ∷ vs) zero are text low = absurd (let is = are.0 in cc (is, text))
value_plain (f ∷ fields) (v ∷ vs) (suc y) are text low = value_plain fields vs y are.1 text (omega (arith, low))

module _ (i : Declared) where
  abbrev Reached : Row → Type 0
  Reached r = IsReachable i r.made r.state (set_of r)

  -- rows under ascending ids, of which each is reached
  to_rows : (P : Row → Type 0) (low high : ℕ) (rows : List Row) → AreRows P low high rows → AreReachable i rows → AreRows Reached low high rows
  to_rows P low high [] are reach = tt
  to_rows P low high (r ∷ rows) are reach = (are.0, are.1, reach.0, to_rows P r.id high rows are.3 reach.1)

  from_rows : (low high : ℕ) (rows : List Row) → AreRows Reached low high rows → AreReachable i rows
  from_rows low high [] are = tt
  from_rows low high (r ∷ rows) are = (are.2, from_rows r.id high rows are.3)

  reach_more : (rows : List Row) (new : Row) → AreReachable i rows → Reached new → AreReachable i (rows ++ new ∷ [])
  reach_more [] new reach own = (own, tt)
  reach_more (r ∷ rows) new reach own = (reach.0, reach_more rows new reach.1 own)

  reach_left : (test : Row → Bool) (rows : List Row) → AreReachable i rows → AreReachable i (filter test rows)
  reach_left test [] reach = tt
  reach_left test (r ∷ rows) reach = at (test r) (reach_left test rows reach.1)
    where
      at : (b : Bool) → AreReachable i (filter test rows) → AreReachable i (cond b (r ∷ filter test rows) (filter test rows))
      at true rest = (reach.0, rest)
      at false rest = rest

  module _ (ask : Table) (allowed : is_allowed i.facts ≡ true) (o : Object) (call : Call) (good : Good) (is_sound : IsSound i.facts o) (reach : AreReachable i o.rows) (is_call : IsCall i.facts call)
      (client : 1 ≤ call.client) (declared : declares i call.fun ≡ true) (lets : guard i o call ≡ None) where
    abbrev change : Row → Row
    change r = if r.id == call.desc then row_after i.facts call good r else r

    same_id : (r : Row) → (change r).id ≡ r.id
    same_id r = at (r.id == call.desc)
      where
        at : (b : Bool) → (cond b (row_after i.facts call good r) r).id ≡ r.id
        at true = refl
        at false = refl

    -- a row that is changed was in a state from which the call is a transition
    change_reached : (fun_at i.facts.funs call.fun).query ≡ false → (fun_at i.facts.funs call.fun).creation ≡ false → (fun_at i.facts.funs call.fun).terminal ≡ false → (r : Row) → row_at o.rows r.id ≡ Some r → Reached (change r)
    change_reached row makes ends r there = at (r.id == call.desc) refl
      where
        was : Reached r
        was = met Reached 0 o.given r.id o.rows r (to_rows (IsRow i.facts o.rows) 0 o.given o.rows is_sound.rows reach) there

        its : IsRow i.facts o.rows r
        its = met (IsRow i.facts o.rows) 0 o.given r.id o.rows r is_sound.rows there

        at : (b : Bool) → (r.id == call.desc) ≡ b → Reached (cond b (row_after i.facts call good r) r)
        at false is = was
        at true is =
            let same : r.id ≡ call.desc = grind (arith, nat_tests, is) in
            let found : row_at o.rows call.desc ≡ Some r = ap (row_at o.rows) (sym same) ∙ there in
            let takes = ((acts i.facts call.fun allowed is_call.first is_call.last).on makes row).0 in
            let moves : moves_on i r.state call.fun ≡ true = sym (ap (λ x. in_state i x call.fun) found) ∙ (let_pass i o call row lets).state takes in
            let to_it = keeps_to_it i.facts call.fun allowed is_call.first is_call.last in
            moved_reachable call good client i r was moves ends to_it.once
            (λ y e on low. value_plain i.facts.fields r.fields y its.fields (effects_plain i.facts.fields (fun_at i.facts.funs call.fun).effects y e (to_it.plain makes) on) low)

    pub reach_ok : AreReachable i (rows_after i.facts o.rows call good)
    reach_ok = by_query (fun_at i.facts.funs call.fun).query refl
      where
        made_it : (fun_at i.facts.funs call.fun).creation ≡ true → Reached (new_row i.facts call good)
        made_it makes = made_reachable call good client i declared makes (let to_it = keeps_to_it i.facts call.fun allowed is_call.first is_call.last in to_it.once)

        mapped : (fun_at i.facts.funs call.fun).query ≡ false → (fun_at i.facts.funs call.fun).creation ≡ false → (fun_at i.facts.funs call.fun).terminal ≡ false → AreReachable i (map change o.rows)
        mapped row makes ends =
            from_rows 0 o.given (map change o.rows) (changed (λ r. Reached (change r)) Reached change same_id (λ r p. p) 0 o.given o.rows
            (all_found (IsRow i.facts o.rows) (λ r. Reached (change r)) 0 o.given o.rows is_sound.rows (λ r there. change_reached row makes ends r there)))

        by_terminal : (fun_at i.facts.funs call.fun).query ≡ false → (fun_at i.facts.funs call.fun).creation ≡ false → (b : Bool) → (fun_at i.facts.funs call.fun).terminal ≡ b
            → AreReachable i (if b then filter (λ r. not (ends_with i.facts o.rows call.desc r.id)) o.rows else map change o.rows)
        by_terminal row makes true is = reach_left (λ r. not (ends_with i.facts o.rows call.desc r.id)) o.rows reach
        by_terminal row makes false is = mapped row makes is

        by_creation : (fun_at i.facts.funs call.fun).query ≡ false → (b : Bool) → (fun_at i.facts.funs call.fun).creation ≡ b
            → AreReachable i (if b then o.rows ++ new_row i.facts call good ∷ []
            else if (fun_at i.facts.funs call.fun).terminal then filter (λ r. not (ends_with i.facts o.rows call.desc r.id)) o.rows else map change o.rows)
        by_creation row true is = reach_more o.rows (new_row i.facts call good) reach (made_it is)
        by_creation row false is = by_terminal row is (fun_at i.facts.funs call.fun).terminal refl

        by_query : (b : Bool) → (fun_at i.facts.funs call.fun).query ≡ b
            → AreReachable i (if b then o.rows else if (fun_at i.facts.funs call.fun).creation then o.rows ++ new_row i.facts call good ∷ []
            else if (fun_at i.facts.funs call.fun).terminal then filter (λ r. not (ends_with i.facts o.rows call.desc r.id)) o.rows else map change o.rows)
        by_query true is = reach
        by_query false is = by_creation is (fun_at i.facts.funs call.fun).creation refl

  module _ (ask : Table) (sound : Object → Type 0) (fits : Fits i) (allowed : is_allowed i.facts ≡ true) (keeps : AnswersAndKeeps i.facts ask sound) (counts : CountsSlowly i.facts ask sound) where
    reach_on : (o : Object) (call : Call) (reply : Reply) → IsSound i.facts o → AreReachable i o.rows → IsClientsCall i.facts call → declares i call.fun ≡ true → answer i ask o call ≡ Some reply
        → AreReachable i (after i.facts o call reply).rows
    reach_on o call reply is_sound reach asked declared legal = by (guard i o call) refl reply legal
      where
        by : (g : Option Code) → guard i o call ≡ g → (r : Reply) → refused_or (guard i o call) (ask o call) ≡ Some r → AreReachable i (after i.facts o call r).rows
        by g is (Refused code) legal = reach
        by None is (Ok good) legal = reach_ok ask allowed o call good is_sound reach asked.is_call asked.client_first declared is
        by (Some code) is (Ok good) legal = absurd (let both : Some (Refused code) ≡ Some (Ok good) = sym (ap (λ g. refused_or g (ask o call)) is) ∙ legal in cc both)

    reach_from : (n : ℕ) (o : Object) (history : List Entry) → IsComeTo i.facts sound n o → AreReachable i o.rows → slow + (n + length history) < end_of_counts
        → Each (λ e. IsClientsCall i.facts e.call) history → Each (λ e. declares i e.call.fun ≡ true) history → LegalFrom i ask o history → AreReachable i (object_from i.facts o history).rows
    reach_from n o [] come reach few asked declared legal = reach
    reach_from n o (e ∷ history) come reach few asked declared legal =
        reach_from (n + 1) (after i.facts o e.call e.reply) history (come_on i ask sound fits keeps counts n o e.call e.reply come (omega (arith, few)) asked.0 legal.0)
        (reach_on o e.call e.reply (keeps.general o come.is_sound) reach asked.0 declared.0 legal.0) (omega (arith, few)) asked.1 declared.1 legal.1

    pub reach_all : (history : List Entry) → slow + length history < end_of_counts → Each (λ e. IsClientsCall i.facts e.call) history → Each (λ e. declares i e.call.fun ≡ true) history
        → LegalFrom i ask empty_object history → AreReachable i (object_of i.facts history).rows
    reach_all history few asked declared legal = reach_from 0 empty_object history (nothing_yet i ask sound fits keeps counts) tt (omega (arith, few)) asked declared legal

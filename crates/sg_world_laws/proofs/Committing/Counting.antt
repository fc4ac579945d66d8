-- The numbers of a recovery after a served call: no more is left to be replayed, and counted words come no higher than at the object
-- of the history.
use Rattle.std.proofs.Common.{◌≡◌, ℕ, ◌+◌, ◌*◌, ◌≤◌, Bool, true, false, cond, List, [], ◌∷◌, ◌++◌, Some, length, filter, map, refl, sym, ◌∙◌, ap, subst, inl, inr, ◌⊎◌, arith}
use Rattle.std.specs.Prelude.{◌==◌, ◌||◌, ◌&&◌, max}
use Rattle.std.proofs.lemmas.Bool.Decides.{eqb_tells}
use Rattle.sg_facts.specs.sg_base.Lists.{Each}
use Rattle.sg_facts.specs.sg_base.declared.call.Call.{Call}
use Rattle.sg_facts.specs.sg_base.declared.reply.Good.{Good}
use Rattle.sg_facts.specs.sg_base.declared.reply.Reply.TheVariants.{Ok}
use Rattle.sg_facts.specs.declared.row.Row.{Row}
use Rattle.sg_facts.specs.Alike.{HasAlike, named, under_names}
use Rattle.sg_facts.specs.Counted.{most_counted, most_in}
use Rattle.sg_facts.specs.Facts.{Facts, fun_at}
use Rattle.sg_facts.specs.Object.{Object, after}
use Rattle.sg_facts.specs.Sound.{AreRows, IsRow, IsSound}
use Rattle.sg_facts.specs.Track.{fields_after, is_live, new_row, row_at, rows_after}
use Rattle.sg_facts.specs.Inside.Rows.{row_after}
use Rattle.sg_facts.specs.Fields.{empty_field}
use Rattle.sg_facts.proofs.RowLists.{id_of_row}
use Rattle.sg_recovery_laws.specs.Midway.Numbers.{left_of, sum_told}
use Rattle.sg_recovery_laws.specs.Midway.Progress.{Told, begun, complete, fresh}
use Rattle.sg_recovery_laws.specs.Midway.Stepping.{told_with}
use Rattle.sg_recovery_laws.proofs.Midway.Numbers.{sum_changed, sum_left, sum_more}
use Rattle.sg_recovery_laws.proofs.Objects.Apart.{changes_row, ends_rows, makes_row, query_keeps}
use Rattle.sg_recovery_laws.proofs.Objects.Changed.{change_at}
use Rattle.sg_recovery_laws.proofs.Objects.Commute.{same_id_at}
use Rattle.sg_recovery_laws.proofs.Objects.Fields.{same_fields}
use Rattle.sg_recovery_laws.proofs.Objects.Guarded.{ActsOnOne}
use Rattle.sg_recovery_laws.proofs.Objects.Left.{stays}
use Rattle.sg_recovery_laws.proofs.Lists.{each_map}
use Rattle.sg_facts.proofs.Replaying.Found.{all_found, from_map, other_test, same_test, to_map}

-- ---- counted words

module _ (facts : Facts) where
  row_counted : (rows : List Row) (id : ℕ) (r : Row) → row_at rows id ≡ Some r → most_in facts 0 r.fields ≤ most_counted facts rows
  row_counted [] id r there = absurd (cc there)
  row_counted (x ∷ rows) id r there = at (x.id == id) there (row_counted rows id r)
    where
      at : (t : Bool) → cond t (Some x) (row_at rows id) ≡ Some r → (row_at rows id ≡ Some r → most_in facts 0 r.fields ≤ most_counted facts rows)
          → most_in facts 0 r.fields ≤ max (most_in facts 0 x.fields) (most_counted facts rows)
      at true is rest = let one : x ≡ r = cc is in let same : most_in facts 0 x.fields ≡ most_in facts 0 r.fields = ap (λ y. most_in facts 0 y.fields) one in omega (arith, same)
      at false is rest = let le = rest is in omega (arith, le)

  most_of : (n low high : ℕ) (rows : List Row) → AreRows (λ r. most_in facts 0 r.fields ≤ n) low high rows → most_counted facts rows ≤ n
  most_of n low high [] are = omega arith
  most_of n low high (r ∷ rows) are = let rest = most_of n r.id high rows are.3 in omega (arith, are.2, rest)

  most_more : (rows : List Row) (new : Row) → most_counted facts (rows ++ new ∷ []) ≡ max (most_counted facts rows) (most_in facts 0 new.fields)
  most_more [] new = omega arith
  most_more (r ∷ rows) new = let rest = most_more rows new in omega (arith, rest)

  most_left : (test : Row → Bool) (rows : List Row) → most_counted facts (filter test rows) ≤ most_counted facts rows
  most_left test [] = omega arith
  most_left test (r ∷ rows) = at (test r) (most_left test rows)
    where
      at : (t : Bool) → most_counted facts (filter test rows) ≤ most_counted facts rows
          → most_counted facts (cond t (r ∷ filter test rows) (filter test rows)) ≤ max (most_in facts 0 r.fields) (most_counted facts rows)
      at true le = omega (arith, le)
      at false le = omega (arith, le)

  -- where a call that was answered alike leaves them at most at a number at an object, it does so in a service whose words were at most at it
  module _ (names : List (ℕ × ℕ)) (o v : Object) (call : Call) (good other : Good) (words : other.words ≡ good.words) (acts : ActsOnOne facts (fun_at facts.funs call.fun))
      (sound : IsSound facts (after facts v (under_names names call) (Ok other))) (n : ℕ) (was : most_counted facts v.rows ≤ n) (now : most_counted facts (rows_after facts o.rows call good) ≤ n)
      (on : (fun_at facts.funs call.fun).query ≡ false → (fun_at facts.funs call.fun).creation ≡ false → (r : Row) × (row_at o.rows call.desc ≡ Some r) × HasAlike names v r) where
    changed_row : (fun_at facts.funs call.fun).query ≡ false → (fun_at facts.funs call.fun).creation ≡ false → (fun_at facts.funs call.fun).terminal ≡ false
        → (w : Row) → row_at (map (change_at facts (under_names names call) other) v.rows) w.id ≡ Some w → most_in facts 0 w.fields ≤ n
    changed_row row makes ends w there =
        let old = from_map (change_at facts (under_names names call) other) (same_id_at facts (under_names names call) other) v.rows w.id w there in
        at old.row old.there old.is (eqb_tells old.row.id (named names call.desc))
      where
        at : (x : Row) → row_at v.rows w.id ≡ Some x → change_at facts (under_names names call) other x ≡ w
            → ((x.id == named names call.desc) ≡ true) × (x.id ≡ named names call.desc) ⊎ ((x.id == named names call.desc) ≡ false) × (x.id ≡ named names call.desc → ⊥) → most_in facts 0 w.fields ≤ n
        at x found is (inr apart) =
            let same : x ≡ w = sym (ap (λ t. cond t (row_after facts (under_names names call) other x) x) apart.0) ∙ is in
            let le = row_counted v.rows w.id x found in
            let one : most_in facts 0 x.fields ≡ most_in facts 0 w.fields = ap (λ y. most_in facts 0 y.fields) same in
            omega (arith, le, one, was)
        at x found is (inl own) =
            let r = on row makes in
            let its : r.0.id ≡ call.desc = id_of_row o.rows call.desc r.0 r.1 in
            let id : x.id ≡ w.id = id_of_row v.rows w.id x found in
            let there_v : row_at v.rows w.id ≡ Some r.2.row = ap (row_at v.rows) (sym id ∙ own.1 ∙ ap (named names) (sym its)) ∙ r.2.there in
            let one : x ≡ r.2.row = let both : Some x ≡ Some r.2.row = sym found ∙ there_v in cc both in
            let fields : x.fields ≡ r.0.fields = ap (λ y. y.fields) one ∙ r.2.alike.fields in
            let w_is : row_after facts (under_names names call) other x ≡ w = sym (ap (λ t. cond t (row_after facts (under_names names call) other x) x) own.0) ∙ is in
            let w_fields : w.fields ≡ fields_after call good (fun_at facts.funs call.fun).effects r.0.fields
            = sym (ap (λ y. y.fields) w_is) ∙ ap (fields_after (under_names names call) other (fun_at facts.funs call.fun).effects) fields
            ∙ same_fields names call good other words (fun_at facts.funs call.fun).effects r.0.fields in
            let there_o : row_at (rows_after facts o.rows call good) call.desc ≡ Some (row_after facts call good r.0)
            = ap (λ rs. row_at rs call.desc) (changes_row facts call good o.rows row makes ends)
            ∙ to_map (change_at facts call good) (same_id_at facts call good) o.rows call.desc r.0 r.1
            ∙ ap (λ t. Some (cond t (row_after facts call good r.0) r.0)) (same_test r.0.id call.desc its) in
            let le = row_counted (rows_after facts o.rows call good) call.desc (row_after facts call good r.0) there_o in
            let same : most_in facts 0 w.fields ≡ most_in facts 0 (fields_after call good (fun_at facts.funs call.fun).effects r.0.fields) = ap (most_in facts 0) w_fields in
            omega (arith, le, same, now)

    pub served_counted : most_counted facts (rows_after facts v.rows (under_names names call) other) ≤ n
    served_counted = by_query (fun_at facts.funs call.fun).query refl
      where
        by_terminal : (t : Bool) → (fun_at facts.funs call.fun).query ≡ false → (fun_at facts.funs call.fun).creation ≡ false → (fun_at facts.funs call.fun).terminal ≡ t
            → most_counted facts (rows_after facts v.rows (under_names names call) other) ≤ n
        by_terminal true row makes ends =
            let le = most_left (λ r. stays facts v.rows (named names call.desc) r.id) v.rows in
            subst (λ rs. most_counted facts rs ≤ n) (sym (ends_rows facts (under_names names call) other v.rows row makes ends)) (omega (arith, le, was))
        by_terminal false row makes ends =
            let are : AreRows (IsRow facts (rows_after facts v.rows (under_names names call) other)) 0 (after facts v (under_names names call) (Ok other)).given (map (change_at facts (under_names names call) other) v.rows)
            = subst (AreRows (IsRow facts (rows_after facts v.rows (under_names names call) other)) 0 (after facts v (under_names names call) (Ok other)).given) (changes_row facts (under_names names call) other v.rows row makes ends) sound.rows in
            subst (λ rs. most_counted facts rs ≤ n) (sym (changes_row facts (under_names names call) other v.rows row makes ends))
            (most_of n 0 (after facts v (under_names names call) (Ok other)).given (map (change_at facts (under_names names call) other) v.rows)
            (all_found (IsRow facts (rows_after facts v.rows (under_names names call) other)) (λ r. most_in facts 0 r.fields ≤ n) 0 (after facts v (under_names names call) (Ok other)).given
            (map (change_at facts (under_names names call) other) v.rows) are (changed_row row makes ends)))

        by_creation : (c : Bool) → (fun_at facts.funs call.fun).query ≡ false → (fun_at facts.funs call.fun).creation ≡ c → most_counted facts (rows_after facts v.rows (under_names names call) other) ≤ n
        by_creation true row makes =
            let there : most_counted facts (rows_after facts v.rows (under_names names call) other) ≡ max (most_counted facts v.rows) (most_in facts 0 (new_row facts (under_names names call) other).fields)
            = ap (most_counted facts) (makes_row facts (under_names names call) other v.rows row makes) ∙ most_more v.rows (new_row facts (under_names names call) other) in
            let here : most_counted facts (rows_after facts o.rows call good) ≡ max (most_counted facts o.rows) (most_in facts 0 (new_row facts call good).fields)
            = ap (most_counted facts) (makes_row facts call good o.rows row makes) ∙ most_more o.rows (new_row facts call good) in
            let same : most_in facts 0 (new_row facts (under_names names call) other).fields ≡ most_in facts 0 (new_row facts call good).fields
            = ap (most_in facts 0) (same_fields names call good other words (fun_at facts.funs call.fun).effects (map empty_field facts.fields)) in
            omega (arith, there, here, same, was, now)
        by_creation false row makes = by_terminal (fun_at facts.funs call.fun).terminal row makes refl

        by_query : (q : Bool) → (fun_at facts.funs call.fun).query ≡ q → most_counted facts (rows_after facts v.rows (under_names names call) other) ≤ n
        by_query true query = subst (λ rs. most_counted facts rs ≤ n) (sym (query_keeps facts (under_names names call) other v.rows query)) was
        by_query false row = by_creation (fun_at facts.funs call.fun).creation row refl

-- ---- sums of what is told

each_live : (rows : List Row) → Each (λ r. is_live rows r.id ≡ true) rows
each_live [] = tt
each_live (r ∷ rows) = (
  ap (λ t. t || is_live rows r.id) (same_test r.id r.id refl),
  each_map (λ x. is_live rows x.id ≡ true) (λ x. is_live (r ∷ rows) x.id ≡ true) rows (λ x live. or_right (r.id == x.id) (is_live rows x.id) live) (each_live rows),
)
  where
    or_right : (a c : Bool) → c ≡ true → (a || c) ≡ true
    or_right true c is = refl
    or_right false c is = is

each_within : (P Q : Row → Type 0) (low high : ℕ) (rows : List Row) → AreRows P low high rows → ((r : Row) → r.id ≤ high → Q r) → Each Q rows
each_within P Q low high [] are each = tt
each_within P Q low high (r ∷ rows) are each = (each r are.1, each_within P Q r.id high rows are.3 each)

module _ (f : Told → ℕ) (told told' : ℕ → Told) where
  sum_each : (rows : List Row) → Each (λ r. told' r.id ≡ told r.id) rows → sum_told f told' rows ≡ sum_told f told rows
  sum_each [] same = refl
  sum_each (r ∷ rows) same = ap (λ t. f t + sum_told f told' rows) same.0 ∙ ap (λ n. f (told r.id) + n) (sum_each rows same.1)

  -- what is told of live rows counts
  pub sum_live : (rows : List Row) → ((id : ℕ) → is_live rows id ≡ true → told' id ≡ told id) → sum_told f told' rows ≡ sum_told f told rows
  sum_live rows same = sum_each rows (each_map (λ r. is_live rows r.id ≡ true) (λ r. told' r.id ≡ told r.id) rows (λ r live. same r.id live) (each_live rows))

-- no more is left of them after an answered call
pub sum_after : (f : Told → ℕ) → f complete ≡ 0 → (facts : Facts) (told : ℕ → Told) (o : Object) (call : Call) (good : Good) → IsSound facts o
    → ((fun_at facts.funs call.fun).creation ≡ true → ((fun_at facts.funs call.fun).query ≡ false) × (good.desc ≡ o.given + 1))
    → sum_told f (told_with facts call good told) (rows_after facts o.rows call good) ≤ sum_told f told o.rows
sum_after f none facts told o call good sound next = by_creation (fun_at facts.funs call.fun).creation refl
  where
    plain : (fun_at facts.funs call.fun).creation ≡ false → (rows : List Row) → sum_told f (told_with facts call good told) rows ≡ sum_told f told rows
    plain makes rows = sum_live f told (told_with facts call good told) rows (λ id live. ap (λ c. cond (c && (id == good.desc)) complete (told id)) makes)

    by_terminal : (t : Bool) → (fun_at facts.funs call.fun).query ≡ false → (fun_at facts.funs call.fun).creation ≡ false → (fun_at facts.funs call.fun).terminal ≡ t
        → sum_told f (told_with facts call good told) (rows_after facts o.rows call good) ≤ sum_told f told o.rows
    by_terminal true row makes ends =
        let same = plain makes (rows_after facts o.rows call good) in
        let list : sum_told f told (rows_after facts o.rows call good) ≡ sum_told f told (filter (λ r. stays facts o.rows call.desc r.id) o.rows) = ap (sum_told f told) (ends_rows facts call good o.rows row makes ends) in
        let le = sum_left f told (λ r. stays facts o.rows call.desc r.id) o.rows in
        omega (arith, same, list, le)
    by_terminal false row makes ends =
        let same = plain makes (rows_after facts o.rows call good) in
        let list : sum_told f told (rows_after facts o.rows call good) ≡ sum_told f told (map (change_at facts call good) o.rows) = ap (sum_told f told) (changes_row facts call good o.rows row makes ends) in
        let is = sum_changed f told (change_at facts call good) (same_id_at facts call good) o.rows in
        omega (arith, same, list, is)

    by_query : (q : Bool) → (fun_at facts.funs call.fun).query ≡ q → (fun_at facts.funs call.fun).creation ≡ false
        → sum_told f (told_with facts call good told) (rows_after facts o.rows call good) ≤ sum_told f told o.rows
    by_query true query makes =
        let same = plain makes (rows_after facts o.rows call good) in
        let list : sum_told f told (rows_after facts o.rows call good) ≡ sum_told f told o.rows = ap (sum_told f told) (query_keeps facts call good o.rows query) in
        omega (arith, same, list)
    by_query false row makes = by_terminal (fun_at facts.funs call.fun).terminal row makes refl

    by_creation : (c : Bool) → (fun_at facts.funs call.fun).creation ≡ c → sum_told f (told_with facts call good told) (rows_after facts o.rows call good) ≤ sum_told f told o.rows
    by_creation true makes =
        let n = next makes in
        let list : sum_told f (told_with facts call good told) (rows_after facts o.rows call good) ≡ sum_told f (told_with facts call good told) (o.rows ++ new_row facts call good ∷ [])
        = ap (sum_told f (told_with facts call good told)) (makes_row facts call good o.rows n.0 makes) in
        let more = sum_more f (told_with facts call good told) o.rows (new_row facts call good) in
        let old : sum_told f (told_with facts call good told) o.rows ≡ sum_told f told o.rows
        = sum_each f told (told_with facts call good told) o.rows (each_within (IsRow facts o.rows) (λ r. told_with facts call good told r.id ≡ told r.id) 0 o.given o.rows sound.rows
        (λ r le. ap (λ c. cond (c && (r.id == good.desc)) complete (told r.id)) makes ∙ ap (λ t. cond t complete (told r.id)) (other_test r.id good.desc (λ is. let next_id = n.1 in omega (arith, is, le, next_id))))) in
        let own : f (told_with facts call good told good.desc) ≡ 0
        = ap (λ c. f (cond (c && (good.desc == good.desc)) complete (told good.desc))) makes ∙ ap (λ t. f (cond t complete (told good.desc))) (same_test good.desc good.desc refl) ∙ none in
        omega (arith, list, more, old, own)
    by_creation false makes = by_query (fun_at facts.funs call.fun).query refl makes

-- at most 8 calls are left of each row
pub sum_most : (told : ℕ → Told) (rows : List Row) → sum_told left_of told rows ≤ 8 * length rows
sum_most told [] = omega arith
sum_most told (r ∷ rows) = let rest = sum_most told rows in let own = at (told r.id) in omega (arith, rest, own)
  where
    at : (t : Told) → left_of t ≤ 8
    at fresh = omega arith
    at (begun n) = omega arith
    at complete = omega arith

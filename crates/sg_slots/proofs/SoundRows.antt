-- Sound objects of any service when a row comes, is changed or goes.
use Rattle.std.proofs.Common.{◌≡◌, ℕ, ◌+◌, Bool, true, false, cond, not, List, [], ◌∷◌, ◌++◌, None, Some, map, filter, refl, ◌∙◌, ap, subst, arith}
use Rattle.std.specs.Prelude.{◌==◌, ◌&&◌, ◌||◌, nat_lt, if◌then◌else◌}
use Rattle.sg_facts.specs.sg_base.declared.value.Value.{Value}
use Rattle.sg_facts.specs.sg_base.declared.call.Call.{Call}
use Rattle.sg_facts.specs.sg_base.declared.reply.Code.{Code}
use Rattle.sg_facts.specs.sg_base.declared.reply.Good.{Good}
use Rattle.sg_facts.specs.declared.row.Row.{Row}
use Rattle.sg_facts.specs.Facts.{Facts, fun_at}
use Rattle.sg_facts.specs.Track.{row_at, is_live, is_ancestor, ends_with, fields_after}
use Rattle.sg_facts.specs.Inside.Rows.{has_child, row_after}
use Rattle.sg_facts.specs.Object.{Object}
use Rattle.sg_facts.specs.Sound.{IsSound, IsRow, AreRows, AreFields}
use Rattle.sg_facts.proofs.RowLists.{more, changed, left, other, none_pass, is_live-more, is_live-changed, is_live-left}

-- no cause of a refusal applies to a call that passes
pub none_applies : (a b c : Bool) (x y z : Code) → cond a (Some x) (cond b (Some y) (cond c (Some z) None)) ≡ None → (a ≡ false) × (b ≡ false) × (c ≡ false)
none_applies true b c x y z is = absurd (cc is)
none_applies false true c x y z is = absurd (cc is)
none_applies false false true x y z is = absurd (cc is)
none_applies false false false x y z is = (refl, refl, refl)

-- a parent that was live is live
still_live : (root before was is : Bool) → (was ≡ true → is ≡ true) → (root || (before && was)) ≡ true → (root || (before && is)) ≡ true
still_live true before was is stays holds = refl
still_live false true was is stays holds = stays holds
still_live false false was is stays holds = absurd (cc holds)

module _ (facts : Facts) where
  -- a row is one among other rows too, in any state and with any fields of their kinds, where its parent is live there
  pub row_among : (rows rows' : List Row) (r : Row) (state : ℕ) (fields : List Value) → (is_live rows r.parent ≡ true → is_live rows' r.parent ≡ true) → AreFields facts.fields fields
      → IsRow facts rows r → IsRow facts rows' (record r { state = state; fields = fields })
  row_among rows rows' r state fields stays are row = record {
    creator_first = row.creator_first;
    creator_last = row.creator_last;
    parent = still_live (r.parent == 0) (nat_lt r.parent r.id) (is_live rows r.parent) (is_live rows' r.parent) stays row.parent;
    its_parent = row.its_parent;
    fields = are;
  }

  -- a row comes under the next id
  pub sound_more : (o : Object) (new : Row) → IsSound facts o → new.id ≡ o.given + 1 → IsRow facts (o.rows ++ new ∷ []) new
      → IsSound facts (record { rows = o.rows ++ new ∷ []; files = o.files; given = o.given + 1 })
  sound_more o new sound id row =
      let among = IsRow facts (o.rows ++ new ∷ []) in
      let old : AreRows among 0 o.given o.rows =
      other (IsRow facts o.rows) among (λ r are. row_among o.rows (o.rows ++ new ∷ []) r r.state r.fields (is_live-more o.rows new r.parent) are.fields are) 0 o.given o.rows sound.rows in
      record {
        rows = subst (λ n. AreRows among 0 n (o.rows ++ new ∷ [])) id (more among 0 o.given o.rows new old (omega (arith, id)) (omega (arith, id)) row);
        files = sound.files;
      }

  -- the change of one row by an answered call
  abbrev pub change : Call → Good → Row → Row
  change call good r = if r.id == call.desc then row_after facts call good r else r

  pub change_id : (call : Call) (good : Good) (r : Row) → (change call good r).id ≡ r.id
  change_id call good r = at (r.id == call.desc)
    where
      at : (b : Bool) → (cond b (row_after facts call good r) r).id ≡ r.id
      at true = refl
      at false = refl

  -- the row of a call's descriptor is changed, so that its fields stay of their kinds
  pub sound_changed : (o : Object) (call : Call) (good : Good)
      → ((fields : List Value) → AreFields facts.fields fields → AreFields facts.fields (fields_after call good (fun_at facts.funs call.fun).effects fields))
      → IsSound facts o → IsSound facts (record { rows = map (change call good) o.rows; files = o.files; given = o.given })
  sound_changed o call good fields sound = record {
    rows = changed (IsRow facts o.rows) (IsRow facts (map (change call good) o.rows)) (change call good) (change_id call good) still_row 0 o.given o.rows sound.rows;
    files = sound.files;
  }
    where
      stays : (r : Row) → is_live o.rows r.parent ≡ true → is_live (map (change call good) o.rows) r.parent ≡ true
      stays r live = is_live-changed (change call good) (change_id call good) o.rows r.parent ∙ live

      still_row : (r : Row) → IsRow facts o.rows r → IsRow facts (map (change call good) o.rows) (change call good r)
      still_row r are = at (r.id == call.desc)
        where
          at : (b : Bool) → IsRow facts (map (change call good) o.rows) (cond b (row_after facts call good r) r)
          at true = row_among o.rows (map (change call good) o.rows) r (row_after facts call good r).state (row_after facts call good r).fields (stays r) (fields r.fields are.fields) are
          at false = row_among o.rows (map (change call good) o.rows) r r.state r.fields (stays r) are.fields are

  -- a row that is nobody's parent goes alone
  pub sound_left : (o : Object) (id : ℕ) → facts.subtree ≡ false → has_child o.rows id ≡ false → IsSound facts o
      → IsSound facts (record { rows = filter (λ r. not (ends_with facts o.rows id r.id)) o.rows; files = o.files; given = o.given })
  sound_left o id alone childless sound = record {
    rows = left among (λ r. test r.id) 0 o.given o.rows
        (other (λ r. IsRow facts o.rows r × ((r.parent == id) ≡ false)) among still_row 0 o.given o.rows (none_pass (IsRow facts o.rows) (λ r. r.parent == id) 0 o.given o.rows childless sound.rows));
    files = sound.files;
  }
    where
      test : ℕ → Bool
      test n = not (ends_with facts o.rows id n)

      among : Row → Type 0
      among = IsRow facts (filter (λ r. test r.id) o.rows)

      kept : (n : ℕ) → (n == id) ≡ false → test n ≡ true
      kept n apart = ap (λ b. not (b || (facts.subtree && is_ancestor o.rows id n))) apart ∙ ap (λ b. not (b && is_ancestor o.rows id n)) alone

      still_row : (r : Row) → IsRow facts o.rows r × ((r.parent == id) ≡ false) → among r
      still_row r are =
          row_among o.rows (filter (λ x. test x.id) o.rows) r r.state r.fields (λ live. is_live-left test o.rows r.parent (kept r.parent are.1) ∙ live) are.0.fields are.0

-- the row of an id after rows are changed under their ids
pub found_changed : (change : Row → Row) → ((r : Row) → (change r).id ≡ r.id) → (rows : List Row) (id : ℕ) (r : Row) → row_at rows id ≡ Some r → row_at (map change rows) id ≡ Some (change r)
found_changed change same [] id r there = absurd (cc there)
found_changed change same (x ∷ rows) id r there = ap (λ n. cond (n == id) (Some (change x)) (row_at (map change rows) id)) (same x) ∙ at (x.id == id) there (found_changed change same rows id r)
  where
    at : (b : Bool) → cond b (Some x) (row_at rows id) ≡ Some r → (row_at rows id ≡ Some r → row_at (map change rows) id ≡ Some (change r))
        → cond b (Some (change x)) (row_at (map change rows) id) ≡ Some (change r)
    at true there rest = let one : x ≡ r = cc there in ap (λ y. Some (change y)) one
    at false there rest = rest there

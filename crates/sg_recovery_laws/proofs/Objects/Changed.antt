-- What a service holds goes on to stand for an object's rows when a call changes a row, which is whole there.
use Rattle.std.proofs.Common.{◌≡◌, ℕ, ◌≤◌, Bool, true, false, cond, List, Some, map, refl, sym, ◌∙◌, ap, subst, inl, inr, arith}
use Rattle.std.specs.Prelude.{◌==◌, ◌||◌, ◌&&◌, nat_lt, if◌then◌else◌}
use Rattle.std.proofs.lemmas.Bool.Decides.{nat_tests}
use Rattle.sg_facts.specs.sg_base.declared.call.Call.{Call}
use Rattle.sg_facts.specs.sg_base.declared.reply.Good.{Good}
use Rattle.sg_facts.specs.declared.row.Row.{Row}
use Rattle.sg_facts.specs.Alike.{HasAlike, IsAlike, named, under_names}
use Rattle.sg_facts.specs.Facts.{Facts}
use Rattle.sg_facts.specs.Held.{whole, HoldsPart, IsHeld, ParentIsWhole}
use Rattle.sg_facts.specs.Interface.{Declared}
use Rattle.sg_facts.specs.Object.{Object}
use Rattle.sg_facts.specs.Sound.{AreFields, AreFiles, AreRows, IsRow, IsSound}
use Rattle.sg_facts.specs.Track.{is_live, row_at}
use Rattle.sg_facts.specs.Inside.Rows.{row_after}
use Rattle.sg_facts.proofs.RowLists.{changed, id_of_row, is_live-changed}
use Rattle.sg_facts.proofs.Replaying.Above.{name_of_held}
use Rattle.sg_recovery_laws.proofs.Objects.Above.{same_id}
use Rattle.sg_recovery_laws.proofs.Objects.Fields.{alike_after}
use Rattle.sg_facts.proofs.Replaying.Found.{above, all_found, each_held, from_map, held_at, met, to_map}

-- a row is changed where it is that of an id
abbrev pub change_at : Facts → Call → Good → Row → Row
change_at facts call good r = if r.id == call.desc then row_after facts call good r else r

same_id_at : (facts : Facts) (call : Call) (good : Good) (r : Row) → (change_at facts call good r).id ≡ r.id
same_id_at facts call good r = at (r.id == call.desc)
  where
    at : (b : Bool) → (cond b (row_after facts call good r) r).id ≡ r.id
    at true = refl
    at false = refl

pub same_parent_at : (facts : Facts) (call : Call) (good : Good) (r : Row) → (change_at facts call good r).parent ≡ r.parent
same_parent_at facts call good r = at (r.id == call.desc)
  where
    at : (b : Bool) → (cond b (row_after facts call good r) r).parent ≡ r.parent
    at true = refl
    at false = refl

module _ (i : Declared) (names : List (ℕ × ℕ)) (o held o' held' : Object) (call : Call) (good other : Good) (holds : HoldsPart i names o held) (sound : IsSound i.facts o)
    (r0 : Row) (there0 : row_at o.rows call.desc ≡ Some r0) (whole0 : HasAlike names held r0) (words : other.words ≡ good.words)
    (rows_o : o'.rows ≡ map (change_at i.facts call good) o.rows) (rows_h : held'.rows ≡ map (change_at i.facts (under_names names call) other) held.rows)
    (given_h : held'.given ≡ held.given) (files_h : AreFiles held'.files) (fields0 : AreFields i.facts.fields (row_after i.facts call good r0).fields) where
  id0 : r0.id ≡ call.desc
  id0 = id_of_row o.rows call.desc r0 there0

  low0 : named names call.desc ≡ 0 → ⊥
  low0 none =
      let v = whole0.row in
      let name : v.id ≡ named names r0.id = id_of_row held.rows (named names r0.id) v whole0.there in
      let low = above (IsRow i.facts held.rows) 0 held.given (named names r0.id) held.rows v holds.held_sound.rows whole0.there in
      absurd (omega (arith, low, name, ap (named names) id0, none))

  -- rows that are alike stay so
  alike_at : (r w : Row) → IsAlike names r w → IsAlike names (change_at i.facts call good r) (change_at i.facts (under_names names call) other w)
  alike_at r w alike =
      let tests : (w.id == named names call.desc) ≡ (r.id == call.desc)
      = ap (λ n. n == named names call.desc) (sym alike.id) ∙ same_id i names o held holds sound call.desc r.id low0 in
      subst (λ t. IsAlike names (change_at i.facts call good r) (cond t (row_after i.facts (under_names names call) other w) w)) (sym tests) (at (r.id == call.desc))
    where
      at : (b : Bool) → IsAlike names (cond b (row_after i.facts call good r) r) (cond b (row_after i.facts (under_names names call) other w) w)
      at true = alike_after names call good other words i.facts r w alike
      at false = alike

  found_o : (id : ℕ) (r : Row) → row_at o.rows id ≡ Some r → row_at o'.rows id ≡ Some (change_at i.facts call good r)
  found_o id r there = ap (λ rows. row_at rows id) rows_o ∙ to_map (change_at i.facts call good) (same_id_at i.facts call good) o.rows id r there

  found_h : (id : ℕ) (w : Row) → row_at held.rows id ≡ Some w → row_at held'.rows id ≡ Some (change_at i.facts (under_names names call) other w)
  found_h id w there = ap (λ rows. row_at rows id) rows_h ∙ to_map (change_at i.facts (under_names names call) other) (same_id_at i.facts (under_names names call) other) held.rows id w there

  -- what is whole stays so
  pub whole_changed : (r : Row) → HasAlike names held r → HasAlike names held' (change_at i.facts call good r)
  whole_changed r has = record {
    row = change_at i.facts (under_names names call) other has.row;
    there = ap (λ n. row_at held'.rows (named names n)) (same_id_at i.facts call good r) ∙ found_h (named names r.id) has.row has.there;
    alike = alike_at r has.row has.alike;
  }

  parent_at : (r r' : Row) → r'.parent ≡ r.parent → ParentIsWhole names o held r → ParentIsWhole names o' held' r'
  parent_at r r' same (inl none) = inl (same ∙ none)
  parent_at r r' same (inr has) = inr (record {
    row = change_at i.facts call good has.row;
    of = ap (row_at o'.rows) same ∙ found_o r.parent has.row has.of;
    whole = whole_changed has.row has.whole;
  })

  -- the row that is changed, and any other
  held_changed : (w : Row) → row_at held.rows w.id ≡ Some w → IsHeld i names o' held' (change_at i.facts (under_names names call) other w)
  held_changed w there =
      let h = held_at i names o held held.rows w.id w holds.each there in
      let name : named names h.row.id ≡ w.id = name_of_held i names h.row w h.held_for in
      let tests : (w.id == named names call.desc) ≡ (h.row.id == call.desc)
      = ap (λ n. n == named names call.desc) (sym name) ∙ same_id i names o held holds sound call.desc h.row.id low0 in
      subst (λ t. IsHeld i names o' held' (cond t (row_after i.facts (under_names names call) other w) w)) (sym tests) (at h (h.row.id == call.desc) refl)
    where
      at : (h : IsHeld i names o held w) (b : Bool) → (h.row.id == call.desc) ≡ b → IsHeld i names o' held' (cond b (row_after i.facts (under_names names call) other w) w)
      at h true is =
          let id : h.row.id ≡ call.desc = grind (arith, nat_tests) in
          let one : h.row ≡ r0 = let both : Some h.row ≡ Some r0 = sym h.live ∙ ap (row_at o.rows) id ∙ there0 in cc both in
          let name : named names h.row.id ≡ w.id = name_of_held i names h.row w h.held_for in
          let its : whole0.row ≡ w = let both : Some whole0.row ≡ Some w = sym whole0.there ∙ ap (λ r. row_at held.rows (named names r.id)) (sym one) ∙ ap (row_at held.rows) name ∙ there in cc both in
          let alike : IsAlike names h.row w = subst (λ r. IsAlike names r w) (sym one) (subst (IsAlike names r0) its whole0.alike) in
          record {
            row = row_after i.facts call good h.row;
            live = found_o h.row.id h.row h.live ∙ ap (λ b. Some (cond b (row_after i.facts call good h.row) h.row)) is;
            held_for = whole (alike_after names call good other words i.facts h.row w alike);
            parent = parent_at h.row (row_after i.facts call good h.row) refl h.parent;
          }
      at h false is = record {
        row = h.row;
        live = found_o h.row.id h.row h.live ∙ ap (λ b. Some (cond b (row_after i.facts call good h.row) h.row)) is;
        held_for = h.held_for;
        parent = parent_at h.row h.row refl h.parent;
      }

  -- a row of the service stays one
  row_changed : (w : Row) → row_at held.rows w.id ≡ Some w → IsRow i.facts held'.rows (change_at i.facts (under_names names call) other w)
  row_changed w there =
      let is_row : IsRow i.facts held.rows w = met (IsRow i.facts held.rows) 0 held.given w.id held.rows w holds.held_sound.rows there in
      let its_parent : ((w.parent == 0) || (nat_lt w.parent w.id && is_live held'.rows w.parent)) ≡ true
      = ap (λ b. (w.parent == 0) || (nat_lt w.parent w.id && b))
      (ap (λ rows. is_live rows w.parent) rows_h ∙ is_live-changed (change_at i.facts (under_names names call) other) (same_id_at i.facts (under_names names call) other) held.rows w.parent)
      ∙ is_row.parent in
      at is_row its_parent (w.id == named names call.desc) refl
    where
      at : IsRow i.facts held.rows w → ((w.parent == 0) || (nat_lt w.parent w.id && is_live held'.rows w.parent)) ≡ true
          → (b : Bool) → (w.id == named names call.desc) ≡ b → IsRow i.facts held'.rows (cond b (row_after i.facts (under_names names call) other w) w)
      at is_row its_parent true is =
          let same : w.id ≡ named names r0.id = let one : w.id ≡ named names call.desc = grind (arith, nat_tests) in one ∙ ap (named names) (sym id0) in
          let its : whole0.row ≡ w = let both : Some whole0.row ≡ Some w = sym whole0.there ∙ ap (row_at held.rows) (sym same) ∙ there in cc both in
          let alike : IsAlike names r0 w = subst (IsAlike names r0) its whole0.alike in
          record {
            creator_first = is_row.creator_first;
            creator_last = is_row.creator_last;
            parent = its_parent;
            its_parent = is_row.its_parent;
            fields = subst (AreFields i.facts.fields) (sym (alike_after names call good other words i.facts r0 w alike).fields) fields0;
          }
      at is_row its_parent false is = record { creator_first = is_row.creator_first; creator_last = is_row.creator_last; parent = its_parent; its_parent = is_row.its_parent; fields = is_row.fields }

  -- each row of the service was one, and maybe changed
  by_old : (Q : Row → Type 0) → ((w : Row) → row_at held.rows w.id ≡ Some w → Q (change_at i.facts (under_names names call) other w)) → (w' : Row) → row_at held'.rows w'.id ≡ Some w' → Q w'
  by_old Q so w' there =
      let was = from_map (change_at i.facts (under_names names call) other) (same_id_at i.facts (under_names names call) other) held.rows w'.id w' (ap (λ rows. row_at rows w'.id) (sym rows_h) ∙ there) in
      let id : was.row.id ≡ w'.id = id_of_row held.rows w'.id was.row was.there in
      subst Q was.is (so was.row (ap (row_at held.rows) id ∙ was.there))

  pub holds_changed : HoldsPart i names o' held'
  holds_changed =
      let plain : AreRows (λ w. Unit {0}) 0 held'.given held'.rows
      = subst (λ n. AreRows (λ w. Unit {0}) 0 n held'.rows) (sym given_h) (subst (AreRows (λ w. Unit {0}) 0 held.given) (sym rows_h)
      (changed (IsRow i.facts held.rows) (λ w. Unit {0}) (change_at i.facts (under_names names call) other) (same_id_at i.facts (under_names names call) other) (λ w is. tt) 0 held.given held.rows holds.held_sound.rows)) in
      record {
        names_are = holds.names_are;
        held_sound = record {
          rows = all_found (λ w. Unit {0}) (IsRow i.facts held'.rows) 0 held'.given held'.rows plain (by_old (IsRow i.facts held'.rows) row_changed);
          files = files_h;
        };
        given = λ id. subst (λ n. named names id ≤ n) (sym given_h) (holds.given id);
        each = each_held (λ w. Unit {0}) i names o' held' 0 held'.given held'.rows plain (by_old (IsHeld i names o' held') held_changed);
      }

-- What a service holds goes on to stand for an object's rows when a row goes, and under subtree all below it, whole or not.
use Rattle.std.proofs.Common.{◌≡◌, ℕ, ◌<◌, ◌≤◌, Bool, true, false, cond, not, List, [], ◌∷◌, Some, filter, refl, sym, ◌∙◌, ap, subst, inl, inr, arith}
use Rattle.std.specs.Prelude.{◌==◌, ◌||◌, ◌&&◌, nat_lt}
use Rattle.sg_facts.specs.declared.row.Row.{Row}
use Rattle.sg_facts.specs.Alike.{HasAlike, named}
use Rattle.sg_facts.specs.Facts.{Facts}
use Rattle.sg_facts.specs.Held.{HoldsPart, IsHeld, ParentIsWhole}
use Rattle.sg_facts.specs.Interface.{Declared}
use Rattle.sg_facts.specs.Object.{Object}
use Rattle.sg_facts.specs.Sound.{AreFiles, AreRows, IsRow, IsSound}
use Rattle.sg_facts.specs.Track.{ends_with, is_ancestor, is_live, row_at}
use Rattle.sg_facts.specs.Inside.Rows.{has_child}
use Rattle.sg_facts.proofs.RowLists.{id_of_row, left, live_of_row, other, row_at-left}
use Rattle.sg_track.proofs.Above.{ends_child}
use Rattle.sg_track.specs.Kept.{ends_below}
use Rattle.sg_facts.proofs.Replaying.Above.{low_id, name_of_held, parent_of_held}
use Rattle.sg_recovery_laws.proofs.Objects.Above.{same_ancestor, same_id}
use Rattle.sg_facts.proofs.Replaying.Found.{all_found, each_held, from_left, held_at, met, other_test, same_test}
use Rattle.sg_recovery_laws.proofs.Objects.Found.{lower_parents}

-- the rows that stay
abbrev pub stays : Facts → List Row → ℕ → ℕ → Bool
stays facts rows id other = not (ends_with facts rows id other)

-- no row has a child that isn't told
no_child : (rows : List Row) (id at : ℕ) (r : Row) → has_child rows id ≡ false → row_at rows at ≡ Some r → (r.parent == id) ≡ false
no_child [] id at r none there = absurd (cc there)
no_child (x ∷ rows) id at r none there = here (x.parent == id) refl none (x.id == at) there (no_child rows id at r)
  where
    here : (p : Bool) → (x.parent == id) ≡ p → (p || has_child rows id) ≡ false → (b : Bool) → cond b (Some x) (row_at rows at) ≡ Some r
        → (has_child rows id ≡ false → row_at rows at ≡ Some r → (r.parent == id) ≡ false) → (r.parent == id) ≡ false
    here true is none b there rest = absurd (cc none)
    here false is none true there rest = let one : x ≡ r = cc there in subst (λ y. (y.parent == id) ≡ false) one is
    here false is none false there rest = rest none there

-- the parent of a row that stays, stays
pub parent_stays : (facts : Facts) (o : Object) (id : ℕ) (r : Row) → IsSound facts o → (facts.subtree ≡ false → has_child o.rows id ≡ false) → row_at o.rows r.id ≡ Some r
    → (r.parent ≡ 0 → ⊥) → stays facts o.rows id r.id ≡ true → stays facts o.rows id r.parent ≡ true
parent_stays facts o id r sound alone there some stay = at facts.subtree refl
  where
    apart : (s : Bool) → not ((r.id == id) || (s && is_ancestor o.rows id r.id)) ≡ true → (r.id == id) ≡ false
    apart s is = by (r.id == id) is
      where
        by : (b : Bool) → not (b || (s && is_ancestor o.rows id r.id)) ≡ true → b ≡ false
        by true is = absurd (cc is)
        by false is = refl

    at : (s : Bool) → facts.subtree ≡ s → stays facts o.rows id r.parent ≡ true
    at true is =
        let now : not (ends_below o.rows id r.id) ≡ true = subst (λ s. not ((r.id == id) || (s && is_ancestor o.rows id r.id)) ≡ true) is stay in
        let up = ends_child 0 o.given o.rows (lower_parents facts o.rows 0 o.given o.rows sound.rows) id r there (apart true now) (other_test r.parent 0 some) in
        ap (λ s. not ((r.parent == id) || (s && is_ancestor o.rows id r.parent))) is ∙ ap not (sym up) ∙ now
    at false is =
        ap (λ s. not ((r.parent == id) || (s && is_ancestor o.rows id r.parent))) is ∙ ap (λ b. not (b || false)) (no_child o.rows id r.id r (alone is) there)

-- a row stays in the service exactly where it stays in the object
pub stays_in : (i : Declared) (names : List (ℕ × ℕ)) (o held : Object) (desc : ℕ) (holds : HoldsPart i names o held) (sound : IsSound i.facts o) (some : named names desc ≡ 0 → ⊥)
    (r w : Row) → row_at o.rows r.id ≡ Some r → row_at held.rows (named names r.id) ≡ Some w
    → stays i.facts held.rows (named names desc) (named names r.id) ≡ stays i.facts o.rows desc r.id
stays_in i names o held desc holds sound some r w there found =
    ap (λ b. not (b || (i.facts.subtree && is_ancestor held.rows (named names desc) (named names r.id)))) (same_id i names o held holds sound desc r.id some)
    ∙ ap (λ b. not ((r.id == desc) || (i.facts.subtree && b))) (same_ancestor i names o held holds sound desc r w there found some)

module _ (i : Declared) (names : List (ℕ × ℕ)) (o held o' held' : Object) (desc : ℕ) (holds : HoldsPart i names o held) (sound : IsSound i.facts o)
    (some : named names desc ≡ 0 → ⊥) (alone : i.facts.subtree ≡ false → has_child o.rows desc ≡ false)
    (rows_o : o'.rows ≡ filter (λ r. stays i.facts o.rows desc r.id) o.rows) (rows_h : held'.rows ≡ filter (λ w. stays i.facts held.rows (named names desc) w.id) held.rows)
    (given_h : held'.given ≡ held.given) (files_h : AreFiles held'.files) where
  -- a row stays in the service exactly where it stays in the object
  pub stays_alike : (r w : Row) → row_at o.rows r.id ≡ Some r → row_at held.rows (named names r.id) ≡ Some w
      → stays i.facts held.rows (named names desc) (named names r.id) ≡ stays i.facts o.rows desc r.id
  stays_alike r w there found =
      ap (λ b. not (b || (i.facts.subtree && is_ancestor held.rows (named names desc) (named names r.id)))) (same_id i names o held holds sound desc r.id some)
      ∙ ap (λ b. not ((r.id == desc) || (i.facts.subtree && b))) (same_ancestor i names o held holds sound desc r w there found some)

  found_o : (id : ℕ) (r : Row) → row_at o.rows id ≡ Some r → stays i.facts o.rows desc id ≡ true → row_at o'.rows id ≡ Some r
  found_o id r there stay = ap (λ rows. row_at rows id) rows_o ∙ row_at-left (stays i.facts o.rows desc) o.rows id stay ∙ there

  found_h : (id : ℕ) (w : Row) → row_at held.rows id ≡ Some w → stays i.facts held.rows (named names desc) id ≡ true → row_at held'.rows id ≡ Some w
  found_h id w there stay = ap (λ rows. row_at rows id) rows_h ∙ row_at-left (stays i.facts held.rows (named names desc)) held.rows id stay ∙ there

  -- what is whole and stays, stays whole
  pub whole_left : (r : Row) → row_at o.rows r.id ≡ Some r → stays i.facts o.rows desc r.id ≡ true → HasAlike names held r → HasAlike names held' r
  whole_left r there stay has = record {
    row = has.row;
    there = found_h (named names r.id) has.row has.there (stays_alike r has.row there has.there ∙ stay);
    alike = has.alike;
  }

  parent_left : (r : Row) → row_at o.rows r.id ≡ Some r → stays i.facts o.rows desc r.id ≡ true → ParentIsWhole names o held r → ParentIsWhole names o' held' r
  parent_left r there stay (inl none) = inl none
  parent_left r there stay (inr has) =
      let its : has.row.id ≡ r.parent = id_of_row o.rows r.parent has.row has.of in
      let low : 0 < has.row.id = low_id i names o held holds sound r.parent has.row has.of in
      let up : stays i.facts o.rows desc r.parent ≡ true = parent_stays i.facts o desc r sound alone there (λ is. absurd (omega (arith, is, its, low))) stay in
      inr (record {
        row = has.row;
        of = found_o r.parent has.row has.of up;
        whole = whole_left has.row (ap (row_at o.rows) its ∙ has.of) (ap (stays i.facts o.rows desc) its ∙ up) has.whole;
      })

  -- a row of the service that stays
  record StaysFor (w : Row) : Type 0 where
    there : row_at held.rows w.id ≡ Some w
    h : IsHeld i names o held w
    name : named names h.row.id ≡ w.id
    stay : stays i.facts o.rows desc h.row.id ≡ true

  stays_for : (w : Row) → row_at held'.rows w.id ≡ Some w → StaysFor w
  stays_for w there =
      let was = from_left (stays i.facts held.rows (named names desc)) held.rows w.id w (ap (λ rows. row_at rows w.id) (sym rows_h) ∙ there) in
      let h = held_at i names o held held.rows w.id w holds.each was.there in
      let name : named names h.row.id ≡ w.id = name_of_held i names h.row w h.held_for in
      let found : row_at held.rows (named names h.row.id) ≡ Some w = ap (row_at held.rows) name ∙ was.there in
      record {
        there = was.there;
        h = h;
        name = name;
        stay = sym (stays_alike h.row w h.live found) ∙ ap (stays i.facts held.rows (named names desc)) name ∙ was.stays;
      }

  held_left : (w : Row) → row_at held'.rows w.id ≡ Some w → IsHeld i names o' held' w
  held_left w there =
      let s = stays_for w there in
      record {
        row = s.h.row;
        live = found_o s.h.row.id s.h.row s.h.live s.stay;
        held_for = s.h.held_for;
        parent = parent_left s.h.row s.h.live s.stay s.h.parent;
      }

  row_left : (w : Row) → row_at held'.rows w.id ≡ Some w → IsRow i.facts held'.rows w
  row_left w there =
      let s = stays_for w there in
      let is_row : IsRow i.facts held.rows w = met (IsRow i.facts held.rows) 0 held.given w.id held.rows w holds.held_sound.rows s.there in
      record {
        creator_first = is_row.creator_first;
        creator_last = is_row.creator_last;
        parent = by (parent_of_held i names s.h.row w s.h.held_for) is_row (parent_left s.h.row s.h.live s.stay s.h.parent);
        its_parent = is_row.its_parent;
        fields = is_row.fields;
      }
    where
      by : {r : Row} → w.parent ≡ named names r.parent → IsRow i.facts held.rows w → ParentIsWhole names o' held' r → ((w.parent == 0) || (nat_lt w.parent w.id && is_live held'.rows w.parent)) ≡ true
      by {r} parent is_row (inl none) = ap (λ b. b || (nat_lt w.parent w.id && is_live held'.rows w.parent)) (same_test w.parent 0 (parent ∙ ap (named names) none ∙ holds.names_are.none))
      by {r} parent is_row (inr has) =
          let its : has.row.id ≡ r.parent = id_of_row o'.rows r.parent has.row has.of in
          let live : is_live held'.rows w.parent ≡ true
          = live_of_row held'.rows w.parent has.whole.row (ap (row_at held'.rows) (parent ∙ ap (named names) (sym its)) ∙ has.whole.there) in
          either (w.parent == 0) (nat_lt w.parent w.id) (is_live held.rows w.parent) (is_live held'.rows w.parent) is_row.parent live
        where
          either : (a b c d : Bool) → (a || (b && c)) ≡ true → d ≡ true → (a || (b && d)) ≡ true
          either true b c d is live = refl
          either false true c d is live = live
          either false false c d is live = absurd (cc is)

  pub holds_left : HoldsPart i names o' held'
  holds_left =
      let plain : AreRows (λ w. Unit {0}) 0 held'.given held'.rows
      = subst (λ n. AreRows (λ w. Unit {0}) 0 n held'.rows) (sym given_h) (subst (AreRows (λ w. Unit {0}) 0 held.given) (sym rows_h)
      (left (λ w. Unit {0}) (λ w. stays i.facts held.rows (named names desc) w.id) 0 held.given held.rows (other (IsRow i.facts held.rows) (λ w. Unit {0}) (λ w is. tt) 0 held.given held.rows holds.held_sound.rows))) in
      record {
        names_are = holds.names_are;
        held_sound = record {
          rows = all_found (λ w. Unit {0}) (IsRow i.facts held'.rows) 0 held'.given held'.rows plain row_left;
          files = files_h;
        };
        given = λ id. subst (λ n. named names id ≤ n) (sym given_h) (holds.given id);
        each = each_held (λ w. Unit {0}) i names o' held' 0 held'.given held'.rows plain held_left;
      }

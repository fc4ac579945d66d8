-- What a service holds goes on to stand for an object's rows when an answered call changes both.
use Rattle.std.proofs.Common.{◌≡◌, ℕ, ◌+◌, ◌≤◌, Bool, true, false, cond, List, [], ◌∷◌, ◌++◌, None, Some, map, filter, refl, sym, ◌∙◌, ap, subst, inl, inr, ◌⊎◌, arith}
use Rattle.std.specs.Prelude.{if◌then◌else◌}
use Rattle.sg_facts.specs.sg_base.declared.call.Call.{Call}
use Rattle.sg_facts.specs.sg_base.declared.reply.Good.{Good}
use Rattle.sg_facts.specs.sg_base.declared.reply.Reply.TheVariants.{Ok}
use Rattle.sg_facts.specs.declared.row.Row.{Row}
use Rattle.sg_facts.specs.Alike.{HasAlike, named, under_names}
use Rattle.sg_facts.specs.Facts.{Facts, fun_at, takes_parent}
use Rattle.sg_facts.specs.Held.{EachHeld, HoldsPart, IsHeld, ParentIsWhole}
use Rattle.sg_facts.specs.Interface.{Declared}
use Rattle.sg_facts.specs.Object.{Object, after, patch_of}
use Rattle.sg_facts.specs.Sound.{AreFields, AreFiles, AreRows, IsRow, IsSound}
use Rattle.sg_facts.specs.Track.{new_row, row_at}
use Rattle.sg_facts.specs.Inside.Rows.{has_child, row_after}
use Rattle.sg_facts.proofs.RowLists.{id_of_row, row_at-more}
use Rattle.sg_facts.proofs.Replaying.Above.{low_real}
use Rattle.sg_recovery_laws.proofs.Objects.Apart.{changes_row, ends_rows, makes_row, query_keeps}
use Rattle.sg_recovery_laws.proofs.Objects.Changed.{change_at, holds_changed, whole_changed}
use Rattle.sg_recovery_laws.proofs.Objects.Commute.{same_id_at}
use Rattle.sg_facts.proofs.Replaying.Files.{are_files_patched}
use Rattle.sg_facts.proofs.Replaying.Found.{each_held, from_left, from_map, from_more, held_at, last_found, met, same_test, to_map}
use Rattle.sg_recovery_laws.proofs.Objects.Guarded.{ActsOnOne}
use Rattle.sg_recovery_laws.proofs.Objects.Left.{holds_left, stays, whole_left}
use Rattle.sg_recovery_laws.proofs.Objects.Made.{holds_made, new_whole, whole_made}

-- the names after a call: a creation gives the new row its name
abbrev pub names_served : Facts → List (ℕ × ℕ) → Call → Good → Good → List (ℕ × ℕ)
names_served facts names call good other = if (fun_at facts.funs call.fun).creation then (good.desc, other.desc) ∷ names else names

-- only rows, and what tells of them, count
pub holds_told : (i : Declared) (names : List (ℕ × ℕ)) (o held o' held' : Object) → o'.rows ≡ o.rows → held'.rows ≡ held.rows → held'.given ≡ held.given → AreFiles held'.files → HoldsPart i names o held → HoldsPart i names o' held'
holds_told i names o held o' held' rows_o rows_h given files holds = record {
  names_are = holds.names_are;
  held_sound = record {
    rows = subst (λ ws. AreRows (IsRow i.facts ws) 0 held'.given ws) (sym rows_h) (subst (λ n. AreRows (IsRow i.facts held.rows) 0 n held.rows) (sym given) holds.held_sound.rows);
    files = files;
  };
  given = λ id. subst (λ n. named names id ≤ n) (sym given) (holds.given id);
  each = subst (EachHeld i names o' held') (sym rows_h) (each_held (IsRow i.facts held.rows) i names o' held' 0 held.given held.rows holds.held_sound.rows (λ w there. turn (held_at i names o held held.rows w.id w holds.each there)));
}
  where
    whole_too : (r : Row) → HasAlike names held r → HasAlike names held' r
    whole_too r has = record { row = has.row; there = ap (λ ws. row_at ws (named names r.id)) rows_h ∙ has.there; alike = has.alike }

    parent_too : (r : Row) → ParentIsWhole names o held r → ParentIsWhole names o' held' r
    parent_too r (inl none) = inl none
    parent_too r (inr has) = inr (record { row = has.row; of = ap (λ rs. row_at rs r.parent) rows_o ∙ has.of; whole = whole_too has.row has.whole })

    turn : {w : Row} → IsHeld i names o held w → IsHeld i names o' held' w
    turn {w} h = record { row = h.row; live = ap (λ rs. row_at rs h.row.id) rows_o ∙ h.live; held_for = h.held_for; parent = parent_too h.row h.parent }

-- a row of an object with its row in the service, whole
pub record IsWholeRow (names : List (ℕ × ℕ)) (o held : Object) (id : ℕ) : Type 0 where
  pub row : Row
  pub of : row_at o.rows id ≡ Some row
  pub whole : HasAlike names held row

module _ (i : Declared) (names : List (ℕ × ℕ)) (o held : Object) (call : Call) (good other : Good) (holds : HoldsPart i names o held) (sound : IsSound i.facts o)
    (sound' : IsSound i.facts (after i.facts o call (Ok good))) (acts : ActsOnOne i.facts (fun_at i.facts.funs call.fun)) (words : other.words ≡ good.words)
    (next : (fun_at i.facts.funs call.fun).creation ≡ true → (good.desc ≡ o.given + 1) × (other.desc ≡ held.given + 1))
    (on : (fun_at i.facts.funs call.fun).query ≡ false → (fun_at i.facts.funs call.fun).creation ≡ false → IsWholeRow names o held call.desc)
    (parent : takes_parent (fun_at i.facts.funs call.fun) ≡ true → (call.desc ≡ 0) ⊎ IsWholeRow names o held call.desc)
    (alone : (fun_at i.facts.funs call.fun).query ≡ false → (fun_at i.facts.funs call.fun).creation ≡ false → (fun_at i.facts.funs call.fun).terminal ≡ true → i.facts.subtree ≡ false → has_child o.rows call.desc ≡ false) where
  -- what holds of what stands in the service after the call, by what the call does
  record IsServed (names' : List (ℕ × ℕ)) (o' held' : Object) : Type 0 where
    all : HoldsPart i names' o' held'
    whole : (r r' : Row) → row_at o.rows r.id ≡ Some r → HasAlike names held r → row_at o'.rows r.id ≡ Some r' → HasAlike names' held' r'
    new : (r' : Row) → row_at o'.rows r'.id ≡ Some r' → row_at o.rows r'.id ≡ None → HasAlike names' held' r'

  abbrev o1 : Object
  o1 = after i.facts o call (Ok good)

  abbrev h1 : Object
  h1 = after i.facts held (under_names names call) (Ok other)

  files_h : AreFiles h1.files
  files_h = are_files_patched held.files (patch_of i.facts held (under_names names call) (Ok other)) holds.held_sound.files

  given_same : (fun_at i.facts.funs call.fun).creation ≡ false → h1.given ≡ held.given
  given_same makes = ap (λ b. cond b (held.given + 1) held.given) makes

  none_now : (A : Type 0) (r : Row) → None ≡ Some r → A
  none_now A r is = absurd (cc is)

  served_query : (fun_at i.facts.funs call.fun).query ≡ true → (fun_at i.facts.funs call.fun).creation ≡ false → IsServed names o1 h1
  served_query query makes =
      let rows_o : o1.rows ≡ o.rows = query_keeps i.facts call good o.rows query in
      let rows_h : h1.rows ≡ held.rows = query_keeps i.facts (under_names names call) other held.rows query in
      record {
        all = holds_told i names o held o1 h1 rows_o rows_h (given_same makes) files_h holds;
        whole = λ r r' there has there'.
            let same : Some r ≡ Some r' = sym there ∙ ap (λ rs. row_at rs r.id) (sym rows_o) ∙ there' in
            let one : r ≡ r' = cc same in
            subst (HasAlike names h1) one (record { row = has.row; there = ap (λ ws. row_at ws (named names r.id)) rows_h ∙ has.there; alike = has.alike });
        new = λ r' there' none. none_now (HasAlike names h1 r') r' (sym none ∙ ap (λ rs. row_at rs r'.id) (sym rows_o) ∙ there');
      }

  served_change : (fun_at i.facts.funs call.fun).query ≡ false → (fun_at i.facts.funs call.fun).creation ≡ false → (fun_at i.facts.funs call.fun).terminal ≡ false → IsServed names o1 h1
  served_change row makes ends =
      let w = on row makes in
      let rows_o : o1.rows ≡ map (change_at i.facts call good) o.rows = changes_row i.facts call good o.rows row makes ends in
      let rows_h : h1.rows ≡ map (change_at i.facts (under_names names call) other) held.rows = changes_row i.facts (under_names names call) other held.rows row makes ends in
      let now : row_at o1.rows call.desc ≡ Some (row_after i.facts call good w.row)
      = ap (λ rs. row_at rs call.desc) rows_o ∙ to_map (change_at i.facts call good) (same_id_at i.facts call good) o.rows call.desc w.row w.of
      ∙ ap (λ b. Some (cond b (row_after i.facts call good w.row) w.row)) (same_test w.row.id call.desc (id_of_row o.rows call.desc w.row w.of)) in
      let fields0 : AreFields i.facts.fields (row_after i.facts call good w.row).fields = (met (IsRow i.facts o1.rows) 0 o1.given call.desc o1.rows (row_after i.facts call good w.row) sound'.rows now).fields in
      record {
        all = holds_changed i names o held o1 h1 call good other holds sound w.row w.of w.whole words rows_o rows_h (given_same makes) files_h fields0;
        whole = λ r r' there has there'.
            let same : Some (change_at i.facts call good r) ≡ Some r'
            = sym (to_map (change_at i.facts call good) (same_id_at i.facts call good) o.rows r.id r there) ∙ ap (λ rs. row_at rs r.id) (sym rows_o) ∙ there' in
            let one : change_at i.facts call good r ≡ r' = cc same in
            subst (HasAlike names h1) one (whole_changed i names o held o1 h1 call good other holds sound w.row w.of w.whole words rows_o rows_h (given_same makes) files_h fields0 r has);
        new = λ r' there' none.
            let was = from_map (change_at i.facts call good) (same_id_at i.facts call good) o.rows r'.id r' (ap (λ rs. row_at rs r'.id) (sym rows_o) ∙ there') in
            none_now (HasAlike names h1 r') was.row (sym none ∙ was.there);
      }

  served_end : (fun_at i.facts.funs call.fun).query ≡ false → (fun_at i.facts.funs call.fun).creation ≡ false → (fun_at i.facts.funs call.fun).terminal ≡ true → IsServed names o1 h1
  served_end row makes ends =
      let w = on row makes in
      let its : w.row.id ≡ call.desc = id_of_row o.rows call.desc w.row w.of in
      let some : named names call.desc ≡ 0 → ⊥
      = λ none.
      let low = low_real i names o held holds sound (named names w.row.id) w.whole.row w.whole.there in
      let name = id_of_row held.rows (named names w.row.id) w.whole.row w.whole.there in
      absurd (omega (arith, low, name, ap (named names) its, none)) in
      let rows_o : o1.rows ≡ filter (λ r. stays i.facts o.rows call.desc r.id) o.rows = ends_rows i.facts call good o.rows row makes ends in
      let rows_h : h1.rows ≡ filter (λ v. stays i.facts held.rows (named names call.desc) v.id) held.rows = ends_rows i.facts (under_names names call) other held.rows row makes ends in
      record {
        all = holds_left i names o held o1 h1 call.desc holds sound some (alone row makes ends) rows_o rows_h (given_same makes) files_h;
        whole = λ r r' there has there'.
            let was = from_left (stays i.facts o.rows call.desc) o.rows r.id r' (ap (λ rs. row_at rs r.id) (sym rows_o) ∙ there') in
            let same : Some r ≡ Some r' = sym there ∙ was.there in
            let one : r ≡ r' = cc same in
            subst (HasAlike names h1) one (whole_left i names o held o1 h1 call.desc holds sound some (alone row makes ends) rows_o rows_h (given_same makes) files_h r there was.stays has);
        new = λ r' there' none.
            let was = from_left (stays i.facts o.rows call.desc) o.rows r'.id r' (ap (λ rs. row_at rs r'.id) (sym rows_o) ∙ there') in
            none_now (HasAlike names h1 r') r' (sym none ∙ was.there);
      }

  served_make : (fun_at i.facts.funs call.fun).creation ≡ true → IsServed ((good.desc, other.desc) ∷ names) o1 h1
  served_make makes =
      let row = (acts.makes makes).0 in
      let n = next makes in
      let rows_o : o1.rows ≡ o.rows ++ new_row i.facts call good ∷ [] = makes_row i.facts call good o.rows row makes in
      let rows_h : h1.rows ≡ held.rows ++ new_row i.facts (under_names names call) other ∷ [] = makes_row i.facts (under_names names call) other held.rows row makes in
      let given_h : h1.given ≡ held.given + 1 = ap (λ b. cond b (held.given + 1) held.given) makes in
      let parent_is : takes_parent (fun_at i.facts.funs call.fun) ≡ true → (call.desc ≡ 0) ⊎ ((r : Row) × (row_at o.rows call.desc ≡ Some r) × HasAlike names held r)
      = λ takes. elim (parent takes) [ inl root ↦ inl root | inr w ↦ inr (w.row, w.of, w.whole) ] in
      let there_now : row_at o1.rows (new_row i.facts call good).id ≡ Some (new_row i.facts call good)
      = ap (λ rs. row_at rs good.desc) rows_o ∙ last_found (IsRow i.facts o.rows) 0 o.given o.rows (new_row i.facts call good) sound.rows (omega (arith, n.0)) in
      let is_row : IsRow i.facts o1.rows (new_row i.facts call good) = met (IsRow i.facts o1.rows) 0 o1.given (new_row i.facts call good).id o1.rows (new_row i.facts call good) sound'.rows there_now in
      record {
        all = holds_made i names o held o1 h1 call good other holds sound words n.0 n.1 parent_is rows_o rows_h given_h files_h is_row;
        whole = λ r r' there has there'.
            let same : Some r ≡ Some r' = sym (ap (λ rs. row_at rs r.id) rows_o ∙ row_at-more o.rows (new_row i.facts call good) r r.id there) ∙ there' in
            let one : r ≡ r' = cc same in
            subst (HasAlike ((good.desc, other.desc) ∷ names) h1) one
            (whole_made i names o held o1 h1 call good other holds sound words n.0 n.1 parent_is rows_o rows_h given_h files_h is_row r.id r there has);
        new = λ r' there' none. elim (from_more (IsRow i.facts o.rows) 0 o.given o.rows (new_row i.facts call good) r' r'.id (ap (λ rs. row_at rs r'.id) (sym rows_o) ∙ there')) [
          | inl old ↦ none_now (HasAlike ((good.desc, other.desc) ∷ names) h1 r') r' (sym none ∙ old)
          | inr last ↦ subst (HasAlike ((good.desc, other.desc) ∷ names) h1) (sym last.0) (new_whole i names o held o1 h1 call good other holds sound words n.0 n.1 parent_is rows_o rows_h given_h files_h is_row)
        ];
      }

  served : IsServed (names_served i.facts names call good other) o1 h1
  served = by_creation (fun_at i.facts.funs call.fun).creation refl
    where
      by_terminal : (b : Bool) → (fun_at i.facts.funs call.fun).query ≡ false → (fun_at i.facts.funs call.fun).creation ≡ false → (fun_at i.facts.funs call.fun).terminal ≡ b → IsServed names o1 h1
      by_terminal true row makes ends = served_end row makes ends
      by_terminal false row makes ends = served_change row makes ends

      by_query : (b : Bool) → (fun_at i.facts.funs call.fun).query ≡ b → (fun_at i.facts.funs call.fun).creation ≡ false → IsServed names o1 h1
      by_query true query makes = served_query query makes
      by_query false row makes = by_terminal (fun_at i.facts.funs call.fun).terminal row makes refl

      by_creation : (b : Bool) → (fun_at i.facts.funs call.fun).creation ≡ b → IsServed (cond b ((good.desc, other.desc) ∷ names) names) o1 h1
      by_creation true makes = served_make makes
      by_creation false makes = by_query (fun_at i.facts.funs call.fun).query refl makes

  -- the service holds the object's rows after the call
  pub holds_served : HoldsPart i (names_served i.facts names call good other) (after i.facts o call (Ok good)) (after i.facts held (under_names names call) (Ok other))
  holds_served = served.all

  -- what was whole is whole, as it is now
  pub whole_served : (r r' : Row) → row_at o.rows r.id ≡ Some r → HasAlike names held r → row_at (after i.facts o call (Ok good)).rows r.id ≡ Some r'
      → HasAlike (names_served i.facts names call good other) (after i.facts held (under_names names call) (Ok other)) r'
  whole_served = served.whole

  -- and what is new
  pub new_served : (r' : Row) → row_at (after i.facts o call (Ok good)).rows r'.id ≡ Some r' → row_at o.rows r'.id ≡ None
      → HasAlike (names_served i.facts names call good other) (after i.facts held (under_names names call) (Ok other)) r'
  new_served = served.new

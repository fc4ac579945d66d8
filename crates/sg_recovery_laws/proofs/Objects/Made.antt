-- What a service holds goes on to stand for an object's rows when a call makes a row.
use Rattle.std.proofs.Common.{◌≡◌, ℕ, ◌+◌, ◌≤◌, Bool, true, false, cond, not, List, [], ◌∷◌, ◌++◌, Some, map, refl, sym, ◌∙◌, ap, subst, inl, inr, ◌⊎◌, arith}
use Rattle.std.specs.Prelude.{◌==◌, ◌||◌, ◌&&◌, nat_lt}
use Rattle.std.proofs.lemmas.Bool.Decides.{eqb_tells, nat_tests}
use Rattle.sg_facts.specs.sg_base.declared.call.Call.{Call}
use Rattle.sg_facts.specs.sg_base.declared.reply.Good.{Good}
use Rattle.sg_facts.specs.declared.row.Row.{Row}
use Rattle.sg_facts.specs.Alike.{HasAlike, IsAlike, named, under_names}
use Rattle.sg_facts.specs.Facts.{fun_at, takes_parent}
use Rattle.sg_facts.specs.Held.{whole, partly, HasParent, HoldsPart, IsHeld, IsHeldFor, IsPartOf, ParentIsWhole}
use Rattle.sg_facts.specs.Interface.{Declared}
use Rattle.sg_facts.specs.Kinds.{may_be_root}
use Rattle.sg_facts.specs.Object.{Object}
use Rattle.sg_facts.specs.Sound.{AreFields, AreFiles, AreRows, IsRow, IsSound}
use Rattle.sg_facts.specs.Track.{is_live, new_row, row_at}
use Rattle.sg_facts.specs.Fields.{empty_field}
use Rattle.sg_facts.proofs.RowLists.{id_of_row, is_live-more, live_of_row, more, other, row_at-more}
use Rattle.sg_track.specs.Tracked.{HasLowerParent}
use Rattle.sg_facts.proofs.Replaying.Names.{names_more, other_named, own_named}
use Rattle.sg_recovery_laws.proofs.Objects.Fields.{same_fields}
use Rattle.sg_facts.proofs.Replaying.Found.{above, all_found, each_held, from_more, held_at, last_found, met, other_test, same_test, within}
use Rattle.sg_recovery_laws.proofs.Objects.Found.{lower_parents}

module _ (i : Declared) (names : List (ℕ × ℕ)) (o held o' held' : Object) (call : Call) (good other_good : Good) (holds : HoldsPart i names o held) (sound : IsSound i.facts o)
    (words : other_good.words ≡ good.words) (next_o : good.desc ≡ o.given + 1) (next_h : other_good.desc ≡ held.given + 1)
    (parent : takes_parent (fun_at i.facts.funs call.fun) ≡ true → (call.desc ≡ 0) ⊎ ((r : Row) × (row_at o.rows call.desc ≡ Some r) × HasAlike names held r))
    (rows_o : o'.rows ≡ o.rows ++ new_row i.facts call good ∷ []) (rows_h : held'.rows ≡ held.rows ++ new_row i.facts (under_names names call) other_good ∷ [])
    (given_h : held'.given ≡ held.given + 1) (files_h : AreFiles held'.files) (is_row : IsRow i.facts o'.rows (new_row i.facts call good)) where
  abbrev pub now : List (ℕ × ℕ)
  now = (good.desc, other_good.desc) ∷ names

  old_id : (id : ℕ) (r : Row) → row_at o.rows id ≡ Some r → r.id ≡ good.desc → ⊥
  old_id id r there is = absurd (omega (arith, next_o, is, within (IsRow i.facts o.rows) 0 o.given id o.rows r sound.rows there))

  -- other ids keep their names
  kept_name : (id : ℕ) (r : Row) → row_at o.rows id ≡ Some r → named now r.id ≡ named names r.id
  kept_name id r there = other_named names good.desc other_good.desc r.id (old_id id r there)

  -- so do parents of rows that were there
  kept_parent : (id : ℕ) (r : Row) → row_at o.rows id ≡ Some r → named now r.parent ≡ named names r.parent
  kept_parent id r there =
      let lower = met HasLowerParent 0 o.given id o.rows r (lower_parents i.facts o.rows 0 o.given o.rows sound.rows) there in
      let most = within (IsRow i.facts o.rows) 0 o.given id o.rows r sound.rows there in
      other_named names good.desc other_good.desc r.parent (λ is. absurd (omega (arith, is, next_o, lower, most)))

  alike_kept : (id : ℕ) (r w : Row) → row_at o.rows id ≡ Some r → IsAlike names r w → IsAlike now r w
  alike_kept id r w there alike = record {
    id = kept_name id r there ∙ alike.id;
    made = alike.made;
    parent = alike.parent ∙ sym (kept_parent id r there);
    state = alike.state;
    fields = alike.fields;
  }

  part_kept : (id : ℕ) (r w : Row) (done : List ℕ) → row_at o.rows id ≡ Some r → IsPartOf i names r done w → IsPartOf i now r done w
  part_kept id r w done there part = record {
    spot = part.spot;
    led = part.led;
    id = kept_name id r there ∙ part.id;
    made = part.made;
    parent = part.parent ∙ sym (kept_parent id r there);
    state = part.state;
    fields = part.fields;
  }

  held_kept : (id : ℕ) (r w : Row) → row_at o.rows id ≡ Some r → IsHeldFor i names r w → IsHeldFor i now r w
  held_kept id r w there (whole alike) = whole (alike_kept id r w there alike)
  held_kept id r w there (partly done rest walk part) = partly done rest walk (part_kept id r w done there part)

  found_o : (id : ℕ) (r : Row) → row_at o.rows id ≡ Some r → row_at o'.rows id ≡ Some r
  found_o id r there = ap (λ rows. row_at rows id) rows_o ∙ row_at-more o.rows (new_row i.facts call good) r id there

  found_h : (id : ℕ) (w : Row) → row_at held.rows id ≡ Some w → row_at held'.rows id ≡ Some w
  found_h id w there = ap (λ rows. row_at rows id) rows_h ∙ row_at-more held.rows (new_row i.facts (under_names names call) other_good) w id there

  -- what was whole stays so
  pub whole_made : (id : ℕ) (r : Row) → row_at o.rows id ≡ Some r → HasAlike names held r → HasAlike now held' r
  whole_made id r there has = record {
    row = has.row;
    there = ap (row_at held'.rows) (kept_name id r there) ∙ found_h (named names r.id) has.row has.there;
    alike = alike_kept id r has.row there has.alike;
  }

  parent_kept : (r : Row) → ParentIsWhole names o held r → ParentIsWhole now o' held' r
  parent_kept r (inl none) = inl none
  parent_kept r (inr has) = inr (record { row = has.row; of = found_o r.parent has.row has.of; whole = whole_made r.parent has.row has.of has.whole })

  -- the new row is whole
  new_alike : IsAlike now (new_row i.facts call good) (new_row i.facts (under_names names call) other_good)
  new_alike = record {
    id = own_named names good.desc other_good.desc;
    made = refl;
    parent = at (takes_parent (fun_at i.facts.funs call.fun)) parent;
    state = refl;
    fields = same_fields names call good other_good words (fun_at i.facts.funs call.fun).effects (map empty_field i.facts.fields);
  }
    where
      none : named ((good.desc, other_good.desc) ∷ names) 0 ≡ 0
      none = other_named names good.desc other_good.desc 0 (λ is. absurd (omega (arith, is, next_o))) ∙ holds.names_are.none

      at : (b : Bool) → (b ≡ true → (call.desc ≡ 0) ⊎ ((r : Row) × (row_at o.rows call.desc ≡ Some r) × HasAlike names held r))
          → cond b (named names call.desc) 0 ≡ named ((good.desc, other_good.desc) ∷ names) (cond b call.desc 0)
      at true is = by (is refl)
        where
          by : (call.desc ≡ 0) ⊎ ((r : Row) × (row_at o.rows call.desc ≡ Some r) × HasAlike names held r) → named names call.desc ≡ named ((good.desc, other_good.desc) ∷ names) call.desc
          by (inl root) = ap (named names) root ∙ holds.names_are.none ∙ sym none ∙ ap (named ((good.desc, other_good.desc) ∷ names)) (sym root)
          by (inr row) =
              let its : row.0.id ≡ call.desc = id_of_row o.rows call.desc row.0 row.1 in
              sym (other_named names good.desc other_good.desc call.desc (λ is. old_id call.desc row.0 row.1 (its ∙ is)))
      at false is = sym none

  new_parent : ParentIsWhole now o' held' (new_row i.facts call good)
  new_parent = at (takes_parent (fun_at i.facts.funs call.fun)) parent
    where
      at : (b : Bool) → (b ≡ true → (call.desc ≡ 0) ⊎ ((r : Row) × (row_at o.rows call.desc ≡ Some r) × HasAlike names held r))
          → (cond b call.desc 0 ≡ 0) ⊎ HasParent now o' held' (record (new_row i.facts call good) { parent = cond b call.desc 0 })
      at false is = inl refl
      at true is = by (is refl)
        where
          by : (call.desc ≡ 0) ⊎ ((r : Row) × (row_at o.rows call.desc ≡ Some r) × HasAlike names held r) → (call.desc ≡ 0) ⊎ HasParent now o' held' (record (new_row i.facts call good) { parent = call.desc })
          by (inl root) = inl root
          by (inr row) = inr (record { row = row.0; of = found_o call.desc row.0 row.1; whole = whole_made call.desc row.0 row.1 row.2 })

  new_there_o : row_at o'.rows good.desc ≡ Some (new_row i.facts call good)
  new_there_o = ap (λ rows. row_at rows good.desc) rows_o ∙ last_found (IsRow i.facts o.rows) 0 o.given o.rows (new_row i.facts call good) sound.rows (omega (arith, next_o))

  new_there_h : row_at held'.rows other_good.desc ≡ Some (new_row i.facts (under_names names call) other_good)
  new_there_h = ap (λ rows. row_at rows other_good.desc) rows_h
      ∙ last_found (IsRow i.facts held.rows) 0 held.given held.rows (new_row i.facts (under_names names call) other_good) holds.held_sound.rows (omega (arith, next_h))

  pub new_whole : HasAlike now held' (new_row i.facts call good)
  new_whole = record {
    row = new_row i.facts (under_names names call) other_good;
    there = ap (row_at held'.rows) new_alike.id ∙ new_there_h;
    alike = new_alike;
  }

  held_made : (w : Row) → row_at held'.rows w.id ≡ Some w → IsHeld i now o' held' w
  held_made w there = by (from_more (IsRow i.facts held.rows) 0 held.given held.rows (new_row i.facts (under_names names call) other_good) w w.id (ap (λ rows. row_at rows w.id) (sym rows_h) ∙ there))
    where
      by : (row_at held.rows w.id ≡ Some w) ⊎ ((w ≡ new_row i.facts (under_names names call) other_good) × ((new_row i.facts (under_names names call) other_good).id ≡ w.id)) → IsHeld i now o' held' w
      by (inl old) =
          let h = held_at i names o held held.rows w.id w holds.each old in
          record {
            row = h.row;
            live = found_o h.row.id h.row h.live;
            held_for = held_kept h.row.id h.row w h.live h.held_for;
            parent = parent_kept h.row h.parent;
          }
      by (inr last) = subst (IsHeld i now o' held') (sym last.0) (record {
        row = new_row i.facts call good;
        live = new_there_o;
        held_for = whole new_alike;
        parent = new_parent;
      })

  row_made : (w : Row) → row_at held'.rows w.id ≡ Some w → IsRow i.facts held'.rows w
  row_made w there = by (from_more (IsRow i.facts held.rows) 0 held.given held.rows (new_row i.facts (under_names names call) other_good) w w.id (ap (λ rows. row_at rows w.id) (sym rows_h) ∙ there))
    where
      live_more : (id : ℕ) → is_live held.rows id ≡ true → is_live held'.rows id ≡ true
      live_more id live = ap (λ rows. is_live rows id) rows_h ∙ is_live-more held.rows (new_row i.facts (under_names names call) other_good) id live

      either : (a b c d : Bool) → (a || (b && c)) ≡ true → (c ≡ true → d ≡ true) → (a || (b && d)) ≡ true
      either true b c d is so = refl
      either false true c d is so = so is
      either false false c d is so = absurd (cc is)

      last : (a b c : Bool) → b ≡ true → c ≡ true → (a || (b && c)) ≡ true
      last true b c is also = refl
      last false true c is also = also
      last false false c is also = absurd (cc is)

      at : (b : Bool) → (b ≡ true → (call.desc ≡ 0) ⊎ ((r : Row) × (row_at o.rows call.desc ≡ Some r) × HasAlike names held r))
          → ((cond b (named names call.desc) 0 == 0) || (nat_lt (cond b (named names call.desc) 0) other_good.desc && is_live held'.rows (cond b (named names call.desc) 0))) ≡ true
      at false is = refl
      at true is = elim (is refl) [
        | inl root ↦ ap (λ b. b || (nat_lt (named names call.desc) other_good.desc && is_live held'.rows (named names call.desc)))
            (same_test (named names call.desc) 0 (ap (named names) root ∙ holds.names_are.none))
        | inr row ↦
            let its : row.0.id ≡ call.desc = id_of_row o.rows call.desc row.0 row.1 in
            let live : is_live held'.rows (named names call.desc) ≡ true
            = live_more (named names call.desc) (live_of_row held.rows (named names call.desc) row.2.row (ap (λ id. row_at held.rows (named names id)) (sym its) ∙ row.2.there)) in
            let low : named names call.desc ≤ held.given = holds.given call.desc in
            let lower : nat_lt (named names call.desc) other_good.desc ≡ true = grind (arith, nat_tests, low, next_h) in
            last (named names call.desc == 0) (nat_lt (named names call.desc) other_good.desc) (is_live held'.rows (named names call.desc)) lower live
      ]

      -- it has a parent here where it has one in the object
      as_taken : (b m : Bool) → (b ≡ true → (call.desc ≡ 0) ⊎ ((r : Row) × (row_at o.rows call.desc ≡ Some r) × HasAlike names held r))
          → cond b (m || not (cond b call.desc 0 == 0)) (cond b call.desc 0 == 0) ≡ true
          → cond b (m || not (cond b (named names call.desc) 0 == 0)) (cond b (named names call.desc) 0 == 0) ≡ true
      as_taken false m is was = refl
      as_taken true true is was = refl
      as_taken true false is was = elim (is refl) [
        | inl root ↦ absurd (let zero_it = same_test call.desc 0 root in cc (was, zero_it))
        | inr row ↦
            let its : row.0.id ≡ call.desc = id_of_row o.rows call.desc row.0 row.1 in
            let low = above (IsRow i.facts held.rows) 0 held.given (named names row.0.id) held.rows row.2.row holds.held_sound.rows row.2.there in
            let real = id_of_row held.rows (named names row.0.id) row.2.row row.2.there in
            let some : named names call.desc ≡ 0 → ⊥ = λ none. let one : named names row.0.id ≡ 0 = ap (named names) its ∙ none in absurd (omega (arith, low, real, one)) in
            ap not (other_test (named names call.desc) 0 some)
      ]

      by : (row_at held.rows w.id ≡ Some w) ⊎ ((w ≡ new_row i.facts (under_names names call) other_good) × ((new_row i.facts (under_names names call) other_good).id ≡ w.id)) → IsRow i.facts held'.rows w
      by (inl old) =
          let was : IsRow i.facts held.rows w = met (IsRow i.facts held.rows) 0 held.given w.id held.rows w holds.held_sound.rows old in
          record {
            creator_first = was.creator_first;
            creator_last = was.creator_last;
            parent = either (w.parent == 0) (nat_lt w.parent w.id) (is_live held.rows w.parent) (is_live held'.rows w.parent) was.parent (live_more w.parent);
            its_parent = was.its_parent;
            fields = was.fields;
          }
      by (inr last) = subst (IsRow i.facts held'.rows) (sym last.0) (record {
        creator_first = is_row.creator_first;
        creator_last = is_row.creator_last;
        parent = at (takes_parent (fun_at i.facts.funs call.fun)) parent;
        its_parent = as_taken (takes_parent (fun_at i.facts.funs call.fun)) (may_be_root i.facts.parents) parent is_row.its_parent;
        fields = subst (AreFields i.facts.fields) (sym new_alike.fields) is_row.fields;
      })

  pub holds_made : HoldsPart i now o' held'
  holds_made =
      let are : AreRows (λ w. Unit {0}) 0 held.given held.rows = other (IsRow i.facts held.rows) (λ w. Unit {0}) (λ w is. tt) 0 held.given held.rows holds.held_sound.rows in
      let all : AreRows (λ w. Unit {0}) 0 other_good.desc (held.rows ++ new_row i.facts (under_names names call) other_good ∷ [])
      = more (λ w. Unit {0}) 0 held.given held.rows (new_row i.facts (under_names names call) other_good) are (omega (arith, next_h)) (omega (arith, next_h)) tt in
      let plain : AreRows (λ w. Unit {0}) 0 held'.given held'.rows
      = subst (λ n. AreRows (λ w. Unit {0}) 0 n held'.rows) (next_h ∙ sym given_h) (subst (AreRows (λ w. Unit {0}) 0 other_good.desc) (sym rows_h) all) in
      record {
        names_are = names_more names held.given good.desc other_good.desc holds.names_are holds.given (omega (arith, next_h)) (omega (arith, next_o));
        held_sound = record {
          rows = all_found (λ w. Unit {0}) (IsRow i.facts held'.rows) 0 held'.given held'.rows plain row_made;
          files = files_h;
        };
        given = given_now;
        each = each_held (λ w. Unit {0}) i now o' held' 0 held'.given held'.rows plain held_made;
      }
    where
      given_now : (id : ℕ) → named ((good.desc, other_good.desc) ∷ names) id ≤ held'.given
      given_now id = at (eqb_tells id good.desc)
        where
          at : ((id == good.desc) ≡ true) × (id ≡ good.desc) ⊎ ((id == good.desc) ≡ false) × (id ≡ good.desc → ⊥) → named ((good.desc, other_good.desc) ∷ names) id ≤ held'.given
          at (inl same) =
              let is : named ((good.desc, other_good.desc) ∷ names) id ≡ other_good.desc = ap (named ((good.desc, other_good.desc) ∷ names)) same.1 ∙ own_named names good.desc other_good.desc in
              omega (arith, is, next_h, given_h)
          at (inr apart) =
              let is : named ((good.desc, other_good.desc) ∷ names) id ≡ named names id = other_named names good.desc other_good.desc id apart.1 in
              let low = holds.given id in
              omega (arith, is, low, given_h)

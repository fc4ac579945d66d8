-- Open files stay a tree.
use Rattle.std.proofs.Common.{◌≡◌, ℕ, ◌+◌, ◌<◌, ◌≤◌, Bool, true, false, cond, not, List, [], ◌∷◌, ◌++◌, None, Some, IfSome, IsSome, is_some, length, map, filter, append_assoc, refl, sym, ◌∙◌, ap, subst, arith}
use Rattle.std.specs.Prelude.{◌==◌, if◌then◌else◌}
use Rattle.std.specs.Option.{option_map}
use Rattle.std.specs.declared.option.Option.{Option}
use Rattle.std.proofs.lemmas.Bool.Decides.{nat_tests}
use Rattle.sg_facts.specs.sg_base.declared.reply.Reply.{Reply}
use Rattle.sg_facts.specs.declared.outcome.Patch.{Patch}
use Rattle.sg_facts.specs.declared.outcome.Outcome.TheVariants.{Replied}
use Rattle.sg_facts.specs.declared.row.Row.{Row}
use Rattle.sg_facts.specs.Invoke.{Points}
use Rattle.sg_facts.specs.Limits.{most_path}
use Rattle.sg_facts.specs.Object.{first_text, path_of}
use Rattle.sg_facts.specs.Sound.{AreRows}
use Rattle.sg_facts.specs.Track.{row_at}
use Rattle.sg_facts.specs.Inside.Rows.{has_child}
use Rattle.sg_facts.proofs.RowLists.{more, changed, left, other}
use Rattle.sg_slots.specs.declared.decision.Decision.{Decision}
use Rattle.sg_slots.specs.declared.decision.Decision.TheVariants.{Refuse, Block, Make, Enlist, Set, Keep, Remove}
use Rattle.sg_slots.specs.Carry.{Carries, IsAbout, held_after}
use Rattle.sg_slots.specs.Slots.{Held, entry_at, row_with, set_entry, without}
use Rattle.sg_slots.proofs.FoundRows.{all_rows}
use Rattle.sg_slots.proofs.Ids.{ids_more, ids_set, ids_without}
use Rattle.sg_slots.proofs.Rows.{row_at-rows_of, rows_of-more, rows_of-set, rows_of-without}
use Rattle.sg_facts.proofs.Replaying.Found.{above, from_left, met, within}
use Rattle.sg_ramfs.specs.declared.open_file.OpenFile.{OpenFile}
use Rattle.sg_ramfs.specs.Inside.RamfsPaths.{IsBelow, path_below, path_changed, path_last, path_left, path_more, path_of_none}
use Rattle.sg_ramfs.specs.RamfsRow.{file_body}
use Rattle.sg_ramfs.specs.Inside.RamfsTree.{FitsTree, IsNested, IsTree, tree_rows}

-- the rows of a tree have parents of smaller ids
pub tree_below : (held : Held OpenFile) → IsTree held → AreRows IsBelow 0 held.given (tree_rows held)
tree_below held tree = other (IsNested (tree_rows held)) IsBelow (λ r nested. nested.below) 0 held.given (tree_rows held) tree.nested

-- ---- paths

-- the row of an open file
pub file_row : (held : Held OpenFile) (id : ℕ) (f : OpenFile) → entry_at held.entries id ≡ Some f → row_at (tree_rows held) id ≡ Some (row_with id (file_body f))
file_row held id f there = row_at-rows_of file_body held.entries id ∙ ap (option_map (λ e. row_with id (file_body e))) there

-- its path is its parent's, a slash and its name
pub path_of_file : (held : Held OpenFile) (id : ℕ) (f : OpenFile) → IsTree held → entry_at held.entries id ≡ Some f → (path_of (tree_rows held) f.parent ++ 47 ∷ []) ++ f.name ≡ path_of (tree_rows held) id
path_of_file held id f tree there =
    append_assoc (path_of (tree_rows held) f.parent) (47 ∷ []) f.name ∙ sym (path_below held.given id (tree_rows held) (row_with id (file_body f)) (tree_below held tree) (file_row held id f there))

-- where there is no open file there is no path
pub path_of_no_file : (held : Held OpenFile) (id : ℕ) → entry_at held.entries id ≡ None → [] ≡ path_of (tree_rows held) id
path_of_no_file held id none = sym (path_of_none held.given id (tree_rows held) (row_at-rows_of file_body held.entries id ∙ ap (option_map (λ e. row_with id (file_body e))) none))

-- it stands below a smaller id, and under one that is no longer than paths may be
pub file_nested : (held : Held OpenFile) (id : ℕ) (f : OpenFile) → IsTree held → entry_at held.entries id ≡ Some f → (f.parent < id) × (length (path_of (tree_rows held) id) ≤ most_path)
file_nested held id f tree there =
    let nested = met (IsNested (tree_rows held)) 0 held.given id (tree_rows held) (row_with id (file_body f)) tree.nested (file_row held id f there) in
    (nested.below, nested.path)

-- ---- changes

-- rows that are nested under their paths are nested where their paths are the same
still_nested : (rows rows' : List Row) (r : Row) → path_of rows' r.id ≡ path_of rows r.id → IsNested rows r → IsNested rows' r
still_nested rows rows' r same nested = record { below = nested.below; path = subst (λ p. length p ≤ most_path) (sym same) nested.path }

module _ (held : Held OpenFile) (tree : IsTree held) where
  abbrev rows : List Row
  rows = tree_rows held

  nested_at : (r : Row) → row_at rows r.id ≡ Some r → IsNested rows r
  nested_at r found = met (IsNested rows) 0 held.given r.id rows r tree.nested found

  low_at : (r : Row) → row_at rows r.id ≡ Some r → 0 < r.id
  low_at r found = above (IsNested rows) 0 held.given r.id rows r tree.nested found

  -- an open file comes
  tree_more : (f : OpenFile) → f.parent ≤ held.given → length (path_of rows f.parent ++ 47 ∷ f.name) ≤ most_path → IsTree (record { entries = held.entries ++ (held.given + 1, f) ∷ []; given = held.given + 1 })
  tree_more f parent short =
      let new : Row = row_with (held.given + 1) (file_body f) in
      let next : held.given < new.id = omega arith in
      let all : List Row = rows ++ new ∷ [] in
      let old : AreRows (IsNested all) 0 held.given rows =
      all_rows (IsNested rows) (IsNested all) 0 held.given rows tree.nested (λ r found.
      let high = within (IsNested rows) 0 held.given r.id rows r tree.nested found in
      still_nested rows all r (path_more held.given rows new (tree_below held tree) next r.id (low_at r found) (omega (arith, high))) (nested_at r found)) in
      let its : IsNested all new = record {
        below = omega (arith, parent);
        path = subst (λ p. length p ≤ most_path) (sym (path_last held.given rows new (tree_below held tree) next (omega (arith, parent)))) short;
      } in
      record {
        ids = ids_more 0 held.given (held.given + 1) held.entries f tree.ids (omega arith) (omega arith);
        nested = subst (λ rs. AreRows (IsNested rs) 0 (held.given + 1) rs) (sym (rows_of-more file_body held.entries (held.given + 1) f)) (more (IsNested all) 0 held.given rows new old (omega arith) next its);
      }

  -- an open file is set
  tree_set : (id : ℕ) (f old : OpenFile) → entry_at held.entries id ≡ Some old → f.parent ≡ old.parent → f.name ≡ old.name → IsTree (record { entries = set_entry held.entries id f; given = held.given })
  tree_set id f old there parent name = record {
    ids = ids_set 0 held.given id held.entries f tree.ids (ap is_some there);
    nested = subst (λ rs. AreRows (IsNested rs) 0 held.given rs) (sym (rows_of-set file_body 0 held.given id set held.entries old f tree.ids there turns))
        (changed IsThere (IsNested rows') one same_id still 0 held.given rows (all_rows (IsNested rows) IsThere 0 held.given rows tree.nested (λ r found. found)));
  }
    where
      set : Row → Row
      set r = record r { creator = f.creator; fields = (file_body f).fields }

      turns : set (row_with id (file_body old)) ≡ row_with id (file_body f)
      turns = ap (λ p. row_with id (record (file_body f) { parent = p })) (sym parent)

      one : Row → Row
      one r = if r.id == id then set r else r

      rows' : List Row
      rows' = map one rows

      IsThere : Row → Type 0
      IsThere r = row_at rows r.id ≡ Some r

      same_id : (r : Row) → (one r).id ≡ r.id
      same_id r = at (r.id == id)
        where
          at : (b : Bool) → (cond b (set r) r).id ≡ r.id
          at true = refl
          at false = refl

      same_parent : (r : Row) → IsThere r → (one r).parent ≡ r.parent
      same_parent r found = at (r.id == id)
        where
          at : (b : Bool) → (cond b (set r) r).parent ≡ r.parent
          at true = refl
          at false = refl

      -- the row that is set is that of the open file
      is_old : (r : Row) → IsThere r → (r.id == id) ≡ true → r ≡ row_with id (file_body old)
      is_old r found is =
          let same : r.id ≡ id = grind (arith, nat_tests, is) in
          let both : Some r ≡ Some (row_with id (file_body old)) = sym found ∙ ap (row_at rows) same ∙ file_row held id old there in
          cc both

      same_name : (r : Row) → IsThere r → first_text (one r).fields ≡ first_text r.fields
      same_name r found = at (r.id == id) (is_old r found)
        where
          at : (b : Bool) → (b ≡ true → r ≡ row_with id (file_body old)) → first_text (cond b (set r) r).fields ≡ first_text r.fields
          at true is = name ∙ sym (ap (λ x. first_text x.fields) (is refl))
          at false is = refl

      still : (r : Row) → IsThere r → IsNested rows' (one r)
      still r found = at (r.id == id)
        where
          path : path_of rows' r.id ≡ path_of rows r.id
          path = path_changed held.given rows one (tree_below held tree) same_id same_parent same_name r.id (low_at r found)

          at : (b : Bool) → IsNested rows' (cond b (set r) r)
          at true = let nested = still_nested rows rows' r path (nested_at r found) in record { below = nested.below; path = nested.path }
          at false = still_nested rows rows' r path (nested_at r found)

  -- an open file ends, with nothing below it
  tree_without : (id : ℕ) → has_child rows id ≡ false → IsTree (record { entries = without held.entries id; given = held.given })
  tree_without id childless = record {
    ids = ids_without 0 held.given id held.entries tree.ids;
    nested = subst (λ rs. AreRows (IsNested rs) 0 held.given rs) (sym (rows_of-without file_body 0 held.given id held.entries tree.ids))
        (all_rows IsBelow (IsNested rows') 0 held.given rows' (left IsBelow (λ r. test r.id) 0 held.given rows (tree_below held tree)) still);
  }
    where
      test : ℕ → Bool
      test n = not (n == id)

      rows' : List Row
      rows' = filter (λ r. test r.id) rows

      still : (r : Row) → row_at rows' r.id ≡ Some r → IsNested rows' r
      still r found =
          let stayed = from_left test rows r.id r found in
          still_nested rows rows' r (path_left held.given rows id test (tree_below held tree) childless (λ n apart. ap not apart) r.id (low_at r stayed.there) stayed.stays) (nested_at r stayed.there)

  -- so does any decision that fits leave a tree
  pub tree_after : (id : ℕ) (d : Decision OpenFile) → IsAbout held id d → FitsTree held id d → IsTree (held_after held id d)
  tree_after id (Refuse code) about fits = tree
  tree_after id Block about fits = tree
  tree_after id (Make f word) about fits = tree_more f fits.0 fits.1
  tree_after id (Enlist f word) about fits = tree_more f fits.0 fits.1
  tree_after id (Set f word) about fits = at (entry_at held.entries id) refl about fits
    where
      at : (found : Option OpenFile) → entry_at held.entries id ≡ found → IsSome found → IfSome found (λ old. (f.parent ≡ old.parent) × (f.name ≡ old.name)) → IsTree (held_after held id (Set f word))
      at None is some same = absurd (cc some)
      at (Some old) is some same = tree_set id f old is same.0 same.1
  tree_after id (Keep desc word) about fits = tree
  tree_after id Remove about fits = tree_without id fits

-- a reply leaves what the decision makes of it
pub after_reply : {E : Type 0} (old : Held E) (id : ℕ) (d : Decision E) (points : Points) (reply : Reply) (patch : Option Patch) (new : Held E) (later : Points) → Carries old id d points (Replied reply patch) new later
    → new ≡ held_after old id d
after_reply old id d points reply None new later carried = carried.changed
after_reply old id d points reply (Some patch) new later carried = absurd carried

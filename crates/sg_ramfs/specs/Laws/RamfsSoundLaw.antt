-- The file service answers, and what it holds stays sound.
use Rattle.std.proofs.Common.{◌≡◌, ℕ, zero, suc, ◌+◌, ◌<◌, ◌≤◌, Bool, true, false, cond, not, List, [], ◌∷◌, ◌++◌, None, Some, length, length-append, map, min, filter, take, drop, refl, sym, ◌∙◌, ap, subst, inl, inr, ◌⊎◌, arith}
use Rattle.std.specs.Prelude.{◌-◌, ◌==◌, ◌&&◌, ◌||◌, nat_lt, slice_get, slice_set, unwrap_or}
use Rattle.std.specs.List.{AllByRecursion}
use Rattle.std.specs.Str.{bytes_eq}
use Rattle.std.specs.declared.option.Option.{Option}
use Rattle.std.proofs.lemmas.Bool.Decides.{nat_tests}
use Rattle.std.proofs.lemmas.List.{length-drop, length-take}
use Rattle.sg_facts.specs.sg_base.declared.value.Value.{Value}
use Rattle.sg_facts.specs.sg_base.declared.value.Value.TheVariants.{Word, Text}
use Rattle.sg_facts.specs.sg_base.declared.call.Call.{Call}
use Rattle.sg_facts.specs.sg_base.declared.reply.Code.TheVariants.{NoParent, NoDesc, Full, Gap, TooBig, BadName}
use Rattle.sg_facts.specs.sg_base.declared.reply.Good.{Good}
use Rattle.sg_facts.specs.sg_base.declared.reply.Reply.TheVariants.{Ok, Refused}
use Rattle.sg_facts.specs.declared.row.Row.{Row}
use Rattle.sg_facts.specs.Facts.{Field, fun_at}
use Rattle.sg_facts.specs.Inside.Guards.{is_own}
use Rattle.sg_facts.specs.Kinds.{AreWords, kinds_fit}
use Rattle.sg_facts.specs.Limits.{most_file, most_path}
use Rattle.sg_facts.specs.Track.{row_at, is_live, ends_with, new_row, arg_at, field_at, fields_after, first_word, word_of}
use Rattle.sg_facts.specs.Inside.Rows.{has_child, row_after, patch_at, patched}
use Rattle.sg_facts.specs.Object.{Object, after, file_at, first_text, over, path_of, place_of, set_file}
use Rattle.sg_facts.specs.Sound.{AreFields, AreRows, IsOfField, IsRow, IsSound}
use Rattle.sg_facts.specs.Laws.{AnswersAndKeeps, Passes}
use Rattle.sg_facts.proofs.RowLists.{more, changed, id_of_row, is_live-more, live_of_row}
use Rattle.sg_slots.proofs.FoundRows.{all_rows}
use Rattle.sg_slots.proofs.RowLaws.{childless, first_makes, row_of_call, sound_changed}
use Rattle.sg_slots.proofs.SoundRows.{change, change_id, none_applies, sound_more, sound_left}
use Rattle.sg_facts.proofs.Replaying.Creating.{below_it}
use Rattle.sg_facts.proofs.Replaying.Files.{are_files_patched}
use Rattle.sg_facts.proofs.Replaying.Found.{above, from_left, met, within}
use Rattle.sg_ramfs.specs.RamfsFacts.{ramfs_facts}
use Rattle.sg_ramfs.specs.Inside.RamfsAnswer.{tread, twrite, most_read, read_answer, seek_answer, split_answer, write_answer}
use Rattle.sg_ramfs.specs.Inside.RamfsPaths.{IsBelow, path_changed, path_last, path_left, path_more}
use Rattle.sg_ramfs.specs.RamfsSound.{IsFile, IsPlaced, IsRamfsSound}
use Rattle.sg_ramfs.specs.RamfsTable.{file_of, is_bad_name, moved, ramfs_table, ramfs_answer}

-- ---- what an Ok tells

-- a new descriptor has a good name, a path that isn't too long, and the next id
split_ok : (given : ℕ) (path name : List ℕ) (good : Good) → split_answer given path name ≡ Some (Ok good)
    → (is_bad_name name ≡ false) × (length (path ++ 47 ∷ name) ≤ most_path) × (good.desc ≡ given + 1)
split_ok given path name good is = at (is_bad_name name) (nat_lt most_path (length (path ++ 47 ∷ name))) refl refl is
  where
    at : (bad long : Bool) → is_bad_name name ≡ bad → nat_lt most_path (length (path ++ 47 ∷ name)) ≡ long
        → cond bad (Some (Refused BadName)) (cond long (Some (Refused TooBig)) (Some (Ok (record { desc = given + 1; words = []; bytes = [] })))) ≡ Some (Ok good)
        → (is_bad_name name ≡ false) × (length (path ++ 47 ∷ name) ≤ most_path) × (good.desc ≡ given + 1)
    at true long bad_is long_is is = absurd (cc is)
    at false true bad_is long_is is = absurd (cc is)
    at false false bad_is long_is is =
        let one : record { desc = given + 1; words = []; bytes = [] } ≡ good = cc is in
        (bad_is, grind (arith, nat_tests, long_is), sym (ap (λ g. g.desc) one))

-- a read tells how many bytes it found
pub read_ok : (file : List ℕ) (from n : ℕ) (good : Good) → read_answer file from n ≡ Some (Ok good) → first_word good ≡ length (take n (drop from file))
read_ok file from n good is = at (nat_lt most_read n) is
  where
    at : (much : Bool) → cond much (Some (Refused TooBig)) (moved (length (take n (drop from file))) (take n (drop from file))) ≡ Some (Ok good) → first_word good ≡ length (take n (drop from file))
    at true is = absurd (cc is)
    at false is =
        let one : record { desc = 0; words = length (take n (drop from file)) ∷ []; bytes = take n (drop from file) } ≡ good = cc is in
        sym (ap first_word one)

-- a write begins within the file, ends within the greatest length, and tells how many bytes it wrote
pub record HasWritten (file : List ℕ) (from : ℕ) (bytes : List ℕ) (good : Good) : Type 0 where
  pub begins : from ≤ length file
  pub ends : from + length bytes ≤ most_file
  pub count : first_word good ≡ length bytes

-- a write that is answered Ok begins within the file, ends within the greatest length, and tells how many bytes it wrote
pub write_ok : (file : List ℕ) (from : ℕ) (bytes : List ℕ) (good : Good) → write_answer file from bytes ≡ Some (Ok good) → HasWritten file from bytes good
write_ok file from bytes good is = at (nat_lt (length file) from) (nat_lt most_file (from + length bytes)) refl refl is
  where
    at : (behind big : Bool) → nat_lt (length file) from ≡ behind → nat_lt most_file (from + length bytes) ≡ big
        → cond behind (Some (Refused Gap)) (cond big (Some (Refused TooBig)) (moved (length bytes) [])) ≡ Some (Ok good) → HasWritten file from bytes good
    at true big after_is big_is is = absurd (cc is)
    at false true after_is big_is is = absurd (cc is)
    at false false after_is big_is is =
        let one : record { desc = 0; words = length bytes ∷ []; bytes = [] } ≡ good = cc is in
        record { begins = grind (arith, nat_tests, after_is); ends = grind (arith, nat_tests, big_is); count = sym (ap first_word one) }

-- a place that is sought is within the greatest length
seek_ok : (place : ℕ) (good : Good) → seek_answer place ≡ Some (Ok good) → place ≤ most_file
seek_ok place good is = at (nat_lt most_file place) refl is
  where
    at : (big : Bool) → nat_lt most_file place ≡ big → cond big (Some (Refused TooBig)) (Some (Ok (record { desc = 0; words = []; bytes = [] }))) ≡ Some (Ok good) → place ≤ most_file
    at true big_is is = absurd (cc is)
    at false big_is is = grind (arith, nat_tests, big_is)

-- ---- fields

abbrev place_field : Field
place_field = record { name = []; text = false }

-- a new name is the argument
name_is_text : (args : List Value) → kinds_fit (fun_at ramfs_facts.funs 1).kinds args ≡ true
    → AreFields ramfs_facts.fields (unwrap_or (slice_get args 0) (Word 0) ∷ Word 0 ∷ []) × (first_text (unwrap_or (slice_get args 0) (Word 0) ∷ Word 0 ∷ []) ≡ first_text args)
name_is_text [] fit = absurd (cc fit)
name_is_text (Word n ∷ args) fit = absurd (cc fit)
name_is_text (Text bytes ∷ args) fit = ((refl, ((refl, omega arith), tt)), refl)

-- a place that is sought is a word
place_is_word : (args : List Value) → kinds_fit (fun_at ramfs_facts.funs 4).kinds args ≡ true → AreWords args → IsOfField place_field (unwrap_or (slice_get args 0) (Word 0))
place_is_word [] fit are = absurd (cc fit)
place_is_word (Text bytes ∷ args) fit are = absurd (cc fit)
place_is_word (Word n ∷ args) fit are = (refl, are.0)

-- fields with another place are fields, of the same name
pub place_set : (fields : List Value) (v : Value) → IsOfField place_field v → AreFields ramfs_facts.fields fields
    → AreFields ramfs_facts.fields (slice_set fields 1 v) × (first_text (slice_set fields 1 v) ≡ first_text fields) × (word_of (field_at (slice_set fields 1 v) 1) ≡ word_of v)
place_set [] v is are = absurd are
place_set (a ∷ []) v is are = absurd are.1
place_set (a ∷ b ∷ c ∷ fields) v is are = absurd are.1.1
place_set (Text bytes ∷ b ∷ []) v is are = ((are.0, (is, tt)), refl, refl)
place_set (Word n ∷ b ∷ []) v is are = let no_word = are.0.0 in absurd (cc no_word)

-- ---- files

-- the bytes of a path are no more than a file may have
file_short : (files : List (List ℕ × List ℕ)) (path : List ℕ) → AllByRecursion IsFile files → length (file_at files path) ≤ most_file
file_short [] path are = omega arith
file_short (f ∷ files) path are = at (bytes_eq f.0 path) (file_short files path are.1)
  where
    at : (b : Bool) → length (file_at files path) ≤ most_file → length (cond b f.1 (file_at files path)) ≤ most_file
    at true rest = are.0.1
    at false rest = rest

files_set : (files : List (List ℕ × List ℕ)) (path bytes : List ℕ) → AllByRecursion IsFile files → IsFile (path, bytes) → AllByRecursion IsFile (set_file files path bytes)
files_set [] path bytes are is = (is, tt)
files_set (f ∷ files) path bytes are is = at (bytes_eq f.0 path) (files_set files path bytes are.1 is)
  where
    at : (b : Bool) → AllByRecursion IsFile (set_file files path bytes) → AllByRecursion IsFile (cond b ((path, bytes) ∷ files) (f ∷ set_file files path bytes))
    at true rest = (is, are.1)
    at false rest = (are.0, rest)

-- a file that was written over is no longer than it was, or than where the bytes end
pub length_over : (old : List ℕ) (from : ℕ) (bytes : List ℕ) (most : ℕ) → from ≤ length old → from + length bytes ≤ most → length old ≤ most → length (over old from bytes) ≤ most
length_over old from bytes most begins ends short =
    let rest : List ℕ = drop (from + length bytes) old in
    let all : length (over old from bytes) ≡ length (take from old ++ bytes) + length rest = length-append (take from old ++ bytes) rest in
    let last : length (take from old ++ bytes) ≡ length (take from old) + length bytes = length-append (take from old) bytes in
    let front : length (take from old) ≡ min from (length old) = length-take from old in
    let left : length rest ≡ length old - (from + length bytes) = length-drop (from + length bytes) old in
    omega (arith, all, last, front, left, begins, ends, short)

files_patched : (files : List (List ℕ × List ℕ)) (path : List ℕ) (from : ℕ) (bytes : List ℕ) → AllByRecursion IsFile files → length path ≤ most_path → from ≤ length (file_at files path) → from + length bytes ≤ most_file
    → AllByRecursion IsFile (patched files (patch_at path from bytes))
files_patched files path from [] are short begins ends = are
files_patched files path from (b ∷ bytes) are short begins ends =
    files_set files path (over (file_at files path) from (b ∷ bytes)) are (short, length_over (file_at files path) from (b ∷ bytes) most_file begins ends (file_short files path are))

-- ---- rows

-- a parent has a smaller id
pub rows_below : (rows : List Row) (high : ℕ) → AreRows (IsRow ramfs_facts rows) 0 high rows → AreRows IsBelow 0 high rows
rows_below rows high are =
    all_rows (IsRow ramfs_facts rows) IsBelow 0 high rows are (λ r found. below_it ramfs_facts rows r (above (IsRow ramfs_facts rows) 0 high r.id rows r are found) (met (IsRow ramfs_facts rows) 0 high r.id rows r are found))

-- a parent is live
pub parent_lives : (rows : List Row) (r : Row) → IsRow ramfs_facts rows r → 0 < r.parent → is_live rows r.parent ≡ true
parent_lives rows r row has = at (r.parent == 0) (nat_lt r.parent r.id) (is_live rows r.parent) refl row.parent
  where
    at : (root less live : Bool) → (r.parent == 0) ≡ root → (root || (less && live)) ≡ true → live ≡ true
    at true less live root is = absurd (grind (arith, nat_tests))
    at false true live root is = is
    at false false live root is = absurd (cc is)

-- who may be a parent is none, or has a row
pub parent_row : (desc client : ℕ) (found : Option Row) → not ((desc == 0) || is_own found client) ≡ false → (desc ≡ 0) ⊎ ((r : Row) × (found ≡ Some r))
parent_row desc client found may = at (desc == 0) refl found refl may
  where
    at : (root : Bool) → (desc == 0) ≡ root → (f : Option Row) → found ≡ f → not (root || is_own f client) ≡ false → (desc ≡ 0) ⊎ ((r : Row) × (found ≡ Some r))
    at true root f is may = inl (grind (arith, nat_tests))
    at false root None is may = absurd (cc may)
    at false root (Some r) is may = inr (r, is)

module _ (o : Object) (client seq desc : ℕ) (args : List Value) where
  abbrev call_of : ℕ → Call
  call_of fun = record { client = client; seq = seq; fun = fun; desc = desc; args = args }

  -- a descriptor is made, with the path that was answered for
  makes : (good : Good) → IsRamfsSound o → Passes ramfs_facts o (call_of 1) → split_answer o.given (path_of o.rows desc) (first_text args) ≡ Some (Ok good)
      → IsRamfsSound (after ramfs_facts o (call_of 1) (Ok good))
  makes good sound passes is =
      let told = split_ok o.given (path_of o.rows desc) (first_text args) good is in
      let new : Row = new_row ramfs_facts (call_of 1) good in
      let next : new.id ≡ o.given + 1 = told.2 in
      let name = name_is_text args passes.is_call.fits.args in
      let under = rows_below o.rows o.given sound.general.rows in
      let may = parent_row desc client (row_at o.rows desc) (none_applies _ _ false NoParent Full NoDesc passes.guarded).0 in
      let less : desc < new.id = elim may [
        | inl root ↦ omega (arith, root, next)
        | inr has ↦
            let its = id_of_row o.rows desc has.0 has.1 in
            let high = within (IsRow ramfs_facts o.rows) 0 o.given desc o.rows has.0 sound.general.rows has.1 in
            omega (arith, its, high, next)
      ] in
      let parent : ((desc == 0) || (nat_lt desc new.id && is_live (o.rows ++ new ∷ []) desc)) ≡ true = elim may [
        | inl root ↦ root_is _ root
        | inr has ↦ live_is new less (is_live-more o.rows new desc (live_of_row o.rows desc has.0 has.1))
      ] in
      let row : IsRow ramfs_facts (o.rows ++ new ∷ []) new = record { creator_first = passes.within.client_first; creator_last = passes.within.client_last; parent = parent; its_parent = refl; fields = name.0 } in
      let path : path_of (o.rows ++ new ∷ []) new.id ≡ path_of o.rows desc ++ 47 ∷ first_text args =
      path_last o.given o.rows new under (omega (arith, next)) less ∙ ap (λ t. path_of o.rows desc ++ 47 ∷ t) name.1 in
      let placed : IsPlaced (o.rows ++ new ∷ []) new = record {
        name = ap is_bad_name name.1 ∙ told.0;
        path = subst (λ p. length p ≤ most_path) (sym path) told.1;
        offset = omega arith;
      } in
      let old : AreRows (IsPlaced (o.rows ++ new ∷ [])) 0 o.given o.rows =
      all_rows (IsPlaced o.rows) (IsPlaced (o.rows ++ new ∷ [])) 0 o.given o.rows sound.placed (λ r found.
      let was = met (IsPlaced o.rows) 0 o.given r.id o.rows r sound.placed found in
      let low = above (IsPlaced o.rows) 0 o.given r.id o.rows r sound.placed found in
      let high = within (IsPlaced o.rows) 0 o.given r.id o.rows r sound.placed found in
      record { name = was.name; path = subst (λ p. length p ≤ most_path) (sym (path_more o.given o.rows new under (omega (arith, next)) r.id low (omega (arith, high, next)))) was.path; offset = was.offset }) in
      record {
        general = subst (λ n. IsSound ramfs_facts (record { rows = o.rows ++ new ∷ []; files = o.files; given = n })) refl (sound_more ramfs_facts o new sound.general next row);
        placed = subst (λ n. AreRows (IsPlaced (o.rows ++ new ∷ [])) 0 n (o.rows ++ new ∷ [])) next
            (more (IsPlaced (o.rows ++ new ∷ [])) 0 o.given o.rows new old (omega (arith, next)) (omega (arith, next)) placed);
        files = sound.files;
      }
    where
      root_is : (also : Bool) → desc ≡ 0 → ((desc == 0) || also) ≡ true
      root_is also root = ap (λ b. b || also) (let same : (desc == 0) ≡ true = grind (arith, nat_tests) in same)

      live_is : (new : Row) → desc < new.id → is_live (o.rows ++ new ∷ []) desc ≡ true → ((desc == 0) || (nat_lt desc new.id && is_live (o.rows ++ new ∷ []) desc)) ≡ true
      live_is new less live =
          let lower : nat_lt desc new.id ≡ true = grind (arith, nat_tests) in
          ap (λ b. (desc == 0) || (b && is_live (o.rows ++ new ∷ []) desc)) lower ∙ ap (λ b. (desc == 0) || b) live ∙ any (desc == 0)
        where
          any : (b : Bool) → (b || true) ≡ true
          any true = refl
          any false = refl

  -- the row of the call gets another place, within the greatest length
  record SetsPlace (fun : ℕ) (good : Good) (r : Row) : Type 0 where
    value : Value
    fields : fields_after (call_of fun) good (fun_at ramfs_facts.funs fun).effects r.fields ≡ slice_set r.fields 1 value
    is_word : IsOfField place_field value
    short : word_of value ≤ most_file

  module _ (fun : ℕ) (good : Good) (sound : IsRamfsSound o) (set : (r : Row) → row_at o.rows desc ≡ Some r → SetsPlace fun good r) where
    abbrev one : Row → Row
    one = change ramfs_facts (call_of fun) good

    abbrev set_rows : List Row
    set_rows = map one o.rows

    abbrev IsThere : Row → Type 0
    IsThere r = row_at o.rows r.id ≡ Some r

    its_row : (r : Row) → IsThere r → IsRow ramfs_facts o.rows r
    its_row r found = met (IsRow ramfs_facts o.rows) 0 o.given r.id o.rows r sound.general.rows found

    -- what is set of the row of the call
    told : (r : Row) → IsThere r → (r.id == desc) ≡ true → SetsPlace fun good r
    told r found is =
        let same : r.id ≡ desc = grind (arith, nat_tests, is) in
        set r (ap (row_at o.rows) (sym same) ∙ found)

    same_parent : (r : Row) → (one r).parent ≡ r.parent
    same_parent r = at (r.id == desc)
      where
        at : (b : Bool) → (cond b (row_after ramfs_facts (call_of fun) good r) r).parent ≡ r.parent
        at true = refl
        at false = refl

    same_name : (r : Row) → IsThere r → first_text (one r).fields ≡ first_text r.fields
    same_name r found = at (r.id == desc) (told r found)
      where
        at : (b : Bool) → (b ≡ true → SetsPlace fun good r) → first_text (cond b (row_after ramfs_facts (call_of fun) good r) r).fields ≡ first_text r.fields
        at true its = let s = its refl in ap first_text s.fields ∙ (place_set r.fields s.value s.is_word (its_row r found).fields).1
        at false its = refl

    same_path : (r : Row) → IsThere r → path_of set_rows r.id ≡ path_of o.rows r.id
    same_path r found =
        path_changed o.given o.rows one (rows_below o.rows o.given sound.general.rows) (change_id ramfs_facts (call_of fun) good) (λ x there. same_parent x) same_name r.id
        (above (IsPlaced o.rows) 0 o.given r.id o.rows r sound.placed found)

    still_placed : (r : Row) → IsThere r → IsPlaced set_rows (one r)
    still_placed r found = at (r.id == desc) (told r found) (same_name r found)
      where
        was : IsPlaced o.rows r
        was = met (IsPlaced o.rows) 0 o.given r.id o.rows r sound.placed found

        at : (b : Bool) → (b ≡ true → SetsPlace fun good r) → first_text (cond b (row_after ramfs_facts (call_of fun) good r) r).fields ≡ first_text r.fields
            → IsPlaced set_rows (cond b (row_after ramfs_facts (call_of fun) good r) r)
        at true its name =
            let s = its refl in
            let place = (place_set r.fields s.value s.is_word (its_row r found).fields).2 in
            record {
              name = ap is_bad_name name ∙ was.name;
              path = subst (λ p. length p ≤ most_path) (sym (same_path r found)) was.path;
              offset = subst (λ n. n ≤ most_file) (sym (ap (λ fields. word_of (field_at fields 1)) s.fields ∙ place)) s.short;
            }
        at false its name = record { name = was.name; path = subst (λ p. length p ≤ most_path) (sym (same_path r found)) was.path; offset = was.offset }

    -- rows are sound, and stay placed
    sets : IsSound ramfs_facts (record { rows = set_rows; files = o.files; given = o.given }) × AreRows (IsPlaced set_rows) 0 o.given set_rows
    sets = (
      (sound_changed ramfs_facts IsAny o (call_of fun) good (sound.general, all_rows (IsPlaced o.rows) IsAny 0 o.given o.rows sound.placed (λ r found. tt)) new_fields).0,
      changed IsThere (IsPlaced set_rows) one (change_id ramfs_facts (call_of fun) good) still_placed 0 o.given o.rows (all_rows (IsPlaced o.rows) IsThere 0 o.given o.rows sound.placed (λ r found. found)),
    )
      where
        IsAny : Row → Type 0
        IsAny r = Unit {0}

        new_fields : (r : Row) → row_at o.rows desc ≡ Some r → IsRow ramfs_facts o.rows r → IsAny r → AreFields ramfs_facts.fields (row_after ramfs_facts (call_of fun) good r).fields × IsAny (row_after ramfs_facts (call_of fun) good r)
        new_fields r found row any =
            let s = set r found in
            (subst (AreFields ramfs_facts.fields) (sym s.fields) (place_set r.fields s.value s.is_word row.fields).0, tt)

  -- the place of a row that reads or writes
  placed_at : (r : Row) → IsRamfsSound o → row_at o.rows desc ≡ Some r → word_of (field_at r.fields 1) ≤ most_file
  placed_at r sound found = let placed = met (IsPlaced o.rows) 0 o.given desc o.rows r sound.placed found in placed.offset

  -- bytes are read
  reads : (good : Good) → IsRamfsSound o → read_answer (file_of o desc) (place_of tread (row_at o.rows desc)) (word_of (arg_at (call_of 2) 0)) ≡ Some (Ok good) → IsRamfsSound (after ramfs_facts o (call_of 2) (Ok good))
  reads good sound is =
      let kept = sets 2 good sound moves in
      record { general = kept.0; placed = kept.1; files = sound.files }
    where
      n : ℕ
      n = word_of (arg_at (call_of 2) 0)

      moves : (r : Row) → row_at o.rows desc ≡ Some r → SetsPlace 2 good r
      moves r found =
          let file : List ℕ = file_of o desc in
          let from : ℕ = word_of (field_at r.fields 1) in
          let count = read_ok file from n good (ap (λ row. read_answer file (place_of tread row) n) (sym found) ∙ is) in
          let few : length (take n (drop from file)) ≡ min n (length (drop from file)) = length-take n (drop from file) in
          let left : length (drop from file) ≡ length file - from = length-drop from file in
          let short = file_short o.files (path_of o.rows desc) sound.files in
          let most = placed_at r sound found in
          let end : from + first_word good ≤ most_file = omega (arith, count, few, left, short, most) in
          record { value = Word (from + first_word good); fields = refl; is_word = (refl, omega (arith, end)); short = end }

  -- bytes are written
  wrote : (good : Good) → IsRamfsSound o → Passes ramfs_facts o (call_of 3) → write_answer (file_of o desc) (place_of twrite (row_at o.rows desc)) (first_text args) ≡ Some (Ok good) → IsRamfsSound (after ramfs_facts o (call_of 3) (Ok good))
  wrote good sound passes is =
      let kept = sets 3 good sound moves in
      let row = row_of_call ramfs_facts o (call_of 3) passes refl refl in
      let placed = met (IsPlaced o.rows) 0 o.given desc o.rows row.0 sound.placed row.1 in
      let its = id_of_row o.rows desc row.0 row.1 in
      let ok = write_ok (file_of o desc) (place_of twrite (row_at o.rows desc)) (first_text args) good is in
      record {
        general = record { rows = kept.0.rows; files = are_files_patched o.files (patch_at (path_of o.rows desc) (place_of twrite (row_at o.rows desc)) (first_text args)) sound.general.files };
        placed = kept.1;
        files = files_patched o.files (path_of o.rows desc) (place_of twrite (row_at o.rows desc)) (first_text args) sound.files (subst (λ id. length (path_of o.rows id) ≤ most_path) its placed.path) ok.begins ok.ends;
      }
    where
      moves : (r : Row) → row_at o.rows desc ≡ Some r → SetsPlace 3 good r
      moves r found =
          let from : ℕ = word_of (field_at r.fields 1) in
          let ok = write_ok (file_of o desc) from (first_text args) good (ap (λ row. write_answer (file_of o desc) (place_of twrite row) (first_text args)) (sym found) ∙ is) in
          let end : from + first_word good ≤ most_file = omega (arith, ok.ends, ok.count) in
          record { value = Word (from + first_word good); fields = refl; is_word = (refl, omega (arith, end)); short = end }

  -- a place is sought
  seeks : (good : Good) → IsRamfsSound o → Passes ramfs_facts o (call_of 4) → seek_answer (word_of (arg_at (call_of 4) 0)) ≡ Some (Ok good) → IsRamfsSound (after ramfs_facts o (call_of 4) (Ok good))
  seeks good sound passes is =
      let kept = sets 4 good sound (λ r found. record { value = arg_at (call_of 4) 0; fields = refl; is_word = place_is_word args passes.is_call.fits.args passes.words; short = seek_ok (word_of (arg_at (call_of 4) 0)) good is }) in
      record { general = kept.0; placed = kept.1; files = sound.files }

  -- a descriptor without children ends
  releases : (good : Good) → IsRamfsSound o → Passes ramfs_facts o (call_of 5) → IsRamfsSound (after ramfs_facts o (call_of 5) (Ok good))
  releases good sound passes = record { general = general; placed = all_rows (IsRow ramfs_facts rows') (IsPlaced rows') 0 o.given rows' general.rows still; files = sound.files }
    where
      test : ℕ → Bool
      test id = not (ends_with ramfs_facts o.rows desc id)

      rows' : List Row
      rows' = filter (λ r. test r.id) o.rows

      none : has_child o.rows desc ≡ false
      none = childless ramfs_facts o (call_of 5) passes refl refl refl

      general : IsSound ramfs_facts (record { rows = rows'; files = o.files; given = o.given })
      general = sound_left ramfs_facts o desc refl none sound.general

      still : (r : Row) → row_at rows' r.id ≡ Some r → IsPlaced rows' r
      still r found =
          let stayed = from_left test o.rows r.id r found in
          let was = met (IsPlaced o.rows) 0 o.given r.id o.rows r sound.placed stayed.there in
          let low = above (IsPlaced o.rows) 0 o.given r.id o.rows r sound.placed stayed.there in
          let path = path_left o.given o.rows desc test (rows_below o.rows o.given sound.general.rows) none (λ id apart. ap (λ b. not (b || false)) apart) r.id low stayed.stays in
          record { name = was.name; path = subst (λ p. length p ≤ most_path) (sym path) was.path; offset = was.offset }

  keeps_at : (fun : ℕ) (good : Good) → IsRamfsSound o → Passes ramfs_facts o (call_of fun) → ramfs_answer fun o (call_of fun) ≡ Some (Ok good) → IsRamfsSound (after ramfs_facts o (call_of fun) (Ok good))
  keeps_at zero good sound passes is = absurd (cc is)
  keeps_at (suc zero) good sound passes is = makes good sound passes is
  keeps_at (suc (suc zero)) good sound passes is = reads good sound is
  keeps_at (suc (suc (suc zero))) good sound passes is = wrote good sound passes is
  keeps_at (suc (suc (suc (suc zero)))) good sound passes is = seeks good sound passes is
  keeps_at (suc (suc (suc (suc (suc zero))))) good sound passes is = releases good sound passes
  keeps_at (suc (suc (suc (suc (suc (suc n)))))) good sound passes is = absurd (cc is)

-- the file service answers each call that it may be asked, and what it holds stays sound
pub ramfs_answers_and_keeps : AnswersAndKeeps ramfs_facts ramfs_table IsRamfsSound
ramfs_answers_and_keeps = record {
  empty = record { general = record { rows = tt; files = tt }; placed = tt; files = tt };
  general = λ o sound. sound.general;
  keeps = λ o call good sound passes is. keeps_at o call.client call.seq call.desc call.args call.fun good sound passes is;
  next = λ o call good is makes.
      let first : ramfs_answer 1 o call ≡ Some (Ok good) = ap (λ f. ramfs_answer f o call) (sym (first_makes ramfs_facts.funs refl call.fun makes)) ∙ is in
      (split_ok o.given (path_of o.rows call.desc) (first_text call.args) good first).2;
}

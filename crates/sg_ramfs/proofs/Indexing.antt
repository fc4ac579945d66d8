-- The place of a file in the list of files, when one comes or is set, and the index of places.
use Rattle.std.proofs.Common.{◌≡◌, ℕ, suc, ◌<◌, Bool, true, false, cond, List, [], ◌∷◌, ◌++◌, None, Some, length, map, slice_index_or, slice_set, refl, sym, ◌∙◌, ap, inl, inr, ◌⊎◌, arith}
use Rattle.std.proofs.lemmas.List.{map-append}
use Rattle.std.specs.Prelude.{◌≢◌}
use Rattle.std.specs.Option.{option_map}
use Rattle.std.specs.Str.{bytes_eq}
use Rattle.std.specs.declared.option.Option.{Option}
use Rattle.std.specs.BTreeMap.{BTreeMap, UpdatesBy, is_at}
use Rattle.std.specs.Cmp.Lexicographic.{slice_cmp, texts_ties}
use Rattle.std.specs.Ordering.{nat_cmp}
use Rattle.sg_facts.specs.Object.{file_at, set_file}
use Rattle.sg_facts.proofs.Replaying.Files.{told}
use Rattle.sg_ramfs.specs.declared.files.File.{File}
use Rattle.sg_ramfs.specs.RamfsFiles.{AreFilesIndexed, IsPrepared, index_at, place_at}

-- ---- places

-- a place after the first file
pub behind : (found : Option ℕ) (at : ℕ) → option_map suc found ≡ Some at → (k : ℕ) × (found ≡ Some k) × (suc k ≡ at)
behind None at is = absurd (cc is)
behind (Some k) at is = (k, refl, cc is)

none_later : (found : Option ℕ) → option_map suc found ≡ None → found ≡ None
none_later None is = refl
none_later (Some k) is = absurd (cc is)

-- whether the first file has a path decides its place
pub first_place : (files : List (List ℕ × List ℕ)) (f : List ℕ × List ℕ) (path : List ℕ) → bytes_eq f.0 path ≡ false → place_at (f ∷ files) path ≡ option_map suc (place_at files path)
first_place files f path apart = ap (λ b. cond b (Some 0) (option_map suc (place_at files path))) apart

pub place_within : (files : List (List ℕ × List ℕ)) (path : List ℕ) (at : ℕ) → place_at files path ≡ Some at → at < length files
place_within [] path at is = absurd (cc is)
place_within (f ∷ files) path at is = elim (told f.0 path) [
  | inl same ↦
      let zero_is : Some 0 ≡ Some at = sym (ap (λ b. cond b (Some 0) (option_map suc (place_at files path))) same.0) ∙ is in
      let none : 0 ≡ at = cc zero_is in
      omega (arith, none)
  | inr apart ↦
      let rest = behind (place_at files path) at (sym (first_place files f path apart.0) ∙ is) in
      let further = place_within files path rest.0 rest.1 in
      omega (arith, further, rest.2)
]

-- no place, no bytes
pub none_there : (files : List (List ℕ × List ℕ)) (path : List ℕ) → place_at files path ≡ None → [] ≡ file_at files path
none_there [] path none = refl
none_there (f ∷ files) path none = elim (told f.0 path) [
  | inl same ↦ absurd (let some : Some 0 ≡ None = sym (ap (λ b. cond b (Some 0) (option_map suc (place_at files path))) same.0) ∙ none in cc some)
  | inr apart ↦
      none_there files path (none_later (place_at files path) (sym (first_place files f path apart.0) ∙ none))
      ∙ ap (λ b. cond b f.1 (file_at files path)) (sym apart.0)
]

-- a file that is new goes last
pub set_new : (files : List (List ℕ × List ℕ)) (path bytes : List ℕ) → place_at files path ≡ None → files ++ (path, bytes) ∷ [] ≡ set_file files path bytes
set_new [] path bytes none = refl
set_new (f ∷ files) path bytes none = elim (told f.0 path) [
  | inl same ↦ absurd (let some : Some 0 ≡ None = sym (ap (λ b. cond b (Some 0) (option_map suc (place_at files path))) same.0) ∙ none in cc some)
  | inr apart ↦
      ap (λ l. f ∷ l) (set_new files path bytes (none_later (place_at files path) (sym (first_place files f path apart.0) ∙ none)))
      ∙ ap (λ b. cond b ((path, bytes) ∷ files) (f ∷ set_file files path bytes)) (sym apart.0)
]

-- and has the place after all others
pub place_new : (files : List (List ℕ × List ℕ)) (new bytes path : List ℕ) → place_at files new ≡ None
    → place_at (files ++ (new, bytes) ∷ []) path ≡ cond (bytes_eq new path) (Some (length files)) (place_at files path)
place_new [] new bytes path none = refl
place_new (f ∷ files) new bytes path none = elim (told f.0 new) [
  | inl same ↦ absurd (let some : Some 0 ≡ None = sym (ap (λ b. cond b (Some 0) (option_map suc (place_at files new))) same.0) ∙ none in cc some)
  | inr apart ↦
      ap (λ x. cond (bytes_eq f.0 path) (Some 0) (option_map suc x)) (place_new files new bytes path (none_later (place_at files new) (sym (first_place files f new apart.0) ∙ none)))
      ∙ at (bytes_eq f.0 path) (bytes_eq new path) refl refl apart.1
]
  where
    same_bytes : (a b : List ℕ) → bytes_eq a b ≡ true → a ≡ b
    same_bytes a b is = elim (told a b) [ inl same ↦ same.1 | inr apart ↦ absurd (let both : true ≡ false = sym is ∙ apart.0 in cc both) ]

    at : (a b : Bool) → bytes_eq f.0 path ≡ a → bytes_eq new path ≡ b → f.0 ≢ new
        → cond a (Some 0) (option_map suc (cond b (Some (length files)) (place_at files path))) ≡ cond b (Some (length (f ∷ files))) (cond a (Some 0) (option_map suc (place_at files path)))
    at true true is is' apart = absurd (apart (same_bytes f.0 path is ∙ sym (same_bytes new path is')))
    at true false is is' apart = refl
    at false true is is' apart = ap Some (let next : suc (length files) ≡ length (f ∷ files) = omega arith in next)
    at false false is is' apart = refl

-- a file that is set keeps its place
pub place_set : (files : List (List ℕ × List ℕ)) (set bytes path : List ℕ) (at : ℕ) → place_at files set ≡ Some at → place_at (set_file files set bytes) path ≡ place_at files path
place_set [] set bytes path at is = absurd (cc is)
place_set (f ∷ files) set bytes path at is = elim (told f.0 set) [
  | inl same ↦
      ap (λ b. place_at (cond b ((set, bytes) ∷ files) (f ∷ set_file files set bytes)) path) same.0
      ∙ ap (λ p. cond (bytes_eq p path) (Some 0) (option_map suc (place_at files path))) (sym same.1)
  | inr apart ↦
      let rest = behind (place_at files set) at (sym (first_place files f set apart.0) ∙ is) in
      ap (λ b. place_at (cond b ((set, bytes) ∷ files) (f ∷ set_file files set bytes)) path) apart.0
      ∙ ap (λ x. cond (bytes_eq f.0 path) (Some 0) (option_map suc x)) (place_set files set bytes path rest.0 rest.1)
]

-- ---- the list of files

abbrev pub pair_of : File → List ℕ × List ℕ
pair_of f = (f.path, f.bytes.items)

-- the bytes at the place of a path
pub bytes_there : (list : List File) (path : List ℕ) (at : ℕ) (d : File) → place_at (map pair_of list) path ≡ Some at → (slice_index_or list at d).bytes.items ≡ file_at (map pair_of list) path
bytes_there [] path at d is = absurd (cc is)
bytes_there (f ∷ list) path at d is = elim (told f.path path) [
  | inl same ↦
      let zero_is : Some 0 ≡ Some at = sym (ap (λ b. cond b (Some 0) (option_map suc (place_at (map pair_of list) path))) same.0) ∙ is in
      let none : 0 ≡ at = cc zero_is in
      ap (λ n. (slice_index_or (f ∷ list) n d).bytes.items) (sym none) ∙ ap (λ b. cond b f.bytes.items (file_at (map pair_of list) path)) (sym same.0)
  | inr apart ↦
      let rest = behind (place_at (map pair_of list) path) at (sym (first_place (map pair_of list) (pair_of f) path apart.0) ∙ is) in
      ap (λ n. (slice_index_or (f ∷ list) n d).bytes.items) (sym rest.2) ∙ bytes_there list path rest.0 d rest.1
      ∙ ap (λ b. cond b f.bytes.items (file_at (map pair_of list) path)) (sym apart.0)
]

-- other bytes at the place of a path
pub set_there : (list : List File) (path : List ℕ) (at : ℕ) (d new : File) → place_at (map pair_of list) path ≡ Some at → new.path ≡ (slice_index_or list at d).path
    → map pair_of (slice_set list at new) ≡ set_file (map pair_of list) path new.bytes.items
set_there [] path at d new is its = absurd (cc is)
set_there (f ∷ list) path at d new is its = elim (told f.path path) [
  | inl same ↦
      let zero_is : Some 0 ≡ Some at = sym (ap (λ b. cond b (Some 0) (option_map suc (place_at (map pair_of list) path))) same.0) ∙ is in
      let none : 0 ≡ at = cc zero_is in
      let own : new.path ≡ path = its ∙ ap (λ n. (slice_index_or (f ∷ list) n d).path) (sym none) ∙ same.1 in
      ap (λ n. map pair_of (slice_set (f ∷ list) n new)) (sym none) ∙ ap (λ p. (p, new.bytes.items) ∷ map pair_of list) own
      ∙ ap (λ b. cond b ((path, new.bytes.items) ∷ map pair_of list) (pair_of f ∷ set_file (map pair_of list) path new.bytes.items)) (sym same.0)
  | inr apart ↦
      let rest = behind (place_at (map pair_of list) path) at (sym (first_place (map pair_of list) (pair_of f) path apart.0) ∙ is) in
      ap (λ n. map pair_of (slice_set (f ∷ list) n new)) (sym rest.2)
      ∙ ap (λ l. pair_of f ∷ l) (set_there list path rest.0 d new rest.1 (its ∙ ap (λ n. (slice_index_or (f ∷ list) n d).path) (sym rest.2)))
      ∙ ap (λ b. cond b ((path, new.bytes.items) ∷ map pair_of list) (pair_of f ∷ set_file (map pair_of list) path new.bytes.items)) (sym apart.0)
]

-- one file more
pub list_more : (list : List File) (new : File) → map pair_of (list ++ new ∷ []) ≡ map pair_of list ++ pair_of new ∷ []
list_more list new = map-append pair_of list (new ∷ [])

-- ---- the index

-- a path is found in the order of paths where it is the one
found_by : (path other : List ℕ) → is_at (slice_cmp nat_cmp path) other ≡ bytes_eq path other
found_by path other = sym (texts_ties path other)

-- what an update makes of what an index has
pub updated : (old new : BTreeMap (List ℕ) ℕ) (path : List ℕ) (value : Option ℕ) → UpdatesBy (slice_cmp nat_cmp) (slice_cmp nat_cmp path) old new value
    → (other : List ℕ) → index_at new other ≡ cond (bytes_eq path other) value (index_at old other)
updated old new path value updates other = updates.0 other ∙ ap (λ b. cond b value (index_at old other)) (found_by path other)

-- the index of one file more is prepared
pub prepared : (files : List (List ℕ × List ℕ)) (old new : BTreeMap (List ℕ) ℕ) (path : List ℕ) → AreFilesIndexed files old → UpdatesBy (slice_cmp nat_cmp) (slice_cmp nat_cmp path) old new (Some (length files)) → IsPrepared files new path
prepared files old new path indexed updates other = updated old new path (Some (length files)) updates other ∙ ap (λ x. cond (bytes_eq path other) (Some (length files)) x) (indexed other)

-- and taken back
pub cancelled : (files : List (List ℕ × List ℕ)) (old new : BTreeMap (List ℕ) ℕ) (path : List ℕ) → place_at files path ≡ None → IsPrepared files old path → UpdatesBy (slice_cmp nat_cmp) (slice_cmp nat_cmp path) old new None → AreFilesIndexed files new
cancelled files old new path none was updates other = updated old new path None updates other ∙ ap (λ x. cond (bytes_eq path other) None x) (was other) ∙ at (told path other)
  where
    at : ((bytes_eq path other ≡ true) × (path ≡ other)) ⊎ ((bytes_eq path other ≡ false) × (path ≢ other))
        → cond (bytes_eq path other) None (cond (bytes_eq path other) (Some (length files)) (place_at files other)) ≡ place_at files other
    at (inl same) = ap (λ b. cond b None (cond b (Some (length files)) (place_at files other))) same.0 ∙ sym (ap (place_at files) (sym same.1) ∙ none)
    at (inr apart) = ap (λ b. cond b None (cond b (Some (length files)) (place_at files other))) apart.0

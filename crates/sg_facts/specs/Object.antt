-- The fault-free object: rows, files, and the number of ids given.
use Rattle.std.specs.Prelude.{ℕ, ◌+◌, true, false, ◌&&◌, if◌then◌else◌, List, [], ◌∷◌, ◌++◌, None, Some, length, take, drop, reverse}
use Rattle.std.specs.List.{flat_map, fold, list_any}
use Rattle.std.specs.Option.{option_map_or}
use Rattle.std.specs.Str.{bytes_eq}
use Rattle.std.specs.declared.option.Option.{Option}
use Rattle.sg_base.specs.declared.value.Value.{Value}
use Rattle.sg_base.specs.declared.value.Value.TheVariants.{Word, Text}
use Rattle.sg_base.specs.declared.call.Call.{Call}
use Rattle.sg_base.specs.declared.reply.Reply.{Reply}
use Rattle.sg_base.specs.declared.reply.Reply.TheVariants.{Ok, Refused}
use Rattle.sg_facts.specs.declared.row.Row.{Row}
use Rattle.sg_facts.specs.declared.entry.Entry.{Entry}
use Rattle.sg_facts.specs.declared.outcome.Patch.{Patch}
use Rattle.sg_facts.specs.declared.shape.Kind.TheVariants.{Text as IsText}
use Rattle.sg_facts.specs.declared.shape.Effect.{Effect}
use Rattle.sg_facts.specs.declared.shape.Effect.TheVariants.{AddRet}
use Rattle.sg_facts.specs.Facts.{Facts, Fun, fun_at}
use Rattle.sg_facts.specs.Track.{row_at, ancestors, word_of, field_at, rows_after}

-- what a service that never fails holds: its rows, its files as pairs of path and bytes, and the number of ids given
pub record Object : Type 0 where
  pub rows : List Row
  pub files : List (List ℕ × List ℕ)
  pub given : ℕ

-- the object without rows and files, when no id was given
abbrev pub empty_object : Object
empty_object = record { rows = []; files = []; given = 0 }

-- ---- files

-- the first text among values: among the fields of a row its name, among arguments the bytes to write
abbrev pub first_text : List Value → List ℕ
first_text [] = []
first_text (Text bytes ∷ values) = bytes
first_text (Word n ∷ values) = first_text values

-- the path of a row: a slash and the name for each row from the root to it
abbrev pub path_of : List Row → ℕ → List ℕ
path_of rows id = flat_map (λ a. option_map_or (λ r. 47 ∷ first_text r.fields) (row_at rows a) []) (reverse (id ∷ ancestors rows id))

-- the bytes of the file of a path; one that was never written has none
abbrev pub file_at : List (List ℕ × List ℕ) → List ℕ → List ℕ
file_at [] path = []
file_at (f ∷ files) path = if bytes_eq f.0 path then f.1 else file_at files path

-- the files with that of a path set
abbrev pub set_file : List (List ℕ × List ℕ) → List ℕ → List ℕ → List (List ℕ × List ℕ)
set_file [] path bytes = (path, bytes) ∷ []
set_file (f ∷ files) path bytes = if bytes_eq f.0 path then (path, bytes) ∷ files else f ∷ set_file files path bytes

-- bytes in a file from a place on, over what was there
abbrev pub over : List ℕ → ℕ → List ℕ → List ℕ
over old from bytes = take from old ++ bytes ++ drop (from + length bytes) old

-- the number in the field to which a function adds its returned word: the place in the file where it reads or writes
abbrev pub place_in : List (ℕ × Effect) → List Value → ℕ
place_in [] fields = 0
place_in (e ∷ es) fields = if elim e.1 [ AddRet ↦ true | _ ↦ false ] then word_of (field_at fields e.0) else place_in es fields

-- the place in the file where a function reads or writes, by the fields of a live row; 0 where there is no row
abbrev pub place_of : Fun → Option Row → ℕ
place_of f row = option_map_or (λ r. place_in f.effects r.fields) row 0

-- what an answered call writes into which file, where its function uses the file and takes a text: that text, if it has bytes, at the
-- row's old place
abbrev pub patch_of : Facts → Object → Call → Reply → Option Patch
patch_of facts o call (Refused code) = None
patch_of facts o call (Ok good) =
    let f = fun_at facts.funs call.fun in
    let from = place_of f (row_at o.rows call.desc) in
    if f.uses_file && list_any (λ kind. elim kind [ IsText ↦ true | _ ↦ false ]) f.kinds
    then elim (first_text call.args) [ [] ↦ None | b ∷ bytes ↦ Some (record { key = path_of o.rows call.desc; from = from; bytes = b ∷ bytes }) ]
    else None

-- ---- answered calls

-- the object after an answered call: its rows, the file that it wrote, and one id more after an Ok of a creation
abbrev pub after : Facts → Object → Call → Reply → Object
after facts o call reply = record {
  rows = elim reply [ Ok good ↦ rows_after facts o.rows call good | Refused code ↦ o.rows ];
  files = option_map_or (λ p. set_file o.files p.key (over (file_at o.files p.key) p.from p.bytes)) (patch_of facts o call reply) o.files;
  given = elim reply [ Ok good ↦ if (fun_at facts.funs call.fun).creation then o.given + 1 else o.given | Refused code ↦ o.given ];
}

-- the object after a history, from the empty object
abbrev pub object_of : Facts → List Entry → Object
object_of facts history = fold (λ o e. after facts o e.call e.reply) empty_object history

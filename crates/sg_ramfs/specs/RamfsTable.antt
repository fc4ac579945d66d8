-- What the file service answers.
use Rattle.std.specs.Prelude.{ℕ, zero, suc, ◌+◌, ◌==◌, Bool, ◌||◌, nat_lt, if◌then◌else◌, List, [], ◌∷◌, ◌++◌, Some, length, take, drop, slice_get, unwrap_or}
use Rattle.std.specs.declared.option.Option.{Option}
use Rattle.std.specs.List.{list_any}
use Rattle.sg_facts.specs.sg_base.declared.call.Call.{Call}
use Rattle.sg_facts.specs.sg_base.declared.reply.Code.TheVariants.{NotFound, Gap, TooBig, BadName}
use Rattle.sg_facts.specs.sg_base.declared.reply.Reply.{Reply}
use Rattle.sg_facts.specs.sg_base.declared.reply.Reply.TheVariants.{Ok, Refused}
use Rattle.sg_facts.specs.Facts.{fun_at}
use Rattle.sg_facts.specs.Track.{row_at, word_of, arg_at}
use Rattle.sg_facts.specs.Object.{Object, first_text, path_of, file_at, place_of}
use Rattle.sg_facts.specs.Legal.{Table, done}
use Rattle.sg_facts.specs.Limits.{most_file, most_path}
use Rattle.sg_ramfs.specs.RamfsFacts.{ramfs_facts}

-- whether a name is empty, longer than 64 bytes, or has a slash
abbrev pub is_bad_name : List ℕ → Bool
is_bad_name name = (length name == 0) || nat_lt 64 (length name) || list_any (λ b. b == 47) name

-- an Ok with a number of bytes as its word, and bytes
abbrev pub moved : ℕ → List ℕ → Option Reply
moved count bytes = Some (Ok (record { desc = 0; words = count ∷ []; bytes = bytes }))

-- the bytes of a descriptor's file
abbrev pub file_of : Object → ℕ → List ℕ
file_of o id = file_at o.files (path_of o.rows id)

-- what the function of a number answers
abbrev pub ramfs_answer : ℕ → Object → Call → Option Reply
-- tsplit is refused where the name is bad, or the path, that of the parent, a slash and the name, too long
ramfs_answer (suc zero) o call =
    if is_bad_name (first_text call.args) then Some (Refused BadName)
    else if nat_lt most_path (length (path_of o.rows call.desc ++ 47 ∷ first_text call.args)) then Some (Refused TooBig)
    else done (o.given + 1)
-- tread gives the bytes from its place on, at most so many as are asked for, and none past the file's end; more than 256 are refused
ramfs_answer (suc (suc zero)) o call =
    let bytes = take (word_of (arg_at call 0)) (drop (place_of (fun_at ramfs_facts.funs 2) (row_at o.rows call.desc)) (file_of o call.desc)) in
    if nat_lt 256 (word_of (arg_at call 0)) then Some (Refused TooBig) else moved (length bytes) bytes
-- twrite writes at a place that isn't past the file's end, bytes that end within the greatest length
ramfs_answer (suc (suc (suc zero))) o call =
    let from = place_of (fun_at ramfs_facts.funs 3) (row_at o.rows call.desc) in
    if nat_lt (length (file_of o call.desc)) from then Some (Refused Gap)
    else if nat_lt most_file (from + length (first_text call.args)) then Some (Refused TooBig)
    else moved (length (first_text call.args)) []
-- tseek goes to a place that is at most the greatest length of a file
ramfs_answer (suc (suc (suc (suc zero)))) o call = if nat_lt most_file (word_of (arg_at call 0)) then Some (Refused TooBig) else done 0
-- trelease
ramfs_answer (suc (suc (suc (suc (suc zero))))) o call = done 0
ramfs_answer _ o call = Some (Refused NotFound)

-- what a service of files answers a call at an object; no caller has to wait
abbrev pub ramfs_table : Table
ramfs_table o call = ramfs_answer call.fun o call

-- the parts of an Ok: two of tsplit and twrite, one of the others
abbrev pub ramfs_parts : ℕ → ℕ
ramfs_parts fun = unwrap_or (slice_get (0 ∷ 2 ∷ 1 ∷ 2 ∷ []) fun) 1

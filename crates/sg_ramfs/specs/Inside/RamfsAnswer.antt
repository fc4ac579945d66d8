-- The answers of the file service by their functions, as its proofs name them.
use Rattle.std.specs.Prelude.{ℕ, ◌+◌, nat_lt, if◌then◌else◌, List, [], ◌∷◌, ◌++◌, Some, length, take, drop}
use Rattle.std.specs.declared.option.Option.{Option}
use Rattle.sg_facts.specs.Facts.{Fun, fun_at}
use Rattle.sg_facts.specs.sg_base.declared.reply.Code.TheVariants.{Gap, TooBig, BadName}
use Rattle.sg_facts.specs.sg_base.declared.reply.Reply.{Reply}
use Rattle.sg_facts.specs.sg_base.declared.reply.Reply.TheVariants.{Refused}
use Rattle.sg_facts.specs.Legal.{done}
use Rattle.sg_facts.specs.Limits.{most_file, most_path}
use Rattle.sg_ramfs.specs.RamfsFacts.{ramfs_facts}
use Rattle.sg_ramfs.specs.RamfsTable.{is_bad_name, moved}

-- the function that reads
abbrev pub tread : Fun
tread = fun_at ramfs_facts.funs 2

-- the function that writes
abbrev pub twrite : Fun
twrite = fun_at ramfs_facts.funs 3

-- the greatest number of bytes that a call reads
abbrev pub most_read : ℕ
most_read = 256

-- what tsplit answers, by the ids given, the parent's path and the name
abbrev pub split_answer : ℕ → List ℕ → List ℕ → Option Reply
split_answer given path name =
    if is_bad_name name then Some (Refused BadName)
    else if nat_lt most_path (length (path ++ 47 ∷ name)) then Some (Refused TooBig)
    else done (given + 1)

-- what tread answers, by the file, the place and the number of bytes asked for
abbrev pub read_answer : List ℕ → ℕ → ℕ → Option Reply
read_answer file from n =
    let bytes = take n (drop from file) in
    if nat_lt most_read n then Some (Refused TooBig) else moved (length bytes) bytes

-- what twrite answers, by the file, the place and the bytes
abbrev pub write_answer : List ℕ → ℕ → List ℕ → Option Reply
write_answer file from bytes =
    if nat_lt (length file) from then Some (Refused Gap)
    else if nat_lt most_file (from + length bytes) then Some (Refused TooBig)
    else moved (length bytes) []

-- what tseek answers, by the place
abbrev pub seek_answer : ℕ → Option Reply
seek_answer place = if nat_lt most_file place then Some (Refused TooBig) else done 0

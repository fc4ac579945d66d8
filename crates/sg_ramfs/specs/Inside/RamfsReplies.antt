-- What kinds of replies the file service gives.
use Rattle.std.proofs.Common.{◌≡◌, ℕ, zero, suc, ◌+◌, ◌<◌, Bool, true, false, cond, List, [], ◌∷◌, ◌++◌, None, Some, length, take, drop, refl, arith}
use Rattle.std.specs.Prelude.{nat_lt}
use Rattle.std.specs.declared.option.Option.{Option}
use Rattle.sg_facts.specs.sg_base.declared.call.Call.{Call}
use Rattle.sg_facts.specs.sg_base.declared.reply.Code.TheVariants.{BadName, Gap, TooBig}
use Rattle.sg_facts.specs.sg_base.declared.reply.Reply.{Reply}
use Rattle.sg_facts.specs.sg_base.declared.reply.Reply.TheVariants.{Ok, Refused}
use Rattle.sg_facts.specs.Allowed.{wants_word}
use Rattle.sg_facts.specs.Facts.{fun_at}
use Rattle.sg_facts.specs.Guard.{is_guards}
use Rattle.sg_facts.specs.Legal.{done}
use Rattle.sg_facts.specs.Limits.{most_file, most_path}
use Rattle.sg_facts.specs.Object.{Object, first_text, path_of, place_of}
use Rattle.sg_facts.specs.Track.{arg_at, row_at, word_of}
use Rattle.sg_ramfs.specs.RamfsFacts.{ramfs_facts}
use Rattle.sg_ramfs.specs.Inside.RamfsAnswer.{tread, twrite, most_read, read_answer, seek_answer, split_answer, write_answer}
use Rattle.sg_ramfs.specs.RamfsTable.{file_of, is_bad_name, moved, ramfs_table, ramfs_answer}

-- a reply, which is no refusal of the guard's, and has a word where one is wanted
abbrev pub IsGiven : Bool → Option Reply → Type 0
IsGiven wants None = ⊥
IsGiven true (Some (Ok good)) = 0 < length good.words
IsGiven false (Some (Ok good)) = Unit {0}
IsGiven wants (Some (Refused code)) = is_guards code ≡ false

split_given : (given : ℕ) (path name : List ℕ) → IsGiven false (split_answer given path name)
split_given given path name = at (is_bad_name name) (nat_lt most_path (length (path ++ 47 ∷ name)))
  where
    at : (bad long : Bool) → IsGiven false (cond bad (Some (Refused BadName)) (cond long (Some (Refused TooBig)) (done (given + 1))))
    at true long = refl
    at false true = refl
    at false false = tt

read_given : (file : List ℕ) (from n : ℕ) → IsGiven true (read_answer file from n)
read_given file from n = at (nat_lt most_read n)
  where
    at : (much : Bool) → IsGiven true (cond much (Some (Refused TooBig)) (moved (length (take n (drop from file))) (take n (drop from file))))
    at true = refl
    at false = omega arith

write_given : (file : List ℕ) (from : ℕ) (bytes : List ℕ) → IsGiven true (write_answer file from bytes)
write_given file from bytes = at (nat_lt (length file) from) (nat_lt most_file (from + length bytes))
  where
    at : (behind big : Bool) → IsGiven true (cond behind (Some (Refused Gap)) (cond big (Some (Refused TooBig)) (moved (length bytes) [])))
    at true big = refl
    at false true = refl
    at false false = omega arith

seek_given : (place : ℕ) → IsGiven false (seek_answer place)
seek_given place = at (nat_lt most_file place)
  where
    at : (big : Bool) → IsGiven false (cond big (Some (Refused TooBig)) (done 0))
    at true = refl
    at false = tt

-- the answer of every function is a reply, is no refusal of the guard's, and has a word where one is wanted
given_at : (fun : ℕ) (o : Object) (call : Call) → IsGiven (wants_word (fun_at ramfs_facts.funs fun)) (ramfs_answer fun o call)
given_at zero o call = refl
given_at (suc zero) o call = split_given o.given (path_of o.rows call.desc) (first_text call.args)
given_at (suc (suc zero)) o call = read_given (file_of o call.desc) (place_of tread (row_at o.rows call.desc)) (word_of (arg_at call 0))
given_at (suc (suc (suc zero))) o call = write_given (file_of o call.desc) (place_of twrite (row_at o.rows call.desc)) (first_text call.args)
given_at (suc (suc (suc (suc zero)))) o call = seek_given (word_of (arg_at call 0))
given_at (suc (suc (suc (suc (suc zero))))) o call = tt
given_at (suc (suc (suc (suc (suc (suc n)))))) o call = refl

-- the answer of the file service to a call is a reply, is no refusal of the guard's, and has a word where one is wanted
pub is_given : (o : Object) (call : Call) → IsGiven (wants_word (fun_at ramfs_facts.funs call.fun)) (ramfs_table o call)
is_given o call = given_at call.fun o call

-- nobody waits
pub always_answered : (o : Object) (call : Call) → ramfs_table o call ≡ None → ⊥
always_answered o call none = at (wants_word (fun_at ramfs_facts.funs call.fun)) (ramfs_table o call) (is_given o call) none
  where
    at : (wants : Bool) (answer : Option Reply) → IsGiven wants answer → answer ≡ None → ⊥
    at wants None given is = given
    at wants (Some reply) given is = cc is

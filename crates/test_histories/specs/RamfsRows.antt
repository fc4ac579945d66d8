-- Histories of the file service. Its functions: 1 tsplit, 2 tread, 3 twrite, 4 tseek, 5 trelease.
use Rattle.std.specs.Prelude.{List, [], ◌∷◌, codes}
use Rattle.sg_facts.specs.sg_base.declared.value.Value.TheVariants.{Word, Text}
use Rattle.sg_facts.specs.sg_base.declared.reply.Code.TheVariants.{NoDesc, NoParent, HasChildren, Gap, TooBig, BadName}
use Rattle.sg_facts.specs.declared.entry.Entry.{Entry}
use Rattle.test_histories.specs.Written.{call_of, ok, ok_at, ok_with, ok_bytes, refused, entry}

-- an empty name, a descriptor with a child, a parent that there is none of, a long read, and a far place
abbrev pub file_refusals : List Entry
file_refusals =
    entry (call_of 1 1 1 0 (Text [] ∷ [])) (refused BadName)
    ∷ entry (call_of 1 2 1 0 (Text (codes "a") ∷ [])) (ok_at 1)
    ∷ entry (call_of 1 3 1 1 (Text (codes "b") ∷ [])) (ok_at 2)
    ∷ entry (call_of 1 4 5 1 []) (refused HasChildren)
    ∷ entry (call_of 1 5 1 9 (Text (codes "c") ∷ [])) (refused NoParent)
    ∷ entry (call_of 1 6 2 1 (Word 257 ∷ [])) (refused TooBig)
    ∷ entry (call_of 1 7 4 1 (Word 65537 ∷ [])) (refused TooBig)
    ∷ []

-- two clients have one path, so one file: what one writes the other reads; a write past the end is refused
abbrev pub one_file : List Entry
one_file =
    entry (call_of 1 1 1 0 (Text (codes "a") ∷ [])) (ok_at 1)
    ∷ entry (call_of 1 2 3 1 (Text (codes "hello") ∷ [])) (ok_with 0 5)
    ∷ entry (call_of 2 1 1 0 (Text (codes "a") ∷ [])) (ok_at 2)
    ∷ entry (call_of 2 2 2 2 (Word 16 ∷ [])) (ok_bytes 5 (codes "hello"))
    ∷ entry (call_of 1 3 4 1 (Word 9 ∷ [])) ok
    ∷ entry (call_of 1 4 3 1 (Text (codes "x") ∷ [])) (refused Gap)
    ∷ []

-- client 2 may not use what client 1 made; a read past the end gives nothing
abbrev pub own_alone : List Entry
own_alone =
    entry (call_of 1 1 1 0 (Text (codes "a") ∷ [])) (ok_at 1)
    ∷ entry (call_of 2 1 2 1 (Word 8 ∷ [])) (refused NoDesc)
    ∷ entry (call_of 2 2 1 0 (Text (codes "b") ∷ [])) (ok_at 2)
    ∷ entry (call_of 1 2 4 1 (Word 4 ∷ [])) ok
    ∷ entry (call_of 1 3 2 1 (Word 8 ∷ [])) (ok_bytes 0 [])
    ∷ []

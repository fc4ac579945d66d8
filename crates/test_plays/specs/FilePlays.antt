-- A script of files, and its play. The functions: 1 tsplit, 2 tread, 3 twrite, 4 tseek, 5 trelease.
use Rattle.std.specs.Prelude.{List, [], ◌∷◌, codes}
use Rattle.test_recovery.specs.sg_facts.sg_base.declared.reply.Code.TheVariants.{NoDesc}
use Rattle.test_recovery.specs.sg_facts.sg_base.declared.reply.Reply.TheVariants.{Refused}
use Rattle.test_recovery.specs.sg_facts.sg_base.declared.value.Value.TheVariants.{Word as word, Text as text}
use Rattle.test_recovery.specs.sg_facts.declared.entry.Entry.{Entry}
use Rattle.sg_plain.specs.sg_script.declared.script.Arg.TheVariants.{Number, Text, Back}
use Rattle.sg_plain.specs.sg_script.declared.script.Script.{Script}
use Rattle.test_plays.specs.LockPlays.{entry_of, made, ok_desc}

-- client 1 seeks in a file, which is held till it returns; client 2 may not read it, and makes one of its own meanwhile
abbrev pub held_reply : Script
held_reply = record {
  setup = [];
  clients =
      (1, made 1 (Number 0 ∷ Text (codes "a") ∷ []) ∷ made 4 (Back 1 ∷ Number 4 ∷ []) ∷ [])
      ∷ (2, made 2 (Number 1 ∷ Number 8 ∷ []) ∷ made 1 (Number 0 ∷ Text (codes "b") ∷ []) ∷ [])
      ∷ [];
  schedule = 1 ∷ 1 ∷ 2 ∷ 1 ∷ 2 ∷ 1 ∷ [];
  stops = [];
}

abbrev pub held_reply_history : List Entry
held_reply_history =
    entry_of (record { client = 1; seq = 1; fun = 1; desc = 0; args = text (codes "a") ∷ [] }) (ok_desc 1)
    ∷ entry_of (record { client = 2; seq = 1; fun = 2; desc = 1; args = word 8 ∷ [] }) (Refused NoDesc)
    ∷ entry_of (record { client = 2; seq = 2; fun = 1; desc = 0; args = text (codes "b") ∷ [] }) (ok_desc 2)
    ∷ entry_of (record { client = 1; seq = 2; fun = 4; desc = 1; args = word 4 ∷ [] }) (ok_desc 0)
    ∷ []

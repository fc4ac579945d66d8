-- Scripts of locks, and their plays. The functions: 1 lock_alloc, 2 lock_take, 3 lock_release, 4 lock_free.
use Rattle.std.specs.Prelude.{ℕ, List, [], ◌∷◌}
use Rattle.test_recovery.specs.sg_facts.sg_base.declared.call.Call.{Call}
use Rattle.test_recovery.specs.sg_facts.sg_base.declared.reply.Reply.{Reply}
use Rattle.test_recovery.specs.sg_facts.sg_base.declared.reply.Reply.TheVariants.{Ok}
use Rattle.test_recovery.specs.sg_facts.declared.entry.Entry.{Entry}
use Rattle.sg_plain.specs.sg_hist.declared.ended.End.{End}
use Rattle.sg_plain.specs.sg_hist.declared.ended.End.TheVariants.{Done, Blocked}
use Rattle.sg_plain.specs.sg_script.declared.script.Arg.{Arg}
use Rattle.sg_plain.specs.sg_script.declared.script.Arg.TheVariants.{Number, Back}
use Rattle.sg_plain.specs.sg_script.declared.script.Script.{Script}
use Rattle.sg_plain.specs.sg_script.declared.script.ScriptCall.{ScriptCall}

abbrev pub made : ℕ → List Arg → ScriptCall
made fun args = record { fun = fun; args = args }

abbrev pub lock_call : ℕ → ℕ → ℕ → ℕ → Call
lock_call client seq fun desc = record { client = client; seq = seq; fun = fun; desc = desc; args = [] }

abbrev pub ok_desc : ℕ → Reply
ok_desc desc = Ok (record { desc = desc; words = []; bytes = [] })

abbrev pub entry_of : Call → Reply → Entry
entry_of call reply = record { call = call; reply = reply }

-- client 1 makes a lock, takes it, releases it and frees it
abbrev pub four_lock_calls : Script
four_lock_calls = record {
  setup = [];
  clients = (1, made 1 [] ∷ made 2 (Back 1 ∷ []) ∷ made 3 (Back 1 ∷ []) ∷ made 4 (Back 1 ∷ []) ∷ []) ∷ [];
  schedule = [];
  stops = [];
}

abbrev pub four_lock_calls_history : List Entry
four_lock_calls_history =
    entry_of (lock_call 1 1 1 0) (ok_desc 1) ∷ entry_of (lock_call 1 2 2 1) (ok_desc 0) ∷ entry_of (lock_call 1 3 3 1) (ok_desc 0) ∷ entry_of (lock_call 1 4 4 1) (ok_desc 0) ∷ []

-- two clients take and release a lock that the setup makes; client 2 waits for the first release
abbrev pub wait_and_wake : Script
wait_and_wake = record {
  setup = made 1 [] ∷ [];
  clients =
      (1, made 2 (Number 1 ∷ []) ∷ made 3 (Number 1 ∷ []) ∷ [])
      ∷ (2, made 2 (Number 1 ∷ []) ∷ made 3 (Number 1 ∷ []) ∷ [])
      ∷ [];
  schedule = 1 ∷ 2 ∷ 1 ∷ 1 ∷ [];
  stops = [];
}

abbrev pub wait_and_wake_history : List Entry
wait_and_wake_history =
    entry_of (lock_call 1 1 1 0) (ok_desc 1)
    ∷ entry_of (lock_call 1 2 2 1) (ok_desc 0)
    ∷ entry_of (lock_call 1 3 3 1) (ok_desc 0)
    ∷ entry_of (lock_call 2 1 2 1) (ok_desc 0)
    ∷ entry_of (lock_call 2 2 3 1) (ok_desc 0)
    ∷ []

abbrev pub both_done : List (ℕ × End)
both_done = (1, Done) ∷ (2, Done) ∷ []

-- two clients take one lock, and nobody releases it
abbrev pub stays_blocked : Script
stays_blocked = record {
  setup = made 1 [] ∷ [];
  clients = (1, made 2 (Number 1 ∷ []) ∷ []) ∷ (2, made 2 (Number 1 ∷ []) ∷ []) ∷ [];
  schedule = 1 ∷ 2 ∷ [];
  stops = [];
}

abbrev pub stays_blocked_history : List Entry
stays_blocked_history = entry_of (lock_call 1 1 1 0) (ok_desc 1) ∷ entry_of (lock_call 1 2 2 1) (ok_desc 0) ∷ []

abbrev pub second_blocked : List (ℕ × End)
second_blocked = (1, Done) ∷ (2, Blocked (lock_call 2 1 2 1)) ∷ []

-- the schedule lets client 2 come first
abbrev pub second_first : Script
second_first = record wait_and_wake { schedule = 2 ∷ [] }

abbrev pub second_first_history : List Entry
second_first_history =
    entry_of (lock_call 1 1 1 0) (ok_desc 1)
    ∷ entry_of (lock_call 2 1 2 1) (ok_desc 0)
    ∷ entry_of (lock_call 2 2 3 1) (ok_desc 0)
    ∷ entry_of (lock_call 1 2 2 1) (ok_desc 0)
    ∷ entry_of (lock_call 1 3 3 1) (ok_desc 0)
    ∷ []

-- each client names its own calls
abbrev pub own_backs : Script
own_backs = record {
  setup = [];
  clients = (1, made 1 [] ∷ []) ∷ (2, made 1 [] ∷ made 2 (Back 1 ∷ []) ∷ []) ∷ [];
  schedule = [];
  stops = [];
}

abbrev pub own_backs_history : List Entry
own_backs_history = entry_of (lock_call 1 1 1 0) (ok_desc 1) ∷ entry_of (lock_call 2 1 1 0) (ok_desc 2) ∷ entry_of (lock_call 2 2 2 2) (ok_desc 0) ∷ []

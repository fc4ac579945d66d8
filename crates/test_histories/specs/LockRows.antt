-- Histories of the lock service. Its functions: 1 lock_alloc, 2 lock_take, 3 lock_release, 4 lock_free.
use Rattle.std.specs.Prelude.{List, [], ◌∷◌, ◌++◌}
use Rattle.sg_facts.specs.sg_base.declared.call.Call.{Call}
use Rattle.sg_facts.specs.sg_base.declared.reply.Code.TheVariants.{NoDesc, BadState, NotOwner, Held}
use Rattle.sg_facts.specs.declared.entry.Entry.{Entry}
use Rattle.test_histories.specs.Written.{call_of, ok, ok_at, refused, entry}

-- a lock is made, taken, released and freed
abbrev pub four_calls : List Entry
four_calls =
    entry (call_of 1 1 1 0 []) (ok_at 1)
    ∷ entry (call_of 1 2 2 1 []) ok
    ∷ entry (call_of 1 3 3 1 []) ok
    ∷ entry (call_of 1 4 4 1 []) ok
    ∷ []

-- client 1 makes a lock and takes it
abbrev pub one_takes : List Entry
one_takes =
    entry (call_of 1 1 1 0 []) (ok_at 1)
    ∷ entry (call_of 1 2 2 1 []) ok
    ∷ []

-- then client 2 wants it
abbrev pub other_takes : Call
other_takes = call_of 2 1 2 1 []

-- client 2 is answered once client 1 has released the lock, and releases it too
abbrev pub release_wakes : List Entry
release_wakes =
    one_takes
    ++ entry (call_of 1 3 3 1 []) ok
    ∷ entry other_takes ok
    ∷ entry (call_of 2 2 3 1 []) ok
    ∷ []

-- client 2 is answered while client 1 has the lock
abbrev pub both_own : List Entry
both_own = one_takes ++ entry other_takes ok ∷ []

-- what the rows alone refuse: locks that there are none of, and a release of one that is free
abbrev pub lock_refusals : List Entry
lock_refusals =
    entry (call_of 1 1 4 9 []) (refused NoDesc)
    ∷ entry (call_of 1 2 2 0 []) (refused NoDesc)
    ∷ entry (call_of 1 3 1 0 []) (ok_at 1)
    ∷ entry (call_of 1 4 3 1 []) (refused BadState)
    ∷ []

-- what the service refuses: a release by another client, a second take by the owner, and the end of an owned lock
abbrev pub owner_alone : List Entry
owner_alone =
    one_takes
    ++ entry (call_of 2 1 3 1 []) (refused NotOwner)
    ∷ entry (call_of 1 3 2 1 []) (refused Held)
    ∷ entry (call_of 1 4 4 1 []) (refused Held)
    ∷ []

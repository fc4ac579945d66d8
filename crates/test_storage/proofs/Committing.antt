-- Which answered calls may be committed under the tables of files, and of locks.
use Rattle.std.proofs.Common.{◌≡◌, ℕ, ◌+◌, ◌≤◌, false, true, List, [], None, Some, length, refl, sym, subst, arith}
use Rattle.std.specs.declared.option.Option.{Option}
use Rattle.test_tables.specs.sg_facts.sg_base.declared.call.Call.{Call}
use Rattle.test_tables.specs.sg_facts.sg_base.declared.reply.Code.{Code}
use Rattle.test_tables.specs.sg_facts.sg_base.declared.reply.Reply.{Reply}
use Rattle.test_tables.specs.sg_facts.sg_base.declared.reply.Reply.TheVariants.{Refused}
use Rattle.test_tables.specs.sg_facts.declared.outcome.Patch.{Patch}
use Rattle.test_tables.specs.sg_facts.Facts.{Facts}
use Rattle.test_tables.specs.sg_lock.LockFacts.{lock_facts}
use Rattle.test_tables.specs.sg_ramfs.RamfsFacts.{ramfs_facts}
use Rattle.sg_store.specs.Committing.{MayCommit, MayFollow}
use Rattle.sg_store.specs.Spans.{FitsPatch}
use Rattle.sg_store.specs.Stored.{Stored, files_in}
use Rattle.sg_store.specs.sg_track.Tracked.{Tracked}
use Rattle.test_histories.specs.Written.{call_of, ok_at}

carried : {facts other : Facts} {call other_call : Call} {reply other_reply : Reply} (s : Stored) (patch : Option Patch) → facts ≡ other → call ≡ other_call → reply ≡ other_reply
    → MayCommit other s other_call other_reply patch → MayCommit facts s call reply patch
carried {facts} {other} {call} {other_call} {reply} {other_reply} s patch one two three may =
    subst (λ f. MayCommit f s call reply patch) (sym one) (subst (λ c. MayCommit other s c reply patch) (sym two) (subst (λ r. MayCommit other s other_call r patch) (sym three) may))

-- a descriptor of files is made
pub may_split : (facts : Facts) (s : Stored) (call : Call) (reply : Reply) (client seq id : ℕ) → facts ≡ ramfs_facts → call ≡ call_of client seq 1 0 [] → reply ≡ ok_at id
    → 1 ≤ client → client ≤ s.clients → s.given + 1 ≡ id → MayCommit facts s call reply None
may_split facts s call reply client seq id is one two first last next =
    carried s None is one two (record { first = first; last = last; follows = record { tracks = λ global. absurd (cc global); names = λ private makes. sym next }; fits = tt })

-- bytes are written into a file
pub may_write : (facts : Facts) (s : Stored) (call : Call) (reply : Reply) (patch : Patch) → facts ≡ ramfs_facts → call ≡ call_of 1 1 3 1 [] → reply ≡ ok_at 0
    → 1 ≤ s.clients → FitsPatch (files_in s) patch → MayCommit facts s call reply (Some patch)
may_write facts s call reply patch is one two last fits =
    carried s (Some patch) is one two (record { first = omega arith; last = last; follows = record { tracks = λ global. absurd (cc global); names = λ private makes. absurd (cc makes) }; fits = fits })

-- a lock is made
pub may_make : (facts : Facts) (s : Stored) (call : Call) (reply : Reply) (client seq id : ℕ) → facts ≡ lock_facts → call ≡ call_of client seq 1 0 [] → reply ≡ ok_at id
    → 1 ≤ client → client ≤ s.clients → s.given + 1 ≡ id → 1 ≤ s.spare → MayCommit facts s call reply None
may_make facts s call reply client seq id is one two first last next room =
    carried s None is one two (record {
      first = first;
      last = last;
      follows = record {
        tracks = λ global. record {
          makes = λ makes. record { place = record { room = room; parent = λ takes. absurd (cc takes); next = sym next }; few = omega arith; values = λ row. tt };
          changes = λ query makes. absurd (cc makes);
        };
        names = λ private. absurd (cc private);
      };
      fits = tt;
    })

-- a call is refused
pub may_refuse : (facts : Facts) (s : Stored) (call : Call) (reply : Reply) (client seq : ℕ) (code : Code) → call ≡ call_of client seq 1 0 [] → reply ≡ Refused code
    → 1 ≤ client → client ≤ s.clients → MayCommit facts s call reply None
may_refuse facts s call reply client seq code one two first last =
    carried {facts = facts} {other = facts} s None refl one two (record { first = first; last = last; follows = record { tracks = λ global. tt; names = λ private. tt }; fits = tt })

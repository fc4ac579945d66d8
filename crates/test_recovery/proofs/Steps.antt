-- A run of locks that recovers so far, step by step.
use Rattle.std.proofs.Common.{◌≤◌, refl, arith, [], ◌∷◌, None, Some}
use Rattle.std.proofs.lemmas.List.Elements.{Contains-append_left}
use Rattle.test_histories.specs.sg_facts.sg_base.declared.call.Call.{Call}
use Rattle.test_histories.specs.sg_facts.declared.entry.Entry.{Entry}
use Rattle.test_histories.specs.sg_facts.declared.trace.Item.{Item}
use Rattle.test_recovery.specs.LockRuns.{lock_stubs, rebuilt_for_take}
use Rattle.test_histories.specs.Written.{entry, ok_at}
use Rattle.test_recovery.specs.Written.{bare_call, called, replied, walked}
use Rattle.sg_recovery_laws.proofs.Lists.{each_contains}
use Rattle.sg_recovery_laws.proofs.Onward.{booted_stays, committed_stays, made_stays, noted_stays, nothing_yet, struck_stays}
use Rattle.sg_recovery_laws.specs.sg_hist.Growing.{IsItemOf, IsNextItem, IsRecovering, booted, noted, place_after, struck}

abbrev alloc : Call
alloc = bare_call 1 1 1 0

abbrev take : Call
take = bare_call 1 2 2 1

abbrev made : Entry
made = entry alloc (ok_at 1)

abbrev first : Item
first = called alloc 0 4 (replied (ok_at 1))

abbrev again : Item
again = walked 1 1 1 (bare_call 1 0 1 0) 0 9 (replied (ok_at 1))

-- the call is made
offered : IsRecovering lock_stubs [] (record { boots = booted []; points = 0 }) (alloc ∷ [])
offered = made_stays lock_stubs [] (record { boots = booted []; points = 0 }) [] (alloc ∷ []) (λ call c. absurd (omega (arith, c.1))) (nothing_yet lock_stubs)

-- it is done and committed
committed : IsRecovering lock_stubs (made ∷ []) (record { boots = noted (booted []) first; points = 5 }) []
committed = committed_stays lock_stubs [] (record { items = []; stop = None }) [] 0 5 (alloc ∷ []) [] first made tt its
    (λ call c same. each_contains (λ x. x.seq ≤ 1) (alloc ∷ []) call (omega arith, tt) c) (λ call c. c) next offered
  where
    its : IsItemOf lock_stubs.interface.facts [] (place_after [] (booted []) first) made
    its = record { tagged = refl; served = refl; shown = refl; reply = (refl, refl, refl) }

    next : IsNextItem lock_stubs (made ∷ []) [] (place_after [] (booted []) first)
    next = record {
      running = refl;
      table = (refl, refl);
      call = (record { its = refl; made = (0, omega arith, refl) }, refl);
      settled = record { walk = tt; demand = record { under_way = record { its = record { its = refl; made = (0, omega arith, refl) }; above = refl; first = refl }; guarded = refl }; state = record { whole = refl; rows = tt; real = refl; file = tt } };
    }

-- the service stops once it is committed, and is booted again; a take is made
rebooted : IsRecovering lock_stubs (made ∷ []) (record { boots = booted (struck (noted (booted []) first) 5); points = 5 }) (take ∷ [])
rebooted = made_stays lock_stubs (made ∷ []) (record { boots = booted (struck (noted (booted []) first) 5); points = 5 }) [] (take ∷ [])
    (λ call c. Contains-append_left (alloc ∷ []) (take ∷ []) call c)
    (booted_stays lock_stubs (made ∷ []) (record { items = first ∷ []; stop = Some 5 }) [] 5 5 [] refl
    (struck_stays lock_stubs (made ∷ []) (noted (booted []) first) 5 5 5 [] committed))

-- the lock is made again
pub rebuilt_for_take-recovering : IsRecovering lock_stubs (made ∷ []) rebuilt_for_take (take ∷ [])
rebuilt_for_take-recovering = noted_stays lock_stubs (made ∷ []) (record { items = first ∷ []; stop = Some 5 }) (record { items = []; stop = None } ∷ []) 5 9 (take ∷ []) (take ∷ []) again
    (refl, tt) refl (λ call c. c) next rebooted
  where
    next : IsNextItem lock_stubs (made ∷ []) (take ∷ []) (place_after [] (booted (struck (noted (booted []) first) 5)) again)
    next = record {
      running = refl;
      table = (refl, refl);
      call = tt;
      settled = record {
        walk = record { unmade = refl; next = refl; parent = refl; call = refl; real = refl; outcome = tt };
        demand = record {
          call = take;
          admitted = record { under_way = record { its = record { its = refl; made = (1, omega arith, refl) }; above = refl; first = refl }; guarded = refl };
          least = refl;
        };
        state = tt;
      };
    }

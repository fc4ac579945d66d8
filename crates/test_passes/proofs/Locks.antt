-- Calls on locks may be offered where the interface declares them.
use Rattle.std.proofs.Common.{◌≡◌, ℕ, zero, suc, true, List, [], refl, sym, subst, arith}
use Rattle.sg_log.specs.sg_turn.sg_facts.sg_base.declared.call.Call.{Call}
use Rattle.sg_log.specs.sg_turn.sg_facts.declared.entry.Entry.{Entry}
use Rattle.sg_log.specs.sg_turn.sg_facts.Facts.{Facts}
use Rattle.sg_log.specs.sg_turn.sg_facts.Interface.{Declared, declares}
use Rattle.sg_log.specs.sg_turn.sg_facts.Kinds.{FitsKinds}
use Rattle.sg_log.specs.Names.{MayOffer}
use Rattle.test_world.specs.test_tables.sg_lock.LockFacts.{lock_facts}
use Rattle.test_passes.specs.Locks.{DeclaresLockCalls}
use Rattle.test_passes.specs.Ready.{IsLockCall, TakesLockCalls}

abbrev lock_call : ℕ → ℕ → ℕ → ℕ → Call
lock_call client seq fun desc = record { client = client; seq = seq; fun = fun; desc = desc; args = [] }

fits : (client seq fun desc : ℕ) → IsLockCall fun desc → FitsKinds lock_facts (lock_call client seq fun desc)
fits client seq zero desc is = let none = is.first in absurd (omega (arith, none))
fits client seq (suc zero) desc is = record { args = refl; desc = λ d p. is.creates refl }
fits client seq (suc (suc zero)) desc is = record { args = refl; desc = λ d p. absurd (cc d) }
fits client seq (suc (suc (suc zero))) desc is = record { args = refl; desc = λ d p. absurd (cc d) }
fits client seq (suc (suc (suc (suc n)))) desc is = let more = is.last in absurd (omega (arith, more))

declared : (i : Declared) (fun desc : ℕ) → DeclaresLockCalls i → IsLockCall fun desc → declares i fun ≡ true
declared i zero desc h is = let none = is.first in absurd (omega (arith, none))
declared i (suc zero) desc h is = h.makes
declared i (suc (suc zero)) desc h is = h.takes
declared i (suc (suc (suc zero))) desc h is = h.releases
declared i (suc (suc (suc (suc n)))) desc h is = let more = is.last in absurd (omega (arith, more))

-- an interface that declares them takes them
pub takes_lock_calls : (i : Declared) → DeclaresLockCalls i → TakesLockCalls (λ (own : List Entry). MayOffer i)
takes_lock_calls i h = λ own client seq fun desc is. record {
  declared = declared i fun desc h is;
  fits = subst (λ (facts : Facts). FitsKinds facts (lock_call client seq fun desc)) (sym h.facts) (fits client seq fun desc is);
  words = tt;
}

-- The lock is there, and what is done with it is right.
use Rattle.std.proofs.Common.{◌≡◌, ◌≤◌, true, sym, ◌∙◌, ap, arith}
use Rattle.std.specs.Option.{is_some}
use Rattle.sg_slots.specs.Slots.{entry_at}
use Rattle.sg_slots.proofs.Deciding.{by_fun}
use Rattle.sg_slots.proofs.Rows.{is_live-rows_of}
use Rattle.sg_lock.specs.LockFacts.{lock_facts}
use Rattle.sg_lock.specs.LockTable.{lock_table, lock_parts}
use Rattle.sg_lock.specs.LockRow.{lock_body}
use Rattle.sg_lock.proofs.Decisions.{take_right, release_right, free_right, on_lock}
use Rattle.sg_lock.proofs.service.LockRowRules.decide.Goals as goal

pub unreachable-requires : goal.unreachable-requires
unreachable-requires c =
    let call = c.args.call.now in
    let last : call.fun ≤ 4 = c.requires.is_call.last in
    let live = c.requires.desc (on_lock call.fun c.if-call-eq-ALLOC.false c.requires.is_call.first last) in
    let there : is_some (entry_at c.args.locks.now.entries call.desc) ≡ true = sym (is_live-rows_of lock_body c.args.locks.now.entries call.desc) ∙ live in
    let none = ap is_some c.in-None.ensures.entry ∙ there in
    cc none

pub returns-in-2 : goal.returns-in-2
returns-in-2 c =
    let call = c.args.call.now in
    let right = take_right c.args.locks.now c.get.ensures.ascending call.client call.seq call.desc call.args c.in-Some.lock.now c.requires.within.client_first (sym c.in-Some.ensures.entry) in
    by_fun lock_facts lock_table lock_parts lock_body c.args.locks.now call 2 c.take.result _ c.in-2.is c.take.ensures right

pub returns-in-3 : goal.returns-in-3
returns-in-3 c =
    let call = c.args.call.now in
    let right = release_right c.args.locks.now c.get.ensures.ascending call.client call.seq call.desc call.args c.in-Some.lock.now c.requires.within.client_first (sym c.in-Some.ensures.entry) in
    by_fun lock_facts lock_table lock_parts lock_body c.args.locks.now call 3 c.release.result _ c.in-3.is c.release.ensures right

pub returns-in_default : goal.returns-in_default
returns-in_default c =
    let call = c.args.call.now in
    let last : call.fun ≤ 4 = c.requires.is_call.last in
    let is : call.fun ≡ 4 = omega (arith, last, c.requires.is_call.first) in
    let right = free_right c.args.locks.now c.get.ensures.ascending call.client call.seq call.desc call.args c.in-Some.lock.now c.requires.within.client_first (sym c.in-Some.ensures.entry) in
    by_fun lock_facts lock_table lock_parts lock_body c.args.locks.now call 4 c.free.result _ is c.free.ensures right

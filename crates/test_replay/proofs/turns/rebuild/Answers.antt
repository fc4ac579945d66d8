-- What the take needs is the creation, which brings the first lock back.
use Rattle.std.proofs.Common.{◌≡◌, [], Some, refl, sym, ◌∙◌, subst}
use Rattle.test_tables.specs.sg_facts.Needs.{Needs, wanted}
use Rattle.test_tables.specs.sg_facts.Object.{Object, empty_object}
use Rattle.sg_replay.specs.Engined.{Engined}
use Rattle.sg_replay.specs.Missing.{missing}
use Rattle.sg_replay.specs.Replaying.{MayAdvance}
use Rattle.sg_replay.specs.declared.todo.Todo.TheVariants.{Walk}
use Rattle.test_tables.specs.sg_lock.LockFacts.{lock_facts}
use Rattle.test_tables.specs.sg_lock.LockTable.{lock_table}
use Rattle.test_replay.proofs.OneLock.{again_call, may_advance, may_rebuild, missing_first, rebuilt_if}
use Rattle.test_replay.specs.Turns.{HasFirst, IsFresh, WalksLocks}
use Rattle.test_replay.proofs.turns.rebuild.Goals as goal

pub advance-requires : goal.advance-requires
advance-requires c =
    let e = c.args.engine.now in
    let o : Object = record { rows = e.tracked.rows; files = []; given = 0 } in
    let needed : Needs = wanted e.tables.iface o c.args.take.now in
    let file_is = c.in_ok-file.ensures o refl in
    subst (λ x. MayAdvance lock_facts lock_table x c.in_ok-file.file c.in-Some.todo) (sym c.missing.ensures.same)
    (subst (λ f. MayAdvance lock_facts lock_table e f c.in-Some.todo) (sym file_is)
    (may_advance e needed c.in-Some.todo c.requires.tables c.requires.fresh c.requires.first (sym (c.missing.ensures.todo o refl file_is) ∙ c.in-Some.is)
    (missing_first e.tables.iface e o needed c.args.take.now c.requires.tables.facts c.requires.take c.requires.fresh c.requires.first refl refl)))

pub returns-in-Some-clause-rebuilt : goal.returns-in-Some-clause-rebuilt
returns-in-Some-clause-rebuilt c =
    let e = c.args.engine.now in
    let same : e ≡ c.missing.new.self = sym c.missing.ensures.same in
    let walks : WalksLocks c.missing.new.self.tables = subst (λ (x : Engined). WalksLocks x.tables) same c.requires.tables in
    let fresh : IsFresh c.missing.new.self = subst IsFresh same c.requires.fresh in
    let first : HasFirst c.missing.new.self = subst HasFirst same c.requires.first in
    let o : Object = record { rows = e.tracked.rows; files = []; given = 0 } in
    let needed : Needs = wanted e.tables.iface o c.args.take.now in
    let due : missing e needed ≡ Some (Walk 1 1) = missing_first e.tables.iface e o needed c.args.take.now c.requires.tables.facts c.requires.take c.requires.fresh c.requires.first refl refl in
    let todo : c.in-Some.todo ≡ Walk 1 1 = cc (sym c.in-Some.is ∙ c.missing.ensures.todo o refl (c.in_ok-file.ensures o refl) ∙ due) in
    rebuilt_if c.missing.new.self c.advance.new.self 2 _ _ c.in_ok-advance-in-Some.field-0 walks fresh first
    (c.in_ok-advance-in-Some.ensures.walk empty_object 1 1 again_call fresh.up todo (may_rebuild c.missing.new.self walks fresh first).its).0

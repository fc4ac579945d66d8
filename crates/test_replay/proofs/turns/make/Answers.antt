-- The first lock is told under the next id.
use Rattle.std.proofs.Common.{◌≤◌, sym, ◌∙◌, ap, subst}
use Rattle.test_tables.specs.sg_facts.Object.{empty_object}
use Rattle.test_replay.proofs.OneLock.{first_made, goes_on, may_commit_make, told_make}
use Rattle.test_replay.proofs.turns.make.Goals as goal

pub commit-requires : goal.commit-requires
commit-requires c =
    let old = c.reserve.new.self in
    let call = c.call-alloc_call.result in
    let reserved = c.in_ok-reserve.ensures in
    let served = c.in-Replied.ensures in
    let given = reserved.given ∙ c.requires.none.given in
    let told = told_make old c.serve.new.self call _ _ c.in-Replied.reply c.in-Replied.patch c.call-alloc_call.ensures given (served.outcome empty_object (reserved.running ∙ c.requires.fresh.up)) in
    may_commit_make c.serve.new.self call c.in-Replied.reply c.in-Replied.patch c.call-alloc_call.ensures told (subst (λ t. 1 ≤ t.spare) (sym served.tracked) reserved.row_room) (ap (λ t. t.given) served.tracked ∙ given)
    (subst (λ s. 1 ≤ s.spare) (sym served.stored) reserved.stored_room) (ap (λ s. s.given) served.stored ∙ reserved.stored_given ∙ c.requires.none.stored)
    (subst (λ s. 1 ≤ s.clients) (sym served.stored) (subst (λ n. 1 ≤ n) (sym reserved.clients) c.requires.clients))

pub returns-in-Replied-clause-first : goal.returns-in-Replied-clause-first
returns-in-Replied-clause-first c =
    let reserved = c.in_ok-reserve.ensures in
    let served = c.in-Replied.ensures in
    let call = c.call-alloc_call.result in
    let given = reserved.given ∙ c.requires.none.given in
    let told = told_make c.reserve.new.self c.serve.new.self call _ _ c.in-Replied.reply c.in-Replied.patch c.call-alloc_call.ensures given (served.outcome empty_object (reserved.running ∙ c.requires.fresh.up)) in
    let made = first_made c.serve.new.self.tracked.rows c.serve.new.self.tracked.given call c.in-Replied.reply (ap (λ t. t.rows) served.tracked ∙ reserved.rows ∙ c.requires.none.rows)
    (ap (λ t. t.given) served.tracked ∙ given) c.call-alloc_call.ensures told.0 in
    record { rows = c.commit.ensures.rows ∙ made.0; given = c.commit.ensures.given ∙ made.1 }

pub returns-in-Replied-clause-up : goal.returns-in-Replied-clause-up
returns-in-Replied-clause-up c =
    goes_on c.reserve.new.self c.serve.new.self c.commit.new.self c.call-alloc_call.result _ _ c.in-Replied.reply c.in-Replied.patch
    (c.in-Replied.ensures.outcome empty_object (c.in_ok-reserve.ensures.running ∙ c.requires.fresh.up)) c.commit.ensures.cell

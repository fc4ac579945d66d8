-- What a decision changes is the entry of one id.
use Rattle.std.proofs.Common.{◌+◌, None, Some, sym, ◌∙◌, subst}
use Rattle.sg_slots.specs.Carry.{IsAbout}
use Rattle.sg_slots.specs.Inside.QueueIndex.{IsChange}
use Rattle.sg_slots.proofs.Changes.{make_changes, enlist_changes, set_changes, remove_changes}
use Rattle.sg_slots.proofs.queue.change_of.Goals as goal

pub returns-in-Make : goal.returns-in-Make
returns-in-Make g c =
    let held = c.args.entries.now in
    subst (λ n. IsChange held c.args.id c.args.decision.now (n + 1) None (Some c.in-Make.entry)) (sym c.given.ensures)
    (subst (λ d. IsChange held c.args.id d (held.given + 1) None (Some c.in-Make.entry)) (sym c.in-Make.is) (make_changes held c.args.id c.get.ensures.ascending c.in-Make.entry c.in-Make.word))

pub returns-in-Enlist : goal.returns-in-Enlist
returns-in-Enlist g c =
    let held = c.args.entries.now in
    subst (λ n. IsChange held c.args.id c.args.decision.now (n + 1) None (Some c.in-Enlist.entry)) (sym c.given-in-Enlist.ensures)
    (subst (λ d. IsChange held c.args.id d (held.given + 1) None (Some c.in-Enlist.entry)) (sym c.in-Enlist.is) (enlist_changes held c.args.id c.get.ensures.ascending c.in-Enlist.entry c.in-Enlist.word))

pub returns-in-Set : goal.returns-in-Set
returns-in-Set g c =
    let held = c.args.entries.now in
    subst (λ d. IsChange held c.args.id d c.args.id c.copied-before.result (Some c.in-Set.entry)) (sym c.in-Set.is)
    (set_changes held c.args.id c.get.ensures.ascending c.in-Set.entry c.in-Set.word c.copied-before.result (sym c.get.ensures.entry ∙ sym c.copied-before.ensures) (subst (IsAbout held c.args.id) c.in-Set.is c.requires.there))

pub returns-in-Remove : goal.returns-in-Remove
returns-in-Remove g c =
    let held = c.args.entries.now in
    subst (λ d. IsChange held c.args.id d c.args.id c.copied-before.result None) (sym c.in-Remove.is) (remove_changes held c.args.id c.get.ensures.ascending c.copied-before.result (sym c.get.ensures.entry ∙ sym c.copied-before.ensures))

-- What is done with what was answered is right; the entry of a call on a descriptor is there.
use Rattle.std.proofs.Common.{◌≡◌, true, sym, ◌∙◌, ap, subst}
use Rattle.std.specs.Option.{is_some}
use Rattle.sg_described.specs.sg_facts.Facts.{Fun}
use Rattle.sg_described.specs.sg_slots.Slots.{entry_at}
use Rattle.sg_described.specs.sg_slots.Decide.{Decides}
use Rattle.sg_described.proofs.sg_slots.Rows.{is_live-rows_of}
use Rattle.sg_described.specs.Described.{described_of}
use Rattle.sg_described.specs.Meaning.{described_parts, described_table}
use Rattle.sg_described.proofs.Keeping.Answering.{plain_fun}
use Rattle.sg_interpret.specs.DescribedRow.{described_body}
use Rattle.sg_interpret.proofs.Carrying.{change_right, making_right}
use Rattle.sg_interpret.proofs.decide.decide.Goals as goal

pub unreachable-requires : goal.unreachable-requires
unreachable-requires c =
    let d = described_of c.args.description.now in
    let call = c.args.call.now in
    let its = plain_fun d c.requires.plain call.fun c.requires.may.is_call.first c.requires.may.is_call.last in
    let makes = ap (λ (f : Fun). f.creation) (sym c.fun-fun.ensures) ∙ sym c.is_creation.ensures ∙ c.if-is_creation.false in
    let live = c.requires.may.desc (its.on makes) in
    let there : is_some (entry_at c.args.slots.now.entries call.desc) ≡ true = sym (is_live-rows_of (described_body d) c.args.slots.now.entries call.desc) ∙ live in
    let none = ap is_some c.in-None.ensures.entry ∙ there in
    cc none

pub returns-then-is_creation : goal.returns-then-is_creation
returns-then-is_creation c =
    let d = described_of c.args.description.now in
    let call = c.args.call.now in
    let makes = ap (λ (f : Fun). f.creation) (sym c.fun-fun.ensures) ∙ sym c.is_creation.ensures ∙ c.if-is_creation.true in
    let right = making_right d c.requires.plain c.args.slots.now call c.requires.may.is_call.first c.requires.may.is_call.last makes c.answered-answer.result c.answered-answer.ensures in
    subst (Decides d.facts (described_table d) (described_parts d) (described_body d) c.args.slots.now call) (sym c.made.ensures) right

pub returns : goal.returns
returns c =
    let d = described_of c.args.description.now in
    let call = c.args.call.now in
    let makes = ap (λ (f : Fun). f.creation) (sym c.fun-fun.ensures) ∙ sym c.is_creation.ensures ∙ c.if-is_creation.false in
    let ends = ap (λ (f : Fun). f.terminal) (sym c.fun-fun.ensures) ∙ sym c.is_terminal.ensures in
    let right = change_right d c.requires.plain c.args.slots.now call c.requires.may.is_call.first c.requires.may.is_call.last makes c.get.ensures.ascending c.in-Some.entry.now (sym c.in-Some.ensures.entry)
    c.is_terminal.result ends c.answered-answer-in-Some.result c.answered-answer-in-Some.ensures in
    subst (Decides d.facts (described_table d) (described_parts d) (described_body d) c.args.slots.now call) (sym c.changed.ensures) right

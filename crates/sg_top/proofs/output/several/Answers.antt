-- A script that is ready is played over its members.
use Rattle.std.proofs.Common.{◌≡◌, ◌∙◌, List, ap, map, sym, subst}
use Rattle.sg_multi.specs.sg_facts.Facts.{facts_of}
use Rattle.sg_multi.specs.sg_facts.sg_base.Lists.{Each}
use Rattle.sg_judge.specs.AnyInputs.{IsMultiReadyAs}
use Rattle.sg_multi.specs.Report.{multi_text_of}
use Rattle.sg_multi.specs.declared.play.MemberTables.{MemberTables}
use Rattle.sg_top.specs.Answer.{IsMultiOutput, services}
use Rattle.sg_top.specs.Inside.Ready.{IsAccepted}
use Rattle.sg_top.specs.Inside.Several.{AreMembersOf}
use Rattle.sg_top.proofs.Several.{members_accepted, members_few, members_playable, members_served, not_several, several_for, several_output, shown_members}
use Rattle.sg_top.proofs.output.several.Goals as goal

pub members_of-requires : goal.members_of-requires
members_of-requires c =
    let ready : IsMultiReadyAs services c.args.bytes.now c.in-Ready.interfaces c.in-Ready.script =
    several_for c.args.bytes.now (map facts_of c.shapes.result) c.in_ok-interfaces.field-0 c.in-Ready.interfaces c.in-Ready.script c.shapes.ensures.facts c.in-Ready.is c.in_ok-interfaces.ensures.input in
    subst (Each IsAccepted) (sym c.as_slice.ensures) (members_accepted c.args.bytes.now c.in-Ready.interfaces c.in-Ready.script ready)

pub play_over-requires-clause-services : goal.play_over-requires-clause-services
play_over-requires-clause-services c =
    members_served c.args.bytes.now c.in-Ready.interfaces c.in-Ready.script c.as_slice-in-Ready.result.now
    (several_for c.args.bytes.now (map facts_of c.shapes.result) c.in_ok-interfaces.field-0 c.in-Ready.interfaces c.in-Ready.script c.shapes.ensures.facts c.in-Ready.is c.in_ok-interfaces.ensures.input)
    (shown_members c.in-Ready.interfaces _ _ _ c.as_slice.ensures c.as_slice-in-Ready.ensures c.in_ok-members-in-Ready.ensures)

pub play_over-requires-clause-few : goal.play_over-requires-clause-few
play_over-requires-clause-few c =
    members_few c.args.bytes.now c.in-Ready.interfaces c.in-Ready.script c.as_slice-in-Ready.result.now
    (several_for c.args.bytes.now (map facts_of c.shapes.result) c.in_ok-interfaces.field-0 c.in-Ready.interfaces c.in-Ready.script c.shapes.ensures.facts c.in-Ready.is c.in_ok-interfaces.ensures.input)
    (shown_members c.in-Ready.interfaces _ _ _ c.as_slice.ensures c.as_slice-in-Ready.ensures c.in_ok-members-in-Ready.ensures)

pub play_over-requires-clause-playable : goal.play_over-requires-clause-playable
play_over-requires-clause-playable c =
    members_playable c.args.bytes.now c.in-Ready.interfaces c.in-Ready.script c.as_slice-in-Ready.result.now
    (several_for c.args.bytes.now (map facts_of c.shapes.result) c.in_ok-interfaces.field-0 c.in-Ready.interfaces c.in-Ready.script c.shapes.ensures.facts c.in-Ready.is c.in_ok-interfaces.ensures.input)
    (shown_members c.in-Ready.interfaces _ _ _ c.as_slice.ensures c.as_slice-in-Ready.ensures c.in_ok-members-in-Ready.ensures)

pub returns-in_ok-text-in-Ready : goal.returns-in_ok-text-in-Ready
returns-in_ok-text-in-Ready c =
    let ready : IsMultiReadyAs services c.args.bytes.now c.in-Ready.interfaces c.in-Ready.script =
    several_for c.args.bytes.now (map facts_of c.shapes.result) c.in_ok-interfaces.field-0 c.in-Ready.interfaces c.in-Ready.script c.shapes.ensures.facts c.in-Ready.is c.in_ok-interfaces.ensures.input in
    let members = c.as_slice-in-Ready.result.now in
    let are : AreMembersOf c.in-Ready.interfaces members = shown_members c.in-Ready.interfaces _ _ _ c.as_slice.ensures c.as_slice-in-Ready.ensures c.in_ok-members-in-Ready.ensures in
    let play = c.in_ok-came-in-Ready.ensures in
    let same : c.as_slice-in-Ready-2.result.now ≡ members = c.as_slice-in-Ready-2.ensures ∙ sym c.as_slice-in-Ready.ensures in
    several_output c.args.bytes.now c.in-Ready.interfaces c.in-Ready.script members c.args.with_trace c.in_ok-came-in-Ready.came c.output_of_members.result.ran
    c.output_of_members.result.status c.output_of_members.result.text ready are play c.output_of_members.ensures.ran c.output_of_members.ensures.status
    (c.output_of_members.ensures.text ∙ c.in_ok-text-in-Ready.ensures play.merged play.merges
    ∙ ap (λ (l : List MemberTables). multi_text_of (map (λ (t : MemberTables). t.tables.iface.facts) l) play.merged c.in_ok-came-in-Ready.came c.args.with_trace) same)

pub returns-in-Refused : goal.returns-in-Refused
returns-in-Refused c =
    subst (λ r. IsMultiOutput c.args.bytes.now c.args.with_trace r c.refusing.result.status c.refusing.result.text) (sym c.refusing.ensures.ran) (
      c.refusing.ensures.status,
      not_several c.args.bytes.now (map facts_of c.shapes.result) c.in_ok-interfaces.field-0 c.in-Refused.line c.refusing.result.text c.shapes.ensures.facts c.in-Refused.is c.refusing.ensures.line
          c.in_ok-interfaces.ensures.input,
    )

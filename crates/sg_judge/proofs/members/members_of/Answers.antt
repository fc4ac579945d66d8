-- One text more: it is refused, or its interface is one member more.
use Rattle.std.proofs.Common.{◌<◌, suc, [], drop, length, map, sym, subst, take, arith}
use Rattle.std.specs.Prelude.{slice_index_or}
use Rattle.std.proofs.Math.Seq.{split_at}
use Rattle.std.proofs.lemmas.List.{get_or-map, length-map}
use Rattle.sg_explain.specs.sg_facts.Facts.{facts_of}
use Rattle.sg_explain.specs.sg_input.declared.read.Read.TheVariants.{Refused, Ready}
use Rattle.sg_judge.specs.Inside.Examined.{IsMemberOf}
use Rattle.sg_judge.proofs.OneMore.{members_more}
use Rattle.sg_judge.proofs.members.members_of.Goals as goal

pub returns-in-Refused : goal.returns-in-Refused
returns-in-Refused c =
    let services = map facts_of c.args.shapes.now in
    let texts = map (λ t. t.now) c.args.texts.now in
    let k = c.texts.text-index in
    let within : k < length texts = omega (arith, length-map c.args.texts.now (λ t. t.now), c.texts-test.true) in
    let text = get_or-map (λ t. t.now) c.args.texts.now k (record { ref_ptr = (0, 0); now = [] }) [] c.texts-test.true in
    let is = subst (λ l. IsMemberOf services l (slice_index_or texts k []) (Refused c.in-Refused.line)) c.as_slice.ensures
    (subst (λ t. IsMemberOf services c.as_slice.result.now t (Refused c.in-Refused.line)) (sym text)
    (subst (IsMemberOf services c.as_slice.result.now (slice_index_or c.args.texts.now k (record { ref_ptr = (0, 0); now = [] })).now) c.in-Refused.is c.in_ok-any.ensures)) in
    (take k texts, drop (suc k) texts, slice_index_or texts k [], split_at texts k [] within, c.texts.members, c.texts.invariant.are, is)

pub texts-preserved : goal.texts-preserved
texts-preserved c =
    let services = map facts_of c.args.shapes.now in
    let texts = map (λ t. t.now) c.args.texts.now in
    let k = c.texts.text-index in
    let within : k < length texts = omega (arith, length-map c.args.texts.now (λ t. t.now), c.texts-test.true) in
    let text = get_or-map (λ t. t.now) c.args.texts.now k (record { ref_ptr = (0, 0); now = [] }) [] c.texts-test.true in
    let is = subst (λ l. IsMemberOf services l (slice_index_or texts k []) (Ready c.in-Ready.any)) c.as_slice.ensures
    (subst (λ t. IsMemberOf services c.as_slice.result.now t (Ready c.in-Ready.any)) (sym text)
    (subst (IsMemberOf services c.as_slice.result.now (slice_index_or c.args.texts.now k (record { ref_ptr = (0, 0); now = [] })).now) c.in-Ready.is c.in_ok-any.ensures)) in
    members_more services texts k c.texts.members c.push.new.self c.in-Ready.any within c.texts.invariant is c.in_ok-push-in-Ready.ensures.ok

-- A text by itself.
use Rattle.std.proofs.Common.{◌∙◌, length, map, subst, sym}
use Rattle.sg_input.specs.sg_facts.Facts.{facts_of}
use Rattle.sg_input.specs.Inputs.{most_interface}
use Rattle.sg_explain.proofs.Explained.{alone, bad_interface, good_text, long_text, longer_than, no_longer}
use Rattle.sg_explain.specs.Inside.Pieces.{IsExaminedWithReason}
use Rattle.sg_explain.proofs.explaining.explain_text.Goals as goal

pub returns-then-is_longer : goal.returns-then-is_longer
returns-then-is_longer c =
    long_text (map facts_of c.args.shapes.now) c.args.text.now c.too_long.result c.requires.undivided
    (longer_than most_interface (length c.args.text.now) (sym c.is_longer.ensures ∙ c.if-is_longer.true)) c.too_long.ensures

pub returns-in_ok-told-in-Ready : goal.returns-in_ok-told-in-Ready
returns-in_ok-told-in-Ready c =
    let services = map facts_of c.args.shapes.now in
    good_text services c.args.text.now c.in_ok-told-in-Ready.told c.in-Ready.accepted c.requires.undivided
    (no_longer most_interface (length c.args.text.now) (sym c.is_longer.ensures ∙ c.if-is_longer.false))
    (subst (IsExaminedWithReason services c.args.text.now) c.in-Ready.is c.in_ok-examined.ensures) c.in_ok-told-in-Ready.ensures

pub returns-in-Refused : goal.returns-in-Refused
returns-in-Refused c =
    let services = map facts_of c.args.shapes.now in
    bad_interface services c.args.text.now c.in-Refused.told c.args.text.now
    (alone services c.args.text.now c.requires.undivided (no_longer most_interface (length c.args.text.now) (sym c.is_longer.ensures ∙ c.if-is_longer.false)))
    (subst (IsExaminedWithReason services c.args.text.now) c.in-Refused.is c.in_ok-examined.ensures)

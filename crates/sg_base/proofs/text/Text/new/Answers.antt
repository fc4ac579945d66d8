-- The bytes are few enough, and none of them is bad.
use Rattle.std.proofs.Common.{◌∙◌, ap, sym, arith, length}
use Rattle.sg_base.specs.Text.{is_text_byte}
use Rattle.std.specs.List.{list_all}
use Rattle.sg_base.proofs.Texts.{none_bad}
use Rattle.sg_base.proofs.text.Text.new.Goals as goal

pub invariant_of-result : goal.invariant_of-result
invariant_of-result c =
    let bytes = c.in-Ok.ensures in
    let none = none_bad c.args.bytes.now (sym c.in_default.ensures) in
    (omega (arith, ap length bytes, c.if-bytes-gt-MOST.false), ap (list_all is_text_byte) bytes ∙ none)

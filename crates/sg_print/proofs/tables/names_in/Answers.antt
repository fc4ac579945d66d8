-- Field by field.
use Rattle.std.proofs.Common.{◌≡◌, ◌+◌, ◌/◌, ◌++◌, drop, map, sym, ◌∙◌, ap, subst}
use Rattle.sg_print.specs.TablesText.{set_names}
use Rattle.sg_print.proofs.Numbers.{field_in, field_out, name_more, plain_field, some_field}
use Rattle.sg_print.proofs.tables.names_in.Goals.{then-left-eq1+in_ok-push, else-left-eq1}
use Rattle.sg_print.proofs.tables.names_in.Goals as goal

pub fields-preserved : goal.fields-preserved
fields-preserved c =
    let fields = c.args.fields.now in
    let k = c.fields.field-index in
    let total = set_names (map plain_field fields) c.args.mask in
    let rest = set_names (map plain_field (drop (k + 1) fields)) (c.fields.left / 2) in
    elim c.if-left-eq1.branch [
      | then-left-eq1+in_ok-push w ↦
          name_more c.fields.names.items c.if-left-eq1.names.items _ total rest (ap (λ v. v.items) w.names-is ∙ w.in_ok-push.ensures.items)
          (field_in fields k _ c.fields-test.true total (map (λ n. n.now) c.fields.names.items) c.fields.left c.fields.invariant w.if-left-eq1.true)
      | else-left-eq1 w ↦
          subst (λ v. total ≡ map (λ n. n.now) v.items ++ rest) (sym w.names-is)
          (field_out fields k (some_field fields k c.fields-test.true) c.fields-test.true total (map (λ n. n.now) c.fields.names.items) c.fields.left c.fields.invariant w.if-left-eq1.false)
    ]

-- Use by use.
use Rattle.std.proofs.Common.{◌≡◌, ◌≤◌, true, false, [], ◌∷◌, ◌++◌, length, Some, sym, ◌∙◌, ap, subst, length-append, arith}
use Rattle.std.specs.Option.{option_map}
use Rattle.std.proofs.lemmas.List.{take_all}
use Rattle.std.proofs.lemmas.Option.{slice_get_past}
use Rattle.sg_check_statements.specs.sg_facts.Limits.{most_fields}
use Rattle.sg_shape.specs.Fields.{Use, first_uses}
use Rattle.sg_shape.proofs.FirstUses.{first_ones, had_use, is_first, next_one, not_first}
use Rattle.sg_shape.proofs.fields.fields_of.Goals as goal

pub uses-preserved-then-has_use : goal.uses-preserved-then-has_use
uses-preserved-then-has_use c =
    let had = had_use c.args.uses.now c.uses.first c.as_slice.result.now c.uses.one-index c.one-item.result c.name.result.now true c.has_use.result
    c.uses.invariant.first c.as_slice.ensures c.name.ensures c.has_use.ensures c.if-has_use.true in
    record {
      first = c.uses.invariant.first ∙ sym (not_first c.args.uses.now c.uses.one-index c.one-item.result c.uses-test.true c.one-item.is had);
      few = c.uses.invariant.few;
    }

pub uses-preserved : goal.uses-preserved
uses-preserved c =
    let none = had_use c.args.uses.now c.uses.first c.as_slice.result.now c.uses.one-index c.one-item.result c.name.result.now false c.has_use.result
    c.uses.invariant.first c.as_slice.ensures c.name.ensures c.has_use.ensures c.if-has_use.false in
    record {
      first = c.in_ok-push.ensures.ok ∙ ap (λ (u : Use). c.uses.first ++ u ∷ []) c.same.ensures ∙ ap (λ l. l ++ c.one-item.result ∷ []) c.uses.invariant.first
          ∙ sym (is_first c.args.uses.now c.uses.one-index c.one-item.result c.uses-test.true c.one-item.is none);
      few = omega (arith, ap length c.in_ok-push.ensures.ok, length-append c.uses.first (c.same.result ∷ []), c.uses.invariant.few, c.len.ensures, c.if-len-eq-MOST_FIELDS.false);
    }

pub returns-then-len-eq-MOST_FIELDS-clause-first : goal.returns-then-len-eq-MOST_FIELDS-clause-first
returns-then-len-eq-MOST_FIELDS-clause-first c =
    let none = had_use c.args.uses.now c.uses.first c.as_slice.result.now c.uses.one-index c.one-item.result c.name.result.now false c.has_use.result
    c.uses.invariant.first c.as_slice.ensures c.name.ensures c.has_use.ensures c.if-has_use.false in
    c.uses.invariant.first
    ∙ sym (first_ones c.args.uses.now c.uses.one-index c.one-item.result c.uses-test.true c.one-item.is most_fields none
    (ap length (sym c.uses.invariant.first) ∙ sym c.len.ensures ∙ c.if-len-eq-MOST_FIELDS.true))

pub returns-then-len-eq-MOST_FIELDS-clause-next : goal.returns-then-len-eq-MOST_FIELDS-clause-next
returns-then-len-eq-MOST_FIELDS-clause-next c =
    let none = had_use c.args.uses.now c.uses.first c.as_slice.result.now c.uses.one-index c.one-item.result c.name.result.now false c.has_use.result
    c.uses.invariant.first c.as_slice.ensures c.name.ensures c.has_use.ensures c.if-has_use.false in
    ap Some c.at.ensures
    ∙ ap (option_map (λ (u : Use). u.name.at))
    (sym (next_one c.args.uses.now c.uses.one-index c.one-item.result c.uses-test.true c.one-item.is most_fields none
    (ap length (sym c.uses.invariant.first) ∙ sym c.len.ensures ∙ c.if-len-eq-MOST_FIELDS.true)))

pub returns-clause-next : goal.returns-clause-next
returns-clause-next c =
    let whole : c.uses.first ≡ first_uses c.args.uses.now = c.uses.invariant.first ∙ ap first_uses (take_all c.uses.one-index c.args.uses.now c.uses-test.false) in
    ap (option_map (λ (u : Use). u.name.at)) (sym (slice_get_past (first_uses c.args.uses.now) most_fields (subst (λ l. length l ≤ most_fields) whole c.uses.invariant.few)))

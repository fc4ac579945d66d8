-- Set by set.
use Rattle.std.proofs.Common.{◌≡◌, ◌+◌, ◌^◌, length, sym, ◌∙◌, ap, subst, arith}
use Rattle.sg_stub.specs.Inside.Lines.{AreBefore}
use Rattle.sg_stub.proofs.Before.{line_added, line_stands, next_state, none_added, not_reached, walk_stands}
use Rattle.sg_stub.proofs.lines.add_sets.Goals.{then-has+in_ok-push, else-has}
use Rattle.sg_stub.proofs.lines.add_sets.Goals as goal

pub line_of-requires : goal.line_of-requires
line_of-requires c = record {
  stands =
      walk_stands c.args.iface.now c.args.walks.now c.args.made c.args.state c.sets.number c.requires.fits c.requires.walks
      ((c.requires.triples c.args.made c.args.state c.sets.number).0 (sym c.has.ensures ∙ c.if-has.true));
}

pub sets-preserved : goal.sets-preserved
sets-preserved c = elim c.if-has.branch [
  | then-has+in_ok-push w ↦
      subst (λ l. AreBefore c.args.iface.now l c.args.made c.args.state (c.sets.number + 1)) (sym (w.lines-is ∙ w.in_ok-push.ensures.ok))
      (line_added c.args.iface.now c.sets.lines c.args.made c.args.state c.sets.number c.sets.invariant w.line_of.result
      (line_stands c.args.iface.now c.args.walks.now c.args.made c.args.state c.sets.number w.line_of.result c.requires.walks
      ((c.requires.triples c.args.made c.args.state c.sets.number).0 (sym c.has.ensures ∙ w.if-has.true)) w.line_of.ensures.walk w.line_of.ensures.line))
  | else-has w ↦
      subst (λ l. AreBefore c.args.iface.now l c.args.made c.args.state (c.sets.number + 1)) (sym w.lines-is)
      (none_added c.args.iface.now c.sets.lines c.args.made c.args.state c.sets.number c.sets.invariant
      (not_reached c.args.iface.now c.args.triples.now c.args.made c.args.state c.sets.number c.requires.triples (sym c.has.ensures ∙ w.if-has.false)))
]

pub returns : goal.returns
returns c =
    let last : c.sets.number ≡ c.set_count-number-end.result = omega (arith, c.sets-test.false, c.sets.auto.number-end) in
    let end : c.sets.number ≡ 2 ^ length c.args.iface.now.facts.fields = last ∙ c.set_count-number-end.ensures.value ∙ ap (λ n. 2 ^ n) c.field_count.ensures in
    next_state c.args.iface.now c.requires.fits c.requires.small c.sets.lines c.args.made c.args.state
    (subst (λ n. AreBefore c.args.iface.now c.sets.lines c.args.made c.args.state n) end c.sets.invariant)

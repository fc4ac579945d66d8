-- A number or a text gives one value more; and the parameters or the arguments have come to their end.
use Rattle.std.proofs.Common.{◌≡◌, ◌++◌, ◌∷◌, [], length, ap, append_assoc, inl, inr, subst, sym, ◌∙◌, append-nil}
use Rattle.std.specs.Prelude.{◌⊎◌}
use Rattle.std.specs.Slice.Iter.{iter_rest}
use Rattle.sg_facts.specs.Kinds.{AreWords}
use Rattle.sg_plain.specs.Script.{values_of}
use Rattle.sg_play.proofs.Given.{no_more_values, values_here, words_more}
use Rattle.sg_play.proofs.calls.values_of.Goals as goal

pub loop-kind-preserved : goal.loop-kind-preserved
loop-kind-preserved c =
    let value = c.in_ok-value_of-in-Word.field-0 in
    let made = c.in_ok-value_of-in-Word.ensures in
    let pushed = c.in_ok-push-in-Word.ensures.ok in
    let kinds = iter_rest c.next.new.self.a in
    let args = iter_rest c.next.new.self.b in
    let steps = c.in-Some.ensures.steps in (
      λ own are.
          c.loop-kind.invariant.0 own are
          ∙ ap (λ ks. c.loop-kind.values ++ values_of own ks (iter_rest c.loop-kind.kind-iterator.b)) steps.0
          ∙ ap (λ rest. c.loop-kind.values ++ values_of own (c.in-Some.kind.now ∷ kinds) rest) steps.1
          ∙ ap (λ vs. c.loop-kind.values ++ vs) (values_here own c.in-Some.kind.now kinds c.in-Some.arg.now args c.in-Word.is)
          ∙ ap (λ v. c.loop-kind.values ++ v ∷ values_of own kinds args) (sym (made.value own are))
          ∙ sym (append_assoc c.loop-kind.values (value ∷ []) (values_of own kinds args))
          ∙ ap (λ vs. vs ++ values_of own kinds args) (sym pushed),
      subst AreWords (sym pushed) (words_more c.loop-kind.values value c.loop-kind.invariant.1 made.words),
    )

pub returns-clause-values : goal.returns-clause-values
returns-clause-values c = λ own are.
    let kinds = iter_rest c.loop-kind.kind-iterator.a in
    let args = iter_rest c.loop-kind.kind-iterator.b in
    let ends : (length kinds ≡ 0) ⊎ (length args ≡ 0) = elim c.in-None.ensures.steps [ inl w ↦ inl w.1.0 | inr w ↦ inr w.1.0 ] in
    sym (c.loop-kind.invariant.0 own are ∙ ap (λ more. c.loop-kind.values ++ more) (no_more_values own kinds args ends) ∙ append-nil c.loop-kind.values)

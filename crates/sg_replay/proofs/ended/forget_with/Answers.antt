-- An id without children ends alone.
use Rattle.std.proofs.Common.{◌≡◌, ◌∙◌, ap, cond, false, true, sym}
use Rattle.sg_facts.specs.Inside.Rows.{has_child}
use Rattle.sg_name.specs.declared.named.Named.TheVariants.{Unnamed}
use Rattle.sg_name.specs.Names.{named_at}
use Rattle.sg_replay.proofs.Committed.{alone, itself_goes, none_goes}
use Rattle.sg_replay.proofs.ended.forget_with.Goals as goal
use Rattle.sg_replay.proofs.ended.forget_with.Goals.{else-subtree-via-then-subtree+else-has_children, else-subtree-via-else-subtree}

pub returns-then-is_tracked-clause-names : goal.returns-then-is_tracked-clause-names
returns-then-is_tracked-clause-names c = λ id.
    let rows = c.args.rows.now.rows in
    let named = named_at c.args.names.now.known id in
    let none : c.args.subtree ≡ true → has_child rows c.args.gone ≡ false = λ is. elim c.else-subtree.branch [
      | else-subtree-via-then-subtree+else-has_children w ↦ sym w.has_children.ensures ∙ w.if-has_children.false
      | else-subtree-via-else-subtree w ↦ absurd (let wrong : true ≡ false = sym is ∙ w.if-subtree.false in cc wrong)
    ] in
    c.drop_id.ensures.names id
    ∙ itself_goes rows c.args.gone id named (sym c.is_tracked.ensures ∙ c.if-is_tracked.true)
    ∙ ap (λ b. cond b Unnamed named) (alone rows c.args.gone c.args.subtree none id)

pub returns-else-is_tracked-clause-names : goal.returns-else-is_tracked-clause-names
returns-else-is_tracked-clause-names c = λ id.
    let rows = c.args.rows.now.rows in
    let named = named_at c.args.names.now.known id in
    let none : c.args.subtree ≡ true → has_child rows c.args.gone ≡ false = λ is. elim c.else-subtree.branch [
      | else-subtree-via-then-subtree+else-has_children w ↦ sym w.has_children.ensures ∙ w.if-has_children.false
      | else-subtree-via-else-subtree w ↦ absurd (let wrong : true ≡ false = sym is ∙ w.if-subtree.false in cc wrong)
    ] in
    none_goes rows c.args.gone id named (sym c.is_tracked.ensures ∙ c.if-is_tracked.false)
    ∙ ap (λ b. cond b Unnamed named) (alone rows c.args.gone c.args.subtree none id)

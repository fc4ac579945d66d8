-- The row is made of what the interface says of its function.
use Rattle.std.proofs.Common.{◌≡◌, ◌∙◌, ap, subst, sym, cond, map}
use Rattle.std.specs.Prelude.{if◌then◌else◌}
use Rattle.sg_facts.specs.Facts.{fun_at, fun_of_shape, takes_parent}
use Rattle.sg_facts.specs.Inside.Rows.{left_by}
use Rattle.sg_facts.specs.Fields.{empty_field}
use Rattle.sg_facts.specs.Track.{fields_after}
use Rattle.sg_track.specs.Drafts.{EachNew, IsValue, empty_shape}
use Rattle.sg_track.proofs.DraftLists.{empty_fields}
use Rattle.sg_track.proofs.make.made_row.Goals as goal
use Rattle.sg_track.proofs.make.made_row.Goals.{then-takes_parent, else-takes_parent}

pub made_fields-fields-requires-clause-values : goal.made_fields-fields-requires-clause-values
made_fields-fields-requires-clause-values c =
    let begun = sym (empty_fields c.interface.inside.shape.fields.now) ∙ ap (λ i. map empty_field i.facts.fields) c.interface.view_is in
    subst (λ fields. EachNew IsValue c.args.call.now c.args.good.now (fun_of_shape c.fun-fun.result).effects fields) (sym begun)
    (subst (λ f. EachNew IsValue c.args.call.now c.args.good.now f.effects (map empty_field c.args.interface.now.facts.fields)) (sym c.fun-fun.ensures) c.requires.values)

pub returns : goal.returns
returns c =
    let call = c.args.call.now in
    let f = fun_at c.args.interface.now.facts.funs call.fun in
    let begun = sym (empty_fields c.interface.inside.shape.fields.now) ∙ ap (λ i. map empty_field i.facts.fields) c.interface.view_is in
    let fields_is = c.made_fields-fields.ensures
    ∙ ap (λ g. fields_after call c.args.good.now g.effects (map empty_shape c.interface.inside.shape.fields.now)) c.fun-fun.ensures
    ∙ ap (fields_after call c.args.good.now f.effects) begun in
    let state_is = c.state_after.ensures ∙ ap (λ g. left_by g.leaves call.fun call.fun) c.fun-fun.ensures in
    let parent_is : c.if-takes_parent.parent ≡ (if takes_parent f then call.desc else 0) = elim c.if-takes_parent.branch [
      | then-takes_parent w ↦ w.parent-is ∙ ap (λ b. cond b call.desc 0) (sym w.if-takes_parent.true ∙ c.takes_parent.ensures ∙ ap takes_parent c.fun-fun.ensures)
      | else-takes_parent w ↦ w.parent-is ∙ ap (λ b. cond b call.desc 0) (sym w.if-takes_parent.false ∙ c.takes_parent.ensures ∙ ap takes_parent c.fun-fun.ensures)
    ] in
    cc (fields_is, state_is, parent_is)

-- The record that is kept whole is read, and the others as before.
use Rattle.std.proofs.Common.{◌≡◌, [], ◌∷◌, ◌++◌, length, ◌∙◌, ap}
use Rattle.sg_base.proofs.ReadBack.{whole_read, whole_there}
use Rattle.sg_base.specs.Records.{Whole}
use Rattle.sg_base.proofs.records.Records.add_whole.Goals as goal

pub invariant_of-self : goal.invariant_of-self
invariant_of-self g c =
    let place : c.whole-head.result.place ≡ length c.self.inside.whole.items = c.whole-head.ensures.place ∙ ap length c.as_slice.ensures.value in
    whole_there c.self.inside.words.items c.self.inside.whole.items c.push_reserved.new.self.items c.self.inside.heads.items c.push_reserved-2.new.self.items c.whole-head.result c.args.whole
    c.push_reserved.ensures.items c.push_reserved-2.ensures.items c.whole-head.ensures.form place c.self.invariant

pub returns-clause-items : goal.returns-clause-items
returns-clause-items g c =
    let place : c.whole-head.result.place ≡ length c.self.inside.whole.items = c.whole-head.ensures.place ∙ ap length c.as_slice.ensures.value in
    whole_read c.self.inside.words.items c.self.inside.whole.items c.push_reserved.new.self.items c.self.inside.heads.items c.push_reserved-2.new.self.items c.whole-head.result c.args.whole
    c.push_reserved.ensures.items c.push_reserved-2.ensures.items c.whole-head.ensures.form place c.self.invariant
    ∙ ap (λ v. v.items ++ Whole c.args.whole ∷ []) c.self.view_is

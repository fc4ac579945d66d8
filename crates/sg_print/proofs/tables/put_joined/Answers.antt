-- The first name, and then each after a comma.
use Rattle.std.proofs.Common.{◌++◌, codes, ◌∙◌, ap}
use Rattle.std.specs.List.{flat_map}
use Rattle.std.proofs.lemmas.List.{take_all}
use Rattle.sg_print.proofs.Numbers.{joined}
use Rattle.sg_print.proofs.tables.put_joined.Goals as goal

pub returns : goal.returns
returns c = joined c.in-Some.first.now c.in-Some.more.now c.args.names.now c.args.out.now c.loop-name.out c.in-Some.ensures.cases.0
    (c.loop-name.invariant ∙ ap (λ l. c.extend_from_slice.new.self ++ flat_map (λ n. codes "," ++ n.now) l) (take_all c.loop-name.name-index c.in-Some.more.now c.loop-name-test.false)
    ∙ ap (λ l. l ++ flat_map (λ n. codes "," ++ n.now) c.in-Some.more.now) c.in_ok-extend_from_slice.ensures.ok)

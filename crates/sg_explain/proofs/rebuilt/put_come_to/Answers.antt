-- The functions are those of these numbers.
use Rattle.std.proofs.Common.{ap, map}
use Rattle.sg_input.specs.sg_facts.Facts.{Fun}
use Rattle.sg_explain.specs.Inside.Pieces.{fields_words}
use Rattle.sg_explain.proofs.Telling.{come_to}
use Rattle.sg_explain.proofs.rebuilt.put_come_to.Goals as goal

pub returns : goal.returns
returns c =
    come_to c.put-2.result c.fun.result.name.now _ c.fun-2.result.name.now _ (fields_words (map (λ f. record { name = f.name.now; text = f.text }) c.args.shape.now.fields.now) c.args.mask)
    c.args.out.now c.put.new.out c.put_set.new.out c.put-2.new.out (ap (λ (f : Fun). f.name) c.fun.ensures) (ap (λ (f : Fun). f.name) c.fun-2.ensures) c.in_ok-put.ensures c.in_ok-put_set.ensures
    c.put-2.ensures

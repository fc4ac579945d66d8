-- A text is shown.
use Rattle.std.proofs.lemmas.Result.{on_ok_weaker}
use Rattle.sg_draw.proofs.Documents.{draws_words}
use Rattle.sg_draw.proofs.svg.push_words.Goals as goal

pub returns : goal.returns
returns c = on_ok_weaker _ (draws_words c.args.out.now _ c.hand_class.result c.args.x c.args.y c.args.text.now c.hand_class.ensures) c.write_words.ensures

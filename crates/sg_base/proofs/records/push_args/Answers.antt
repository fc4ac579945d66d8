-- Words are the words of the values that they are.
use Rattle.std.proofs.Common.{◌∙◌, ◌++◌, ap, map, sym}
use Rattle.sg_base.specs.Records.{word_of}
use Rattle.sg_base.proofs.SameParts.{word_back}
use Rattle.sg_base.proofs.records.push_args.Goals as goal

pub returns-in-Words-clause-items : goal.returns-in-Words-clause-items
returns-in-Words-clause-items c =
    let words = c.in-Words.words.now in
    c.push_words.ensures.items ∙ ap (λ l. c.args.list.now.items ++ l) (sym (word_back words) ∙ ap (map word_of) c.in-Words.ensures)

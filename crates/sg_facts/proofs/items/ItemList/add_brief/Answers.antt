-- The item that is kept in brief is read as it was.
use Rattle.std.proofs.Common.{[], ◌∷◌, ◌++◌, map, ◌∙◌, ap}
use Rattle.sg_facts.specs.Inside.Items.{item_of}
use Rattle.sg_facts.specs.Lent.{item_asked}
use Rattle.sg_base.specs.Records.{InBrief, word_of}
use Rattle.sg_facts.proofs.BriefItems.{item_added, item_back}
use Rattle.sg_facts.proofs.items.ItemList.add_brief.Goals as goal

pub returns-clause-items : goal.returns-clause-items
returns-clause-items c =
    let brief = c.args.brief.now in
    let item = item_asked c.args.asking.now in
    let read = ap (λ words. item_of (InBrief brief (map word_of item.shown.args) words)) c.reply_words.ensures ∙ item_back brief item c.requires.brief in
    item_added c.self.inside.records.items c.add_brief.new.self.items (InBrief brief (map word_of item.shown.args) c.reply_words.result.now) item c.add_brief.ensures.items read
    ∙ ap (λ v. v.items ++ item ∷ []) c.self.view_is

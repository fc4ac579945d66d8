-- The entry that is kept in brief is read as it was.
use Rattle.std.proofs.Common.{[], ◌∷◌, ◌++◌, map, ◌∙◌, ap}
use Rattle.sg_facts.specs.declared.entry.Entry.{Entry}
use Rattle.sg_facts.specs.sg_base.Records.{InBrief, word_of}
use Rattle.sg_hist.specs.Inside.Entries.{entry_of}
use Rattle.sg_hist.proofs.BriefEntries.{entry_added, entry_back}
use Rattle.sg_hist.proofs.history.History.add_brief.Goals as goal

pub returns-clause-items : goal.returns-clause-items
returns-clause-items c =
    let brief = c.args.brief.now in
    let entry : Entry = record { call = c.args.call.now; reply = c.args.reply.now } in
    let read = ap (λ words. entry_of (InBrief brief (map word_of entry.call.args) words)) c.reply_words.ensures ∙ entry_back brief entry c.requires.brief in
    entry_added c.self.inside.records.items c.add_brief.new.self.items (InBrief brief (map word_of entry.call.args) c.reply_words.result.now) entry c.add_brief.ensures.items read
    ∙ ap (λ v. v.items ++ entry ∷ []) c.self.view_is

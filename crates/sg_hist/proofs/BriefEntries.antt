-- An entry that is kept in brief is read as it was.
use Rattle.std.proofs.Common.{◌≡◌, List, [], ◌∷◌, ◌++◌, map, ◌∙◌, ap}
use Rattle.std.proofs.lemmas.List.{map-append}
use Rattle.sg_facts.specs.declared.entry.Entry.{Entry}
use Rattle.sg_facts.specs.sg_base.declared.brief.Brief.{Brief}
use Rattle.sg_facts.specs.sg_base.Records.{Record, InBrief, word_of, words_of}
use Rattle.sg_hist.specs.Inside.Entries.{IsBriefEntry, entry_of}

-- an entry in brief
pub entry_back : (brief : Brief) (entry : Entry) → IsBriefEntry brief entry → entry_of (InBrief brief (map word_of entry.call.args) (words_of entry.reply)) ≡ entry
entry_back brief entry is =
    ap (λ c. record (entry_of (InBrief brief (map word_of entry.call.args) (words_of entry.reply))) { call = c }) is.shown
    ∙ ap (λ r. record entry { reply = r }) is.reply

-- a record more is an entry more
pub entry_added : (old new : List (Record Entry)) (more : Record Entry) (entry : Entry) → new ≡ old ++ more ∷ [] → entry_of more ≡ entry → map entry_of new ≡ map entry_of old ++ entry ∷ []
entry_added old new more entry is same = ap (map entry_of) is ∙ map-append entry_of old (more ∷ []) ∙ ap (λ e. map entry_of old ++ e ∷ []) same

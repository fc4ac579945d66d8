-- How an entry is kept in few bytes.
use Rattle.std.specs.Prelude.{◌≡◌, ◌≤◌, length, map}
use Rattle.sg_facts.specs.declared.entry.Entry.{Entry}
use Rattle.sg_facts.specs.sg_base.declared.brief.Brief.{Brief}
use Rattle.sg_facts.specs.sg_base.Records.{IsBriefCall, Record, InBrief, Whole, call_of, most_reply_words, reply_of, word_of, words_of}

-- the entry of a record
abbrev pub entry_of : Record Entry → Entry
entry_of (InBrief brief args words) = record { call = call_of brief args; reply = reply_of brief.gave words }
entry_of (Whole entry) = entry

-- this is an entry, in brief
pub record IsBriefEntry (brief : Brief) (entry : Entry) : Type 0 where
  pub call : IsBriefCall entry.call
  pub few : length (words_of entry.reply) ≤ most_reply_words
  pub shown : call_of brief (map word_of entry.call.args) ≡ entry.call
  pub reply : reply_of brief.gave (words_of entry.reply) ≡ entry.reply

-- What a record is, and which fit the few bytes.
use Rattle.std.specs.Prelude.{ℕ, ◌≡◌, ◌≤◌, Bool, true, false, List, [], length, map}
use Rattle.sg_base.specs.declared.call.Call.{Call}
use Rattle.sg_base.specs.declared.reply.Code.TheVariants.{NoDesc}
use Rattle.sg_base.specs.declared.reply.Reply.{Reply}
use Rattle.sg_base.specs.declared.reply.Reply.TheVariants.{Ok, Refused}
use Rattle.sg_base.specs.declared.value.Value.{Value}
use Rattle.sg_base.specs.declared.value.Value.TheVariants.{Word, Text}
use Rattle.sg_base.specs.declared.brief.Brief.{Brief}
use Rattle.sg_base.specs.declared.brief.Gave.{Gave}
use Rattle.sg_base.specs.declared.brief.Gave.TheVariants.{Good, Refused as GaveRefused, Blocks, Stopped, NoMemory}

-- a call in brief, with the words of its arguments and of its reply; or anything else, whole
pub data Record (W : Type 0) : Type 0 where
  InBrief : Brief → List ℕ → List ℕ → Record W
  Whole : W → Record W

-- the greatest number of argument words of a call in brief
abbrev pub most_args : ℕ
most_args = 4

-- the greatest number of words of its reply
abbrev pub most_reply_words : ℕ
most_reply_words = 4

-- the number that a value is; a text is none
abbrev pub word_of : Value → ℕ
word_of (Word n) = n
word_of (Text bytes) = 0

-- the call of a record in brief, with the words of its arguments
abbrev pub call_of : Brief → List ℕ → Call
call_of brief args = record { client = brief.client; seq = brief.seq; fun = brief.fun; desc = brief.desc; args = map Word args }

-- the reply that was given, with its words. What gave none is read as a refusal
abbrev pub reply_of : Gave → List ℕ → Reply
reply_of (Good desc) words = Ok (record { desc = desc; words = words; bytes = [] })
reply_of (GaveRefused code) words = Refused code
reply_of Blocks words = Refused NoDesc
reply_of Stopped words = Refused NoDesc
reply_of NoMemory words = Refused NoDesc

-- whether what was given is a reply
abbrev pub is_reply : Gave → Bool
is_reply (Good desc) = true
is_reply (GaveRefused code) = true
is_reply Blocks = false
is_reply Stopped = false
is_reply NoMemory = false

-- the words of a reply
abbrev pub words_of : Reply → List ℕ
words_of (Ok good) = good.words
words_of (Refused code) = []

-- a call can be kept in brief: its arguments are few, and all of them words
pub record IsBriefCall (call : Call) : Type 0 where
  pub few : length call.args ≤ most_args
  pub words : map Word (map word_of call.args) ≡ call.args

-- a reply can be kept in brief: it has no byte, and few words
abbrev pub FitsBrief : Reply → Type 0
FitsBrief (Ok good) = (good.bytes ≡ []) × (length good.words ≤ most_reply_words)
FitsBrief (Refused code) = Unit {0}

-- this is what a reply gave, in brief
pub record IsBriefReply (gave : Gave) (reply : Reply) : Type 0 where
  pub few : length (words_of reply) ≤ most_reply_words
  pub replies : is_reply gave ≡ true
  pub same : reply_of gave (words_of reply) ≡ reply

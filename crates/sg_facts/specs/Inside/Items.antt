-- How an item is kept in few bytes.
use Rattle.std.specs.Prelude.{ℕ, ◌≡◌, ◌≤◌, List, [], None, length, map}
use Rattle.sg_facts.specs.Loads.{load_item}
use Rattle.sg_facts.specs.declared.kept.Kept.{Kept}
use Rattle.sg_facts.specs.declared.kept.Kept.TheVariants.{Item as KeptItem, Load as KeptLoad}
use Rattle.sg_facts.specs.declared.outcome.Outcome.{Outcome}
use Rattle.sg_facts.specs.declared.outcome.Outcome.TheVariants.{Replied, Blocks, Stopped, NoMemory}
use Rattle.sg_facts.specs.declared.trace.Item.{Item}
use Rattle.sg_facts.specs.declared.trace.Tag.{Tag}
use Rattle.sg_facts.specs.declared.trace.Tag.TheVariants.{Walk, Client}
use Rattle.sg_base.specs.declared.brief.Brief.{Brief}
use Rattle.sg_base.specs.declared.brief.Gave.{Gave}
use Rattle.sg_base.specs.declared.brief.Gave.TheVariants.{Good as GaveGood, Refused as GaveRefused, Blocks as GaveBlocks, Stopped as GaveStopped, NoMemory as GaveNoMemory}
use Rattle.sg_base.specs.declared.brief.Why.{Why}
use Rattle.sg_base.specs.declared.brief.Why.TheVariants.{Own as WhyOwn, Walk as WhyWalk}
use Rattle.sg_base.specs.Records.{IsBriefCall, Record, InBrief, Whole, call_of, most_reply_words, reply_of, word_of, words_of}

-- the tag, of a call of this client and this number
abbrev pub tag_of : Why → ℕ → ℕ → Tag
tag_of WhyOwn client seq = Client client seq
tag_of (WhyWalk id k turn) client seq = Walk id k turn

-- the outcome, with the words of the reply
abbrev pub outcome_of : Gave → List ℕ → Outcome
outcome_of (GaveGood desc) words = Replied (reply_of (GaveGood desc) words) None
outcome_of (GaveRefused code) words = Replied (reply_of (GaveRefused code) words) None
outcome_of GaveBlocks words = Blocks
outcome_of GaveStopped words = Stopped
outcome_of GaveNoMemory words = NoMemory

-- the item that is kept as it was added, or as a load
abbrev pub kept_item : Kept → Item
kept_item (KeptItem item) = item
kept_item (KeptLoad load) = load_item load

-- the item of a record
abbrev pub item_of : Record Kept → Item
item_of (InBrief brief args words) = record {
  tag = tag_of brief.why brief.client brief.seq;
  shown = call_of brief args;
  real = brief.real;
  points = brief.points;
  outcome = outcome_of brief.gave words;
}
item_of (Whole kept) = kept_item kept

-- the words of a reply that was given
abbrev pub reply_words : Outcome → List ℕ
reply_words (Replied reply patch) = words_of reply
reply_words Blocks = []
reply_words Stopped = []
reply_words NoMemory = []

-- this is an outcome, in brief
pub record IsBriefOutcome (gave : Gave) (outcome : Outcome) : Type 0 where
  pub few : length (reply_words outcome) ≤ most_reply_words
  pub same : outcome_of gave (reply_words outcome) ≡ outcome

-- this is an item, in brief
pub record IsBriefItem (brief : Brief) (item : Item) : Type 0 where
  pub call : IsBriefCall item.shown
  pub few : length (reply_words item.outcome) ≤ most_reply_words
  pub points : brief.points ≡ item.points
  pub real : brief.real ≡ item.real
  pub shown : call_of brief (map word_of item.shown.args) ≡ item.shown
  pub tag : tag_of brief.why brief.client brief.seq ≡ item.tag
  pub outcome : outcome_of brief.gave (reply_words item.outcome) ≡ item.outcome

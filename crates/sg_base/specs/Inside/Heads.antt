-- How a record is read from its head, from the words of all records in brief, and from the records that are kept whole.
use Rattle.std.specs.Prelude.{ℕ, ◌+◌, ◌<◌, ◌≤◌, ◌%◌, ◌==◌, if◌then◌else◌, List, [], ◌∷◌, ◌++◌, None, Some, drop, map, slice_get, slice_index, take}
use Rattle.std.specs.declared.option.Option.{Option}
use Rattle.sg_base.specs.declared.brief.Brief.{Brief}
use Rattle.sg_base.specs.declared.brief.Gave.{Gave}
use Rattle.sg_base.specs.declared.brief.Gave.TheVariants.{Good, Refused, Blocks, Stopped, NoMemory}
use Rattle.sg_base.specs.declared.brief.Why.{Why}
use Rattle.sg_base.specs.declared.brief.Why.TheVariants.{Own, Walk}
use Rattle.sg_base.specs.declared.head.Form.{Form}
use Rattle.sg_base.specs.declared.head.Form.TheVariants.{Whole as IsWhole, Own as IsOwn, Walk as IsWalk}
use Rattle.sg_base.specs.declared.head.GaveForm.{GaveForm}
use Rattle.sg_base.specs.declared.head.GaveForm.TheVariants.{Good as IsGood, Named as IsNamed, Refused as IsRefused, Blocks as IsBlocks, Stopped as IsStopped, NoMemory as IsNoMemory}
use Rattle.sg_base.specs.declared.head.Head.{Head}
use Rattle.sg_base.specs.Records.{Record, InBrief, Whole}

-- so many elements from a place on
abbrev pub part : List ℕ → ℕ → ℕ → List ℕ
part list from count = take count (drop from list)

-- ---- what stands among the words beside arguments and reply

-- how many words are the id and the client of a walk's call
abbrev pub walk_count : Form → ℕ
walk_count IsWhole = 0
walk_count IsOwn = 0
walk_count (IsWalk k) = 2

-- how many words are these, and a descriptor that was given
abbrev pub extra_count : Form → GaveForm → ℕ
extra_count form IsNamed = walk_count form + 1
extra_count form IsGood = walk_count form
extra_count form (IsRefused code) = walk_count form
extra_count form IsBlocks = walk_count form
extra_count form IsStopped = walk_count form
extra_count form IsNoMemory = walk_count form

-- why the call was made
abbrev pub why_in : Form → List ℕ → Why
why_in IsWhole extra = Own
why_in IsOwn extra = Own
why_in (IsWalk k) extra = Walk (slice_index extra 0) k (slice_index extra 1 % 256)

-- what it gave
abbrev pub gave_in : GaveForm → ℕ → Gave
gave_in IsGood desc = Good 0
gave_in IsNamed desc = Good desc
gave_in (IsRefused code) desc = Refused code
gave_in IsBlocks desc = Blocks
gave_in IsStopped desc = Stopped
gave_in IsNoMemory desc = NoMemory

-- ---- a record of a head

-- the words of its arguments
abbrev pub args_in : List ℕ → Head → List ℕ
args_in words h = part words h.place h.args

-- the words of its reply
abbrev pub words_in : List ℕ → Head → List ℕ
words_in words h = part words (h.place + h.args) h.words

-- the words after these
abbrev pub extra_in : List ℕ → Head → List ℕ
extra_in words h = part words (h.place + h.args + h.words) (extra_count h.form h.gave)

-- the call in brief, with the words after those of arguments and reply
abbrev pub brief_with : Head → List ℕ → Brief
brief_with h extra = record {
  points = h.points;
  real = h.real;
  desc = h.desc;
  client = h.client;
  seq = h.seq;
  fun = h.fun;
  why = why_in h.form extra;
  gave = gave_in h.gave (slice_index extra (walk_count h.form));
}

-- the call in brief
abbrev pub brief_at : List ℕ → Head → Brief
brief_at words h = brief_with h (extra_in words h)

-- the record that is kept whole, where there is one
abbrev pub whole_or : {W : Type 0} → Option W → Record W → Record W
whole_or None other = other
whole_or (Some whole) other = Whole whole

-- the record, by its form
abbrev pub record_of : {W : Type 0} → Form → Option W → Record W → Record W
record_of IsWhole whole other = whole_or whole other
record_of IsOwn whole other = other
record_of (IsWalk k) whole other = other

-- the record of a head
abbrev pub record_at : {W : Type 0} → List ℕ → List W → Head → Record W
record_at words whole h = record_of h.form (slice_get whole h.place) (InBrief (brief_at words h) (args_in words h) (words_in words h))

-- the records of heads
abbrev pub records_of : {W : Type 0} → List ℕ → List W → List Head → List (Record W)
records_of words whole heads = map (record_at words whole) heads

-- a head's words, or its record that is kept whole, are there
abbrev pub IsThere : ℕ → ℕ → Head → Form → Type 0
IsThere words whole h IsWhole = h.place < whole
IsThere words whole h IsOwn = h.place + h.args + h.words + extra_count IsOwn h.gave ≤ words
IsThere words whole h (IsWalk k) = h.place + h.args + h.words + extra_count (IsWalk k) h.gave ≤ words

-- those of all heads are
abbrev pub AreThere : ℕ → ℕ → List Head → Type 0
AreThere words whole [] = Unit {0}
AreThere words whole (h ∷ heads) = IsThere words whole h h.form × AreThere words whole heads

-- ---- the head of a record

-- how a call in brief is kept
abbrev pub form_of : Why → Form
form_of Own = IsOwn
form_of (Walk id k turn) = IsWalk k

-- what it gave, without its descriptor
abbrev pub gave_form_of : Gave → GaveForm
gave_form_of (Good desc) = if desc == 0 then IsGood else IsNamed
gave_form_of (Refused code) = IsRefused code
gave_form_of Blocks = IsBlocks
gave_form_of Stopped = IsStopped
gave_form_of NoMemory = IsNoMemory

-- its head, at a place, of so many words of arguments and of its reply
abbrev pub head_of : Brief → ℕ → ℕ → ℕ → Head
head_of brief place args words = record {
  points = brief.points;
  real = brief.real;
  desc = brief.desc;
  place = place;
  seq = brief.seq;
  client = brief.client;
  fun = brief.fun;
  args = args;
  words = words;
  form = form_of brief.why;
  gave = gave_form_of brief.gave;
}

-- the id and the client of a walk's call
abbrev pub walk_words : Why → List ℕ
walk_words Own = []
walk_words (Walk id k turn) = id ∷ turn ∷ []

-- a descriptor that was given
abbrev pub desc_words : Gave → List ℕ
desc_words (Good desc) = if desc == 0 then [] else desc ∷ []
desc_words (Refused code) = []
desc_words Blocks = []
desc_words Stopped = []
desc_words NoMemory = []

-- the client of a walk's call is a number of 8 bits
abbrev pub TurnFits : Why → Type 0
TurnFits Own = Unit {0}
TurnFits (Walk id k turn) = turn < 256

-- the words after those of arguments and reply
abbrev pub extra_of : Brief → List ℕ
extra_of brief = walk_words brief.why ++ desc_words brief.gave

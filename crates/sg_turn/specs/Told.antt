-- What a log tells: how a client stands, the entries, and the withdrawn calls.
use Rattle.std.specs.Prelude.{◌≡◌, ℕ, ◌+◌, ◌⊎◌, List, [], ◌∷◌, length}
use Rattle.std.specs.List.{flat_map}
use Rattle.sg_facts.specs.sg_base.Lists.{Each}
use Rattle.sg_facts.specs.sg_base.declared.call.Call.{Call}
use Rattle.sg_facts.specs.sg_base.declared.reply.Reply.{Reply}
use Rattle.sg_facts.specs.sg_base.declared.value.Value.{Value}
use Rattle.sg_facts.specs.declared.entry.Entry.{Entry}
use Rattle.sg_turn.specs.Logs.{marks_of}
use Rattle.sg_turn.specs.declared.log.LogMark.{LogMark}
use Rattle.sg_turn.specs.declared.log.LogMarkKind.{LogMarkKind}
use Rattle.sg_turn.specs.declared.log.LogMarkKind.TheVariants.{Offer, Entry as Entered, Answer, Withdraw, Leave}

-- the mark of a client
abbrev pub mark_by : ℕ → LogMarkKind → LogMark
mark_by client kind = record { client = client; kind = kind }

-- ---- entries

-- the entry that a mark tells
abbrev pub entry_of : LogMarkKind → List Entry
entry_of (Entered call reply) = record { call = call; reply = reply } ∷ []
entry_of (Offer call) = []
entry_of Answer = []
entry_of (Withdraw call phases at) = []
entry_of Leave = []

-- the entries that a log tells, in their order
abbrev pub entries_in : List LogMark → List Entry
entries_in log = flat_map (λ m. entry_of m.kind) log

-- those of a client
abbrev pub entries_by : ℕ → List LogMark → List Entry
entries_by client log = entries_in (marks_of client log)

-- the call that a client makes next, by this log
abbrev pub next_call : ℕ → List LogMark → ℕ → ℕ → List Value → Call
next_call client log fun desc args = record { client = client; seq = length (entries_by client log) + 1; fun = fun; desc = desc; args = args }

-- ---- withdrawn calls

-- a call that was withdrawn, with the phases of all clients just before, as numbers, and the number of entries that there were
pub record GivenUp : Type 0 where
  pub call : Call
  pub phases : List ℕ
  pub at : ℕ

-- the withdrawn call that a mark tells
abbrev pub withdrawal_of : LogMarkKind → List GivenUp
withdrawal_of (Withdraw call phases at) = record { call = call; phases = phases; at = at } ∷ []
withdrawal_of (Offer call) = []
withdrawal_of (Entered call reply) = []
withdrawal_of Answer = []
withdrawal_of Leave = []

-- the withdrawn calls that a log tells, in their order
abbrev pub withdrawals_in : List LogMark → List GivenUp
withdrawals_in log = flat_map (λ m. withdrawal_of m.kind) log

-- the number of the phase of a client whose call has to wait, and of one that has left
abbrev pub blocked_number : ℕ
blocked_number = 4

abbrev pub left_number : ℕ
left_number = 5

-- each client waits or has left
abbrev pub AllRest : List ℕ → Type 0
AllRest phases = Each (λ p. (p ≡ blocked_number) ⊎ (p ≡ left_number)) phases

-- ---- how a client stands

-- it has no call under way; it has left; its call has no reply yet; or its call is an entry, whose reply is to be handed over
pub data Standing : Type 0 where
  idle : Standing
  left : Standing
  asking : Call → Standing
  has_reply : Call → Reply → Standing

-- how it stands by its last mark
abbrev pub after_mark : LogMarkKind → Standing
after_mark (Offer call) = asking call
after_mark (Entered call reply) = has_reply call reply
after_mark Answer = idle
after_mark (Withdraw call phases at) = idle
after_mark Leave = left

-- how a client stands that stood so, after these marks of its own
abbrev pub standing_after : Standing → List LogMark → Standing
standing_after s [] = s
standing_after s (m ∷ marks) = standing_after (after_mark m.kind) marks

-- how a client stands in a log
abbrev pub standing_in : ℕ → List LogMark → Standing
standing_in client log = standing_after idle (marks_of client log)

-- it has no call under way
abbrev pub HasNoCall : Standing → Type 0
HasNoCall idle = Unit {0}
HasNoCall left = Unit {0}
HasNoCall (asking call) = ⊥
HasNoCall (has_reply call reply) = ⊥

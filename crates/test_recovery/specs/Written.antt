-- Runs written out: short words for calls, replies and items.
use Rattle.std.specs.Prelude.{ℕ, List, [], None, Some}
use Rattle.test_histories.specs.sg_facts.sg_base.declared.value.Value.{Value}
use Rattle.test_histories.specs.sg_facts.sg_base.declared.value.Value.TheVariants.{Word, Text}
use Rattle.std.specs.declared.option.Option.{Option}
use Rattle.test_histories.specs.sg_facts.sg_base.declared.call.Call.{Call}
use Rattle.test_histories.specs.sg_facts.sg_base.declared.reply.Reply.{Reply}
use Rattle.test_histories.specs.sg_facts.declared.outcome.Outcome.{Outcome}
use Rattle.test_histories.specs.sg_facts.declared.outcome.Outcome.TheVariants.{Replied}
use Rattle.test_histories.specs.sg_facts.declared.trace.Item.{Item}
use Rattle.test_histories.specs.sg_facts.declared.trace.Tag.TheVariants.{Walk, Load, Client}
use Rattle.test_histories.specs.sg_facts.Trace.{Boot}

-- a call without arguments: its client, its number among the client's, the function's number, the descriptor or parent
abbrev pub bare_call : ℕ → ℕ → ℕ → ℕ → Call
bare_call client seq fun desc = record { client = client; seq = seq; fun = fun; desc = desc; args = [] }

-- a call with arguments
abbrev pub call_with : ℕ → ℕ → ℕ → ℕ → List Value → Call
call_with client seq fun desc args = record { client = client; seq = seq; fun = fun; desc = desc; args = args }

abbrev pub word : ℕ → Value
word n = Word n

abbrev pub text : List ℕ → Value
text bytes = Text bytes

-- the item of a client's call: under which id of the service, at which point it ended, and how
abbrev pub called : Call → ℕ → ℕ → Outcome → Item
called call real points outcome =
    record { tag = Client call.client call.seq; shown = call; real = real; points = points; outcome = outcome }

-- the item of the k-th call of an id's walk, in a client's turn
abbrev pub walked : ℕ → ℕ → ℕ → Call → ℕ → ℕ → Outcome → Item
walked id k client call real points outcome =
    record { tag = Walk id k client; shown = call; real = real; points = points; outcome = outcome }

-- a reply without bytes written
abbrev pub replied : Reply → Outcome
replied reply = Replied reply None

-- a reply with bytes written into a file from a place on
abbrev pub written : Reply → List ℕ → ℕ → List ℕ → Outcome
written reply key place bytes = Replied reply (Some (record { key = key; from = place; bytes = bytes }))

-- the item of a load, for a client
abbrev pub brought : List ℕ → ℕ → ℕ → Outcome → Item
brought key client points outcome =
    record { tag = Load key client; shown = bare_call client 0 0 0; real = 0; points = points; outcome = outcome }

abbrev pub boot : List Item → Option ℕ → Boot
boot items stop = record { items = items; stop = stop }

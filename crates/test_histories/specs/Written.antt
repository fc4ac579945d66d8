-- Histories written out: short words for calls and replies.
use Rattle.std.specs.Prelude.{ℕ, zero, suc, List, [], ◌∷◌}
use Rattle.sg_facts.specs.sg_base.declared.value.Value.{Value}
use Rattle.sg_facts.specs.sg_base.declared.call.Call.{Call}
use Rattle.sg_facts.specs.sg_base.declared.reply.Code.{Code}
use Rattle.sg_facts.specs.sg_base.declared.reply.Reply.{Reply}
use Rattle.sg_facts.specs.sg_base.declared.reply.Reply.TheVariants.{Ok, Refused}
use Rattle.sg_facts.specs.declared.entry.Entry.{Entry}

-- a call: its client, its number among the client's, the function's number, the descriptor or parent, the arguments
abbrev pub call_of : ℕ → ℕ → ℕ → ℕ → List Value → Call
call_of client seq fun desc args = record { client = client; seq = seq; fun = fun; desc = desc; args = args }

-- an Ok without descriptor, words and bytes
abbrev pub ok : Reply
ok = Ok (record { desc = 0; words = []; bytes = [] })

-- an Ok with a descriptor
abbrev pub ok_at : ℕ → Reply
ok_at desc = Ok (record { desc = desc; words = []; bytes = [] })

-- an Ok with a descriptor, 0 for none, and a word
abbrev pub ok_with : ℕ → ℕ → Reply
ok_with desc word = Ok (record { desc = desc; words = word ∷ []; bytes = [] })

-- an Ok with a word and bytes
abbrev pub ok_bytes : ℕ → List ℕ → Reply
ok_bytes word bytes = Ok (record { desc = 0; words = word ∷ []; bytes = bytes })

-- a refusal
abbrev pub refused : Code → Reply
refused code = Refused code

-- a call with its reply
abbrev pub entry : Call → Reply → Entry
entry call reply = record { call = call; reply = reply }

-- a history with another reply at a place, from 0
abbrev pub with_reply : ℕ → Reply → List Entry → List Entry
with_reply place reply [] = []
with_reply zero reply (e ∷ history) = record e { reply = reply } ∷ history
with_reply (suc place) reply (e ∷ history) = e ∷ with_reply place reply history

-- Legal histories: those of a service that never failed.
use Rattle.std.specs.Prelude.{ℕ, ◌≡◌, List, [], ◌∷◌, ◌++◌, Some}
use Rattle.std.specs.Option.{option_map_or}
use Rattle.std.specs.declared.option.Option.{Option}
use Rattle.sg_base.specs.declared.call.Call.{Call}
use Rattle.sg_base.specs.declared.reply.Reply.{Reply}
use Rattle.sg_base.specs.declared.reply.Reply.TheVariants.{Ok, Refused}
use Rattle.sg_facts.specs.declared.entry.Entry.{Entry}
use Rattle.sg_facts.specs.Interface.{Declared}
use Rattle.sg_facts.specs.Object.{Object, after, object_of}
use Rattle.sg_facts.specs.Guard.{guard}

-- a service's table: what it answers a call at an object, None where the caller has to wait
abbrev pub Table : Type 0
Table = Object → Call → Option Reply

-- an Ok with a descriptor, 0 for none, without words and bytes
abbrev pub done : ℕ → Option Reply
done desc = Some (Ok (record { desc = desc; words = []; bytes = [] }))

-- the guard's refusal where there is one, else the service's answer
abbrev pub answer : Declared → Table → Object → Call → Option Reply
answer i ask o call = option_map_or (λ code. Some (Refused code)) (guard i o call) (ask o call)

-- a history is legal: the reply at each place is the answer at the object of the entries before it
abbrev pub IsLegal : Declared → Table → List Entry → Type 0
IsLegal i ask history = (before : List Entry) (e : Entry) (rest : List Entry) → history ≡ before ++ e ∷ rest
    → answer i ask (object_of i.facts before) e.call ≡ Some e.reply

-- a history from an object on is legal: each reply is the answer at the object that the entries before it lead to
abbrev pub LegalFrom : Declared → Table → Object → List Entry → Type 0
LegalFrom i ask o [] = Unit {0}
LegalFrom i ask o (e ∷ history) = (answer i ask o e.call ≡ Some e.reply) × LegalFrom i ask (after i.facts o e.call e.reply) history

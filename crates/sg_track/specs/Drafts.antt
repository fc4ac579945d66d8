-- Fields of a row before it is made, and the values that effects give.
use Rattle.std.specs.Prelude.{ℕ, ◌^◌, ◌<◌, if◌then◌else◌, List, [], ◌∷◌, length, slice_set}
use Rattle.sg_facts.specs.sg_base.declared.value.Value.{Value}
use Rattle.sg_facts.specs.sg_base.declared.value.Value.TheVariants.{Word, Text}
use Rattle.sg_facts.specs.sg_base.declared.call.Call.{Call}
use Rattle.sg_facts.specs.sg_base.declared.reply.Good.{Good}
use Rattle.sg_facts.specs.declared.shape.Effect.{Effect}
use Rattle.sg_facts.specs.declared.shape.FieldShape.{FieldShape}
use Rattle.sg_facts.specs.Track.{arg_at, effect_of, field_at}
use Rattle.sg_track.specs.declared.draft.Draft.{Draft}
use Rattle.sg_track.specs.declared.draft.Draft.TheVariants.{Number, Blank, Arg}

-- the value of a field before its row is made
abbrev pub drafted : Call → Draft → Value
drafted call (Number n) = Word n
drafted call Blank = Text []
drafted call (Arg k) = arg_at call k

-- 0, or the empty text, as a field is when its row is made
abbrev pub blank_draft : FieldShape → Draft
blank_draft f = if f.text then Blank else Number 0

-- the value of a field when its row is made: 0, or the empty text
abbrev pub empty_shape : FieldShape → Value
empty_shape f = if f.text then Text [] else Word 0

-- a value is a number of its type
abbrev pub IsDraftWord : Value → Type 0
IsDraftWord (Word n) = n < 2 ^ 64
IsDraftWord (Text bytes) = ⊥

-- a value is a number of its type, or a text
abbrev pub IsValue : Value → Type 0
IsValue (Word n) = n < 2 ^ 64
IsValue (Text bytes) = Unit {0}

-- each new value of a field that there is meets a condition, effect by effect
abbrev pub EachNew : (Value → Type 0) → Call → Good → List (ℕ × Effect) → List Value → Type 0
EachNew P call good [] fields = Unit {0}
EachNew P call good (e ∷ es) fields =
    (e.0 < length fields → P (effect_of call good e.1 (field_at fields e.0)))
    × EachNew P call good es (slice_set fields e.0 (effect_of call good e.1 (field_at fields e.0)))

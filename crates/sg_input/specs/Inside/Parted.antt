-- The texts of an input, and an input up to its second text.
use Rattle.std.specs.Prelude.{ℕ, ◌≡◌, ◌≢◌, ◌<◌, ◌⊎◌, false, List, [], ◌++◌, codes, length, map}
use Rattle.sg_facts.specs.Facts.{Facts}
use Rattle.sg_facts.specs.Words.{line_end}
use Rattle.sg_input.specs.declared.dividing.MultiTexts.{MultiTexts}
use Rattle.sg_input.specs.declared.parted.InputParts.{InputParts}
use Rattle.sg_input.specs.declared.parted.InputTexts.{InputTexts}
use Rattle.sg_input.specs.declared.read.Read.{Read}
use Rattle.sg_input.specs.declared.read.Read.TheVariants.{Ready, Refused}
use Rattle.sg_input.specs.Divider.{Divides, IsCut}
use Rattle.sg_input.specs.Inputs.{AreTexts, IsInterface, IsRefusedText, Judging, judged_by, most_interface}
use Rattle.sg_input.specs.Lines.{too_long_line}
use Rattle.sg_input.specs.MultiInputs.{AreMultiTexts, AreParts, are_short}

-- no line of an input is `%%` alone
abbrev pub HasNoDivider : List ℕ → Type 0
HasNoDivider input = (before behind : List ℕ) → Divides input before behind → ⊥

-- an input is divided, and one of the two texts is too long
abbrev pub HasLongText : ℕ → List ℕ → Type 0
HasLongText most input =
    (interface : List ℕ) × (second : List ℕ) × IsCut input interface second × ((most_interface < length interface) ⊎ (most < length second))

-- an interface is refused with this line
abbrev pub IsBadInterface : ℕ → Judging → List ℕ → List ℕ → Type 0
IsBadInterface most judging input line =
    (interface : List ℕ) × (second : List ℕ) × AreTexts most input interface second × IsRefusedText judging interface line

-- this line refuses an input whatever its second text is: it isn't divided, or a text is too long, or the interface is refused
abbrev pub IsRefusedFront : ℕ → Judging → List ℕ → List ℕ → Type 0
IsRefusedFront most judging input line =
    (HasNoDivider input × (line ≡ codes "input refused: NoDivider" ++ line_end))
    ⊎ ((HasLongText most input × (line ≡ too_long_line)) ⊎ IsBadInterface most judging input line)

-- these are the two texts of an input; or this line refuses it whatever they are, since it isn't divided, or a text is too long
abbrev pub AreInputTexts : ℕ → List ℕ → Read InputTexts → Type 0
AreInputTexts most input (Refused line) = (HasNoDivider input × (line ≡ codes "input refused: NoDivider" ++ line_end)) ⊎ (HasLongText most input × (line ≡ too_long_line))
AreInputTexts most input (Ready texts) = AreTexts most input texts.interface.now texts.second.now

-- a line refuses an input whatever its second text is; or its interface is accepted, and this is its second text
abbrev pub AreInputParts : ℕ → List Facts → List ℕ → Read InputParts → Type 0
AreInputParts most services input (Refused line) = IsRefusedFront most (judged_by services) input line
AreInputParts most services input (Ready front) =
    (interface : List ℕ) × AreTexts most input interface front.second.now × IsInterface services interface front.accepted

-- an input for several services is divided, and one of its texts is too long
abbrev pub HasLongPart : List ℕ → Type 0
HasLongPart input = (texts : List (List ℕ)) × (script : List ℕ) × AreParts input texts script × (texts ≢ []) × (are_short texts script ≡ false)

-- these are the texts of an input for several services; or this line refuses it whatever they are, since it isn't divided, or one is too long
abbrev pub AreMultiInputTexts : List ℕ → Read MultiTexts → Type 0
AreMultiInputTexts input (Refused line) = (HasNoDivider input × (line ≡ codes "input refused: NoDivider" ++ line_end)) ⊎ (HasLongPart input × (line ≡ too_long_line))
AreMultiInputTexts input (Ready texts) = AreMultiTexts input (map (λ t. t.now) texts.interfaces.items) texts.script.now

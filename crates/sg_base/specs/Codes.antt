-- How the codes of refusals are written.
use Rattle.std.specs.Prelude.{ℕ, List, codes}
use Rattle.sg_base.specs.declared.reply.Code.{Code}
use Rattle.sg_base.specs.declared.reply.Code.TheVariants.{NoDesc, NoParent, BadState, HasChildren, Full, NotOwner, Held, Occupied, NotFound, Overflow, Gap, TooBig, BadName}

-- the word for a code
abbrev pub code_name : Code → List ℕ
code_name NoDesc = codes "NoDesc"
code_name NoParent = codes "NoParent"
code_name BadState = codes "BadState"
code_name HasChildren = codes "HasChildren"
code_name Full = codes "Full"
code_name NotOwner = codes "NotOwner"
code_name Held = codes "Held"
code_name Occupied = codes "Occupied"
code_name NotFound = codes "NotFound"
code_name Overflow = codes "Overflow"
code_name Gap = codes "Gap"
code_name TooBig = codes "TooBig"
code_name BadName = codes "BadName"

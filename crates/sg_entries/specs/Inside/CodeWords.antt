-- The words for codes, as tests.
use Rattle.std.specs.Prelude.{ℕ, Bool, List, [], ◌∷◌, find, take, length}
use Rattle.std.specs.declared.option.Option.{Option}
use Rattle.std.specs.List.{list_any}
use Rattle.std.specs.Str.{bytes_eq}
use Rattle.sg_facts.specs.sg_base.declared.reply.Code.{Code}
use Rattle.sg_facts.specs.sg_base.declared.reply.Code.TheVariants.{NoDesc, NoParent, BadState, HasChildren, Full, NotOwner, Held, Occupied, NotFound, Overflow, Gap, TooBig, BadName}
use Rattle.sg_facts.specs.sg_base.Codes.{code_name}

-- every code
abbrev pub all_codes : List Code
all_codes = NoDesc ∷ NoParent ∷ BadState ∷ HasChildren ∷ Full ∷ NotOwner ∷ Held ∷ Occupied ∷ NotFound ∷ Overflow ∷ Gap ∷ TooBig ∷ BadName ∷ []

-- the code whose word these bytes are
abbrev pub code_of : List ℕ → Option Code
code_of bytes = find (λ code. bytes_eq bytes (code_name code)) all_codes

-- a word for a code begins with these bytes
abbrev pub begins_code : List ℕ → Bool
begins_code bytes = list_any (λ code. bytes_eq bytes (take (length bytes) (code_name code))) all_codes

-- The place of a token.
use Rattle.std.specs.Prelude.{ℕ, List, None, Some, Ok, Err, slice_get}
use Rattle.sg_explain.specs.sg_input.sg_lex.Tokens.{Answer}

-- the place of the token that comes after so many answers; 0 where none does
abbrev pub place_after : List Answer → ℕ → ℕ
place_after answers passed = elim (slice_get answers passed) [ None ↦ 0 | Some answer ↦ elim answer [ Ok token ↦ token.at | Err fault ↦ 0 ] ]

-- The words that versions of the language keep for themselves.
use Rattle.std.specs.Prelude.{ℕ, Bool, if◌then◌else◌, List, [], ◌∷◌, codes, nat_eq}
use Rattle.std.specs.List.{list_any}
use Rattle.std.specs.Cmp.Lexicographic.{pointwise}
use Rattle.sg_lex.specs.declared.token.TokenKind.{TokenKind}
use Rattle.sg_lex.specs.declared.token.TokenKind.TheVariants.{Word, Number, Text, Mark}
use Rattle.sg_lex.specs.Lexeme.{Lexeme}
use Rattle.sg_rules.specs.declared.version.Newer.{Newer}
use Rattle.sg_rules.specs.declared.version.Newer.TheVariants.{Second, Third}

-- the words that a version keeps for itself, beside those that the version before it keeps
abbrev pub kept_words : Newer → List (List ℕ)
kept_words Second = codes "desc_data_retval_sub" ∷ []
kept_words Third = codes "sm_external" ∷ codes "desc_data_most" ∷ codes "desc_data_unique" ∷ codes "sm_answer" ∷ []

-- whether a version keeps a word for itself
abbrev pub is_kept : Newer → List ℕ → Bool
is_kept version word = list_any (pointwise nat_eq word) (kept_words version)

-- a token as a text of a version has it: there a word that the version keeps is a mark, which is a word in a text of an earlier version; what
-- is seen so twice is as it was
abbrev pub seen : Newer → Lexeme → Lexeme
seen version token =
    let turned : TokenKind = elim token.kind [ Word ↦ Mark | Number ↦ Number | Text ↦ Text | Mark ↦ Word ] in
    record token { kind = if is_kept version token.bytes then turned else token.kind }

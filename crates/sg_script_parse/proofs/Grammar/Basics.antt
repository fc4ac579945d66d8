-- Tests of tokens and what they say.
use Rattle.std.proofs.Common.{◌≡◌, ℕ, ◌&&◌, Bool, true, false, if◌then◌else◌, List, [], ◌∷◌, refl, nat_eq}
use Rattle.std.specs.Prelude.{None, Some}
use Rattle.std.specs.declared.option.Option.{Option}
use Rattle.std.specs.Cmp.Lexicographic.{pointwise, bytes_decides}
use Rattle.sg_lex.specs.declared.token.TokenKind.{TokenKind}
use Rattle.sg_lex.specs.declared.token.TokenKind.TheVariants.{Word, Mark}
use Rattle.sg_lex.specs.Lexeme.{Lexeme, Spelling}
use Rattle.sg_script_parse.specs.Grammar.Pieces.{ScriptPiece, spelt, mark, IsScriptPiece}
use Rattle.sg_script_parse.specs.Grammar.Inside.Pieces.{fixed, IsSpelt}
use Rattle.sg_script_parse.specs.Grammar.Inside.States.{spelt_by}
use Rattle.sg_lex.proofs.SameKinds.{kind_is}
use Rattle.sg_lex.specs.Inside.Tests.{has_kind, is_this_mark, is_fixed}

-- ---- tests

pub some_is : {X : Type 0} (x y : X) → Some x ≡ Some y → x ≡ y
some_is x y e = cc

-- nothing is not something
pub none_some : {X : Type 0} (Y : Type 0) (x : X) → None ≡ Some x → Y
none_some Y x e = absurd (let f = e in cc)

pub if_then : {X : Type 0} (b : Bool) (x y : X) → b ≡ true → (if b then x else y) ≡ x
if_then true x y h = refl
if_then false x y h = absurd (let e : false ≡ true = h in cc)

pub if_else : {X : Type 0} (b : Bool) (x y : X) → b ≡ false → (if b then x else y) ≡ y
if_else false x y h = refl
if_else true x y h = absurd (let e : true ≡ false = h in cc)

-- a choice whose outcome is known
pub chosen : {X : Type 0} (Y : Type 0) (b : Bool) (x : X) (o : Option X) (next : X) → (if b then Some x else o) ≡ Some next
    → (b ≡ true → x ≡ next → Y) → (b ≡ false → o ≡ Some next → Y) → Y
chosen Y true x o next e hit miss = hit refl (some_is x next e)
chosen Y false x o next e hit miss = miss refl e

pub both_left : (a b : Bool) → (a && b) ≡ true → a ≡ true
both_left true b h = refl
both_left false b h = h

pub both_right : (a b : Bool) → (a && b) ≡ true → b ≡ true
both_right true b h = h
both_right false b h = absurd (let e : false ≡ true = h in cc)

-- ---- tokens and pieces

pub same_bytes : (a b : List ℕ) → pointwise nat_eq a b ≡ true → a ≡ b
same_bytes a b h = (bytes_decides a b).0 h

pub bytes_same : (a : List ℕ) → pointwise nat_eq a a ≡ true
bytes_same a = (bytes_decides a a).1 refl

-- a token of a kind is spelt as it is
pub of-is : (kind : TokenKind) (token : Lexeme) → has_kind kind token ≡ true → IsSpelt kind token (spelt_by token)
of-is kind token h = (kind_is token.kind kind h, refl, refl)

pub mark-is : (byte : ℕ) (token : Lexeme) → is_this_mark byte token ≡ true → IsScriptPiece token (mark (byte ∷ []))
mark-is byte token h =
    (kind_is token.kind Mark (both_left _ _ h), same_bytes token.bytes (byte ∷ []) (both_right (has_kind Mark token) _ h))

pub fixed-is : (bytes : List ℕ) (token : Lexeme) → is_fixed bytes token ≡ true → IsScriptPiece token (fixed bytes token.at)
fixed-is bytes token h =
    (kind_is token.kind Word (both_left _ _ h), same_bytes token.bytes bytes (both_right (has_kind Word token) _ h), refl)

-- the token that is a piece; a mark may stand at any place
abbrev pub made : ScriptPiece → ℕ → Lexeme
made (spelt kind s) place = record { kind = kind; bytes = s.bytes; at = s.at }
made (mark bytes) place = record { kind = Mark; bytes = bytes; at = place }

spelt_made : (kind : TokenKind) (token : Lexeme) (s : Spelling) → IsSpelt kind token s → token ≡ record { kind = kind; bytes = s.bytes; at = s.at }
spelt_made kind token s h = let a = h.0 in let b = h.1 in let c = h.2 in let e : record { kind = token.kind; bytes = token.bytes; at = token.at } ≡ record { kind = kind; bytes = s.bytes; at = s.at } = cc in e

pub is_made : (token : Lexeme) (p : ScriptPiece) → IsScriptPiece token p → token ≡ made p token.at
is_made token (spelt kind s) h = spelt_made kind token s h
is_made token (mark bytes) h = spelt_made Mark token (record { bytes = bytes; at = token.at }) (h.0, h.1, refl)

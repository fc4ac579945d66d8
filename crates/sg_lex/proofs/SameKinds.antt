-- What a test of a token's kind says.
use Rattle.std.proofs.Common.{◌≡◌, true, false, refl}
use Rattle.sg_lex.specs.declared.token.TokenKind.{TokenKind}
use Rattle.sg_lex.specs.declared.token.TokenKind.TheVariants.{Word, Number, Text, Mark}
use Rattle.sg_lex.specs.Inside.Tests.{same_kind}

pub kind_is : (kind other : TokenKind) → same_kind kind other ≡ true → kind ≡ other
kind_is Word Word h = refl
kind_is Number Number h = refl
kind_is Text Text h = refl
kind_is Mark Mark h = refl
kind_is Word Number h = absurd (let e : false ≡ true = h in cc)
kind_is Word Text h = absurd (let e : false ≡ true = h in cc)
kind_is Word Mark h = absurd (let e : false ≡ true = h in cc)
kind_is Number Word h = absurd (let e : false ≡ true = h in cc)
kind_is Number Text h = absurd (let e : false ≡ true = h in cc)
kind_is Number Mark h = absurd (let e : false ≡ true = h in cc)
kind_is Text Word h = absurd (let e : false ≡ true = h in cc)
kind_is Text Number h = absurd (let e : false ≡ true = h in cc)
kind_is Text Mark h = absurd (let e : false ≡ true = h in cc)
kind_is Mark Word h = absurd (let e : false ≡ true = h in cc)
kind_is Mark Number h = absurd (let e : false ≡ true = h in cc)
kind_is Mark Text h = absurd (let e : false ≡ true = h in cc)

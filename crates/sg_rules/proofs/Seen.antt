-- The tokens of a text, as a text of its version has them.
use Rattle.std.proofs.Common.{◌≡◌, ℕ, Bool, true, false, not, if◌then◌else◌, List, [], ◌∷◌, map, refl, sym, ap, ◌∙◌}
use Rattle.std.specs.Prelude.{Ok, Err}
use Rattle.sg_lex.specs.declared.token.TokenKind.{TokenKind}
use Rattle.sg_lex.specs.declared.token.TokenKind.TheVariants.{Word, Number, Text, Mark}
use Rattle.sg_lex.specs.Lexeme.{Lexeme}
use Rattle.sg_lex.specs.Tokens.{Answer}
use Rattle.sg_rules.specs.declared.version.Newer.{Newer}
use Rattle.sg_rules.specs.declared.version.Newer.TheVariants.{Second, Third}
use Rattle.sg_rules.specs.Versions.{is_kept, seen}
use Rattle.sg_rules.specs.Inside.Seen.{turned, kind_seen, seen_answer, answers_if}

turned_back : (kind : TokenKind) → turned (turned kind) ≡ kind
turned_back Word = refl
turned_back Number = refl
turned_back Text = refl
turned_back Mark = refl

pub kind_back : (version : Newer) (bytes : List ℕ) (kind : TokenKind) → kind_seen version bytes (kind_seen version bytes kind) ≡ kind
kind_back version bytes kind = at (is_kept version bytes)
  where
    at : (b : Bool) → (if b then turned (if b then turned kind else kind) else (if b then turned kind else kind)) ≡ kind
    at true = turned_back kind
    at false = refl

-- a token that is turned twice is as it was
pub seen_back : (version : Newer) (token : Lexeme) → seen version (seen version token) ≡ token
seen_back version token = ap (λ k. record token { kind = k }) (kind_back version token.bytes token.kind)

-- what is seen as a text of the one version and of the other is so in either order
kind_across : (bytes : List ℕ) (kind : TokenKind) → kind_seen Third bytes (kind_seen Second bytes kind) ≡ kind_seen Second bytes (kind_seen Third bytes kind)
kind_across bytes kind = at (is_kept Second bytes) (is_kept Third bytes)
  where
    at : (a b : Bool)
        → (if b then turned (if a then turned kind else kind) else (if a then turned kind else kind))
        ≡ (if a then turned (if b then turned kind else kind) else (if b then turned kind else kind))
    at true true = refl
    at true false = refl
    at false true = refl
    at false false = refl

seen_across : (token : Lexeme) → seen Third (seen Second token) ≡ seen Second (seen Third token)
seen_across token = ap (λ k. record token { kind = k }) (kind_across token.bytes token.kind)

seen_twice : (version : Newer) (answers : List Answer) → map (seen_answer version) (map (seen_answer version) answers) ≡ answers
seen_twice version [] = refl
seen_twice version (Ok token ∷ answers) =
    ap (λ t. Ok t ∷ map (seen_answer version) (map (seen_answer version) answers)) (seen_back version token) ∙ ap (λ v. Ok token ∷ v) (seen_twice version answers)
seen_twice version (Err fault ∷ answers) = ap (λ v. Err fault ∷ v) (seen_twice version answers)

answers_across : (answers : List Answer) → map (seen_answer Third) (map (seen_answer Second) answers) ≡ map (seen_answer Second) (map (seen_answer Third) answers)
answers_across [] = refl
answers_across (Ok token ∷ answers) =
    ap (λ t. Ok t ∷ map (seen_answer Third) (map (seen_answer Second) answers)) (seen_across token)
    ∙ ap (λ v. Ok (seen Second (seen Third token)) ∷ v) (answers_across answers)
answers_across (Err fault ∷ answers) = ap (λ v. Err fault ∷ v) (answers_across answers)

turned_if : (b : Bool) (version : Newer) (answers : List Answer) → answers_if (not b) version answers ≡ map (seen_answer version) (answers_if b version answers)
turned_if true version answers = sym (seen_twice version answers)
turned_if false version answers = refl

-- what is to come where the words of a version are turned
pub second_turned : (second third : Bool) (answers : List Answer)
    → answers_if third Third (answers_if (not second) Second answers) ≡ map (seen_answer Second) (answers_if third Third (answers_if second Second answers))
second_turned second false answers = turned_if second Second answers
second_turned second true answers = ap (map (seen_answer Third)) (turned_if second Second answers) ∙ answers_across (answers_if second Second answers)

pub third_turned : (second third : Bool) (answers : List Answer)
    → answers_if (not third) Third (answers_if second Second answers) ≡ map (seen_answer Third) (answers_if third Third (answers_if second Second answers))
third_turned second third answers = turned_if third Third (answers_if second Second answers)

-- One step of a lexer: what its answers to come are, by what stands at the front of the text.
use Rattle.std.proofs.Common.{ℕ, zero, suc, ◌+◌, ◌-◌, ◌≤◌, ◌≡◌, List, [], ◌∷◌, Ok, Err, drop, take, refl, sym, ap, ◌∙◌, subst, arith, add-zero}
use Rattle.std.proofs.lemmas.List.{drop-drop}
use Rattle.sg_lex.specs.declared.token.TokenKind.{TokenKind}
use Rattle.sg_lex.specs.declared.front.Front.{Front}
use Rattle.sg_lex.specs.declared.front.Front.TheVariants.{Ended, Gap, Token, Fault}
use Rattle.sg_lex.specs.Fronts.{front_of}
use Rattle.sg_lex.specs.Tokens.{Answer, later_answers}
use Rattle.sg_lex.specs.Inside.Fronts.{answers_at}
use Rattle.sg_lex.proofs.Fronts.{HasBytes, has_bytes}

drop_nil : (n at : ℕ) → later_answers 0 (at + n) (drop n []) ≡ []
drop_nil zero at = refl
drop_nil (suc n) at = refl

-- what is answered after bytes is what is answered on the text without them
pub answers_skip : (n at : ℕ) (bs : List ℕ) → later_answers n at bs ≡ later_answers 0 (at + n) (drop n bs)
answers_skip n at [] = sym (drop_nil n at)
answers_skip zero at (b ∷ bs) = rw add-zero refl
answers_skip (suc n) at (b ∷ bs) =
    answers_skip n (at + 1) bs ∙ ap (λ m. later_answers 0 m (drop n bs)) (omega arith)

-- a step over what stands at the front
abbrev pub answers_after : Front → ℕ → List ℕ → List Answer
answers_after Ended at text = []
answers_after (Gap n) at text = later_answers 0 (at + n) (drop n text)
answers_after (Token kind n) at text =
    Ok (record { kind = kind; bytes = take n text; at = at }) ∷ later_answers 0 (at + n) (drop n text)
answers_after Fault at text = Err (record { at = at }) ∷ []

after_more : (n at b : ℕ) (bs : List ℕ) → 1 ≤ n → later_answers (n - 1) (at + 1) bs ≡ later_answers 0 (at + n) (drop n (b ∷ bs))
after_more zero at b bs l = absurd (omega arith)
after_more (suc n) at b bs l =
    let e : suc n - 1 ≡ n = omega arith in
    rw e (answers_skip n (at + 1) bs ∙ ap (λ m. later_answers 0 m (drop n bs)) (omega arith))

step_at : (f : Front) (at b : ℕ) (bs : List ℕ) → HasBytes f
    → answers_at f at (b ∷ bs) (λ n. later_answers n (at + 1) bs) ≡ answers_after f at (b ∷ bs)
step_at Ended at b bs h = refl
step_at (Gap n) at b bs h = after_more n at b bs h
step_at (Token kind n) at b bs h =
    ap (λ rest. Ok (record { kind = kind; bytes = take n (b ∷ bs); at = at }) ∷ rest) (after_more n at b bs h)
step_at Fault at b bs h = refl

pub answers_step : (at : ℕ) (text : List ℕ) → later_answers 0 at text ≡ answers_after (front_of text) at text
answers_step at [] = refl
answers_step at (b ∷ bs) = step_at (front_of (b ∷ bs)) at b bs (has_bytes (b ∷ bs))

-- a gap is passed
pub gap_passed : (at n : ℕ) (text : List ℕ) → Gap n ≡ front_of (drop at text)
    → later_answers 0 (at + n) (drop (at + n) text) ≡ later_answers 0 at (drop at text)
gap_passed at n text e =
    let step : later_answers 0 at (drop at text) ≡ answers_after (Gap n) at (drop at text)
    = answers_step at (drop at text) ∙ ap (λ f. answers_after f at (drop at text)) (sym e) in
    rw (← drop-drop n at text) (sym step)

-- a token is answered
pub token_answered : (at n : ℕ) (kind : TokenKind) (text : List ℕ) → Token kind n ≡ front_of (drop at text)
    → later_answers 0 at (drop at text)
    ≡ Ok (record { kind = kind; bytes = take n (drop at text); at = at }) ∷ later_answers 0 (at + n) (drop (at + n) text)
token_answered at n kind text e =
    let step : later_answers 0 at (drop at text) ≡ answers_after (Token kind n) at (drop at text)
    = answers_step at (drop at text) ∙ ap (λ f. answers_after f at (drop at text)) (sym e) in
    rw (← drop-drop n at text) step

pub gap_has_bytes : (n : ℕ) (text : List ℕ) → Gap n ≡ front_of text → 1 ≤ n
gap_has_bytes n text e = subst HasBytes (sym e) (has_bytes text)

-- at the end nothing is answered, and a fault is answered last
pub nothing_answered : (at : ℕ) (text : List ℕ) → Ended ≡ front_of (drop at text) → later_answers 0 at (drop at text) ≡ []
nothing_answered at text e = answers_step at (drop at text) ∙ ap (λ f. answers_after f at (drop at text)) (sym e)

pub fault_answered : (at : ℕ) (text : List ℕ) → Fault ≡ front_of (drop at text)
    → later_answers 0 at (drop at text) ≡ Err (record { at = at }) ∷ []
fault_answered at text e = answers_step at (drop at text) ∙ ap (λ f. answers_after f at (drop at text)) (sym e)

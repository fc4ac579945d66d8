-- Whether a client that waits goes on to, test by test.
use Rattle.std.proofs.Common.{◌≡◌, ℕ, zero, suc, ◌+◌, ◌<◌, Bool, true, false, List, [], ◌∷◌, length, drop, get_or, map, None, Some, refl, sym, ◌∙◌, ap, arith}
use Rattle.std.specs.Prelude.{◌&&◌, ◌||◌}
use Rattle.std.specs.Option.{option_or}
use Rattle.std.specs.declared.option.Option.{Option}
use Rattle.sg_known.specs.sg_described.declared.description.RuleShape.{RuleShape}
use Rattle.sg_known.specs.sg_described.Described.{Rule, rule_of}
use Rattle.sg_safe.specs.Reasons.{first_from}

-- none of five holds
pub or_last : (a b c d e x r : Bool) → a ≡ false → b ≡ false → c ≡ false → d ≡ false → e ≡ false → r ≡ x → r ≡ (a || b || c || d || e || x)
or_last a b c d e x r one two three four five last =
    last ∙ ap (λ v. v || false || false || false || false || x) (sym one) ∙ ap (λ v. a || v || false || false || false || x) (sym two) ∙ ap (λ v. a || b || v || false || false || x) (sym three)
    ∙ ap (λ v. a || b || c || v || false || x) (sym four) ∙ ap (λ v. a || b || c || d || v || x) (sym five)

or_none : (s : Bool) → s ≡ (s || false)
or_none true = refl
or_none false = refl

pub goes_by : (k s l r : Bool) → k ≡ true → l ≡ false → r ≡ s → r ≡ (k && (s || l))
goes_by k s l r kept lasts is = is ∙ or_none s ∙ ap (λ v. s || v) (sym lasts) ∙ ap (λ v. v && (s || l)) (sym kept)

-- ---- rule by rule

dropped : (rules : List RuleShape) (n : ℕ) (x : RuleShape) → n < length rules → x ≡ get_or rules n x → drop n (map rule_of rules) ≡ rule_of x ∷ drop (suc n) (map rule_of rules)
dropped [] n x low is = absurd (omega (arith, low))
dropped (y ∷ rules) zero x low is = ap (λ z. rule_of z ∷ map rule_of rules) (sym is)
dropped (y ∷ rules) (suc n) x low is = dropped rules n x (omega (arith, low)) is

pub rule_first : {B : Type 0} (p : ℕ → Rule → Option B) (rules : List RuleShape) (n : ℕ) (x : RuleShape) (o : Option B) (found : B) → n < length rules → x ≡ get_or rules n x
    → o ≡ p (n + 1) (rule_of x) → o ≡ Some found → Some found ≡ first_from p (n + 1) (drop n (map rule_of rules))
rule_first p rules n x o found low there is some =
    ap (λ q. option_or q (first_from p (suc (n + 1)) (drop (suc n) (map rule_of rules)))) (sym some ∙ is) ∙ sym (ap (first_from p (n + 1)) (dropped rules n x low there))

pub rule_later : {B : Type 0} (p : ℕ → Rule → Option B) (rules : List RuleShape) (n : ℕ) (x : RuleShape) (o rest : Option B) → n < length rules → x ≡ get_or rules n x
    → o ≡ p (n + 1) (rule_of x) → o ≡ None → rest ≡ first_from p (n + 1 + 1) (drop (n + 1) (map rule_of rules)) → rest ≡ first_from p (n + 1) (drop n (map rule_of rules))
rule_later p rules n x o rest low there is none later =
    let one : n + 1 + 1 ≡ suc (n + 1) = omega arith in
    let next : n + 1 ≡ suc n = omega arith in
    later ∙ ap (λ m. first_from p m (drop (n + 1) (map rule_of rules))) one ∙ ap (λ m. first_from p (suc (n + 1)) (drop m (map rule_of rules))) next
    ∙ ap (λ q. option_or q (first_from p (suc (n + 1)) (drop (suc n) (map rule_of rules)))) (sym none ∙ is) ∙ sym (ap (first_from p (n + 1)) (dropped rules n x low there))

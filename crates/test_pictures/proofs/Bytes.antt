-- Bytes that pass tests: those of numbers, and those of texts as they are shown.
use Rattle.std.proofs.Common.{◌≡◌, ℕ, zero, suc, ◌+◌, ◌<◌, ◌≤◌, ◌%◌, ◌/◌, Bool, true, false, cond, ◌&&◌, ◌||◌, not, List, [], ◌∷◌, refl, sym, ◌∙◌, ap, arith}
use Rattle.std.specs.Prelude.{◌==◌, nat_le, nat_lt}
use Rattle.std.specs.List.{flat_map, list_all, list_any}
use Rattle.std.specs.Char.{is_ascii_digit}
use Rattle.std.specs.Fmt.{decimal, digit_glyph, digits, digits_onto}
use Rattle.std.proofs.lemmas.Bool.Decides.{nat_tests}
use Rattle.sg_draw.specs.Shown.{escaped_byte, is_one_of, is_printable, visible_byte}
use Rattle.test_pictures.specs.Read.{is_digit_or, is_harmless}
use Rattle.test_pictures.proofs.Pieces.{all_both}

-- ---- tests

pub both_hold : (s t : Bool) → (s && t) ≡ true → (s ≡ true) × (t ≡ true)
both_hold true t is = (refl, is)
both_hold false t is = absurd (cc is)

-- a byte that is one of some passes what all of them pass
pub one_passes : (test : ℕ → Bool) (bytes : List ℕ) (b : ℕ) → list_all test bytes ≡ true → is_one_of bytes b ≡ true → test b ≡ true
one_passes test [] b all one = absurd (cc one)
one_passes test (x ∷ xs) b all one = by (x == b) refl one (both_hold (test x) (list_all test xs) all) (one_passes test xs b)
  where
    by : (s : Bool) → (x == b) ≡ s → (s || list_any (λ other. other == b) xs) ≡ true → (test x ≡ true) × (list_all test xs ≡ true)
        → (list_all test xs ≡ true → is_one_of xs b ≡ true → test b ≡ true) → test b ≡ true
    by true is one parts later = let same : b ≡ x = grind (arith, nat_tests, is) in ap test same ∙ parts.0
    by false is one parts later = later parts.1 one

-- a test that holds of what each byte is written as holds of all that is written
pub all_flat : {A : Type 0} (test : ℕ → Bool) (f : A → List ℕ) → ((b : A) → list_all test (f b) ≡ true) → (bytes : List A) → list_all test (flat_map f bytes) ≡ true
all_flat test f each [] = refl
all_flat test f each (b ∷ bytes) = all_both test (f b) (flat_map f bytes) (each b) (all_flat test f each bytes)

-- ---- numbers

-- what each digit passes
module _ (test : ℕ → Bool) (each : (d : ℕ) → d < 10 → test (48 + d) ≡ true) where
  glyph_passes : (d : ℕ) → d < 10 → test (digit_glyph false d) ≡ true
  glyph_passes d low = let is : nat_lt d 10 ≡ true = grind (arith, nat_tests) in ap (λ b. test (cond b (48 + d) (87 + d))) is ∙ each d low

  onto_passes : (k n : ℕ) (acc : List ℕ) → list_all test acc ≡ true → list_all test (digits_onto k 10 false n acc) ≡ true
  onto_passes zero n acc all = all
  onto_passes (suc k) n acc all = by (n / 10 == 0) (onto_passes k (n / 10) (digit_glyph false (n % 10) ∷ acc) more)
    where
      more : list_all test (digit_glyph false (n % 10) ∷ acc) ≡ true
      more = ap (λ b. b && list_all test acc) (glyph_passes (n % 10) (omega arith)) ∙ all

      by : (b : Bool) → list_all test (digits_onto k 10 false (n / 10) (digit_glyph false (n % 10) ∷ acc)) ≡ true
          → list_all test (cond b (digit_glyph false (n % 10) ∷ acc) (digits_onto k 10 false (n / 10) (digit_glyph false (n % 10) ∷ acc))) ≡ true
      by true rest = more
      by false rest = rest

  pub decimal_passes : (n : ℕ) → list_all test (decimal n) ≡ true
  unfolding digits
  decimal_passes n = onto_passes 64 n [] refl

-- a number has digits alone
pub digit_passes : (bytes : List ℕ) (d : ℕ) → d < 10 → is_digit_or bytes (48 + d) ≡ true
digit_passes bytes d low = ap (λ b. b || is_one_of bytes (48 + d)) is
  where
    is : is_ascii_digit (48 + d) ≡ true
    is = grind (arith, nat_tests)

pub number_passes : (bytes : List ℕ) (n : ℕ) → list_all (is_digit_or bytes) (decimal n) ≡ true
number_passes bytes = decimal_passes (is_digit_or bytes) (digit_passes bytes)

-- whether a byte is not `<`, and whether it is not `>`
abbrev pub opens_none : ℕ → Bool
opens_none b = not (b == 60)

abbrev pub closes_none : ℕ → Bool
closes_none b = not (b == 62)

digit_opens_none : (d : ℕ) → d < 10 → opens_none (48 + d) ≡ true
digit_opens_none d low = let is : (48 + d == 60) ≡ false = grind (arith, nat_tests) in ap not is

digit_closes_none : (d : ℕ) → d < 10 → closes_none (48 + d) ≡ true
digit_closes_none d low = let is : (48 + d == 62) ≡ false = grind (arith, nat_tests) in ap not is

pub decimal_opens_none : (n : ℕ) → list_all opens_none (decimal n) ≡ true
decimal_opens_none = decimal_passes opens_none digit_opens_none

pub decimal_closes_none : (n : ℕ) → list_all closes_none (decimal n) ≡ true
decimal_closes_none = decimal_passes closes_none digit_closes_none

harmless_digit : (d : ℕ) → d < 10 → is_harmless (48 + d) ≡ true
harmless_digit d low = let is : nat_le 32 (48 + d) ≡ true = grind (arith, nat_tests) in ap (λ b. b || (48 + d == 10)) is

pub harmless_decimal : (n : ℕ) → list_all is_harmless (decimal n) ≡ true
harmless_decimal = decimal_passes is_harmless harmless_digit

-- whether a byte ends no line
abbrev pub ends_none : ℕ → Bool
ends_none b = not (b == 10)

endless_digit : (d : ℕ) → d < 10 → ends_none (48 + d) ≡ true
endless_digit d low = let is : (48 + d == 10) ≡ false = grind (arith, nat_tests) in ap not is

pub endless_decimal : (n : ℕ) → list_all ends_none (decimal n) ≡ true
endless_decimal = decimal_passes ends_none endless_digit

-- ---- texts as they are shown

-- the digit to the base 16 is a letter or a digit
glyph_above : (d : ℕ) → 48 ≤ digit_glyph false d
glyph_above d = by (nat_lt d 10)
  where
    by : (b : Bool) → 48 ≤ cond b (48 + d) (87 + d)
    by true = omega arith
    by false = omega arith

glyph_not : (d n : ℕ) → 58 ≤ n → n < 87 → (digit_glyph false d == n) ≡ false
glyph_not d n low high = by (nat_lt d 10) refl
  where
    by : (b : Bool) → nat_lt d 10 ≡ b → (cond b (48 + d) (87 + d) == n) ≡ false
    by true is = let small : d < 10 = grind (arith, nat_tests, is) in grind (arith, nat_tests)
    by false is = grind (arith, nat_tests)

-- a byte as it is shown ends no line
pub visible_ends_none : (b : ℕ) → list_all ends_none (visible_byte b) ≡ true
visible_ends_none b = by (is_printable b) refl
  where
    hex : (d : ℕ) → ends_none (digit_glyph false d) ≡ true
    hex d = let low = glyph_above d in let is : (digit_glyph false d == 10) ≡ false = grind (arith, nat_tests, low) in ap not is

    by : (t : Bool) → is_printable b ≡ t → list_all ends_none (cond t (b ∷ []) (92 ∷ 120 ∷ digit_glyph false (b / 16) ∷ digit_glyph false (b % 16) ∷ [])) ≡ true
    by true is = let no : (b == 10) ≡ false = ends (b == 10) refl in ap (λ t. not t && true) no
      where
        ends : (t : Bool) → (b == 10) ≡ t → t ≡ false
        ends false ten = refl
        ends true ten = absurd (let same : b ≡ 10 = grind (arith, nat_tests, ten) in let wrong : false ≡ true = sym (ap is_printable same) ∙ is in cc wrong)
    by false is = ap (λ t. t && (ends_none (digit_glyph false (b % 16)) && true)) (hex (b / 16)) ∙ ap (λ t. t && true) (hex (b % 16))

-- a byte as it is shown does no harm
pub visible_harmless : (b : ℕ) → list_all is_harmless (visible_byte b) ≡ true
visible_harmless b = by (is_printable b) refl
  where
    hex : (d : ℕ) → is_harmless (digit_glyph false d) ≡ true
    hex d = let low = glyph_above d in let is : nat_le 32 (digit_glyph false d) ≡ true = grind (arith, nat_tests, low) in ap (λ t. t || (digit_glyph false d == 10)) is

    by : (t : Bool) → is_printable b ≡ t → list_all is_harmless (cond t (b ∷ []) (92 ∷ 120 ∷ digit_glyph false (b / 16) ∷ digit_glyph false (b % 16) ∷ [])) ≡ true
    by true is = ap (λ t. (t || (b == 10)) && true) (both_hold (nat_le 32 b) (nat_le b 126) is).0
    by false is = ap (λ t. t && (is_harmless (digit_glyph false (b % 16)) && true)) (hex (b / 16)) ∙ ap (λ t. t && true) (hex (b % 16))

pub visible_opens_none : (b : ℕ) → (b == 60) ≡ false → list_all opens_none (visible_byte b) ≡ true
visible_opens_none b other = by (is_printable b)
  where
    hex : (d : ℕ) → opens_none (digit_glyph false d) ≡ true
    hex d = ap not (glyph_not d 60 (omega arith) (omega arith))

    by : (t : Bool) → list_all opens_none (cond t (b ∷ []) (92 ∷ 120 ∷ digit_glyph false (b / 16) ∷ digit_glyph false (b % 16) ∷ [])) ≡ true
    by true = ap (λ t. not t && true) other
    by false = ap (λ t. t && (opens_none (digit_glyph false (b % 16)) && true)) (hex (b / 16)) ∙ ap (λ t. t && true) (hex (b % 16))

-- a byte as it stands in a document opens nothing
pub escaped_opens_none : (b : ℕ) → list_all opens_none (escaped_byte b) ≡ true
escaped_opens_none b = one (b == 60) refl
  where
    three : (t : Bool) → (b == 60) ≡ false → list_all opens_none (cond t (38 ∷ 97 ∷ 109 ∷ 112 ∷ 59 ∷ []) (visible_byte b)) ≡ true
    three true other = refl
    three false other = visible_opens_none b other

    two : (t : Bool) → (b == 60) ≡ false → list_all opens_none (cond t (38 ∷ 103 ∷ 116 ∷ 59 ∷ []) (cond (b == 38) (38 ∷ 97 ∷ 109 ∷ 112 ∷ 59 ∷ []) (visible_byte b))) ≡ true
    two true other = refl
    two false other = three (b == 38) other

    one : (t : Bool) → (b == 60) ≡ t → list_all opens_none (cond t (38 ∷ 108 ∷ 116 ∷ 59 ∷ []) (cond (b == 62) (38 ∷ 103 ∷ 116 ∷ 59 ∷ []) (cond (b == 38) (38 ∷ 97 ∷ 109 ∷ 112 ∷ 59 ∷ []) (visible_byte b)))) ≡ true
    one true is = refl
    one false is = two (b == 62) is

-- Fields that are up to their greatest numbers.
use Rattle.std.proofs.Common.{◌≡◌, ℕ, zero, suc, ◌+◌, ◌<◌, ◌≤◌, ◌^◌, min, Bool, true, false, cond, not, List, [], ◌∷◌, length, map, None, Some, refl, sym, ◌∙◌, ap, subst, arith}
use Rattle.std.specs.Prelude.{◌==◌, ◌&&◌, ◌||◌, nat_le, if◌then◌else◌}
use Rattle.std.specs.List.{list_all, list_any}
use Rattle.std.specs.declared.option.Option.{Option}
use Rattle.std.proofs.lemmas.Bool.Decides.{nat_tests}
use Rattle.sg_facts.specs.sg_base.declared.value.Value.{Value}
use Rattle.sg_facts.specs.sg_base.declared.value.Value.TheVariants.{Word, Text}
use Rattle.sg_facts.specs.sg_base.declared.call.Call.{Call}
use Rattle.sg_facts.specs.sg_base.declared.reply.Good.{Good}
use Rattle.sg_facts.specs.declared.shape.Effect.{Effect}
use Rattle.sg_facts.specs.Facts.{Facts, Field}
use Rattle.sg_facts.specs.Fields.{empty_field}
use Rattle.sg_facts.specs.Limits.{last_client}
use Rattle.sg_facts.specs.Sound.{AreFields, IsOfField}
use Rattle.sg_facts.specs.Track.{effect_of, field_at, word_of}
use Rattle.sg_facts.specs.Walks.{effect_on}
use Rattle.sg_described.specs.Described.{Described}
use Rattle.sg_described.specs.DescribedSound.{are_up_to}
use Rattle.sg_described.specs.Known.{greatest, greatest_from, has_client}
use Rattle.sg_described.specs.Meaning.{fits, is_up_to, last_word, most_at}
use Rattle.sg_described.proofs.Keeping.Basics.{both_true, effect_passes, no_it}

-- a field is a word up to a number
abbrev pub IsWordTo : ℕ → List Value → ℕ → Type 0
IsWordTo most vs x = (n : ℕ) × (field_at vs x ≡ Word n) × (n ≤ most)

-- ---- one field

pub up_to_word : (m : ℕ) (v : Value) → is_up_to m v ≡ true → (n : ℕ) × (v ≡ Word n) × (n ≤ m)
up_to_word m (Word n) is = (n, refl, grind (arith, nat_tests, is))
up_to_word m (Text bytes) is = absurd (cc is)

pub word_up_to : (m n : ℕ) (v : Value) → v ≡ Word n → n ≤ m → is_up_to m v ≡ true
word_up_to m n v is low = ap (is_up_to m) is ∙ at
  where
    at : nat_le n m ≡ true
    at = grind (arith, nat_tests, low)

pub word_low : (most x : ℕ) (vs : List Value) → IsWordTo most vs x → word_of (field_at vs x) ≤ most
word_low most x vs is = let low = is.2 in let same = ap word_of is.1 in omega (arith, low, same)

-- ---- all fields

pub up_length : (ms : List ℕ) (vs : List Value) → are_up_to ms vs ≡ true → length vs ≡ length ms
up_length [] [] is = refl
up_length [] (v ∷ vs) is = absurd (cc is)
up_length (m ∷ ms) [] is = absurd (cc is)
up_length (m ∷ ms) (v ∷ vs) is = ap suc (up_length ms vs (both_true (is_up_to m v) (are_up_to ms vs) is).1)

pub up_at : (ms : List ℕ) (vs : List Value) → are_up_to ms vs ≡ true → (x : ℕ) → IsWordTo (most_at ms x) vs x
up_at [] [] is x = (0, refl, omega arith)
up_at [] (v ∷ vs) is x = absurd (cc is)
up_at (m ∷ ms) [] is x = absurd (cc is)
up_at (m ∷ ms) (v ∷ vs) is zero = up_to_word m v (both_true (is_up_to m v) (are_up_to ms vs) is).0
up_at (m ∷ ms) (v ∷ vs) is (suc x) = up_at ms vs (both_true (is_up_to m v) (are_up_to ms vs) is).1 x

pub up_from : (ms : List ℕ) (vs : List Value) → length vs ≡ length ms → ((x : ℕ) → IsWordTo (most_at ms x) vs x) → are_up_to ms vs ≡ true
up_from [] [] same each = refl
up_from [] (v ∷ vs) same each = absurd (omega (arith, same))
up_from (m ∷ ms) [] same each = absurd (omega (arith, same))
up_from (m ∷ ms) (v ∷ vs) same each =
    let one = each 0 in
    let own = word_up_to m one.0 v one.1 one.2 in
    ap (λ b. b && are_up_to ms vs) own ∙ up_from ms vs (omega (arith, same)) (λ x. each (suc x))

-- fields that are words below the end are those of a service whose fields are words
word_field : (f : Field) (v : Value) (n : ℕ) → not f.text ≡ true → v ≡ Word n → n ≤ last_word → IsOfField f v
word_field f v n word is low = subst (IsOfField f) (sym is) (no_it f.text word, omega (arith, low))

pub fields_from : (fs : List Field) (vs : List Value) → list_all (λ f. not f.text) fs ≡ true → length vs ≡ length fs → ((x : ℕ) → IsWordTo last_word vs x) → AreFields fs vs
fields_from [] [] words same each = tt
fields_from [] (v ∷ vs) words same each = absurd (omega (arith, same))
fields_from (f ∷ fs) [] words same each = absurd (omega (arith, same))
fields_from (f ∷ fs) (v ∷ vs) words same each =
    let word = both_true (not f.text) (list_all (λ f. not f.text) fs) words in
    let one = each 0 in
    (word_field f v one.0 word.0 one.1 one.2, fields_from fs vs word.1 (omega (arith, same)) (λ x. each (suc x)))

pub field_word : (f : Field) (v : Value) → f.text ≡ false → IsOfField f v → (n : ℕ) × (v ≡ Word n) × (n ≤ last_word)
field_word f (Word n) word is = let low = is.1 in (n, refl, omega (arith, low))
field_word f (Text bytes) word is = absurd (cc (word, is))

pub fields_length : (fs : List Field) (vs : List Value) → AreFields fs vs → length vs ≡ length fs
fields_length [] [] are = refl
fields_length [] (v ∷ vs) are = absurd are
fields_length (f ∷ fs) [] are = absurd are
fields_length (f ∷ fs) (v ∷ vs) are = ap suc (fields_length fs vs are.1)

pub fields_at : (fs : List Field) (vs : List Value) → list_all (λ f. not f.text) fs ≡ true → AreFields fs vs → (x : ℕ) → IsWordTo last_word vs x
fields_at [] [] words are x = (0, refl, omega arith)
fields_at [] (v ∷ vs) words are x = absurd are
fields_at (f ∷ fs) [] words are x = absurd are
fields_at (f ∷ fs) (v ∷ vs) words are zero = field_word f v (no_it f.text (both_true (not f.text) (list_all (λ f. not f.text) fs) words).0) are.0
fields_at (f ∷ fs) (v ∷ vs) words are (suc x) = fields_at fs vs (both_true (not f.text) (list_all (λ f. not f.text) fs) words).1 are.1 x

-- empty fields are 0
pub empty_length : (fs : List Field) → length (map empty_field fs) ≡ length fs
empty_length [] = refl
empty_length (f ∷ fs) = ap suc (empty_length fs)

pub empty_at : (fs : List Field) → list_all (λ f. not f.text) fs ≡ true → (x : ℕ) → field_at (map empty_field fs) x ≡ Word 0
empty_at [] words x = refl
empty_at (f ∷ fs) words zero = ap (λ b. cond b (Text []) (Word 0)) (no_it f.text (both_true (not f.text) (list_all (λ f. not f.text) fs) words).0)
empty_at (f ∷ fs) words (suc x) = empty_at fs (both_true (not f.text) (list_all (λ f. not f.text) fs) words).1 x

-- ---- the greatest numbers that fields come to

pub most_small : (ms : List ℕ) → list_all (λ m. nat_le m last_word) ms ≡ true → (x : ℕ) → most_at ms x ≤ last_word
most_small [] small x = omega arith
most_small (m ∷ ms) small zero =
    let low = (both_true (nat_le m last_word) (list_all (λ m. nat_le m last_word) ms) small).0 in
    grind (arith, nat_tests, low)
most_small (m ∷ ms) small (suc x) = most_small ms (both_true (nat_le m last_word) (list_all (λ m. nat_le m last_word) ms) small).1 x

cut_low : (b : Bool) (m : ℕ) → cond b (min m last_client) m ≤ m
cut_low true m = omega arith
cut_low false m = omega arith

cut_client : (b : Bool) (m : ℕ) → b ≡ true → cond b (min m last_client) m ≤ last_client
cut_client true m is = omega arith
cut_client false m is = absurd (cc is)

cut_up : (b : Bool) (m n : ℕ) → n ≤ m → (b ≡ true → n ≤ last_client) → n ≤ cond b (min m last_client) m
cut_up true m n low client = let few = client refl in omega (arith, low, few)
cut_up false m n low client = low

module _ (facts : Facts) where
  from_length : (from : ℕ) (ms : List ℕ) → length (greatest_from facts from ms) ≡ length ms
  from_length from [] = refl
  from_length from (m ∷ ms) = ap suc (from_length (suc from) ms)

  from_low : (from : ℕ) (ms : List ℕ) (x : ℕ) → most_at (greatest_from facts from ms) x ≤ most_at ms x
  from_low from [] x = omega arith
  from_low from (m ∷ ms) zero = cut_low (has_client facts from) m
  from_low from (m ∷ ms) (suc x) = from_low (suc from) ms x

  from_client : (from : ℕ) (ms : List ℕ) (x : ℕ) → has_client facts (from + x) ≡ true → most_at (greatest_from facts from ms) x ≤ last_client
  from_client from [] x is = omega arith
  from_client from (m ∷ ms) zero is = let same : from + 0 ≡ from = omega arith in cut_client (has_client facts from) m (ap (has_client facts) (sym same) ∙ is)
  from_client from (m ∷ ms) (suc x) is = let same : suc from + x ≡ from + suc x = omega arith in from_client (suc from) ms x (ap (has_client facts) same ∙ is)

  from_up : (from : ℕ) (ms : List ℕ) (x n : ℕ) → n ≤ most_at ms x → (has_client facts (from + x) ≡ true → n ≤ last_client) → n ≤ most_at (greatest_from facts from ms) x
  from_up from [] x n low client = low
  from_up from (m ∷ ms) zero n low client = let same : from + 0 ≡ from = omega arith in cut_up (has_client facts from) m n low (λ is. client (ap (has_client facts) same ∙ is))
  from_up from (m ∷ ms) (suc x) n low client = let same : suc from + x ≡ from + suc x = omega arith in from_up (suc from) ms x n low (λ is. client (ap (has_client facts) (sym same) ∙ is))

module _ (d : Described) where
  pub greatest_length : length (greatest d) ≡ length d.most
  greatest_length = from_length d.facts 0 d.most

  pub greatest_low : (x : ℕ) → most_at (greatest d) x ≤ most_at d.most x
  greatest_low x = from_low d.facts 0 d.most x

  pub greatest_client : (x : ℕ) → has_client d.facts x ≡ true → most_at (greatest d) x ≤ last_client
  greatest_client x is = let same : 0 + x ≡ x = omega arith in from_client d.facts 0 d.most x (ap (has_client d.facts) same ∙ is)

  pub greatest_up : (x n : ℕ) → n ≤ most_at d.most x → (has_client d.facts x ≡ true → n ≤ last_client) → n ≤ most_at (greatest d) x
  greatest_up x n low client = let same : 0 + x ≡ x = omega arith in from_up d.facts 0 d.most x n low (λ is. client (ap (has_client d.facts) (sym same) ∙ is))

-- ---- what effects leave

-- what an effect leaves is up to the greatest of its field, where effects fit
pub fits_on : (most : List ℕ) (call : Call) (good : Good) (es : List (ℕ × Effect)) (vs : List Value) → fits most call good es vs ≡ true → (x : ℕ) (e : Effect) → effect_on es x ≡ Some e
    → (n : ℕ) × (effect_of call good e (field_at vs x) ≡ Word n) × (n ≤ most_at most x)
fits_on most call good es vs fit x e some =
    up_to_word (most_at most x) (effect_of call good e (field_at vs x)) (effect_passes (λ o. is_up_to (most_at most o.0) (effect_of call good o.1 (field_at vs o.0))) es fit x e some)

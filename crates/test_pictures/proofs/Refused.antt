-- What no picture has.
use Rattle.std.proofs.Common.{◌≡◌, ℕ, ◌<◌, Bool, true, false, not, cond, List, [], ◌∷◌, ◌++◌, drop, length, refl, sym, ◌∙◌, ap, append_assoc, arith}
use Rattle.std.specs.Prelude.{◌==◌, codes}
use Rattle.std.specs.List.{list_all, onto_first, slice_split}
use Rattle.std.proofs.lemmas.List.Folds.{list_all-append}
use Rattle.std.proofs.lemmas.List.Splits.{length-slice_split}
use Rattle.sg_facts.specs.Facts.{Facts}
use Rattle.sg_hist.specs.declared.ended.Ended.{Ended}
use Rattle.sg_draw.specs.Pictures.{IsPictureOf}
use Rattle.test_pictures.specs.Read.{is_allowed}
use Rattle.test_pictures.proofs.Bytes.{both_hold, opens_none}
use Rattle.test_pictures.proofs.Pieces.{split_more}
use Rattle.test_pictures.proofs.Reading.{all_allowed}

-- the first piece of bytes that begin with a word
first_piece : (word after : List ℕ) → list_all opens_none word ≡ true
    → (more : List ℕ) × (rest : List (List ℕ)) × (slice_split (λ b. b == 60) (word ++ after) ≡ (word ++ more) ∷ rest)
first_piece [] after whole = by (slice_split (λ b. b == 60) after) refl (let long = length-slice_split (λ b. b == 60) after in omega (arith, long))
  where
    by : (parts : List (List ℕ)) → slice_split (λ b. b == 60) after ≡ parts → 0 < length parts
        → (more : List ℕ) × (rest : List (List ℕ)) × (slice_split (λ b. b == 60) after ≡ more ∷ rest)
    by [] is long = absurd (omega (arith, long))
    by (part ∷ parts) is long = (part, parts, is)
first_piece (b ∷ word) after whole =
    let both = both_hold (opens_none b) (list_all opens_none word) whole in
    let later = first_piece word after both.1 in
    (later.0, later.1, by (b == 60) both.0 ∙ ap (onto_first b) later.2)
  where
    by : (s : Bool) → not s ≡ true
        → cond s ([] ∷ slice_split (λ c. c == 60) (word ++ after)) (onto_first b (slice_split (λ c. c == 60) (word ++ after))) ≡ onto_first b (slice_split (λ c. c == 60) (word ++ after))
    by true is = absurd (cc is)
    by false is = refl

-- a test that holds of all but the first of two lists holds of the first of the second
seam : {A : Type 0} (test : A → Bool) (xs : List A) (y : A) (ys : List A) → 0 < length xs → list_all test (drop 1 (xs ++ y ∷ ys)) ≡ true → test y ≡ true
seam test [] y ys some all = absurd (omega (arith, some))
seam test (x ∷ xs) y ys some all =
    (both_hold (test y) (list_all test ys) (both_hold (list_all test xs) (list_all test (y ∷ ys)) (sym (list_all-append test xs (y ∷ ys)) ∙ all)).1).0

-- no picture of any run has a piece that begins so, wherever it stands
pub never_has : (word : List ℕ) → list_all opens_none word ≡ true → ((more : List ℕ) → is_allowed (word ++ more) ≡ false)
    → (facts : Facts) (ended : Ended) (before after : List ℕ) → IsPictureOf facts ended (before ++ 60 ∷ word ++ after) → ⊥
never_has word whole other facts ended before after r =
    let opens : ℕ → Bool = λ b. b == 60 in
    let first = first_piece word after whole in
    let split : slice_split opens (before ++ 60 ∷ word ++ after) ≡ slice_split opens before ++ (word ++ first.0) ∷ first.1
    = ap (slice_split opens) (append_assoc before (60 ∷ word) after) ∙ split_more opens before 60 (word ++ after) refl ∙ ap (λ v. slice_split opens before ++ v) first.2 in
    let all : list_all is_allowed (drop 1 (slice_split opens before ++ (word ++ first.0) ∷ first.1)) ≡ true
    = sym (ap (λ v. list_all is_allowed (drop 1 v)) split) ∙ all_allowed r in
    let yes : is_allowed (word ++ first.0) ≡ true
    = seam is_allowed (slice_split opens before) (word ++ first.0) first.1 (let long = length-slice_split opens before in omega (arith, long)) all in
    let wrong : false ≡ true = sym (other first.0) ∙ yes in
    absurd (cc wrong)

-- a comment
pub no_comment : (facts : Facts) (ended : Ended) (before after : List ℕ) → IsPictureOf facts ended (before ++ codes "<!--" ++ after) → ⊥
no_comment = never_has (codes "!--") refl (λ more. refl)

-- a script
pub no_script : (facts : Facts) (ended : Ended) (before after : List ℕ) → IsPictureOf facts ended (before ++ codes "<script" ++ after) → ⊥
no_script = never_has (codes "script") refl (λ more. refl)

-- a rule that hides all texts
pub no_hiding : (facts : Facts) (ended : Ended) (before after : List ℕ) → IsPictureOf facts ended (before ++ codes "<style>text{display:none}" ++ after) → ⊥
no_hiding = never_has (codes "style>text{display:none}") refl (λ more. refl)

-- a text that isn't shown, by its tag
pub no_hidden_text : (facts : Facts) (ended : Ended) (before after : List ℕ) → IsPictureOf facts ended (before ++ codes "<text class='l' display='none' x='" ++ after) → ⊥
no_hidden_text = never_has (codes "text class='l' display='none' x='") refl (λ more. refl)

-- an image from elsewhere
pub no_image : (facts : Facts) (ended : Ended) (before after : List ℕ) → IsPictureOf facts ended (before ++ codes "<image href='http://elsewhere/" ++ after) → ⊥
no_image = never_has (codes "image href='http://elsewhere/") refl (λ more. refl)

-- an element that isn't closed, and the end of one that wasn't open
pub nothing_open : (facts : Facts) (ended : Ended) (before after : List ℕ) → IsPictureOf facts ended (before ++ codes "<g>" ++ after) → ⊥
nothing_open = never_has (codes "g>") refl (λ more. refl)

pub nothing_closed : (facts : Facts) (ended : Ended) (before after : List ℕ) → IsPictureOf facts ended (before ++ codes "</g>" ++ after) → ⊥
nothing_closed = never_has (codes "/g>") refl (λ more. refl)

-- a name of the script where the picture is described
pub no_name : (facts : Facts) (ended : Ended) (before after : List ℕ) → IsPictureOf facts ended (before ++ codes "<desc>A run with the file a&b" ++ after) → ⊥
no_name = never_has (codes "desc>A run with the file a&b") refl (λ more. refl)

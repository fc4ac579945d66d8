-- What is added to a document.
use Rattle.std.proofs.Common.{◌≡◌, ℕ, Bool, true, ◌&&◌, List, [], ◌∷◌, ◌++◌, refl, sym, ◌∙◌, ap, append-nil, append_assoc}
use Rattle.std.specs.Prelude.{codes}
use Rattle.std.specs.Fmt.{decimal}
use Rattle.std.specs.List.{cons_option, filter_map, flat_map, list_all}
use Rattle.std.proofs.lemmas.Grind.{flat_map-append}
use Rattle.std.proofs.lemmas.List.Elements.{filter_map-append}
use Rattle.std.proofs.lemmas.List.Folds.{list_all-append}
use Rattle.sg_draw.specs.Documents.{Part, is_known, line, part_text, text_in, words}
use Rattle.sg_draw.specs.Shown.{escaped, is_one_of}
use Rattle.sg_draw.specs.Inside.Drawing.{Draws}

-- a test that holds of two lists holds of both in a row
pub all_both : {A : Type 0} (test : A → Bool) (xs ys : List A) → list_all test xs ≡ true → list_all test ys ≡ true → list_all test (xs ++ ys) ≡ true
all_both test xs ys one two = list_all-append test xs ys ∙ ap (λ b. b && list_all test ys) one ∙ two

-- what is made of the elements of two lists, added to a third one
pub flat_added : {A B : Type 0} (f : A → List B) (a b c : List B) (xs ys : List A) → b ≡ a ++ flat_map f xs → c ≡ b ++ flat_map f ys → c ≡ a ++ flat_map f (xs ++ ys)
flat_added f a b c xs ys one two =
    two ∙ ap (λ v. v ++ flat_map f ys) one ∙ append_assoc a (flat_map f xs) (flat_map f ys) ∙ ap (λ v. a ++ v) (sym (flat_map-append f xs ys))

-- ---- additions one after the other

pub still : (doc : List ℕ) → Draws doc doc []
still doc = record { parts = []; is = sym (append-nil doc); known = refl; shows = refl }

pub then : {a b c : List ℕ} {xs ys : List (List ℕ)} → Draws a b xs → Draws b c ys → Draws a c (xs ++ ys)
then {a} {b} {c} {xs} {ys} d e = record {
  parts = d.parts ++ e.parts;
  is = flat_added part_text a b c d.parts e.parts d.is e.is;
  known = all_both is_known d.parts e.parts d.known e.known;
  shows = filter_map-append text_in d.parts e.parts ∙ ap (λ v. v ++ filter_map text_in e.parts) d.shows ∙ ap (λ v. xs ++ v) e.shows;
}

-- an addition, whose texts are called so
pub drawn : {a b : List ℕ} {xs xs' : List (List ℕ)} → xs' ≡ xs → Draws a b xs → Draws a b xs'
drawn same d = record { parts = d.parts; is = d.is; known = d.known; shows = d.shows ∙ sym same }

-- one part more
draws_part : (doc new : List ℕ) (part : Part) → is_known part ≡ true → new ≡ doc ++ part_text part → Draws doc new (cons_option (text_in part) [])
draws_part doc new part known is = record {
  parts = part ∷ [];
  is = is ∙ ap (λ v. doc ++ v) (sym (append-nil (part_text part)));
  known = ap (λ b. b && true) known;
  shows = refl;
}

line_grouped : (o a k c d e f w g i : List ℕ) → o ++ a ++ k ++ c ++ d ++ e ++ f ++ w ++ g ++ i ≡ o ++ (a ++ (k ++ c) ++ d ++ e ++ f ++ (w ++ g) ++ i)
line_grouped o a k c d e f w g i = simp append_assoc

words_grouped : (o a k c d e f g h i : List ℕ) → o ++ a ++ k ++ c ++ d ++ e ++ f ++ g ++ h ++ i ≡ o ++ (a ++ (k ++ c) ++ d ++ e ++ f ++ g ++ h ++ i)
words_grouped o a k c d e f g h i = simp append_assoc

-- one line more
pub draws_line : (doc new : List ℕ) (class x y way to : ℕ) → is_one_of (codes "nbckfws") class ≡ true → is_one_of (codes "HV") way ≡ true
    → new ≡ doc ++ codes "<path class='" ++ class ∷ [] ++ codes "' d='M" ++ decimal x ++ codes " " ++ decimal y ++ way ∷ [] ++ decimal to ++ codes "'/>\n"
    → Draws doc new []
draws_line doc new class x y way to one two is =
    draws_part doc new (line class x y way to) (ap (λ b. b && is_one_of (codes "HV") way) one ∙ two)
    (is ∙ line_grouped doc (codes "<path class='") (class ∷ []) (codes "' d='M") (decimal x) (codes " ") (decimal y) (way ∷ []) (decimal to) (codes "'/>\n"))

-- one text more
pub draws_words : (doc new : List ℕ) (class x y : ℕ) (text : List ℕ) → is_one_of (codes "thl") class ≡ true
    → new ≡ doc ++ codes "<text class='" ++ class ∷ [] ++ codes "' x='" ++ decimal x ++ codes "' y='" ++ decimal y ++ codes "'>" ++ escaped text ++ codes "</text>\n"
    → Draws doc new (text ∷ [])
draws_words doc new class x y text known is =
    draws_part doc new (words class x y text) known
    (is
    ∙ words_grouped doc (codes "<text class='") (class ∷ []) (codes "' x='") (decimal x) (codes "' y='") (decimal y) (codes "'>") (escaped text) (codes "</text>\n"))

-- ---- the beginning

-- five things are written after what stands there
pub five_written : (start a b c d e s t u v w x : List ℕ) → s ≡ start → t ≡ s ++ a → u ≡ t ++ b → v ≡ u ++ c → w ≡ v ++ d → x ≡ w ++ e
    → x ≡ start ++ (a ++ b ++ c ++ d ++ e)
five_written start a b c d e s t u v w x zero one two three four five =
    five ∙ ap (λ l. l ++ e) (four ∙ ap (λ l. l ++ d) (three ∙ ap (λ l. l ++ c) (two ∙ ap (λ l. l ++ b) (one ∙ ap (λ l. l ++ a) zero)))) ∙ regroup
  where
    regroup : start ++ a ++ b ++ c ++ d ++ e ≡ start ++ (a ++ b ++ c ++ d ++ e)
    regroup = simp append_assoc

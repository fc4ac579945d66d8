-- Rows and their labels, one after the other.
use Rattle.std.proofs.Common.{◌≡◌, ℕ, ◌+◌, ◌<◌, List, [], ◌∷◌, ◌++◌, Some, length, map, sym, ◌∙◌, ap, append-nil, append_assoc, take, arith}
use Rattle.std.specs.Prelude.{codes, slice_get, slice_index_or}
use Rattle.std.specs.Fmt.{decimal}
use Rattle.std.proofs.lemmas.List.{map-append, take_more}
use Rattle.sg_facts.proofs.Places.{take_next}
use Rattle.sg_facts.specs.Facts.{Facts}
use Rattle.sg_facts.specs.Trace.{Boot}
use Rattle.sg_facts.specs.declared.entry.Entry.{Entry}
use Rattle.sg_draw.specs.Labels.{label_of, labels_from}
use Rattle.sg_draw.specs.Inside.Rows.{labels_in, stop_labels}
use Rattle.sg_draw.specs.declared.rows.Row.{Row}

-- one element more
pub one_more : {A : Type 0} (xs : List A) (n : ℕ) (x : A) → n < length xs → x ≡ slice_index_or xs n x → take (n + 1) xs ≡ take n xs ++ x ∷ []
one_more xs n x at own = take_more xs n x at ∙ ap (λ y. take n xs ++ y ∷ []) (sym own)

-- what is made of one element more
pub map_more : {A B : Type 0} (f : A → B) (xs : List A) (n : ℕ) (x : A) → n < length xs → x ≡ slice_index_or xs n x → map f (take (n + 1) xs) ≡ map f (take n xs) ++ f x ∷ []
map_more f xs n x at own = ap (map f) (one_more xs n x at own) ∙ map-append f (take n xs) (x ∷ [])

-- one row more, whose label is what is made of what is found after the first elements
pub labels_next : {A : Type 0} (f : A → List ℕ) (xs : List A) (at : ℕ) (x : A) (first : List (List ℕ)) (rows new : List Row) (row : Row) → slice_get xs at ≡ Some x
    → labels_in rows ≡ first ++ map f (take at xs) → row.label ≡ f x → new ≡ rows ++ row ∷ [] → labels_in new ≡ first ++ map f (take (at + 1) xs)
labels_next f xs at x first rows new row found before label adds =
    ap labels_in adds ∙ map-append (λ (r : Row). r.label) rows (row ∷ []) ∙ ap (λ l. l ++ row.label ∷ []) before ∙ ap (λ t. (first ++ map f (take at xs)) ++ t ∷ []) label
    ∙ append_assoc first (map f (take at xs)) (f x ∷ [])
    ∙ sym (ap (λ l. first ++ l) (ap (map f) (take_next xs at x found) ∙ map-append f (take at xs) (x ∷ [])))

-- the labels of a boot of this number
abbrev pub boot_labels : Facts → List Entry → ℕ → Boot → List (List ℕ)
boot_labels facts history number b = (codes "boot " ++ decimal number) ∷ map (label_of facts history) b.items ++ stop_labels b.stop

-- the labels of one boot more
pub labels_more : (facts : Facts) (history : List Entry) (number : ℕ) (bs : List Boot) (b : Boot)
    → labels_from facts history number (bs ++ b ∷ []) ≡ labels_from facts history number bs ++ boot_labels facts history (number + length bs) b
labels_more facts history number [] b = append-nil (boot_labels facts history number b) ∙ ap (λ n. boot_labels facts history n b) (let same : number ≡ number + 0 = omega arith in same)
labels_more facts history number (x ∷ bs) b =
    let same : number + 1 + length bs ≡ number + length (x ∷ bs) = omega arith in
    ap (λ v. boot_labels facts history number x ++ v) (labels_more facts history (number + 1) bs b ∙ ap (λ n. labels_from facts history (number + 1) bs ++ boot_labels facts history n b) same)
    ∙ sym (append_assoc (boot_labels facts history number x) (labels_from facts history (number + 1) bs) (boot_labels facts history (number + length (x ∷ bs)) b))

-- rows of a boot after others
pub boot_added : {A : Type 0} (init before head items stop first second third : List A) → first ≡ (init ++ before) ++ head → second ≡ first ++ items → third ≡ second ++ stop
    → third ≡ init ++ (before ++ ((head ++ items) ++ stop))
boot_added init before head items stop first second third one two three =
    three ∙ ap (λ v. v ++ stop) (two ∙ ap (λ v. v ++ items) one) ∙ regroup init before head items stop
  where
    regroup : {A : Type 0} (a b c d e : List A) → (((a ++ b) ++ c) ++ d) ++ e ≡ a ++ (b ++ ((c ++ d) ++ e))
    regroup a b c d e = simp append_assoc

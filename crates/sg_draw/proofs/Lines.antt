-- What is added in columns.
use Rattle.std.proofs.Common.{◌≡◌, ℕ, ◌+◌, true, ◌&&◌, List, [], ◌∷◌, ◌++◌, length, map, refl, sym, ◌∙◌, ap, subst, append-nil, append_assoc, length-append, eq-eqb}
use Rattle.std.specs.Prelude.{◌==◌}
use Rattle.std.specs.List.{list_all}
use Rattle.std.proofs.lemmas.List.{map-append}
use Rattle.sg_draw.proofs.Documents.{all_both, flat_added}
use Rattle.sg_draw.specs.Pictures.{column_line, is_mark}
use Rattle.sg_draw.specs.Inside.Columns.{AddsMarks, IsMarks, Prints}

-- ---- marks

pub no_marks : IsMarks 0 []
no_marks = record { wide = refl; are_marks = refl }

pub marks_both : {m n : ℕ} {a b : List ℕ} → IsMarks m a → IsMarks n b → IsMarks (m + n) (a ++ b)
marks_both {m} {n} {a} {b} one two =
    let w = one.wide in
    let v = two.wide in
    record { wide = length-append a b ∙ ap (λ k. k + length b) w ∙ ap (λ k. m + k) v; are_marks = all_both is_mark a b one.are_marks two.are_marks }

pub marks_of_width : {m n : ℕ} {a b : List ℕ} → n ≡ m → b ≡ a → IsMarks m a → IsMarks n b
marks_of_width width same one = record { wide = ap length same ∙ one.wide ∙ sym width; are_marks = ap (list_all is_mark) same ∙ one.are_marks }

pub adds_none : (out : List ℕ) → AddsMarks 0 out out
adds_none out = record { more = []; is = sym (append-nil out); marks = no_marks }

pub adds_more : {m n k : ℕ} {a b c c' : List ℕ} → k ≡ m + n → AddsMarks m a b → c' ≡ b ++ c → IsMarks n c → AddsMarks k a c'
adds_more {m} {n} {k} {a} {b} {c} width one is two = record {
  more = one.more ++ c;
  is = is ∙ ap (λ v. v ++ c) one.is ∙ append_assoc a one.more c;
  marks = marks_of_width width refl (marks_both one.marks two);
}

-- the same columns under another sum
pub adds_width : {m k : ℕ} {a b : List ℕ} → k ≡ m → AddsMarks m a b → AddsMarks k a b
adds_width width one = record { more = one.more; is = one.is; marks = marks_of_width width refl one.marks }

-- columns after others of the same line
pub marks_added : {m n k : ℕ} {a b : List ℕ} → k ≡ m + n → IsMarks m a → AddsMarks n a b → IsMarks k b
marks_added width one two = marks_of_width width two.is (marks_both one two.marks)

-- ---- lines

pub prints_none : (width : ℕ) (out : List ℕ) → Prints width out out []
prints_none width out = record { lines = []; is = sym (append-nil out); are_marks = refl; shows = refl }

pub then : {width : ℕ} {a b c : List ℕ} {xs ys : List (List ℕ)} → Prints width a b xs → Prints width b c ys → Prints width a c (xs ++ ys)
then {width} {a} {b} {c} {xs} {ys} d e = record {
  lines = d.lines ++ e.lines;
  is = flat_added (λ l. column_line l.0 l.1) a b c d.lines e.lines d.is e.is;
  are_marks = all_both (λ l. (length l.0 == width) && list_all is_mark l.0) d.lines e.lines d.are_marks e.are_marks;
  shows = map-append (λ l. l.1) d.lines e.lines ∙ ap (λ v. v ++ map (λ l. l.1) e.lines) d.shows ∙ ap (λ v. xs ++ v) e.shows;
}

-- lines, whose texts are called so
pub printed : {width : ℕ} {a b : List ℕ} {xs xs' : List (List ℕ)} → xs' ≡ xs → Prints width a b xs → Prints width a b xs'
printed same d = record { lines = d.lines; is = d.is; are_marks = d.are_marks; shows = d.shows ∙ sym same }

-- a line of marks and a text
pub prints_line : (width : ℕ) (out new marks text : List ℕ) → IsMarks width marks → new ≡ out ++ column_line marks text → Prints width out new (text ∷ [])
prints_line width out new marks text own is = record {
  lines = (marks, text) ∷ [];
  is = is ∙ ap (λ v. out ++ v) (sym (append-nil (column_line marks text)));
  are_marks = ap (λ b. (b && list_all is_mark marks) && true) (eq-eqb (length marks) width own.wide) ∙ ap (λ b. b && true) own.are_marks;
  shows = refl;
}

-- a line of the same lanes and the same text
pub line_as : (out new lanes lanes' text text' : List ℕ) → lanes ≡ lanes' → text ≡ text' → new ≡ out ++ column_line lanes text → new ≡ out ++ column_line lanes' text'
line_as out new lanes lanes' text text' one two is = is ∙ ap (λ v. out ++ column_line v text) one ∙ ap (λ v. out ++ column_line lanes' v) two

-- the same lines beside lanes of the same width
pub prints_width : {m n : ℕ} {a b : List ℕ} {xs : List (List ℕ)} → n ≡ m → Prints m a b xs → Prints n a b xs
prints_width {m} {n} {a} {b} {xs} width p = subst (λ k. Prints k a b xs) (sym width) p

-- What is read in columns, and what none of them has.
use Rattle.std.proofs.Common.{◌≡◌, ℕ, zero, suc, ◌+◌, ◌*◌, Bool, true, false, ◌&&◌, List, [], ◌∷◌, ◌++◌, drop, get_or, length, map, take, refl, sym, ◌∙◌, ap, append_assoc, length-append, arith}
use Rattle.std.proofs.Math.ListN.{drop_of_length-le}
use Rattle.std.proofs.Math.Seq.{drop-append_seam}
use Rattle.std.specs.Prelude.{◌==◌, codes}
use Rattle.std.specs.Fmt.{digits}
use Rattle.std.specs.List.{flat_map, list_all}
use Rattle.std.proofs.lemmas.Bool.Decides.{nat_tests}
use Rattle.std.proofs.lemmas.List.{length-take-le}
use Rattle.std.proofs.lemmas.List.Folds.{list_all-append}
use Rattle.sg_facts.specs.Facts.{Facts}
use Rattle.sg_facts.specs.Words.{line_end}
use Rattle.sg_hist.specs.declared.ended.End.{End}
use Rattle.sg_hist.specs.declared.ended.Ended.{Ended}
use Rattle.sg_draw.specs.Labels.{labels_of}
use Rattle.sg_draw.specs.Pictures.{AreColumnsOf, client_name, column_heads, column_line, is_mark, legend, marks_width, title_of}
use Rattle.sg_draw.specs.Shown.{visible, visible_byte}
use Rattle.test_pictures.specs.Read.{column_texts, is_harmless}
use Rattle.test_pictures.specs.Written.{locks, stopped_early}
use Rattle.test_pictures.proofs.Bytes.{all_flat, both_hold, endless_decimal, ends_none, harmless_decimal, one_passes, visible_ends_none, visible_harmless}
use Rattle.test_pictures.proofs.Pieces.{all_both, all_weaker, split_first}

-- ---- the heads of lanes

take_passes : (test : ℕ → Bool) (n : ℕ) (xs : List ℕ) → list_all test xs ≡ true → list_all test (take n xs) ≡ true
take_passes test zero xs all = refl
take_passes test (suc n) [] all = refl
take_passes test (suc n) (x ∷ xs) all =
    let both = both_hold (test x) (list_all test xs) all in
    ap (λ s. s && list_all test (take n xs)) both.0 ∙ take_passes test n xs both.1

heads_pass : (test : ℕ → Bool) → ((n : ℕ) → list_all test (client_name n) ≡ true) → list_all test (codes "     ") ≡ true → list_all test (codes "service  ") ≡ true
    → (ends : List (ℕ × End)) → list_all test (column_heads ends) ≡ true
heads_pass test name blanks service ends =
    all_both test (flat_map (λ (e : ℕ × End). take 5 (client_name e.0 ++ codes "     ")) ends) (codes "service  ")
    (all_flat test (λ (e : ℕ × End). take 5 (client_name e.0 ++ codes "     ")) (λ e. take_passes test 5 (client_name e.0 ++ codes "     ")
    (all_both test (client_name e.0) (codes "     ") (name e.0) blanks)) ends)
    service

head_width : (client : ℕ) → length (take 5 (client_name client ++ codes "     ")) ≡ 5
head_width client =
    length-take-le 5 (client_name client ++ codes "     ") (let sum = length-append (client_name client) (codes "     ") in omega (arith, sum))

names_width : (ends : List (ℕ × End)) → length (flat_map (λ (e : ℕ × End). take 5 (client_name e.0 ++ codes "     ")) ends) ≡ 5 * length ends
names_width [] = refl
names_width (e ∷ ends) =
    let name : List ℕ = take 5 (client_name e.0 ++ codes "     ") in
    let names : List ℕ = flat_map (λ (x : ℕ × End). take 5 (client_name x.0 ++ codes "     ")) ends in
    let sum = length-append name names in
    let one = head_width e.0 in
    let more = names_width ends in
    omega (arith, sum, one, more)

heads_width : (ends : List (ℕ × End)) → length (column_heads ends) ≡ marks_width (length ends)
heads_width ends =
    let names : List ℕ = flat_map (λ (e : ℕ × End). take 5 (client_name e.0 ++ codes "     ")) ends in
    let sum = length-append names (codes "service  ") in
    let all = names_width ends in
    omega (arith, sum, all)

-- ---- no byte does harm

line_harmless : (lanes text : List ℕ) → list_all is_harmless lanes ≡ true → list_all is_harmless (column_line lanes text) ≡ true
line_harmless lanes text whole =
    all_both is_harmless (lanes ++ visible text) line_end (all_both is_harmless lanes (visible text) whole (all_flat is_harmless visible_byte visible_harmless text)) refl

mark_harmless : (b : ℕ) → is_mark b ≡ true → is_harmless b ≡ true
mark_harmless b is = one_passes is_harmless (codes " |-+o#*=!") b refl is

lines_harmless : (width : ℕ) (lines : List (List ℕ × List ℕ)) → list_all (λ l. (length l.0 == width) && list_all is_mark l.0) lines ≡ true
    → list_all is_harmless (flat_map (λ l. column_line l.0 l.1) lines) ≡ true
lines_harmless width [] marks = refl
lines_harmless width (l ∷ lines) marks =
    let both = both_hold ((length l.0 == width) && list_all is_mark l.0) (list_all (λ m. (length m.0 == width) && list_all is_mark m.0) lines) marks in
    let own = both_hold (length l.0 == width) (list_all is_mark l.0) both.0 in
    all_both is_harmless (column_line l.0 l.1) (flat_map (λ m. column_line m.0 m.1) lines)
    (line_harmless l.0 l.1 (all_weaker is_mark is_harmless mark_harmless l.0 own.1)) (lines_harmless width lines both.1)

pub all_harmless : {facts : Facts} {ended : Ended} {bytes : List ℕ} → AreColumnsOf facts ended bytes → list_all is_harmless bytes ≡ true
all_harmless {facts} {ended} r =
    ap (list_all is_harmless) r.are_lines
    ∙ all_both is_harmless (column_line (column_heads ended.ends) (title_of facts)) (flat_map (λ l. column_line l.0 l.1) r.lines)
    (line_harmless (column_heads ended.ends) (title_of facts) (heads_pass is_harmless harmless_decimal refl refl ended.ends))
    (lines_harmless (marks_width (length ended.ends)) r.lines r.are_marks)

-- ---- the texts

line_reads : (width : ℕ) (lanes text rest : List ℕ) → length lanes ≡ width → list_all ends_none lanes ≡ true
    → column_texts width (column_line lanes text ++ rest) ≡ visible text ∷ column_texts width rest
line_reads width lanes text rest wide whole =
    ap (column_texts width) (append_assoc (lanes ++ visible text) line_end rest)
    ∙ ap (map (drop width)) (split_first (λ b. b == 10) (lanes ++ visible text) 10 rest all refl)
    ∙ ap (λ v. v ∷ column_texts width rest) label
  where
    all : list_all ends_none (lanes ++ visible text) ≡ true
    all = all_both ends_none lanes (visible text) whole (all_flat ends_none visible_byte visible_ends_none text)

    label : drop width (lanes ++ visible text) ≡ visible text
    label = ap (λ n. drop n (lanes ++ visible text)) (sym wide) ∙ drop-append_seam lanes (visible text)

mark_ends_none : (b : ℕ) → is_mark b ≡ true → ends_none b ≡ true
mark_ends_none b is = one_passes ends_none (codes " |-+o#*=!") b refl is

lines_read : (width : ℕ) (lines : List (List ℕ × List ℕ)) → list_all (λ l. (length l.0 == width) && list_all is_mark l.0) lines ≡ true
    → column_texts width (flat_map (λ l. column_line l.0 l.1) lines) ≡ map visible (map (λ l. l.1) lines) ++ [] ∷ []
lines_read width [] marks = ap (λ (last : List ℕ). last ∷ []) (drop_of_length-le [] (omega arith))
lines_read width (l ∷ lines) marks =
    let both = both_hold ((length l.0 == width) && list_all is_mark l.0) (list_all (λ m. (length m.0 == width) && list_all is_mark m.0) lines) marks in
    let own = both_hold (length l.0 == width) (list_all is_mark l.0) both.0 in
    let test = own.0 in
    let wide : length l.0 ≡ width = grind (arith, nat_tests, test) in
    line_reads width l.0 l.1 (flat_map (λ m. column_line m.0 m.1) lines) wide (all_weaker is_mark ends_none mark_ends_none l.0 own.1)
    ∙ ap (λ v. visible l.1 ∷ v) (lines_read width lines both.1)

-- what stands beside the lanes is what has to, and nothing else
pub columns_show : {facts : Facts} {ended : Ended} {bytes : List ℕ} → AreColumnsOf facts ended bytes
    → column_texts (marks_width (length ended.ends)) bytes ≡ map visible (title_of facts ∷ labels_of facts ended ++ legend) ++ [] ∷ []
columns_show {facts} {ended} r =
    let width = marks_width (length ended.ends) in
    ap (column_texts width) r.are_lines
    ∙ line_reads width (column_heads ended.ends) (title_of facts) (flat_map (λ l. column_line l.0 l.1) r.lines) (heads_width ended.ends)
    (heads_pass ends_none endless_decimal refl refl ended.ends)
    ∙ ap (λ v. visible (title_of facts) ∷ v) (lines_read width r.lines r.are_marks ∙ ap (λ v. map visible v ++ [] ∷ []) r.shows)

-- ---- what is refused

-- an escape sequence
pub no_escape : (facts : Facts) (ended : Ended) (before after : List ℕ) → AreColumnsOf facts ended (before ++ 27 ∷ after) → ⊥
no_escape facts ended before after r =
    let all = sym (list_all-append is_harmless before (27 ∷ after)) ∙ all_harmless r in
    let wrong : false ≡ true = (both_hold (list_all is_harmless before) false all).1 in
    absurd (cc wrong)

-- the head of another client
pub no_other_head : (after : List ℕ) → AreColumnsOf locks stopped_early (codes "c2   service  A run" ++ after) → ⊥
unfolding digits
no_other_head after r = let wrong : ◌≡◌ {A = ℕ} 50 49 = ap (λ l. get_or l 1 0) r.are_lines in omega (arith, wrong)

-- a word in the lanes
word_in : (after : List ℕ) (lines : List (List ℕ × List ℕ))
    → codes "c1   service  A run of the service lock\nstop 3        boot 1\n" ++ after
    ≡ column_line (column_heads stopped_early.ends) (title_of locks) ++ flat_map (λ l. column_line l.0 l.1) lines
    → list_all (λ l. (length l.0 == 14) && list_all is_mark l.0) lines ≡ true → map (λ l. l.1) lines ≡ labels_of locks stopped_early ++ legend → ⊥
unfolding digits
word_in after [] are_lines marks shows = absurd (cc shows)
word_in after (l ∷ lines) are_lines marks shows = by l.0 are_lines (both_hold ((length l.0 == 14) && list_all is_mark l.0) (list_all (λ m. (length m.0 == 14) && list_all is_mark m.0) lines) marks).0
  where
    by : (lanes : List ℕ) → codes "c1   service  A run of the service lock\nstop 3        boot 1\n" ++ after
        ≡ column_line (column_heads stopped_early.ends) (title_of locks) ++ (column_line lanes l.1 ++ flat_map (λ m. column_line m.0 m.1) lines)
        → ((length lanes == 14) && list_all is_mark lanes) ≡ true → ⊥
    by [] are_lines own = absurd (cc own)
    by (b ∷ lanes) are_lines own =
        let letter : ◌≡◌ {A = ℕ} 115 b = ap (λ bytes. get_or bytes 40 0) are_lines in
        let mark = (both_hold (is_mark b) (list_all is_mark lanes) (both_hold (length (b ∷ lanes) == 14) (list_all is_mark (b ∷ lanes)) own).1).0 in
        let wrong : false ≡ true = ap is_mark letter ∙ mark in
        absurd (cc wrong)

pub no_word : (after : List ℕ) → AreColumnsOf locks stopped_early (codes "c1   service  A run of the service lock\nstop 3        boot 1\n" ++ after) → ⊥
no_word after r = word_in after r.lines r.are_lines r.are_marks r.shows

-- What stands at the front of a text, by the table of tokens.
use Rattle.std.proofs.Common.{ℕ, suc, ◌+◌, ◌≤◌, ◌<◌, ◌≡◌, true, false, if◌then◌else◌, Option, None, Some, List, [], ◌∷◌, ◌++◌, length, take, drop, get_or, refl, sym, ap, ◌∙◌, subst, arith, inl, inr, append_assoc, lit<}
use Rattle.std.specs.Prelude.{◌==◌, not, slice_index}
use Rattle.std.specs.List.{list_all, prefix_len}
use Rattle.std.specs.Char.{is_ascii_digit}
use Rattle.std.proofs.lemmas.Bool.{and_parts, both_ways, eqb-true, eqb-false, cases_lt}
use Rattle.std.proofs.lemmas.List.{take_more, get_or_past, take_at, get_or_at, length-append}
use Rattle.std.proofs.lemmas.List.Sums.{prefix_len-le-length}
use Rattle.sg_base.specs.Text.{is_text_byte}
use Rattle.sg_lex.specs.declared.token.TokenKind.{TokenKind}
use Rattle.sg_lex.specs.declared.token.TokenKind.TheVariants.{Word, Number, Text, Mark}
use Rattle.sg_lex.specs.declared.front.Front.{Front}
use Rattle.sg_lex.specs.declared.front.Front.TheVariants.{Ended, Gap, Token, Fault}
use Rattle.sg_lex.specs.Bytes.{begins_word, is_in_word}
use Rattle.sg_lex.specs.Table.{is_blank, is_mark, IsToken, IsGap, AtMost, BeginsNothing}
use Rattle.sg_lex.specs.Fronts.{front_of, closed_after}
use Rattle.sg_lex.specs.Inside.Fronts.{quote_front, slash_front, block_front}
use Rattle.sg_lex.proofs.Runs.{take_one, all_front, all_longest, all_exact, line_ends}
use Rattle.sg_lex.proofs.Comments.{IsClosed, closed_is, closed_somewhere}
use Rattle.sg_lex.proofs.Firsts.{head_same, tail_same, not_empty, token_starts, at_most, no_token}
use Rattle.sg_lex.proofs.Fronts.{pick}

-- what it means that this stands at the front of a text
abbrev pub Means : List ℕ → Front → Type 0
Means text Ended = text ≡ []
Means text (Gap n) = (n ≤ length text) × IsGap (take n text) (drop n text)
Means text (Token kind n) = (n ≤ length text) × IsToken kind (take n text) × AtMost n text
Means text Fault = (text ≡ [] → ⊥) × BeginsNothing text

different : (m n : ℕ) → m ≡ n → m < n → ⊥
different m n e l = absurd (omega arith)

occupied : (b : ℕ) (bs : List ℕ) → b ∷ bs ≡ [] → ⊥
occupied b bs e = not_empty b bs (sym e)

word_means : (b : ℕ) (bs : List ℕ) → begins_word b ≡ true → Means (b ∷ bs) (Token Word (1 + prefix_len is_in_word bs))
word_means b bs e =
    let n : ℕ = prefix_len is_in_word bs in
    let fits : n ≤ length bs = prefix_len-le-length is_in_word bs in (
      omega arith,
      rw take_one (e, all_front is_in_word bs),
      at_most Word (1 + n) b bs e (λ cs behind p t.
          let long : length cs ≤ n = subst (λ xs. length cs ≤ prefix_len is_in_word xs) (sym p) (all_longest is_in_word cs behind t.1) in
          omega arith),
    )

number_means : (b : ℕ) (bs : List ℕ) → is_ascii_digit b ≡ true → Means (b ∷ bs) (Token Number (1 + prefix_len is_ascii_digit bs))
number_means b bs e =
    let n : ℕ = prefix_len is_ascii_digit bs in
    let fits : n ≤ length bs = prefix_len-le-length is_ascii_digit bs in (
      omega arith,
      rw (take_one, e) (all_front is_ascii_digit bs),
      at_most Number (1 + n) b bs e (λ cs behind p t.
          let long : length cs ≤ n = subst (λ xs. length cs ≤ prefix_len is_ascii_digit xs) (sym p)
          (all_longest is_ascii_digit cs behind (and_parts (is_ascii_digit b) (list_all is_ascii_digit cs) t).1) in
          omega arith),
    )

mark_means : (b : ℕ) (bs : List ℕ) → is_mark b ≡ true → Means (b ∷ bs) (Token Mark 1)
mark_means b bs e = (
  omega arith,
  (b, refl, e),
  at_most Mark 1 b bs e (λ cs behind p (c, q, a).
      let one : length (b ∷ cs) ≡ 1 = ap length q in omega arith),
)

blank_means : (b : ℕ) (bs : List ℕ) → is_blank b ≡ true → Means (b ∷ bs) (Gap 1)
blank_means b bs e = (omega arith, inl (b, refl, e))

-- a first byte that is no blank and no slash begins no blank and no comment
no_gap : (b : ℕ) (bs : List ℕ) → is_blank b ≡ false → (b ≡ 0x2F → ⊥)
    → (bytes behind : List ℕ) → b ∷ bs ≡ bytes ++ behind → IsGap bytes behind → ⊥
no_gap b bs f s bytes behind e (inl (c, q, a)) =
    let here : b ∷ bs ≡ c ∷ behind = subst (λ xs. b ∷ bs ≡ xs ++ behind) q e in
    both_ways (is_blank b) f (subst (λ x. is_blank x ≡ true) (sym (head_same b c bs behind here)) a)
no_gap b bs f s bytes behind e (inr (inl ((inner, q, a), ends))) =
    s (head_same b 0x2F bs ((0x2F ∷ inner) ++ behind) (subst (λ xs. b ∷ bs ≡ xs ++ behind) q e))
no_gap b bs f s bytes behind e (inr (inr (inner, q, first))) =
    s (head_same b 0x2F bs ((0x2A ∷ inner ++ 0x2A ∷ 0x2F ∷ []) ++ behind) (subst (λ xs. b ∷ bs ≡ xs ++ behind) q e))

-- ---- a quote

-- a text at the front has all text bytes after its quote, and then a quote
quoted : (bs cs behind : List ℕ) → bs ≡ cs ++ behind → IsToken Text (0x22 ∷ cs)
    → (length (0x22 ∷ cs) ≡ prefix_len is_text_byte bs + 2) × (get_or bs (prefix_len is_text_byte bs) 0 ≡ 0x22)
quoted bs cs behind p (inner, e, a) =
    let body : cs ≡ inner ++ 0x22 ∷ [] = tail_same 0x22 0x22 cs (inner ++ 0x22 ∷ []) e in
    let all : bs ≡ inner ++ 0x22 ∷ behind = p ∙ (ap (λ xs. xs ++ behind) body ∙ append_assoc inner (0x22 ∷ []) behind) in
    let run : prefix_len is_text_byte bs ≡ length inner = ap (prefix_len is_text_byte) all ∙ all_exact is_text_byte inner 0x22 behind a refl in
    let long : length cs ≡ length inner + 1 = ap length body ∙ length-append inner (0x22 ∷ []) in
    let quote : get_or bs (prefix_len is_text_byte bs) 0 ≡ 0x22
    = rw (run, all) (get_or_at inner 0x22 behind 0 (length inner) refl) in
    (omega arith, quote)

text_means : (bs : List ℕ) → get_or bs (prefix_len is_text_byte bs) 0 ≡ 0x22 → Means (0x22 ∷ bs) (Token Text (prefix_len is_text_byte bs + 2))
text_means bs e =
    let n : ℕ = prefix_len is_text_byte bs in
    let inside : n < length bs = elim (cases_lt n (length bs)) as (λ v. n < length bs) [
      | inl l ↦ l
      | inr l ↦ absurd (different 0 0x22 (sym (get_or_past bs n 0 l) ∙ e) (lit< tt))
    ] in
    let count : n + 2 ≡ suc (n + 1) = omega arith in
    let body : take (n + 2) (0x22 ∷ bs) ≡ 0x22 ∷ take n bs ++ 0x22 ∷ []
    = rw count (ap (λ xs. 0x22 ∷ xs) (take_more bs n 0 inside ∙ ap (λ x. take n bs ++ x ∷ []) e)) in (
      omega arith,
      (take n bs, body, all_front is_text_byte bs),
      at_most Text (n + 2) 0x22 bs refl (λ cs behind p t. let long : length (0x22 ∷ cs) ≡ n + 2 = (quoted bs cs behind p t).0 in omega arith),
    )

quote_means : (bs : List ℕ) → Means (0x22 ∷ bs) (quote_front bs)
quote_means bs =
    let n : ℕ = prefix_len is_text_byte bs in
    pick (Means (0x22 ∷ bs)) (slice_index bs n == 0x22) (Token Text (n + 2)) Fault
    (λ e. text_means bs (eqb-true (slice_index bs n) 0x22 e))
    (λ e. (
      occupied 0x22 bs,
      record {
        no_token = no_token 0x22 bs refl refl refl (λ cs behind p t. eqb-false (slice_index bs n) 0x22 e (quoted bs cs behind p t).1);
        no_gap = no_gap 0x22 bs refl (λ q. different 0x22 0x2F q (lit< tt));
      },
    ))

-- ---- a slash

slash_no_token : (bs : List ℕ) (kind : TokenKind) (bytes behind : List ℕ) → 0x2F ∷ bs ≡ bytes ++ behind → IsToken kind bytes → ⊥
slash_no_token bs = no_token 0x2F bs refl refl refl (λ cs behind p t. different 0x22 0x2F (sym (token_starts Text 0x2F cs t)) (lit< tt))

-- a slash begins no comment if neither a line comment nor a block comment goes on after it
slash_no_gap : (bs : List ℕ) → ((inner behind : List ℕ) → bs ≡ 0x2F ∷ inner ++ behind → ⊥)
    → ((inner behind : List ℕ) → bs ≡ 0x2A ∷ inner ++ 0x2A ∷ 0x2F ∷ behind → ⊥)
    → (bytes behind : List ℕ) → 0x2F ∷ bs ≡ bytes ++ behind → IsGap bytes behind → ⊥
slash_no_gap bs no_line no_block bytes behind e (inl (c, q, a)) =
    let here : 0x2F ∷ bs ≡ c ∷ behind = subst (λ xs. 0x2F ∷ bs ≡ xs ++ behind) q e in
    both_ways (is_blank 0x2F) refl (subst (λ x. is_blank x ≡ true) (sym (head_same 0x2F c bs behind here)) a)
slash_no_gap bs no_line no_block bytes behind e (inr (inl ((inner, q, a), ends))) =
    no_line inner behind (tail_same 0x2F 0x2F bs ((0x2F ∷ inner) ++ behind) (subst (λ xs. 0x2F ∷ bs ≡ xs ++ behind) q e))
slash_no_gap bs no_line no_block bytes behind e (inr (inr (inner, q, first))) =
    no_block inner behind (tail_same 0x2F 0x2F bs ((0x2A ∷ inner ++ 0x2A ∷ 0x2F ∷ []) ++ behind) (subst (λ xs. 0x2F ∷ bs ≡ xs ++ behind) q e)
    ∙ ap (λ xs. 0x2A ∷ xs) (append_assoc inner (0x2A ∷ 0x2F ∷ []) behind))

line_means : (cs : List ℕ) → Means (0x2F ∷ 0x2F ∷ cs) (Gap (2 + prefix_len (λ c. not (c == 0x0A)) cs))
line_means cs =
    let n : ℕ = prefix_len (λ c. not (c == 0x0A)) cs in
    let fits : n ≤ length cs = prefix_len-le-length (λ c. not (c == 0x0A)) cs in
    let count : 2 + n ≡ suc (suc n) = omega arith in
    (omega arith, rw count (inr (inl ((take n cs, refl, all_front (λ c. not (c == 0x0A)) cs), line_ends cs))))

block_means : (cs : List ℕ) (o : Option ℕ) → closed_after cs ≡ o → Means (0x2F ∷ 0x2A ∷ cs) (block_front o)
block_means cs None e = (
  occupied 0x2F (0x2A ∷ cs),
  record {
    no_token = slash_no_token (0x2A ∷ cs);
    no_gap = slash_no_gap (0x2A ∷ cs)
        (λ inner behind p. different 0x2A 0x2F (head_same 0x2A 0x2F cs (inner ++ behind) p) (lit< tt))
        (λ inner behind p. closed_somewhere inner behind
        (ap closed_after (sym (tail_same 0x2A 0x2A cs (inner ++ 0x2A ∷ 0x2F ∷ behind) p)) ∙ e));
  },
)
block_means cs (Some n) e =
    let was : IsClosed cs n = closed_is cs n e in
    let inner : List ℕ = was.inner in
    let count : 2 + n ≡ suc (suc n) = omega arith in
    let whole : cs ≡ (inner ++ 0x2A ∷ 0x2F ∷ []) ++ was.behind = was.parts ∙ sym (append_assoc inner (0x2A ∷ 0x2F ∷ []) was.behind) in
    let long : length (inner ++ 0x2A ∷ 0x2F ∷ []) ≡ n = omega (arith, length-append inner (0x2A ∷ 0x2F ∷ []), was.long) in
    let front : take n cs ≡ inner ++ 0x2A ∷ 0x2F ∷ [] = ap (take n) whole ∙ take_at (inner ++ 0x2A ∷ 0x2F ∷ []) was.behind n long in
    let fits : n ≤ length cs = omega (arith, ap length whole, length-append (inner ++ 0x2A ∷ 0x2F ∷ []) was.behind, long) in
    (omega arith, rw count (inr (inr (inner, ap (λ xs. 0x2F ∷ 0x2A ∷ xs) front, was.first))))

slash_means : (bs : List ℕ) → Means (0x2F ∷ bs) (slash_front bs)
slash_means [] = (
  occupied 0x2F [],
  record {
    no_token = slash_no_token [];
    no_gap = slash_no_gap [] (λ inner behind p. not_empty 0x2F (inner ++ behind) p)
        (λ inner behind p. not_empty 0x2A (inner ++ 0x2A ∷ 0x2F ∷ behind) p);
  },
)
slash_means (c ∷ cs) =
    pick (Means (0x2F ∷ c ∷ cs)) (c == 0x2F) (Gap (2 + prefix_len (λ d. not (d == 0x0A)) cs)) (if c == 0x2A then block_front (closed_after cs) else Fault)
    (λ e. subst (λ x. Means (0x2F ∷ x ∷ cs) (Gap (2 + prefix_len (λ d. not (d == 0x0A)) cs))) (sym (eqb-true c 0x2F e)) (line_means cs))
    (λ e. pick (Means (0x2F ∷ c ∷ cs)) (c == 0x2A) (block_front (closed_after cs)) Fault
    (λ f. subst (λ x. Means (0x2F ∷ x ∷ cs) (block_front (closed_after cs))) (sym (eqb-true c 0x2A f)) (block_means cs (closed_after cs) refl))
    (λ f. (
      occupied 0x2F (c ∷ cs),
      record {
        no_token = slash_no_token (c ∷ cs);
        no_gap = slash_no_gap (c ∷ cs) (λ inner behind p. eqb-false c 0x2F e (head_same c 0x2F cs (inner ++ behind) p))
            (λ inner behind p. eqb-false c 0x2A f (head_same c 0x2A cs (inner ++ 0x2A ∷ 0x2F ∷ behind) p));
      },
    )))

pub means_front : (text : List ℕ) → Means text (front_of text)
means_front [] = refl
means_front (b ∷ bs) =
    pick (Means (b ∷ bs)) (is_blank b) _ _ (λ e. blank_means b bs e)
    (λ e. pick (Means (b ∷ bs)) (begins_word b) _ _ (λ f. word_means b bs f)
    (λ f. pick (Means (b ∷ bs)) (is_ascii_digit b) _ _ (λ g. number_means b bs g)
    (λ g. pick (Means (b ∷ bs)) (is_mark b) _ _ (λ h. mark_means b bs h)
    (λ h. pick (Means (b ∷ bs)) (b == 0x22) _ _ (λ i. subst (λ x. Means (x ∷ bs) (quote_front bs)) (sym (eqb-true b 0x22 i)) (quote_means bs))
    (λ i. pick (Means (b ∷ bs)) (b == 0x2F) (slash_front bs) Fault
    (λ j. subst (λ x. Means (x ∷ bs) (slash_front bs)) (sym (eqb-true b 0x2F j)) (slash_means bs))
    (λ j. (
      occupied b bs,
      record {
        no_token = no_token b bs f g h (λ cs behind p t. eqb-false b 0x22 i (token_starts Text b cs t));
        no_gap = no_gap b bs e (eqb-false b 0x2F j);
      },
    )))))))

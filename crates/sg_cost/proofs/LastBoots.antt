-- The last boots of calls, boot by boot.
use Rattle.std.proofs.Common.{◌≡◌, ◌⊎◌, ℕ, ◌+◌, ◌≤◌, Bool, true, false, cond, ◌||◌, ◌&&◌, not, List, [], ◌∷◌, ◌++◌, length, refl, sym, ◌∙◌, ap, subst, inl, inr, arith}
use Rattle.std.specs.Prelude.{◌==◌, nat_le}
use Rattle.std.specs.List.{list_any}
use Rattle.std.proofs.lemmas.Bool.Decides.{nat_tests}
use Rattle.std.proofs.lemmas.List.Folds.{list_any-append}
use Rattle.sg_cost.proofs.Few.Lists.{both_true, neither}
use Rattle.sg_cost.specs.Inside.Pieces.{stands_in}
use Rattle.sg_cost.specs.Inside.LastBoots.{has_call, last_boot}
use Rattle.sg_facts.specs.Trace.{Boot}
use Rattle.sg_facts.specs.declared.entry.Entry.{Entry}
use Rattle.sg_report.specs.sg_hist.Reading.{is_by_guard, is_item_of, is_tagged, items_of}

-- with a boot more
pub last_boot_more : (bs : List Boot) (b : Boot) (client seq : ℕ) → last_boot (bs ++ b ∷ []) client seq ≡ cond (has_call client seq b.items) (length bs + 1) (last_boot bs client seq)
last_boot_more [] b client seq = refl
last_boot_more (x ∷ bs) b client seq = by (has_call client seq b.items) (last_boot_more bs b client seq)
  where
    by : (h : Bool) → last_boot (bs ++ b ∷ []) client seq ≡ cond h (length bs + 1) (last_boot bs client seq)
        → last_boot (x ∷ (bs ++ b ∷ [])) client seq ≡ cond h (length (x ∷ bs) + 1) (last_boot (x ∷ bs) client seq)
    by true is =
        let some : (length bs + 1 == 0) ≡ false = grind (arith, nat_tests) in
        let next : length bs + 1 + 1 ≡ length (x ∷ bs) + 1 = omega arith in
        ap (λ n. cond (n == 0) (cond (has_call client seq x.items) 1 0) (n + 1)) is ∙ ap (λ t. cond t (cond (has_call client seq x.items) 1 0) (length bs + 1 + 1)) some ∙ next
    by false is = ap (λ n. cond (n == 0) (cond (has_call client seq x.items) 1 0) (n + 1)) is

-- no boot is the last where none has the call
pub last_none : (bs : List Boot) (client seq : ℕ) → has_call client seq (items_of bs) ≡ false → last_boot bs client seq ≡ 0
last_none [] client seq none = refl
last_none (b ∷ bs) client seq none =
    let two = neither (has_call client seq b.items) (has_call client seq (items_of bs)) (sym (list_any-append (λ item. is_tagged client seq item.tag) b.items (items_of bs)) ∙ none) in
    ap (λ n. cond (n == 0) (cond (has_call client seq b.items) 1 0) (n + 1)) (last_none bs client seq two.two) ∙ ap (λ h. cond h 1 0) two.one

-- some boot is where one has it
pub last_some : (bs : List Boot) (client seq : ℕ) → has_call client seq (items_of bs) ≡ true → 1 ≤ last_boot bs client seq
last_some [] client seq some = absurd (cc some)
last_some (b ∷ bs) client seq some = by (has_call client seq (items_of bs)) (has_call client seq b.items) refl refl (sym (list_any-append (λ item. is_tagged client seq item.tag) b.items (items_of bs)) ∙ some) (last_some bs client seq)
  where
    by : (later here : Bool) → has_call client seq (items_of bs) ≡ later → has_call client seq b.items ≡ here → (has_call client seq b.items || has_call client seq (items_of bs)) ≡ true
        → (has_call client seq (items_of bs) ≡ true → 1 ≤ last_boot bs client seq) → 1 ≤ last_boot (b ∷ bs) client seq
    by true here is own any rest =
        let low = rest is in
        let test : (last_boot bs client seq == 0) ≡ false = grind (arith, nat_tests, low) in
        subst (λ t. 1 ≤ cond t (cond (has_call client seq b.items) 1 0) (last_boot bs client seq + 1)) (sym test) (omega arith)
    by false true is own any rest =
        subst (λ n. 1 ≤ cond (n == 0) (cond (has_call client seq b.items) 1 0) (n + 1)) (sym (last_none bs client seq is)) (subst (λ h. 1 ≤ cond h 1 0) (sym own) (omega arith))
    by false false is own any rest = absurd (let both : true ≡ false = sym any ∙ ap (λ h. h || has_call client seq (items_of bs)) own ∙ is in cc both)

-- it is one of them
pub last_within : (bs : List Boot) (client seq : ℕ) → last_boot bs client seq ≤ length bs
last_within [] client seq = omega arith
last_within (b ∷ bs) client seq = by (last_boot bs client seq == 0) (has_call client seq b.items) (last_within bs client seq)
  where
    by : (t h : Bool) → last_boot bs client seq ≤ length bs → cond t (cond h 1 0) (last_boot bs client seq + 1) ≤ length (b ∷ bs)
    by true true rest = omega arith
    by true false rest = omega arith
    by false h rest = omega (arith, rest)

-- where later ones don't have the call, it is one of those before
pub last_front : (bs later : List Boot) (client seq : ℕ) → has_call client seq (items_of later) ≡ false → last_boot (bs ++ later) client seq ≡ last_boot bs client seq
last_front [] later client seq none = last_none later client seq none
last_front (b ∷ bs) later client seq none = ap (λ n. cond (n == 0) (cond (has_call client seq b.items) 1 0) (n + 1)) (last_front bs later client seq none)

-- where one of them does, it is one of these
pub last_later : (bs later : List Boot) (client seq : ℕ) → has_call client seq (items_of later) ≡ true → length bs + 1 ≤ last_boot (bs ++ later) client seq
last_later [] later client seq some = last_some later client seq some
last_later (b ∷ bs) later client seq some =
    let rest = last_later bs later client seq some in
    let test : (last_boot (bs ++ later) client seq == 0) ≡ false = grind (arith, nat_tests, rest) in
    subst (λ t. length (b ∷ bs) + 1 ≤ cond t (cond (has_call client seq b.items) 1 0) (last_boot (bs ++ later) client seq + 1)) (sym test) (omega (arith, rest))

-- ---- entries

module _ (before later : List Boot) (e : Entry) where
  abbrev last : ℕ
  last = last_boot (before ++ later) e.call.client e.call.seq

  -- an answer that counts stands in the boots before
  pub counts_stands : is_by_guard e.reply ≡ false → (nat_le 1 last && nat_le last (length before)) ≡ true → stands_in before later e ≡ true
  counts_stands served counts = by (list_any (is_item_of e) (items_of later)) (list_any (is_item_of e) (items_of before)) refl refl
    where
      two : (nat_le 1 last ≡ true) × (nat_le last (length before) ≡ true)
      two = both_true (nat_le 1 last) (nat_le last (length before)) counts

      by : (l f : Bool) → list_any (is_item_of e) (items_of later) ≡ l → list_any (is_item_of e) (items_of before) ≡ f → (not (is_by_guard e.reply) && list_any (is_item_of e) (items_of before) && not (list_any (is_item_of e) (items_of later))) ≡ true
      by true f l_is f_is =
          let far = last_later before later e.call.client e.call.seq l_is in
          let near = two.1 in
          let near_is : last ≤ length before = grind (arith, nat_tests, near) in
          absurd (omega (arith, far, near_is))
      by false true l_is f_is = ap (λ g. not g && list_any (is_item_of e) (items_of before) && not (list_any (is_item_of e) (items_of later))) served ∙ ap (λ a. a && not (list_any (is_item_of e) (items_of later))) f_is ∙ ap not l_is
      by false false l_is f_is =
          let none : last ≡ 0 = last_front before later e.call.client e.call.seq l_is ∙ last_none before e.call.client e.call.seq f_is in
          let low = two.0 in
          let low_is : 1 ≤ last = grind (arith, nat_tests, low) in
          absurd (omega (arith, none, low_is))

  -- one that doesn't stands in a later one, or nowhere
  pub record StandsLater : Type 0 where
    pub not_before : stands_in before later e ≡ false
    pub nowhere : list_any (is_item_of e) (items_of later) ≡ false → list_any (is_item_of e) (items_of before) ≡ false

  pub stands_later : (nat_le 1 last && nat_le last (length before)) ≡ false → StandsLater
  stands_later counts = record { not_before = by (list_any (is_item_of e) (items_of later)) (list_any (is_item_of e) (items_of before)) refl refl; nowhere = λ none. at none (list_any (is_item_of e) (items_of before)) refl }
    where
      at : list_any (is_item_of e) (items_of later) ≡ false → (f : Bool) → list_any (is_item_of e) (items_of before) ≡ f → f ≡ false
      at none false f_is = refl
      at none true f_is =
          let same = last_front before later e.call.client e.call.seq none in
          let low = last_some before e.call.client e.call.seq f_is in
          let most = last_within before e.call.client e.call.seq in
          let one : nat_le 1 last ≡ true = let l : 1 ≤ last = omega (arith, same, low) in grind (arith, nat_tests, l) in
          let two : nat_le last (length before) ≡ true = let l : last ≤ length before = omega (arith, same, most) in grind (arith, nat_tests, l) in
          let both : true ≡ false = sym (ap (λ a. a && nat_le last (length before)) one ∙ two) ∙ counts in
          absurd (cc both)

      fails : (g f l : Bool) → (f ≡ false) ⊎ (l ≡ true) → (not g && f && not l) ≡ false
      fails true f l is = refl
      fails false f l (inl none) = ap (λ a. a && not l) none
      fails false f l (inr later) = ap (λ a. f && not a) later ∙ and_false f
        where
          and_false : (a : Bool) → (a && false) ≡ false
          and_false true = refl
          and_false false = refl

      by : (l f : Bool) → list_any (is_item_of e) (items_of later) ≡ l → list_any (is_item_of e) (items_of before) ≡ f → stands_in before later e ≡ false
      by true f l_is f_is = fails (is_by_guard e.reply) (list_any (is_item_of e) (items_of before)) (list_any (is_item_of e) (items_of later)) (inr l_is)
      by false f l_is f_is = fails (is_by_guard e.reply) (list_any (is_item_of e) (items_of before)) (list_any (is_item_of e) (items_of later)) (inl (f_is ∙ at l_is f f_is))

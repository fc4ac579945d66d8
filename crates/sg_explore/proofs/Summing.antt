-- What is counted of runs, one after the other, is what their text says.
use Rattle.std.proofs.Common.{◌≡◌, ◌∙◌, ◌≤◌, ◌<◌, ℕ, ◌+◌, Bool, true, false, ◌||◌, List, [], ◌∷◌, ◌++◌, ap, arith, cond, filter, inl, inr, length, map, max, min, nat_eq, nat_lt, refl, suc, sym, codes, lit≤, zero-add}
use Rattle.std.proofs.lemmas.Bool.{cases_Bool}
use Rattle.std.proofs.lemmas.Bool.Decides.{nat_tests}
use Rattle.std.proofs.lemmas.List.{length-map}
use Rattle.std.specs.List.{find, fold, list_any}
use Rattle.std.specs.Option.{option_map_or}
use Rattle.std.specs.declared.option.Option.{Option}
use Rattle.std.specs.declared.option.Option.TheVariants.{None, Some}
use Rattle.sg_facts.specs.Facts.{Facts}
use Rattle.sg_facts.specs.Trace.{run_of}
use Rattle.sg_facts.specs.sg_base.Counts.{last_count}
use Rattle.sg_report.specs.sg_hist.declared.ended.Ended.{Ended}
use Rattle.sg_explore.specs.Inside.Sums.{Sums, amount_of, differing_lines, first_of, most_line, one_more, raised, sums_from, sums_text, sums_with}
use Rattle.sg_explore.specs.Text.{all_ends, counted, differing_text, exploration_text, first_with, most_replays, number_line, replays_line}
use Rattle.sg_explore.specs.Tried.{Tried, has_all_stops, has_waiting, replays_in}

-- a part of what is folded is folded by itself
apart : {A : Type 0} (part : Sums → A) (g : A → Tried → A) → ((s : Sums) (t : Tried) → part (sums_with s t) ≡ g (part s) t) → (s : Sums) (ts : List Tried)
    → part (fold sums_with s ts) ≡ fold g (part s) ts
apart part g each s [] = refl
apart part g each s (t ∷ ts) = apart part g each (sums_with s t) ts ∙ ap (λ a. fold g a ts) (each s t)

-- ---- counts

-- a count of those that meet a test, up to a greatest number
count_more : (p : Tried → Bool) (top n : ℕ) (ts : List Tried) → n ≤ top → fold (λ n t. cond (p t) (min (n + 1) top) n) n ts ≡ min (n + length (filter p ts)) top
count_more p top n [] most = omega arith
count_more p top n (t ∷ ts) most =
    elim (p t) as (λ b. fold (λ n t. cond (p t) (min (n + 1) top) n) (cond b (min (n + 1) top) n) ts ≡ min (n + length (cond b (t ∷ filter p ts) (filter p ts))) top) [
      | true ↦ count_more p top (min (n + 1) top) ts (omega arith) ∙ (let e : min (min (n + 1) top + length (filter p ts)) top ≡ min (n + length (t ∷ filter p ts)) top = omega arith in e)
      | false ↦ count_more p top n ts most
    ]

-- the same, where each is counted
count_all : (top n : ℕ) (ts : List Tried) → n ≤ top → fold (λ n t. min (n + 1) top) n ts ≡ min (n + length ts) top
count_all top n [] most = omega arith
count_all top n (t ∷ ts) most =
    count_all top (min (n + 1) top) ts (omega arith) ∙ (let e : min (min (n + 1) top + length ts) top ≡ min (n + length (t ∷ ts)) top = omega arith in e)

-- ---- the greatest number of replayed calls

-- a number comes after a greatest one, and then the greatest of others
step : (m : Option (ℕ × List ℕ)) (stops firsts : List ℕ) (x g : ℕ) (first : ℕ → List ℕ) → first g ≡ firsts
    → raised (raised m stops x) firsts g ≡ raised m (cond (nat_eq x (max x g)) stops (first (max x g))) (max x g)
step m stops firsts x g first is = elim (cases_Bool (nat_lt x g)) [
  | inl above ↦
      let less : x < g = grind (arith, nat_tests) in
      let top : max x g ≡ g = omega arith in
      let other : nat_eq x g ≡ false = grind (arith, nat_tests) in
      rw (top, other, is) (elim (cases_Bool (nat_lt (amount_of m) x)) [
        | inl grows ↦
            let far : nat_lt (amount_of m) g ≡ true = grind (arith, nat_tests) in
            rw (grows, above, far) refl
        | inr stays ↦ rw stays refl
      ])
  | inr below ↦
      let most : g ≤ x = grind (arith, nat_tests) in
      let top : max x g ≡ x = omega arith in
      let same : nat_eq x x ≡ true = grind (arith, nat_tests) in
      rw (top, same) (elim (cases_Bool (nat_lt (amount_of m) x)) [
        | inl grows ↦ rw (grows, below) refl
        | inr stays ↦
            let short : nat_lt (amount_of m) g ≡ false = grind (arith, nat_tests) in
            rw (stays, short) refl
      ])
]

-- the stops of the first with so many replayed calls, where it comes at once or later
first_later : (n : ℕ) (t : Tried) (ts : List Tried) → first_with n (t ∷ ts) ≡ cond (nat_eq (replays_in t.ended) n) t.stops (first_with n ts)
first_later n t ts =
    elim (nat_eq (replays_in t.ended) n) as (λ b. option_map_or (λ (t : Tried). t.stops) (cond b (Some t) (find (λ t. nat_eq (replays_in t.ended) n) ts)) [] ≡ cond b t.stops (first_with n ts)) [
      | true ↦ refl
      | false ↦ refl
    ]

-- the greatest of all comes after the greatest so far
raised_by : (m : Option (ℕ × List ℕ)) (ts : List Tried)
    → fold (λ m t. raised m t.stops (replays_in t.ended)) m ts ≡ raised m (first_with (most_replays ts) ts) (most_replays ts)
raised_by m [] =
    let none : nat_lt (amount_of m) 0 ≡ false = grind (arith, nat_tests) in
    rw none refl
raised_by m (t ∷ ts) =
    raised_by (raised m t.stops (replays_in t.ended)) ts
    ∙ step m t.stops (first_with (most_replays ts) ts) (replays_in t.ended) (most_replays ts) (λ n. first_with n ts) refl
    ∙ ap (λ stops. raised m stops (max (replays_in t.ended) (most_replays ts))) (sym (first_later (max (replays_in t.ended) (most_replays ts)) t ts))

-- its line
most_tells : (firsts : List ℕ) (g : ℕ) → most_line (raised None firsts g) ≡ cond (nat_eq g 0) (number_line (codes "replays ") 0) (most_line (Some (g, firsts)))
most_tells firsts g = elim (cases_Bool (nat_lt 0 g)) [
  | inl some ↦
      let other : nat_eq g 0 ≡ false = grind (arith, nat_tests) in
      rw (some, other) refl
  | inr none ↦
      let zero_of : nat_eq g 0 ≡ true = grind (arith, nat_tests) in
      rw (none, zero_of) refl
]

-- ---- the first that differs

-- it stays
first_stays : (first : Tried) (ts : List Tried) → fold first_of (Some first) ts ≡ Some first
first_stays first [] = refl
first_stays first (t ∷ ts) = first_stays first ts

-- what is printed of those that differ
differing_tells : (facts : Facts) (ts : List Tried)
    → differing_lines facts (counted (filter (λ t. t.differs) ts)) (fold first_of None ts) ≡ differing_text facts (filter (λ t. t.differs) ts)
differing_tells facts [] = refl
differing_tells facts (t ∷ ts) =
    elim (t.differs) as (λ b. differing_lines facts (counted (cond b (t ∷ filter (λ t. t.differs) ts) (filter (λ t. t.differs) ts))) (fold first_of (cond b (Some t) None) ts)
    ≡ differing_text facts (cond b (t ∷ filter (λ t. t.differs) ts) (filter (λ t. t.differs) ts))) [
      | true ↦ ap (λ o. differing_lines facts (counted (t ∷ filter (λ t. t.differs) ts)) o) (first_stays t ts)
      | false ↦ differing_tells facts ts
    ]

-- ---- who waits

-- what ends of runs meet a test
waiting_ends : (ts : List Tried) → length (filter has_waiting (map (λ t. t.ended) ts)) ≡ length (filter (λ t. has_waiting t.ended) ts)
waiting_ends [] = refl
waiting_ends (t ∷ ts) =
    elim (has_waiting t.ended) as (λ b. length (cond b (t.ended ∷ filter has_waiting (map (λ t. t.ended) ts)) (filter has_waiting (map (λ t. t.ended) ts)))
    ≡ length (cond b (t ∷ filter (λ t. has_waiting t.ended) ts) (filter (λ t. has_waiting t.ended) ts))) [
      | true ↦ ap suc (waiting_ends ts)
      | false ↦ waiting_ends ts
    ]

-- some end meets a test where one is counted
some_waits : (ends : List Ended) → list_any has_waiting ends ≡ nat_lt 0 (length (filter has_waiting ends))
some_waits [] = grind (arith, nat_tests)
some_waits (e ∷ ends) =
    elim (has_waiting e) as (λ b. (b || list_any has_waiting ends) ≡ nat_lt 0 (length (cond b (e ∷ filter has_waiting ends) (filter has_waiting ends)))) [
      | true ↦ (let one : true ≡ nat_lt 0 (length (e ∷ filter has_waiting ends)) = grind (arith, nat_tests) in one)
      | false ↦ some_waits ends
    ]

-- ---- the text

-- how many ends wait, the play without stops counted
blocked_tells : (plain : Ended) (others : List Tried)
    → fold (λ n t. one_more (has_waiting t.ended) n) (one_more (has_waiting plain) 0) others ≡ counted (filter has_waiting (all_ends plain others))
blocked_tells plain others =
    elim (has_waiting plain) as (λ b. fold (λ n t. one_more (has_waiting t.ended) n) (one_more b 0) others
    ≡ min (length (cond b (plain ∷ filter has_waiting (map (λ t. t.ended) others)) (filter has_waiting (map (λ t. t.ended) others)))) last_count) [
      | true ↦
          let same = waiting_ends others in
          count_more (λ t. has_waiting t.ended) last_count 1 others (lit≤ tt)
          ∙ (let e : min (1 + length (filter (λ (t : Tried). has_waiting t.ended) others)) last_count ≡ min (length (plain ∷ filter has_waiting (map (λ (t : Tried). t.ended) others))) last_count = ap (λ n. min n last_count) (omega (arith, same)) in e)
      | false ↦
          let same = waiting_ends others in
          count_more (λ t. has_waiting t.ended) last_count 0 others (lit≤ tt)
          ∙ (let e : min (0 + length (filter (λ (t : Tried). has_waiting t.ended) others)) last_count ≡ min (length (filter has_waiting (map (λ (t : Tried). t.ended) others))) last_count = ap (λ n. min n last_count) (omega (arith, same)) in e)
    ]

-- equal parts are printed alike
same_parts : (facts : Facts) (points : ℕ) (s : Sums) (runs stopped blocked : ℕ) (most differing : List ℕ)
    → s.runs ≡ runs → s.stopped ≡ stopped → most_line s.most ≡ most → s.blocked ≡ blocked → differing_lines facts s.differing s.first ≡ differing
    → sums_text facts points s
    ≡ number_line (codes "points ") points ++ number_line (codes "runs ") runs ++ number_line (codes "stops ") stopped ++ most ++ number_line (codes "blocked ") blocked ++ differing
same_parts facts points s runs stopped blocked most differing r st m b d = rw (r, st, m, b, d) refl

-- sums of runs are printed as the runs are
pub text_tells : (facts : Facts) (plain : Ended) (others : List Tried) (s : Sums) → s ≡ fold sums_with (sums_from plain) others
    → sums_text facts (run_of plain.trace).points s ≡ exploration_text facts plain others
text_tells facts plain others s is =
    let all : Sums = fold sums_with (sums_from plain) others in
    ap (sums_text facts (run_of plain.trace).points) is
    ∙ same_parts facts (run_of plain.trace).points all (counted (all_ends plain others)) (counted (filter has_all_stops others)) (counted (filter has_waiting (all_ends plain others)))
    (replays_line others) (differing_text facts (filter (λ t. t.differs) others))
    (apart (λ s. s.runs) (λ n t. one_more true n) (λ s t. refl) (sums_from plain) others ∙ count_all last_count 1 others (lit≤ tt)
    ∙ (let e : min (1 + length others) last_count ≡ min (suc (length (map (λ (t : Tried). t.ended) others))) last_count = ap (λ n. min n last_count) (omega (arith, length-map others (λ (t : Tried). t.ended))) in e))
    (apart (λ s. s.stopped) (λ n t. one_more (has_all_stops t) n) (λ s t. refl) (sums_from plain) others ∙ count_more has_all_stops last_count 0 others (lit≤ tt)
    ∙ ap (λ n. min n last_count) (zero-add (length (filter has_all_stops others))))
    (ap most_line (apart (λ s. s.most) (λ m t. raised m t.stops (replays_in t.ended)) (λ s t. refl) (sums_from plain) others ∙ raised_by None others)
    ∙ most_tells (first_with (most_replays others) others) (most_replays others))
    (apart (λ s. s.blocked) (λ n t. one_more (has_waiting t.ended) n) (λ s t. refl) (sums_from plain) others ∙ blocked_tells plain others)
    (let n = apart (λ s. s.differing) (λ n t. one_more t.differs n) (λ s t. refl) (sums_from plain) others ∙ count_more (λ t. t.differs) last_count 0 others (lit≤ tt)
    ∙ ap (λ n. min n last_count) (zero-add (length (filter (λ (t : Tried). t.differs) others))) in
    let f = apart (λ s. s.first) (λ o t. first_of o t) (λ s t. refl) (sums_from plain) others in
    ap (λ n. differing_lines facts n all.first) n ∙ ap (differing_lines facts (counted (filter (λ (t : Tried). t.differs) others))) f ∙ differing_tells facts others)

-- sums count somebody who waits where some end has one
pub waits_tells : (plain : Ended) (others : List Tried) (s : Sums) → s ≡ fold sums_with (sums_from plain) others → nat_lt 0 s.blocked ≡ list_any has_waiting (all_ends plain others)
waits_tells plain others s is =
    let count : s.blocked ≡ counted (filter has_waiting (all_ends plain others)) =
    ap (λ (s : Sums). s.blocked) is ∙ apart (λ s. s.blocked) (λ n t. one_more (has_waiting t.ended) n) (λ s t. refl) (sums_from plain) others ∙ blocked_tells plain others in
    let some = some_waits (all_ends plain others) in
    ap (nat_lt 0) count ∙ positive (length (filter has_waiting (all_ends plain others))) ∙ sym some
  where
    positive : (n : ℕ) → nat_lt 0 (min n last_count) ≡ nat_lt 0 n
    positive n = elim (cases_Bool (nat_lt 0 n)) [
      | inl above ↦
          let m : 0 < min n last_count = let p : 0 < n = grind (arith, nat_tests) in omega arith in
          let t : nat_lt 0 (min n last_count) ≡ true = grind (arith, nat_tests) in
          t ∙ sym above
      | inr none ↦
          let m : min n last_count ≡ 0 = let p : n ≤ 0 = grind (arith, nat_tests) in omega arith in
          let t : nat_lt 0 (min n last_count) ≡ false = rw m (grind (arith, nat_tests)) in
          t ∙ sym none
    ]

-- Lines, made one after the other.
use Rattle.std.proofs.Common.{◌≡◌, ◌⊎◌, ℕ, ◌+◌, ◌^◌, ◌<◌, ◌≤◌, Bool, true, false, List, [], ◌∷◌, ◌++◌, None, Some, length, get_or, refl, sym, ◌∙◌, ap, subst, inl, inr, arith}
use Rattle.std.specs.Prelude.{◌==◌, if◌then◌else◌, nat_le, IfSome}
use Rattle.std.specs.declared.option.Option.{Option}
use Rattle.std.specs.declared.cmp.Ordering.TheVariants.{Less}
use Rattle.std.proofs.lemmas.Bool.{and_parts, cases_Bool}
use Rattle.std.proofs.lemmas.Bool.Decides.{eqb_tells, nat_tests}
use Rattle.std.proofs.lemmas.List.Elements.{Contains-append_cases}
use Rattle.std.proofs.lemmas.List.Quantifiers.{all_pairs_push}
use Rattle.std.proofs.lemmas.Option.{slice_get-get_or}
use Rattle.sg_check.specs.sg_facts.declared.shape.Leaves.{Leaves}
use Rattle.sg_check.specs.sg_facts.declared.shape.Leaves.TheVariants.{Own, Same, Of}
use Rattle.sg_check.specs.sg_facts.declared.tables.WalkLine.{WalkLine}
use Rattle.sg_check.specs.sg_facts.Facts.{fun_at}
use Rattle.sg_check.specs.sg_facts.Inside.Rows.{left_by}
use Rattle.sg_check.specs.sg_facts.Fields.{number_of}
use Rattle.sg_check.specs.sg_facts.Fits.{Fits}
use Rattle.sg_check.specs.sg_facts.Inside.Walking.{LeavesDeclared, is_for, line_order}
use Rattle.sg_check.specs.sg_facts.Interface.{Declared, declares}
use Rattle.sg_check.specs.sg_facts.Tables.{AreTables, walk_of}
use Rattle.sg_check.specs.sg_facts.Walks.{IsReachable, IsWalkOf, made, moved, restores}
use Rattle.sg_check.specs.sg_walk.LeastWalks.{AreLeastWalks, IsTheWalk, walk_at}
use Rattle.sg_check.proofs.sg_facts.Halving.{not_found, of_before}
use Rattle.sg_check.proofs.sg_walk.ReachedStates.Closure.{there}
use Rattle.sg_check.proofs.sg_walk.ReachedStates.Marks.{only}
use Rattle.sg_check.proofs.sg_walk.ReachedStates.Reaching.{made_declared, place_reached}
use Rattle.sg_check.specs.Shapes.{IsSmall}
use Rattle.sg_check.proofs.Seeking.{walked_set}
use Rattle.sg_stub.specs.Inside.Lines.{AreBefore, IsBefore, IsGood, IsLineOf}
use Rattle.sg_stub.specs.Inside.Triples.{AreIn, IsReachedBy, has_triple}

-- ---- what descriptors can come to is within bounds

module _ (i : Declared) (fits : Fits i) (small : IsSmall i) where
  fun_within : (fun : ℕ) → declares i fun ≡ true → (1 ≤ fun) × (fun ≤ 32)
  fun_within fun declared =
      let one : 1 ≤ fun = grind (arith, nat_tests, (and_parts (nat_le 1 fun) _ declared).0) in
      let most : fun ≤ length i.facts.funs = fits.funs fun declared in
      let few : length i.facts.funs ≤ 32 = small.funs in
      (one, omega (arith, most, few))

  left_declared : (l : Leaves) (fun state : ℕ) → LeavesDeclared i l → declares i fun ≡ true → declares i state ≡ true → declares i (left_by l fun state) ≡ true
  left_declared Own fun state leaves one other = one
  left_declared Same fun state leaves one other = other
  left_declared (Of another) fun state leaves one other = leaves

  state_declared : (by state : ℕ) (set : List Bool) → IsReachable i by state set → declares i state ≡ true
  state_declared by state set (made fun set' declared creation leads) = left_declared (fun_at i.facts.funs fun).leaves fun fun (fits.leaves_declared fun declared) declared declared
  state_declared by state set (moved by' fun state' old new reached moves goes_on leads) =
      let both = fits.moves_declared state' fun moves in
      left_declared (fun_at i.facts.funs fun).leaves fun state' (fits.leaves_declared fun both.1) both.1 (state_declared by' state' old reached)

  pub made_within : (by state : ℕ) (set : List Bool) → IsReachable i by state set → (1 ≤ by) × (by ≤ 32)
  made_within by state set reached = fun_within by (made_declared i by state set reached)

  state_within : (by state : ℕ) (set : List Bool) → IsReachable i by state set → (1 ≤ state) × (state ≤ 32)
  state_within by state set reached = fun_within state (state_declared by state set reached)

  set_within : (by state : ℕ) (set : List Bool) → IsReachable i by state set → number_of set < 2 ^ length i.facts.fields
  set_within by state set reached = (place_reached i by state set reached).0

-- ---- the walk of a line after others

walk_kept : (lines : List WalkLine) (x : WalkLine) (m s k : ℕ) (walk : List ℕ) → walk_of lines m s k ≡ Some walk → walk_of (lines ++ x ∷ []) m s k ≡ Some walk
walk_kept [] x m s k walk is = absurd (cc is)
walk_kept (l ∷ lines) x m s k walk is = elim (cases_Bool (is_for m s k l)) [
  | inl here ↦
      let own : Some l.walk ≡ Some walk = ap (λ b. if b then Some l.walk else walk_of lines m s k) (sym here) ∙ is in
      ap (λ b. if b then Some l.walk else walk_of (lines ++ x ∷ []) m s k) here ∙ own
  | inr elsewhere ↦
      let rest : walk_of lines m s k ≡ Some walk = ap (λ b. if b then Some l.walk else walk_of lines m s k) (sym elsewhere) ∙ is in
      ap (λ b. if b then Some l.walk else walk_of (lines ++ x ∷ []) m s k) elsewhere ∙ walk_kept lines x m s k walk rest
]

walk_last : (lines : List WalkLine) (x : WalkLine) (m s k : ℕ) → walk_of lines m s k ≡ None → walk_of (lines ++ x ∷ []) m s k ≡ walk_of (x ∷ []) m s k
walk_last [] x m s k none = refl
walk_last (l ∷ lines) x m s k none = elim (cases_Bool (is_for m s k l)) [
  | inl here ↦
      let no : Some l.walk ≡ None = ap (λ b. if b then Some l.walk else walk_of lines m s k) (sym here) ∙ none in
      absurd (cc no)
  | inr elsewhere ↦
      let rest : walk_of lines m s k ≡ None = ap (λ b. if b then Some l.walk else walk_of lines m s k) (sym elsewhere) ∙ none in
      ap (λ b. if b then Some l.walk else walk_of (lines ++ x ∷ []) m s k) elsewhere ∙ walk_last lines x m s k rest
]

same_true : (a b : ℕ) → a ≡ b → (a == b) ≡ true
same_true a b is = elim (eqb_tells a b) [ inl same ↦ same.0 | inr other ↦ absurd (other.1 is) ]

own_walk : (x : WalkLine) (m s k : ℕ) → x.made ≡ m → x.state ≡ s → x.mask ≡ k → walk_of (x ∷ []) m s k ≡ Some x.walk
own_walk x m s k first second third =
    let at : is_for m s k x ≡ true = rw (same_true x.made m first, same_true x.state s second, same_true x.mask k third) refl in
    ap (λ b. if b then Some x.walk else None) at

-- ---- one place after the other

at_or_before : (a b c m s k : ℕ) → IsBefore a b c m s (k + 1) → IsBefore a b c m s k ⊎ ((a ≡ m) × (b ≡ s) × (c ≡ k))
at_or_before a b c m s k before = elim before [
  | inl first ↦ inl (inl first)
  | inr rest ↦ elim rest [
    | inl second ↦ inl (inr (inl second))
    | inr third ↦ elim (eqb_tells c k) [
      | inl same ↦ inr (third.0, third.1, same.1)
      | inr other ↦ inl (inr (inr (third.0, third.1, omega (arith, third.2, other.1))))
    ]
  ]
]

later_set : (a b c m s k : ℕ) → IsBefore a b c m s k → IsBefore a b c m s (k + 1)
later_set a b c m s k before = elim before [
  | inl first ↦ inl first
  | inr rest ↦ elim rest [ inl second ↦ inr (inl second) | inr third ↦ inr (inr (third.0, third.1, omega (arith, third.2))) ]
]

module _ (i : Declared) (lines : List WalkLine) (m s k : ℕ) (are : AreBefore i lines m s k) where
  stands_before : (n : ℕ) (d : WalkLine) → n < length lines → line_order (get_or lines n d) m s k ≡ Less
  stands_before n d within = of_before (get_or lines n d) m s k (are.each (get_or lines n d) (there lines n (get_or lines n d) (slice_get-get_or lines n d within))).0

  none_yet : walk_of lines m s k ≡ None
  none_yet = not_found m s k lines (length lines) (λ n d low within. stands_before n d within, λ n d low within. absurd (omega (arith, low, within)))

  -- a line more
  pub line_added : (line : WalkLine) → IsLineOf i m s k line → AreBefore i (lines ++ line ∷ []) m s (k + 1)
  line_added line is = record {
    each = λ x has. elim (Contains-append_cases lines (line ∷ []) x has) [
      | inl before ↦ let e = are.each x before in (later_set x.made x.state x.mask m s k e.0, e.1)
      | inr last ↦
          let same : x ≡ line = only line x last in
          subst (λ y. IsBefore y.made y.state y.mask m s (k + 1) × IsGood i y) (sym same)
          (inr (inr (is.made_is, is.state_is, omega (arith, is.mask_is))), is.good)
    ];
    all = λ a b set reached before. elim (at_or_before a b (number_of set) m s k before) [
      | inl earlier ↦ let w = are.all a b set reached earlier in (w.0, walk_kept lines line a b (number_of set) w.0 w.1)
      | inr at ↦
          let own : walk_of (lines ++ line ∷ []) m s k ≡ Some line.walk = walk_last lines line m s k none_yet ∙ own_walk line m s k is.made_is is.state_is is.mask_is in (
            line.walk,
            ap (λ n. walk_of (lines ++ line ∷ []) n b (number_of set)) at.0 ∙ ap (λ n. walk_of (lines ++ line ∷ []) m n (number_of set)) at.1
                ∙ ap (λ n. walk_of (lines ++ line ∷ []) m s n) at.2 ∙ own,
          )
    ];
    ascending = all_pairs_push (λ x y. line_order x y.made y.state y.mask ≡ Less) lines line are.ascending
        (λ n d within. ap (λ a. line_order (get_or lines n d) a line.state line.mask) is.made_is ∙ ap (λ a. line_order (get_or lines n d) m a line.mask) is.state_is
        ∙ ap (λ a. line_order (get_or lines n d) m s a) is.mask_is ∙ stands_before n d within);
  }

  -- none
  pub none_added : (IsReachedBy i m s k → ⊥) → AreBefore i lines m s (k + 1)
  none_added isn't = record {
    each = λ x has. let e = are.each x has in (later_set x.made x.state x.mask m s k e.0, e.1);
    all = λ a b set reached before. elim (at_or_before a b (number_of set) m s k before) [
      | inl earlier ↦ are.all a b set reached earlier
      | inr at ↦ absurd (isn't (set, at.2, subst (λ n. IsReachable i m n set) at.1 (subst (λ n. IsReachable i n b set) at.0 reached)))
    ];
    ascending = are.ascending;
  }

-- what isn't in the set of all isn't reached
pub not_reached : (i : Declared) (triples : List (ℕ × ℕ × ℕ)) (m s k : ℕ) → AreIn i triples → has_triple triples m s k ≡ false → IsReachedBy i m s k → ⊥
not_reached i triples m s k all isn't reached = let is = (all m s k).1 reached in cc (is, isn't)

module _ (i : Declared) (fits : Fits i) (small : IsSmall i) where
  -- nothing yet
  pub none_before : AreBefore i [] 1 1 0
  none_before = record {
    each = λ x has. absurd (omega (arith, has.1));
    all = λ a b set reached before.
        let first = made_within i fits small a b set reached in
        let second = state_within i fits small a b set reached in
        elim before [
          | inl less ↦ absurd (omega (arith, less, first.0))
          | inr rest ↦ elim rest [ inl less ↦ absurd (omega (arith, less.1, second.0)) | inr less ↦ absurd (omega (arith, less.2)) ]
        ];
    ascending = λ n j d less within. absurd (omega (arith, within));
  }

  -- all sets of a state
  pub next_state : (lines : List WalkLine) (m s : ℕ) → AreBefore i lines m s (2 ^ length i.facts.fields) → AreBefore i lines m (s + 1) 0
  next_state lines m s are = record {
    each = λ x has. let e = are.each x has in (
      elim e.0 [
        | inl first ↦ inl first
        | inr rest ↦ elim rest [ inl second ↦ inr (inl (second.0, omega (arith, second.1))) | inr third ↦ inr (inl (third.0, omega (arith, third.1))) ]
      ],
      e.1,
    );
    all = λ a b set reached before. elim before [
      | inl first ↦ are.all a b set reached (inl first)
      | inr rest ↦ elim rest [
        | inl second ↦ elim (eqb_tells b s) [
          | inl same ↦ are.all a b set reached (inr (inr (second.0, same.1, set_within i fits small a b set reached)))
          | inr other ↦ are.all a b set reached (inr (inl (second.0, omega (arith, second.1, other.1))))
        ]
        | inr third ↦ absurd (omega (arith, third.2))
      ]
    ];
    ascending = are.ascending;
  }

  -- all states of a creation
  pub next_made : (lines : List WalkLine) (m : ℕ) → AreBefore i lines m 33 0 → AreBefore i lines (m + 1) 1 0
  next_made lines m are = record {
    each = λ x has. let e = are.each x has in (
      elim e.0 [
        | inl first ↦ inl (omega (arith, first))
        | inr rest ↦ elim rest [ inl second ↦ inl (omega (arith, second.0)) | inr third ↦ inl (omega (arith, third.0)) ]
      ],
      e.1,
    );
    all = λ a b set reached before.
        let within = state_within i fits small a b set reached in
        elim before [
          | inl first ↦ elim (eqb_tells a m) [
            | inl same ↦ are.all a b set reached (inr (inl (same.1, omega (arith, within.1))))
            | inr other ↦ are.all a b set reached (inl (omega (arith, first, other.1)))
          ]
          | inr rest ↦ elim rest [ inl second ↦ absurd (omega (arith, second.1, within.0)) | inr third ↦ absurd (omega (arith, third.2)) ]
        ];
    ascending = are.ascending;
  }

  -- all creations
  pub all_made : (lines : List WalkLine) → AreBefore i lines 33 1 0 → AreTables i lines
  all_made lines are = record {
    fits = fits;
    each = λ x has. (are.each x has).1;
    all = λ a b set reached. let within = made_within i fits small a b set reached in are.all a b set reached (inl (omega (arith, within.1)));
    ascending = are.ascending;
  }

-- the least walk for a triple that is reached makes its line
pub line_good : (i : Declared) (m s k : ℕ) (found : Option (List ℕ)) (walk : List ℕ) → IsReachedBy i m s k → found ≡ Some walk
    → IfSome found (λ w. (set : List Bool) × (number_of set ≡ k) × IsWalkOf i w m s set) → IsGood i (record { made = m; state = s; mask = k; walk = walk })
line_good i m s k found walk reached is least =
    let w = subst (λ o. IfSome o (λ x. (set : List Bool) × (number_of set ≡ k) × IsWalkOf i x m s set)) is least in
    let same : w.0 ≡ reached.0 = walked_set i m s reached.0 w.0 walk reached.2 w.2.restored (w.1 ∙ sym reached.1) in
    (reached.0, reached.1, reached.2, subst (IsWalkOf i walk m s) same w.2)

-- a walk stands at each triple that is reached
pub walk_stands : (i : Declared) (walks : List ((ℕ × ℕ × ℕ) × List ℕ)) (m s k : ℕ) → Fits i → AreLeastWalks i walks → IsReachedBy i m s k
    → (walk : List ℕ) × (walk_at walks m s k ≡ Some walk)
walk_stands i walks m s k fits are reached = by (walk_at walks m s k) refl
  where
    by : (o : Option (List ℕ)) → walk_at walks m s k ≡ o → (walk : List ℕ) × (walk_at walks m s k ≡ Some walk)
    by (Some walk) is = (walk, is)
    by None is =
        let none : IsTheWalk i m s k None = subst (IsTheWalk i m s k) is (are m s k) in
        let w = fits.walks m s reached.0 reached.2 in
        let not_so : restores i w.0 s reached.0 ≡ false = none w.0 reached.0 w.1 w.3 reached.1 in
        absurd (cc (not_so, w.2))

-- and makes its line
pub line_stands : (i : Declared) (walks : List ((ℕ × ℕ × ℕ) × List ℕ)) (m s k : ℕ) (line : WalkLine) → AreLeastWalks i walks → IsReachedBy i m s k
    → walk_at walks m s k ≡ Some line.walk → line ≡ record { made = m; state = s; mask = k; walk = line.walk } → IsLineOf i m s k line
line_stands i walks m s k line are reached at same =
    let it : IsTheWalk i m s k (Some line.walk) = subst (IsTheWalk i m s k) at (are m s k) in
    let made : IsLineOf i m s k (record { made = m; state = s; mask = k; walk = line.walk }) = record {
      made_is = refl;
      state_is = refl;
      mask_is = refl;
      good = line_good i m s k (Some line.walk) line.walk reached refl it;
    } in subst (IsLineOf i m s k) (sym same) made

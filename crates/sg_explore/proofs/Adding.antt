-- Runs are added one after the other.
use Rattle.std.proofs.Common.{◌≡◌, ◌∙◌, ℕ, ◌+◌, ◌-◌, Bool, true, false, ◌&&◌, List, [], ◌∷◌, ◌++◌, add-zero, ap, arith, cond, map, min, subst, suc, sym, refl, zero, zero-add}
use Rattle.std.proofs.lemmas.Grind.{flat_map-append}
use Rattle.std.proofs.lemmas.List.{append-nil, map-append}
use Rattle.std.proofs.lemmas.List.Sums.{fold-append}
use Rattle.std.specs.List.{flat_map, fold, range_with_len}
use Rattle.std.specs.Option.{is_none}
use Rattle.std.specs.declared.option.Option.{Option}
use Rattle.std.specs.declared.option.Option.TheVariants.{None, Some}
use Rattle.sg_facts.specs.sg_base.Lists.{Each}
use Rattle.sg_explore.specs.declared.outcomes.Outcome.{Outcome}
use Rattle.sg_explore.specs.Inside.Adding.{Adds, IsOutcomeOf}
use Rattle.sg_explore.specs.Inside.Stopping.{behind, row_of}
use Rattle.sg_explore.specs.Inside.Sums.{Sums, counted_with, first_of, first_tried, outcome_of, sums_with}
use Rattle.sg_explore.specs.declared.tally.Shown.{Shown}
use Rattle.sg_explore.specs.Tried.{Tried, stops_tried}

each_of_both : (P : Tried → Type 0) (xs ys : List Tried) → Each P xs → Each P ys → Each P (xs ++ ys)
each_of_both P [] ys a b = b
each_of_both P (x ∷ xs) ys a b = (a.0, each_of_both P xs ys a.1 b)

module _ (P : Tried → Type 0) where
  -- none
  pub adds_none : (s : Sums) → Adds P [] s s
  adds_none s = record { others = []; tried = refl; each = tt; sums = refl }

  -- one
  pub adds_one : (t : Tried) (stops : List ℕ) (before now : Sums) → t.stops ≡ stops → P t → now ≡ sums_with before t → Adds P (stops ∷ []) before now
  adds_one t stops before now its is sums = record { others = t ∷ []; tried = ap (λ v. v ∷ []) its; each = (is, tt); sums = sums }

  -- some, and then others
  pub adds_more : (xs ys : List (List ℕ)) (before mid now : Sums) → Adds P xs before mid → Adds P ys mid now → Adds P (xs ++ ys) before now
  adds_more xs ys before mid now x y = record {
    others = x.others ++ y.others;
    tried = map-append (λ (t : Tried). t.stops) x.others y.others ∙ ap (λ v. v ++ map (λ (t : Tried). t.stops) y.others) x.tried ∙ ap (λ v. xs ++ v) y.tried;
    each = each_of_both P x.others y.others x.each y.each;
    sums = y.sums ∙ ap (λ s. fold sums_with s y.others) x.sums ∙ sym (fold-append sums_with before x.others y.others);
  }

  -- one of which this is kept, where it isn't the first that differs
  first_kept : (first : Option Tried) (t : Tried) → (t.differs && is_none first) ≡ false → first_of first t ≡ first
  first_kept (Some first) t off = refl
  first_kept None t off = elim (t.differs) as (λ b. (b && true) ≡ false → cond b (Some t) None ≡ None) [
    | true ↦ λ e. absurd (cc e)
    | false ↦ λ e. refl
  ] off

  pub adds_kept : (stops : List ℕ) (o : Outcome) (before now : Sums) → IsOutcomeOf P stops o → (o.differs && is_none before.first) ≡ false
      → now ≡ counted_with before stops o → Adds P (stops ∷ []) before now
  adds_kept stops o before now is later sums =
      let t = is.run in
      adds_one t stops before now is.its is.is
      (sums ∙ ap (λ v. counted_with before v o) (sym is.its) ∙ ap (λ v. counted_with before t.stops v) is.kept
      ∙ ap (λ f. record (counted_with before t.stops (outcome_of t)) { first = f })
      (sym (first_kept before.first t (ap (λ (v : Outcome). v.differs && is_none before.first) (sym is.kept) ∙ later))))

-- ---- rows

-- numbers in a row are some, and then others
range_of_both : (from a b : ℕ) → range_with_len from (a + b) ≡ range_with_len from a ++ range_with_len (from + a) b
range_of_both from zero b = ap (range_with_len from) (zero-add b) ∙ ap (λ n. range_with_len n b) (sym (add-zero from))
range_of_both from (suc a) b =
    let more : suc a + b ≡ suc (a + b) = omega arith in
    let next : from + 1 + a ≡ from + suc a = omega arith in
    ap (range_with_len from) more ∙ ap (λ ns. from ∷ ns) (range_of_both (from + 1) a b ∙ ap (λ n. range_with_len (from + 1) a ++ range_with_len n b) next)

pub row_of_both : (first : Option ℕ) (from a b : ℕ) → row_of first from (a + b) ≡ row_of first from a ++ row_of first (from + a) b
row_of_both first from a b = ap (map (behind first)) (range_of_both from a b) ∙ map-append (behind first) (range_with_len from a) (range_with_len (from + a) b)

pub row_and_one : (first : Option ℕ) (from a : ℕ) → row_of first from (a + 1) ≡ row_of first from a ++ behind first (from + a) ∷ []
row_and_one first from a = row_of_both first from a 1

-- rows, and one row more
pub rows_and_one : (f : ℕ → List (List ℕ)) (a : ℕ) → flat_map f (range_with_len 1 (a + 1)) ≡ flat_map f (range_with_len 1 a) ++ f (1 + a)
rows_and_one f a =
    ap (flat_map f) (range_of_both 1 a 1) ∙ flat_map-append f (range_with_len 1 a) ((1 + a) ∷ [])
    ∙ ap (λ v. flat_map f (range_with_len 1 a) ++ v) (append-nil (f (1 + a)))

-- ---- rows that are added

module _ (P : Tried → Type 0) where
  -- one more of a row
  pub adds_row_one : (first : Option ℕ) (from at : ℕ) (points : List ℕ) (before mid now : Sums) → points ≡ behind first (from + at)
      → Adds P (row_of first from at) before mid → Adds P (points ∷ []) mid now → Adds P (row_of first from (at + 1)) before now
  adds_row_one first from at points before mid now its x y =
      subst (λ xs. Adds P xs before now) (ap (λ v. row_of first from at ++ v ∷ []) its ∙ sym (row_and_one first from at))
      (adds_more P (row_of first from at) (points ∷ []) before mid now x y)

  -- a part more of a row
  pub adds_row_part : (first other : Option ℕ) (from next a b : ℕ) (before mid now : Sums) → other ≡ first → next ≡ from + a
      → Adds P (row_of first from a) before mid → Adds P (row_of other next b) mid now → Adds P (row_of first from (a + b)) before now
  adds_row_part first other from next a b before mid now same here x y =
      subst (λ xs. Adds P xs before now) (ap (λ o. row_of first from a ++ row_of o next b) same ∙ ap (λ n. row_of first from a ++ row_of first n b) here ∙ sym (row_of_both first from a b))
      (adds_more P (row_of first from a) (row_of other next b) before mid now x y)

  -- a row more
  pub adds_rows_one : (most at p : ℕ) (before mid now : Sums) → p ≡ at + 1
      → Adds P (flat_map (λ p. row_of (Some p) (p + 1) (most - p)) (range_with_len 1 at)) before mid → Adds P (row_of (Some p) (p + 1) (most - p)) mid now
      → Adds P (flat_map (λ p. row_of (Some p) (p + 1) (most - p)) (range_with_len 1 (at + 1))) before now
  adds_rows_one most at p before mid now its x y =
      let f : ℕ → List (List ℕ) = λ p. row_of (Some p) (p + 1) (most - p) in
      let here : p ≡ 1 + at = omega arith in
      subst (λ xs. Adds P xs before now) (ap (λ n. flat_map f (range_with_len 1 at) ++ f n) here ∙ sym (rows_and_one f at))
      (adds_more P (flat_map f (range_with_len 1 at)) (f p) before mid now x y)

  -- all rows
  pub adds_all : (points most firsts : ℕ) (before mid now : Sums) → firsts ≡ min points most → Adds P (row_of None 1 points) before mid
      → Adds P (flat_map (λ p. row_of (Some p) (p + 1) (most - p)) (range_with_len 1 firsts)) mid now → Adds P (stops_tried points most) before now
  adds_all points most firsts before mid now is x y =
      let f : ℕ → List (List ℕ) = λ p. row_of (Some p) (p + 1) (most - p) in
      subst (λ n. Adds P (row_of None 1 points ++ flat_map f (range_with_len 1 n)) before now) is
      (adds_more P (row_of None 1 points) (flat_map f (range_with_len 1 firsts)) before mid now x y)

-- where a test of a play and of none is met, there is none
pub none_yet : {A : Type 0} (differs : Bool) (first : Option A) (r : Bool) → r ≡ (differs && is_none first) → r ≡ true → first ≡ None
none_yet differs None r is met = refl
none_yet true (Some a) r is met = absurd (cc (sym is ∙ met))
none_yet false (Some a) r is met = absurd (cc (sym is ∙ met))

-- where a play isn't the first that differs of a tally, it isn't of its sums
pub first_apart : (differs : Bool) (first : Option Shown) → (differs && is_none first) ≡ false → (differs && is_none (first_tried first)) ≡ false
first_apart differs None apart = apart
first_apart differs (Some shown) apart = apart

-- What a call of a function can cost.
use Rattle.std.proofs.Common.{◌≡◌, ℕ, zero, suc, ◌+◌, ◌≤◌, Bool, true, false, cond, ◌||◌, List, [], ◌∷◌, ◌++◌, filter, map, max, refl, ◌∙◌, ap, arith}
use Rattle.std.specs.Prelude.{◌==◌}
use Rattle.sg_cost.proofs.LineCosts.{line_zero}
use Rattle.sg_cost.specs.Costs.{all_lengths, cost_of, fun_cost, greatest}
use Rattle.sg_cost.specs.Inside.Pieces.{call_on, declared_from}
use Rattle.sg_cost.specs.Inside.Lines.{line_cost}
use Rattle.sg_facts.specs.Facts.{Fun, fun_at, takes_desc, takes_parent}
use Rattle.sg_facts.specs.Interface.{Declared, declares}
use Rattle.sg_facts.specs.Track.{is_ancestor}
use Rattle.sg_facts.specs.declared.row.Row.{Row}
use Rattle.sg_facts.specs.declared.tables.WalkLine.{WalkLine}
use Rattle.sg_needs.specs.sg_track.Tracked.{AreTracked}

-- the greatest of equal numbers
greatest_same : (f : ℕ → ℕ) (n : ℕ) → ((id : ℕ) → f id ≡ n) → (ids : List ℕ) → greatest (map f ids) ≤ n
greatest_same f n same [] = omega arith
greatest_same f n same (id ∷ ids) = let rest = greatest_same f n same ids in let one = same id in omega (arith, rest, one)

greatest_alike : (f g : ℕ → ℕ) → ((id : ℕ) → f id ≡ g id) → (ids : List ℕ) → greatest (map f ids) ≡ greatest (map g ids)
greatest_alike f g same [] = refl
greatest_alike f g same (id ∷ ids) = ap (λ n. max n (greatest (map f ids))) (same id) ∙ ap (max (g id)) (greatest_alike f g same ids)

greatest_of_ids : (g : ℕ → ℕ) (rows : List Row) → greatest (map g (map (λ r. r.id) rows)) ≡ greatest (map (λ r. g r.id) rows)
greatest_of_ids g [] = refl
greatest_of_ids g (r ∷ rows) = ap (max (g r.id)) (greatest_of_ids g rows)

pub all_pass : (rows : List Row) → filter (λ r. true) rows ≡ rows
all_pass [] = refl
all_pass (r ∷ rows) = ap (λ l. r ∷ l) (all_pass rows)

module _ (i : Declared) (walks : List WalkLine) (given : ℕ) (rows : List Row) (are : AreTracked given rows) (fun : ℕ) where
  abbrev f : Fun
  f = fun_at i.facts.funs fun

  -- where all rows have to be whole, each call costs all
  all_cost : (i.eager || f.all) ≡ true → (id : ℕ) → cost_of i walks rows (call_on fun id) ≡ all_lengths walks rows
  all_cost wants id = by i.eager f.all wants
    where
      by : (w a : Bool) → (w || a) ≡ true → all_lengths walks (filter (λ r. w || (a || (r.id == id) || is_ancestor rows r.id id)) rows) ≡ all_lengths walks rows
      by true a is = ap (all_lengths walks) (all_pass rows)
      by false true is = ap (all_lengths walks) (all_pass rows)
      by false false is = absurd (cc is)

  -- else what its descriptor or parent costs with its ancestors
  line_of : (i.eager || f.all) ≡ false → (id : ℕ) → cost_of i walks rows (call_on fun id) ≡ line_cost walks rows id
  line_of wants id = by i.eager f.all wants
    where
      by : (w a : Bool) → (w || a) ≡ false → all_lengths walks (filter (λ r. w || (a || (r.id == id) || is_ancestor rows r.id id)) rows) ≡ line_cost walks rows id
      by false false is = refl
      by false true is = absurd (cc is)
      by true a is = absurd (cc is)

  abbrev on : List ℕ
  on = cond (takes_desc f || takes_parent f) (map (λ r. r.id) rows) []

  pub fun_all : (i.eager || f.all) ≡ true → all_lengths walks rows ≡ (fun_cost i walks rows fun).cost
  fun_all wants =
      let one = all_cost wants 0 in
      let rest = greatest_same (λ id. cost_of i walks rows (call_on fun id)) (all_lengths walks rows) (all_cost wants) on in
      omega (arith, one, rest)

  none_cost : (i.eager || f.all) ≡ false → cost_of i walks rows (call_on fun 0) ≡ 0
  none_cost wants = line_of wants 0 ∙ line_zero walks given rows are

  pub fun_line : (i.eager || f.all) ≡ false → (takes_desc f || takes_parent f) ≡ true → greatest (map (λ r. line_cost walks rows r.id) rows) ≡ (fun_cost i walks rows fun).cost
  fun_line wants takes =
      let one = none_cost wants in
      let rest : greatest (map (λ id. cost_of i walks rows (call_on fun id)) on) ≡ greatest (map (λ r. line_cost walks rows r.id) rows)
      = ap (λ t. greatest (map (λ id. cost_of i walks rows (call_on fun id)) (cond t (map (λ r. r.id) rows) []))) takes
      ∙ greatest_alike (λ id. cost_of i walks rows (call_on fun id)) (line_cost walks rows) (line_of wants) (map (λ r. r.id) rows) ∙ greatest_of_ids (line_cost walks rows) rows in
      omega (arith, one, rest)

  pub fun_none : (i.eager || f.all) ≡ false → (takes_desc f || takes_parent f) ≡ false → 0 ≡ (fun_cost i walks rows fun).cost
  fun_none wants takes =
      let one = none_cost wants in
      let rest : greatest (map (λ id. cost_of i walks rows (call_on fun id)) on) ≡ 0 = ap (λ t. greatest (map (λ id. cost_of i walks rows (call_on fun id)) (cond t (map (λ r. r.id) rows) []))) takes in
      omega (arith, one, rest)

-- ---- all functions

-- with a function more
pub declared_more : (i : Declared) (fun more : ℕ) → declared_from i fun (suc more) ≡ declared_from i fun more ++ cond (declares i (fun + more)) ((fun + more) ∷ []) []
declared_more i fun zero = let same : fun ≡ fun + 0 = omega arith in ap (λ k. cond (declares i k) (k ∷ []) []) same
declared_more i fun (suc more) = by (declares i fun) (declared_more i (fun + 1) more)
  where
    next : fun + 1 + more ≡ fun + suc more
    next = omega arith

    by : (b : Bool) → declared_from i (fun + 1) (suc more) ≡ declared_from i (fun + 1) more ++ cond (declares i (fun + 1 + more)) ((fun + 1 + more) ∷ []) []
        → cond b (fun ∷ declared_from i (fun + 1) (suc more)) (declared_from i (fun + 1) (suc more))
        ≡ cond b (fun ∷ declared_from i (fun + 1) more) (declared_from i (fun + 1) more) ++ cond (declares i (fun + suc more)) ((fun + suc more) ∷ []) []
    by true rest = ap (λ l. fun ∷ l) (rest ∙ ap (λ k. declared_from i (fun + 1) more ++ cond (declares i k) (k ∷ []) []) next)
    by false rest = rest ∙ ap (λ k. declared_from i (fun + 1) more ++ cond (declares i k) (k ∷ []) []) next

-- How the numbers of a recovery go: less is left after each replayed call, no more after a row ends, as much after one is changed or made.
use Rattle.std.proofs.Common.{◌≡◌, ℕ, suc, ◌+◌, ◌*◌, ◌^◌, ◌<◌, ◌≤◌, Bool, true, false, cond, List, [], ◌∷◌, ◌++◌, Some, length, map, filter, refl, sym, ◌∙◌, ap, inl, inr, ◌⊎◌, arith}
use Rattle.std.specs.Prelude.{◌==◌, ◌≢◌}
use Rattle.std.proofs.lemmas.Bool.Decides.{eqb_tells}
use Rattle.sg_facts.specs.declared.row.Row.{Row}
use Rattle.sg_facts.specs.Counted.{CountedBelow}
use Rattle.sg_facts.specs.Facts.{Facts}
use Rattle.sg_facts.specs.Laws.{slow}
use Rattle.sg_facts.specs.Object.{Object}
use Rattle.sg_facts.specs.Track.{row_at}
use Rattle.sg_recovery_laws.specs.Midway.Numbers.{AreNumbers, sum_told}
use Rattle.sg_recovery_laws.specs.Midway.Progress.{Told, fresh}
use Rattle.sg_recovery_laws.proofs.Objects.Apart.{Ascends}

module _ (f : Told → ℕ) where
  -- what is told of other ids counts as before
  pub sum_same : (told told' : ℕ → Told) (low high : ℕ) (rows : List Row) → Ascends low high rows → ((id : ℕ) → low < id → told' id ≡ told id) → sum_told f told' rows ≡ sum_told f told rows
  sum_same told told' low high [] are same = refl
  sum_same told told' low high (r ∷ rows) are same =
      ap (λ t. f t + sum_told f told' rows) (same r.id are.0) ∙ ap (λ n. f (told r.id) + n) (sum_same told told' r.id high rows are.3 (λ id more. same id (omega (arith, more, are.0))))

  -- where one id counts less by a number, so do all
  pub sum_less : (told told' : ℕ → Told) (n id : ℕ) (low high : ℕ) (rows : List Row) (r : Row) → Ascends low high rows → row_at rows id ≡ Some r → ((x : ℕ) → x ≢ id → told' x ≡ told x) → f (told' id) + n ≤ f (told id)
      → sum_told f told' rows + n ≤ sum_told f told rows
  sum_less told told' n id low high [] r are there same less = absurd (cc there)
  sum_less told told' n id low high (x ∷ rows) r are there same less = at (eqb_tells x.id id) (λ more. sum_less told told' n id x.id high rows r are.3 more same less)
    where
      at : ((x.id == id) ≡ true) × (x.id ≡ id) ⊎ ((x.id == id) ≡ false) × (x.id ≡ id → ⊥) → (row_at rows id ≡ Some r → sum_told f told' rows + n ≤ sum_told f told rows)
          → f (told' x.id) + sum_told f told' rows + n ≤ f (told x.id) + sum_told f told rows
      at (inl is) deeper =
          let rest : sum_told f told' rows ≡ sum_told f told rows = sum_same told told' x.id high rows are.3 (λ y more. same y (λ one. absurd (omega (arith, one, is.1, more)))) in
          let a : f (told' x.id) ≡ f (told' id) = ap (λ i. f (told' i)) is.1 in
          let b : f (told x.id) ≡ f (told id) = ap (λ i. f (told i)) is.1 in
          omega (arith, rest, a, b, less)
      at (inr apart) deeper =
          let rest = deeper (sym (ap (λ b. cond b (Some x) (row_at rows id)) apart.0) ∙ there) in
          let own : f (told' x.id) ≡ f (told x.id) = ap f (same x.id apart.1) in
          omega (arith, rest, own)

  -- rows that end count no more
  pub sum_left : (told : ℕ → Told) (test : Row → Bool) (rows : List Row) → sum_told f told (filter test rows) ≤ sum_told f told rows
  sum_left told test [] = omega arith
  sum_left told test (r ∷ rows) = at (test r) (sum_left told test rows)
    where
      at : (b : Bool) → sum_told f told (filter test rows) ≤ sum_told f told rows → sum_told f told (cond b (r ∷ filter test rows) (filter test rows)) ≤ f (told r.id) + sum_told f told rows
      at true rest = omega (arith, rest)
      at false rest = omega (arith, rest)

  -- rows that are changed count as before
  pub sum_changed : (told : ℕ → Told) (change : Row → Row) → ((r : Row) → (change r).id ≡ r.id) → (rows : List Row) → sum_told f told (map change rows) ≡ sum_told f told rows
  sum_changed told change same [] = refl
  sum_changed told change same (r ∷ rows) = ap (λ i. f (told i) + sum_told f told (map change rows)) (same r) ∙ ap (λ n. f (told r.id) + n) (sum_changed told change same rows)

  -- a row that comes counts what is told of it
  pub sum_more : (told : ℕ → Told) (rows : List Row) (new : Row) → sum_told f told (rows ++ new ∷ []) ≡ sum_told f told rows + f (told new.id)
  sum_more told [] new = omega arith
  sum_more told (r ∷ rows) new = let rest = sum_more told rows new in omega (arith, rest)

  -- at a boot each row counts as one that isn't begun
  pub sum_fresh : (rows : List Row) → sum_told f (λ id. fresh) rows ≡ f fresh * length rows
  sum_fresh [] = omega arith
  sum_fresh (r ∷ rows) = let rest = sum_fresh rows in each (f fresh) (length rows) (sum_told f (λ id. fresh) rows) rest
    where
      each : (a n s : ℕ) → s ≡ a * n → a + s ≡ a * suc n
      each a n s is = grind (arith, is)

-- no more rows than ids given
pub few_rows : (low high : ℕ) (rows : List Row) → Ascends low high rows → low ≤ high → low + length rows ≤ high
few_rows low high [] are le = omega (arith, le)
few_rows low high (r ∷ rows) are le = let rest = few_rows r.id high rows are.3 are.1 in omega (arith, rest, are.0)

-- a service's counted words stay below 2^63 where nine times the entries do: what `IsUp.counted` asks
pub counted_below : (facts : Facts) (told : ℕ → Told) (entries : ℕ) (o v : Object) → AreNumbers facts told entries o v → o.given ≤ entries → slow + 9 * entries + 128 < 2 ^ 63 → CountedBelow (2 ^ 63) facts v.rows
counted_below facts told entries o v are given few = let most = are.counted in omega (arith, most, given, few)

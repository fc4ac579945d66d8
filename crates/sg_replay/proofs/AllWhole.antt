-- Up to where all rows are whole.
use Rattle.std.proofs.Common.{◌≡◌, ℕ, zero, suc, ◌<◌, ◌≤◌, ◌+◌, Bool, true, false, cond, ◌||◌, ◌&&◌, List, [], ◌∷◌, None, Some, filter, find, map, take, refl, sym, ◌∙◌, ap, arith}
use Rattle.std.specs.Prelude.{◌==◌, not, slice_get}
use Rattle.std.specs.Option.{option_map}
use Rattle.std.proofs.lemmas.Bool.Decides.{nat_tests}
use Rattle.sg_facts.specs.declared.row.Row.{Row}
use Rattle.sg_facts.specs.Sound.{AreRows}
use Rattle.sg_facts.specs.Track.{is_live}
use Rattle.sg_name.specs.declared.named.Named.{Named}
use Rattle.sg_name.specs.declared.named.Named.TheVariants.{Live, Unnamed}
use Rattle.sg_needs.specs.sg_track.Tracked.{HasLowerParent}
use Rattle.sg_replay.specs.Missing.{is_whole}
use Rattle.sg_replay.proofs.Committed.{live_step, one_id}

-- the name of an id that may not be whole changes
pub other_whole : (now named old : Named) (x id below lesser : ℕ) → now ≡ cond (x == id) named old → lesser ≤ below → lesser ≤ id → x < lesser → (x < below → is_whole old ≡ true) → is_whole now ≡ true
other_whole now named old x id below lesser is first second less whole =
    let apart : (x == id) ≡ false = grind (arith, nat_tests, second, less) in
    ap is_whole (is ∙ ap (λ b. cond b named old) apart) ∙ whole (omega (arith, first, less))

-- the name of an id that stays live stays
pub stays_whole : (now old : Named) (a b : Bool) → now ≡ cond (a && not b) Unnamed old → b ≡ true → is_whole old ≡ true → is_whole now ≡ true
stays_whole now old true true is live whole = ap is_whole is ∙ whole
stays_whole now old false true is live whole = ap is_whole is ∙ whole
stays_whole now old a false is live whole = absurd (cc live)

-- a new name is whole, and the others stay
pub still_whole : (now old : Named) (b : Bool) (real : ℕ) → now ≡ cond b (Live real) old → is_whole old ≡ true → is_whole now ≡ true
still_whole now old true real is whole = ap is_whole is
still_whole now old false real is whole = ap is_whole is ∙ whole

-- what is live is above the least
pub live_above : (low high : ℕ) (rows : List Row) → AreRows HasLowerParent low high rows → (x : ℕ) → is_live rows x ≡ true → low < x
live_above low high [] are x live = absurd (cc live)
live_above low high (r ∷ rows) are x live = at (r.id == x) refl live (live_above r.id high rows are.3 x)
  where
    at : (b : Bool) → (r.id == x) ≡ b → (b || is_live rows x) ≡ true → (is_live rows x ≡ true → r.id < x) → low < x
    at true is live rest = omega (arith, one_id r.id x is, are.0)
    at false is live rest = omega (arith, rest live, are.0)

module _ (P : ℕ → Bool) where
  -- none is found where all pass
  pub find_none : (rows : List Row) → ((x : ℕ) → is_live rows x ≡ true → P x ≡ true) → find (λ id. not (P id)) (map (λ r. r.id) rows) ≡ None
  find_none [] all = refl
  find_none (r ∷ rows) all =
      let here : P r.id ≡ true = all r.id (let same : (r.id == r.id) ≡ true = grind (arith, nat_tests) in ap (λ b. b || is_live rows r.id) same) in
      ap (λ b. cond (not b) (Some r.id) (find (λ id. not (P id)) (map (λ x. x.id) rows))) here
      ∙ find_none rows (λ x live. all x (or_live (r.id == x) (is_live rows x) live))
    where
      or_live : (a b : Bool) → b ≡ true → (a || b) ≡ true
      or_live true b is = refl
      or_live false b is = is

  -- all before the first that is found pass
  pub find_before : (low high : ℕ) (rows : List Row) → AreRows HasLowerParent low high rows → (first : ℕ) → find (λ id. not (P id)) (map (λ r. r.id) rows) ≡ Some first
      → (x : ℕ) → x < first → is_live rows x ≡ true → P x ≡ true
  find_before low high [] are first found x less live = absurd (cc live)
  find_before low high (r ∷ rows) are first found x less live = at (P r.id) refl (r.id == x) refl found live (λ found live. find_before r.id high rows are.3 first found x less live)
    where
      at : (b : Bool) → P r.id ≡ b → (s : Bool) → (r.id == x) ≡ s → cond (not b) (Some r.id) (find (λ id. not (P id)) (map (λ y. y.id) rows)) ≡ Some first → (s || is_live rows x) ≡ true
          → (find (λ id. not (P id)) (map (λ y. y.id) rows) ≡ Some first → is_live rows x ≡ true → P x ≡ true) → P x ≡ true
      at true passes true same found live rest = ap P (sym (one_id r.id x same)) ∙ passes
      at true passes false same found live rest = rest found live
      at false fails true same found live rest = let is : r.id ≡ first = cc found in absurd (let one = one_id r.id x same in omega (arith, one, is, less))
      at false fails false same found live rest = let is : r.id ≡ first = cc found in absurd (let above = live_above r.id high rows are.3 x live in omega (arith, above, is, less))

  -- where none is found among all, none is among some
  pub find_fewer : (some : Row → Bool) (rows : List Row) → find (λ id. not (P id)) (map (λ r. r.id) rows) ≡ None → find (λ id. not (P id)) (map (λ r. r.id) (filter some rows)) ≡ None
  find_fewer some [] none = refl
  find_fewer some (r ∷ rows) none = at (not (P r.id)) refl (some r) none (find_fewer some rows)
    where
      at : (b : Bool) → not (P r.id) ≡ b → (s : Bool) → cond b (Some r.id) (find (λ id. not (P id)) (map (λ x. x.id) rows)) ≡ None
          → (find (λ id. not (P id)) (map (λ x. x.id) rows) ≡ None → find (λ id. not (P id)) (map (λ x. x.id) (filter some rows)) ≡ None)
          → find (λ id. not (P id)) (map (λ x. x.id) (cond s (r ∷ filter some rows) (filter some rows))) ≡ None
      at true is s none rest = absurd (cc none)
      at false is true none rest = ap (λ b. cond b (Some r.id) (find (λ id. not (P id)) (map (λ x. x.id) (filter some rows)))) is ∙ rest none
      at false is false none rest = rest none

  -- the first that doesn't pass is found
  pub find_at : (rows : List Row) (at id : ℕ) → option_map (λ r. r.id) (slice_get rows at) ≡ Some id → ((x : ℕ) → is_live (take at rows) x ≡ true → P x ≡ true) → P id ≡ false
      → find (λ id. not (P id)) (map (λ r. r.id) rows) ≡ Some id
  find_at [] at id is all fails = absurd (cc is)
  find_at (r ∷ rows) zero id is all fails =
      let same : r.id ≡ id = cc is in
      ap (λ b. cond (not b) (Some r.id) (find (λ x. not (P x)) (map (λ x. x.id) rows))) (ap P same ∙ fails) ∙ ap (λ x. Some x) same
  find_at (r ∷ rows) (suc at) id is all fails =
      let here : P r.id ≡ true = all r.id (let same : (r.id == r.id) ≡ true = grind (arith, nat_tests) in ap (λ b. b || is_live (take at rows) r.id) same) in
      ap (λ b. cond (not b) (Some r.id) (find (λ x. not (P x)) (map (λ x. x.id) rows))) here
      ∙ find_at rows at id is (λ x live. all x (or_live (r.id == x) (is_live (take at rows) x) live)) fails
    where
      or_live : (a b : Bool) → b ≡ true → (a || b) ≡ true
      or_live true b is = refl
      or_live false b is = is

-- what is live among the first is live
pub live_first : (rows : List Row) (n x : ℕ) → is_live (take n rows) x ≡ true → is_live rows x ≡ true
live_first [] zero x live = live
live_first [] (suc n) x live = live
live_first (r ∷ rows) zero x live = absurd (cc live)
live_first (r ∷ rows) (suc n) x live = at (r.id == x) live (live_first rows n x)
  where
    at : (b : Bool) → (b || is_live (take n rows) x) ≡ true → (is_live (take n rows) x ≡ true → is_live rows x ≡ true) → (b || is_live rows x) ≡ true
    at true live rest = refl
    at false live rest = rest live

-- what is live below the id at a place is live among those before it
pub live_before : (low high : ℕ) (rows : List Row) → AreRows HasLowerParent low high rows → (at id : ℕ) → option_map (λ r. r.id) (slice_get rows at) ≡ Some id
    → (x : ℕ) → x < id → is_live rows x ≡ true → is_live (take at rows) x ≡ true
live_before low high [] are at id is x less live = absurd (cc is)
live_before low high (r ∷ rows) are zero id is x less live =
    let same : r.id ≡ id = cc is in
    let apart : (r.id == x) ≡ false = grind (arith, nat_tests, same, less) in
    let above = live_above r.id high rows are.3 x (sym (ap (λ b. b || is_live rows x) apart) ∙ live) in
    absurd (omega (arith, above, same, less))
live_before low high (r ∷ rows) are (suc at) id is x less live = by (r.id == x) live (live_before r.id high rows are.3 at id is x less)
  where
    by : (b : Bool) → (b || is_live rows x) ≡ true → (is_live rows x ≡ true → is_live (take at rows) x ≡ true) → (b || is_live (take at rows) x) ≡ true
    by true live rest = refl
    by false live rest = rest live

-- the id at a place is live
pub live_at : (rows : List Row) (at id : ℕ) → option_map (λ r. r.id) (slice_get rows at) ≡ Some id → is_live rows id ≡ true
live_at [] at id is = absurd (cc is)
live_at (r ∷ rows) zero id is =
    let same : r.id ≡ id = cc is in
    let test : (r.id == id) ≡ true = grind (arith, nat_tests, same) in
    ap (λ b. b || is_live rows id) test
live_at (r ∷ rows) (suc at) id is = or_live (r.id == id) (is_live rows id) (live_at rows at id is)
  where
    or_live : (a b : Bool) → b ≡ true → (a || b) ≡ true
    or_live true b is = refl
    or_live false b is = is

-- one more row is whole
pub whole_more : (P : ℕ → Bool) (rows : List Row) (at id : ℕ) → option_map (λ r. r.id) (slice_get rows at) ≡ Some id → ((x : ℕ) → is_live (take at rows) x ≡ true → P x ≡ true) → P id ≡ true
    → (x : ℕ) → is_live (take (at + 1) rows) x ≡ true → P x ≡ true
whole_more P rows at id is all whole x live = by (is_live (take at rows) x) refl (id == x) refl (sym (live_step rows at id is x) ∙ live)
  where
    by : (a : Bool) → is_live (take at rows) x ≡ a → (b : Bool) → (id == x) ≡ b → (a || b) ≡ true → P x ≡ true
    by true here b same some = all x here
    by false here true same some = ap P (sym (one_id id x same)) ∙ whole
    by false here false same some = absurd (cc some)

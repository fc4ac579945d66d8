-- The ids that are needed, found along the line to an id.
use Rattle.std.proofs.Common.{◌≡◌, ◌⊎◌, ℕ, zero, suc, ◌-◌, ◌<◌, ◌≤◌, Bool, true, false, cond, ◌||◌, List, [], ◌∷◌, map, filter, inl, inr, refl, sym, ◌∙◌, ap, arith}
use Rattle.std.specs.Prelude.{◌==◌, nat_lt}
use Rattle.std.specs.List.{list_any}
use Rattle.std.proofs.lemmas.Bool.Decides.{eqb_tells, nat_tests}
use mathlib.Core.List.{reverse_aux}
use Rattle.sg_facts.specs.sg_base.declared.call.Call.{Call}
use Rattle.sg_facts.specs.declared.row.Row.{Row}
use Rattle.sg_facts.specs.Facts.{fun_at}
use Rattle.sg_facts.specs.Interface.{Declared}
use Rattle.sg_facts.specs.Needs.{is_needed, wanted}
use Rattle.sg_facts.specs.Object.{Object}
use Rattle.sg_facts.specs.Sound.{AreRows}
use Rattle.sg_facts.specs.Track.{ancestors, is_ancestor, is_live, nearest, row_at}
use Rattle.sg_facts.specs.Inside.Rows.{parent_in}
use Rattle.sg_track.specs.Tracked.{AreTracked, HasLowerParent}
use Rattle.sg_track.proofs.Above.{parent_below}
use Rattle.sg_needs.specs.Inside.Lines.{ids_in, line_to}

-- whether an id is among others
abbrev among : List ℕ → ℕ → Bool
among ids id = list_any (λ i. i == id) ids

-- all are above a number, or at least it
abbrev AllAbove : ℕ → List ℕ → Type 0
AllAbove n [] = Unit {0}
AllAbove n (x ∷ xs) = (n < x) × AllAbove n xs

-- each is above all before it
abbrev Climbs : List ℕ → Type 0
Climbs [] = Unit {0}
Climbs (x ∷ xs) = AllAbove x xs × Climbs xs

-- each is below the one before it, the first below a number
abbrev Falls : ℕ → List ℕ → Type 0
Falls high [] = Unit {0}
Falls high (x ∷ xs) = (x < high) × Falls x xs

above_less : (m n : ℕ) (xs : List ℕ) → m ≤ n → AllAbove n xs → AllAbove m xs
above_less m n [] less are = tt
above_less m n (x ∷ xs) less are = (omega (arith, less, are.0), above_less m n xs less are.1)

-- ---- what is common to two lists that climb

not_among : (y : ℕ) (xs : List ℕ) → AllAbove y xs → among xs y ≡ false
not_among y [] above = refl
not_among y (x ∷ xs) above = at (x == y) (λ is. grind (arith, nat_tests)) (not_among y xs above.1)
  where
    at : (b : Bool) → (b ≡ true → x ≡ y) → among xs y ≡ false → (b || among xs y) ≡ false
    at true is rest = absurd (omega (arith, is refl, above.0))
    at false is rest = rest

-- a smaller id may be left out
skip : (y : ℕ) (ys xs : List ℕ) → AllAbove y xs → filter (among (y ∷ ys)) xs ≡ filter (among ys) xs
skip y ys [] above = refl
skip y ys (x ∷ xs) above = at (y == x) (λ is. grind (arith, nat_tests)) (skip y ys xs above.1)
  where
    at : (b : Bool) → (b ≡ true → y ≡ x) → filter (among (y ∷ ys)) xs ≡ filter (among ys) xs
        → cond (b || among ys x) (x ∷ filter (among (y ∷ ys)) xs) (filter (among (y ∷ ys)) xs) ≡ cond (among ys x) (x ∷ filter (among ys) xs) (filter (among ys) xs)
    at true is rest = absurd (omega (arith, is refl, above.0))
    at false is rest = ap (λ l. cond (among ys x) (x ∷ l) l) rest

none : (xs : List ℕ) → filter (among []) xs ≡ []
none [] = refl
none (x ∷ xs) = none xs

-- what both lists keep at their first ids
pick_true : (b : Bool) (x : ℕ) (xs : List ℕ) → b ≡ true → cond b (x ∷ xs) xs ≡ x ∷ xs
pick_true b x xs is = ap (λ t. cond t (x ∷ xs) xs) is

pick_false : (b : Bool) (x : ℕ) (xs : List ℕ) → b ≡ false → cond b (x ∷ xs) xs ≡ xs
pick_false b x xs is = ap (λ t. cond t (x ∷ xs) xs) is

module _ (x y : ℕ) (xs ys : List ℕ) (climbs : Climbs (x ∷ xs)) (climbs' : Climbs (y ∷ ys)) where
  abbrev Same : List ℕ → List ℕ → Type 0
  Same ms ns = filter (among ns) ms ≡ filter (among ms) ns

  heads : x ≡ y → Same xs ys → Same (x ∷ xs) (y ∷ ys)
  heads same rest =
      let here : (y == x) ≡ true = grind (arith, nat_tests, same) in
      let there : (x == y) ≡ true = grind (arith, nat_tests, same) in
      pick_true ((y == x) || among ys x) x (filter (among (y ∷ ys)) xs) (ap (λ b. b || among ys x) here)
      ∙ ap (λ l. x ∷ l) (skip y ys xs (above_less y x xs (omega (arith, same)) climbs.0) ∙ rest)
      ∙ ap (λ z. z ∷ filter (among xs) ys) same
      ∙ ap (λ l. y ∷ l) (sym (skip x xs ys (above_less x y ys (omega (arith, same)) climbs'.0)))
      ∙ sym (pick_true ((x == y) || among xs y) y (filter (among (x ∷ xs)) ys) (ap (λ b. b || among xs y) there))

  earlier : x < y → Same xs (y ∷ ys) → Same (x ∷ xs) (y ∷ ys)
  earlier less rest =
      let above : AllAbove x (y ∷ ys) = (less, above_less x y ys (omega (arith, less)) climbs'.0) in
      pick_false (among (y ∷ ys) x) x (filter (among (y ∷ ys)) xs) (not_among x (y ∷ ys) above)
      ∙ rest ∙ sym (skip x xs (y ∷ ys) above)

  later : y < x → Same (x ∷ xs) ys → Same (x ∷ xs) (y ∷ ys)
  later less rest =
      let above : AllAbove y (x ∷ xs) = (less, above_less y x xs (omega (arith, less)) climbs.0) in
      skip y ys (x ∷ xs) above ∙ rest
      ∙ sym (pick_false (among (x ∷ xs) y) y (filter (among (x ∷ xs)) ys) (not_among y (x ∷ xs) above))

  first : Same xs ys → Same xs (y ∷ ys) → Same (x ∷ xs) ys → Same (x ∷ xs) (y ∷ ys)
  first both left right = at (eqb_tells x y)
    where
      order : (b : Bool) → (b ≡ true → x < y) → (b ≡ false → y < x) → (x < y) ⊎ (y < x)
      order true less more = inl (less refl)
      order false less more = inr (more refl)

      apart : (x ≡ y → ⊥) → (x < y) ⊎ (y < x)
      apart no_same = order (nat_lt x y) (λ is. grind (arith, nat_tests)) (λ is. let least : y ≤ x = grind (arith, nat_tests) in omega (arith, least, no_same))

      either : (x < y) ⊎ (y < x) → Same (x ∷ xs) (y ∷ ys)
      either (inl less) = earlier less left
      either (inr more) = later more right

      at : (((x == y) ≡ true) × (x ≡ y)) ⊎ (((x == y) ≡ false) × (x ≡ y → ⊥)) → Same (x ∷ xs) (y ∷ ys)
      at (inl same) = heads same.1 both
      at (inr differ) = either (apart differ.1)

-- along the second list, where the rest of the first has the same in common with any list
along : (x : ℕ) (xs : List ℕ) → Climbs (x ∷ xs) → ((zs : List ℕ) → Climbs zs → filter (among zs) xs ≡ filter (among xs) zs)
    → (ys : List ℕ) → Climbs ys → filter (among ys) (x ∷ xs) ≡ filter (among (x ∷ xs)) ys
along x xs climbs rest [] climbs' = none (x ∷ xs)
along x xs climbs rest (y ∷ ys) climbs' =
    first x y xs ys climbs climbs' (rest ys climbs'.1) (rest (y ∷ ys) climbs') (along x xs climbs rest ys climbs'.1)

common : (xs ys : List ℕ) → Climbs xs → Climbs ys → filter (among ys) xs ≡ filter (among xs) ys
common [] ys climbs climbs' = sym (none ys)
common (x ∷ xs) ys climbs climbs' = along x xs climbs (λ zs climbs_zs. common xs zs climbs.1 climbs_zs) ys climbs'

-- ---- the line climbs

-- at least a number
abbrev AtLeast : ℕ → List ℕ → Type 0
AtLeast n [] = Unit {0}
AtLeast n (x ∷ xs) = (n ≤ x) × AtLeast n xs

least_above : (x n : ℕ) (xs : List ℕ) → x < n → AtLeast n xs → AllAbove x xs
least_above x n [] less are = tt
least_above x n (y ∷ xs) less are = (omega (arith, less, are.0), least_above x n xs less are.1)

least_less : (m n : ℕ) (xs : List ℕ) → m ≤ n → AtLeast n xs → AtLeast m xs
least_less m n [] less are = tt
least_less m n (x ∷ xs) less are = (omega (arith, less, are.0), least_less m n xs less are.1)

-- turned round, what falls climbs
turned : (high : ℕ) (xs behind : List ℕ) → Falls high xs → AtLeast high behind → Climbs behind → Climbs (reverse_aux xs behind)
turned high [] behind falls least climbs = climbs
turned high (x ∷ xs) behind falls least climbs =
    turned x xs (x ∷ behind) falls.1 (omega arith, least_less x high behind (omega (arith, falls.0)) least) (least_above x high behind falls.0 least, climbs)

-- and has the same ids
turned_among : (xs behind : List ℕ) (y : ℕ) → among (reverse_aux xs behind) y ≡ (among xs y || among behind y)
turned_among [] behind y = refl
turned_among (x ∷ xs) behind y = turned_among xs (x ∷ behind) y ∙ moved (among xs y) (x == y) (among behind y)
  where
    moved : (a b c : Bool) → (a || (b || c)) ≡ ((b || a) || c)
    moved true true c = refl
    moved true false c = refl
    moved false true c = refl
    moved false false c = refl

module _ (given : ℕ) (rows : List Row) (are : AreTracked given rows) where
  falls : (most id : ℕ) → Falls id (nearest rows most id)
  falls zero id = tt
  falls (suc most) id = at (parent_in (row_at rows id) == 0) (λ is. grind (arith, nat_tests)) (parent_below 0 given id rows are) (falls most (parent_in (row_at rows id)))
    where
      at : (b : Bool) → (b ≡ false → parent_in (row_at rows id) ≡ 0 → ⊥) → parent_in (row_at rows id) ≤ id - 1 → Falls (parent_in (row_at rows id)) (nearest rows most (parent_in (row_at rows id)))
          → Falls id (cond b [] (parent_in (row_at rows id) ∷ nearest rows most (parent_in (row_at rows id))))
      at true some low rest = tt
      at false some low rest = (omega (arith, low, some refl), rest)

  line_climbs : (id : ℕ) → Climbs (line_to rows id)
  line_climbs id = turned id (ancestors rows id) (id ∷ []) (falls id id) (omega arith, tt) (tt, tt)

-- ---- the ids of rows

ids_above : (low high : ℕ) (rows : List Row) → AreRows HasLowerParent low high rows → AllAbove low (map (λ r. r.id) rows)
ids_above low high [] are = tt
ids_above low high (r ∷ rows) are = (are.0, above_less low r.id (map (λ x. x.id) rows) (omega (arith, are.0)) (ids_above r.id high rows are.3))

ids_climb : (low high : ℕ) (rows : List Row) → AreRows HasLowerParent low high rows → Climbs (map (λ r. r.id) rows)
ids_climb low high [] are = tt
ids_climb low high (r ∷ rows) are = (ids_above r.id high rows are.3, ids_climb r.id high rows are.3)

live_among : (rows : List Row) (id : ℕ) → is_live rows id ≡ among (map (λ r. r.id) rows) id
live_among [] id = refl
live_among (r ∷ rows) id = ap (λ b. (r.id == id) || b) (live_among rows id)

-- a test of ids
chosen : (test : Row → Bool) (of_id : ℕ → Bool) (rows : List Row) → ((r : Row) → test r ≡ of_id r.id) → map (λ r. r.id) (filter test rows) ≡ filter of_id (map (λ r. r.id) rows)
chosen test of_id [] tells = refl
chosen test of_id (r ∷ rows) tells = at (test r) (of_id r.id) (tells r) (chosen test of_id rows tells)
  where
    at : (b c : Bool) → b ≡ c → map (λ x. x.id) (filter test rows) ≡ filter of_id (map (λ x. x.id) rows)
        → map (λ x. x.id) (cond b (r ∷ filter test rows) (filter test rows)) ≡ cond c (r.id ∷ filter of_id (map (λ x. x.id) rows)) (filter of_id (map (λ x. x.id) rows))
    at true true is rest = ap (λ l. r.id ∷ l) rest
    at false false is rest = rest
    at true false is rest = absurd (cc is)
    at false true is rest = absurd (cc is)

same_tests : (p q : ℕ → Bool) (xs : List ℕ) → ((x : ℕ) → p x ≡ q x) → filter p xs ≡ filter q xs
same_tests p q [] same = refl
same_tests p q (x ∷ xs) same = at (p x) (q x) (same x) (same_tests p q xs same)
  where
    at : (b c : Bool) → b ≡ c → filter p xs ≡ filter q xs → cond b (x ∷ filter p xs) (filter p xs) ≡ cond c (x ∷ filter q xs) (filter q xs)
    at true true is rest = ap (λ l. x ∷ l) rest
    at false false is rest = rest
    at true false is rest = absurd (cc is)
    at false true is rest = absurd (cc is)

-- whether a row is in the line to an id
in_line : (rows : List Row) (id : ℕ) (r : Row) → ((r.id == id) || is_ancestor rows r.id id) ≡ among (line_to rows id) r.id
in_line rows id r =
    let both : (r.id == id) ≡ (id == r.id) = grind (arith, nat_tests) in
    ap (λ b. b || is_ancestor rows r.id id) both
    ∙ turned_last (id == r.id) (among (ancestors rows id) r.id)
    ∙ sym (turned_among (ancestors rows id) (id ∷ []) r.id)
  where
    turned_last : (a b : Bool) → (a || b) ≡ (b || (a || false))
    turned_last true true = refl
    turned_last true false = refl
    turned_last false true = refl
    turned_last false false = refl

-- the live ids of the line to an id are those of the rows that are in it
pub line_needed : (given : ℕ) (rows : List Row) (id : ℕ) → AreTracked given rows
    → filter (is_live rows) (line_to rows id) ≡ map (λ r. r.id) (filter (λ r. (r.id == id) || is_ancestor rows r.id id) rows)
line_needed given rows id are =
    let ids = map (λ r. r.id) rows in
    same_tests (is_live rows) (among ids) (line_to rows id) (live_among rows)
    ∙ common (line_to rows id) ids (line_climbs given rows are id) (ids_climb 0 given rows are)
    ∙ sym (chosen (λ r. (r.id == id) || is_ancestor rows r.id id) (among (line_to rows id)) rows (in_line rows id))

-- all rows pass where all are looked at
all_pass : (rows : List Row) → filter (λ r. true) rows ≡ rows
all_pass [] = refl
all_pass (r ∷ rows) = ap (λ l. r ∷ l) (all_pass rows)

-- the ids of all rows, where all are wanted
pub wanted_all : (rows : List Row) (id : ℕ) → ids_in true rows id ≡ map (λ r. r.id) rows
wanted_all rows id = ap (map (λ r. r.id)) (all_pass rows)

-- the ids that are wanted for a call are those of all rows, or of those that it needs
pub wanted_ids : (i : Declared) (o : Object) (call : Call) (rows : List Row) → o.rows ≡ rows → (wanted i o call).ids ≡ ids_in (i.eager || (fun_at i.facts.funs call.fun).all) rows call.desc
wanted_ids i o call rows same = at i.eager ∙ ap (λ l. ids_in (i.eager || (fun_at i.facts.funs call.fun).all) l call.desc) same
  where
    at : (t : Bool) → map (λ r. r.id) (filter (λ r. t || is_needed i.facts o.rows call r) o.rows) ≡ ids_in (t || (fun_at i.facts.funs call.fun).all) o.rows call.desc
    at true = refl
    at false = refl

-- The states in which a field is never 0 are the most that keep to it, and a row keeps to them.
use Rattle.std.proofs.Common.{◌≡◌, ℕ, zero, suc, ◌+◌, ◌<◌, ◌≤◌, Bool, true, false, cond, not, List, [], ◌∷◌, length, filter, None, Some, refl, sym, ◌∙◌, ap, subst, ◌⊎◌, inl, inr, arith}
use Rattle.std.specs.Prelude.{◌==◌, ◌&&◌, ◌||◌}
use Rattle.std.specs.List.{list_all, list_any}
use Rattle.std.specs.declared.option.Option.{Option}
use Rattle.std.proofs.lemmas.Bool.Decides.{eqb_tells}
use Rattle.sg_facts.specs.declared.shape.Effect.{Effect}
use Rattle.sg_facts.specs.declared.shape.Effect.TheVariants.{SetCaller, SetArg, AddArg, SetRet, AddRet, Clear, SubOne, SubRet}
use Rattle.sg_facts.specs.Allowed.{implies}
use Rattle.sg_facts.specs.Facts.{Facts, Fun, fun_at, state_after}
use Rattle.sg_facts.specs.Walks.{effect_on}
use Rattle.sg_described.specs.NeverZero.{AreNeverZero, all_from, is_listed, keeps_some, leaves_some, makes_some, moves_some, never_zero, states_from, states_left, stays_listed}
use Rattle.sg_described.proofs.Keeping.Basics.{OneOf, both_true, first, number_passes, one_of, own_test, same_of, second}

-- ---- lists from which some go

pub drops : (p : ℕ → Bool) (ns : List ℕ) → length (filter p ns) ≤ length ns
drops p [] = omega arith
drops p (n ∷ ns) = at (p n) (drops p ns)
  where
    at : (b : Bool) → length (filter p ns) ≤ length ns → length (cond b (n ∷ filter p ns) (filter p ns)) ≤ suc (length ns)
    at true rest = omega (arith, rest)
    at false rest = omega (arith, rest)

-- where none goes, all pass
pub none_goes : (p : ℕ → Bool) (ns : List ℕ) → length ns ≤ length (filter p ns) → (filter p ns ≡ ns) × (list_all p ns ≡ true)
none_goes p [] same = (refl, refl)
none_goes p (n ∷ ns) same = at (p n) refl same (drops p ns) (none_goes p ns)
  where
    at : (b : Bool) → p n ≡ b → suc (length ns) ≤ length (cond b (n ∷ filter p ns) (filter p ns)) → length (filter p ns) ≤ length ns
        → (length ns ≤ length (filter p ns) → (filter p ns ≡ ns) × (list_all p ns ≡ true)) → (cond b (n ∷ filter p ns) (filter p ns) ≡ n ∷ ns) × ((p n && list_all p ns) ≡ true)
    at true is same low rest = let r = rest (omega (arith, same)) in (ap (λ l. n ∷ l) r.0, ap (λ b. b && list_all p ns) is ∙ r.1)
    at false is same low rest = absurd (omega (arith, same, low))

-- what stays passes, and was there
stays : (p : ℕ → Bool) (ns : List ℕ) (m : ℕ) → is_listed ns m ≡ true → p m ≡ true → is_listed (filter p ns) m ≡ true
stays p [] m there passes = absurd (cc there)
stays p (n ∷ ns) m there passes = at (p n) refl (one_of (n == m) (is_listed ns m) there) (λ later. stays p ns m later passes)
  where
    at : (b : Bool) → p n ≡ b → OneOf (n == m) (is_listed ns m) → (is_listed ns m ≡ true → is_listed (filter p ns) m ≡ true) → is_listed (cond b (n ∷ filter p ns) (filter p ns)) m ≡ true
    at true is (first same) rest = ap (λ b. b || is_listed (filter p ns) m) same
    at true is (second later) rest = ap (λ b. (n == m) || b) (rest later) ∙ always (n == m)
      where
        always : (b : Bool) → (b || true) ≡ true
        always true = refl
        always false = refl
    at false is (first same) rest =
        let both : true ≡ false = sym passes ∙ ap p (sym (same_of n m same)) ∙ is in
        absurd (cc both)
    at false is (second later) rest = rest later

was_there : (p : ℕ → Bool) (ns : List ℕ) (m : ℕ) → is_listed (filter p ns) m ≡ true → is_listed ns m ≡ true
was_there p [] m there = there
was_there p (n ∷ ns) m there = at (p n) there (was_there p ns m)
  where
    at : (b : Bool) → is_listed (cond b (n ∷ filter p ns) (filter p ns)) m ≡ true → (is_listed (filter p ns) m ≡ true → is_listed ns m ≡ true) → ((n == m) || is_listed ns m) ≡ true
    at true there rest = later (n == m) there rest
      where
        later : (t : Bool) → (t || is_listed (filter p ns) m) ≡ true → (is_listed (filter p ns) m ≡ true → is_listed ns m ≡ true) → (t || is_listed ns m) ≡ true
        later true there rest = refl
        later false there rest = rest there
    at false there rest = always (n == m) (rest there)
      where
        always : (t : Bool) → is_listed ns m ≡ true → (t || is_listed ns m) ≡ true
        always true is = refl
        always false is = is

states_length : (from : ℕ) (funs : List Fun) → length (states_from from funs) ≡ length funs
states_length from [] = refl
states_length from (f ∷ funs) = ap suc (states_length (suc from) funs)

-- ---- a step and what more states allow

leaves_more : (o : Option Effect) (a b : Bool) → (a ≡ true → b ≡ true) → leaves_some o a ≡ true → leaves_some o b ≡ true
leaves_more None a b more is = more is
leaves_more (Some SetCaller) a b more is = refl
leaves_more (Some (SetArg k)) a b more is = absurd (cc is)
leaves_more (Some (AddArg k)) a b more is = more is
leaves_more (Some SetRet) a b more is = absurd (cc is)
leaves_more (Some AddRet) a b more is = more is
leaves_more (Some Clear) a b more is = absurd (cc is)
leaves_more (Some SubOne) a b more is = absurd (cc is)
leaves_more (Some SubRet) a b more is = absurd (cc is)

implies_more : (t a b : Bool) → (a ≡ true → b ≡ true) → implies t a ≡ true → implies t b ≡ true
implies_more true a b more is = more is
implies_more false a b more is = refl

all_more : (p q : ℕ × ℕ → Bool) → ((m : ℕ × ℕ) → p m ≡ true → q m ≡ true) → (ms : List (ℕ × ℕ)) → list_all p ms ≡ true → list_all q ms ≡ true
all_more p q more [] all = refl
all_more p q more (m ∷ ms) all =
    let parts = both_true (p m) (list_all p ms) all in
    ap (λ b. b && list_all q ms) (more m parts.0) ∙ all_more p q more ms parts.1

module _ (facts : Facts) (x : ℕ) where
  abbrev step : List ℕ → List ℕ
  step states = filter (keeps_some facts x states) states

  keeps_more : (some more : List ℕ) (state : ℕ) → ((n : ℕ) → is_listed some n ≡ true → is_listed more n ≡ true) → keeps_some facts x some state ≡ true → keeps_some facts x more state ≡ true
  keeps_more some more state within is =
      let two = both_true (all_from (makes_some facts x state) 1 facts.funs && list_all (moves_some facts x some state) facts.moves) (list_all (stays_listed facts x some state) facts.steps) is in
      let one = both_true (all_from (makes_some facts x state) 1 facts.funs) (list_all (moves_some facts x some state) facts.moves) two.0 in
      let moved : list_all (moves_some facts x more state) facts.moves ≡ true
      = all_more (moves_some facts x some state) (moves_some facts x more state)
      (λ m. implies_more (not (fun_at facts.funs m.1).creation && not (fun_at facts.funs m.1).terminal && (state_after facts m.1 m.0 == state))
      (leaves_some (effect_on (fun_at facts.funs m.1).effects x) (is_listed some m.0)) (leaves_some (effect_on (fun_at facts.funs m.1).effects x) (is_listed more m.0))
      (leaves_more (effect_on (fun_at facts.funs m.1).effects x) (is_listed some m.0) (is_listed more m.0) (within m.0))) facts.moves one.1 in
      let stayed : list_all (stays_listed facts x more state) facts.steps ≡ true
      = all_more (stays_listed facts x some state) (stays_listed facts x more state)
      (λ s. implies_more (s.0 == state) (is_listed some (state_after facts s.1 s.0)) (is_listed more (state_after facts s.1 s.0)) (within (state_after facts s.1 s.0))) facts.steps two.1 in
      ap (λ b. b && list_all (moves_some facts x more state) facts.moves && list_all (stays_listed facts x more state) facts.steps) one.0
      ∙ ap (λ b. b && list_all (stays_listed facts x more state) facts.steps) moved ∙ stayed

  -- ---- they keep to it

  -- where nothing goes in a step, nothing goes any more
  pub still : (n : ℕ) (states : List ℕ) → step states ≡ states → states_left facts x n states ≡ states
  still zero states same = refl
  still (suc n) states same = ap (states_left facts x n) same ∙ still n states same

  -- after as many steps as there are states nothing goes any more
  settled : (n : ℕ) (states : List ℕ) → length states ≤ n → list_all (keeps_some facts x (states_left facts x n states)) (states_left facts x n states) ≡ true
  settled zero [] few = refl
  settled zero (s ∷ states) few = absurd (omega (arith, few))
  settled (suc n) states few = elim (less_or_same (length (step states)) (length states) (drops (keeps_some facts x states) states)) [
    | inl less ↦ settled n (step states) (omega (arith, few, less))
    | inr same ↦
        let none = none_goes (keeps_some facts x states) states same in
        let is : states_left facts x n (step states) ≡ states = ap (states_left facts x n) none.0 ∙ still n states none.0 in
        subst (λ l. list_all (keeps_some facts x l) l ≡ true) (sym is) none.1
  ]
    where
      less_or_same : (a b : ℕ) → a ≤ b → (a < b) ⊎ (b ≤ a)
      less_or_same a b low = elim (eqb_tells a b) [ inl same ↦ let is = same.1 in inr (omega (arith, is)) | inr apart ↦ let no = apart.1 in inl (omega (arith, no, low)) ]

  left_listed : (n : ℕ) (states : List ℕ) (m : ℕ) → is_listed (states_left facts x n states) m ≡ true → is_listed states m ≡ true
  left_listed zero states m there = there
  left_listed (suc n) states m there = was_there (keeps_some facts x states) states m (left_listed n (step states) m there)

  pub never_zero_keeps : AreNeverZero facts x (never_zero facts x)
  never_zero_keeps = record {
    listed = λ state there. left_listed (length facts.funs) (states_from 1 facts.funs) state there;
    keep = λ state there. number_passes (keeps_some facts x (never_zero facts x)) (never_zero facts x)
        (settled (length facts.funs) (states_from 1 facts.funs) (let same = states_length 1 facts.funs in omega (arith, same))) state there;
  }

  -- ---- they are the most that do

  left_most : (n : ℕ) (states some : List ℕ) → AreNeverZero facts x some → ((m : ℕ) → is_listed some m ≡ true → is_listed states m ≡ true)
      → (m : ℕ) → is_listed some m ≡ true → is_listed (states_left facts x n states) m ≡ true
  left_most zero states some are within m there = within m there
  left_most (suc n) states some are within m there =
      left_most n (step states) some are (λ k its. stays (keeps_some facts x states) states k (within k its) (keeps_more some states k within (are.keep k its))) m there

  pub never_zero_most : (states : List ℕ) (state : ℕ) → AreNeverZero facts x states → is_listed states state ≡ true → is_listed (never_zero facts x) state ≡ true
  never_zero_most states state are there = left_most (length facts.funs) (states_from 1 facts.funs) states are are.listed state there

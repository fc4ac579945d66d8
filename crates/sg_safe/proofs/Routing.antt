-- Where walks come to is found, each with a walk that leads there.
use Rattle.std.proofs.Common.{◌≡◌, ℕ, zero, suc, ◌+◌, ◌-◌, ◌<◌, ◌≤◌, Bool, true, false, cond, not, List, [], ◌∷◌, ◌++◌, length, drop, take, get_or, map, filter, None, Some, refl, sym, ◌∙◌, ap, subst, arith, length-append}
use Rattle.std.specs.Prelude.{◌==◌, ◌&&◌, ◌||◌, All, slice_get, unwrap_or}
use Rattle.std.specs.List.{flat_map, list_all, list_any}
use Rattle.std.proofs.lemmas.List.{append-nil, append_assoc, drop-map, length-map, take-append-drop, take_all, take_at, take_rest}
use Rattle.std.proofs.lemmas.List.Concat.{flat_map-append}
use Rattle.std.proofs.lemmas.List.Folds.{list_any-append}
use Rattle.std.proofs.lemmas.List.Elements.{All-drop, All-nil, All-push, All-weaker}
use Rattle.sg_known.specs.sg_facts.Facts.{Fun, fun_at, fun_of_shape, no_fun}
use Rattle.sg_known.specs.sg_facts.declared.shape.FunShape.{FunShape}
use Rattle.sg_known.specs.sg_facts.Interface.{has_pair}
use Rattle.sg_known.specs.sg_facts.Walks.{Spot, first_spot, next_spot}
use Rattle.sg_known.specs.sg_described.Described.{Described}
use Rattle.sg_known.specs.sg_described.Walking.{add_spot, add_spots, begins, is_lost, is_step, nexts, same_spot, spots_of, spots_within}
use Rattle.sg_known.proofs.sg_described.Keeping.Basics.{both_true, or_true, own_test, same_of}
use Rattle.sg_known.proofs.sg_described.Keeping.Spots.{own_spot}
use Rattle.sg_safe.specs.declared.spots.Reached.{Reached}
use Rattle.sg_safe.specs.Inside.Routes.{IsDone, IsReached, add_begin, add_step, add_unlost, are_among, are_steps, nexts_by, place_in}
use Rattle.sg_safe.specs.Reasons.{goes_on, led_by, led_on}

-- ---- walks of one call more

led_more : (d : Described) (s t : Spot) (walk : List ℕ) (fun : ℕ) → led_on d s walk ≡ Some t → goes_on d t fun ≡ true → led_on d s (walk ++ fun ∷ []) ≡ Some (next_spot d.facts fun t)
led_more d s t [] fun led goes =
    let same : t ≡ s = sym (cc led) in
    subst (λ (x : Spot). cond (goes_on d x fun) (Some (next_spot d.facts fun x)) None ≡ Some (next_spot d.facts fun t)) same (ap (λ b. cond b (Some (next_spot d.facts fun t)) None) goes)
led_more d s t (f ∷ walk) fun led goes = at (goes_on d s f) led (λ is. led_more d (next_spot d.facts f s) t walk fun is goes)
  where
    at : (b : Bool) → cond b (led_on d (next_spot d.facts f s) walk) None ≡ Some t
        → (led_on d (next_spot d.facts f s) walk ≡ Some t → led_on d (next_spot d.facts f s) (walk ++ fun ∷ []) ≡ Some (next_spot d.facts fun t))
        → cond b (led_on d (next_spot d.facts f s) (walk ++ fun ∷ [])) None ≡ Some (next_spot d.facts fun t)
    at true led rest = rest led
    at false led rest = absurd (cc led)

led_by_more : (d : Described) (t : Spot) (walk : List ℕ) (fun : ℕ) → led_by d walk ≡ Some t → goes_on d t fun ≡ true → led_by d (walk ++ fun ∷ []) ≡ Some (next_spot d.facts fun t)
led_by_more d t [] fun led goes = absurd (cc led)
led_by_more d t (f ∷ walk) fun led goes = at (fun_at d.facts.funs f).creation led (λ is. led_more d (first_spot d.facts f) t walk fun is goes)
  where
    at : (b : Bool) → cond b (led_on d (first_spot d.facts f) walk) None ≡ Some t
        → (led_on d (first_spot d.facts f) walk ≡ Some t → led_on d (first_spot d.facts f) (walk ++ fun ∷ []) ≡ Some (next_spot d.facts fun t))
        → cond b (led_on d (first_spot d.facts f) (walk ++ fun ∷ [])) None ≡ Some (next_spot d.facts fun t)
    at true led rest = rest led
    at false led rest = absurd (cc led)

-- a recover step goes on
pub steps_on_by : (d : Described) (s : Spot) (a b : ℕ) → has_pair d.facts.steps a b ≡ true → is_step d s (a, b) ≡ true → goes_on d s b ≡ true
steps_on_by d s a b listed step =
    let parts = both_true (a == s.state) (not (fun_at d.facts.funs b).terminal) step in
    let there = subst (λ n. has_pair d.facts.steps n b ≡ true) (same_of a s.state parts.0) listed in
    ap (λ v. v && not (fun_at d.facts.funs b).terminal) there ∙ parts.1

pub reached_begun : (d : Described) (r : Reached) (fun : ℕ) → place_in d r ≡ first_spot d.facts fun → r.walk ≡ fun ∷ [] → (fun_at d.facts.funs fun).creation ≡ true → IsReached d 1 r
reached_begun d r fun place walk creation = record {
  led = ap (led_by d) walk ∙ ap (λ b. cond b (Some (first_spot d.facts fun)) None) creation ∙ ap Some (sym place);
  most = let count = ap length walk in omega (arith, count);
}

pub reached_more : (d : Described) (calls : ℕ) (from r : Reached) (fun : ℕ) → IsReached d calls from → place_in d r ≡ next_spot d.facts fun (place_in d from) → r.walk ≡ from.walk ++ fun ∷ []
    → goes_on d (place_in d from) fun ≡ true → IsReached d (calls + 1) r
reached_more d calls from r fun reached place walk goes = record {
  led = ap (led_by d) walk ∙ led_by_more d (place_in d from) from.walk fun reached.led goes ∙ ap Some (sym place);
  most = let count = ap length walk ∙ length-append from.walk (fun ∷ []) in let low = reached.most in omega (arith, count, low);
}

pub reached_weaker : (d : Described) (calls : ℕ) (found : List Reached) → All (IsReached d calls) found → All (IsReached d (calls + 1)) found
reached_weaker d calls found all = All-weaker (IsReached d calls) (IsReached d (calls + 1)) (λ r reached. record { led = reached.led; most = let low = reached.most in omega (arith, low) }) found all

-- each has room for one call more
pub reached_room : (d : Described) (calls : ℕ) (found : List Reached) → calls < 8 → All (IsReached d calls) found → All (λ r. length r.walk < 8) found
reached_room d calls found low all = All-weaker (IsReached d calls) (λ r. length r.walk < 8) (λ r reached. let few = reached.most in omega (arith, few, low)) found all

-- ---- pairs and functions of a description

pub all_listed : (some all : List (ℕ × ℕ)) → ((a b : ℕ) → has_pair some a b ≡ true → has_pair all a b ≡ true) → list_all (λ p. has_pair all p.0 p.1) some ≡ true
all_listed [] all within = refl
all_listed (p ∷ some) all within =
    let own : has_pair (p ∷ some) p.0 p.1 ≡ true = ap (λ b. (b && (p.1 == p.1)) || has_pair some p.0 p.1) (own_test p.0) ∙ ap (λ b. b || has_pair some p.0 p.1) (own_test p.1) in
    ap (λ b. b && list_all (λ q. has_pair all q.0 q.1) some) (within p.0 p.1 own)
    ∙ all_listed some all (λ a b is. within a b (ap (λ v. ((p.0 == a) && (p.1 == b)) || v) is ∙ or_true ((p.0 == a) && (p.1 == b))))

pub own_steps : (d : Described) → are_steps d d.facts.steps ≡ true
own_steps d = all_listed d.facts.steps d.facts.steps (λ a b is. is)

get_dropped : (funs : List Fun) (k : ℕ) (f : Fun) (rest : List Fun) → drop k funs ≡ f ∷ rest → slice_get funs k ≡ Some f
get_dropped [] zero f rest is = absurd (cc is)
get_dropped [] (suc k) f rest is = absurd (cc is)
get_dropped (g ∷ funs) zero f rest is = let same : g ≡ f = cc is in ap Some same
get_dropped (g ∷ funs) (suc k) f rest is = get_dropped funs k f rest is

rest_dropped : (funs : List Fun) (k : ℕ) (f : Fun) (rest : List Fun) → drop k funs ≡ f ∷ rest → drop (suc k) funs ≡ rest
rest_dropped [] zero f rest is = absurd (cc is)
rest_dropped [] (suc k) f rest is = absurd (cc is)
rest_dropped (g ∷ funs) zero f rest is = cc is
rest_dropped (g ∷ funs) (suc k) f rest is = rest_dropped funs k f rest is

-- the function of a number is the first of those from there on
pub fun_first : (funs : List Fun) (n : ℕ) (f : Fun) (rest : List Fun) → 1 ≤ n → drop (n - 1) funs ≡ f ∷ rest → fun_at funs n ≡ f
fun_first funs zero f rest low is = absurd (omega (arith, low))
fun_first funs (suc k) f rest low is =
    let same : suc k - 1 ≡ k = omega arith in
    let there = get_dropped funs k f rest (subst (λ m. drop m funs ≡ f ∷ rest) same is) in
    ap (λ o. unwrap_or o no_fun) there

pub funs_rest : (funs : List Fun) (n : ℕ) (f : Fun) (rest : List Fun) → 1 ≤ n → drop (n - 1) funs ≡ f ∷ rest → drop (n + 1 - 1) funs ≡ rest
funs_rest funs zero f rest low is = absurd (omega (arith, low))
funs_rest funs (suc k) f rest low is =
    let same : suc k - 1 ≡ k = omega arith in
    let next : suc k ≡ suc k + 1 - 1 = omega arith in
    subst (λ m. drop m funs ≡ rest) next (rest_dropped funs k f rest (subst (λ m. drop m funs ≡ f ∷ rest) same is))

split : {A : Type 0} (xs : List A) (d : A) → 1 ≤ length xs → xs ≡ get_or xs 0 d ∷ drop 1 xs
split [] d low = absurd (omega (arith, low))
split (x ∷ xs) d low = refl

-- a slice without its first element
pub rest_of : {A : Type 0} (xs : List A) → take (length xs - 1) (drop 1 xs) ≡ drop 1 xs
rest_of [] = refl
rest_of (x ∷ xs) = take_all (length (x ∷ xs) - 1) xs (omega arith)

pub first_there : (funs : List Fun) (xs : List FunShape) (d : FunShape) (n : ℕ) → 1 ≤ n → drop (n - 1) funs ≡ map fun_of_shape xs → 1 ≤ length xs → fun_at funs n ≡ fun_of_shape (get_or xs 0 d)
first_there funs xs d n low is some = fun_first funs n (fun_of_shape (get_or xs 0 d)) (map fun_of_shape (drop 1 xs)) low (is ∙ ap (map fun_of_shape) (split xs d some))

rest_there_all : (funs : List Fun) (xs : List FunShape) (d : FunShape) (n : ℕ) → 1 ≤ n → drop (n - 1) funs ≡ map fun_of_shape xs → 1 ≤ length xs → drop (n + 1 - 1) funs ≡ map fun_of_shape (drop 1 xs)
rest_there_all funs xs d n low is some = funs_rest funs n (fun_of_shape (get_or xs 0 d)) (map fun_of_shape (drop 1 xs)) low (is ∙ ap (map fun_of_shape) (split xs d some))

pub rest_there : (funs : List Fun) (xs : List FunShape) (n : ℕ) → 1 ≤ n → drop (n - 1) funs ≡ map fun_of_shape xs → 1 ≤ length xs
    → drop (n + 1 - 1) funs ≡ map fun_of_shape (take (length xs - 1) (drop 1 xs))
rest_there funs [] n low is some = absurd (omega (arith, some))
rest_there funs (x ∷ xs) n low is some = rest_there_all funs (x ∷ xs) x n low is some ∙ ap (map fun_of_shape) (sym (rest_of (x ∷ xs)))

-- ---- spots

begin_at : (d : Described) (n : ℕ) (funs : List Fun) (old : List Spot) (makes : Bool)
    → add_spots (cond makes (add_unlost d old (first_spot d.facts n)) old) (begins d (suc n) funs)
    ≡ add_spots old (cond (makes && not (is_lost d (first_spot d.facts n))) (first_spot d.facts n ∷ begins d (suc n) funs) (begins d (suc n) funs))
begin_at d n funs old false = refl
begin_at d n funs old true = at (is_lost d (first_spot d.facts n))
  where
    at : (b : Bool) → add_spots (cond b old (add_spot old (first_spot d.facts n))) (begins d (suc n) funs)
        ≡ add_spots old (cond (not b) (first_spot d.facts n ∷ begins d (suc n) funs) (begins d (suc n) funs))
    at true = refl
    at false = refl

pub begin_more : (d : Described) (n : ℕ) (f : Fun) (funs : List Fun) (old mid new : List Spot) → mid ≡ add_begin d old n f → new ≡ add_spots mid (begins d (n + 1) funs)
    → new ≡ add_spots old (begins d n (f ∷ funs))
begin_more d n f funs old mid new one rest =
    let next : n + 1 ≡ suc n = omega arith in
    rest ∙ ap (λ m. add_spots mid (begins d m funs)) next ∙ ap (λ l. add_spots l (begins d (suc n) funs)) one ∙ begin_at d n funs old f.creation

pub begin_no : (d : Described) (old : List Spot) (n : ℕ) (f : Fun) (b : Bool) → b ≡ f.creation → b ≡ false → old ≡ add_begin d old n f
begin_no d old n f b is isn't = ap (λ v. cond v (add_unlost d old (first_spot d.facts n)) old) (sym isn't ∙ is)

pub begin_yes : (d : Described) (old new : List Spot) (n : ℕ) (f : Fun) (first : Spot) (b : Bool) → b ≡ f.creation → b ≡ true → first ≡ first_spot d.facts n → new ≡ add_unlost d old first → new ≡ add_begin d old n f
begin_yes d old new n f first b is so place one =
    one ∙ ap (add_unlost d old) place ∙ ap (λ v. cond v (add_unlost d old (first_spot d.facts n)) old) (sym so ∙ is)

pub begins_all : (d : Described) (xs : List FunShape) (x : FunShape) (n : ℕ) (old mid new : List Spot) → 1 ≤ length xs → mid ≡ add_begin d old n (fun_of_shape (get_or xs 0 x))
    → new ≡ add_spots mid (begins d (n + 1) (map fun_of_shape (take (length xs - 1) (drop 1 xs)))) → new ≡ add_spots old (begins d n (map fun_of_shape xs))
begins_all d [] x n old mid new some one rest = absurd (omega (arith, some))
begins_all d (y ∷ ys) x n old mid new some one rest =
    begin_more d n (fun_of_shape y) (map fun_of_shape ys) old mid new one (rest ∙ ap (λ l. add_spots mid (begins d (n + 1) (map fun_of_shape l))) (rest_of (y ∷ ys)))

step_at : (d : Described) (s : Spot) (p : ℕ × ℕ) (pairs : List (ℕ × ℕ)) (old : List Spot) (steps : Bool)
    → add_spots (cond steps (add_unlost d old (next_spot d.facts p.1 s)) old) (nexts_by d s pairs)
    ≡ add_spots old (filter (λ t. not (is_lost d t)) (map (λ q. next_spot d.facts q.1 s) (cond steps (p ∷ filter (is_step d s) pairs) (filter (is_step d s) pairs))))
step_at d s p pairs old false = refl
step_at d s p pairs old true = at (is_lost d (next_spot d.facts p.1 s))
  where
    at : (b : Bool) → add_spots (cond b old (add_spot old (next_spot d.facts p.1 s))) (nexts_by d s pairs)
        ≡ add_spots old (cond (not b) (next_spot d.facts p.1 s ∷ nexts_by d s pairs) (nexts_by d s pairs))
    at true = refl
    at false = refl

pub step_more : (d : Described) (s : Spot) (p : ℕ × ℕ) (pairs : List (ℕ × ℕ)) (old mid new : List Spot) → mid ≡ add_step d old s p → new ≡ add_spots mid (nexts_by d s pairs)
    → new ≡ add_spots old (nexts_by d s (p ∷ pairs))
step_more d s p pairs old mid new one rest = rest ∙ ap (λ l. add_spots l (nexts_by d s pairs)) one ∙ step_at d s p pairs old (is_step d s p)

add_both : (old some more : List Spot) → add_spots old (some ++ more) ≡ add_spots (add_spots old some) more
add_both old [] more = refl
add_both old (s ∷ some) more = add_both (add_spot old s) some more

pub nexts_more : (d : Described) (s : Spot) (from old mid new : List Spot) → mid ≡ add_spots old (nexts d s) → new ≡ add_spots mid (flat_map (nexts d) from)
    → new ≡ add_spots old (flat_map (nexts d) (s ∷ from))
nexts_more d s from old mid new one rest = rest ∙ ap (λ l. add_spots l (flat_map (nexts d) from)) one ∙ sym (add_both old (nexts d s) (flat_map (nexts d) from))

pub nexts_all : (d : Described) (xs : List Reached) (x : Reached) (old mid new : List Spot) → 1 ≤ length xs → x ≡ get_or xs 0 x → mid ≡ add_spots old (nexts d (place_in d x))
    → new ≡ add_spots mid (flat_map (nexts d) (map (place_in d) (take (length xs - 1) (drop 1 xs)))) → new ≡ add_spots old (flat_map (nexts d) (map (place_in d) xs))
nexts_all d [] x old mid new some is one rest = absurd (omega (arith, some))
nexts_all d (y ∷ ys) x old mid new some is one rest =
    nexts_more d (place_in d y) (map (place_in d) ys) old mid new (one ∙ ap (λ (z : Reached). add_spots old (nexts d (place_in d z))) is)
    (rest ∙ ap (λ l. add_spots mid (flat_map (nexts d) (map (place_in d) l))) (rest_of (y ∷ ys)))

pub step_no : (d : Described) (old : List Spot) (s : Spot) (p : ℕ × ℕ) (b : Bool) → b ≡ is_step d s p → b ≡ false → old ≡ add_step d old s p
step_no d old s p b is isn't = ap (λ v. cond v (add_unlost d old (next_spot d.facts p.1 s)) old) (sym isn't ∙ is)

pub step_yes : (d : Described) (old new : List Spot) (s next : Spot) (p : ℕ × ℕ) (b : Bool) → b ≡ is_step d s p → b ≡ true → next ≡ next_spot d.facts p.1 s → new ≡ add_unlost d old next → new ≡ add_step d old s p
step_yes d old new s next p b is so place one =
    one ∙ ap (add_unlost d old) place ∙ ap (λ v. cond v (add_unlost d old (next_spot d.facts p.1 s)) old) (sym so ∙ is)

-- ---- spots that are listed already

kept_by_one : (spots : List Spot) (s t : Spot) → list_any (same_spot t) spots ≡ true → list_any (same_spot t) (add_spot spots s) ≡ true
kept_by_one spots s t is = at (list_any (same_spot s) spots)
  where
    at : (b : Bool) → list_any (same_spot t) (cond b spots (spots ++ s ∷ [])) ≡ true
    at true = is
    at false = list_any-append (same_spot t) spots (s ∷ []) ∙ ap (λ b. b || list_any (same_spot t) (s ∷ [])) is

kept : (more spots : List Spot) (t : Spot) → list_any (same_spot t) spots ≡ true → list_any (same_spot t) (add_spots spots more) ≡ true
kept [] spots t is = is
kept (s ∷ more) spots t is = kept more (add_spot spots s) t (kept_by_one spots s t is)

listed_one : (spots : List Spot) (s : Spot) → list_any (same_spot s) (add_spot spots s) ≡ true
listed_one spots s = at (list_any (same_spot s) spots) refl
  where
    at : (b : Bool) → list_any (same_spot s) spots ≡ b → list_any (same_spot s) (cond b spots (spots ++ s ∷ [])) ≡ true
    at true is = is
    at false is = list_any-append (same_spot s) spots (s ∷ []) ∙ ap (λ b. b || (same_spot s s || false)) is ∙ ap (λ b. b || false) (own_spot s)

-- what was added is listed
added : (more spots : List Spot) → are_among (add_spots spots more) more ≡ true
added [] spots = refl
added (s ∷ more) spots = ap (λ b. b && are_among (add_spots (add_spot spots s) more) more) (kept more (add_spot spots s) s (listed_one spots s)) ∙ added more (add_spot spots s)

-- what is listed adds nothing
none_added : (more spots : List Spot) → are_among spots more ≡ true → add_spots spots more ≡ spots
none_added [] spots are = refl
none_added (s ∷ more) spots are =
    let parts = both_true (list_any (same_spot s) spots) (are_among spots more) are in
    ap (λ b. add_spots (cond b spots (spots ++ s ∷ [])) more) parts.0 ∙ none_added more spots parts.1

-- what isn't goes last
at_end : (more spots : List Spot) → (rest : List Spot) × (add_spots spots more ≡ spots ++ rest)
at_end [] spots = ([], sym (append-nil spots))
at_end (s ∷ more) spots = at (list_any (same_spot s) spots) (at_end more)
  where
    at : (b : Bool) → ((l : List Spot) → (rest : List Spot) × (add_spots l more ≡ l ++ rest)) → (rest : List Spot) × (add_spots (cond b spots (spots ++ s ∷ [])) more ≡ spots ++ rest)
    at true later = later spots
    at false later = let last = later (spots ++ s ∷ []) in (s ∷ last.0, last.1 ∙ append_assoc spots (s ∷ []) last.0)

-- where one call more leads to from those from which it wasn't added yet
latest_nexts : (d : Described) (done : ℕ) (old : List Spot) → IsDone d done old → add_spots old (flat_map (nexts d) (drop done old)) ≡ add_spots old (flat_map (nexts d) old)
latest_nexts d done old is =
    let before = flat_map (nexts d) (take done old) in
    let after = flat_map (nexts d) (drop done old) in
    ap (λ l. add_spots l after) (sym (none_added before old is.listed)) ∙ sym (add_both old before after)
    ∙ ap (add_spots old) (sym (flat_map-append (nexts d) (take done old) (drop done old))) ∙ ap (λ l. add_spots old (flat_map (nexts d) l)) (take-append-drop done old)

pub latest_more : (d : Described) (done : ℕ) (old new latest : List Reached) → IsDone d done (map (place_in d) old) → latest ≡ take (length old - done) (drop done old)
    → map (place_in d) new ≡ add_spots (map (place_in d) old) (flat_map (nexts d) (map (place_in d) latest))
    → map (place_in d) new ≡ add_spots (map (place_in d) old) (flat_map (nexts d) (map (place_in d) old))
latest_more d done old new latest is last more =
    more ∙ ap (λ l. add_spots (map (place_in d) old) (flat_map (nexts d) (map (place_in d) l))) (last ∙ take_rest old done)
    ∙ ap (λ l. add_spots (map (place_in d) old) (flat_map (nexts d) l)) (sym (drop-map (place_in d) done old))
    ∙ latest_nexts d done (map (place_in d) old) is

pub all_latest : (P : Reached → Type 0) (done : ℕ) (old latest : List Reached) → latest ≡ take (length old - done) (drop done old) → All P old → All P latest
all_latest P done old latest last all = subst (All P) (sym (last ∙ take_rest old done)) (All-drop P done old all)

pub none_done : (d : Described) (spots : List Spot) → IsDone d 0 spots
none_done d spots = record { within = omega arith; listed = refl }

pub all_done : (d : Described) (old new : List Reached) (n : ℕ) → n ≡ length old → map (place_in d) new ≡ add_spots (map (place_in d) old) (flat_map (nexts d) (map (place_in d) old))
    → IsDone d n (map (place_in d) new)
all_done d old new n size is =
    let spots = map (place_in d) old in
    let last = at_end (flat_map (nexts d) spots) spots in
    let long : length spots ≡ n = length-map old (place_in d) ∙ sym size in
    let front : take n (map (place_in d) new) ≡ spots = ap (take n) (is ∙ last.1) ∙ take_at spots last.0 n long in
    record {
      within = let more = ap length (is ∙ last.1) ∙ length-append spots last.0 in omega (arith, more, long);
      listed = ap (λ l. are_among (map (place_in d) new) (flat_map (nexts d) l)) front ∙ ap (λ l. are_among l (flat_map (nexts d) spots)) is ∙ added (flat_map (nexts d) spots) spots;
    }

-- after one call more
pub spots_more : (d : Described) (calls : ℕ) (found all : List Spot) → 1 ≤ calls → found ≡ spots_within d (calls - 1) → all ≡ add_spots found (flat_map (nexts d) found)
    → all ≡ spots_within d (calls + 1 - 1)
spots_more d zero found all low is more = absurd (omega (arith, low))
spots_more d (suc k) found all low is more =
    let same : suc k - 1 ≡ k = omega arith in
    let next : suc k ≡ suc k + 1 - 1 = omega arith in
    more ∙ ap (λ l. add_spots l (flat_map (nexts d) l)) (is ∙ ap (spots_within d) same) ∙ ap (spots_within d) next

pub spots_last : (d : Described) (calls : ℕ) (found : List Spot) → calls ≡ 7 → found ≡ spots_within d (calls - 1) → found ≡ spots_of d
spots_last d calls found last is = is ∙ ap (λ n. spots_within d (n - 1)) last

-- ---- lists of what was found

pub reached_push : (d : Described) (calls : ℕ) (found : List Reached) (r : Reached) → IsReached d calls r → All (IsReached d calls) found → All (IsReached d calls) (found ++ r ∷ [])
reached_push d calls found r reached all = All-push (IsReached d calls) found r all reached

pub all_rest : (P : Reached → Type 0) (xs : List Reached) → All P xs → All P (take (length xs - 1) (drop 1 xs))
all_rest P xs all = subst (All P) (sym (rest_of xs)) (All-drop P 1 xs all)

pub none_reached : (d : Described) (calls : ℕ) (found : List Reached) → found ≡ [] → All (IsReached d calls) found
none_reached d calls found is = subst (All (IsReached d calls)) (sym is) (All-nil (IsReached d calls))

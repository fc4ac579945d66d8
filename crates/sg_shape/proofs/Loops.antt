-- What loops have gathered, or not found, after one element more.
use Rattle.std.proofs.Common.{◌≡◌, ℕ, zero, suc, ◌+◌, ◌-◌, ◌<◌, Bool, true, false, cond, List, [], ◌∷◌, ◌++◌, take, drop, length, get_or, None, Some, refl, sym, ◌∙◌, ap, append_assoc, arith}
use Rattle.std.specs.Prelude.{◌==◌, ◌&&◌, count_by, find}
use Rattle.std.specs.declared.option.Option.{Option}
use Rattle.std.specs.List.{cons_option, filter_map, flat_map}
use Rattle.std.specs.Option.{option_or, option_to_list}
use Rattle.std.proofs.lemmas.List.{append-nil, take_more, take-append-drop}
use Rattle.std.proofs.lemmas.List.Concat.{flat_map-append}
use Rattle.std.proofs.lemmas.List.Elements.{filter_map-append}
use Rattle.std.proofs.lemmas.List.Folds.{find-append}
use Rattle.sg_check_statements.specs.sg_facts.declared.shape.Effect.{Effect}
use Rattle.sg_check_statements.specs.sg_facts.Allowed.{each_arg}
use Rattle.sg_check_statements.specs.sg_facts.Walks.{carries_arg}

one_gathered : {Y : Type 0} (o : Option Y) → cons_option o [] ≡ option_to_list o
one_gathered None = refl
one_gathered (Some y) = refl

-- what is gathered of one element more
pub gathered_more : {X Y : Type 0} (h : X → Option Y) (xs : List X) (i : ℕ) (x : X) → i < length xs → x ≡ get_or xs i x → filter_map h (take (i + 1) xs) ≡ filter_map h (take i xs) ++ option_to_list (h x)
gathered_more h xs i x within is =
    ap (filter_map h) (take_more xs i x within) ∙ filter_map-append h (take i xs) (get_or xs i x ∷ [])
    ∙ ap (λ l. filter_map h (take i xs) ++ l) (one_gathered (h (get_or xs i x)) ∙ ap (λ y. option_to_list (h y)) (sym is))

-- a list that has gained what is gathered
pub gained : {X Y : Type 0} (h : X → Option Y) (xs : List X) (i : ℕ) (x : X) (found : Option Y) (base old new : List Y) → i < length xs → x ≡ get_or xs i x → found ≡ h x
    → old ≡ base ++ filter_map h (take i xs) → new ≡ old ++ option_to_list found → new ≡ base ++ filter_map h (take (i + 1) xs)
gained h xs i x found base old new within is told before more =
    more ∙ ap (λ l. l ++ option_to_list found) before ∙ append_assoc base (filter_map h (take i xs)) (option_to_list found)
    ∙ ap (λ o. base ++ (filter_map h (take i xs) ++ option_to_list o)) told ∙ ap (λ l. base ++ l) (sym (gathered_more h xs i x within is))

-- a list that has gained all that one element more gives
pub gained_all : {X Y : Type 0} (h : X → List Y) (xs : List X) (i : ℕ) (x : X) (base old new : List Y) → i < length xs → x ≡ get_or xs i x
    → old ≡ base ++ flat_map h (take i xs) → new ≡ old ++ h x → new ≡ base ++ flat_map h (take (i + 1) xs)
gained_all h xs i x base old new within is before more =
    more ∙ ap (λ l. l ++ h x) before ∙ append_assoc base (flat_map h (take i xs)) (h x)
    ∙ ap (λ l. base ++ l)
    (ap (λ l. flat_map h (take i xs) ++ l) (sym (append-nil (h x)) ∙ ap (λ y. h y ++ []) is)
    ∙ sym (flat_map-append h (take i xs) (get_or xs i x ∷ [])) ∙ ap (flat_map h) (sym (take_more xs i x within)))

-- none is found where one more fails
pub none_more : {X : Type 0} (test : X → Bool) (xs : List X) (i : ℕ) (x : X) → i < length xs → x ≡ get_or xs i x → find test (take i xs) ≡ None → test x ≡ false → find test (take (i + 1) xs) ≡ None
none_more test xs i x within is none fails =
    ap (find test) (take_more xs i x within) ∙ find-append test (take i xs) (get_or xs i x ∷ [])
    ∙ ap (λ o. option_or o (find test (get_or xs i x ∷ []))) none ∙ ap (λ b. cond b (Some (get_or xs i x)) None) (ap test (sym is) ∙ fails)

-- the first that passes is found
pub found_here : {X : Type 0} (test : X → Bool) (xs : List X) (i : ℕ) (x : X) → i < length xs → x ≡ get_or xs i x → find test (take i xs) ≡ None → test x ≡ true → find test xs ≡ Some x
found_here test xs i x within is none passes =
    ap (find test) (sym (take-append-drop (i + 1) xs) ∙ ap (λ l. l ++ drop (i + 1) xs) (take_more xs i x within) ∙ append_assoc (take i xs) (get_or xs i x ∷ []) (drop (i + 1) xs))
    ∙ find-append test (take i xs) (get_or xs i x ∷ drop (i + 1) xs)
    ∙ ap (λ o. option_or o (find test (get_or xs i x ∷ drop (i + 1) xs))) none
    ∙ ap (λ b. cond b (Some (get_or xs i x)) (find test (drop (i + 1) xs))) (ap test (sym is) ∙ passes) ∙ ap Some (sym is)

-- nothing is gathered where one more gives nothing
pub nothing_more : {X Y : Type 0} (h : X → Option Y) (xs : List X) (i : ℕ) (x : X) → i < length xs → x ≡ get_or xs i x → filter_map h (take i xs) ≡ [] → h x ≡ None → filter_map h (take (i + 1) xs) ≡ []
nothing_more h xs i x within is none fails = gathered_more h xs i x within is ∙ ap (λ l. l ++ option_to_list (h x)) none ∙ ap option_to_list fails

-- the first that gives something stands first
pub first_gathered : {X Y : Type 0} (h : X → Option Y) (xs : List X) (i : ℕ) (x : X) (y : Y) → i < length xs → x ≡ get_or xs i x → filter_map h (take i xs) ≡ [] → h x ≡ Some y
    → filter_map h xs ≡ y ∷ filter_map h (drop (i + 1) xs)
first_gathered h xs i x y within is none some =
    ap (filter_map h) (sym (take-append-drop (i + 1) xs)) ∙ filter_map-append h (take (i + 1) xs) (drop (i + 1) xs)
    ∙ ap (λ l. l ++ filter_map h (drop (i + 1) xs)) (gathered_more h xs i x within is ∙ ap (λ l. l ++ option_to_list (h x)) none ∙ ap option_to_list some)

-- an argument fewer is left
pub arg_step : (effects : List (ℕ × Effect)) (n : ℕ) → (n ≡ 0 → ⊥) → ((count_by (λ e. carries_arg (n - 1) e.1) effects == 1) && each_arg effects (n - 1)) ≡ each_arg effects n
arg_step effects zero some = absurd (some refl)
arg_step effects (suc n) some =
    let less : suc n - 1 ≡ n = omega arith in ap (λ m. (count_by (λ e. carries_arg m e.1) effects == 1) && each_arg effects m) less

-- The names of fields: those of the uses, each once.
use Rattle.std.proofs.Common.{◌≡◌, ℕ, zero, suc, Bool, true, false, cond, ◌&&◌, ◌||◌, not, List, [], ◌∷◌, map, None, Some, refl, sym, ◌∙◌, ap}
use Rattle.std.specs.Prelude.{filter, slice_get}
use Rattle.std.specs.declared.option.Option.{Option}
use Rattle.std.specs.List.{cons_option, filter_map, flat_map, list_all}
use Rattle.std.specs.Str.{bytes_eq}
use Rattle.std.proofs.lemmas.Bool.{and_parts, or_right}
use Rattle.std.proofs.lemmas.List.Folds.{list_all-append}
use Rattle.sg_check_statements.specs.NameSet.{has_name}
use Rattle.sg_check_statements.specs.Shapes.{all_differ}
use Rattle.sg_shape.specs.Fields.{Use, field_at, first_uses, is_of_another}
use Rattle.sg_shape.proofs.Names.{own_bytes, same_bytes}
use Rattle.sg_shape.proofs.Places.{all_pass}

-- the names of uses
abbrev pub use_names : List Use → List (List ℕ)
use_names uses = map (λ u. u.name.bytes) uses

pub field_names : (uses : List Use) → map (λ f. f.name) (map field_at uses) ≡ use_names uses
field_names [] = refl
field_names (u ∷ uses) = ap (λ l. u.name.bytes ∷ l) (field_names uses)

-- ---- each once

-- a name that isn't among names isn't among those that a filter keeps
still_none : (keep : Use → Bool) (uses : List Use) (n : List ℕ) → has_name (use_names uses) n ≡ false → has_name (use_names (filter keep uses)) n ≡ false
still_none keep [] n none = refl
still_none keep (u ∷ uses) n none = by (keep u) (bytes_eq u.name.bytes n) refl none (λ later. still_none keep uses n later)
  where
    by : (b c : Bool) → bytes_eq u.name.bytes n ≡ c → (c || has_name (use_names uses) n) ≡ false
        → (has_name (use_names uses) n ≡ false → has_name (use_names (filter keep uses)) n ≡ false)
        → has_name (use_names (cond b (u ∷ filter keep uses) (filter keep uses))) n ≡ false
    by b true told is rest = absurd (cc is)
    by true false told is rest = ap (λ d. d || has_name (use_names (filter keep uses)) n) told ∙ rest is
    by false false told is rest = rest is

still_differ : (keep : Use → Bool) (uses : List Use) → all_differ (use_names uses) ≡ true → all_differ (use_names (filter keep uses)) ≡ true
still_differ keep [] differ = refl
still_differ keep (u ∷ uses) differ = by (keep u) (has_name (use_names uses) u.name.bytes) refl differ (λ later. still_differ keep uses later)
  where
    by : (b c : Bool) → has_name (use_names uses) u.name.bytes ≡ c → (not c && all_differ (use_names uses)) ≡ true
        → (all_differ (use_names uses) ≡ true → all_differ (use_names (filter keep uses)) ≡ true)
        → all_differ (use_names (cond b (u ∷ filter keep uses) (filter keep uses))) ≡ true
    by b true told is rest = absurd (cc is)
    by true false told is rest = ap (λ d. not d && all_differ (use_names (filter keep uses))) (still_none keep uses u.name.bytes told) ∙ rest is
    by false false told is rest = rest is

-- what a filter keeps of uses of other fields has not this one's name
others_differ : (u : Use) (uses : List Use) → has_name (use_names (filter (is_of_another u) uses)) u.name.bytes ≡ false
others_differ u [] = refl
others_differ u (v ∷ uses) = by (bytes_eq v.name.bytes u.name.bytes) refl (others_differ u uses)
  where
    by : (b : Bool) → bytes_eq v.name.bytes u.name.bytes ≡ b → has_name (use_names (filter (is_of_another u) uses)) u.name.bytes ≡ false
        → has_name (use_names (cond (not b) (v ∷ filter (is_of_another u) uses) (filter (is_of_another u) uses))) u.name.bytes ≡ false
    by true told rest = rest
    by false told rest = ap (λ d. d || has_name (use_names (filter (is_of_another u) uses)) u.name.bytes) told ∙ rest

-- the first uses are of different fields
pub first_differ : (uses : List Use) → all_differ (use_names (first_uses uses)) ≡ true
first_differ [] = refl
first_differ (u ∷ uses) =
    ap (λ b. not b && all_differ (use_names (filter (is_of_another u) (first_uses uses)))) (others_differ u (first_uses uses))
    ∙ still_differ (is_of_another u) (first_uses uses) (first_differ uses)

-- ---- all of them

-- a name that is kept or is that of the field is among those that stay
still_named : (u : Use) (uses : List Use) (n : List ℕ) → has_name (use_names uses) n ≡ true
    → (bytes_eq u.name.bytes n || has_name (use_names (filter (is_of_another u) uses)) n) ≡ true
still_named u [] n among = absurd (cc among)
still_named u (v ∷ uses) n among =
    by (bytes_eq u.name.bytes n) (bytes_eq v.name.bytes u.name.bytes) (bytes_eq v.name.bytes n) refl refl refl among (λ later. still_named u uses n later)
  where
    by : (a b c : Bool) → bytes_eq u.name.bytes n ≡ a → bytes_eq v.name.bytes u.name.bytes ≡ b → bytes_eq v.name.bytes n ≡ c → (c || has_name (use_names uses) n) ≡ true
        → (has_name (use_names uses) n ≡ true → (bytes_eq u.name.bytes n || has_name (use_names (filter (is_of_another u) uses)) n) ≡ true)
        → (a || has_name (use_names (cond (not b) (v ∷ filter (is_of_another u) uses) (filter (is_of_another u) uses))) n) ≡ true
    by true b c here same other is rest = refl
    by false true true here same other is rest =
        let one : v.name.bytes ≡ u.name.bytes = same_bytes v.name.bytes u.name.bytes same in
        let wrong : true ≡ false = sym other ∙ ap (λ m. bytes_eq m n) one ∙ here in
        absurd (cc wrong)
    by false true false here same other is rest = ap (λ d. d || has_name (use_names (filter (is_of_another u) uses)) n) (sym here) ∙ rest is
    by false false true here same other is rest = ap (λ d. d || has_name (use_names (filter (is_of_another u) uses)) n) other
    by false false false here same other is rest =
        ap (λ d. d || has_name (use_names (filter (is_of_another u) uses)) n) other
        ∙ ap (λ d. d || has_name (use_names (filter (is_of_another u) uses)) n) (sym here) ∙ rest is

-- each name of a use is that of a first use
pub first_named : (uses : List Use) (n : List ℕ) → has_name (use_names uses) n ≡ true → has_name (use_names (first_uses uses)) n ≡ true
first_named [] n among = among
first_named (u ∷ uses) n among = by (bytes_eq u.name.bytes n) refl among (λ later. still_named u (first_uses uses) n (first_named uses n later))
  where
    by : (a : Bool) → bytes_eq u.name.bytes n ≡ a → (a || has_name (use_names uses) n) ≡ true
        → (has_name (use_names uses) n ≡ true → (bytes_eq u.name.bytes n || has_name (use_names (filter (is_of_another u) (first_uses uses))) n) ≡ true)
        → (bytes_eq u.name.bytes n || has_name (use_names (filter (is_of_another u) (first_uses uses))) n) ≡ true
    by true told is rest = ap (λ d. d || has_name (use_names (filter (is_of_another u) (first_uses uses))) n) told
    by false told is rest = rest is

-- each use has a name among those of all
pub all_named : (uses : List Use) → list_all (λ u. has_name (use_names uses) u.name.bytes) uses ≡ true
all_named uses = all_pass (λ u. has_name (use_names uses) u.name.bytes) uses (λ k u at. named uses k u at)
  where
    named : (us : List Use) (k : ℕ) (u : Use) → slice_get us k ≡ Some u → has_name (use_names us) u.name.bytes ≡ true
    named [] k u at = absurd (cc at)
    named (v ∷ us) zero u at = let same : v ≡ u = cc at in ap (λ b. b || has_name (use_names us) u.name.bytes) (ap (λ w. bytes_eq w.name.bytes u.name.bytes) same ∙ own_bytes u.name.bytes)
    named (v ∷ us) (suc k) u at = or_right (bytes_eq v.name.bytes u.name.bytes) (has_name (use_names us) u.name.bytes) (named us k u at)

-- ---- parts of lists

-- all that each of a list gives passes where all that they give does
pub all_of_each : {X Y : Type 0} (test : Y → Bool) (f : X → List Y) (xs : List X) (k : ℕ) (x : X) → list_all test (flat_map f xs) ≡ true → slice_get xs k ≡ Some x → list_all test (f x) ≡ true
all_of_each test f [] k x all at = absurd (cc at)
all_of_each test f (y ∷ xs) zero x all at =
    let same : y ≡ x = cc at in
    ap (λ z. list_all test (f z)) (sym same) ∙ (and_parts (list_all test (f y)) (list_all test (flat_map f xs)) (sym (list_all-append test (f y) (flat_map f xs)) ∙ all)).0
all_of_each test f (y ∷ xs) (suc k) x all at =
    all_of_each test f xs k x (and_parts (list_all test (f y)) (list_all test (flat_map f xs)) (sym (list_all-append test (f y) (flat_map f xs)) ∙ all)).1 at

pub one_gathered : {Y : Type 0} (test : Y → Bool) (o : Option Y) (ys : List Y) → list_all test (cons_option o ys) ≡ true → ((y : Y) → o ≡ Some y → test y ≡ true) × (list_all test ys ≡ true)
one_gathered test None ys all = (λ y is. absurd (cc is), all)
one_gathered test (Some x) ys all =
    let parts = and_parts (test x) (list_all test ys) all in
    (λ y is. let same : x ≡ y = cc is in ap test (sym same) ∙ parts.0, parts.1)

-- what one of a list gives passes where all that they give does
pub gathered_passes : {X Y : Type 0} (test : Y → Bool) (h : X → Option Y) (xs : List X) (k : ℕ) (x : X) (y : Y) → list_all test (filter_map h xs) ≡ true → slice_get xs k ≡ Some x → h x ≡ Some y → test y ≡ true
gathered_passes test h [] k x y all at is = absurd (cc at)
gathered_passes test h (z ∷ xs) zero x y all at is =
    let same : z ≡ x = cc at in (one_gathered test (h z) (filter_map h xs) all).0 y (ap h same ∙ is)
gathered_passes test h (z ∷ xs) (suc k) x y all at is = gathered_passes test h xs k x y (one_gathered test (h z) (filter_map h xs) all).1 at is

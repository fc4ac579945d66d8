-- Each declared function of one of the services is found by its name, which is one as entries are written with.
use Rattle.std.proofs.Common.{◌≡◌, ℕ, zero, suc, ◌+◌, ◌<◌, ◌≤◌, inl, inr, Bool, true, false, ◌&&◌, ◌||◌, not, List, [], ◌∷◌, Some, length, map, refl, sym, ◌∙◌, ap, arith}
use Rattle.std.specs.Prelude.{if◌then◌else◌}
use Rattle.std.specs.Str.{bytes_eq}
use Rattle.std.proofs.lemmas.Bool.{and_parts, cases_Bool}
use Rattle.std.proofs.lemmas.Slice.Eq.{bytes_eq-Decides}
use Rattle.sg_multi.specs.sg_facts.Facts.{Fun, fun_at}
use Rattle.sg_multi.specs.sg_facts.Fits.{Fits}
use Rattle.sg_multi.specs.sg_facts.Interface.{Declared, declares}
use Rattle.sg_multi.specs.sg_facts.sg_base.Lists.{Each}
use Rattle.sg_judge.specs.sg_input.sg_entries.Inside.Classes.{IsName}
use Rattle.sg_judge.specs.sg_input.sg_entries.Printed.{HasNames}
use Rattle.sg_judge.specs.sg_input.sg_script.Scripts.{declared_from}
use Rattle.sg_load.specs.sg_check_statements.Shapes.{all_differ}
use Rattle.sg_load.specs.sg_check_statements.NameSet.{has_name}
use Rattle.sg_top.specs.Inside.Plays.{IsPlayed}
use Rattle.sg_top.proofs.EachKind.{AreNamed, named_played}

-- ---- functions whose names differ are found by them

same_bytes : (xs ys : List ℕ) → bytes_eq xs ys ≡ true → xs ≡ ys
same_bytes xs ys is = (bytes_eq-Decides xs ys).0 is

bytes_same : (xs ys : List ℕ) → xs ≡ ys → bytes_eq xs ys ≡ true
bytes_same xs ys is = (bytes_eq-Decides xs ys).1 is

-- a name that stands among names
has_at : (funs : List Fun) (n : ℕ) (name : List ℕ) → n < length funs → bytes_eq (fun_at funs (suc n)).name name ≡ true → has_name (map (λ f. f.name) funs) name ≡ true
has_at [] n name within is = absurd (omega (arith, within))
has_at (f ∷ funs) zero name within is = ap (λ b. b || has_name (map (λ g. g.name) funs) name) is
has_at (f ∷ funs) (suc n) name within is = either (bytes_eq f.name name) (has_name (map (λ g. g.name) funs) name) (has_at funs n name (omega (arith, within)) is)
  where
    either : (a b : Bool) → b ≡ true → (a || b) ≡ true
    either true b is = refl
    either false b is = is

-- the first of a name is the one that has it, where all names differ
found : (i : Declared) (funs : List Fun) (n k : ℕ) → all_differ (map (λ f. f.name) funs) ≡ true → n < length funs → declares i (k + n) ≡ true
    → declared_from i (fun_at funs (suc n)).name k funs ≡ Some (k + n)
found i [] n k differ within declared = absurd (omega (arith, within))
found i (f ∷ funs) zero k differ within declared =
    let none : k + 0 ≡ k = omega arith in
    let here : declares i k ≡ true = ap (declares i) (sym none) ∙ declared in
    ap (λ b. if b && declares i k then Some k else declared_from i f.name (k + 1) funs) (bytes_same f.name f.name refl)
    ∙ ap (λ b. if b then Some k else declared_from i f.name (k + 1) funs) here ∙ ap Some (sym none)
found i (f ∷ funs) (suc n) k differ within declared =
    let name : List ℕ = (fun_at funs (suc n)).name in
    let parts = and_parts (not (has_name (map (λ g. g.name) funs) f.name)) (all_differ (map (λ g. g.name) funs)) differ in
    let next : (k + 1) + n ≡ k + suc n = omega arith in
    let other : bytes_eq f.name name ≡ false = elim (cases_Bool (bytes_eq f.name name)) [
      | inl is ↦
          let there : has_name (map (λ g. g.name) funs) f.name ≡ true = has_at funs n f.name (omega (arith, within)) (bytes_same name f.name (sym (same_bytes f.name name is))) in
          let no : not true ≡ true = ap not (sym there) ∙ parts.0 in absurd (cc no)
      | inr isn't ↦ isn't
    ] in
    ap (λ b. if b && declares i k then Some k else declared_from i name (k + 1) funs) other
    ∙ found i funs n (k + 1) parts.1 (omega (arith, within)) (ap (declares i) next ∙ declared) ∙ ap Some next

-- what holds of each function holds of the one of a number
at : (P : Fun → Type 0) (funs : List Fun) (n : ℕ) → n < length funs → Each P funs → P (fun_at funs (suc n))
at P [] n within each = absurd (omega (arith, within))
at P (f ∷ funs) zero within each = each.0
at P (f ∷ funs) (suc n) within each = at P funs n (omega (arith, within)) each.1

-- ---- the services

-- a declared function has a number from one on
numbered : (i : Declared) (fun : ℕ) → declares i fun ≡ true → 1 ≤ fun
numbered i zero declared = absurd (cc declared)
numbered i (suc n) declared = omega arith

has_names : (i : Declared) → AreNamed i.facts.funs → Fits i → HasNames i
has_names i are fits zero declared = absurd (omega (arith, numbered i zero declared))
has_names i are fits (suc n) declared =
    let few : suc n ≤ length i.facts.funs = fits.funs (suc n) declared in
    let next : 1 + n ≡ suc n = omega arith in (
      at (λ f. IsName f.name) i.facts.funs n (omega (arith, few)) are.each,
      found i i.facts.funs n 1 are.differ (omega (arith, few)) (ap (declares i) next ∙ declared) ∙ ap Some next,
    )

-- an interface of one of the services tells its functions by their names
pub names_of : (i : Declared) → IsPlayed i.facts → Fits i → HasNames i
names_of i played fits = has_names i (named_played i.facts played) fits

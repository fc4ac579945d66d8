-- Prototypes of functions in a set, and of functions of which something holds.
use Rattle.std.proofs.Common.{◌≡◌, ℕ, suc, ◌+◌, ◌<◌, ◌≤◌, Bool, true, false, List, [], ◌∷◌, None, Some, length, refl, ◌∙◌, ap, arith}
use Rattle.std.specs.Prelude.{◌↔◌, if◌then◌else◌, unwrap_or, MatchOption}
use Rattle.std.specs.declared.option.Option.{Option}
use Rattle.std.specs.Str.{bytes_eq}
use Rattle.sg_check_statements.specs.sg_facts.Facts.{Facts, Fun}
use Rattle.sg_check_statements.specs.sg_parse.declared.tree.Statement.{Statement}
use Rattle.sg_check_statements.specs.sg_parse.declared.tree.Statement.TheVariants.{Proto}
use Rattle.sg_check_statements.specs.Faults.{IsFirstStatement}
use Rattle.sg_check_statements.specs.Inside.Pieces.{NoStatement}
use Rattle.sg_check_statements.specs.Flaws.{IsProtoWhere}
use Rattle.std.specs.Bool.{then_some}
use Rattle.sg_check_statements.specs.Says.{fun_number_from, fun_number}
use Rattle.sg_check.specs.Inside.Numbers.{has_number, marked}

-- the number of a function is at most that of the last
by_name : (b : Bool) (k m n : ℕ) (rest : Option ℕ) → (if b then Some k else rest) ≡ Some n → (rest ≡ Some n → n < suc k + m) → n < k + suc m
by_name true k m n rest is later = let same : k ≡ n = cc is in omega (arith, same)
by_name false k m n rest is later = let l = later is in omega (arith, l)

number_small : (k : ℕ) (funs : List Fun) (name : List ℕ) (n : ℕ) → fun_number_from k funs name ≡ Some n → n < k + length funs
number_small k [] name n is = absurd (cc is)
number_small k (f ∷ funs) name n is =
    by_name (bytes_eq f.name name) k (length funs) n (fun_number_from (k + 1) funs name) is
    (λ later. let l = number_small (k + 1) funs name n later in omega (arith, l))

small_or_none : (found : Option ℕ) (most : ℕ) → ((n : ℕ) → found ≡ Some n → n < 1 + most) → unwrap_or found 0 ≤ most
small_or_none None most small = omega arith
small_or_none (Some n) most small = let l = small n refl in omega (arith, l)

pub number_within : (funs : List Fun) (name : List ℕ) → unwrap_or (fun_number funs name) 0 ≤ length funs
number_within funs name = small_or_none (fun_number funs name) (length funs) (number_small 1 funs name)

if_place : (b : Bool) (at place : ℕ) → then_some b at ≡ Some place → (b ≡ true) × (at ≡ place)
if_place true at place is = (refl, cc is)
if_place false at place is = absurd (cc is)

module _ (facts : Facts) (numbers : List ℕ) (P : ℕ → Type 0) (same : (n : ℕ) → n ≤ length facts.funs → (has_number numbers n ≡ true) ↔ P n) where
  to : (s : Statement) (place : ℕ) → marked facts numbers s ≡ Some place → IsProtoWhere facts P s place
  to (Proto ret name params) place is =
      let n = unwrap_or (fun_number facts.funs name.bytes) 0 in
      let it = if_place (has_number numbers n) name.at place is in
      (it.1, (same n (number_within facts.funs name.bytes)).0 it.0)
  to _ place is = absurd (cc is)

  back : (s : Statement) (place : ℕ) → IsProtoWhere facts P s place → marked facts numbers s ≡ Some place
  back (Proto ret name params) place (at, holds) =
      let n = unwrap_or (fun_number facts.funs name.bytes) 0 in
      ap (λ b. then_some b name.at) ((same n (number_within facts.funs name.bytes)).1 holds) ∙ ap Some at
  back _ place is = absurd is

  -- the first prototype in the set is the first of which it holds
  pub first_where : (found : Option ℕ) (statements : List Statement)
      → MatchOption found (NoStatement (λ before s p. marked facts numbers s ≡ Some p) statements) (IsFirstStatement (λ before s p. marked facts numbers s ≡ Some p) statements)
      → MatchOption found (NoStatement (λ before s p. IsProtoWhere facts P s p) statements) (IsFirstStatement (λ before s p. IsProtoWhere facts P s p) statements)
  first_where None statements none = λ before one after place split is. none before one after place split (back one place is)
  first_where (Some at) statements first = record {
    before = first.before;
    one = first.one;
    after = first.after;
    split = first.split;
    flaw = to first.one at first.flaw;
    none = λ before one after place split is. first.none before one after place split (back one place is);
  }

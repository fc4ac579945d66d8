-- The bits of the functions that are declared.
use Rattle.std.proofs.Common.{◌≡◌, ℕ, zero, suc, ◌-◌, ◌<◌, Bool, true, false, List, [], ◌∷◌, map, length, get_or, refl, sym, ◌∙◌, arith}
use Rattle.std.specs.Prelude.{nat_le}
use Rattle.std.proofs.lemmas.Bool.Decides.{nat_tests}
use Rattle.sg_check_statements.specs.sg_facts.Facts.{Facts, Fun, fun_at}
use Rattle.sg_check_statements.specs.sg_facts.Interface.{declares}
use Rattle.sg_check_statements.specs.sg_parse.declared.tree.Tree.{Tree}
use Rattle.sg_check_statements.specs.Faults.{interface_of}
use Rattle.sg_check_statements.specs.Says.{has_proto}
use Rattle.sg_check_statements.proofs.Bits.{bit_of}

-- tests of functions, one by one
module _ (test : Fun → Bool) where
  pub passed : (funs : List Fun) (n : ℕ) → get_or (map test funs) n false ≡ true → (n < length funs) × (test (fun_at funs (suc n)) ≡ true)
  passed [] n is = absurd (cc is)
  passed (f ∷ funs) zero is = (omega arith, is)
  passed (f ∷ funs) (suc n) is = let rest = passed funs n is in (omega (arith, rest.0), rest.1)

  pub pass : (funs : List Fun) (n : ℕ) → n < length funs → test (fun_at funs (suc n)) ≡ true → get_or (map test funs) n false ≡ true
  pass [] n within is = absurd (omega (arith, within))
  pass (f ∷ funs) zero within is = is
  pass (f ∷ funs) (suc n) within is = pass funs n (omega (arith, within)) is

module _ (facts : Facts) (tree : Tree) where
  declared_bit : (n : ℕ) → declares (interface_of facts tree) (suc n) ≡ get_or (map (λ f. has_proto tree.statements f.name) facts.funs) n false
  declared_bit n =
      let before : suc n - 1 ≡ n = omega arith in
      let first : nat_le 1 (suc n) ≡ true = grind (arith, nat_tests) in
      rw (first, before) (bit_of (map (λ f. has_proto tree.statements f.name) facts.funs) n)

  -- a function that is declared is one of the service, and has a prototype
  pub declared_one : (fun : ℕ) → declares (interface_of facts tree) fun ≡ true
      → (n : ℕ) × (fun ≡ suc n) × (n < length facts.funs) × (has_proto tree.statements (fun_at facts.funs fun).name ≡ true)
  declared_one zero is = absurd (cc is)
  declared_one (suc n) is = let it = passed (λ f. has_proto tree.statements f.name) facts.funs n (sym (declared_bit n) ∙ is) in (n, refl, it.0, it.1)

  -- and the other way round
  pub one_declared : (n : ℕ) → n < length facts.funs → has_proto tree.statements (fun_at facts.funs (suc n)).name ≡ true
      → declares (interface_of facts tree) (suc n) ≡ true
  one_declared n within is = declared_bit n ∙ pass (λ f. has_proto tree.statements f.name) facts.funs n within is

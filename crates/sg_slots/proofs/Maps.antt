-- What the map of entries does, said by the ids.
use Rattle.std.proofs.Common.{◌≡◌, ℕ, ◌<◌, cond, nat_eq, List, [], ◌∷◌, ◌++◌, None, Some, IsSome, refl, sym, subst, ◌∙◌, ap, inl, inr, arith}
use Rattle.std.specs.Map.{lookup, remove_entry}
use Rattle.std.specs.Cmp.{nat_cmp_is}
use Rattle.std.specs.Ordering.{nat_cmp, match_ordering}
use Rattle.std.specs.declared.cmp.Ordering.TheVariants.{Equal, Greater}
use Rattle.std.specs.BTreeMap.{is_at, insert_entry}
use Rattle.std.proofs.lemmas.Bool.Decides.{nat_tests}
use Rattle.std.proofs.lemmas.Bool.{cases_Bool}
use Rattle.sg_slots.specs.Slots.{AreIds, entry_at, set_entry, without}
use Rattle.sg_slots.proofs.Ids.{absent, above_front}

-- a key is found by its order just where it is the id
same_test : (id k : ℕ) → is_at (nat_cmp id) k ≡ nat_eq id k
same_test id k = grind (arith, nat_tests)

module _ {E : Type 0} where
  pub lookup-ids : (id : ℕ) (es : List (ℕ × E)) → lookup (is_at (nat_cmp id)) es ≡ entry_at es id
  lookup-ids id [] = refl
  lookup-ids id (e ∷ es) = ap (λ b. cond b (Some e.1) (lookup (is_at (nat_cmp id)) es)) (same_test id e.0) ∙ ap (λ o. cond (nat_eq id e.0) (Some e.1) o) (lookup-ids id es)

  pub remove-ids : (id : ℕ) (es : List (ℕ × E)) → remove_entry (is_at (nat_cmp id)) es ≡ without es id
  remove-ids id [] = refl
  remove-ids id (e ∷ es) = ap (λ b. cond b es (e ∷ remove_entry (is_at (nat_cmp id)) es)) (same_test id e.0) ∙ ap (λ l. cond (nat_eq id e.0) es (e ∷ l)) (remove-ids id es)

  -- a new id, above all that are there, goes last
  pub insert-new : (low high id : ℕ) (es : List (ℕ × E)) (new : E) → AreIds low high es → high < id → insert_entry nat_cmp es id new ≡ es ++ (id, new) ∷ []
  insert-new low high id [] new ids above = refl
  insert-new low high id (e ∷ es) new ids above =
      let later : nat_cmp id e.0 ≡ Greater = sym (nat_cmp_is id e.0 Greater (omega (arith, ids.1))) in
      ap (λ o. match_ordering o ((id, new) ∷ e ∷ es) ((e.0, new) ∷ es) (e ∷ insert_entry nat_cmp es id new)) later
      ∙ ap (λ l. e ∷ l) (insert-new e.0 high id es new ids.2 above)

  -- an id that is there is set in its place
  pub insert-there : (low high id : ℕ) (es : List (ℕ × E)) (new : E) → AreIds low high es → IsSome (entry_at es id) → insert_entry nat_cmp es id new ≡ set_entry es id new
  insert-there low high id [] new ids there = absurd (cc there)
  insert-there low high id (e ∷ es) new ids there = elim (cases_Bool (nat_eq id e.0)) [
    | inl here ↦
        let same : nat_cmp id e.0 ≡ Equal = sym (nat_cmp_is id e.0 Equal (grind (arith, nat_tests))) in
        ap (λ o. match_ordering o ((id, new) ∷ e ∷ es) ((e.0, new) ∷ es) (e ∷ insert_entry nat_cmp es id new)) same
        ∙ ap (λ b. cond b ((e.0, new) ∷ es) (e ∷ set_entry es id new)) (sym here)
    | inr other ↦
        let rest : IsSome (entry_at es id) = subst (λ b. IsSome (cond b (Some e.1) (entry_at es id))) other there in
        let above : e.0 < id = above_front e.0 high id es ids.2 rest in
        let later : nat_cmp id e.0 ≡ Greater = sym (nat_cmp_is id e.0 Greater above) in
        ap (λ o. match_ordering o ((id, new) ∷ e ∷ es) ((e.0, new) ∷ es) (e ∷ insert_entry nat_cmp es id new)) later
        ∙ ap (λ l. e ∷ l) (insert-there e.0 high id es new ids.2 rest)
        ∙ ap (λ b. cond b ((e.0, new) ∷ es) (e ∷ set_entry es id new)) (sym other)
  ]

  -- an id above the range isn't found
  pub absent-above : (low high id : ℕ) (es : List (ℕ × E)) → AreIds low high es → high < id → lookup (is_at (nat_cmp id)) es ≡ None
  absent-above low high id es ids above = lookup-ids id es ∙ absent low high id es ids above

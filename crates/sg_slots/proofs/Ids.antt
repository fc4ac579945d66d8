-- Ascending ids when an entry comes, is set or goes.
use Rattle.std.proofs.Common.{◌≡◌, ℕ, ◌<◌, ◌≤◌, true, false, cond, nat_eq, List, [], ◌∷◌, ◌++◌, None, Some, IsSome, is_some, refl, sym, ◌∙◌, ap, subst, inl, inr, arith}
use Rattle.std.proofs.lemmas.Bool.Decides.{nat_tests}
use Rattle.std.proofs.lemmas.Bool.{cases_Bool}
use Rattle.sg_slots.specs.Slots.{AreIds, entry_at, set_entry, without}

module _ {E : Type 0} where
  -- a wider range
  pub wider : (low low' high high' : ℕ) (es : List (ℕ × E)) → low' ≤ low → high ≤ high' → AreIds low high es → AreIds low' high' es
  wider low low' high high' [] l h ids = tt
  wider low low' high high' (e ∷ es) l h ids = (omega (arith, ids.0), omega (arith, ids.1), wider e.0 e.0 high high' es (omega arith) h ids.2)

  -- no id above the range is there
  pub absent : (low high id : ℕ) (es : List (ℕ × E)) → AreIds low high es → high < id → entry_at es id ≡ None
  absent low high id [] ids above = refl
  absent low high id (e ∷ es) ids above =
      let other : nat_eq id e.0 ≡ false = grind (arith, nat_tests, ids.1) in
      ap (λ b. cond b (Some e.1) (entry_at es id)) other ∙ absent e.0 high id es ids.2 above

  -- a new id goes last
  pub ids_more : (low high id : ℕ) (es : List (ℕ × E)) (new : E) → AreIds low high es → low < id → high < id → AreIds low id (es ++ (id, new) ∷ [])
  ids_more low high id [] new ids below above = (below, omega arith, tt)
  ids_more low high id (e ∷ es) new ids below above = (ids.0, omega (arith, ids.1), ids_more e.0 high id es new ids.2 (omega (arith, ids.1)) above)

  -- an entry that is there is set in its place
  pub ids_set : (low high id : ℕ) (es : List (ℕ × E)) (new : E) → AreIds low high es → IsSome (entry_at es id) → AreIds low high (set_entry es id new)
  ids_set low high id [] new ids there = absurd (cc there)
  ids_set low high id (e ∷ es) new ids there = elim (cases_Bool (nat_eq id e.0)) [
    | inl here ↦ subst (λ b. AreIds low high (cond b ((e.0, new) ∷ es) (e ∷ set_entry es id new))) (sym here) (ids.0, ids.1, ids.2)
    | inr other ↦
        let rest = ids_set e.0 high id es new ids.2 (subst (λ b. IsSome (cond b (Some e.1) (entry_at es id))) other there) in
        subst (λ b. AreIds low high (cond b ((e.0, new) ∷ es) (e ∷ set_entry es id new))) (sym other) (ids.0, ids.1, rest)
  ]

  -- an entry goes
  pub ids_without : (low high id : ℕ) (es : List (ℕ × E)) → AreIds low high es → AreIds low high (without es id)
  ids_without low high id [] ids = tt
  ids_without low high id (e ∷ es) ids = elim (cases_Bool (nat_eq id e.0)) [
    | inl here ↦ subst (λ b. AreIds low high (cond b es (e ∷ without es id))) (sym here) (wider e.0 low high high es (omega (arith, ids.0)) (omega arith) ids.2)
    | inr other ↦ subst (λ b. AreIds low high (cond b es (e ∷ without es id))) (sym other) (ids.0, ids.1, ids_without e.0 high id es ids.2)
  ]

-- an id that is there is above the range's lower end
pub above_front : {E : Type 0} (low high id : ℕ) (es : List (ℕ × E)) → AreIds low high es → IsSome (entry_at es id) → low < id
above_front low high id [] ids there = absurd (cc there)
above_front low high id (e ∷ es) ids there = elim (cases_Bool (nat_eq id e.0)) [
  | inl here ↦ let one : id ≡ e.0 = grind (arith, nat_tests) in omega (arith, ids.0, one)
  | inr other ↦
      let rest = above_front e.0 high id es ids.2 (subst (λ b. IsSome (cond b (Some e.1) (entry_at es id))) other there) in
      omega (arith, ids.0, rest)
]

-- the same, by the test
pub above_low : {E : Type 0} (low high id : ℕ) (es : List (ℕ × E)) → AreIds low high es → is_some (entry_at es id) ≡ true → low < id
above_low low high id [] ids there = absurd (cc there)
above_low low high id (e ∷ es) ids there = elim (cases_Bool (nat_eq id e.0)) [
  | inl here ↦ let one : id ≡ e.0 = grind (arith, nat_tests) in omega (arith, ids.0, one)
  | inr other ↦
      let rest = above_low e.0 high id es ids.2 (ap (λ b. is_some (cond b (Some e.1) (entry_at es id))) (sym other) ∙ there) in
      omega (arith, ids.0, rest)
]

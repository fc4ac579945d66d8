-- Walks in a map, put where none is.
use Rattle.std.proofs.Common.{◌≡◌, ◌⊎◌, ℕ, true, false, ◌&&◌, List, None, Some, refl, sym, ◌∙◌, ap, inl, inr, is_some, arith}
use Rattle.std.specs.Prelude.{◌==◌, if◌then◌else◌}
use Rattle.std.specs.Option.{option_or}
use Rattle.std.specs.declared.option.Option.{Option}
use Rattle.std.proofs.lemmas.Bool.{and_parts, cases_Bool}
use Rattle.std.proofs.lemmas.Bool.Decides.{nat_tests}
use Rattle.sg_walk.specs.LeastWalks.{same_key, walk_at}

or_none : {X : Type 0} (a : Option X) → option_or a None ≡ a
or_none None = refl
or_none (Some x) = refl

none_from : {X : Type 0} (o : Option X) → is_some o ≡ false → o ≡ None
none_from None is = refl
none_from (Some x) is = absurd (cc is)

module _ (old : List ((ℕ × ℕ × ℕ) × List ℕ)) (made state mask : ℕ) (walk : List ℕ) (m s k : ℕ) where
  -- at the same numbers stands the same walk
  same_at : same_key (made, state, mask) (m, s, k) ≡ true → walk_at old m s k ≡ walk_at old made state mask
  same_at same =
      let both = and_parts ((made == m) && (state == s)) (mask == k) same in
      let first = and_parts (made == m) (state == s) both.0 in
      let a : m ≡ made = grind (arith, nat_tests, first.0) in
      let b : s ≡ state = grind (arith, nat_tests, first.1) in
      let c : k ≡ mask = grind (arith, nat_tests, both.1) in
      ap (λ x. walk_at old x s k) a ∙ ap (λ x. walk_at old made x k) b ∙ ap (walk_at old made state) c

  -- a walk stood there already
  pub put_known : is_some (walk_at old made state mask) ≡ true → walk_at old m s k ≡ option_or (walk_at old m s k) (if same_key (made, state, mask) (m, s, k) then Some walk else None)
  put_known some = by (walk_at old m s k) refl (cases_Bool (same_key (made, state, mask) (m, s, k)))
    where
      by : (o : Option (List ℕ)) → walk_at old m s k ≡ o → (same_key (made, state, mask) (m, s, k) ≡ true) ⊎ (same_key (made, state, mask) (m, s, k) ≡ false)
          → o ≡ option_or o (if same_key (made, state, mask) (m, s, k) then Some walk else None)
      by (Some w) is b = refl
      by None is (inl same) =
          let none : walk_at old made state mask ≡ None = sym (same_at same) ∙ is in
          let not_so : false ≡ true = sym (ap is_some none) ∙ some in
          absurd (cc not_so)
      by None is (inr apart) = sym (ap (λ b. if b then Some walk else None) apart)

  -- none stood there
  pub put_new : (now : Option (List ℕ)) → is_some (walk_at old made state mask) ≡ false → now ≡ (if same_key (made, state, mask) (m, s, k) then Some walk else walk_at old m s k)
      → now ≡ option_or (walk_at old m s k) (if same_key (made, state, mask) (m, s, k) then Some walk else None)
  put_new now none is = by (cases_Bool (same_key (made, state, mask) (m, s, k)))
    where
      by : (same_key (made, state, mask) (m, s, k) ≡ true) ⊎ (same_key (made, state, mask) (m, s, k) ≡ false)
          → now ≡ option_or (walk_at old m s k) (if same_key (made, state, mask) (m, s, k) then Some walk else None)
      by (inl same) =
          let free : walk_at old m s k ≡ None = same_at same ∙ none_from (walk_at old made state mask) none in
          is ∙ ap (λ b. if b then Some walk else walk_at old m s k) same
          ∙ sym (ap (λ o. option_or o (if same_key (made, state, mask) (m, s, k) then Some walk else None)) free ∙ ap (λ b. if b then Some walk else None) same)
      by (inr apart) =
          is ∙ ap (λ b. if b then Some walk else walk_at old m s k) apart
          ∙ sym (ap (λ b. option_or (walk_at old m s k) (if b then Some walk else None)) apart ∙ or_none (walk_at old m s k))

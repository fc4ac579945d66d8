-- What a replayed call takes comes from the row's fields.
use Rattle.std.proofs.Common.{◌≡◌, ℕ, zero, suc, ◌+◌, ◌<◌, ◌≤◌, Bool, true, false, cond, List, [], ◌∷◌, refl, sym, ◌∙◌, ap, subst, inl, inr, arith}
use Rattle.std.specs.Prelude.{◌==◌, ◌&&◌, count_by, slice_get, unwrap_or}
use Rattle.std.specs.List.{list_all}
use Rattle.std.proofs.lemmas.Bool.Decides.{eqb_tells, nat_tests}
use Rattle.std.proofs.lemmas.List.Sums.{sum_by-cons}
use Rattle.sg_base.specs.Lists.{Each}
use Rattle.sg_base.specs.declared.value.Value.TheVariants.{Word}
use Rattle.sg_base.specs.declared.call.Call.{Call}
use Rattle.sg_facts.specs.declared.row.Row.{Row}
use Rattle.sg_facts.specs.declared.shape.Kind.{Kind}
use Rattle.sg_facts.specs.declared.shape.Kind.TheVariants.{Desc, Parent, Word as IsWord, Text as IsText}
use Rattle.sg_facts.specs.declared.shape.Effect.{Effect}
use Rattle.sg_facts.specs.declared.shape.Effect.TheVariants.{SetCaller, SetArg, AddArg, SetRet, AddRet, Clear, SubOne, SubRet}
use Rattle.sg_facts.specs.Allowed.{count_args, each_arg, takes_among}
use Rattle.sg_facts.specs.Track.{arg_at, field_at, word_of}
use Rattle.sg_facts.specs.Walks.{carries_arg, replay_arg, replay_args, replay_caller, sets_caller}
use Rattle.sg_facts.proofs.Replaying.Found.{same_test}
use Rattle.sg_facts.proofs.Replaying.Marks.{AreFrom, IsFrom}

each_turn : {X : Type 0} (P Q : X → Type 0) (xs : List X) → ((x : X) → P x → Q x) → Each P xs → Each Q xs
each_turn P Q [] turn each = tt
each_turn P Q (x ∷ xs) turn each = (turn x each.0, each_turn P Q xs turn each.1)

each_under : {X A : Type 0} (Q : A → X → Type 0) (xs : List X) → ((a : A) → Each (Q a) xs) → Each (λ x. (a : A) → Q a x) xs
each_under Q [] so = tt
each_under Q (x ∷ xs) so = (λ a. (so a).0, each_under Q xs (λ a. (so a).1))

none_passes : {X : Type 0} (p : X → Bool) (xs : List X) → count_by p xs ≡ 0 → Each (λ x. p x ≡ false) xs
none_passes p [] none = tt
none_passes p (x ∷ xs) none = at (p x) refl (sym (sum_by-cons (λ y. cond (p y) 1 0) x xs) ∙ none) (none_passes p xs)
  where
    at : (b : Bool) → p x ≡ b → cond b 1 0 + count_by p xs ≡ 0 → (count_by p xs ≡ 0 → Each (λ y. p y ≡ false) xs) → (p x ≡ false) × Each (λ y. p y ≡ false) xs
    at true is none rest = absurd (omega (arith, none))
    at false is none rest = (is, rest (omega (arith, none)))

no_pass : {A : Type 0} (b : Bool) → b ≡ false → b ≡ true → A
no_pass true is so = absurd (cc is)
no_pass false is so = absurd (cc so)

module _ (r : Row) where
  pub arg_each : (k : ℕ) (es : List (ℕ × Effect)) → count_by (λ e. carries_arg k e.1) es ≡ 1 → Each (λ e. carries_arg k e.1 ≡ true → replay_arg es r k ≡ field_at r.fields e.0) es
  arg_each k [] one = absurd (omega (arith, one))
  arg_each k (e ∷ es) one = at (carries_arg k e.1) refl (sym (sum_by-cons (λ x. cond (carries_arg k x.1) 1 0) e es) ∙ one) (arg_each k es)
    where
      at : (b : Bool) → carries_arg k e.1 ≡ b → cond b 1 0 + count_by (λ x. carries_arg k x.1) es ≡ 1
          → (count_by (λ x. carries_arg k x.1) es ≡ 1 → Each (λ x. carries_arg k x.1 ≡ true → replay_arg es r k ≡ field_at r.fields x.0) es)
          → (carries_arg k e.1 ≡ true → replay_arg (e ∷ es) r k ≡ field_at r.fields e.0) × Each (λ x. carries_arg k x.1 ≡ true → replay_arg (e ∷ es) r k ≡ field_at r.fields x.0) es
      at true is one rest = (
        λ so. ap (λ b. cond b (field_at r.fields e.0) (replay_arg es r k)) is,
        each_turn (λ x. carries_arg k x.1 ≡ false) (λ x. carries_arg k x.1 ≡ true → replay_arg (e ∷ es) r k ≡ field_at r.fields x.0) es (λ x none so. no_pass (carries_arg k x.1) none so)
            (none_passes (λ x. carries_arg k x.1) es (omega (arith, one))),
      )
      at false is one rest = (
        λ so. no_pass (carries_arg k e.1) is so,
        each_turn (λ x. carries_arg k x.1 ≡ true → replay_arg es r k ≡ field_at r.fields x.0) (λ x. carries_arg k x.1 ≡ true → replay_arg (e ∷ es) r k ≡ field_at r.fields x.0) es
            (λ x its so. ap (λ b. cond b (field_at r.fields e.0) (replay_arg es r k)) is ∙ its so) (rest (omega (arith, one))),
      )

  pub caller_each : (es : List (ℕ × Effect)) → count_by (λ e. sets_caller e.1) es ≤ 1 → Each (λ e. sets_caller e.1 ≡ true → replay_caller es r ≡ word_of (field_at r.fields e.0)) es
  caller_each [] one = tt
  caller_each (e ∷ es) one = at (sets_caller e.1) refl (subst (λ n. n ≤ 1) (sum_by-cons (λ x. cond (sets_caller x.1) 1 0) e es) one) (caller_each es)
    where
      at : (b : Bool) → sets_caller e.1 ≡ b → cond b 1 0 + count_by (λ x. sets_caller x.1) es ≤ 1
          → (count_by (λ x. sets_caller x.1) es ≤ 1 → Each (λ x. sets_caller x.1 ≡ true → replay_caller es r ≡ word_of (field_at r.fields x.0)) es)
          → (sets_caller e.1 ≡ true → replay_caller (e ∷ es) r ≡ word_of (field_at r.fields e.0)) × Each (λ x. sets_caller x.1 ≡ true → replay_caller (e ∷ es) r ≡ word_of (field_at r.fields x.0)) es
      at true is one rest = (
        λ so. ap (λ b. cond b (word_of (field_at r.fields e.0)) (replay_caller es r)) is,
        each_turn (λ x. sets_caller x.1 ≡ false) (λ x. sets_caller x.1 ≡ true → replay_caller (e ∷ es) r ≡ word_of (field_at r.fields x.0)) es (λ x none so. no_pass (sets_caller x.1) none so)
            (none_passes (λ x. sets_caller x.1) es (omega (arith, one))),
      )
      at false is one rest = (
        λ so. no_pass (sets_caller e.1) is so,
        each_turn (λ x. sets_caller x.1 ≡ true → replay_caller es r ≡ word_of (field_at r.fields x.0)) (λ x. sets_caller x.1 ≡ true → replay_caller (e ∷ es) r ≡ word_of (field_at r.fields x.0)) es
            (λ x its so. ap (λ b. cond b (word_of (field_at r.fields e.0)) (replay_caller es r)) is ∙ its so) (rest (omega (arith, one))),
      )

  -- an argument of the call
  args_at : (es : List (ℕ × Effect)) (kinds : List Kind) (from k : ℕ) → k < count_args kinds → unwrap_or (slice_get (replay_args es r from kinds) k) (Word 0) ≡ replay_arg es r (from + k)
  args_at es [] from k low = absurd (omega (arith, low))
  args_at es (Desc ∷ kinds) from k low = args_at es kinds from k low
  args_at es (Parent ∷ kinds) from k low = args_at es kinds from k low
  args_at es (IsWord ∷ kinds) from zero low = ap (replay_arg es r) (let z : from ≡ from + 0 = omega arith in z)
  args_at es (IsWord ∷ kinds) from (suc k) low = args_at es kinds (from + 1) k (omega (arith, low)) ∙ ap (replay_arg es r) (let z : from + 1 + k ≡ from + suc k = omega arith in z)
  args_at es (IsText ∷ kinds) from zero low = ap (replay_arg es r) (let z : from ≡ from + 0 = omega arith in z)
  args_at es (IsText ∷ kinds) from (suc k) low = args_at es kinds (from + 1) k (omega (arith, low)) ∙ ap (replay_arg es r) (let z : from + 1 + k ≡ from + suc k = omega arith in z)

  both_true : (a b : Bool) → (a && b) ≡ true → (a ≡ true) × (b ≡ true)
  both_true true true is = (refl, refl)
  both_true true false is = absurd (cc is)
  both_true false b is = absurd (cc is)

  arg_once : (es : List (ℕ × Effect)) (n k : ℕ) → each_arg es n ≡ true → k < n → count_by (λ e. carries_arg k e.1) es ≡ 1
  arg_once es zero k all low = absurd (omega (arith, low))
  arg_once es (suc n) k all low =
      let parts = both_true (count_by (λ e. carries_arg n e.1) es == 1) (each_arg es n) all in
      elim (eqb_tells k n) [
        | inl same ↦ let one = parts.0 in let is : count_by (λ e. carries_arg n e.1) es ≡ 1 = grind (arith, nat_tests, one) in subst (λ m. count_by (λ e. carries_arg m e.1) es ≡ 1) (sym same.1) is
        | inr apart ↦ arg_once es n k parts.1 (let no = apart.1 in omega (arith, low, no))
      ]

  list_each : (p : ℕ × Effect → Bool) (es : List (ℕ × Effect)) → list_all p es ≡ true → Each (λ e. p e ≡ true) es
  list_each p [] all = tt
  list_each p (e ∷ es) all = let parts = both_true (p e) (list_all p es) all in (parts.0, list_each p es parts.1)

  module _ (call : Call) (es : List (ℕ × Effect)) (kinds : List Kind) (client : call.client ≡ replay_caller es r) (args : call.args ≡ replay_args es r 0 kinds)
      (once : each_arg es (count_args kinds) ≡ true) (among : list_all (λ e. takes_among (count_args kinds) e.1) es ≡ true) (one : count_by (λ e. sets_caller e.1) es ≤ 1) where
    Among : Type 0
    Among = (k : ℕ) × (k < count_args kinds)

    arg_is : (x k : ℕ) → k < count_args kinds → replay_arg es r k ≡ field_at r.fields x → arg_at call k ≡ field_at r.fields x
    arg_is x k low is = ap (λ l. unwrap_or (slice_get l k) (Word 0)) args ∙ args_at es kinds 0 k low ∙ ap (replay_arg es r) (let z : 0 + k ≡ k = omega arith in z) ∙ is

    from : (x : ℕ) (e : Effect) → takes_among (count_args kinds) e ≡ true → (sets_caller e ≡ true → replay_caller es r ≡ word_of (field_at r.fields x))
        → ((k : ℕ) → k < count_args kinds → carries_arg k e ≡ true → replay_arg es r k ≡ field_at r.fields x) → IsFrom call (field_at r.fields x) e
    from x SetCaller low caller arg = client ∙ caller refl
    from x (SetArg k) low caller arg = let less : k < count_args kinds = grind (arith, nat_tests, low) in arg_is x k less (arg k less (same_test k k refl))
    from x (AddArg k) low caller arg = let less : k < count_args kinds = grind (arith, nat_tests, low) in arg_is x k less (arg k less (same_test k k refl))
    from x SetRet low caller arg = tt
    from x AddRet low caller arg = tt
    from x Clear low caller arg = tt
    from x SubOne low caller arg = tt
    from x SubRet low caller arg = tt

    all_from : (xs : List (ℕ × Effect)) → Each (λ e. takes_among (count_args kinds) e.1 ≡ true) xs → Each (λ e. sets_caller e.1 ≡ true → replay_caller es r ≡ word_of (field_at r.fields e.0)) xs
        → Each (λ e. (a : (k : ℕ) × (k < count_args kinds)) → carries_arg a.0 e.1 ≡ true → replay_arg es r a.0 ≡ field_at r.fields e.0) xs → AreFrom call r.fields xs
    all_from [] low caller arg = tt
    all_from (e ∷ xs) low caller arg = (from e.0 e.1 low.0 caller.0 (λ k less so. arg.0 (k, less) so), all_from xs low.1 caller.1 arg.1)

    pub are_from : AreFrom call r.fields es
    are_from = all_from es (list_each (λ e. takes_among (count_args kinds) e.1) es among) (caller_each es one)
        (each_under (λ (a : (k : ℕ) × (k < count_args kinds)) e. carries_arg a.0 e.1 ≡ true → replay_arg es r a.0 ≡ field_at r.fields e.0) es (λ a. arg_each a.0 es (arg_once es (count_args kinds) a.0 once a.1)))

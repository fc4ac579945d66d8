-- Statements without a flaw, and the first with one.
use Rattle.std.proofs.Common.{◌≡◌, ◌⊎◌, ℕ, ◌+◌, ◌<◌, List, [], ◌∷◌, ◌++◌, length, take, drop, get_or, refl, sym, ◌∙◌, ap, subst, inl, inr, append_assoc}
use Rattle.std.proofs.lemmas.List.{take_more, take-append-drop}
use Rattle.sg_parse.specs.declared.tree.Statement.{Statement}
use Rattle.sg_check_statements.specs.Faults.{IsFirstStatement}
use Rattle.sg_check_statements.specs.Inside.Pieces.{NoStatement}

-- a list that ends in one more: the end is that one, or stands before
last_split : (xs before after : List Statement) (x s : Statement) → xs ++ x ∷ [] ≡ before ++ s ∷ after
    → ((before ≡ xs) × (s ≡ x)) ⊎ ((rest : List Statement) × (xs ≡ before ++ s ∷ rest))
last_split [] [] after x s is = inl (refl, sym (cc is))
last_split [] (b ∷ []) after x s is = absurd (cc is)
last_split [] (b ∷ c ∷ before) after x s is = absurd (cc is)
last_split (y ∷ xs) [] after x s is = let same : y ≡ s = cc is in inr (xs, ap (λ z. z ∷ xs) same)
last_split (y ∷ xs) (b ∷ before) after x s is =
    let same : y ≡ b = cc is in
    let rest : xs ++ x ∷ [] ≡ before ++ s ∷ after = cc is in
    elim (last_split xs before after x s rest) [
      | inl (all, one) ↦ inl (ap (λ z. b ∷ z) all ∙ ap (λ z. z ∷ xs) (sym same), one)
      | inr (more, split) ↦ inr (more, ap (λ z. z ∷ xs) same ∙ ap (λ z. b ∷ z) split)
    ]

module _ (Flaw : List Statement → Statement → ℕ → Type 0) where
  pub none_at_all : NoStatement Flaw []
  none_at_all [] one after place is flaw = cc is
  none_at_all (b ∷ before) one after place is flaw = cc is

  -- one more without a flaw
  pub none_more : (xs : List Statement) (x : Statement) → NoStatement Flaw xs → ((place : ℕ) → Flaw xs x place → ⊥) → NoStatement Flaw (xs ++ x ∷ [])
  none_more xs x none sound before one after place is flaw = elim (last_split xs before after x one is) [
    | inl (all, same) ↦ sound place (subst (λ b. Flaw b x place) all (subst (λ s. Flaw before s place) same flaw))
    | inr (rest, split) ↦ none before one rest place split flaw
  ]

  -- where one is first, some have a flaw
  pub not_none : (xs : List Statement) (place : ℕ) → IsFirstStatement Flaw xs place → NoStatement Flaw xs → ⊥
  not_none xs place first none = none first.before first.one first.after place first.split first.flaw

  -- the statement at a place is the first
  pub first_here : (xs : List Statement) (n : ℕ) (x : Statement) (place : ℕ) → n < length xs → get_or xs n x ≡ x → NoStatement Flaw (take n xs) → Flaw (take n xs) x place → IsFirstStatement Flaw xs place
  first_here xs n x place within is none flaw = record {
    before = take n xs;
    one = x;
    after = drop (n + 1) xs;
    split = sym (take-append-drop (n + 1) xs) ∙ ap (λ l. l ++ drop (n + 1) xs) (take_more xs n x within ∙ ap (λ y. take n xs ++ y ∷ []) is) ∙ append_assoc (take n xs) (x ∷ []) (drop (n + 1) xs);
    flaw = flaw;
    none = none;
  }

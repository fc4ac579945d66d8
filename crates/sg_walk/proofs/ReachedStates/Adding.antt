-- Places that are added after others.
use Rattle.std.proofs.Common.{◌≡◌, ◌⊎◌, ℕ, zero, suc, ◌*◌, ◌%◌, ◌^◌, ◌≤◌, List, [], ◌∷◌, ◌++◌, refl, sym, ◌∙◌, ap, subst, inl, inr, arith, append-nil, append_assoc}
use Rattle.std.specs.List.{Contains}
use Rattle.std.proofs.lemmas.List.Elements.{Contains-append_left, Contains-append_right, Contains-append_cases}
use Rattle.sg_walk.specs.declared.place.Place.{Place}
use Rattle.sg_walk.specs.ReachedStates.Inside.Places.{AddsJust, AddsOnce}
use Rattle.sg_walk.proofs.ReachedStates.Marks.{itself, only}

pub few_sets : (count : ℕ) → count ≤ 8 → 2 ^ count ≤ 256
few_sets zero few = omega arith
few_sets (suc zero) few = omega arith
few_sets (suc (suc zero)) few = omega arith
few_sets (suc (suc (suc zero))) few = omega arith
few_sets (suc (suc (suc (suc zero)))) few = omega arith
few_sets (suc (suc (suc (suc (suc zero))))) few = omega arith
few_sets (suc (suc (suc (suc (suc (suc zero)))))) few = omega arith
few_sets (suc (suc (suc (suc (suc (suc (suc zero))))))) few = omega arith
few_sets (suc (suc (suc (suc (suc (suc (suc (suc zero)))))))) few = omega arith
few_sets (suc (suc (suc (suc (suc (suc (suc (suc (suc n))))))))) few = absurd (omega arith)

pub shifted : (count : ℕ) → count ≤ 8 → (1 * 2 ^ count) % 65536 ≡ 2 ^ count
shifted zero few = refl
shifted (suc zero) few = refl
shifted (suc (suc zero)) few = refl
shifted (suc (suc (suc zero))) few = refl
shifted (suc (suc (suc (suc zero)))) few = refl
shifted (suc (suc (suc (suc (suc zero))))) few = refl
shifted (suc (suc (suc (suc (suc (suc zero)))))) few = refl
shifted (suc (suc (suc (suc (suc (suc (suc zero))))))) few = refl
shifted (suc (suc (suc (suc (suc (suc (suc (suc zero)))))))) few = refl
shifted (suc (suc (suc (suc (suc (suc (suc (suc (suc n))))))))) few = absurd (omega arith)

-- none was added
pub adds_none : (P : Place → Type 0) (places : List Place) → ((q : Place) → P q → ⊥) → AddsJust P places places
adds_none P places none = record {
  more = [];
  behind = sym (append-nil places);
  all = λ q is. absurd (none q is);
  only = λ q has. inl has;
}

-- one was
pub adds_one : (old new : List Place) (p : Place) → AddsOnce old new p → AddsJust (λ q. q ≡ p) old new
adds_one old new p (inl (has, same)) = record {
  more = [];
  behind = same ∙ sym (append-nil old);
  all = λ q is. subst (λ l. Contains l q) (sym same) (subst (Contains old) (sym is) has);
  only = λ q has'. inl (subst (λ l. Contains l q) same has');
}
adds_one old new p (inr (not_there, more)) = record {
  more = p ∷ [];
  behind = more;
  all = λ q is. subst (λ l. Contains l q) (sym more) (subst (Contains (old ++ p ∷ [])) (sym is) (Contains-append_right old (p ∷ []) p (itself p)));
  only = λ q has. elim (Contains-append_cases old (p ∷ []) q (subst (λ l. Contains l q) more has)) [
    | inl before ↦ inl before
    | inr last ↦ inr (only p q last)
  ];
}

-- the same, by another property that says the same
pub adds_same : (P R : Place → Type 0) (old new : List Place) → AddsJust P old new → ((q : Place) → R q → P q) → ((q : Place) → P q → R q) → AddsJust R old new
adds_same P R old new adds to back = record {
  more = adds.more;
  behind = adds.behind;
  all = λ q is. adds.all q (to q is);
  only = λ q has. elim (adds.only q has) [ inl before ↦ inl before | inr is ↦ inr (back q is) ];
}

-- what is there stays there
pub adds_keeps : (P : Place → Type 0) (old new : List Place) (q : Place) → AddsJust P old new → Contains old q → Contains new q
adds_keeps P old new q adds has = subst (λ l. Contains l q) (sym adds.behind) (Contains-append_left old adds.more q has)

-- some, and then others
pub adds_then : (P Q R : Place → Type 0) (a b c : List Place) → AddsJust P a b → AddsJust Q b c → ((q : Place) → R q → P q ⊎ Q q) → ((q : Place) → P q ⊎ Q q → R q) → AddsJust R a c
adds_then P Q R a b c first second to back = record {
  more = first.more ++ second.more;
  behind = second.behind ∙ ap (λ l. l ++ second.more) first.behind ∙ append_assoc a first.more second.more;
  all = λ q is. elim (to q is) [
    | inl p ↦ adds_keeps Q b c q second (first.all q p)
    | inr r ↦ second.all q r
  ];
  only = λ q has. elim (second.only q has) [
    | inl before ↦ elim (first.only q before) [ inl there ↦ inl there | inr p ↦ inr (back q (inl p)) ]
    | inr r ↦ inr (back q (inr r))
  ];
}

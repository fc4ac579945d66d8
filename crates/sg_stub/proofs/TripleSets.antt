-- Sets of triples, to which triples come one by one.
use Rattle.std.proofs.Common.{◌≡◌, ℕ, ◌+◌, ◌<◌, true, List, [], ◌∷◌, ◌++◌, length, take, get_or, refl, sym, ◌∙◌, ap, subst, inl, inr, arith}
use Rattle.std.specs.Prelude.{◌==◌, ◌&&◌, if◌then◌else◌}
use Rattle.std.specs.List.{Contains}
use Rattle.std.proofs.lemmas.Bool.{and_parts, cases_Bool}
use Rattle.std.proofs.lemmas.Bool.Decides.{eqb_tells}
use Rattle.std.proofs.lemmas.List.{take_more}
use Rattle.std.proofs.lemmas.List.Elements.{Contains-append_cases, Contains-append_left, Contains-append_right}
use Rattle.sg_check.specs.sg_facts.Interface.{Declared}
use Rattle.sg_check.specs.sg_walk.declared.place.Triple.{Triple}
use Rattle.sg_check.specs.sg_walk.ReachedStates.Triples.{IsReachedTriple}
use Rattle.sg_check.proofs.sg_walk.ReachedStates.Marks.{itself, only}
use Rattle.sg_stub.specs.Inside.Triples.{AreIn, SameTriples, has_triple}

same_number : (a b : ℕ) → (a == b) ≡ true → a ≡ b
same_number a b is = elim (eqb_tells a b) [ inl same ↦ same.1 | inr other ↦ absurd (cc (is, other.0)) ]

number_same : (a b : ℕ) → a ≡ b → (a == b) ≡ true
number_same a b is = elim (eqb_tells a b) [ inl same ↦ same.0 | inr other ↦ absurd (other.1 is) ]

same_triple : (t u : Triple) → t.made ≡ u.made → t.state ≡ u.state → t.mask ≡ u.mask → t ≡ u
same_triple t u made state mask = rw (made, state, mask)

-- a triple is told from others
told : (t u : Triple) → ((t.made == u.made) && (t.state == u.state) && (t.mask == u.mask)) ≡ true → t ≡ u
told t u is =
    let both = and_parts ((t.made == u.made) && (t.state == u.state)) (t.mask == u.mask) is in
    let first = and_parts (t.made == u.made) (t.state == u.state) both.0 in
    same_triple t u (same_number t.made u.made first.0) (same_number t.state u.state first.1) (same_number t.mask u.mask both.1)

tells : (t u : Triple) → t ≡ u → ((t.made == u.made) && (t.state == u.state) && (t.mask == u.mask)) ≡ true
tells t u is = rw (number_same t.made u.made (ap (λ x. x.made) is), number_same t.state u.state (ap (λ x. x.state) is), number_same t.mask u.mask (ap (λ x. x.mask) is)) refl

pub none_in : (set : List (ℕ × ℕ × ℕ)) → set ≡ [] → SameTriples [] set
none_in set none t = (
  λ has. let no : has_triple [] t.made t.state t.mask ≡ true = ap (λ l. has_triple l t.made t.state t.mask) (sym none) ∙ has in absurd (cc no),
  λ has. absurd (omega (arith, has.1)),
)

module _ (triples : List Triple) (n : ℕ) (d : Triple) (within : n < length triples) where
  longer : take (n + 1) triples ≡ take n triples ++ get_or triples n d ∷ []
  longer = take_more triples n d within

  pub one_in : (old new : List (ℕ × ℕ × ℕ)) → SameTriples (take n triples) old
      → ((q : ℕ × ℕ × ℕ) → has_triple new q.0 q.1 q.2
      ≡ (if ((get_or triples n d).made == q.0) && ((get_or triples n d).state == q.1) && ((get_or triples n d).mask == q.2) then true else has_triple old q.0 q.1 q.2))
      → SameTriples (take (n + 1) triples) new
  one_in old new same put t = elim (cases_Bool (((get_or triples n d).made == t.made) && ((get_or triples n d).state == t.state) && ((get_or triples n d).mask == t.mask))) [
    | inl here ↦
        let is : get_or triples n d ≡ t = told (get_or triples n d) t here in
        let there : Contains (take (n + 1) triples) (get_or triples n d) =
        subst (λ l. Contains l (get_or triples n d)) (sym longer) (Contains-append_right (take n triples) (get_or triples n d ∷ []) (get_or triples n d) (itself (get_or triples n d))) in
        (λ has. subst (Contains (take (n + 1) triples)) is there, λ has. put (t.made, t.state, t.mask) ∙ ap (λ b. if b then true else has_triple old t.made t.state t.mask) here)
    | inr elsewhere ↦
        let kept : has_triple new t.made t.state t.mask ≡ has_triple old t.made t.state t.mask = put (t.made, t.state, t.mask) ∙ ap (λ b. if b then true else has_triple old t.made t.state t.mask) elsewhere in (
          λ has. subst (λ l. Contains l t) (sym longer) (Contains-append_left (take n triples) (get_or triples n d ∷ []) t ((same t).0 (sym kept ∙ has))),
          λ has. elim (Contains-append_cases (take n triples) (get_or triples n d ∷ []) t (subst (λ l. Contains l t) longer has)) [
            | inl before ↦ kept ∙ (same t).1 before
            | inr last ↦
                let is : get_or triples n d ≡ t = sym (only (get_or triples n d) t last) in
                absurd (let at = tells (get_or triples n d) t is in cc (at, elsewhere))
          ],
        )
  ]

-- what is listed is what descriptors can come to
pub reached_in : (i : Declared) (triples : List Triple) (set : List (ℕ × ℕ × ℕ)) → SameTriples triples set → ((t : Triple) → Contains triples t → IsReachedTriple i t)
    → ((t : Triple) → IsReachedTriple i t → Contains triples t) → AreIn i set
reached_in i triples set same only all made state mask =
    let t : Triple = record { made = made; state = state; mask = mask } in
    (λ has. only t ((same t).0 has), λ reached. (same t).1 (all t reached))

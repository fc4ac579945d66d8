-- The first of flaws: it is what is kept, and there is one at most.
use Rattle.std.proofs.Common.{◌≡◌, ◌⊎◌, ℕ, ◌<◌, ◌≤◌, suc, zero, true, false, if◌then◌else◌, ◌==◌, List, [], ◌∷◌, None, Some, Option, refl, sym, ◌∙◌, ap, subst, inl, inr, arith}
use Rattle.std.specs.Prelude.{MatchOption}
use Rattle.std.specs.List.{Contains}
use Rattle.std.proofs.lemmas.Bool.{cases_order}
use Rattle.std.proofs.lemmas.Bool.Decides.{leb_tells, nat_tests}
use Rattle.sg_script.specs.declared.fault.ScriptFault.{ScriptFault}
use Rattle.sg_script.specs.declared.fault.ScriptKind.{ScriptKind}
use Rattle.sg_script.specs.declared.fault.ScriptKind.TheVariants.{Syntax, UnknownFunction, UnknownService, BadArgs, BadClient, Twice, NotAscending, Blocking, Limit}
use Rattle.sg_script.specs.Inside.Firsts.{first_after, is_not_after}
use Rattle.sg_script.specs.Flaws.{IsFirstFlaw, script_kind_rank}

-- ---- the order

-- a flaw comes before another, or is the same: at an earlier place, or at one place and of no later kind
abbrev IsNotAfter : ScriptFault → ScriptFault → Type 0
IsNotAfter f g = (f.at < g.at) ⊎ ((f.at ≡ g.at) × (script_kind_rank f.kind ≤ script_kind_rank g.kind))

-- of two flaws one isn't after the other
one_first : (f g : ScriptFault) → ((is_not_after f g ≡ true) × IsNotAfter f g) ⊎ ((is_not_after f g ≡ false) × IsNotAfter g f)
one_first f g = elim (cases_order f.at g.at) [
  | inl same ↦ elim (leb_tells (script_kind_rank f.kind) (script_kind_rank g.kind)) [
    | inl le ↦ inl (grind (arith, nat_tests), inr (same, le.1))
    | inr gt ↦ inr (grind (arith, nat_tests), inr (sym same, omega arith))
  ]
  | inr apart ↦ elim apart [
    | inl lt ↦ inl (grind (arith, nat_tests), inl lt)
    | inr gt ↦ inr (grind (arith, nat_tests), inl gt)
  ]
]

transitive : (f g h : ScriptFault) → IsNotAfter f g → IsNotAfter g h → IsNotAfter f h
transitive f g h (inl a) (inl b) = inl (omega arith)
transitive f g h (inl a) (inr b) = inl (omega (arith, b.0))
transitive f g h (inr a) (inl b) = inl (omega (arith, a.0))
transitive f g h (inr a) (inr b) = inr (a.0 ∙ b.0, omega (arith, a.1, b.1))

-- ---- the kinds

kind_at : ℕ → ScriptKind
kind_at n =
    if n == 0 then Syntax else (if n == 1 then UnknownFunction else (if n == 2 then UnknownService else (if n == 3 then BadArgs else (if n == 4 then BadClient
    else (if n == 5 then Twice else (if n == 6 then NotAscending else (if n == 7 then Blocking else Limit)))))))

at_rank : (kind : ScriptKind) → kind_at (script_kind_rank kind) ≡ kind
unfolding kind_at
at_rank Syntax = refl
at_rank UnknownFunction = refl
at_rank UnknownService = refl
at_rank BadArgs = refl
at_rank BadClient = refl
at_rank Twice = refl
at_rank NotAscending = refl
at_rank Blocking = refl
at_rank Limit = refl

same_kind : (a b : ScriptKind) → script_kind_rank a ≡ script_kind_rank b → a ≡ b
same_kind a b same = sym (at_rank a) ∙ ap kind_at same ∙ at_rank b

same_fault : (f g : ScriptFault) → f.at ≡ g.at → script_kind_rank f.kind ≡ script_kind_rank g.kind → f ≡ g
same_fault f g at kind =
    ap (λ a. record { at = a; kind = f.kind }) at ∙ ap (λ k. record { at = g.at; kind = k }) (same_kind f.kind g.kind kind)

both_ways : (f g : ScriptFault) → IsNotAfter f g → IsNotAfter g f → f ≡ g
both_ways f g (inl a) (inl b) = absurd (omega arith)
both_ways f g (inl a) (inr b) = absurd (omega (arith, b.0))
both_ways f g (inr a) (inl b) = absurd (omega (arith, a.0))
both_ways f g (inr a) (inr b) = same_fault f g a.0 (omega (arith, a.1, b.1))

-- no two flaws are the first
pub one_at_most : (flaws : List ScriptFault) (f g : ScriptFault) → IsFirstFlaw flaws f → IsFirstFlaw flaws g → f ≡ g
one_at_most flaws f g one other = both_ways f g (one.first g other.there) (other.first f one.there)

-- ---- what is kept

in_front : (x : ScriptFault) (xs : List ScriptFault) (g : ScriptFault) → Contains (x ∷ xs) g → (x ≡ g) ⊎ Contains xs g
in_front x xs g (zero, within, is) = inl is
in_front x xs g (suc k, within, is) = inr (k, omega (arith, within), is)

behind : (x : ScriptFault) (xs : List ScriptFault) (g : ScriptFault) → Contains xs g → Contains (x ∷ xs) g
behind x xs g (k, within, is) = (suc k, omega (arith, within), is)

at_front : (x : ScriptFault) (xs : List ScriptFault) → Contains (x ∷ xs) x
at_front x xs = (0, omega arith, refl)

-- the first of one and some, where the next isn't before the one
passes : (f x : ScriptFault) (xs : List ScriptFault) (g : ScriptFault) → IsNotAfter f x → IsFirstFlaw (f ∷ xs) g → IsFirstFlaw (f ∷ x ∷ xs) g
passes f x xs g le one = record {
  there = elim (in_front f xs g one.there) [
    | inl same ↦ subst (λ h. Contains (f ∷ x ∷ xs) h) same (at_front f (x ∷ xs))
    | inr later ↦ behind f (x ∷ xs) g (behind x xs g later)
  ];
  first = λ h there. elim (in_front f (x ∷ xs) h there) [
    | inl same ↦ one.first h (subst (λ k. Contains (f ∷ xs) k) same (at_front f xs))
    | inr later ↦ elim (in_front x xs h later) [
      | inl same ↦ subst (λ k. IsNotAfter g k) same (transitive g f x (one.first f (at_front f xs)) le)
      | inr last ↦ one.first h (behind f xs h last)
    ]
  ];
}

-- a flaw that another is not after may stand before the others: the first stays
gives_way : (f x : ScriptFault) (xs : List ScriptFault) (g : ScriptFault) → IsNotAfter x f → IsFirstFlaw (x ∷ xs) g → IsFirstFlaw (f ∷ x ∷ xs) g
gives_way f x xs g le one = record {
  there = behind f (x ∷ xs) g one.there;
  first = λ h there. elim (in_front f (x ∷ xs) h there) [
    | inl same ↦ subst (λ k. IsNotAfter g k) same (transitive g x f (one.first x (at_front x xs)) le)
    | inr later ↦ one.first h later
  ];
}

kept_is_first : (f : ScriptFault) (xs : List ScriptFault) → (g : ScriptFault) × (first_after (Some f) xs ≡ Some g) × IsFirstFlaw (f ∷ xs) g
kept_is_first f [] = (
  f,
  refl,
  record {
    there = at_front f [];
    first = λ h there. elim (in_front f [] h there) [
      | inl same ↦ subst (λ k. IsNotAfter f k) same (inr (refl, omega arith))
      | inr later ↦ absurd (omega (arith, later.1))
    ];
  },
)
kept_is_first f (x ∷ xs) = elim (one_first f x) [
  | inl le ↦
      let more = kept_is_first f xs in
      (more.0, ap (λ b. first_after (Some (if b then f else x)) xs) le.0 ∙ more.1, passes f x xs more.0 le.1 more.2)
  | inr ge ↦
      let more = kept_is_first x xs in
      (more.0, ap (λ b. first_after (Some (if b then f else x)) xs) ge.0 ∙ more.1, gives_way f x xs more.0 ge.1 more.2)
]

abbrev no_flaw : List ScriptFault
no_flaw = []

-- what is kept of flaws is the first of them
pub judged : (first : Option ScriptFault) (flaws : List ScriptFault) → first ≡ first_after None flaws → MatchOption first (flaws ≡ []) (IsFirstFlaw flaws)
judged first [] is = subst (λ o. MatchOption o (no_flaw ≡ no_flaw) (IsFirstFlaw no_flaw)) (sym is) refl
judged first (x ∷ xs) is =
    let kept = kept_is_first x xs in
    subst (λ o. MatchOption o ((x ∷ xs) ≡ []) (IsFirstFlaw (x ∷ xs))) (sym (is ∙ kept.1)) kept.2

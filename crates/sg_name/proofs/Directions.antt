-- Two look-ups in opposite directions, when a name comes, is changed or goes.
use Rattle.std.proofs.Common.{◌≡◌, ℕ, true, false, cond, List, None, Some, refl, sym, ◌∙◌, ap, inl, inr}
use Rattle.std.specs.Prelude.{◌==◌, ◌↔◌, nat_eq}
use Rattle.std.specs.declared.option.Option.{Option}
use Rattle.std.specs.Map.{lookup}
use Rattle.std.specs.Option.{option_map}
use Rattle.std.proofs.lemmas.Bool.Decides.{eqb_tells}
use Rattle.sg_name.specs.declared.named.Standing.{Standing}
use Rattle.sg_name.specs.declared.named.Named.{Named}
use Rattle.sg_name.specs.declared.named.Named.TheVariants.{Unnamed, Partial, Live}
use Rattle.sg_name.specs.Names.{IsOneToOne, name_by, name_of, real_at, standing_of}
use Rattle.sg_name.specs.Inside.Both.{GoesBack}

-- the service id that a look-up finds
abbrev pub real_in : (ℕ → Option Standing) → ℕ → Option ℕ
real_in f id = option_map (λ s. s.real) (f id)

-- a service id goes back to an id exactly where it stands for that, by look-ups
abbrev pub Back : (ℕ → Option Standing) → (ℕ → Option ℕ) → Type 0
Back f g = (id real : ℕ) → (g real ≡ Some id) ↔ (real_in f id ≡ Some real)

-- a look-up after a change at one key
pub here : {A : Type 0} (f f' : ℕ → Option A) (k : ℕ) (w : Option A) → ((q : ℕ) → f' q ≡ cond (nat_eq k q) w (f q)) → (q : ℕ) → nat_eq k q ≡ true → f' q ≡ w
here f f' k w changes q is = changes q ∙ ap (λ b. cond b w (f q)) is

pub there : {A : Type 0} (f f' : ℕ → Option A) (k : ℕ) (w : Option A) → ((q : ℕ) → f' q ≡ cond (nat_eq k q) w (f q)) → (q : ℕ) → nat_eq k q ≡ false → f' q ≡ f q
there f f' k w changes q is = changes q ∙ ap (λ b. cond b w (f q)) is

-- a test and the same turned round
pub turned : (m n : ℕ) → nat_eq m n ≡ (n == m)
turned m n = elim (eqb_tells m n) [
  | inl same ↦ elim (eqb_tells n m) [
    | inl also ↦ same.0 ∙ sym also.0
    | inr apart ↦ absurd (apart.1 (sym same.1))
  ]
  | inr apart ↦ elim (eqb_tells n m) [
    | inl same ↦ absurd (apart.1 (sym same.1))
    | inr also ↦ apart.0 ∙ sym also.0
  ]
]

nothing : {A : Type 0} (a : A) → None ≡ Some a → ⊥
nothing a is = cc is

module _ (f f' : ℕ → Option Standing) (g g' : ℕ → Option ℕ) (id : ℕ) (s : Standing) where
  -- a new id gets a new service id
  pub back_added : Back f g → f id ≡ None → g s.real ≡ None → ((q : ℕ) → f' q ≡ cond (nat_eq id q) (Some s) (f q)) → ((q : ℕ) → g' q ≡ cond (nat_eq s.real q) (Some id) (g q)) → Back f' g'
  back_added back new free puts points x r = elim (eqb_tells id x) [
    | inl same ↦
        let stands : real_in f' x ≡ Some s.real = ap (option_map (λ t. t.real)) (here f f' id (Some s) puts x same.0) in
        elim (eqb_tells s.real r) [
          | inl real ↦ (λ is. stands ∙ ap (λ n. Some n) real.1, λ is. here g g' s.real (Some id) points r real.0 ∙ ap (λ n. Some n) same.1)
          | inr other ↦ (
            λ is.
                let old = (back x r).0 (sym (there g g' s.real (Some id) points r other.0) ∙ is) in
                let none : real_in f x ≡ None = ap (λ n. real_in f n) (sym same.1) ∙ ap (option_map (λ t. t.real)) new in
                absurd (nothing r (sym none ∙ old)),
            λ is. let both : Some s.real ≡ Some r = sym stands ∙ is in let one : s.real ≡ r = cc both in absurd (other.1 one),
          )
        ]
    | inr apart ↦
        let stays : real_in f' x ≡ real_in f x = ap (option_map (λ t. t.real)) (there f f' id (Some s) puts x apart.0) in
        elim (eqb_tells s.real r) [
          | inl real ↦ (
            λ is. let both : Some id ≡ Some x = sym (here g g' s.real (Some id) points r real.0) ∙ is in let one : id ≡ x = cc both in absurd (apart.1 one),
            λ is. absurd (nothing x (sym free ∙ ap g real.1 ∙ (back x r).1 (sym stays ∙ is))),
          )
          | inr other ↦
              let same = there g g' s.real (Some id) points r other.0 in
              (λ is. stays ∙ (back x r).0 (sym same ∙ is), λ is. same ∙ (back x r).1 (sym stays ∙ is))
        ]
  ]

  -- an id goes, and its service id with it
  pub back_removed : Back f g → f id ≡ Some s → ((q : ℕ) → f' q ≡ cond (nat_eq id q) None (f q)) → ((q : ℕ) → g' q ≡ cond (nat_eq s.real q) None (g q)) → Back f' g'
  back_removed back known drops forgets x r = elim (eqb_tells id x) [
    | inl same ↦
        let gone : real_in f' x ≡ None = ap (option_map (λ t. t.real)) (here f f' id None drops x same.0) in (
          λ is. elim (eqb_tells s.real r) [
            | inl real ↦ absurd (nothing x (sym (here g g' s.real None forgets r real.0) ∙ is))
            | inr other ↦
                let old = (back x r).0 (sym (there g g' s.real None forgets r other.0) ∙ is) in
                let stood : real_in f x ≡ Some s.real = ap (λ n. real_in f n) (sym same.1) ∙ ap (option_map (λ t. t.real)) known in
                let both : Some s.real ≡ Some r = sym stood ∙ old in
                let one : s.real ≡ r = cc both in
                absurd (other.1 one)
          ],
          λ is. absurd (nothing r (sym gone ∙ is)),
        )
    | inr apart ↦
        let stays : real_in f' x ≡ real_in f x = ap (option_map (λ t. t.real)) (there f f' id None drops x apart.0) in
        elim (eqb_tells s.real r) [
          | inl real ↦ (
            λ is. absurd (nothing x (sym (here g g' s.real None forgets r real.0) ∙ is)),
            λ is.
                let its = (back id s.real).1 (ap (option_map (λ t. t.real)) known) in
                let mine = ap g real.1 ∙ (back x r).1 (sym stays ∙ is) in
                let both : Some id ≡ Some x = sym its ∙ mine in
                let one : id ≡ x = cc both in
                absurd (apart.1 one),
          )
          | inr other ↦
              let same = there g g' s.real None forgets r other.0 in
              (λ is. stays ∙ (back x r).0 (sym same ∙ is), λ is. same ∙ (back x r).1 (sym stays ∙ is))
        ]
  ]

  -- what stands for an id is changed under its service id
  pub back_changed : Back f g → real_in f id ≡ Some s.real → ((q : ℕ) → f' q ≡ cond (nat_eq id q) (Some s) (f q)) → Back f' g
  back_changed back known puts x r = (λ is. reals x ∙ (back x r).0 is, λ is. (back x r).1 (sym (reals x) ∙ is))
    where
      reals : (q : ℕ) → real_in f' q ≡ real_in f q
      reals q = elim (eqb_tells id q) [
        | inl same ↦ ap (option_map (λ t. t.real)) (here f f' id (Some s) puts q same.0) ∙ sym known ∙ ap (λ n. real_in f n) same.1
        | inr apart ↦ ap (option_map (λ t. t.real)) (there f f' id (Some s) puts q apart.0)
      ]

  -- no two ids have one service id, after one that no other id has
  pub apart_put : ((a b real : ℕ) → real_in f a ≡ Some real → real_in f b ≡ Some real → a ≡ b) → ((other : ℕ) → real_in f other ≡ Some s.real → other ≡ id)
      → ((q : ℕ) → f' q ≡ cond (nat_eq id q) (Some s) (f q)) → (a b real : ℕ) → real_in f' a ≡ Some real → real_in f' b ≡ Some real → a ≡ b
  apart_put one free puts a b real at_a at_b = elim (eqb_tells id a) [
    | inl same_a ↦ elim (eqb_tells id b) [
      | inl same_b ↦ sym same_a.1 ∙ same_b.1
      | inr apart_b ↦ absurd (apart_b.1 (sym (other b (old b apart_b.0 at_b) (new a same_a.0 at_a))))
    ]
    | inr apart_a ↦ elim (eqb_tells id b) [
      | inl same_b ↦ absurd (apart_a.1 (sym (other a (old a apart_a.0 at_a) (new b same_b.0 at_b))))
      | inr apart_b ↦ one a b real (old a apart_a.0 at_a) (old b apart_b.0 at_b)
    ]
  ]
    where
      old : (x : ℕ) → nat_eq id x ≡ false → real_in f' x ≡ Some real → real_in f x ≡ Some real
      old x is at = sym (ap (option_map (λ t. t.real)) (there f f' id (Some s) puts x is)) ∙ at

      new : (x : ℕ) → nat_eq id x ≡ true → real_in f' x ≡ Some real → s.real ≡ real
      new x is at = let both : Some s.real ≡ Some real = sym (ap (option_map (λ t. t.real)) (here f f' id (Some s) puts x is)) ∙ at in cc both

      other : (x : ℕ) → real_in f x ≡ Some real → s.real ≡ real → x ≡ id
      other x at is = free x (at ∙ ap (λ n. Some n) (sym is))

-- where service ids go back, no two ids have one
pub one_to_one : (known : List (ℕ × Standing)) (ids : List (ℕ × ℕ)) → GoesBack known ids → IsOneToOne known
one_to_one known ids back a b real at_a at_b =
    let both : Some a ≡ Some b = sym ((back a real).1 at_a) ∙ (back b real).1 at_b in cc both

-- a service id that no other id has goes back to none, where the id has none
pub free_again : (known : List (ℕ × Standing)) (ids : List (ℕ × ℕ)) (id real : ℕ) → GoesBack known ids → ((other : ℕ) → real_at known other ≡ Some real → other ≡ id) → real_at known id ≡ None
    → lookup (nat_eq real) ids ≡ None
free_again known ids id real back free none = at (lookup (nat_eq real) ids) refl
  where
    at : (o : Option ℕ) → lookup (nat_eq real) ids ≡ o → lookup (nat_eq real) ids ≡ None
    at None is = is
    at (Some x) is =
        let stands = (back x real).0 is in
        absurd (nothing real (sym none ∙ ap (λ n. real_at known n) (sym (free x stands)) ∙ stands))

-- ---- names

-- a name is that of what is in it
pub named_again : (named : Named) → name_of (standing_of named) ≡ named
named_again Unnamed = refl
named_again (Partial real done) = refl
named_again (Live real) = refl

-- what stands for an id is a name
pub name_some : (s : Standing) → name_of (Some s) ≡ Unnamed → ⊥
name_some s is = at s.done is
  where
    at : (done : Option ℕ) → name_by done s.real ≡ Unnamed → ⊥
    at None wrong = cc wrong
    at (Some n) wrong = cc wrong

-- only nothing is no name
pub no_name : (o : Option Standing) → name_of o ≡ Unnamed → o ≡ None
no_name None is = refl
no_name (Some s) is = absurd (name_some s is)

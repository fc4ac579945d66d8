-- Where the first `*/` stands.
use Rattle.std.proofs.Common.{ℕ, suc, ◌+◌, ◌<◌, ◌≡◌, ◌&&◌, false, Option, None, Some, List, [], ◌∷◌, ◌++◌, length, refl, sym, ap, ◌∙◌, arith, eqb, length-append, drop, get_or, inl, inr, lit<}
use Rattle.std.specs.Option.{option_map, is_some}
use Rattle.std.proofs.lemmas.Bool.{and_parts, and_from, false≢true, eqb-true, eq-eqb, cases_Bool, both_ways}
use Rattle.sg_lex.specs.Table.{HasNoClose}
use Rattle.sg_lex.specs.Fronts.{closed_after}

-- bytes up to the first `*/` and with it, and the bytes after them
pub record IsClosed (bs : List ℕ) (n : ℕ) : Type 0 where
  pub inner : List ℕ
  pub behind : List ℕ
  pub parts : bs ≡ inner ++ 0x2A ∷ 0x2F ∷ behind
  pub long : n ≡ length inner + 2
  pub first : HasNoClose (inner ++ 0x2A ∷ [])

different : (m n : ℕ) → m ≡ n → m < n → ⊥
different m n e l = absurd (omega arith)

none_before : (o : Option ℕ) → option_map suc o ≡ None → o ≡ None
none_before None e = refl
none_before (Some n) e = absurd (false≢true (sym (ap is_some e)))

-- a `*/` does not stand in a `*` alone
lone : HasNoClose (0x2A ∷ [])
lone before behind e =
    let long : 1 ≡ length (before ++ 0x2A ∷ 0x2F ∷ behind) = ap length e in
    absurd (omega (arith, long, length-append before (0x2A ∷ 0x2F ∷ behind)))

-- one more byte before: it and the next are no `*/`
one_more : (b c : ℕ) (bs inner behind : List ℕ) → (eqb b 0x2A && eqb c 0x2F) ≡ false → c ∷ bs ≡ inner ++ 0x2A ∷ 0x2F ∷ behind
    → HasNoClose (inner ++ 0x2A ∷ []) → HasNoClose (b ∷ inner ++ 0x2A ∷ [])
one_more b c bs [] behind f p h [] rest e =
    different 0x2A 0x2F (ap (λ (xs : List ℕ). get_or xs 1 0) e) (lit< tt)
one_more b c bs (d ∷ inner) behind f p h [] rest e =
    let star : b ≡ 0x2A = ap (λ xs. get_or xs 0 0) e in
    let slash : c ≡ 0x2F = ap (λ xs. get_or xs 0 0) p ∙ ap (λ xs. get_or xs 1 0) e in
    both_ways (eqb b 0x2A && eqb c 0x2F) f (and_from _ _ (eq-eqb b 0x2A star) (eq-eqb c 0x2F slash))
one_more b c bs inner behind f p h (x ∷ before) rest e =
    let tail : inner ++ 0x2A ∷ [] ≡ before ++ 0x2A ∷ 0x2F ∷ rest = ap (drop 1) e in
    h before rest tail

closed_more : (b c : ℕ) (bs : List ℕ) (n : ℕ) → (eqb b 0x2A && eqb c 0x2F) ≡ false
    → ((m : ℕ) → closed_after (c ∷ bs) ≡ Some m → IsClosed (c ∷ bs) m)
    → (o : Option ℕ) → closed_after (c ∷ bs) ≡ o → option_map suc o ≡ Some n → IsClosed (b ∷ c ∷ bs) n
closed_more b c bs n f step None g e = absurd (cc)
closed_more b c bs n f step (Some m) g e =
    let was : IsClosed (c ∷ bs) m = step m g in
    let count : suc m ≡ n = cc in
    record {
      inner = b ∷ was.inner;
      behind = was.behind;
      parts = ap (λ xs. b ∷ xs) was.parts;
      long = omega (arith, was.long, count);
      first = one_more b c bs was.inner was.behind f was.parts was.first;
    }

pub closed_is : (bs : List ℕ) (n : ℕ) → closed_after bs ≡ Some n → IsClosed bs n
closed_is [] n e = absurd (cc)
closed_is (b ∷ []) n e = absurd (cc)
closed_is (b ∷ c ∷ bs) n e =
    elim (cases_Bool (eqb b 0x2A && eqb c 0x2F)) as (λ v. IsClosed (b ∷ c ∷ bs) n) [
      | inl f ↦ (let two : Some 2 ≡ Some n = rw f at e in
          let star : b ≡ 0x2A = eqb-true b 0x2A (and_parts (eqb b 0x2A) (eqb c 0x2F) f).0 in
          let slash : c ≡ 0x2F = eqb-true c 0x2F (and_parts (eqb b 0x2A) (eqb c 0x2F) f).1 in
          record {
            inner = [];
            behind = bs;
            parts = cc;
            long = (let m : 2 ≡ n = cc in omega arith);
            first = lone;
          })
      | inr f ↦ closed_more b c bs n f (λ m g. closed_is (c ∷ bs) m g) (closed_after (c ∷ bs)) refl (rw f at e)
    ]

-- where a `*/` stands, the bytes up to it and with it are counted
pub closed_first : (inner behind : List ℕ) → HasNoClose (inner ++ 0x2A ∷ [])
    → closed_after (inner ++ 0x2A ∷ 0x2F ∷ behind) ≡ Some (length inner + 2)
closed_first [] behind h = refl
closed_first (b ∷ []) behind h =
    elim (cases_Bool (eqb b 0x2A)) as (λ v. closed_after (b ∷ 0x2A ∷ 0x2F ∷ behind) ≡ Some (1 + 2)) [ inl e ↦ rw e refl | inr e ↦ rw e refl ]
closed_first (b ∷ c ∷ inner) behind h =
    let more : closed_after (c ∷ inner ++ 0x2A ∷ 0x2F ∷ behind) ≡ Some (length (c ∷ inner) + 2)
    = closed_first (c ∷ inner) behind (λ before rest e. h (b ∷ before) rest (ap (λ xs. b ∷ xs) e)) in
    elim (cases_Bool (eqb b 0x2A && eqb c 0x2F)) as (λ v. closed_after (b ∷ c ∷ inner ++ 0x2A ∷ 0x2F ∷ behind) ≡ Some (length (b ∷ c ∷ inner) + 2)) [
      | inl f ↦ absurd (h [] (inner ++ 0x2A ∷ []) (let star : b ≡ 0x2A = eqb-true b 0x2A (and_parts (eqb b 0x2A) (eqb c 0x2F) f).0 in
          let slash : c ≡ 0x2F = eqb-true c 0x2F (and_parts (eqb b 0x2A) (eqb c 0x2F) f).1 in cc))
      | inr f ↦ rw (f, more) (ap Some (omega arith))
    ]

-- a comment with a `*/` in it is closed
pub closed_somewhere : (inner behind : List ℕ) → closed_after (inner ++ 0x2A ∷ 0x2F ∷ behind) ≡ None → ⊥
closed_somewhere [] behind e = false≢true (sym (ap is_some e))
closed_somewhere (b ∷ []) behind e =
    elim (cases_Bool (eqb b 0x2A)) as (λ v. ⊥) [
      | inl f ↦ false≢true (sym (ap is_some (rw f at e)))
      | inr f ↦ false≢true (sym (ap is_some (rw f at e)))
    ]
closed_somewhere (b ∷ c ∷ inner) behind e =
    elim (cases_Bool (eqb b 0x2A && eqb c 0x2F)) as (λ v. ⊥) [
      | inl f ↦ false≢true (sym (ap is_some (rw f at e)))
      | inr f ↦ closed_somewhere (c ∷ inner) behind (none_before (closed_after (c ∷ inner ++ 0x2A ∷ 0x2F ∷ behind)) (rw f at e))
    ]

-- What is drawn with a reply more leaves it out, or has it at one place.
use Rattle.std.proofs.Common.{◌≡◌, ℕ, zero, suc, ◌+◌, ◌<◌, ◌≤◌, true, false, List, [], ◌∷◌, ◌++◌, length, length-append, refl, sym, ◌∙◌, ap, subst, inl, inr, ◌⊎◌, arith}
use Rattle.std.specs.Prelude.{◌≢◌, ◌==◌, slice_index_or}
use Rattle.std.specs.List.{Contains}
use Rattle.std.proofs.lemmas.Bool.Decides.{eqb_tells}
use Rattle.std.proofs.lemmas.List.Elements.{Contains-append_left, Contains-append_right, Contains-append_cases}
use Rattle.sg_facts.specs.sg_base.Lists.{Each}
use Rattle.sg_facts.specs.declared.entry.Entry.{Entry}
use Rattle.sg_recovery_laws.proofs.Lists.{each_append, each_contains, each_split}
use Rattle.sg_world_laws.specs.Keeping.{ClientsDiffer, AreDrawn}
use Rattle.sg_recovery_laws.specs.Objects.Waiting.{NoneBy}
use Rattle.sg_world_laws.proofs.Drawn.{none_apart}

-- a list has an entry of a client at a place, or none
record HasBy (client : ℕ) (es : List Entry) : Type 0 where
  front : List Entry
  own : Entry
  rest : List Entry
  is : es ≡ front ++ own ∷ rest
  its : own.call.client ≡ client

by_client : (client : ℕ) (es : List Entry) → HasBy client es ⊎ NoneBy client es
by_client client [] = inr tt
by_client client (e ∷ es) = at (eqb_tells e.call.client client) (by_client client es)
  where
    at : ((e.call.client == client) ≡ true) × (e.call.client ≡ client) ⊎ ((e.call.client == client) ≡ false) × (e.call.client ≡ client → ⊥) → HasBy client es ⊎ NoneBy client es → HasBy client (e ∷ es) ⊎ NoneBy client (e ∷ es)
    at (inl same) rest = inl (record { front = []; own = e; rest = es; is = refl; its = same.1 })
    at (inr apart) (inl has) = inl (record { front = e ∷ has.front; own = has.own; rest = has.rest; is = ap (λ l. e ∷ l) has.is; its = has.its })
    at (inr apart) (inr none) = inr (apart.1, none)

one_is : (x e : Entry) → Contains (x ∷ []) e → e ≡ x
one_is x e has = at has.0 has.1 has.2
  where
    at : (n : ℕ) → n < length (x ∷ []) → slice_index_or (x ∷ []) n e ≡ e → e ≡ x
    at zero lt is = sym is
    at (suc n) lt is = absurd (omega (arith, lt))

-- an entry of another client is among the others
others : (pre post : List Entry) (p e : Entry) → Contains (pre ++ p ∷ post) e → e.call.client ≢ p.call.client → Contains (pre ++ post) e
others pre post p e has apart = elim (Contains-append_cases pre (p ∷ post) e has) [
  | inl one ↦ Contains-append_left pre post e one
  | inr one ↦ elim (Contains-append_cases (p ∷ []) post e one) [
    | inl own ↦ absurd (apart (ap (λ x. x.call.client) (one_is p e own)))
    | inr later ↦ Contains-append_right pre post e later
  ]
]

-- an entry of its client is the reply itself
own_is : (pre post : List Entry) (p e : Entry) → ClientsDiffer (pre ++ p ∷ post) → Contains (pre ++ p ∷ post) e → e.call.client ≡ p.call.client → e ≡ p
own_is pre post p e apart has same =
    let none = none_apart pre post p apart in
    elim (Contains-append_cases pre (p ∷ post) e has) [
      | inl one ↦ absurd (each_contains (λ x. x.call.client ≢ p.call.client) pre e none.0 one same)
      | inr one ↦ elim (Contains-append_cases (p ∷ []) post e one) [
        | inl own ↦ one_is p e own
        | inr later ↦ absurd (each_contains (λ x. x.call.client ≢ p.call.client) post e none.1 later same)
      ]
    ]

each_other : (pre post : List Entry) (p : Entry) (es : List Entry) → Each (Contains (pre ++ p ∷ post)) es → NoneBy p.call.client es → Each (Contains (pre ++ post)) es
each_other pre post p [] each none = tt
each_other pre post p (e ∷ es) each none = (others pre post p e each.0 none.0, each_other pre post p es each.1 none.1)

without : (front rest : List Entry) (x : Entry) → ClientsDiffer (front ++ x ∷ rest) → ClientsDiffer (front ++ rest)
without [] rest x apart = apart.1
without (f ∷ front) rest x apart =
    let own = each_split (λ e. e.call.client ≢ f.call.client) front (x ∷ rest) apart.0 in
    (each_append (λ e. e.call.client ≢ f.call.client) front rest own.0 own.1.1, without front rest x apart.1)

-- (the others are no more than those held: their clients are different ones of these)
pub record IsSplit (ws es : List Entry) (p : Entry) : Type 0 where
  pub front : List Entry
  pub rest : List Entry
  pub is : es ≡ front ++ p ∷ rest
  pub each : Each (Contains ws) (front ++ rest)
  pub apart : ClientsDiffer (front ++ rest)
  pub none : NoneBy p.call.client (front ++ rest)
  pub few : suc (length (front ++ rest)) ≡ length es

pub split_drawn : (pre post : List Entry) (p : Entry) (es : List Entry) → ClientsDiffer (pre ++ p ∷ post) → AreDrawn (pre ++ p ∷ post) es
    → IsSplit (pre ++ post) es p ⊎ (Each (Contains (pre ++ post)) es × ClientsDiffer es × NoneBy p.call.client es)
split_drawn pre post p es apart drawn = elim (by_client p.call.client es) [
  | inr none ↦ inr (each_other pre post p es drawn.each none, drawn.apart, none)
  | inl has ↦
      let each : Each (Contains (pre ++ p ∷ post)) (has.front ++ has.own ∷ has.rest) = subst (Each (Contains (pre ++ p ∷ post))) has.is drawn.each in
      let parts = each_split (Contains (pre ++ p ∷ post)) has.front (has.own ∷ has.rest) each in
      let one : has.own ≡ p = own_is pre post p has.own apart parts.1.0 has.its in
      let list : es ≡ has.front ++ p ∷ has.rest = has.is ∙ ap (λ x. has.front ++ x ∷ has.rest) one in
      let apart_es : ClientsDiffer (has.front ++ p ∷ has.rest) = subst ClientsDiffer list drawn.apart in
      let none = none_apart has.front has.rest p apart_es in
      let none_all = each_append (λ e. e.call.client ≢ p.call.client) has.front has.rest none.0 none.1 in
      inl (record {
        front = has.front;
        rest = has.rest;
        is = list;
        each = each_other pre post p (has.front ++ has.rest) (each_append (Contains (pre ++ p ∷ post)) has.front has.rest parts.0 parts.1.1) none_all;
        apart = without has.front has.rest p apart_es;
        none = none_all;
        few = let n : length es ≡ length (has.front ++ p ∷ has.rest) = ap length list in
            let m : length (has.front ++ p ∷ has.rest) ≡ length has.front + suc (length has.rest) = length-append has.front (p ∷ has.rest) in
            let l : length (has.front ++ has.rest) ≡ length has.front + length has.rest = length-append has.front has.rest in
            omega (arith, n, m, l);
      })
]

-- what is drawn is no more than what is held
pub drawn_few : (ws es : List Entry) → ClientsDiffer ws → Each (Contains ws) es → ClientsDiffer es → length es ≤ length ws
drawn_few [] [] apart each apart_es = omega arith
drawn_few [] (e ∷ es) apart each apart_es = absurd (omega (arith, each.0.1))
drawn_few (w ∷ ws) es apart each apart_es = elim (by_client w.call.client es) [
  | inr none ↦ let n = drawn_few ws es apart.1 (each_other [] ws w es each none) apart_es in omega (arith, n)
  | inl has ↦
      let all : Each (Contains (w ∷ ws)) (has.front ++ has.own ∷ has.rest) = subst (Each (Contains (w ∷ ws))) has.is each in
      let parts = each_split (Contains (w ∷ ws)) has.front (has.own ∷ has.rest) all in
      let apart_has : ClientsDiffer (has.front ++ has.own ∷ has.rest) = subst ClientsDiffer has.is apart_es in
      let none = none_apart has.front has.rest has.own apart_has in
      let none_w : NoneBy w.call.client (has.front ++ has.rest)
      = subst (λ c. NoneBy c (has.front ++ has.rest)) has.its (each_append (λ e. e.call.client ≢ has.own.call.client) has.front has.rest none.0 none.1) in
      let n = drawn_few ws (has.front ++ has.rest) apart.1
      (each_other [] ws w (has.front ++ has.rest) (each_append (Contains (w ∷ ws)) has.front has.rest parts.0 parts.1.1) none_w) (without has.front has.rest has.own apart_has) in
      let a : length es ≡ length (has.front ++ has.own ∷ has.rest) = ap length has.is in
      let b : length (has.front ++ has.own ∷ has.rest) ≡ length has.front + suc (length has.rest) = length-append has.front (has.own ∷ has.rest) in
      let c : length (has.front ++ has.rest) ≡ length has.front + length has.rest = length-append has.front has.rest in
      omega (arith, n, a, b, c)
]

-- so it is drawn, or it is drawn but for the reply, which stands at a place
pub drawn_either : (pre post : List Entry) (p : Entry) (es : List Entry) → ClientsDiffer (pre ++ p ∷ post) → ClientsDiffer (pre ++ post) → AreDrawn (pre ++ p ∷ post) es
    → AreDrawn (pre ++ post) es ⊎ ((s : IsSplit (pre ++ post) es p) × AreDrawn (pre ++ post) (s.front ++ s.rest))
drawn_either pre post p es apart apart_less drawn = elim (split_drawn pre post p es apart drawn) [
  | inl s ↦ inr (s, record { each = s.each; apart = s.apart; few = drawn_few (pre ++ post) (s.front ++ s.rest) apart_less s.each s.apart })
  | inr none ↦ inl (record { each = none.0; apart = none.1; few = drawn_few (pre ++ post) es apart_less none.0 none.1 })
]

-- The first statement with a flaw, in lists that are equal but for places.
use Rattle.std.proofs.Common.{◌≡◌, ℕ, true, List, [], ◌∷◌, ◌++◌, None, Some, map, refl, sym, ◌∙◌, ap, subst}
use Rattle.std.specs.declared.option.Option.{Option}
use Rattle.std.specs.Option.{is_some}
use Rattle.std.proofs.lemmas.List.{map-append}
use Rattle.sg_facts.specs.Facts.{Facts}
use Rattle.sg_parse.specs.declared.tree.Statement.{Statement}
use Rattle.sg_parse.specs.declared.tree.Statement.TheVariants.{Proto}
use Rattle.sg_parse.specs.Grammar.Plain.{plain_statement}
use Rattle.sg_check_statements.specs.Faults.{IsFirstStatement}
use Rattle.sg_check_statements.specs.Inside.Pieces.{NoStatement}
use Rattle.sg_check_statements.specs.Flaws.{IsProtoWhere}

-- where a changed list is split, so is the list
split_map : {X Y : Type 0} (change : X → Y) (xs : List X) (before : List Y) (one : Y) (after : List Y) → map change xs ≡ before ++ one ∷ after
    → (b : List X) × (x : X) × (a : List X) × (xs ≡ b ++ x ∷ a) × (map change b ≡ before) × (change x ≡ one)
split_map change [] [] one after is = absurd (cc is)
split_map change [] (y ∷ before) one after is = absurd (cc is)
split_map change (x ∷ xs) [] one after is = ([], x, xs, refl, refl, cc is)
split_map change (x ∷ xs) (y ∷ before) one after is =
    let same : change x ≡ y = cc is in
    let rest : map change xs ≡ before ++ one ∷ after = cc is in
    let r = split_map change xs before one after rest in
    (x ∷ r.0, r.1, r.2, ap (λ l. x ∷ l) {y = r.0 ++ r.1 ∷ r.2} r.3, ap (λ z. z ∷ map change r.0) same ∙ ap (λ l. y ∷ l) r.4, r.5)

abbrev Alike : List Statement → List Statement → Type 0
Alike xs ys = map plain_statement xs ≡ map plain_statement ys

-- each flaw of one sort at a statement is one of the other sort at an equal statement, but for places
abbrev Carries : (List Statement → Statement → ℕ → Type 0) → (List Statement → Statement → ℕ → Type 0) → Type 0
Carries F G =
    (b c : List Statement) (s t : Statement) (at : ℕ) → Alike b c → plain_statement s ≡ plain_statement t → F b s at → (place : ℕ) × G c t place

module _ (F G : List Statement → Statement → ℕ → Type 0) (to : Carries F G) (back : Carries G F) where
  none_there : (xs ys : List Statement) → Alike xs ys → NoStatement F xs → NoStatement G ys
  none_there xs ys same none before one after place is flaw =
      let r = split_map plain_statement xs (map plain_statement before) (plain_statement one) (map plain_statement after)
      (same ∙ ap (map plain_statement) is ∙ map-append plain_statement before (one ∷ after)) in
      let found = back before r.0 one r.1 place (sym r.4) (sym r.5) flaw in
      none r.0 r.1 r.2 found.0 r.3 found.1

  -- one list has a first flaw where the other has one
  first_there : (xs ys : List Statement) (at : ℕ) → Alike xs ys → IsFirstStatement F xs at → (place : ℕ) × IsFirstStatement G ys place
  first_there xs ys at same first =
      let r = split_map plain_statement ys (map plain_statement first.before) (plain_statement first.one) (map plain_statement first.after)
      (sym same ∙ ap (map plain_statement) first.split ∙ map-append plain_statement first.before (first.one ∷ first.after)) in
      let found = to first.before r.0 first.one r.1 at (sym r.4) (sym r.5) first.flaw in (
        found.0,
        record {
          before = r.0;
          one = r.1;
          after = r.2;
          split = r.3;
          flaw = found.1;
          none = none_there first.before r.0 (sym r.4) first.none;
        },
      )

pub some_at : (found : Option ℕ) → is_some found ≡ true → (place : ℕ) × (found ≡ Some place)
some_at None is = absurd (cc is)
some_at (Some at) is = (at, refl)

-- a flaw that is told by what stands in all statements, in those before, and in the one
module _ (flaw : List Statement → List Statement → Statement → Option ℕ)
    (same : (all before : List Statement) (s : Statement) → is_some (flaw (map plain_statement all) (map plain_statement before) (plain_statement s)) ≡ is_some (flaw all before s)) where
  carried : (all more : List Statement) → Alike all more → Carries (λ before s p. flaw all before s ≡ Some p) (λ before s p. flaw more before s ≡ Some p)
  carried all more alike b c s t at before one is = some_at (flaw more c t)
      (sym (same more c t)
      ∙ ap (λ u. is_some (flaw (map plain_statement more) (map plain_statement c) u)) (sym one)
      ∙ ap (λ l. is_some (flaw (map plain_statement more) l (plain_statement s))) (sym before)
      ∙ ap (λ l. is_some (flaw l (map plain_statement b) (plain_statement s))) (sym alike)
      ∙ same all b s ∙ ap is_some is)

  pub first_flaw_there : (xs ys : List Statement) (at : ℕ) → Alike xs ys → IsFirstStatement (λ before s p. flaw xs before s ≡ Some p) xs at
      → (place : ℕ) × IsFirstStatement (λ before s p. flaw ys before s ≡ Some p) ys place
  first_flaw_there xs ys at alike first = first_there (λ before s p. flaw xs before s ≡ Some p) (λ before s p. flaw ys before s ≡ Some p)
      (carried xs ys alike) (carried ys xs (sym alike)) xs ys at alike first

-- a prototype of a function of which something holds
module _ (facts : Facts) where
  at_no_place : (P Q : ℕ → Type 0) → ((n : ℕ) → P n → Q n) → (s : Statement) (at : ℕ) → IsProtoWhere facts P s at → IsProtoWhere facts Q (plain_statement s) 0
  at_no_place P Q to (Proto ret name params) at is = (refl, to _ is.1)
  at_no_place P Q to _ at is = absurd is

  at_some_place : (Q : ℕ → Type 0) (s : Statement) → IsProtoWhere facts Q (plain_statement s) 0 → (place : ℕ) × IsProtoWhere facts Q s place
  at_some_place Q (Proto ret name params) is = (name.at, (refl, is.1))
  at_some_place Q _ is = absurd is

  where_carried : (P Q : ℕ → Type 0) → ((n : ℕ) → P n → Q n) → Carries (λ before s p. IsProtoWhere facts P s p) (λ before s p. IsProtoWhere facts Q s p)
  where_carried P Q to b c s t at before one is = at_some_place Q t (subst (λ u. IsProtoWhere facts Q u 0) one (at_no_place P Q to s at is))

  pub first_where_there : (P Q : ℕ → Type 0) → ((n : ℕ) → P n → Q n) → ((n : ℕ) → Q n → P n) → (xs ys : List Statement) (at : ℕ) → Alike xs ys
      → IsFirstStatement (λ before s p. IsProtoWhere facts P s p) xs at → (place : ℕ) × IsFirstStatement (λ before s p. IsProtoWhere facts Q s p) ys place
  first_where_there P Q to back xs ys at alike first = first_there (λ before s p. IsProtoWhere facts P s p) (λ before s p. IsProtoWhere facts Q s p)
      (where_carried P Q to) (where_carried Q P back) xs ys at alike first

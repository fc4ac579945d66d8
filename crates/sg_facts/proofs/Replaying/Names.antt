-- What a service holds, under names that grew.
use Rattle.std.proofs.Common.{◌≡◌, ℕ, ◌<◌, ◌≤◌, true, false, cond, List, ◌∷◌, Some, refl, sym, ◌∙◌, ap, inl, inr, ◌⊎◌, arith}
use Rattle.std.specs.Prelude.{◌==◌, ◌≢◌}
use Rattle.std.proofs.lemmas.Bool.Decides.{eqb_tells}
use Rattle.sg_facts.specs.declared.row.Row.{Row}
use Rattle.sg_facts.specs.Alike.{AreNames, IsAlike, named}
use Rattle.sg_facts.specs.Held.{whole, partly, HoldsPart, IsHeldFor, IsPartOf}
use Rattle.sg_facts.specs.Interface.{Declared}
use Rattle.sg_facts.specs.Object.{Object}
use Rattle.sg_facts.specs.Sound.{IsSound}
use Rattle.sg_facts.specs.Track.{row_at}
use Rattle.sg_facts.proofs.RowLists.{id_of_row}
use Rattle.sg_facts.proofs.Replaying.Above.{held_as, low_real}
use Rattle.sg_facts.proofs.Replaying.Found.{other_test, same_test}

-- a new name leaves the others
pub other_named : (names : List (ℕ × ℕ)) (new real id : ℕ) → (id ≡ new → ⊥) → named ((new, real) ∷ names) id ≡ named names id
other_named names new real id apart = ap (λ b. cond b real (named names id)) (other_test new id (λ is. apart (sym is)))

pub own_named : (names : List (ℕ × ℕ)) (new real : ℕ) → named ((new, real) ∷ names) new ≡ real
own_named names new real = ap (λ b. cond b real (named names new)) (same_test new new refl)

-- names stay names with a new one
pub names_more : (names : List (ℕ × ℕ)) (most new real : ℕ) → AreNames names → ((id : ℕ) → named names id ≤ most) → most < real → 0 < new → AreNames ((new, real) ∷ names)
names_more names most new real are given next some = record {
  none = other_named names new real 0 (λ is. absurd (omega (arith, is, some))) ∙ are.none;
  apart = λ a b same. at a b (eqb_tells a new) (eqb_tells b new) same;
}
  where
    at : (a b : ℕ) → ((a == new) ≡ true) × (a ≡ new) ⊎ ((a == new) ≡ false) × (a ≡ new → ⊥) → ((b == new) ≡ true) × (b ≡ new) ⊎ ((b == new) ≡ false) × (b ≡ new → ⊥)
        → named ((new, real) ∷ names) a ≡ named ((new, real) ∷ names) b → (named ((new, real) ∷ names) a ≡ 0) ⊎ (a ≡ b)
    at a b (inl x) (inl y) same = inr (x.1 ∙ sym y.1)
    at a b (inl x) (inr y) same =
        let one : named ((new, real) ∷ names) a ≡ real = ap (named ((new, real) ∷ names)) x.1 ∙ own_named names new real in
        let two : named ((new, real) ∷ names) b ≡ named names b = other_named names new real b y.1 in
        let low = given b in
        absurd (omega (arith, one, two, same, low, next))
    at a b (inr x) (inl y) same =
        let one : named ((new, real) ∷ names) b ≡ real = ap (named ((new, real) ∷ names)) y.1 ∙ own_named names new real in
        let two : named ((new, real) ∷ names) a ≡ named names a = other_named names new real a x.1 in
        let low = given a in
        absurd (omega (arith, one, two, same, low, next))
    at a b (inr x) (inr y) same =
        let one : named ((new, real) ∷ names) a ≡ named names a = other_named names new real a x.1 in
        let two : named ((new, real) ∷ names) b ≡ named names b = other_named names new real b y.1 in
        elim (are.apart a b (sym one ∙ same ∙ two)) [
          | inl none ↦ inl (one ∙ none)
          | inr is ↦ inr is
        ]

-- a name more leaves what is told of ids that have theirs, and whose parents have
pub alike_more : (names : List (ℕ × ℕ)) (new real : ℕ) (r w : Row) → r.id ≢ new → r.parent ≢ new → IsAlike names r w → IsAlike ((new, real) ∷ names) r w
alike_more names new real r w id parent alike = record {
  id = other_named names new real r.id id ∙ alike.id;
  made = alike.made;
  parent = alike.parent ∙ sym (other_named names new real r.parent parent);
  state = alike.state;
  fields = alike.fields;
}

pub part_more : (i : Declared) (names : List (ℕ × ℕ)) (new real : ℕ) (r w : Row) (done : List ℕ) → r.id ≢ new → r.parent ≢ new → IsPartOf i names r done w → IsPartOf i ((new, real) ∷ names) r done w
part_more i names new real r w done id parent part = record {
  spot = part.spot;
  led = part.led;
  id = other_named names new real r.id id ∙ part.id;
  made = part.made;
  parent = part.parent ∙ sym (other_named names new real r.parent parent);
  state = part.state;
  fields = part.fields;
}

pub held_more : (i : Declared) (names : List (ℕ × ℕ)) (new real : ℕ) (r w : Row) → r.id ≢ new → r.parent ≢ new → IsHeldFor i names r w → IsHeldFor i ((new, real) ∷ names) r w
held_more i names new real r w id parent (whole alike) = whole (alike_more names new real r w id parent alike)
held_more i names new real r w id parent (partly done rest walk part) = partly done rest walk (part_more i names new real r w done id parent part)

-- the parent of a row that the service holds has its name
pub parent_named : (i : Declared) (names : List (ℕ × ℕ)) (o held : Object) (r w : Row) (new : ℕ) → HoldsPart i names o held → IsSound i.facts o → row_at o.rows r.id ≡ Some r
    → row_at held.rows (named names r.id) ≡ Some w → named names new ≡ 0 → 0 < new → r.parent ≢ new
parent_named i names o held r w new holds sound there found none some is = elim (held_as i names o held holds sound r w there found).1 [
  | inl root ↦ absurd (omega (arith, root, is, some))
  | inr has ↦
      let its : has.row.id ≡ r.parent = id_of_row o.rows r.parent has.row has.of in
      let low = low_real i names o held holds sound (named names has.row.id) has.whole.row has.whole.there in
      let name = id_of_row held.rows (named names has.row.id) has.whole.row has.whole.there in
      let none_there : named names has.row.id ≡ 0 = ap (named names) (its ∙ is) ∙ none in
      absurd (omega (arith, low, name, none_there))
]

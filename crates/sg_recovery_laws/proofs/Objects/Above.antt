-- An id stands above a row in a service, under its name, exactly where it does in the object.
use Rattle.std.proofs.Common.{◌≡◌, ℕ, List, [], ◌∷◌, Some, map, refl, sym, ◌∙◌, ap, inl, inr, arith}
use Rattle.std.specs.Prelude.{◌==◌, ◌||◌}
use Rattle.std.specs.List.{list_any}
use Rattle.std.proofs.lemmas.Bool.Decides.{eqb_tells}
use Rattle.sg_facts.specs.declared.row.Row.{Row}
use Rattle.sg_facts.specs.Alike.{named}
use Rattle.sg_facts.specs.Held.{HoldsPart}
use Rattle.sg_facts.specs.Interface.{Declared}
use Rattle.sg_facts.specs.Object.{Object}
use Rattle.sg_facts.specs.Sound.{IsSound}
use Rattle.sg_facts.specs.Track.{ancestors, is_ancestor, row_at}
use Rattle.sg_facts.proofs.Replaying.Above.{up}
use Rattle.sg_facts.proofs.Replaying.Found.{other_test, same_test}

module _ (i : Declared) (names : List (ℕ × ℕ)) (o held : Object) (holds : HoldsPart i names o held) (sound : IsSound i.facts o) where
  -- two ids are one where their names are
  pub same_id : (a b : ℕ) → (named names a ≡ 0 → ⊥) → (named names b == named names a) ≡ (b == a)
  same_id a b some = elim (eqb_tells b a) [
    | inl same ↦ same_test (named names b) (named names a) (ap (named names) same.1) ∙ sym same.0
    | inr apart ↦ other_test (named names b) (named names a) (λ is. elim (holds.names_are.apart b a is) [
      | inl none ↦ some (sym is ∙ none)
      | inr one ↦ apart.1 one
    ]) ∙ sym apart.0
  ]

  -- a named id is above another in the service exactly where it is in the object
  same_any : (a : ℕ) (ids : List ℕ) → (named names a ≡ 0 → ⊥) → list_any (λ x. x == named names a) (map (named names) ids) ≡ list_any (λ x. x == a) ids
  same_any a [] some = refl
  same_any a (b ∷ ids) some = ap (λ t. t || list_any (λ x. x == named names a) (map (named names) ids)) (same_id a b some) ∙ ap (λ t. (b == a) || t) (same_any a ids some)

  pub same_ancestor : (a : ℕ) (r w : Row) → row_at o.rows r.id ≡ Some r → row_at held.rows (named names r.id) ≡ Some w → (named names a ≡ 0 → ⊥)
      → is_ancestor held.rows (named names a) (named names r.id) ≡ is_ancestor o.rows a r.id
  same_ancestor a r w there found some =
      let above = up i names o held holds sound (named names r.id) r.id r w there found (omega arith) (omega arith) in
      ap (list_any (λ x. x == named names a)) above.same ∙ same_any a (ancestors o.rows r.id) some

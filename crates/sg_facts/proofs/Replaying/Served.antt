-- Where a call needs all rows, what serves it has a row for each of an object's, and no others.
use Rattle.std.proofs.Common.{◌≡◌, ℕ, true, cond, List, [], ◌∷◌, Some, sym, ◌∙◌, ap, subst, inl, inr}
use Rattle.std.specs.Prelude.{◌==◌, ◌||◌}
use Rattle.std.proofs.lemmas.Bool.{cases_Bool}
use Rattle.sg_base.specs.declared.call.Call.{Call}
use Rattle.sg_facts.specs.declared.row.Row.{Row}
use Rattle.sg_facts.specs.Facts.{Facts, fun_at}
use Rattle.sg_facts.specs.Track.{is_ancestor, row_at}
use Rattle.sg_facts.specs.Object.{Object}
use Rattle.sg_facts.specs.Alike.{named, EachStands, HasAlike, IsAlike, Serves, StandsFor}
use Rattle.sg_facts.proofs.RowLists.{row_of_live}

-- a row of an object, and the service's for it
pub record IsFor (names : List (ℕ × ℕ)) (o held : Object) (r v : Row) : Type 0 where
  pub live : row_at o.rows r.id ≡ Some r
  pub held_there : row_at held.rows v.id ≡ Some v
  pub alike : IsAlike names r v

-- each row that is found stands for a live one
found_stands : (names : List (ℕ × ℕ)) (rows vs : List Row) (id : ℕ) (v : Row) → EachStands names rows vs → row_at vs id ≡ Some v → StandsFor names rows v
found_stands names rows [] id v each found = absurd (cc found)
found_stands names rows (x ∷ vs) id v each found = elim (cases_Bool (x.id == id)) [
  | inl here ↦ let one : Some x ≡ Some v = sym (ap (λ b. cond b (Some x) (row_at vs id)) here) ∙ found in let is : x ≡ v = cc one in subst (StandsFor names rows) is each.0
  | inr apart ↦ found_stands names rows vs id v each.1 (sym (ap (λ b. cond b (Some x) (row_at vs id)) apart) ∙ found)
]

module _ (facts : Facts) (names : List (ℕ × ℕ)) (o held : Object) (call : Call) (serves : Serves facts names o held call) (all : (fun_at facts.funs call.fun).all ≡ true) where
  needed : (r : Row) → row_at o.rows r.id ≡ Some r → HasAlike names held r
  needed r live = serves.needed r live (ap (λ b. b || (r.id == call.desc) || is_ancestor o.rows r.id call.desc) all)

  -- the service's row for one of the object's
  pub row_held : (r : Row) → row_at o.rows r.id ≡ Some r → (v : Row) × IsFor names o held r v
  row_held r live =
      let has = needed r live in
      (has.row, record { live = live; held_there = ap (row_at held.rows) (sym has.alike.id) ∙ has.there; alike = has.alike })

  -- the object's row for one of the service's
  pub row_live : (v : Row) → row_at held.rows v.id ≡ Some v → (r : Row) × IsFor names o held r v
  row_live v found =
      let stands = found_stands names o.rows held.rows v.id v serves.each found in
      let r = row_of_live o.rows stands.of stands.live in
      let live : row_at o.rows r.0.id ≡ Some r.0 = ap (row_at o.rows) r.2 ∙ r.1 in
      let has = needed r.0 live in
      let rows : Some has.row ≡ Some v = sym has.there ∙ ap (λ id. row_at held.rows (named names id)) r.2 ∙ ap (row_at held.rows) stands.id ∙ found in
      let one : has.row ≡ v = cc rows in
      (r.0, record { live = live; held_there = found; alike = subst (IsAlike names r.0) one has.alike })

-- The path of a row that is to be made, below its parent in the service.
use Rattle.std.proofs.Common.{◌≡◌, ℕ, suc, ◌<◌, cond, List, [], ◌∷◌, ◌++◌, None, Some, append-nil, map, refl, sym, ◌∙◌, ap, subst, inl, inr, arith}
use Rattle.std.specs.Prelude.{◌-◌, reverse}
use Rattle.std.specs.List.{flat_map}
use Rattle.std.proofs.lemmas.Grind.{flat_map-append, reverse_onto}
use Rattle.std.proofs.lemmas.List.Folds.{flat_map-map}
use Rattle.std.proofs.lemmas.List.{map-append}
use Rattle.sg_base.specs.Lists.{Each}
use Rattle.sg_facts.specs.declared.row.Row.{Row}
use Rattle.sg_facts.specs.Alike.{named}
use Rattle.sg_facts.specs.Held.{HoldsPart, ParentIsWhole}
use Rattle.sg_facts.specs.Interface.{Declared}
use Rattle.sg_facts.specs.Object.{Object, first_text, path_of}
use Rattle.sg_facts.specs.Inside.Rows.{step_to}
use Rattle.sg_facts.specs.Sound.{AreRows, IsRow, IsSound}
use Rattle.sg_facts.specs.Track.{nearest, row_at}
use Rattle.sg_facts.proofs.RowLists.{id_of_row}
use Rattle.sg_facts.proofs.Replaying.Above.{IsWholeIn, low_id, one_above, up}
use Rattle.sg_facts.proofs.Replaying.Creating.{below_it}
use Rattle.sg_facts.proofs.Replaying.Found.{met, other_test, same_test}

reverse_map : (f : ℕ → ℕ) (ids : List ℕ) → reverse (map f ids) ≡ map f (reverse ids)
reverse_map f [] = refl
reverse_map f (a ∷ ids) =
    reverse_onto (map f ids) (f a) [] ∙ ap (λ l. l ++ f a ∷ []) (reverse_map f ids)
    ∙ sym (ap (map f) (reverse_onto ids a []) ∙ map-append f (reverse ids) (a ∷ []))

flat_map_alike : (f g : ℕ → List ℕ) (ids : List ℕ) → Each (λ a. f a ≡ g a) ids → flat_map f ids ≡ flat_map g ids
flat_map_alike f g [] each = refl
flat_map_alike f g (a ∷ ids) each = ap (λ x. x ++ flat_map f ids) each.0 ∙ ap (λ x. g a ++ x) (flat_map_alike f g ids each.1)

each_push : (P : ℕ → Type 0) (xs : List ℕ) (x : ℕ) → Each P xs → P x → Each P (xs ++ x ∷ [])
each_push P [] x all one = (one, tt)
each_push P (y ∷ xs) x all one = (all.0, each_push P xs x all.1 one)

each_reversed : (P : ℕ → Type 0) (ids : List ℕ) → Each P ids → Each P (reverse ids)
each_reversed P [] each = tt
each_reversed P (a ∷ ids) each = subst (Each P) (sym (reverse_onto ids a [])) (each_push P (reverse ids) a (each_reversed P ids each.1) each.0)

-- one step more of a path
path_more : (step : ℕ → List ℕ) (id : ℕ) (ids : List ℕ) → flat_map step (reverse (id ∷ ids)) ≡ flat_map step (reverse ids) ++ step id
path_more step id ids = ap (flat_map step) (reverse_onto ids id []) ∙ flat_map-append step (reverse ids) (id ∷ []) ∙ ap (λ x. flat_map step (reverse ids) ++ x) (append-nil (step id))

nothing_at : (P : Row → Type 0) (low high : ℕ) (rows : List Row) → AreRows P low high rows → row_at rows 0 ≡ None
nothing_at P low high [] are = refl
nothing_at P low high (r ∷ rows) are =
    ap (λ b. cond b (Some r) (row_at rows 0)) (other_test r.id 0 (λ is. absurd (let low_is = are.0 in omega (arith, is, low_is)))) ∙ nothing_at P r.id high rows are.3

module _ (i : Declared) (names : List (ℕ × ℕ)) (o held : Object) (holds : HoldsPart i names o held) (sound : IsSound i.facts o) where
  abbrev step : ℕ → List ℕ
  step a = step_to (row_at held.rows a)

  abbrev own : ℕ → List ℕ
  own a = step_to (row_at o.rows a)

  one : (a : ℕ) → IsWholeIn names o held a → step (named names a) ≡ own a
  one a w =
      let its : w.row.id ≡ a = id_of_row o.rows a w.row w.of in
      ap step_to (ap (λ n. row_at held.rows (named names n)) (sym its) ∙ w.whole.there) ∙ ap (λ fs. 47 ∷ first_text fs) w.whole.alike.fields ∙ ap step_to (sym w.of)

  all : (ids : List ℕ) → Each (IsWholeIn names o held) ids → Each (λ a. step (named names a) ≡ own a) ids
  all [] each = tt
  all (a ∷ ids) each = (one a each.0, all ids each.1)

  pub path_below : (r : Row) → row_at o.rows r.id ≡ Some r → ParentIsWhole names o held r → path_of held.rows (named names r.parent) ++ 47 ∷ first_text r.fields ≡ path_of o.rows r.id
  path_below r there (inl none) =
      let low : 0 < r.id = low_id i names o held holds sound r.id r there in
      let id : r.id ≡ suc (r.id - 1) = omega (arith, low) in
      let zero_is : named names r.parent ≡ 0 = ap (named names) none ∙ holds.names_are.none in
      let empty : path_of held.rows (named names r.parent) ≡ [] = ap (path_of held.rows) zero_is ∙ ap (λ x. step_to x ++ []) (nothing_at (IsRow i.facts held.rows) 0 held.given held.rows holds.held_sound.rows) in
      let alone : nearest o.rows r.id r.id ≡ []
      = ap (λ k. nearest o.rows k r.id) id ∙ one_above o.rows (r.id - 1) r.id r there ∙ ap (λ b. cond b [] (r.parent ∷ nearest o.rows (r.id - 1) r.parent)) (same_test r.parent 0 none) in
      let path : path_of o.rows r.id ≡ 47 ∷ first_text r.fields
      = ap (λ ids. flat_map own (reverse (r.id ∷ ids))) alone ∙ append-nil (own r.id) ∙ ap step_to there in
      ap (λ p. p ++ 47 ∷ first_text r.fields) empty ∙ sym path
  path_below r there (inr has) =
      let low : 0 < r.id = low_id i names o held holds sound r.id r there in
      let id : r.id ≡ suc (r.id - 1) = omega (arith, low) in
      let p = has.row in
      let its : p.id ≡ r.parent = id_of_row o.rows r.parent p has.of in
      let there_p : row_at o.rows p.id ≡ Some p = ap (row_at o.rows) its ∙ has.of in
      let low_p : 0 < p.id = low_id i names o held holds sound p.id p there_p in
      let below : r.parent < r.id = below_it i.facts o.rows r low (met (IsRow i.facts o.rows) 0 o.given r.id o.rows r sound.rows there) in
      let above = up i names o held holds sound (named names p.id) (r.id - 1) p has.whole.row there_p has.whole.there (omega (arith, its, below)) (omega arith) in
      let ids : List ℕ = nearest o.rows (r.id - 1) p.id in
      let up_o : nearest o.rows r.id r.id ≡ p.id ∷ ids
      = ap (λ k. nearest o.rows k r.id) id ∙ one_above o.rows (r.id - 1) r.id r there
      ∙ ap (λ b. cond b [] (r.parent ∷ nearest o.rows (r.id - 1) r.parent)) (other_test r.parent 0 (λ none. absurd (omega (arith, none, its, low_p))))
      ∙ ap (λ k. k ∷ nearest o.rows (r.id - 1) k) (sym its) in
      let path : path_of o.rows r.id ≡ flat_map own (reverse (p.id ∷ ids)) ++ 47 ∷ first_text r.fields
      = ap (λ l. flat_map own (reverse (r.id ∷ l))) up_o ∙ path_more own r.id (p.id ∷ ids) ∙ ap (λ x. flat_map own (reverse (p.id ∷ ids)) ++ step_to x) there in
      let path_h : path_of held.rows (named names p.id) ≡ flat_map own (reverse (p.id ∷ ids))
      = ap (λ l. flat_map step (reverse (named names p.id ∷ l))) above.same ∙ ap (flat_map step) (reverse_map (named names) (p.id ∷ ids)) ∙ flat_map-map step (named names) (reverse (p.id ∷ ids))
      ∙ flat_map_alike (λ a. step (named names a)) own (reverse (p.id ∷ ids))
      (each_reversed (λ a. step (named names a) ≡ own a) (p.id ∷ ids) (one p.id (record { row = p; of = there_p; whole = has.whole }), all ids above.each)) in
      ap (λ n. path_of held.rows (named names n) ++ 47 ∷ first_text r.fields) (sym its) ∙ ap (λ x. x ++ 47 ∷ first_text r.fields) path_h ∙ sym path

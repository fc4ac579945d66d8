-- The first id of a line that isn't whole, found on the way up.
use Rattle.std.proofs.Common.{◌≡◌, ℕ, zero, suc, ◌≤◌, ◌<◌, Bool, true, false, cond, List, [], ◌∷◌, None, Some, find, filter, is_some, refl, sym, ◌∙◌, ap, arith}
use Rattle.std.specs.Prelude.{◌==◌, not}
use Rattle.std.specs.declared.option.Option.{Option}
use Rattle.std.proofs.lemmas.Bool.Decides.{nat_tests}
use mathlib.Core.List.{reverse_aux}
use Rattle.sg_facts.specs.declared.row.Row.{Row}
use Rattle.sg_facts.specs.Track.{ancestors, is_live, row_at}
use Rattle.sg_facts.specs.Inside.Rows.{parent_in}
use Rattle.sg_needs.proofs.Lines.{line_needed}
use Rattle.sg_needs.proofs.sg_track.Above.{child, parent_below, root}
use Rattle.sg_needs.specs.Inside.Lines.{ids_in}
use Rattle.sg_needs.specs.sg_track.Tracked.{AreTracked}
use Rattle.sg_replay.proofs.AllWhole.{live_above}
use Rattle.sg_replay.proofs.Committed.{row_live}

module _ (whole : ℕ → Bool) (rows : List Row) where
  -- what is found at an id, or else below it
  abbrev pub found_at : ℕ → Option ℕ → Option ℕ
  found_at id below = cond (is_live rows id) (cond (whole id) below (Some id)) below

  -- what is found on the way along some ids, where the last counts
  abbrev pub last_hole : List ℕ → Option ℕ → Option ℕ
  last_hole [] hole = hole
  last_hole (id ∷ ids) hole = last_hole ids (found_at id hole)

  -- the last of some ids is the first of them turned round
  turned : (ids after : List ℕ) → find (λ id. not (whole id)) (filter (is_live rows) (reverse_aux ids after)) ≡ last_hole ids (find (λ id. not (whole id)) (filter (is_live rows) after))
  turned [] after = refl
  turned (id ∷ ids) after = turned ids (id ∷ after) ∙ ap (last_hole ids) (at (is_live rows id) (whole id) refl)
    where
      at : (live is : Bool) → whole id ≡ is → find (λ x. not (whole x)) (cond live (id ∷ filter (is_live rows) after) (filter (is_live rows) after))
          ≡ cond live (cond (whole id) (find (λ x. not (whole x)) (filter (is_live rows) after)) (Some id)) (find (λ x. not (whole x)) (filter (is_live rows) after))
      at false is same = refl
      at true true same =
          ap (λ b. cond (not b) (Some id) (find (λ x. not (whole x)) (filter (is_live rows) after))) same
          ∙ sym (ap (λ b. cond b (find (λ x. not (whole x)) (filter (is_live rows) after)) (Some id)) same)
      at true false same =
          ap (λ b. cond (not b) (Some id) (find (λ x. not (whole x)) (filter (is_live rows) after))) same
          ∙ sym (ap (λ b. cond b (find (λ x. not (whole x)) (filter (is_live rows) after)) (Some id)) same)

  module _ (given : ℕ) (tracked : AreTracked given rows) where
    -- so it is the way up from an id
    pub way_up : (id : ℕ) → last_hole (id ∷ ancestors rows id) None ≡ find (λ x. not (whole x)) (ids_in false rows id)
    way_up id = sym (turned (id ∷ ancestors rows id) []) ∙ ap (find (λ x. not (whole x))) (line_needed given rows id tracked)

    not_live : is_live rows 0 ≡ false
    not_live = at (is_live rows 0) refl
      where
        at : (b : Bool) → is_live rows 0 ≡ b → b ≡ false
        at true live = absurd (let above = live_above 0 given rows tracked 0 live in omega (arith, above))
        at false live = refl

    -- a live id isn't 0
    pub some_live : (id : ℕ) → is_live rows id ≡ true → 0 < id
    some_live id live = live_above 0 given rows tracked id live

    -- one step up
    pub step_up : (id : ℕ) (hole : Option ℕ) → is_live rows id ≡ true
        → last_hole (parent_in (row_at rows id) ∷ ancestors rows (parent_in (row_at rows id))) (cond (whole id) hole (Some id)) ≡ last_hole (id ∷ ancestors rows id) hole
    step_up id hole live =
        at (parent_in (row_at rows id) == 0) refl
        ∙ ap (λ b. last_hole (ancestors rows id) (cond b (cond (whole id) hole (Some id)) hole)) (sym live)
      where
        at : (b : Bool) → (parent_in (row_at rows id) == 0) ≡ b
            → last_hole (parent_in (row_at rows id) ∷ ancestors rows (parent_in (row_at rows id))) (cond (whole id) hole (Some id)) ≡ last_hole (ancestors rows id) (cond (whole id) hole (Some id))
        at true is =
            let none : parent_in (row_at rows id) ≡ 0 = grind (arith, nat_tests) in
            ap (λ p. last_hole (p ∷ ancestors rows p) (cond (whole id) hole (Some id))) none
            ∙ ap (λ b. cond b (cond (whole 0) (cond (whole id) hole (Some id)) (Some 0)) (cond (whole id) hole (Some id))) not_live
            ∙ sym (ap (λ l. last_hole l (cond (whole id) hole (Some id))) (root 0 given rows tracked id none))
        at false is = sym
            (ap (λ l. last_hole l (cond (whole id) hole (Some id))) (child 0 given rows tracked id is))

    -- the way ends where there is no row
    pub ends_up : (id : ℕ) (hole : Option ℕ) → row_at rows id ≡ None → last_hole (id ∷ ancestors rows id) hole ≡ hole
    ends_up id hole none =
        ap (λ l. last_hole l (found_at id hole)) (root 0 given rows tracked id (ap parent_in none))
        ∙ ap (λ b. cond b (cond (whole id) hole (Some id)) hole) (sym (row_live rows id) ∙ ap is_some none)

    live_there : (id : ℕ) (r : Row) → row_at rows id ≡ Some r → is_live rows id ≡ true
    live_there id r there = sym (row_live rows id) ∙ ap is_some there

    -- and below the first that isn't whole there is nothing to find
    pub whole_up : (first : ℕ) → ((x : ℕ) → x < first → is_live rows x ≡ true → whole x ≡ true) → (most id : ℕ) (hole : Option ℕ) → id ≤ most → id < first → last_hole (id ∷ ancestors rows id) hole ≡ hole
    whole_up first all zero id hole few less = at (row_at rows id) refl
      where
        at : (row : Option Row) → row_at rows id ≡ row → last_hole (id ∷ ancestors rows id) hole ≡ hole
        at None there = ends_up id hole there
        at (Some r) there = absurd (let some = some_live id (live_there id r there) in omega (arith, some, few))
    whole_up first all (suc most) id hole few less =
        let below = parent_below 0 given id rows tracked in
        at (row_at rows id) refl (λ some. whole_up first all most (parent_in (row_at rows id)) hole (omega (arith, below, some, few)) (omega (arith, below, less)))
      where
        at : (row : Option Row) → row_at rows id ≡ row → (0 < id → last_hole (parent_in (row_at rows id) ∷ ancestors rows (parent_in (row_at rows id))) hole ≡ hole) → last_hole (id ∷ ancestors rows id) hole ≡ hole
        at None there rest = ends_up id hole there
        at (Some r) there rest =
            let live = live_there id r there in
            sym (step_up id hole live)
            ∙ ap (λ b. last_hole (parent_in (row_at rows id) ∷ ancestors rows (parent_in (row_at rows id))) (cond b hole (Some id))) (all id less live)
            ∙ rest (some_live id live)

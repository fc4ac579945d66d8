-- Numbers of functions one after the other, and lists of parts.
use Rattle.std.proofs.Common.{◌≡◌, ℕ, zero, suc, ◌+◌, ◌-◌, ◌/◌, ◌%◌, ◌<◌, ◌≤◌, Bool, true, false, List, [], ◌∷◌, ◌++◌, length, map, drop, get_or, Bor, refl, sym, ◌∙◌, ap, inl, inr, arith, append-nil, append_assoc, codes}
use Rattle.std.specs.Prelude.{◌==◌, if◌then◌else◌}
use Rattle.std.specs.List.{flat_map, range_with_len}
use Rattle.std.proofs.lemmas.Bool.Decides.{eqb_tells}
use Rattle.std.proofs.lemmas.Grind.{flat_map-append}
use Rattle.std.proofs.lemmas.List.Folds.{flat_map-map}
use Rattle.std.proofs.lemmas.List.{drop_more, map-append}
use Rattle.sg_facts.specs.declared.shape.Effect.{Effect}
use Rattle.sg_facts.specs.declared.shape.FieldShape.{FieldShape}
use Rattle.sg_facts.specs.declared.shape.FunShape.{FunShape}
use Rattle.sg_facts.specs.Facts.{Field, fun_of_shape}
use Rattle.sg_print.specs.TablesText.{numbers, set_names, set_word}
use Rattle.sg_print.specs.Inside.Pieces.{effect_piece, effects_text}

numbers_last : (n k : ℕ) → range_with_len n (suc k) ≡ range_with_len n k ++ (n + k) ∷ []
numbers_last n zero = let none : n ≡ n + 0 = omega arith in ap (λ m. m ∷ []) none
numbers_last n (suc k) = let next : (n + 1) + k ≡ n + suc k = omega arith in ap (λ l. n ∷ l) (numbers_last (n + 1) k) ∙ ap (λ m. n ∷ range_with_len (n + 1) k ++ m ∷ []) next

module _ (part : ℕ → List ℕ) (initial : List ℕ) where
  -- the parts of the first numbers stand after what was there
  abbrev pub Stands : List ℕ → ℕ → Type 0
  Stands out n = out ≡ initial ++ flat_map part (range_with_len 1 (n - 1))

  -- one part more
  pub one_more : (old new : List ℕ) (n : ℕ) → 1 ≤ n → Stands old n → new ≡ old ++ part n → Stands new (n + 1)
  one_more old new n least stands more =
      let count : (n + 1) - 1 ≡ suc (n - 1) = omega arith in
      let here : 1 + (n - 1) ≡ n = omega arith in
      let longer : flat_map part (range_with_len 1 ((n + 1) - 1)) ≡ flat_map part (range_with_len 1 (n - 1)) ++ part n =
      ap (λ k. flat_map part (range_with_len 1 k)) count ∙ ap (flat_map part) (numbers_last 1 (n - 1)) ∙ flat_map-append part (range_with_len 1 (n - 1)) ((1 + (n - 1)) ∷ [])
      ∙ ap (λ m. flat_map part (range_with_len 1 (n - 1)) ++ (part m ++ [])) here ∙ ap (λ l. flat_map part (range_with_len 1 (n - 1)) ++ l) (append-nil (part n)) in
      more ∙ ap (λ l. l ++ part n) stands ∙ append_assoc initial (flat_map part (range_with_len 1 (n - 1))) (part n) ∙ ap (λ l. initial ++ l) (sym longer)

  -- all parts
  pub all_stand : (out : List ℕ) (n : ℕ) → n ≡ 33 → Stands out n → out ≡ initial ++ flat_map part numbers
  unfolding numbers
  all_stand out n end stands = stands ∙ ap (λ k. initial ++ flat_map part (range_with_len 1 (k - 1))) end

-- a part that is there where a test passes
pub there : (b : Bool) (line : List ℕ) → b ≡ true → line ≡ (if b then line else [])
there b line is = ap (λ t. if t then line else []) (sym is)

pub not_there : (b : Bool) (line old : List ℕ) → b ≡ false → old ≡ old ++ (if b then line else [])
not_there b line old isn't = sym (ap (λ t. old ++ (if t then line else [])) isn't ∙ append-nil old)

-- effects of a shape as plain data
pub same_effects : (effects : List (ℕ × Effect)) → map (λ p. (p.0, p.1)) effects ≡ effects
same_effects [] = refl
same_effects (e ∷ effects) = ap (λ l. e ∷ l) (same_effects effects)

pub effects_shown : (fields : List Field) (f : FunShape) → flat_map (effect_piece fields f.kinds.now) f.effects.now ≡ effects_text fields (fun_of_shape f)
effects_shown fields f = ap (flat_map (effect_piece fields f.kinds.now)) (sym (same_effects f.effects.now))

abbrev pub plain_field : FieldShape → Field
plain_field f = record { name = f.name.now; text = f.text }

-- a field, where there is one
pub some_field : (fields : List FieldShape) (k : ℕ) → k < length fields → FieldShape
some_field [] k within = absurd (omega (arith, within))
some_field (f ∷ fields) zero within = f
some_field (f ∷ fields) (suc k) within = some_field fields k (omega (arith, within))

-- one field of those to come
module _ (fields : List FieldShape) (k : ℕ) (d : FieldShape) (within : k < length fields) (total before : List (List ℕ)) (left : ℕ)
    (are : total ≡ before ++ set_names (map plain_field (drop k fields)) left) where
  to_come : set_names (map plain_field (drop k fields)) left
      ≡ (if left % 2 == 1 then (get_or fields k d).name.now ∷ set_names (map plain_field (drop (k + 1) fields)) (left / 2) else set_names (map plain_field (drop (k + 1) fields)) (left / 2))
  to_come = ap (λ l. set_names (map plain_field l) left) (drop_more fields k d within)

  field_in_by : (left % 2 == 1) ≡ true → total ≡ (before ++ (get_or fields k d).name.now ∷ []) ++ set_names (map plain_field (drop (k + 1) fields)) (left / 2)
  field_in_by is =
      are ∙ ap (λ l. before ++ l) (to_come ∙ ap (λ b. if b then (get_or fields k d).name.now ∷ set_names (map plain_field (drop (k + 1) fields)) (left / 2) else set_names (map plain_field (drop (k + 1) fields)) (left / 2)) is)
      ∙ sym (append_assoc before ((get_or fields k d).name.now ∷ []) (set_names (map plain_field (drop (k + 1) fields)) (left / 2)))

  field_out_by : (left % 2 == 1) ≡ false → total ≡ before ++ set_names (map plain_field (drop (k + 1) fields)) (left / 2)
  field_out_by isn't =
      are ∙ ap (λ l. before ++ l) (to_come ∙ ap (λ b. if b then (get_or fields k d).name.now ∷ set_names (map plain_field (drop (k + 1) fields)) (left / 2) else set_names (map plain_field (drop (k + 1) fields)) (left / 2)) isn't)

  pub field_in : left % 2 ≡ 1 → total ≡ (before ++ (get_or fields k d).name.now ∷ []) ++ set_names (map plain_field (drop (k + 1) fields)) (left / 2)
  field_in is = elim (eqb_tells (left % 2) 1) [ inl same ↦ field_in_by same.0 | inr other ↦ absurd (other.1 is) ]

  pub field_out : (left % 2 ≡ 1 → ⊥) → total ≡ before ++ set_names (map plain_field (drop (k + 1) fields)) (left / 2)
  field_out isn't = elim (eqb_tells (left % 2) 1) [ inl same ↦ absurd (isn't same.1) | inr other ↦ field_out_by other.0 ]

-- a name more
pub name_more : (old new : List (Bor (List ℕ))) (n : Bor (List ℕ)) (total : List (List ℕ)) (rest : List (List ℕ)) → new ≡ old ++ n ∷ [] → total ≡ (map (λ m. m.now) old ++ n.now ∷ []) ++ rest
    → total ≡ map (λ m. m.now) new ++ rest
name_more old new n total rest is stands =
    stands ∙ ap (λ l. l ++ rest) (sym (ap (map (λ m. m.now)) is ∙ map-append (λ m. m.now) old (n ∷ [])))

-- names after the first one, each after a comma
pub joined : (first : Bor (List ℕ)) (more names : List (Bor (List ℕ))) (initial out : List ℕ) → names ≡ first ∷ more → out ≡ (initial ++ first.now) ++ flat_map (λ n. codes "," ++ n.now) more
    → out ≡ initial ++ set_word (map (λ n. n.now) names)
joined first more names initial out is stands =
    stands ∙ append_assoc initial first.now (flat_map (λ n. codes "," ++ n.now) more)
    ∙ ap (λ l. initial ++ (first.now ++ l)) (sym (flat_map-map (λ n. codes "," ++ n) (λ n. n.now) more))
    ∙ ap (λ l. initial ++ set_word (map (λ n. n.now) l)) (sym is)

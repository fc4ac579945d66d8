-- Names of ids that have ended may be dropped: the service stands for the object's rows as before.
use Rattle.std.proofs.Common.{◌≡◌, ℕ, ◌≤◌, Bool, true, false, List, [], ◌∷◌, Some, take, refl, sym, ◌∙◌, ap, subst, inl, inr, ◌⊎◌, arith}
use Rattle.std.specs.Prelude.{◌==◌, ◌||◌, ◌&&◌, nat_lt}
use Rattle.std.proofs.lemmas.Bool.Decides.{nat_tests}
use Rattle.sg_facts.specs.declared.row.Row.{Row}
use Rattle.sg_facts.specs.declared.tables.WalkLine.{WalkLine}
use Rattle.sg_facts.specs.Alike.{AreNames, HasAlike, IsAlike, named}
use Rattle.sg_facts.specs.Held.{whole, partly, EachHeld, IsAt, IsHeldFor, IsPartOf, ParentIsWhole}
use Rattle.sg_facts.specs.Interface.{Declared}
use Rattle.sg_facts.specs.Object.{Object}
use Rattle.sg_facts.specs.Sound.{IsRow, IsSound}
use Rattle.sg_facts.specs.Track.{is_live, row_at}
use Rattle.sg_facts.proofs.RowLists.{id_of_row, live_of_row}
use Rattle.sg_recovery_laws.specs.Midway.Progress.{IsSoFar, IsInRecovery, Told, fresh, begun, complete}
use Rattle.sg_facts.proofs.Replaying.Found.{met}

module _ (i : Declared) (walks : List WalkLine) (names names' : List (ℕ × ℕ)) (o held : Object) (sound : IsSound i.facts o) (none : named names 0 ≡ 0)
    (same : (id : ℕ) → is_live o.rows id ≡ true → named names' id ≡ named names id) (less : (id : ℕ) → (named names' id ≡ named names id) ⊎ (named names' id ≡ 0)) where
  zero_same : named names' 0 ≡ named names 0
  zero_same = elim (less 0) [ inl is ↦ is | inr is ↦ is ∙ sym none ]

  own_same : (r : Row) → row_at o.rows r.id ≡ Some r → named names' r.id ≡ named names r.id
  own_same r there = same r.id (live_of_row o.rows r.id r there)

  parent_same : (r : Row) → row_at o.rows r.id ≡ Some r → named names' r.parent ≡ named names r.parent
  parent_same r there = at (r.parent == 0) refl (met (IsRow i.facts o.rows) 0 o.given r.id o.rows r sound.rows there).parent
    where
      second : (a b : Bool) → (a && b) ≡ true → b ≡ true
      second true b is = is
      second false b is = absurd (cc is)

      at : (t : Bool) → (r.parent == 0) ≡ t → (t || (nat_lt r.parent r.id && is_live o.rows r.parent)) ≡ true → named names' r.parent ≡ named names r.parent
      at true is meets = let root : r.parent ≡ 0 = grind (arith, nat_tests, is) in ap (named names') root ∙ zero_same ∙ sym (ap (named names) root)
      at false is meets = same r.parent (second (nat_lt r.parent r.id) (is_live o.rows r.parent) meets)

  alike_less : (r w : Row) → row_at o.rows r.id ≡ Some r → IsAlike names r w → IsAlike names' r w
  alike_less r w there a = record { id = own_same r there ∙ a.id; made = a.made; parent = a.parent ∙ sym (parent_same r there); state = a.state; fields = a.fields }

  part_less : (r w : Row) (done : List ℕ) → row_at o.rows r.id ≡ Some r → IsPartOf i names r done w → IsPartOf i names' r done w
  part_less r w done there p = record {
    spot = p.spot;
    led = p.led;
    id = own_same r there ∙ p.id;
    made = p.made;
    parent = p.parent ∙ sym (parent_same r there);
    state = p.state;
    fields = p.fields;
  }

  whole_less : (r : Row) → row_at o.rows r.id ≡ Some r → HasAlike names held r → HasAlike names' held r
  whole_less r there has = record { row = has.row; there = ap (row_at held.rows) (own_same r there) ∙ has.there; alike = alike_less r has.row there has.alike }

  held_less : (r w : Row) → row_at o.rows r.id ≡ Some r → IsHeldFor i names r w → IsHeldFor i names' r w
  held_less r w there (whole a) = whole (alike_less r w there a)
  held_less r w there (partly done rest walk p) = partly done rest walk (part_less r w done there p)

  parent_less : (r : Row) → ParentIsWhole names o held r → ParentIsWhole names' o held r
  parent_less r (inl root) = inl root
  parent_less r (inr has) =
      let its : has.row.id ≡ r.parent = id_of_row o.rows r.parent has.row has.of in
      inr (record { row = has.row; of = has.of; whole = whole_less has.row (ap (row_at o.rows) its ∙ has.of) has.whole })

  each_less : (ws : List Row) → EachHeld i names o held ws → EachHeld i names' o held ws
  each_less [] each = tt
  each_less (w ∷ ws) each =
      (record { row = each.0.row; live = each.0.live; held_for = held_less each.0.row w each.0.live each.0.held_for; parent = parent_less each.0.row each.0.parent }, each_less ws each.1)

  names_less : AreNames names → AreNames names'
  names_less are = record { none = zero_same ∙ none; apart = λ a b is. at a b is (less a) (less b) }
    where
      at : (a b : ℕ) → named names' a ≡ named names' b → (named names' a ≡ named names a) ⊎ (named names' a ≡ 0) → (named names' b ≡ named names b) ⊎ (named names' b ≡ 0) → (named names' a ≡ 0) ⊎ (a ≡ b)
      at a b is (inr gone) y = inl gone
      at a b is (inl x) (inr gone) = inl (is ∙ gone)
      at a b is (inl x) (inl y) = elim (are.apart a b (sym x ∙ is ∙ y)) [ inl zero_it ↦ inl (x ∙ zero_it) | inr one ↦ inr one ]

  at_less : (r : Row) (done : List ℕ) → row_at o.rows r.id ≡ Some r → IsAt i names held r done → IsAt i names' held r done
  at_less r [] there at = own_same r there ∙ at
  at_less r (f ∷ done) there at = (at.0, ap (row_at held.rows) (own_same r there) ∙ at.1, part_less r at.0 (f ∷ done) there at.2)

  far_less : (r : Row) (t : Told) → row_at o.rows r.id ≡ Some r → IsSoFar i walks names held r t → IsSoFar i walks names' held r t
  far_less r fresh there far = own_same r there ∙ far
  far_less r (begun n) there far = record { walk = far.walk; its = far.its; first = far.first; left = far.left; at = at_less r (take n far.walk) there far.at }
  far_less r complete there far = whole_less r there far

  -- what is told of ids that have ended may change too
  pub under_dropped : (told told' : ℕ → Told) (present : List ℕ → Bool) → ((id : ℕ) → is_live o.rows id ≡ true → told' id ≡ told id) → IsInRecovery i walks names told present o held → IsInRecovery i walks names' told' present o held
  under_dropped told told' present same_told u = record {
    holds = record {
      names_are = names_less u.holds.names_are;
      held_sound = u.holds.held_sound;
      given = λ id. elim (less id) [ inl is ↦ subst (λ n. n ≤ held.given) (sym is) (u.holds.given id) | inr is ↦ subst (λ n. n ≤ held.given) (sym is) (omega arith) ];
      each = each_less held.rows u.holds.each;
    };
    rows = λ r there. subst (IsSoFar i walks names' held r) (sym (same_told r.id (live_of_row o.rows r.id r there))) (far_less r (told r.id) there (u.rows r there));
    files = u.files;
  }

-- Only look-ups count: names with the same look-ups, and what is told of each id and each path, stand for one another.
use Rattle.std.proofs.Common.{◌≡◌, ℕ, ◌≤◌, Bool, List, [], ◌∷◌, take, sym, ◌∙◌, ap, subst, inl, inr}
use Rattle.sg_facts.specs.declared.row.Row.{Row}
use Rattle.sg_facts.specs.declared.tables.WalkLine.{WalkLine}
use Rattle.sg_facts.specs.Alike.{AreNames, HasAlike, IsAlike, named}
use Rattle.sg_facts.specs.Held.{whole, partly, EachHeld, HoldsPart, IsAt, IsHeldFor, IsPartOf, ParentIsWhole}
use Rattle.sg_facts.specs.Interface.{Declared}
use Rattle.sg_facts.specs.Object.{Object}
use Rattle.sg_facts.specs.Track.{row_at}
use Rattle.sg_recovery_laws.specs.Midway.Progress.{HasFile, IsSoFar, IsInRecovery, Told, fresh, begun, complete}

module _ (i : Declared) (walks : List WalkLine) (names names' : List (ℕ × ℕ)) (same : (id : ℕ) → named names' id ≡ named names id) (o held : Object) where
  alike_named : (r w : Row) → IsAlike names r w → IsAlike names' r w
  alike_named r w a = record { id = same r.id ∙ a.id; made = a.made; parent = a.parent ∙ sym (same r.parent); state = a.state; fields = a.fields }

  part_named : (r w : Row) (done : List ℕ) → IsPartOf i names r done w → IsPartOf i names' r done w
  part_named r w done p = record {
    spot = p.spot;
    led = p.led;
    id = same r.id ∙ p.id;
    made = p.made;
    parent = p.parent ∙ sym (same r.parent);
    state = p.state;
    fields = p.fields;
  }

  whole_named : (r : Row) → HasAlike names held r → HasAlike names' held r
  whole_named r has = record { row = has.row; there = ap (row_at held.rows) (same r.id) ∙ has.there; alike = alike_named r has.row has.alike }

  held_named : (r w : Row) → IsHeldFor i names r w → IsHeldFor i names' r w
  held_named r w (whole a) = whole (alike_named r w a)
  held_named r w (partly done rest walk p) = partly done rest walk (part_named r w done p)

  parent_named_too : (r : Row) → ParentIsWhole names o held r → ParentIsWhole names' o held r
  parent_named_too r (inl none) = inl none
  parent_named_too r (inr has) = inr (record { row = has.row; of = has.of; whole = whole_named has.row has.whole })

  each_named : (ws : List Row) → EachHeld i names o held ws → EachHeld i names' o held ws
  each_named [] each = tt
  each_named (w ∷ ws) each =
      (record { row = each.0.row; live = each.0.live; held_for = held_named each.0.row w each.0.held_for; parent = parent_named_too each.0.row each.0.parent }, each_named ws each.1)

  names_named : AreNames names → AreNames names'
  names_named are = record { none = same 0 ∙ are.none; apart = λ a b is. elim (are.apart a b (sym (same a) ∙ is ∙ same b)) [ inl none ↦ inl (same a ∙ none) | inr one ↦ inr one ] }

  pub holds_named : HoldsPart i names o held → HoldsPart i names' o held
  holds_named h = record {
    names_are = names_named h.names_are;
    held_sound = h.held_sound;
    given = λ id. subst (λ n. n ≤ held.given) (sym (same id)) (h.given id);
    each = each_named held.rows h.each;
  }

  at_named : (r : Row) (done : List ℕ) → IsAt i names held r done → IsAt i names' held r done
  at_named r [] at = same r.id ∙ at
  at_named r (f ∷ done) at = (at.0, ap (row_at held.rows) (same r.id) ∙ at.1, part_named r at.0 (f ∷ done) at.2)

  so_far_named : (r : Row) (t : Told) → IsSoFar i walks names held r t → IsSoFar i walks names' held r t
  so_far_named r fresh far = same r.id ∙ far
  so_far_named r (begun n) far = record { walk = far.walk; its = far.its; first = far.first; left = far.left; at = at_named r (take n far.walk) far.at }
  so_far_named r complete far = whole_named r far

  pub under_named : (told told' : ℕ → Told) (present present' : List ℕ → Bool) → ((id : ℕ) → told' id ≡ told id) → ((path : List ℕ) → present' path ≡ present path)
      → IsInRecovery i walks names told present o held → IsInRecovery i walks names' told' present' o held
  under_named told told' present present' same_told same_present u = record {
    holds = holds_named u.holds;
    rows = λ r there. subst (IsSoFar i walks names' held r) (sym (same_told r.id)) (so_far_named r (told r.id) (u.rows r there));
    files = λ path. subst (λ b. HasFile b path o held) (sym (same_present path)) (u.files path);
  }

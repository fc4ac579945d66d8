-- A replayed call brings its row one step on, and leaves the others as far as they are.
use Rattle.std.proofs.Common.{◌≡◌, ℕ, zero, suc, ◌<◌, ◌≤◌, Bool, true, false, cond, not, List, [], ◌∷◌, ◌++◌, None, Some, length, map, refl, sym, ◌∙◌, ap, subst, inl, inr, append_assoc, append-nil, arith}
use Rattle.std.specs.Prelude.{◌-◌, ◌==◌, ◌||◌, ◌&&◌, ◌≢◌, nat_le}
use Rattle.std.specs.Int.{bit_at}
use Rattle.std.specs.List.{list_any}
use Rattle.std.specs.declared.option.Option.{Option}
use Rattle.std.proofs.lemmas.Bool.Decides.{eqb_tells, nat_tests}
use Rattle.sg_facts.specs.sg_base.declared.value.Value.{Value}
use Rattle.sg_facts.specs.sg_base.declared.value.Value.TheVariants.{Word, Text}
use Rattle.sg_facts.specs.declared.row.Row.{Row}
use Rattle.sg_facts.specs.Alike.{HasAlike, IsAlike}
use Rattle.sg_facts.specs.Allowed.{implies, is_replayed}
use Rattle.sg_facts.specs.Facts.{Facts, fun_at, writes}
use Rattle.sg_facts.specs.Fields.{is_set}
use Rattle.sg_facts.specs.Fits.{Fits}
use Rattle.sg_facts.specs.Held.{FieldHolds, FieldsHold, IsAt, IsPartOf, set_of}
use Rattle.sg_facts.specs.Interface.{Declared, declares, has_pair, steps_on}
use Rattle.sg_facts.specs.Object.{Object}
use Rattle.sg_facts.specs.Walks.{FieldMark, IsWalkOf, Spot, first_spot, good, next_spot, restores_fields, spot_from, spot_of, unknown, unset}
use Rattle.sg_facts.specs.Inside.Walking.{may_begin, may_go_on, restores_at, restores_field}
use Rattle.sg_recovery_laws.proofs.Objects.Guarded.{writes_none, both_true}
use Rattle.sg_recovery_laws.proofs.Objects.Reachable.{none_not_more}

-- ---- a walk that is done

field_whole : (m : FieldMark) (v w : Value) → FieldHolds m v w → restores_field m (is_set v) ≡ true → w ≡ v
field_whole good v w holds is = holds
field_whole unknown v w holds is = absurd (cc is)
field_whole unset (Word zero) w holds is = holds
field_whole unset (Word (suc n)) w holds is = absurd (cc (sym (ap (λ b. not (not b)) (none_not_more n)) ∙ is))
field_whole unset (Text []) w holds is = holds
field_whole unset (Text (b ∷ bs)) w holds is = absurd (cc (sym (ap (λ b. not (not b)) (none_not_more (length bs))) ∙ is))

fields_whole : (marks : List FieldMark) (vs ws : List Value) → FieldsHold marks vs ws → restores_fields marks (map is_set vs) ≡ true → ws ≡ vs
fields_whole [] [] [] hold is = refl
fields_whole [] [] (w ∷ ws) hold is = absurd hold
fields_whole [] (v ∷ vs) [] hold is = absurd hold
fields_whole [] (v ∷ vs) (w ∷ ws) hold is = absurd hold
fields_whole (m ∷ marks) [] [] hold is = absurd hold
fields_whole (m ∷ marks) [] (w ∷ ws) hold is = absurd hold
fields_whole (m ∷ marks) (v ∷ vs) [] hold is = absurd hold
fields_whole (m ∷ marks) (v ∷ vs) (w ∷ ws) hold is =
    let parts = both_true (restores_field m (is_set v)) (restores_fields marks (map is_set vs)) is in
    ap (λ x. x ∷ ws) (field_whole m v w hold.0 parts.0) ∙ ap (λ l. v ∷ l) (fields_whole marks vs ws hold.1 parts.1)

-- where the whole walk was replayed, the row is whole
pub walk_done : (i : Declared) (names : List (ℕ × ℕ)) (r w : Row) (walk : List ℕ) → IsWalkOf i walk r.made r.state (set_of r) → IsPartOf i names r walk w → IsAlike names r w
walk_done i names r w walk its part =
    let at : restores_at (Some part.spot) r.state (set_of r) ≡ true = ap (λ s. restores_at s r.state (set_of r)) (sym part.led) ∙ its.restored in
    let parts = both_true (part.spot.state == r.state) (restores_fields part.spot.marks (set_of r)) at in
    record {
      id = part.id;
      made = part.made;
      parent = part.parent;
      state = part.state ∙ (let is = parts.0 in let one : part.spot.state ≡ r.state = grind (arith, nat_tests, is) in one);
      fields = fields_whole part.spot.marks r.fields w.fields part.fields parts.1;
    }

pub at_end : (i : Declared) (names : List (ℕ × ℕ)) (held : Object) (r : Row) (walk : List ℕ) → IsWalkOf i walk r.made r.state (set_of r) → 0 < length walk → IsAt i names held r walk → HasAlike names held r
at_end i names held r [] its some at = absurd (omega (arith, some))
at_end i names held r (f ∷ walk) its some at = record { row = at.0; there = at.1; alike = walk_done i names r at.0 (f ∷ walk) its at.2 }

-- ---- the next function of a walk

-- the next function of a walk may be replayed: it makes the row, or is a step that neither ends it nor asks
pub record MayReplay (i : Declared) (done : List ℕ) (fun : ℕ) : Type 0 where
  pub declared : declares i fun ≡ true
  pub no_end : (fun_at i.facts.funs fun).terminal ≡ false
  pub no_query : (fun_at i.facts.funs fun).query ≡ false
  pub first : done ≡ [] → (fun_at i.facts.funs fun).creation ≡ true
  pub later : (done ≢ []) → (state : ℕ) × (steps_on i state fun ≡ true)

some_spot : (b : Bool) (x : Option Spot) (s : Spot) → cond b x None ≡ Some s → (b ≡ true) × (x ≡ Some s)
some_spot true x s is = (refl, is)
some_spot false x s is = absurd (cc is)

no_it : (b : Bool) → not b ≡ true → b ≡ false
no_it true is = absurd (cc is)
no_it false is = refl

step_replayed : (i : Declared) (s : Spot) (done : List ℕ) (f : ℕ) → may_go_on i s f ≡ true → done ≢ [] → MayReplay i done f
step_replayed i s done f may some =
    let three = both_true (declares i f && steps_on i s.state f && not (fun_at i.facts.funs f).terminal) (not (fun_at i.facts.funs f).query) may in
    let two = both_true (declares i f && steps_on i s.state f) (not (fun_at i.facts.funs f).terminal) three.0 in
    let one = both_true (declares i f) (steps_on i s.state f) two.0 in
    record {
      declared = one.0;
      no_end = no_it (fun_at i.facts.funs f).terminal two.1;
      no_query = no_it (fun_at i.facts.funs f).query three.1;
      first = λ none. absurd (some none);
      later = λ x. (s.state, one.1);
    }

from_spot : (i : Declared) (s last : Spot) (before done rest : List ℕ) (f : ℕ) → before ≢ [] → spot_from i s (done ++ f ∷ rest) ≡ Some last → MayReplay i (before ++ done) f
from_spot i s last before [] rest f some led =
    let parts = some_spot (may_go_on i s f) (spot_from i (next_spot i.facts f s) rest) last led in
    subst (λ l. MayReplay i l f) (sym (append-nil before)) (step_replayed i s before f parts.0 some)
from_spot i s last before (d ∷ done) rest f some led =
    let parts = some_spot (may_go_on i s d) (spot_from i (next_spot i.facts d s) (done ++ f ∷ rest)) last led in
    subst (λ l. MayReplay i l f) (append_assoc before (d ∷ []) done)
    (from_spot i (next_spot i.facts d s) last (before ++ d ∷ []) done rest f (none before) parts.1)
  where
    none : (xs : List ℕ) → xs ++ d ∷ [] ≢ []
    none [] is = absurd (cc is)
    none (x ∷ xs) is = absurd (cc is)

some_restored : (x : Option Spot) (state : ℕ) (set : List Bool) → restores_at x state set ≡ true → (s : Spot) × (x ≡ Some s)
some_restored None state set is = absurd (cc is)
some_restored (Some s) state set is = (s, refl)

pub may_replay : (i : Declared) (done rest : List ℕ) (f : ℕ) (by state : ℕ) (set : List Bool) → IsWalkOf i (done ++ f ∷ rest) by state set → MayReplay i done f
may_replay i [] rest f by state set its =
    let s = some_restored (spot_of i (f ∷ rest)) state set its.restored in
    let parts = some_spot (may_begin i f) (spot_from i (first_spot i.facts f) rest) s.0 s.1 in
    let three = both_true (declares i f && (fun_at i.facts.funs f).creation && not (fun_at i.facts.funs f).terminal) (not (fun_at i.facts.funs f).query) parts.0 in
    let two = both_true (declares i f && (fun_at i.facts.funs f).creation) (not (fun_at i.facts.funs f).terminal) three.0 in
    let one = both_true (declares i f) (fun_at i.facts.funs f).creation two.0 in
    record {
      declared = one.0;
      no_end = no_it (fun_at i.facts.funs f).terminal two.1;
      no_query = no_it (fun_at i.facts.funs f).query three.1;
      first = λ none. one.1;
      later = λ some. absurd (some refl);
    }
may_replay i (d ∷ done) rest f by state set its =
    let s = some_restored (spot_of i (d ∷ (done ++ f ∷ rest))) state set its.restored in
    let parts = some_spot (may_begin i d) (spot_from i (first_spot i.facts d) (done ++ f ∷ rest)) s.0 s.1 in
    from_spot i (first_spot i.facts d) s.0 (d ∷ []) done rest f (λ is. absurd (cc is)) parts.1

-- no replayed call writes
pub writes_no : (facts : Facts) (n most : ℕ) → writes_none facts most ≡ true → 1 ≤ n → n ≤ most → is_replayed facts n ≡ true → writes (fun_at facts.funs n) ≡ false
writes_no facts n zero all low high is = absurd (omega (arith, low, high))
writes_no facts n (suc most) all low high is =
    let parts = both_true (implies (is_replayed facts (suc most)) (not (writes (fun_at facts.funs (suc most))))) (writes_none facts most) all in
    elim (eqb_tells n (suc most)) [
      | inl same ↦ subst (λ m. is_replayed facts m ≡ true → writes (fun_at facts.funs m) ≡ false) (sym same.1)
          (λ it. no_it (writes (fun_at facts.funs (suc most))) (sym (ap (λ b. implies b (not (writes (fun_at facts.funs (suc most))))) it) ∙ parts.0)) is
      | inr apart ↦ writes_no facts n most parts.1 low (omega (arith, high, apart.1)) is
    ]

pub replayed_is : (i : Declared) (done : List ℕ) (f : ℕ) → Fits i → MayReplay i done f → is_replayed i.facts f ≡ true
replayed_is i [] f fits may = ap (λ b. b || list_any (λ s. s.1 == f) i.facts.steps) (may.first refl)
replayed_is i (d ∷ done) f fits may =
    let step = may.later (λ is. absurd (cc is)) in
    let pair = fits.steps step.0 f step.1 in
    or_right (fun_at i.facts.funs f).creation (list_any (λ s. s.1 == f) i.facts.steps) (any_pair i.facts.steps step.0 pair)
  where
    or_right : (a b : Bool) → b ≡ true → (a || b) ≡ true
    or_right true b is = refl
    or_right false b is = is

    any_pair : (pairs : List (ℕ × ℕ)) (state : ℕ) → has_pair pairs state f ≡ true → list_any (λ s. s.1 == f) pairs ≡ true
    any_pair [] state has = absurd (cc has)
    any_pair (p ∷ pairs) state has = at (p.0 == state) (p.1 == f) has (any_pair pairs state)
      where
        at : (a b : Bool) → ((a && b) || has_pair pairs state f) ≡ true → (has_pair pairs state f ≡ true → list_any (λ s. s.1 == f) pairs ≡ true) → (b || list_any (λ s. s.1 == f) pairs) ≡ true
        at true true has rest = refl
        at true false has rest = rest has
        at false true has rest = refl
        at false false has rest = rest has

pub declared_within : (i : Declared) (fun : ℕ) → Fits i → declares i fun ≡ true → (1 ≤ fun) × (fun ≤ length i.facts.funs)
declared_within i fun fits is =
    let low = (both_true (nat_le 1 fun) (bit_at i.declared (fun - 1) == 1) is).0 in
    (grind (arith, nat_tests, low), fits.funs fun is)

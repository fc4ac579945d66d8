-- A row is no parent while steps of its walk are left.
use Rattle.std.proofs.Common.{◌≡◌, ℕ, zero, suc, ◌+◌, ◌<◌, Bool, true, false, cond, not, List, [], ◌∷◌, ◌++◌, Some, refl, sym, ◌∙◌, ap, subst, inl, inr, ◌⊎◌, length, length-append, map, arith}
use Rattle.std.specs.Prelude.{◌==◌, ◌||◌, ◌&&◌, nat_lt, slice_get, slice_set, unwrap_or}
use Rattle.std.specs.List.{list_all}
use Rattle.std.proofs.lemmas.Bool.Decides.{nat_tests}
use Rattle.sg_base.specs.Lists.{Each}
use Rattle.sg_base.specs.declared.value.Value.{Value}
use Rattle.sg_base.specs.declared.value.Value.TheVariants.{Word, Text}
use Rattle.sg_facts.specs.Alike.{HasAlike, named}
use Rattle.sg_facts.specs.Fields.{is_set}
use Rattle.sg_facts.specs.Held.{FieldHolds, FieldsHold, IsPartOf, set_of}
use Rattle.sg_facts.specs.declared.row.Row.{Row}
use Rattle.sg_facts.specs.declared.shape.Effect.{Effect}
use Rattle.sg_facts.specs.declared.shape.Effect.TheVariants.{SetCaller, SetArg, AddArg, SetRet, AddRet, Clear, SubOne, SubRet}
use Rattle.sg_facts.specs.Allowed.{has_no_parents, is_allowed, is_replayed, leaves_known}
use Rattle.sg_facts.specs.Facts.{Facts, Field, Fun, fun_at, takes_parent}
use Rattle.sg_facts.specs.Interface.{Declared, declares}
use Rattle.sg_facts.specs.Kinds.{may_be_root}
use Rattle.sg_facts.specs.Object.{Object}
use Rattle.sg_facts.specs.Sound.{IsRow, IsSound}
use Rattle.sg_facts.specs.Track.{row_at}
use Rattle.sg_facts.specs.Walks.{IsWalkOf, FieldMark, good, no_later, mark_after, marks_after, unknown, unset, restores_fields, spot_of}
use Rattle.sg_facts.specs.Inside.Walking.{restores_field, restores_at}
use Rattle.sg_facts.specs.Fits.{Fits}
use Rattle.sg_facts.proofs.Replaying.Found.{above, met, same_test}
use Rattle.sg_facts.proofs.Replaying.Steps.{begins, both_true, declared_within, first_replayed, goes_on_with, replayed_fun, spots_meet, step_replayed}

-- where no function takes a parent, no row has one
none_takes : (funs : List Fun) (n : ℕ) → list_all (λ f. not (takes_parent f)) funs ≡ true → takes_parent (fun_at funs n) ≡ false
none_takes funs zero all = refl
none_takes [] (suc n) all = refl
none_takes (f ∷ funs) (suc zero) all = no_it (takes_parent f) (both_true (not (takes_parent f)) (list_all (λ g. not (takes_parent g)) funs) all).0
  where
    no_it : (b : Bool) → not b ≡ true → b ≡ false
    no_it true is = absurd (cc is)
    no_it false is = refl
none_takes (f ∷ funs) (suc (suc n)) all = none_takes funs (suc n) (both_true (not (takes_parent f)) (list_all (λ g. not (takes_parent g)) funs) all).1

no_parents : (facts : Facts) (o : Object) (r c : Row) → list_all (λ f. not (takes_parent f)) facts.funs ≡ true → IsSound facts o
    → row_at o.rows r.id ≡ Some r → row_at o.rows c.id ≡ Some c → c.parent ≡ r.id → ⊥
no_parents facts o r c none all there there_c parent =
    let its : IsRow facts o.rows c = met (IsRow facts o.rows) 0 o.given c.id o.rows c all.rows there_c in
    let low : 0 < r.id = above (IsRow facts o.rows) 0 o.given r.id o.rows r all.rows there in
    let has : (c.parent == 0) ≡ true = sym (ap (λ b. cond b (may_be_root facts.parents || not (c.parent == 0)) (c.parent == 0)) (none_takes facts.funs c.made none)) ∙ its.its_parent in
    let zero_is : c.parent ≡ 0 = grind (arith, nat_tests, has) in
    absurd (omega (arith, low, zero_is, parent))

-- ---- a row that is as it will be in the end, while steps are left

abbrev pub IsKnown : FieldMark → Type 0
IsKnown unset = Unit {0}
IsKnown good = Unit {0}
IsKnown unknown = ⊥

restores_same : (m : FieldMark) (v : Value) → IsKnown m → FieldHolds m v v → restores_field m (is_set v) ≡ true
restores_same good v known holds = refl
restores_same unknown v known holds = absurd known
restores_same unset (Word zero) known holds = refl
restores_same unset (Word (suc n)) known holds = absurd (cc holds)
restores_same unset (Text []) known holds = refl
restores_same unset (Text (b ∷ bs)) known holds = absurd (cc holds)

restore_same : (marks : List FieldMark) (vs : List Value) → Each IsKnown marks → FieldsHold marks vs vs → restores_fields marks (map is_set vs) ≡ true
restore_same [] [] known hold = refl
restore_same [] (v ∷ vs) known hold = absurd hold
restore_same (m ∷ marks) [] known hold = absurd hold
restore_same (m ∷ marks) (v ∷ vs) known hold = ap (λ b. b && restores_fields marks (map is_set vs)) (restores_same m v known.0 hold.0) ∙ restore_same marks vs known.1 hold.1

-- where each field is known, there is none: the steps so far would do
pub never_alike : (i : Declared) (names : List (ℕ × ℕ)) (held : Object) (r w : Row) (first : ℕ) (done rest : List ℕ) (fun : ℕ) → row_at held.rows (named names r.id) ≡ Some w
    → IsWalkOf i ((first ∷ done) ++ fun ∷ rest) r.made r.state (set_of r) → (part : IsPartOf i names r (first ∷ done) w) → HasAlike names held r → Each IsKnown part.spot.marks → ⊥
never_alike i names held r w first done rest fun found walk part has known =
    let both : Some w ≡ Some has.row = sym found ∙ has.there in
    let one : w ≡ has.row = cc both in
    let fields : w.fields ≡ r.fields = ap (λ x. x.fields) one ∙ has.alike.fields in
    let state : part.spot.state ≡ r.state = sym part.state ∙ ap (λ x. x.state) one ∙ has.alike.state in
    let marks : restores_fields part.spot.marks (set_of r) ≡ true = restore_same part.spot.marks r.fields known (subst (FieldsHold part.spot.marks r.fields) fields part.fields) in
    let restored : restores_at (spot_of i (first ∷ done)) r.state (set_of r) ≡ true
    = ap (λ s. restores_at s r.state (set_of r)) part.led ∙ ap (λ b. b && restores_fields part.spot.marks (set_of r)) (same_test part.spot.state r.state state) ∙ marks in
    longer (length ((first ∷ done) ++ fun ∷ rest)) (length (first ∷ done)) (no_later ((first ∷ done) ++ fun ∷ rest) (first ∷ done))
    (let n : length ((first ∷ done) ++ fun ∷ rest) ≡ length (first ∷ done) + suc (length rest) = length-append (first ∷ done) (fun ∷ rest) in omega (arith, n))
    (walk.least (first ∷ done) walk.begins restored)
  where
    longer : (m n : ℕ) (b : Bool) → n < m → (nat_lt m n || ((m == n) && b)) ≡ true → ⊥
    longer m n b more is =
        let less : nat_lt m n ≡ false = grind (arith, nat_tests, more) in
        let same : (m == n) ≡ false = grind (arith, nat_tests, more) in
        let none : (nat_lt m n || ((m == n) && b)) ≡ false = ap (λ x. x || ((m == n) && b)) less ∙ ap (λ x. x && b) same in
        absurd (cc (is, none))

-- ---- known fields stay known

mark_known : (e : Effect) (m : FieldMark) → leaves_known e ≡ true → IsKnown m → IsKnown (mark_after e m)
mark_known SetCaller m known is = tt
mark_known (SetArg k) m known is = tt
mark_known (AddArg k) m known is = absurd (cc known)
mark_known SetRet m known is = absurd (cc known)
mark_known AddRet m known is = absurd (cc known)
mark_known Clear m known is = tt
mark_known SubOne m known is = absurd (cc known)
mark_known SubRet m known is = absurd (cc known)

known_at : (marks : List FieldMark) (x : ℕ) → Each IsKnown marks → IsKnown (unwrap_or (slice_get marks x) unset)
known_at [] x each = tt
known_at (m ∷ marks) zero each = each.0
known_at (m ∷ marks) (suc x) each = known_at marks x each.1

known_set : (marks : List FieldMark) (x : ℕ) (m : FieldMark) → Each IsKnown marks → IsKnown m → Each IsKnown (slice_set marks x m)
known_set [] x m each is = tt
known_set (n ∷ marks) zero m each is = (is, each.1)
known_set (n ∷ marks) (suc x) m each is = (each.0, known_set marks x m each.1 is)

marks_known : (es : List (ℕ × Effect)) (marks : List FieldMark) → list_all (λ e. leaves_known e.1) es ≡ true → Each IsKnown marks → Each IsKnown (marks_after es marks)
marks_known [] marks all each = each
marks_known (e ∷ es) marks all each =
    let parts = both_true (leaves_known e.1) (list_all (λ x. leaves_known x.1) es) all in
    let old = unwrap_or (slice_get marks e.0) unset in
    marks_known es (slice_set marks e.0 (mark_after e.1 old)) parts.1 (known_set marks e.0 (mark_after e.1 old) each (mark_known e.1 old parts.0 (known_at marks e.0 each)))

none_known : (fs : List Field) → Each IsKnown (map (λ f. unset) fs)
none_known [] = tt
none_known (f ∷ fs) = (tt, none_known fs)

either_true : (a b : Bool) → (a || b) ≡ true → (a ≡ true) ⊎ (b ≡ true)
either_true true b is = inl refl
either_true false b is = inr is

-- while steps of a row are left, it is no parent, even where it happens to be as it will be in the end
pub apart : (i : Declared) (names : List (ℕ × ℕ)) (o held : Object) (r w c : Row) (first : ℕ) (done rest : List ℕ) (fun : ℕ) → is_allowed i.facts ≡ true → Fits i → IsSound i.facts o
    → row_at o.rows r.id ≡ Some r → row_at held.rows (named names r.id) ≡ Some w → IsWalkOf i ((first ∷ done) ++ fun ∷ rest) r.made r.state (set_of r)
    → IsPartOf i names r (first ∷ done) w → HasAlike names held r → row_at o.rows c.id ≡ Some c → c.parent ≡ r.id → ⊥
apart i names o held r w c first done rest fun allowed fits sound there found walk part alike there_c parent = at (has_no_parents i.facts) refl
  where
    knows : (f : ℕ) → has_no_parents i.facts ≡ false → declares i f ≡ true → is_replayed i.facts f ≡ true → list_all (λ e. leaves_known e.1) (fun_at i.facts.funs f).effects ≡ true
    knows f some declared is =
        let within = declared_within i f fits declared in
        let its = replayed_fun i.facts f allowed within.0 within.1 is in
        sym (ap (λ b. b || list_all (λ e. leaves_known e.1) (fun_at i.facts.funs f).effects) some) ∙ its.knows

    known : has_no_parents i.facts ≡ false → Each IsKnown part.spot.marks
    known some = spots_meet i (λ s. Each IsKnown s.marks)
        (λ f may. let b = begins i f may in marks_known (fun_at i.facts.funs f).effects (map (λ x. unset) i.facts.fields) (knows f some b.declared (first_replayed i.facts f b.makes)) (none_known i.facts.fields))
        (λ s f is may. let g = goes_on_with i s f may in marks_known (fun_at i.facts.funs f).effects s.marks (knows f some g.declared (step_replayed i.facts s.state f (fits.steps s.state f g.steps))) is)
        (first ∷ done) part.spot part.led

    at : (b : Bool) → has_no_parents i.facts ≡ b → ⊥
    at true none = no_parents i.facts o r c none sound there there_c parent
    at false some = never_alike i names held r w first done rest fun found walk part alike (known some)

-- What the laws of services of single rows have in common.
use Rattle.std.proofs.Common.{◌≡◌, ℕ, suc, zero, ◌+◌, ◌≤◌, ◌<◌, Bool, true, false, cond, not, List, [], ◌∷◌, ◌++◌, None, Some, Bor, map, filter, max, refl, sym, ◌∙◌, ap, subst, inl, inr, arith}
use Rattle.std.specs.Prelude.{◌==◌, ◌&&◌, ◌||◌, nat_le, nat_lt, if◌then◌else◌, length, slice_get, unwrap_or}
use Rattle.std.specs.List.{list_any}
use Rattle.std.specs.declared.option.Option.{Option}
use Rattle.std.specs.Option.{is_some, option_copied}
use Rattle.std.proofs.lemmas.Bool.{cases_Bool}
use Rattle.std.proofs.lemmas.Bool.Decides.{nat_tests}
use Rattle.sg_facts.specs.sg_base.declared.value.Value.{Value}
use Rattle.sg_facts.specs.sg_base.declared.call.Call.{Call}
use Rattle.sg_facts.specs.sg_base.declared.reply.Code.TheVariants.{NoDesc, NoParent, BadState, HasChildren, Full}
use Rattle.sg_facts.specs.sg_base.declared.reply.Good.{Good}
use Rattle.sg_facts.specs.sg_base.declared.reply.Reply.{Reply}
use Rattle.sg_facts.specs.sg_base.declared.reply.Reply.TheVariants.{Ok, Refused}
use Rattle.sg_facts.specs.declared.row.Row.{Row}
use Rattle.sg_facts.specs.declared.shape.Effect.{Effect}
use Rattle.sg_facts.specs.Facts.{Facts, Fun, fun_at, no_fun, takes_desc, takes_parent}
use Rattle.sg_facts.specs.Allowed.{wants_word}
use Rattle.sg_facts.specs.Interface.{has_pair}
use Rattle.sg_facts.specs.Limits.{most_live}
use Rattle.sg_facts.specs.Track.{row_at, is_live, ends_with, is_ancestor, word_of}
use Rattle.sg_facts.specs.Inside.Rows.{has_child, row_after}
use Rattle.sg_facts.specs.Object.{Object, after}
use Rattle.sg_facts.specs.Legal.{Table}
use Rattle.sg_facts.specs.Guard.{is_guards}
use Rattle.sg_facts.specs.Inside.Guards.{may_be_parent, may_use, in_state, refusal}
use Rattle.sg_facts.specs.Sound.{IsSound, IsRow, AreRows, AreFields}
use Rattle.sg_facts.specs.Alike.{named, Serves, SameReply}
use Rattle.sg_facts.specs.Counted.{raises_by_word, most_in, most_counted}
use Rattle.sg_facts.specs.Laws.{CountsSlowly, Passes, whole}
use Rattle.sg_slots.specs.Slots.{Body, rows_of}
use Rattle.sg_facts.proofs.RowLists.{more, both, changed, left, other, none_pass, is_live-more, is_live-changed, is_live-left, id_of_row}

-- ---- what the guard lets pass

-- of five causes in a row none applies
none_apply : (a b c d e : Bool) → cond a (Some NoParent) (cond b (Some Full) (cond c (Some NoDesc) (cond d (Some BadState) (cond e (Some HasChildren) None)))) ≡ None
    → (c ≡ false) × (e ≡ false)
none_apply true b c d e is = absurd (cc is)
none_apply false true c d e is = absurd (cc is)
none_apply false false true d e is = absurd (cc is)
none_apply false false false true e is = absurd (cc is)
none_apply false false false false true is = absurd (cc is)
none_apply false false false false false is = (refl, refl)

-- a row that may be used is there
usable : (facts : Facts) (found : Option Row) (client : ℕ) → not (may_use facts found client) ≡ false → (r : Row) × (found ≡ Some r)
usable facts None client is = absurd (at facts.global is)
  where
    at : (b : Bool) → not (cond b false false) ≡ false → ⊥
    at true is = cc is
    at false is = cc is
usable facts (Some r) client is = (r, refl)

module _ (facts : Facts) (o : Object) (call : Call) (passes : Passes facts o call) (asks : (fun_at facts.funs call.fun).query ≡ false) where
  -- no cause of the guard's applies
  unrefused : (takes_desc (fun_at facts.funs call.fun) && not (may_use facts (row_at o.rows call.desc) call.client) ≡ false)
      × ((fun_at facts.funs call.fun).terminal && not facts.subtree && has_child o.rows call.desc ≡ false)
  unrefused =
      let f = fun_at facts.funs call.fun in
      none_apply (takes_parent f && not (may_be_parent facts.parents (row_at o.rows call.desc) call.desc call.client)) (f.creation && nat_le most_live (length o.rows))
      (takes_desc f && not (may_use facts (row_at o.rows call.desc) call.client)) (takes_desc f && not (in_state (whole facts) (row_at o.rows call.desc) call.fun))
      (f.terminal && not facts.subtree && has_child o.rows call.desc) (ap (λ b. cond b None (refusal (whole facts) f o call)) (sym asks) ∙ passes.guarded)

  -- the row of the descriptor is there
  pub row_of_call : takes_desc (fun_at facts.funs call.fun) ≡ true → (r : Row) × (row_at o.rows call.desc ≡ Some r)
  row_of_call takes =
      usable facts (row_at o.rows call.desc) call.client (ap (λ b. b && not (may_use facts (row_at o.rows call.desc) call.client)) (sym takes) ∙ unrefused.0)

  -- what ends has no child, where ends reach no other row
  pub childless : (fun_at facts.funs call.fun).terminal ≡ true → facts.subtree ≡ false → has_child o.rows call.desc ≡ false
  childless ends alone =
      ap (λ b. true && not b && has_child o.rows call.desc) (sym alone) ∙ ap (λ b. b && not facts.subtree && has_child o.rows call.desc) (sym ends) ∙ unrefused.1

-- ---- rows under ascending ids

-- each is above the lower end
above : (P : Row → Type 0) (low end high : ℕ) (rows : List Row) → end ≤ low → AreRows P low high rows → AreRows (λ r. end < r.id) low high rows
above P low end high [] le are = tt
above P low end high (r ∷ rows) le are = (are.0, are.1, omega (arith, are.0), above P r.id end high rows (omega (arith, are.0)) are.3)

-- each is the one that is found by its id
found_by_id : (P : Row → Type 0) (id low high : ℕ) (rows : List Row) → AreRows P low high rows → AreRows (λ r. r.id ≡ id → row_at rows id ≡ Some r) low high rows
found_by_id P id low high [] are = tt
found_by_id P id low high (r ∷ rows) are = (
  are.0,
  are.1,
  head,
  other (λ x. (x.id ≡ id → row_at rows id ≡ Some x) × (r.id < x.id)) (λ x. x.id ≡ id → row_at (r ∷ rows) id ≡ Some x) turn r.id high rows
      (both (λ x. x.id ≡ id → row_at rows id ≡ Some x) (λ x. r.id < x.id) r.id high rows (found_by_id P id r.id high rows are.3) (above P r.id r.id high rows (omega arith) are.3)),
)
  where
    head : r.id ≡ id → row_at (r ∷ rows) id ≡ Some r
    head is =
        let here : (r.id == id) ≡ true = grind (arith, nat_tests) in
        ap (λ b. cond b (Some r) (row_at rows id)) here

    turn : (x : Row) → (x.id ≡ id → row_at rows id ≡ Some x) × (r.id < x.id) → x.id ≡ id → row_at (r ∷ rows) id ≡ Some x
    turn x are is =
        let apart : (r.id == id) ≡ false = grind (arith, nat_tests, are.1) in
        ap (λ b. cond b (Some r) (row_at rows id)) apart ∙ are.0 is

-- ---- the rows of entries

-- what is lent is there, where its copy is
pub copied_some : {E : Type 0} (found : Option (Bor E)) → is_some found ≡ true → is_some (option_copied found) ≡ true
copied_some None is = absurd (cc is)
copied_some (Some entry) is = refl

-- without parents no row has a child
pub no_child : {E : Type 0} (body : E → Body) → ((e : E) → (body e).parent ≡ 0) → (es : List (ℕ × E)) (parent : ℕ) → 0 < parent → has_child (rows_of body es) parent ≡ false
no_child body root [] parent some = refl
no_child body root (e ∷ es) parent some =
    let apart : ((body e.1).parent == parent) ≡ false = grind (arith, nat_tests, root e.1) in
    ap (λ b. b || has_child (rows_of body es) parent) apart ∙ no_child body root es parent some

-- ---- rows stay sound

-- a row whose parent stays live is still a row
parent_stays : (rows rows' : List Row) (r : Row) → (is_live rows r.parent ≡ true → is_live rows' r.parent ≡ true)
    → ((r.parent == 0) || (nat_lt r.parent r.id && is_live rows r.parent)) ≡ true → ((r.parent == 0) || (nat_lt r.parent r.id && is_live rows' r.parent)) ≡ true
parent_stays rows rows' r stays is = at (r.parent == 0) (nat_lt r.parent r.id) (is_live rows r.parent) refl is
  where
    at : (a b l : Bool) → is_live rows r.parent ≡ l → (a || (b && l)) ≡ true → (a || (b && is_live rows' r.parent)) ≡ true
    at true b l was is = refl
    at false true true was is = stays was
    at false true false was is = absurd (cc is)
    at false false l was is = absurd (cc is)

module _ (facts : Facts) where
  -- a row among other rows, with other fields and in another state
  still_row : (rows rows' : List Row) (r : Row) (state : ℕ) (fields : List Value) → (is_live rows r.parent ≡ true → is_live rows' r.parent ≡ true) → AreFields facts.fields fields
      → IsRow facts rows r → IsRow facts rows' (record r { state = state; fields = fields })
  still_row rows rows' r state fields stays fit are = record {
    creator_first = are.creator_first;
    creator_last = are.creator_last;
    parent = parent_stays rows rows' r stays are.parent;
    its_parent = are.its_parent;
    fields = fit;
  }

-- what a service's sound objects have in common: they are sound as every service's are, and each row meets a condition
module _ (facts : Facts) (P : Row → Type 0) where
  abbrev pub AreSound : Object → Type 0
  AreSound o = IsSound facts o × AreRows P 0 o.given o.rows

  -- after a row has come under the next id
  pub sound_more : (o : Object) (new : Row) → AreSound o → new.id ≡ o.given + 1 → IsRow facts (o.rows ++ new ∷ []) new → P new
      → AreSound (record { rows = o.rows ++ new ∷ []; files = o.files; given = o.given + 1 })
  sound_more o new sound id is_row meets =
      let still = other (IsRow facts o.rows) (IsRow facts (o.rows ++ new ∷ []))
      (λ r are. still_row facts o.rows (o.rows ++ new ∷ []) r r.state r.fields (is_live-more o.rows new r.parent) are.fields are) 0 o.given o.rows sound.0.rows in
      let rows = more (IsRow facts (o.rows ++ new ∷ [])) 0 o.given o.rows new still (omega (arith, id)) (omega (arith, id)) is_row in
      let met = more P 0 o.given o.rows new sound.1 (omega (arith, id)) (omega (arith, id)) meets in (
        record { rows = subst (λ n. AreRows (IsRow facts (o.rows ++ new ∷ [])) 0 n (o.rows ++ new ∷ [])) id rows; files = sound.0.files },
        subst (λ n. AreRows P 0 n (o.rows ++ new ∷ [])) id met,
      )

  module _ (o : Object) (call : Call) (good : Good) (sound : AreSound o) where
    -- the change of the one row of the call
    abbrev change : Row → Row
    change r = if r.id == call.desc then row_after facts call good r else r

    change_id : (r : Row) → (change r).id ≡ r.id
    change_id r = at (r.id == call.desc)
      where
        at : (b : Bool) → (cond b (row_after facts call good r) r).id ≡ r.id
        at true = refl
        at false = refl

    abbrev IsOld : Row → Type 0
    IsOld r = (IsRow facts o.rows r × P r) × (r.id ≡ call.desc → row_at o.rows call.desc ≡ Some r)

    are_old : AreRows IsOld 0 o.given o.rows
    are_old = both (λ r. IsRow facts o.rows r × P r) (λ r. r.id ≡ call.desc → row_at o.rows call.desc ≡ Some r) 0 o.given o.rows
        (both (IsRow facts o.rows) P 0 o.given o.rows sound.0.rows sound.1) (found_by_id P call.desc 0 o.given o.rows sound.1)

    -- after the row of a call has changed
    pub sound_changed : ((r : Row) → row_at o.rows call.desc ≡ Some r → IsRow facts o.rows r → P r → AreFields facts.fields (row_after facts call good r).fields × P (row_after facts call good r))
        → AreSound (record { rows = map change o.rows; files = o.files; given = o.given })
    sound_changed keeps = (
      record { rows = changed IsOld (IsRow facts (map change o.rows)) change change_id turn_row 0 o.given o.rows are_old; files = sound.0.files },
      changed IsOld P change change_id turn_met 0 o.given o.rows are_old,
    )
      where
        same : (r : Row) → (r.id == call.desc) ≡ true → r.id ≡ call.desc
        same r is = grind (arith, nat_tests)

        stays : (r : Row) → is_live o.rows r.parent ≡ true → is_live (map change o.rows) r.parent ≡ true
        stays r live = is_live-changed change change_id o.rows r.parent ∙ live

        turn_row : (r : Row) → IsOld r → IsRow facts (map change o.rows) (change r)
        turn_row r old = at (r.id == call.desc) (same r)
          where
            at : (b : Bool) → (b ≡ true → r.id ≡ call.desc) → IsRow facts (map change o.rows) (cond b (row_after facts call good r) r)
            at true here =
                still_row facts o.rows (map change o.rows) r (row_after facts call good r).state (row_after facts call good r).fields (stays r) (keeps r (old.1 (here refl)) old.0.0 old.0.1).0 old.0.0
            at false here = still_row facts o.rows (map change o.rows) r r.state r.fields (stays r) old.0.0.fields old.0.0

        turn_met : (r : Row) → IsOld r → P (change r)
        turn_met r old = at (r.id == call.desc) (same r)
          where
            at : (b : Bool) → (b ≡ true → r.id ≡ call.desc) → P (cond b (row_after facts call good r) r)
            at true here = (keeps r (old.1 (here refl)) old.0.0 old.0.1).1
            at false here = old.0.1

  -- after a row without children has gone
  pub sound_left : (o : Object) (id : ℕ) → AreSound o → facts.subtree ≡ false → has_child o.rows id ≡ false
      → AreSound (record { rows = filter (λ r. not (ends_with facts o.rows id r.id)) o.rows; files = o.files; given = o.given })
  sound_left o id sound alone childless =
      let test : ℕ → Bool = λ other_id. not (ends_with facts o.rows id other_id) in
      let rows' : List Row = filter (λ r. test r.id) o.rows in
      let passes : (n : ℕ) → (n == id) ≡ false → test n ≡ true = λ n apart. ap (λ b. not (b || (facts.subtree && is_ancestor o.rows id n))) apart ∙ ap (λ b. not (false || (b && is_ancestor o.rows id n))) alone in
      let rows = left (IsRow facts rows') (λ r. test r.id) 0 o.given o.rows
      (other (λ r. IsRow facts o.rows r × ((r.parent == id) ≡ false)) (IsRow facts rows')
      (λ r are. still_row facts o.rows rows' r r.state r.fields (λ live. is_live-left test o.rows r.parent (passes r.parent are.1) ∙ live) are.0.fields are.0) 0 o.given o.rows
      (none_pass (IsRow facts o.rows) (λ r. r.parent == id) 0 o.given o.rows childless sound.0.rows)) in
      (record { rows = rows; files = sound.0.files }, left P (λ r. test r.id) 0 o.given o.rows sound.1)

-- ---- answers under other ids

-- the row of a call's descriptor is needed
its_own : (a c : Bool) (m n : ℕ) → m ≡ n → (a || (m == n) || c) ≡ true
its_own a c m n same =
    let is : (m == n) ≡ true = grind (arith, nat_tests) in
    ap (λ b. a || b || c) is ∙ at a
  where
    at : (a : Bool) → (a || true || c) ≡ true
    at true = refl
    at false = refl

-- what serves a call has its row, with the same fields
pub alike_row : (facts : Facts) (names : List (ℕ × ℕ)) (o held : Object) (call : Call) (r : Row) → Serves facts names o held call → row_at o.rows call.desc ≡ Some r
    → (v : Row) × (row_at held.rows (named names call.desc) ≡ Some v) × (v.fields ≡ r.fields)
alike_row facts names o held call r serves found =
    let id = id_of_row o.rows call.desc r found in
    let needed = serves.needed r (ap (row_at o.rows) id ∙ found) (its_own _ _ r.id call.desc id) in
    (needed.row, ap (λ n. row_at held.rows (named names n)) (sym id) ∙ needed.there, needed.alike.fields)

-- an answer that is one of two
pub same_either : (names : List (ℕ × ℕ)) (b : Bool) (x y : Option Reply) → SameReply names false x x → SameReply names false y y → SameReply names false (cond b x y) (cond b x y)
same_either names true x y is_x is_y = is_x
same_either names false x y is_x is_y = is_y

-- an Ok without a descriptor
pub same_done : (names : List (ℕ × ℕ)) → named names 0 ≡ 0
    → SameReply names false (Some (Ok (record { desc = 0; words = []; bytes = [] }))) (Some (Ok (record { desc = 0; words = []; bytes = [] })))
same_done names none = (refl, refl, sym none)

-- ---- who is blocked stays blocked

-- two ids whose rows a test tells apart are two
pub two_rows : (test : Option Row → Bool) (rows : List Row) (m n : ℕ) → test (row_at rows m) ≡ false → test (row_at rows n) ≡ true → (m == n) ≡ false
two_rows test rows m n out is = elim (cases_Bool (m == n)) [
  | inl same ↦
      let one : m ≡ n = grind (arith, nat_tests) in
      let both : false ≡ true = sym out ∙ ap (λ k. test (row_at rows k)) one ∙ is in
      absurd (cc both)
  | inr apart ↦ apart
]

-- a wake-up leaves who is blocked on another descriptor
pub on_another : (m n : ℕ) → (not (m == n) && true) ≡ true → (n == m) ≡ false
on_another m n apart = at (m == n) refl apart
  where
    at : (b : Bool) → (m == n) ≡ b → (not b && true) ≡ true → (n == m) ≡ false
    at true is apart = absurd (cc apart)
    at false is apart = grind (arith, nat_tests)

-- ---- what the shape allows

-- whether an answer is no refusal of the guard's
abbrev pub NotGuards : Option Reply → Type 0
NotGuards None = Unit {0}
NotGuards (Some (Ok good)) = Unit {0}
NotGuards (Some (Refused code)) = is_guards code ≡ false

-- ---- no word counts

neither : (a b : Bool) → (a || b) ≡ false → (a ≡ false) × (b ≡ false)
neither true b none = absurd (cc none)
neither false b none = (refl, none)

-- among functions that take no returned word each number names one that takes none
wants_at : (funs : List Fun) → list_any wants_word funs ≡ false → (n : ℕ) → wants_word (unwrap_or (slice_get funs n) no_fun) ≡ false
wants_at [] none n = refl
wants_at (f ∷ funs) none zero = (neither (wants_word f) (list_any wants_word funs) none).0
wants_at (f ∷ funs) none (suc n) = wants_at funs (neither (wants_word f) (list_any wants_word funs) none).1 n

-- a service of which no function takes a returned word into a field
pub wants_none : (facts : Facts) → list_any wants_word facts.funs ≡ false → (fun : ℕ) → wants_word (fun_at facts.funs fun) ≡ false
wants_none facts none zero = refl
wants_none facts none (suc n) = wants_at facts.funs none n

-- whether a function sets a field to a returned word, or adds that
abbrev pub raises_some : Fun → Bool
raises_some f = list_any (λ e. raises_by_word e.1) f.effects

-- where no effect raises a field by the returned word, none raises this one
no_effect : (x : ℕ) (effects : List (ℕ × Effect)) → list_any (λ e. raises_by_word e.1) effects ≡ false → list_any (λ e. (e.0 == x) && raises_by_word e.1) effects ≡ false
no_effect x [] none = refl
no_effect x (e ∷ effects) none = at (e.0 == x) (raises_by_word e.1) (neither (raises_by_word e.1) (list_any (λ d. raises_by_word d.1) effects) none).0
    (no_effect x effects (neither (raises_by_word e.1) (list_any (λ d. raises_by_word d.1) effects) none).1)
  where
    at : (a b : Bool) → b ≡ false → list_any (λ d. (d.0 == x) && raises_by_word d.1) effects ≡ false → ((a && b) || list_any (λ d. (d.0 == x) && raises_by_word d.1) effects) ≡ false
    at true b out rest = ap (λ c. c || list_any (λ d. (d.0 == x) && raises_by_word d.1) effects) out ∙ rest
    at false b out rest = rest

no_field : (x : ℕ) (funs : List Fun) → list_any raises_some funs ≡ false → list_any (λ f. list_any (λ e. (e.0 == x) && raises_by_word e.1) f.effects) funs ≡ false
no_field x [] none = refl
no_field x (f ∷ funs) none =
    ap (λ b. b || list_any (λ g. list_any (λ e. (e.0 == x) && raises_by_word e.1) g.effects) funs) (no_effect x f.effects (neither (raises_some f) (list_any raises_some funs) none).0)
    ∙ no_field x funs (neither (raises_some f) (list_any raises_some funs) none).1

-- a service of which no function raises a field by a returned word
module _ (facts : Facts) (none : list_any raises_some facts.funs ≡ false) where
  none_in : (x : ℕ) (fields : List Value) → most_in facts x fields ≡ 0
  none_in x [] = refl
  none_in x (v ∷ fields) =
      ap (λ b. max (cond b (word_of v) 0) (most_in facts (x + 1) fields)) (no_field x facts.funs none) ∙ ap (λ n. max 0 n) (none_in (x + 1) fields)

  pub none_counted : (rows : List Row) → most_counted facts rows ≡ 0
  none_counted [] = refl
  none_counted (r ∷ rows) = ap (λ n. max n (most_counted facts rows)) (none_in 0 r.fields) ∙ ap (λ n. max 0 n) (none_counted rows)

  -- no word of it comes near an end
  pub never_counts : (ask : Table) (sound : Object → Type 0) → CountsSlowly facts ask sound
  never_counts ask sound = record {
    calls = λ o call good is_sound passes is. omega (arith, none_counted (after facts o call (Ok good)).rows);
    replays = λ held call good may replayed is. omega (arith, none_counted (after facts held call (Ok good)).rows);
  }

-- ---- which function makes descriptors, and which step there is

-- no function but the first makes descriptors
abbrev pub only_first : List Fun → Bool
only_first [] = true
only_first (f ∷ funs) = not (list_any (λ g. g.creation) funs)

no_maker : (b c : Bool) → not (b || c) ≡ true → (b ≡ false) × (not c ≡ true)
no_maker true c is = absurd (cc is)
no_maker false c is = (refl, is)

none_makes : (funs : List Fun) (n : ℕ) → not (list_any (λ g. g.creation) funs) ≡ true → (unwrap_or (slice_get funs n) no_fun).creation ≡ true → ⊥
none_makes [] n none is = cc is
none_makes (g ∷ funs) zero none is = let own = no_maker g.creation (list_any (λ g. g.creation) funs) none in cc (sym own.0 ∙ is)
none_makes (g ∷ funs) (suc n) none is = none_makes funs n (no_maker g.creation (list_any (λ g. g.creation) funs) none).1 is

-- a function that makes descriptors is the first then
pub first_makes : (funs : List Fun) → only_first funs ≡ true → (n : ℕ) → (fun_at funs n).creation ≡ true → n ≡ 1
first_makes funs only zero is = absurd (cc is)
first_makes [] only (suc n) is = absurd (cc is)
first_makes (f ∷ funs) only (suc zero) is = refl
first_makes (f ∷ funs) only (suc (suc n)) is = absurd (none_makes funs n only is)

-- of one pair alone, each part is the one that is asked for
pub one_pair : (a b state fun : ℕ) → has_pair ((a, b) ∷ []) state fun ≡ true → (state ≡ a) × (fun ≡ b)
one_pair a b state fun is = at (a == state) (b == fun) refl refl is
  where
    at : (x y : Bool) → (a == state) ≡ x → (b == fun) ≡ y → ((x && y) || false) ≡ true → (state ≡ a) × (fun ≡ b)
    at true true one other both = (grind (arith, nat_tests, one), grind (arith, nat_tests, other))
    at true false one other both = absurd (cc both)
    at false y one other both = absurd (cc both)

-- where the first function alone makes descriptors, and answers an Ok with the next id, each new id is the next
pub next_of_first : (facts : Facts) (given : ℕ) (answer : ℕ → Option Reply) (one : Good) → only_first facts.funs ≡ true → answer 1 ≡ Some (Ok one) → one.desc ≡ given + 1
    → (fun : ℕ) (good : Good) → answer fun ≡ Some (Ok good) → (fun_at facts.funs fun).creation ≡ true → good.desc ≡ given + 1
next_of_first facts given answer one only first next fun good is makes =
    let same : Some (Ok one) ≡ Some (Ok good) = sym first ∙ ap answer (sym (first_makes facts.funs only fun makes)) ∙ is in
    let goods : one ≡ good = cc same in
    sym (ap (λ g. g.desc) goods) ∙ next

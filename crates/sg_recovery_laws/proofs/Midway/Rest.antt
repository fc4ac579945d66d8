-- Rows that a call isn't on stay as far as they are.
use Rattle.std.proofs.Common.{◌≡◌, ℕ, ◌<◌, Bool, true, false, cond, List, [], ◌∷◌, Some, take, refl, sym, ◌∙◌, ap, inl, inr, arith}
use Rattle.std.specs.Prelude.{◌≢◌}
use Rattle.sg_facts.proofs.Replaying.Names.{alike_more, other_named, part_more}
use Rattle.sg_facts.specs.sg_base.declared.call.Call.{Call}
use Rattle.sg_facts.specs.sg_base.declared.reply.Good.{Good}
use Rattle.sg_facts.specs.declared.row.Row.{Row}
use Rattle.sg_facts.specs.declared.tables.WalkLine.{WalkLine}
use Rattle.sg_facts.specs.Alike.{named}
use Rattle.sg_facts.specs.Facts.{Facts, fun_at}
use Rattle.sg_facts.specs.Held.{HoldsPart, IsAt}
use Rattle.sg_facts.specs.Interface.{Declared}
use Rattle.sg_facts.specs.Object.{Object}
use Rattle.sg_facts.specs.Sound.{IsSound}
use Rattle.sg_facts.specs.Track.{new_row, row_at, rows_after}
use Rattle.sg_facts.specs.Inside.Rows.{row_after}
use Rattle.sg_facts.proofs.RowLists.{id_of_row, row_at-left, row_at-more}
use Rattle.sg_recovery_laws.specs.Midway.Progress.{IsSoFar, Told, fresh, begun, complete}
use Rattle.sg_facts.proofs.Replaying.Above.{held_as, low_real}
use Rattle.sg_recovery_laws.proofs.Objects.Apart.{changes_row, ends_rows, makes_row, query_keeps}
use Rattle.sg_recovery_laws.proofs.Objects.Changed.{change_at}
use Rattle.sg_recovery_laws.proofs.Objects.Commute.{same_id_at}
use Rattle.sg_facts.proofs.Replaying.Found.{from_left, other_test, to_map}
use Rattle.sg_recovery_laws.proofs.Objects.Left.{stays}

-- ---- rows of one list

-- a row that a call isn't on stays, unless it ends
pub kept_beside : (facts : Facts) (rows : List Row) (call : Call) (good : Good) (id : ℕ) (w : Row) → row_at rows id ≡ Some w → id ≢ call.desc
    → ((fun_at facts.funs call.fun).terminal ≡ true → stays facts rows call.desc id ≡ true) → row_at (rows_after facts rows call good) id ≡ Some w
kept_beside facts rows call good id w there apart stay = by_query (fun_at facts.funs call.fun).query refl
  where
    by_terminal : (b : Bool) → (fun_at facts.funs call.fun).query ≡ false → (fun_at facts.funs call.fun).creation ≡ false → (fun_at facts.funs call.fun).terminal ≡ b → row_at (rows_after facts rows call good) id ≡ Some w
    by_terminal true row makes ends =
        ap (λ rs. row_at rs id) (ends_rows facts call good rows row makes ends) ∙ row_at-left (stays facts rows call.desc) rows id (stay ends) ∙ there
    by_terminal false row makes ends =
        ap (λ rs. row_at rs id) (changes_row facts call good rows row makes ends) ∙ to_map (change_at facts call good) (same_id_at facts call good) rows id w there
        ∙ ap (λ b. Some (cond b (row_after facts call good w) w)) (other_test w.id call.desc (λ is. apart (sym (id_of_row rows id w there) ∙ is)))

    by_creation : (b : Bool) → (fun_at facts.funs call.fun).query ≡ false → (fun_at facts.funs call.fun).creation ≡ b → row_at (rows_after facts rows call good) id ≡ Some w
    by_creation true row makes = ap (λ rs. row_at rs id) (makes_row facts call good rows row makes) ∙ row_at-more rows (new_row facts call good) w id there
    by_creation false row makes = by_terminal (fun_at facts.funs call.fun).terminal row makes refl

    by_query : (b : Bool) → (fun_at facts.funs call.fun).query ≡ b → row_at (rows_after facts rows call good) id ≡ Some w
    by_query true query = ap (λ rs. row_at rs id) (query_keeps facts call good rows query) ∙ there
    by_query false row = by_creation (fun_at facts.funs call.fun).creation row refl

-- a row that is still there after an end, stays
pub stays_there : (facts : Facts) (rows : List Row) (call : Call) (good : Good) (id : ℕ) (r : Row) → (fun_at facts.funs call.fun).query ≡ false → (fun_at facts.funs call.fun).creation ≡ false
    → (fun_at facts.funs call.fun).terminal ≡ true → row_at (rows_after facts rows call good) id ≡ Some r → stays facts rows call.desc id ≡ true
stays_there facts rows call good id r row makes ends there =
    (from_left (stays facts rows call.desc) rows id r (ap (λ rs. row_at rs id) (sym (ends_rows facts call good rows row makes ends)) ∙ there)).stays

-- ---- names that grow

-- a row of the service that stays there, under names that grew by an id that is no parent of it
pub at_more : (i : Declared) (names : List (ℕ × ℕ)) (held held' : Object) (new real : ℕ) (r : Row) (done : List ℕ) → r.id ≢ new
    → ((w : Row) → row_at held.rows (named names r.id) ≡ Some w → (r.parent ≢ new) × (row_at held'.rows (named names r.id) ≡ Some w))
    → IsAt i names held r done → IsAt i ((new, real) ∷ names) held' r done
at_more i names held held' new real r [] id so at = other_named names new real r.id id ∙ at
at_more i names held held' new real r (f ∷ done) id so at =
    let s = so at.0 at.1 in
    (at.0, ap (row_at held'.rows) (other_named names new real r.id id) ∙ s.1, part_more i names new real r at.0 (f ∷ done) id s.0 at.2)

pub at_same : (i : Declared) (names : List (ℕ × ℕ)) (held held' : Object) (r : Row) (done : List ℕ)
    → ((w : Row) → row_at held.rows (named names r.id) ≡ Some w → row_at held'.rows (named names r.id) ≡ Some w) → IsAt i names held r done → IsAt i names held' r done
at_same i names held held' r [] so at = at
at_same i names held held' r (f ∷ done) so at = (at.0, so at.0 at.1, at.2)

-- the parent of a row that the service holds has its name
pub parent_named : (i : Declared) (names : List (ℕ × ℕ)) (o held : Object) (r w : Row) (new : ℕ) → HoldsPart i names o held → IsSound i.facts o → row_at o.rows r.id ≡ Some r
    → row_at held.rows (named names r.id) ≡ Some w → named names new ≡ 0 → 0 < new → r.parent ≢ new
parent_named i names o held r w new holds sound there found none some is = elim (held_as i names o held holds sound r w there found).1 [
  | inl root ↦ absurd (omega (arith, root, is, some))
  | inr has ↦
      let its : has.row.id ≡ r.parent = id_of_row o.rows r.parent has.row has.of in
      let low = low_real i names o held holds sound (named names has.row.id) has.whole.row has.whole.there in
      let name = id_of_row held.rows (named names has.row.id) has.whole.row has.whole.there in
      let none_there : named names has.row.id ≡ 0 = ap (named names) (its ∙ is) ∙ none in
      absurd (omega (arith, low, name, none_there))
]

-- so far as a row is, it is under names that grew, where its row in the service stays
pub so_far_more : (i : Declared) (walks : List WalkLine) (names : List (ℕ × ℕ)) (held held' : Object) (new real : ℕ) (r : Row) (t : Told) → r.id ≢ new
    → ((w : Row) → row_at held.rows (named names r.id) ≡ Some w → r.parent ≢ new) → ((w : Row) → row_at held.rows (named names r.id) ≡ Some w → row_at held'.rows (named names r.id) ≡ Some w)
    → IsSoFar i walks names held r t → IsSoFar i walks ((new, real) ∷ names) held' r t
so_far_more i walks names held held' new real r fresh apart parent so far = other_named names new real r.id apart ∙ far
so_far_more i walks names held held' new real r (begun n) apart parent so far = record {
  walk = far.walk;
  its = far.its;
  first = far.first;
  left = far.left;
  at = at_more i names held held' new real r (take n far.walk) apart (λ w found. (parent w found, so w found)) far.at;
}
so_far_more i walks names held held' new real r complete apart parent so far = record {
  row = far.row;
  there = ap (row_at held'.rows) (other_named names new real r.id apart) ∙ so far.row far.there;
  alike = alike_more names new real r far.row apart (parent far.row far.there) far.alike;
}

pub so_far_same : (i : Declared) (walks : List WalkLine) (names : List (ℕ × ℕ)) (held held' : Object) (r : Row) (t : Told)
    → ((w : Row) → row_at held.rows (named names r.id) ≡ Some w → row_at held'.rows (named names r.id) ≡ Some w) → IsSoFar i walks names held r t → IsSoFar i walks names held' r t
so_far_same i walks names held held' r fresh so far = far
so_far_same i walks names held held' r (begun n) so far = record {
  walk = far.walk;
  its = far.its;
  first = far.first;
  left = far.left;
  at = at_same i names held held' r (take n far.walk) so far.at;
}
so_far_same i walks names held held' r complete so far = record { row = far.row; there = so far.row far.there; alike = far.alike }

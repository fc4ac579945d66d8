-- A later call of a walk goes on.
use Rattle.std.proofs.Common.{◌≡◌, ℕ, ◌+◌, ◌^◌, ◌<◌, ◌≤◌, Bool, true, false, cond, List, [], ◌∷◌, ◌++◌, Some, map, refl, sym, ◌∙◌, ap, subst, inl, inr, append_assoc}
use Rattle.std.specs.Prelude.{◌==◌, ◌||◌, ◌&&◌, ◌≢◌, nat_lt, if◌then◌else◌}
use Rattle.std.proofs.lemmas.Bool.Decides.{eqb_tells}
use Rattle.sg_base.specs.declared.call.Call.{Call}
use Rattle.sg_base.specs.declared.reply.Good.{Good}
use Rattle.sg_base.specs.declared.reply.Reply.TheVariants.{Ok}
use Rattle.sg_facts.specs.declared.row.Row.{Row}
use Rattle.sg_facts.specs.Alike.{HasAlike, named}
use Rattle.sg_facts.specs.Allowed.{is_allowed}
use Rattle.sg_facts.specs.Counted.{CountedBelow}
use Rattle.sg_facts.specs.Facts.{Facts, fun_at, state_after}
use Rattle.sg_facts.specs.Fits.{Fits}
use Rattle.sg_facts.specs.Held.{partly, HoldsPart, IsHeld, IsPartOf, ParentIsWhole, set_of}
use Rattle.sg_facts.specs.Interface.{Declared}
use Rattle.sg_facts.specs.Kinds.{MayAsk, may_be_root}
use Rattle.sg_facts.specs.Laws.{GoesOn, next_call}
use Rattle.sg_facts.specs.Legal.{Table}
use Rattle.sg_facts.specs.Object.{Object, after, patch_of}
use Rattle.sg_facts.specs.Sound.{AreRows, IsRow, IsSound}
use Rattle.sg_facts.specs.Track.{is_live, row_at, rows_after}
use Rattle.sg_facts.specs.Inside.Rows.{row_after}
use Rattle.sg_facts.specs.Walks.{IsWalkOf, next_spot, spot_of}
use Rattle.sg_facts.specs.Inside.Walking.{may_go_on}
use Rattle.sg_facts.proofs.RowLists.{changed, id_of_row, is_live-changed, live_of_row}
use Rattle.sg_facts.specs.Replaying.Replays.{IsAnsweredOk}
use Rattle.sg_facts.proofs.Replaying.Above.{name_of_held, one_row}
use Rattle.sg_facts.proofs.Replaying.Carried.{are_from}
use Rattle.sg_facts.proofs.Replaying.Files.{are_files_patched}
use Rattle.sg_facts.proofs.Replaying.Found.{all_found, each_held, from_map, held_at, met, other_test, same_test, to_map}
use Rattle.sg_facts.proofs.Replaying.Marks.{marks_hold}
use Rattle.sg_facts.proofs.Replaying.Steps.{GoesOnWith, IsReplayedFun, declared_within, goes_on_with, next_of, replayed_fun, some_restored, step_makes_none, step_replayed}

abbrev change_at : Facts → Call → Good → Row → Row
change_at facts call good r = if r.id == call.desc then row_after facts call good r else r

same_id_at : (facts : Facts) (call : Call) (good : Good) (r : Row) → (change_at facts call good r).id ≡ r.id
same_id_at facts call good r = at (r.id == call.desc)
  where
    at : (b : Bool) → (cond b (row_after facts call good r) r).id ≡ r.id
    at true = refl
    at false = refl

changes_row : (facts : Facts) (call : Call) (good : Good) (rows : List Row) → (fun_at facts.funs call.fun).query ≡ false → (fun_at facts.funs call.fun).creation ≡ false → (fun_at facts.funs call.fun).terminal ≡ false
    → rows_after facts rows call good ≡ map (change_at facts call good) rows
changes_row facts call good rows row makes ends = rw (row, makes, ends) refl

module _ (i : Declared) (ask : Table) (names : List (ℕ × ℕ)) (o held : Object) (r w : Row) (first : ℕ) (done rest : List ℕ) (fun : ℕ) (allowed : is_allowed i.facts ≡ true) (fits : Fits i) (sound : IsSound i.facts o)
    (holds : HoldsPart i names o held) (counted : CountedBelow (2 ^ 63) i.facts held.rows) (few : held.given < 2 ^ 63) (there : row_at o.rows r.id ≡ Some r) (found : row_at held.rows (named names r.id) ≡ Some w)
    (part : IsPartOf i names r (first ∷ done) w) (walk : IsWalkOf i ((first ∷ done) ++ fun ∷ rest) r.made r.state (set_of r))
    (apart : (c : Row) → HasAlike names held r → row_at o.rows c.id ≡ Some c → c.parent ≡ r.id → ⊥)
    (given : IsAnsweredOk i.facts ask held (next_call i.facts names r (first ∷ done) fun) w.fields) where
  abbrev call : Call
  call = next_call i.facts names r (first ∷ done) fun

  abbrev held' : Object
  held' = after i.facts held call (Ok given.good)

  abbrev change : Row → Row
  change = change_at i.facts call given.good

  led : (may_go_on i part.spot fun ≡ true) × (spot_of i ((first ∷ done) ++ fun ∷ []) ≡ Some (next_spot i.facts fun part.spot))
  led =
      let s = some_restored (spot_of i ((first ∷ done) ++ fun ∷ rest)) r.state (set_of r) walk.restored in
      let n = next_of i part.spot s.0 first done rest fun part.led s.1 in
      (n.may, n.led)

  step : GoesOnWith i part.spot fun
  step = goes_on_with i part.spot fun led.0

  makes_none : (fun_at i.facts.funs fun).creation ≡ false
  makes_none = let s = step in step_makes_none i.facts part.spot.state fun allowed (fits.steps part.spot.state fun s.steps)

  its_fun : IsReplayedFun i.facts (fun_at i.facts.funs fun)
  its_fun =
      let s = step in
      let within = declared_within i fun fits s.declared in
      replayed_fun i.facts fun allowed within.0 within.1 (step_replayed i.facts part.spot.state fun (fits.steps part.spot.state fun s.steps))

  rows_are : held'.rows ≡ map change held.rows
  rows_are = let s = step in changes_row i.facts call given.good held.rows s.no_query makes_none s.no_end

  given_are : held'.given ≡ held.given
  given_are = ap (λ b. cond b (held.given + 1) held.given) makes_none

  id_w : w.id ≡ named names r.id
  id_w = id_of_row held.rows (named names r.id) w found

  new_part : IsPartOf i names r ((first ∷ done) ++ fun ∷ []) (row_after i.facts call given.good w)
  new_part = record {
    spot = next_spot i.facts fun part.spot;
    led = led.1;
    id = part.id;
    made = part.made;
    parent = part.parent;
    state = ap (state_after i.facts fun) part.state;
    fields =
        let its = its_fun in
        marks_hold call given.good i.facts.fields r.fields (fun_at i.facts.funs fun).effects part.spot.marks w.fields its.once
        (are_from r call (fun_at i.facts.funs fun).effects (fun_at i.facts.funs fun).kinds refl refl its.args its.takes its.caller)
        part.fields (met (IsRow i.facts o.rows) 0 o.given r.id o.rows r sound.rows there).fields given.fields;
  }

  found_h : (id : ℕ) (x : Row) → row_at held.rows id ≡ Some x → row_at held'.rows id ≡ Some (change x)
  found_h id x is = ap (λ rows. row_at rows id) rows_are ∙ to_map change (same_id_at i.facts call given.good) held.rows id x is

  same_other : (x : Row) → x.id ≢ named names r.id → change x ≡ x
  same_other x other = ap (λ b. cond b (row_after i.facts call given.good x) x) (other_test x.id (named names r.id) other)

  same_own : change w ≡ row_after i.facts call given.good w
  same_own = ap (λ b. cond b (row_after i.facts call given.good w) w) (same_test w.id (named names r.id) id_w)

  -- the parents of rows are others
  parent_kept : (x : Row) → row_at o.rows x.id ≡ Some x → ParentIsWhole names o held x → ParentIsWhole names o held' x
  parent_kept x there_x (inl none) = inl none
  parent_kept x there_x (inr has) =
      let id : has.row.id ≡ x.parent = id_of_row o.rows x.parent has.row has.of in
      let there_p : row_at o.rows has.row.id ≡ Some has.row = ap (row_at o.rows) id ∙ has.of in
      let its : has.whole.row.id ≡ named names has.row.id = id_of_row held.rows (named names has.row.id) has.whole.row has.whole.there in
      let other : has.whole.row.id ≢ named names r.id
      = λ is.
      let one : has.row ≡ r = one_row i names o held holds sound r has.row there there_p w found (sym its ∙ is) in
      apart x (subst (HasAlike names held) one has.whole) there_x (sym id ∙ ap (λ y. y.id) one) in
      inr (record {
        row = has.row;
        of = has.of;
        whole = record { row = has.whole.row; there = found_h (named names has.row.id) has.whole.row has.whole.there ∙ ap Some (same_other has.whole.row other); alike = has.whole.alike };
      })

  by_old : (Q : Row → Type 0) → ((x : Row) → row_at held.rows x.id ≡ Some x → Q (change x)) → (x' : Row) → row_at held'.rows x'.id ≡ Some x' → Q x'
  by_old Q so x' is =
      let was = from_map change (same_id_at i.facts call given.good) held.rows x'.id x' (ap (λ rows. row_at rows x'.id) (sym rows_are) ∙ is) in
      let id : was.row.id ≡ x'.id = id_of_row held.rows x'.id was.row was.there in
      subst Q was.is (so was.row (ap (row_at held.rows) id ∙ was.there))

  -- a row is that of the walk, or stays
  either_row : (Q : Row → Type 0) → Q (row_after i.facts call given.good w) → ((x : Row) → row_at held.rows x.id ≡ Some x → Q x) → (x : Row) → row_at held.rows x.id ≡ Some x → Q (change x)
  either_row Q own other x is = elim (eqb_tells x.id (named names r.id)) [
    | inl same ↦
        let both : Some w ≡ Some x = sym found ∙ ap (row_at held.rows) (sym same.1) ∙ is in
        let one : w ≡ x = cc both in
        subst (λ y. Q (change y)) one (subst Q (sym same_own) own)
    | inr far ↦ subst Q (sym (same_other x far.1)) (other x is)
  ]

  held_now : (x : Row) → row_at held'.rows x.id ≡ Some x → IsHeld i names o held' x
  held_now = by_old (IsHeld i names o held') (either_row (IsHeld i names o held')
      (record { row = r; live = there; held_for = partly ((first ∷ done) ++ fun ∷ []) rest (subst (λ l. IsWalkOf i l r.made r.state (set_of r)) (sym (append_assoc (first ∷ done) (fun ∷ []) rest)) walk) new_part; parent = parent_kept r there own_parent })
      (λ x is. let h = held_at i names o held held.rows x.id x holds.each is in record { row = h.row; live = h.live; held_for = h.held_for; parent = parent_kept h.row h.live h.parent }))
    where
      own_parent : ParentIsWhole names o held r
      own_parent =
          let h = held_at i names o held held.rows (named names r.id) w holds.each found in
          let one : h.row ≡ r = one_row i names o held holds sound r h.row there h.live w found (name_of_held i names h.row w h.held_for ∙ id_w) in
          subst (ParentIsWhole names o held) one h.parent

  row_now : (x : Row) → row_at held'.rows x.id ≡ Some x → IsRow i.facts held'.rows x
  row_now = by_old (IsRow i.facts held'.rows) (either_row (IsRow i.facts held'.rows)
      (let was = moved w (met (IsRow i.facts held.rows) 0 held.given (named names r.id) held.rows w holds.held_sound.rows found) in
      record { creator_first = was.creator_first; creator_last = was.creator_last; parent = was.parent; its_parent = was.its_parent; fields = given.fields })
      (λ x is. moved x (met (IsRow i.facts held.rows) 0 held.given x.id held.rows x holds.held_sound.rows is)))
    where
      moved : (x : Row) → IsRow i.facts held.rows x → IsRow i.facts held'.rows x
      moved x was = record {
        creator_first = was.creator_first;
        creator_last = was.creator_last;
        parent = ap (λ b. (x.parent == 0) || (nat_lt x.parent x.id && b)) (ap (λ rows. is_live rows x.parent) rows_are ∙ is_live-changed change (same_id_at i.facts call given.good) held.rows x.parent) ∙ was.parent;
        its_parent = was.its_parent;
        fields = was.fields;
      }

  holds_now : HoldsPart i names o held'
  holds_now =
      let plain : AreRows (λ x. Unit {0}) 0 held'.given held'.rows
      = subst (λ n. AreRows (λ x. Unit {0}) 0 n held'.rows) (sym given_are) (subst (AreRows (λ x. Unit {0}) 0 held.given) (sym rows_are)
      (changed (IsRow i.facts held.rows) (λ x. Unit {0}) change (same_id_at i.facts call given.good) (λ x is. tt) 0 held.given held.rows holds.held_sound.rows)) in
      record {
        names_are = holds.names_are;
        given = λ id. subst (λ n. named names id ≤ n) (sym given_are) (holds.given id);
        held_sound = record {
          rows = all_found (λ x. Unit {0}) (IsRow i.facts held'.rows) 0 held'.given held'.rows plain row_now;
          files = are_files_patched held.files (patch_of i.facts held call (Ok given.good)) holds.held_sound.files;
        };
        each = each_held (λ x. Unit {0}) i names o held' 0 held'.given held'.rows plain held_now;
      }

  may_ask : MayAsk i.facts held call
  may_ask =
      let s = step in
      let its = its_fun in
      let within = declared_within i fun fits s.declared in
      let live : is_live held.rows (named names r.id) ≡ true = live_of_row held.rows (named names r.id) w found in
      record {
        is_call = record { first = within.0; last = within.1; fits = record { args = given.args; desc = λ none takes. let some = its.on makes_none s.no_query in absurd (cc (none, some)) } };
        within = record { client_first = given.client_first; client_last = given.client_last; counted = counted; given = few };
        desc = λ takes. live;
        parent = λ takes. ap (λ b. b || (may_be_root i.facts.parents && (named names r.id == 0))) live;
        children = λ row ends alone. let none = s.no_end in absurd (cc (ends, none));
      }

  pub stepped : GoesOn i ask names o held r (first ∷ done) fun
  stepped = record {
    may_ask = may_ask;
    good = given.good;
    answered = given.answered;
    holds = holds_now;
    further = (row_after i.facts call given.good w, found_h (named names r.id) w found ∙ ap Some same_own, new_part);
  }

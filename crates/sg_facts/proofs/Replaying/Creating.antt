-- The first call of a walk goes on.
use Rattle.std.proofs.Common.{◌≡◌, ℕ, ◌+◌, ◌^◌, ◌<◌, ◌≤◌, Bool, true, false, cond, not, List, [], ◌∷◌, ◌++◌, Some, map, refl, sym, ◌∙◌, ap, subst, inl, inr, ◌⊎◌, arith}
use Rattle.std.specs.Prelude.{◌==◌, ◌||◌, ◌&&◌, ◌≢◌, nat_lt}
use Rattle.std.proofs.lemmas.Bool.Decides.{eqb_tells, nat_tests}
use Rattle.sg_base.specs.declared.call.Call.{Call}
use Rattle.sg_base.specs.declared.reply.Good.{Good}
use Rattle.sg_base.specs.declared.reply.Reply.TheVariants.{Ok}
use Rattle.sg_facts.specs.declared.row.Row.{Row}
use Rattle.sg_facts.specs.Alike.{named}
use Rattle.sg_facts.specs.Allowed.{is_allowed}
use Rattle.sg_facts.specs.Counted.{CountedBelow}
use Rattle.sg_facts.specs.Facts.{Facts, fun_at, takes_parent}
use Rattle.sg_facts.specs.Fits.{Fits}
use Rattle.sg_facts.specs.Held.{partly, HoldsPart, IsHeld, IsPartOf, ParentIsWhole, set_of}
use Rattle.sg_facts.specs.Interface.{Declared}
use Rattle.sg_facts.specs.Kinds.{MayAsk, may_be_root}
use Rattle.sg_facts.specs.Laws.{GoesOn, next_call}
use Rattle.sg_facts.specs.Legal.{Table}
use Rattle.sg_facts.specs.Object.{Object, after, patch_of}
use Rattle.sg_facts.specs.Sound.{AreFiles, AreRows, IsRow, IsSound}
use Rattle.sg_facts.specs.Track.{is_live, new_row, row_at, rows_after}
use Rattle.sg_facts.specs.Fields.{empty_field}
use Rattle.sg_facts.specs.Walks.{IsWalkOf, first_spot, spot_of, unset}
use Rattle.sg_facts.proofs.RowLists.{id_of_row, is_live-more, live_of_row, more, other, row_at-more}
use Rattle.sg_facts.specs.Replaying.Replays.{IsAnsweredOk}
use Rattle.sg_facts.proofs.Replaying.Above.{low_id, low_real, name_of_held}
use Rattle.sg_facts.proofs.Replaying.Carried.{are_from}
use Rattle.sg_facts.proofs.Replaying.Files.{are_files_patched}
use Rattle.sg_facts.proofs.Replaying.Found.{all_found, each_held, from_more, held_at, last_found, met, other_test, same_test}
use Rattle.sg_facts.proofs.Replaying.Marks.{marks_hold, none_holds}
use Rattle.sg_facts.proofs.Replaying.Names.{alike_more, held_more, names_more, other_named, own_named, parent_named}
use Rattle.sg_facts.proofs.Replaying.Steps.{Begins, begins, declared_within, first_of, first_replayed, replayed_fun, some_restored}

makes_row : (facts : Facts) (call : Call) (good : Good) (rows : List Row) → (fun_at facts.funs call.fun).query ≡ false → (fun_at facts.funs call.fun).creation ≡ true
    → rows_after facts rows call good ≡ rows ++ new_row facts call good ∷ []
makes_row facts call good rows row makes = rw (row, makes) refl

-- a row's parent is below it
pub below_it : (facts : Facts) (rows : List Row) (r : Row) → 0 < r.id → IsRow facts rows r → r.parent < r.id
below_it facts rows r low is = at (r.parent == 0) refl is.parent
  where
    at : (b : Bool) → (r.parent == 0) ≡ b → (b || (nat_lt r.parent r.id && is_live rows r.parent)) ≡ true → r.parent < r.id
    at true none meets = let zero_is : r.parent ≡ 0 = grind (arith, nat_tests) in omega (arith, zero_is, low)
    at false some meets = grind (arith, nat_tests, meets)

module _ (i : Declared) (ask : Table) (names : List (ℕ × ℕ)) (o held : Object) (r : Row) (rest : List ℕ) (allowed : is_allowed i.facts ≡ true) (fits : Fits i) (sound : IsSound i.facts o)
    (holds : HoldsPart i names o held) (counted : CountedBelow (2 ^ 63) i.facts held.rows) (few : held.given < 2 ^ 63) (there : row_at o.rows r.id ≡ Some r) (fresh : named names r.id ≡ 0)
    (parent : ParentIsWhole names o held r) (walk : IsWalkOf i (r.made ∷ rest) r.made r.state (set_of r)) (given : IsAnsweredOk i.facts ask held (next_call i.facts names r [] r.made) (map empty_field i.facts.fields))
    (next : given.good.desc ≡ held.given + 1) where
  abbrev call : Call
  call = next_call i.facts names r [] r.made

  abbrev now : List (ℕ × ℕ)
  now = (r.id, given.good.desc) ∷ names

  abbrev held' : Object
  held' = after i.facts held call (Ok given.good)

  abbrev new : Row
  new = new_row i.facts call given.good

  led : Begins i r.made × (spot_of i (r.made ∷ []) ≡ Some (first_spot i.facts r.made))
  led =
      let s = some_restored (spot_of i (r.made ∷ rest)) r.state (set_of r) walk.restored in
      let f = first_of i s.0 r.made rest s.1 in
      (begins i r.made f.0, f.1)

  low : 0 < r.id
  low = low_id i names o held holds sound r.id r there

  is_row : IsRow i.facts o.rows r
  is_row = met (IsRow i.facts o.rows) 0 o.given r.id o.rows r sound.rows there

  parent_below : r.parent < r.id
  parent_below = below_it i.facts o.rows r low is_row

  rows_are : held'.rows ≡ held.rows ++ new ∷ []
  rows_are = let m = led.0 in makes_row i.facts call given.good held.rows m.no_query m.makes

  given_are : held'.given ≡ held.given + 1
  given_are = let m = led.0 in ap (λ b. cond b (held.given + 1) held.given) m.makes

  -- the parent of the new row
  no_parent : takes_parent (fun_at i.facts.funs r.made) ≡ false → r.parent ≡ 0
  no_parent takes_none =
      let has : (r.parent == 0) ≡ true = sym (ap (λ b. cond b (may_be_root i.facts.parents || not (r.parent == 0)) (r.parent == 0)) takes_none) ∙ is_row.its_parent in
      grind (arith, nat_tests, has)

  parent_is : new.parent ≡ named names r.parent
  parent_is = at (takes_parent (fun_at i.facts.funs r.made)) refl
    where
      at : (b : Bool) → takes_parent (fun_at i.facts.funs r.made) ≡ b → cond b (named names r.parent) 0 ≡ named names r.parent
      at true takes = refl
      at false takes = sym (ap (named names) (no_parent takes) ∙ holds.names_are.none)

  kept_parent : named now r.parent ≡ named names r.parent
  kept_parent = other_named names r.id given.good.desc r.parent (λ is. absurd (omega (arith, is, parent_below)))

  new_part : IsPartOf i now r (r.made ∷ []) new
  new_part =
      let m = led.0 in
      let within = declared_within i r.made fits m.declared in
      let its = replayed_fun i.facts r.made allowed within.0 within.1 (first_replayed i.facts r.made m.makes) in
      record {
        spot = first_spot i.facts r.made;
        led = led.1;
        id = own_named names r.id given.good.desc;
        made = refl;
        parent = parent_is ∙ sym kept_parent;
        state = refl;
        fields = marks_hold call given.good i.facts.fields r.fields (fun_at i.facts.funs r.made).effects (map (λ f. unset) i.facts.fields) (map empty_field i.facts.fields) its.once
            (are_from r call (fun_at i.facts.funs r.made).effects (fun_at i.facts.funs r.made).kinds refl refl its.args its.takes its.caller)
            (none_holds i.facts.fields r.fields is_row.fields) is_row.fields given.fields;
      }

  found_h : (id : ℕ) (w : Row) → row_at held.rows id ≡ Some w → row_at held'.rows id ≡ Some w
  found_h id w found = ap (λ rows. row_at rows id) rows_are ∙ row_at-more held.rows new w id found

  -- rows that have a row in the service are other rows, and have other parents
  other_row : (x w : Row) → row_at held.rows (named names x.id) ≡ Some w → x.id ≢ r.id
  other_row x w found is =
      let some = low_real i names o held holds sound (named names x.id) w found in
      let its = id_of_row held.rows (named names x.id) w found in
      let none : named names x.id ≡ 0 = ap (named names) is ∙ fresh in
      absurd (omega (arith, some, its, none))

  other_parent : (x w : Row) → row_at o.rows x.id ≡ Some x → row_at held.rows (named names x.id) ≡ Some w → x.parent ≢ r.id
  other_parent x w there_x found = parent_named i names o held x w r.id holds sound there_x found fresh low

  parent_kept : (x : Row) → ParentIsWhole names o held x → ParentIsWhole now o held' x
  parent_kept x (inl none) = inl none
  parent_kept x (inr has) =
      let its : has.row.id ≡ x.parent = id_of_row o.rows x.parent has.row has.of in
      let there_p : row_at o.rows has.row.id ≡ Some has.row = ap (row_at o.rows) its ∙ has.of in
      let apart = other_row has.row has.whole.row has.whole.there in
      inr (record {
        row = has.row;
        of = has.of;
        whole = record {
          row = has.whole.row;
          there = ap (row_at held'.rows) (other_named names r.id given.good.desc has.row.id apart) ∙ found_h (named names has.row.id) has.whole.row has.whole.there;
          alike = alike_more names r.id given.good.desc has.row has.whole.row apart (other_parent has.row has.whole.row there_p has.whole.there) has.whole.alike;
        };
      })

  by_new : (Q : Row → Type 0) → ((w : Row) → row_at held.rows w.id ≡ Some w → Q w) → Q new → (w : Row) → row_at held'.rows w.id ≡ Some w → Q w
  by_new Q old last w found = elim (from_more (IsRow i.facts held.rows) 0 held.given held.rows new w w.id (ap (λ rows. row_at rows w.id) (sym rows_are) ∙ found)) [
    | inl was ↦ old w was
    | inr is ↦ subst Q (sym is.0) last
  ]

  new_there : row_at held'.rows given.good.desc ≡ Some new
  new_there = ap (λ rows. row_at rows given.good.desc) rows_are ∙ last_found (IsRow i.facts held.rows) 0 held.given held.rows new holds.held_sound.rows (omega (arith, next))

  held_now : (w : Row) → row_at held'.rows w.id ≡ Some w → IsHeld i now o held' w
  held_now = by_new (IsHeld i now o held') old (record { row = r; live = there; held_for = partly (r.made ∷ []) rest walk new_part; parent = parent_kept r parent })
    where
      old : (w : Row) → row_at held.rows w.id ≡ Some w → IsHeld i now o held' w
      old w found =
          let h = held_at i names o held held.rows w.id w holds.each found in
          let name : named names h.row.id ≡ w.id = name_of_held i names h.row w h.held_for in
          let there_h : row_at held.rows (named names h.row.id) ≡ Some w = ap (row_at held.rows) name ∙ found in
          record {
            row = h.row;
            live = h.live;
            held_for = held_more i names r.id given.good.desc h.row w (other_row h.row w there_h) (other_parent h.row w h.live there_h) h.held_for;
            parent = parent_kept h.row h.parent;
          }

  row_now : (w : Row) → row_at held'.rows w.id ≡ Some w → IsRow i.facts held'.rows w
  row_now = by_new (IsRow i.facts held'.rows) old (record {
    creator_first = given.client_first;
    creator_last = given.client_last;
    parent = ap (λ p. (p == 0) || (nat_lt p given.good.desc && is_live held'.rows p)) parent_is ∙ its parent;
    its_parent = root parent (takes_parent (fun_at i.facts.funs r.made)) refl;
    fields = given.fields;
  })
    where
      live_more : (id : ℕ) → is_live held.rows id ≡ true → is_live held'.rows id ≡ true
      live_more id live = ap (λ rows. is_live rows id) rows_are ∙ is_live-more held.rows new id live

      either : (a b c d : Bool) → (a || (b && c)) ≡ true → (c ≡ true → d ≡ true) → (a || (b && d)) ≡ true
      either true b c d is so = refl
      either false true c d is so = so is
      either false false c d is so = absurd (cc is)

      last : (a b c : Bool) → b ≡ true → c ≡ true → (a || (b && c)) ≡ true
      last true b c is also = refl
      last false true c is also = also
      last false false c is also = absurd (cc is)

      old : (w : Row) → row_at held.rows w.id ≡ Some w → IsRow i.facts held'.rows w
      old w found =
          let was : IsRow i.facts held.rows w = met (IsRow i.facts held.rows) 0 held.given w.id held.rows w holds.held_sound.rows found in
          record {
            creator_first = was.creator_first;
            creator_last = was.creator_last;
            parent = either (w.parent == 0) (nat_lt w.parent w.id) (is_live held.rows w.parent) (is_live held'.rows w.parent) was.parent (live_more w.parent);
            its_parent = was.its_parent;
            fields = was.fields;
          }

      its : ParentIsWhole names o held r → ((named names r.parent == 0) || (nat_lt (named names r.parent) given.good.desc && is_live held'.rows (named names r.parent))) ≡ true
      its (inl none) = ap (λ b. b || (nat_lt (named names r.parent) given.good.desc && is_live held'.rows (named names r.parent))) (same_test (named names r.parent) 0 (ap (named names) none ∙ holds.names_are.none))
      its (inr has) =
          let id : has.row.id ≡ r.parent = id_of_row o.rows r.parent has.row has.of in
          let live : is_live held'.rows (named names r.parent) ≡ true
          = live_more (named names r.parent) (live_of_row held.rows (named names r.parent) has.whole.row (ap (λ n. row_at held.rows (named names n)) (sym id) ∙ has.whole.there)) in
          let most : named names r.parent ≤ held.given = holds.given r.parent in
          let lower : nat_lt (named names r.parent) given.good.desc ≡ true = grind (arith, nat_tests, most, next) in
          last (named names r.parent == 0) (nat_lt (named names r.parent) given.good.desc) (is_live held'.rows (named names r.parent)) lower live

      or_right : (a b : Bool) → b ≡ true → (a || b) ≡ true
      or_right true b is = refl
      or_right false b is = is

      root : ParentIsWhole names o held r → (b : Bool) → takes_parent (fun_at i.facts.funs r.made) ≡ b → cond b (may_be_root i.facts.parents || not (new.parent == 0)) (new.parent == 0) ≡ true
      root p false takes = same_test new.parent 0 (parent_is ∙ ap (named names) (no_parent takes) ∙ holds.names_are.none)
      root (inl none) true takes =
          let has : (may_be_root i.facts.parents || not (r.parent == 0)) ≡ true = sym (ap (λ b. cond b (may_be_root i.facts.parents || not (r.parent == 0)) (r.parent == 0)) takes) ∙ is_row.its_parent in
          let zero_is : not (r.parent == 0) ≡ false = ap not (same_test r.parent 0 none) in
          free (may_be_root i.facts.parents) (not (r.parent == 0)) (not (new.parent == 0)) has zero_is
        where
          free : (a b c : Bool) → (a || b) ≡ true → b ≡ false → (a || c) ≡ true
          free true b c has none = refl
          free false b c has none = absurd (cc (has, none))
      root (inr has) true takes =
          let id : has.row.id ≡ r.parent = id_of_row o.rows r.parent has.row has.of in
          let some = low_real i names o held holds sound (named names has.row.id) has.whole.row has.whole.there in
          let name = id_of_row held.rows (named names has.row.id) has.whole.row has.whole.there in
          or_right (may_be_root i.facts.parents) (not (new.parent == 0)) (ap not (other_test new.parent 0 (λ none. absurd (let e = ap (named names) id in omega (arith, some, name, e, none, parent_is)))))

  files_now : AreFiles held'.files
  files_now = are_files_patched held.files (patch_of i.facts held call (Ok given.good)) holds.held_sound.files

  holds_now : HoldsPart i now o held'
  holds_now =
      let are : AreRows (λ w. Unit {0}) 0 held.given held.rows = other (IsRow i.facts held.rows) (λ w. Unit {0}) (λ w is. tt) 0 held.given held.rows holds.held_sound.rows in
      let all : AreRows (λ w. Unit {0}) 0 given.good.desc (held.rows ++ new ∷ []) = more (λ w. Unit {0}) 0 held.given held.rows new are (omega (arith, next)) (omega (arith, next)) tt in
      let plain : AreRows (λ w. Unit {0}) 0 held'.given held'.rows
      = subst (λ n. AreRows (λ w. Unit {0}) 0 n held'.rows) (next ∙ sym given_are) (subst (AreRows (λ w. Unit {0}) 0 given.good.desc) (sym rows_are) all) in
      record {
        names_are = names_more names held.given r.id given.good.desc holds.names_are holds.given (omega (arith, next)) low;
        given = given_now;
        held_sound = record { rows = all_found (λ w. Unit {0}) (IsRow i.facts held'.rows) 0 held'.given held'.rows plain row_now; files = files_now };
        each = each_held (λ w. Unit {0}) i now o held' 0 held'.given held'.rows plain held_now;
      }
    where
      given_now : (id : ℕ) → named now id ≤ held'.given
      given_now id = at (eqb_tells id r.id)
        where
          at : ((id == r.id) ≡ true) × (id ≡ r.id) ⊎ ((id == r.id) ≡ false) × (id ≡ r.id → ⊥) → named now id ≤ held'.given
          at (inl same) =
              let is : named now id ≡ given.good.desc = ap (named now) same.1 ∙ own_named names r.id given.good.desc in
              omega (arith, is, next, given_are)
          at (inr apart) =
              let is : named now id ≡ named names id = other_named names r.id given.good.desc id apart.1 in
              let most = holds.given id in
              omega (arith, is, most, given_are)

  may_ask : MayAsk i.facts held call
  may_ask =
      let m = led.0 in
      let within = declared_within i r.made fits m.declared in
      let its = replayed_fun i.facts r.made allowed within.0 within.1 (first_replayed i.facts r.made m.makes) in
      record {
        is_call = record { first = within.0; last = within.1; fits = record { args = given.args; desc = λ none takes. ap (named names) (no_parent takes) ∙ holds.names_are.none } };
        within = record { client_first = given.client_first; client_last = given.client_last; counted = counted; given = few };
        desc = λ takes. let none = its.makes m.makes in absurd (cc (takes, none));
        parent = λ takes. live takes parent;
        children = λ row ends alone. let none = m.no_end in absurd (cc (ends, none));
      }
    where
      both : (a b c : Bool) → b ≡ true → c ≡ true → (a || (b && c)) ≡ true
      both true b c is also = refl
      both false true c is also = also
      both false false c is also = absurd (cc is)

      or_left : (a b : Bool) → a ≡ true → (a || b) ≡ true
      or_left true b is = refl
      or_left false b is = absurd (cc is)

      out_of : (a b : Bool) → (a || b) ≡ true → b ≡ false → a ≡ true
      out_of true b has none = refl
      out_of false b has none = absurd (cc (has, none))

      live : takes_parent (fun_at i.facts.funs r.made) ≡ true → ParentIsWhole names o held r
          → (is_live held.rows (named names r.parent) || (may_be_root i.facts.parents && (named names r.parent == 0))) ≡ true
      live takes (inl none) =
          let has : (may_be_root i.facts.parents || not (r.parent == 0)) ≡ true = sym (ap (λ b. cond b (may_be_root i.facts.parents || not (r.parent == 0)) (r.parent == 0)) takes) ∙ is_row.its_parent in
          both (is_live held.rows (named names r.parent)) (may_be_root i.facts.parents) (named names r.parent == 0)
          (out_of (may_be_root i.facts.parents) (not (r.parent == 0)) has (ap not (same_test r.parent 0 none))) (same_test (named names r.parent) 0 (ap (named names) none ∙ holds.names_are.none))
      live takes (inr has) =
          let id : has.row.id ≡ r.parent = id_of_row o.rows r.parent has.row has.of in
          or_left (is_live held.rows (named names r.parent)) (may_be_root i.facts.parents && (named names r.parent == 0))
          (live_of_row held.rows (named names r.parent) has.whole.row (ap (λ n. row_at held.rows (named names n)) (sym id) ∙ has.whole.there))

  pub created : GoesOn i ask names o held r [] r.made
  created = record {
    may_ask = may_ask;
    good = given.good;
    answered = given.answered;
    holds = holds_now;
    further = (new, ap (row_at held'.rows) (own_named names r.id given.good.desc) ∙ new_there, new_part);
  }

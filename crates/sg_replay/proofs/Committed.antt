-- What the commit of an answered call keeps.
use Rattle.std.proofs.Common.{◌≡◌, ℕ, zero, suc, ◌+◌, ◌≤◌, Bool, true, false, cond, List, [], ◌∷◌, ◌++◌, None, Some, filter, is_some, length, map, take, refl, sym, ◌∙◌, ap, inl, inr, arith}
use Rattle.std.specs.Prelude.{◌==◌, ◌||◌, ◌&&◌, ◌<◌, nat_eq, not, slice_get}
use Rattle.std.specs.Borrow.{Bor}
use Rattle.std.specs.List.{list_any}
use Rattle.std.specs.Map.{lookup}
use Rattle.std.specs.Option.{option_copied, option_map}
use Rattle.std.specs.declared.option.Option.{Option}
use Rattle.std.proofs.lemmas.Bool.Decides.{eqb_tells, nat_tests}
use Rattle.sg_facts.specs.sg_base.Lists.{Each}
use Rattle.sg_facts.specs.sg_base.declared.call.Call.{Call}
use Rattle.sg_facts.specs.sg_base.declared.reply.Good.{Good}
use Rattle.sg_facts.specs.sg_base.declared.reply.Reply.{Reply}
use Rattle.sg_facts.specs.sg_base.declared.reply.Reply.TheVariants.{Ok, Refused}
use Rattle.sg_facts.specs.declared.row.Row.{Row}
use Rattle.sg_facts.specs.Facts.{Facts, fun_at}
use Rattle.sg_facts.specs.Object.{Object}
use Rattle.sg_facts.specs.Inside.Rows.{given_after, has_child, parent_in, row_after, track}
use Rattle.sg_facts.specs.Track.{ancestors, ends_with, is_ancestor, is_live, new_row, row_at}
use Rattle.sg_facts.specs.Walks.{most_calls}
use Rattle.sg_name.specs.Names.{name_by, name_of, named_at, real_at, real_of}
use Rattle.sg_name.specs.declared.named.Named.{Named}
use Rattle.sg_name.specs.declared.named.Named.TheVariants.{Unnamed, Partial, Live}
use Rattle.sg_name.specs.declared.named.Standing.{Standing}
use Rattle.sg_needs.specs.sg_track.Tracked.{AreTracked, MayTrack, Tracked}
use Rattle.sg_needs.specs.sg_track.Kept.{ends_below}
use Rattle.sg_needs.proofs.sg_track.Above.{childless, ends_lower, from_parent, up_from}
use Rattle.sg_replay.specs.Committing.{name_left}
use Rattle.sg_replay.specs.Engined.{AreGiven, AreInWalks}
use Rattle.sg_replay.specs.Inside.Ends.{ends_rows, is_ended, is_named}

-- what is lent is there where what it shows is
pub copied_some : {A : Type 0} (o : Option (Bor A)) → is_some o ≡ is_some (option_copied o)
copied_some None = refl
copied_some (Some a) = refl

-- an id is live where it has a row
pub row_live : (rows : List Row) (id : ℕ) → is_some (row_at rows id) ≡ is_live rows id
row_live [] id = refl
row_live (r ∷ rows) id = at (r.id == id) (row_live rows id)
  where
    at : (b : Bool) → is_some (row_at rows id) ≡ is_live rows id → is_some (cond b (Some r) (row_at rows id)) ≡ (b || is_live rows id)
    at true rest = refl
    at false rest = rest

-- ---- rows that end

and_true : (b : Bool) → (b && true) ≡ b
and_true true = refl
and_true false = refl

and_false : (b : Bool) → (b && false) ≡ false
and_false true = refl
and_false false = refl

or_true : (b : Bool) → (b || true) ≡ true
or_true true = refl
or_true false = refl

or_false : (b : Bool) → (b || false) ≡ b
or_false true = refl
or_false false = refl

or_or : (a b c : Bool) → (a || (b || c)) ≡ ((a || b) || c)
or_or true b c = refl
or_or false b c = refl

pub one_id : (a b : ℕ) → (a == b) ≡ true → a ≡ b
one_id a b is = elim (eqb_tells a b) [ inl same ↦ same.1 | inr apart ↦ absurd (let wrong : true ≡ false = sym is ∙ apart.0 in cc wrong) ]

-- an id is live among the rows that are left where it was live and is left
live_left : (test : ℕ → Bool) (rows : List Row) (id : ℕ) → is_live (filter (λ r. test r.id) rows) id ≡ (is_live rows id && test id)
live_left test [] id = refl
live_left test (r ∷ rows) id = at (test r.id) refl (live_left test rows id)
  where
    rest : List Row
    rest = filter (λ x. test x.id) rows

    same : (b : Bool) → (r.id == id) ≡ b → test r.id ≡ true → (b || (is_live rows id && test id)) ≡ ((b || is_live rows id) && test id)
    same true is passes = sym passes ∙ ap test (one_id r.id id is)
    same false is passes = refl

    other : (b : Bool) → (r.id == id) ≡ b → test r.id ≡ false → (is_live rows id && test id) ≡ ((b || is_live rows id) && test id)
    other true is fails =
        let here : test id ≡ false = ap test (sym (one_id r.id id is)) ∙ fails in
        ap (λ t. is_live rows id && t) here ∙ and_false (is_live rows id) ∙ sym here
    other false is fails = refl

    at : (b : Bool) → test r.id ≡ b → is_live rest id ≡ (is_live rows id && test id) → is_live (cond b (r ∷ rest) rest) id ≡ (((r.id == id) || is_live rows id) && test id)
    at true is more = ap (λ l. (r.id == id) || l) more ∙ same (r.id == id) refl is
    at false is more = more ∙ other (r.id == id) refl is

-- an id that was live is live among more rows
live_more : (front rest : List Row) (id : ℕ) → is_live front id ≡ true → is_live (front ++ rest) id ≡ true
live_more [] rest id is = absurd (cc is)
live_more (r ∷ front) rest id is = at (r.id == id) is (live_more front rest id)
  where
    at : (b : Bool) → (b || is_live front id) ≡ true → (is_live front id ≡ true → is_live (front ++ rest) id ≡ true) → (b || is_live (front ++ rest) id) ≡ true
    at true is more = refl
    at false is more = more is

-- rows that change under their ids stay live
live_changed : (change : Row → Row) → ((r : Row) → (change r).id ≡ r.id) → (rows : List Row) (id : ℕ) → is_live (map change rows) id ≡ is_live rows id
live_changed change keeps [] id = refl
live_changed change keeps (r ∷ rows) id =
    ap (λ n. (n == id) || is_live (map change rows) id) (keeps r) ∙ ap (λ l. (r.id == id) || l) (live_changed change keeps rows id)

module _ (facts : Facts) (rows : List Row) (call : Call) (good : Good) (id : ℕ) where
  -- the rows after an Ok, by what its function is
  abbrev after_by : Bool → Bool → Bool → List Row
  after_by query creation terminal =
      cond query rows
      (cond creation (rows ++ new_row facts call good ∷ [])
      (cond terminal (filter (λ r. not (ends_with facts rows call.desc r.id)) rows) (map (λ r. cond (r.id == call.desc) (row_after facts call good r) r) rows)))

  stays_by : (q c t : Bool) → ((t && not q) && not c) ≡ false → is_live rows id ≡ true → is_live (after_by q c t) id ≡ true
  stays_by true c t none live = live
  stays_by false true t none live = live_more rows (new_row facts call good ∷ []) id live
  stays_by false false true none live = absurd (cc none)
  stays_by false false false none live = live_changed (λ r. cond (r.id == call.desc) (row_after facts call good r) r) keeps rows id ∙ live
    where
      by : (b : Bool) (r : Row) → (cond b (row_after facts call good r) r).id ≡ r.id
      by true r = refl
      by false r = refl

      keeps : (r : Row) → (cond (r.id == call.desc) (row_after facts call good r) r).id ≡ r.id
      keeps r = by (r.id == call.desc) r

  ended_by : (q c t : Bool) → ((t && not q) && not c) ≡ true → (is_live rows id && not (is_live (after_by q c t) id)) ≡ is_ended facts.subtree rows call.desc id
  ended_by true c true some = absurd (cc some)
  ended_by true c false some = absurd (cc some)
  ended_by false true true some = absurd (cc some)
  ended_by false true false some = absurd (cc some)
  ended_by false false false some = absurd (cc some)
  ended_by false false true some =
      ap (λ l. is_live rows id && not l) (live_left (λ x. not (ends_with facts rows call.desc x)) rows id)
      ∙ twice (is_live rows id) (ends_with facts rows call.desc id)
    where
      twice : (a b : Bool) → (a && not (a && not b)) ≡ (a && b)
      twice true true = refl
      twice true false = refl
      twice false b = refl

live_end : (rows : List Row) (r : Row) (x : ℕ) → (r.id == x) ≡ false → is_live (rows ++ r ∷ []) x ≡ is_live rows x
live_end [] r x apart = ap (λ b. b || false) apart
live_end (y ∷ rows) r x apart = ap (λ b. (y.id == x) || b) (live_end rows r x apart)

module _ (facts : Facts) (rows : List Row) (call : Call) (good : Good) (x : ℕ) where
  live_by : (q c t : Bool) → (c ≡ true → (good.desc == x) ≡ false) → is_live (after_by facts rows call good x q c t) x ≡ true → is_live rows x ≡ true
  live_by true c t new live = live
  live_by false true t new live = sym (live_end rows (new_row facts call good) x (new refl)) ∙ live
  live_by false false true new live = both (is_live rows x) (not (ends_with facts rows call.desc x)) (sym (live_left (λ y. not (ends_with facts rows call.desc y)) rows x) ∙ live)
    where
      both : (a b : Bool) → (a && b) ≡ true → a ≡ true
      both true b is = refl
      both false b is = absurd (cc is)
  live_by false false false new live = sym (live_changed (λ r. cond (r.id == call.desc) (row_after facts call good r) r) keeps rows x) ∙ live
    where
      by : (b : Bool) (r : Row) → (cond b (row_after facts call good r) r).id ≡ r.id
      by true r = refl
      by false r = refl

      keeps : (r : Row) → (cond (r.id == call.desc) (row_after facts call good r) r).id ≡ r.id
      keeps r = by (r.id == call.desc) r

-- an id that was given is live after a call where it was before
pub was_live : (facts : Facts) (t : Tracked) (call : Call) (reply : Reply) → MayTrack facts t call reply → (x : ℕ) → x ≤ t.given → is_live (track facts t.rows call reply) x ≡ true → is_live t.rows x ≡ true
was_live facts t call (Ok good) may x given live =
    let f = fun_at facts.funs call.fun in
    live_by facts t.rows call good x f.query f.creation f.terminal
    (λ made. let next = (may.makes made).place.next in grind (arith, nat_tests, next, given)) live
was_live facts t call (Refused code) may x given live = live

-- no id is taken back
pub given_grows : (facts : Facts) (given : ℕ) (call : Call) (reply : Reply) → given ≤ given_after facts given call reply
given_grows facts given call (Ok good) = at (fun_at facts.funs call.fun).creation
  where
    at : (b : Bool) → given ≤ cond b (given + 1) given
    at true = omega arith
    at false = omega arith
given_grows facts given call (Refused code) = omega arith

-- a call that ends no row takes no id its name
pub none_left : (facts : Facts) (rows : List Row) (call : Call) (reply : Reply) (id : ℕ) (named : Named) → ends_rows facts call reply ≡ false
    → named ≡ name_left rows (track facts rows call reply) id named
none_left facts rows call reply id named none = ap (λ b. cond b Unnamed named) (sym (at (is_live rows id) (is_live (track facts rows call reply) id) (by reply none)))
  where
    by : (r : Reply) → ends_rows facts call r ≡ false → is_live rows id ≡ true → is_live (track facts rows call r) id ≡ true
    by (Ok good) none live = let f = fun_at facts.funs call.fun in stays_by facts rows call good id f.query f.creation f.terminal none live
    by (Refused code) none live = live

    at : (a b : Bool) → (a ≡ true → b ≡ true) → (a && not b) ≡ false
    at true true stays = refl
    at true false stays = let wrong : false ≡ true = stays refl in absurd (cc wrong)
    at false b stays = refl

-- a call that ends rows takes the live ids that end with its descriptor their names
pub ended_left : (facts : Facts) (rows : List Row) (call : Call) (reply : Reply) (id : ℕ) (named : Named) → ends_rows facts call reply ≡ true
    → cond (is_ended facts.subtree rows call.desc id) Unnamed named ≡ name_left rows (track facts rows call reply) id named
ended_left facts rows call reply id named some = ap (λ b. cond b Unnamed named) (sym (by reply some))
  where
    by : (r : Reply) → ends_rows facts call r ≡ true → (is_live rows id && not (is_live (track facts rows call r) id)) ≡ is_ended facts.subtree rows call.desc id
    by (Ok good) some = let f = fun_at facts.funs call.fun in ended_by facts rows call good id f.query f.creation f.terminal some
    by (Refused code) some = absurd (cc some)

-- one step up, from an id that isn't the one that is looked for
pub one_higher : (given : ℕ) (rows : List Row) → AreTracked given rows → (above id : ℕ) → (id ≡ 0 → ⊥) → (id ≡ above → ⊥)
    → list_any (λ a. a == above) (up_from rows id) ≡ list_any (λ a. a == above) (up_from rows (parent_in (row_at rows id)))
one_higher given rows tracked above id some other =
    ap (λ b. list_any (λ a. a == above) (cond b [] (id ∷ ancestors rows id))) (two id 0 some)
    ∙ ap (λ b. b || is_ancestor rows above id) (two id above other)
    ∙ ap (list_any (λ a. a == above)) (from_parent 0 given id rows tracked)
  where
    two : (a b : ℕ) → (a ≡ b → ⊥) → (a == b) ≡ false
    two a b no_one = elim (eqb_tells a b) [ inl same ↦ absurd (no_one same.1) | inr apart ↦ apart.0 ]

-- the way up is past an id, or at it
pub past : (given : ℕ) (rows : List Row) → AreTracked given rows → (above id : ℕ) → (above < id → ⊥) → list_any (λ a. a == above) (up_from rows id) ≡ (not (id == 0) && (id == above))
past given rows tracked above id most = at (id == 0) (id == above) refl
  where
    at : (z s : Bool) → (id == above) ≡ s → list_any (λ a. a == above) (cond z [] (id ∷ ancestors rows id)) ≡ (not z && s)
    at true s is = refl
    at false true is = ap (λ b. b || is_ancestor rows above id) is
    at false false is =
        let less : id < above = grind (arith, nat_tests) in
        ends_lower above 0 given rows tracked id less

-- ---- names that go, row by row

-- one more row
live_suc : (rows : List Row) (at id : ℕ) → option_map (λ r. r.id) (slice_get rows at) ≡ Some id → (x : ℕ) → is_live (take (suc at) rows) x ≡ (is_live (take at rows) x || (id == x))
live_suc [] at id is x = absurd (cc is)
live_suc (r ∷ rows) zero id is x = let same : r.id ≡ id = cc is in ap (λ n. (n == x) || false) same ∙ or_false (id == x)
live_suc (r ∷ rows) (suc at) id is x = ap (λ b. (r.id == x) || b) (live_suc rows at id is x) ∙ or_or (r.id == x) (is_live (take at rows) x) (id == x)

pub live_step : (rows : List Row) (at id : ℕ) → option_map (λ r. r.id) (slice_get rows at) ≡ Some id → (x : ℕ) → is_live (take (at + 1) rows) x ≡ (is_live (take at rows) x || (id == x))
live_step rows at id is x = let next : at + 1 ≡ suc at = omega arith in ap (λ n. is_live (take n rows) x) next ∙ live_suc rows at id is x

pub take_all : (rows : List Row) (at : ℕ) → length rows ≤ at → take at rows ≡ rows
take_all [] zero all = refl
take_all [] (suc at) all = refl
take_all (r ∷ rows) zero all = absurd (omega (arith, all))
take_all (r ∷ rows) (suc at) all = ap (λ l. r ∷ l) (take_all rows at (omega (arith, all)))

-- ids before an id's place are smaller
pub before_is : (id : ℕ) (front : List Row) → Each (λ r. r.id < id) front → (x : ℕ) → is_live front x ≡ true → x < id
before_is id [] all x live = absurd (cc live)
before_is id (r ∷ front) all x live = at (r.id == x) refl live (before_is id front all.1 x)
  where
    at : (b : Bool) → (r.id == x) ≡ b → (b || is_live front x) ≡ true → (is_live front x ≡ true → x < id) → x < id
    at true is live rest = omega (arith, all.0, one_id r.id x is)
    at false is live rest = rest live

-- the names of the first rows that end are gone
abbrev pub AreGone : List Row → ℕ → List (ℕ × Standing) → ℕ → List (ℕ × Standing) → Type 0
AreGone rows gone old at known = (x : ℕ) → named_at known x ≡ cond (is_live (take at rows) x && ends_below rows gone x) Unnamed (named_at old x)

module _ (given : ℕ) (rows : List Row) (tracked : AreTracked given rows) (gone : ℕ) (old : List (ℕ × Standing)) where
  -- those before the id's place don't end
  pub gone_none : (at : ℕ) → Each (λ r. r.id < gone) (take at rows) → AreGone rows gone old at old
  gone_none at before x = ap (λ b. cond b Unnamed (named_at old x)) (sym (by (is_live (take at rows) x) refl))
    where
      by : (b : Bool) → is_live (take at rows) x ≡ b → (b && ends_below rows gone x) ≡ false
      by true is = ends_lower gone 0 given rows tracked x (before_is gone (take at rows) before x is)
      by false is = refl

  module _ (at id : ℕ) (known : List (ℕ × Standing)) (here : option_map (λ r. r.id) (slice_get rows at) ≡ Some id) (so_far : AreGone rows gone old at known) where
    -- a row that ends
    pub gone_more : (new : List (ℕ × Standing)) → ends_below rows gone id ≡ true → ((x : ℕ) → named_at new x ≡ cond (x == id) Unnamed (named_at known x)) → AreGone rows gone old (at + 1) new
    gone_more new ends names x =
        names x ∙ ap (λ named. cond (x == id) Unnamed named) (so_far x)
        ∙ by (x == id) refl (is_live (take at rows) x)
        ∙ ap (λ b. cond (b && ends_below rows gone x) Unnamed (named_at old x)) (sym (live_step rows at id here x))
      where
        by : (s : Bool) → (x == id) ≡ s → (l : Bool) → cond s Unnamed (cond (l && ends_below rows gone x) Unnamed (named_at old x)) ≡ cond ((l || (id == x)) && ends_below rows gone x) Unnamed (named_at old x)
        by true is l =
            let same : x ≡ id = one_id x id is in
            let ends_x : ends_below rows gone x ≡ true = ap (ends_below rows gone) same ∙ ends in
            let turned : (id == x) ≡ true = grind (arith, nat_tests, same) in
            ap (λ b. cond b Unnamed (named_at old x)) (sym (ap (λ b. (l || b) && ends_below rows gone x) turned ∙ ap (λ b. (l || true) && b) ends_x ∙ and_true (l || true) ∙ or_true l))
        by false is l =
            let apart : (id == x) ≡ false = grind (arith, nat_tests) in
            ap (λ b. cond (b && ends_below rows gone x) Unnamed (named_at old x)) (sym (ap (λ b. l || b) apart ∙ or_false l))

    -- a row that stays
    gone_same : ends_below rows gone id ≡ false → AreGone rows gone old (at + 1) known
    gone_same stays x =
        so_far x ∙ ap (λ b. cond b Unnamed (named_at old x)) (by (id == x) refl (is_live (take at rows) x))
        ∙ ap (λ b. cond (b && ends_below rows gone x) Unnamed (named_at old x)) (sym (live_step rows at id here x))
      where
        by : (s : Bool) → (id == x) ≡ s → (l : Bool) → (l && ends_below rows gone x) ≡ ((l || s) && ends_below rows gone x)
        by true is l =
            let stays_x : ends_below rows gone x ≡ false = ap (ends_below rows gone) (sym (one_id id x is)) ∙ stays in
            ap (λ b. l && b) stays_x ∙ and_false l ∙ sym (ap (λ b. (l || true) && b) stays_x ∙ and_false (l || true))
        by false is l = ap (λ b. b && ends_below rows gone x) (sym (or_false l))

    -- a row that ends and has no name
    gone_unnamed : ends_below rows gone id ≡ true → named_at known id ≡ Unnamed → AreGone rows gone old (at + 1) known
    gone_unnamed ends none x =
        by (id == x) refl (is_live (take at rows) x) (so_far x)
        ∙ ap (λ b. cond (b && ends_below rows gone x) Unnamed (named_at old x)) (sym (live_step rows at id here x))
      where
        by : (s : Bool) → (id == x) ≡ s → (l : Bool) → named_at known x ≡ cond (l && ends_below rows gone x) Unnamed (named_at old x)
            → named_at known x ≡ cond ((l || s) && ends_below rows gone x) Unnamed (named_at old x)
        by true is l so =
            let same : x ≡ id = sym (one_id id x is) in
            let ends_x : ends_below rows gone x ≡ true = ap (ends_below rows gone) same ∙ ends in
            ap (named_at known) same ∙ none ∙ ap (λ b. cond b Unnamed (named_at old x)) (sym (ap (λ b. (l || true) && b) ends_x ∙ and_true (l || true) ∙ or_true l))
        by false is l so = so ∙ ap (λ b. cond (b && ends_below rows gone x) Unnamed (named_at old x)) (sym (or_false l))

    -- a row that stays, or has no name
    pub gone_kept : (is_named (named_at known id) && ends_below rows gone id) ≡ false → AreGone rows gone old (at + 1) known
    gone_kept kept = by (named_at known id) refl (ends_below rows gone id) refl kept
      where
        by : (named : Named) → named_at known id ≡ named → (e : Bool) → ends_below rows gone id ≡ e → (is_named named && e) ≡ false → AreGone rows gone old (at + 1) known
        by named is false ends test = gone_same ends
        by Unnamed is true ends test = gone_unnamed ends is
        by (Partial real done) is true ends test = absurd (cc test)
        by (Live real) is true ends test = absurd (cc test)

  -- each row was looked at
  pub gone_all : (at : ℕ) (known : List (ℕ × Standing)) → length rows ≤ at → AreGone rows gone old at known → (x : ℕ) → named_at known x ≡ cond (is_ended true rows gone x) Unnamed (named_at old x)
  gone_all at known all so_far x = so_far x ∙ ap (λ l. cond (is_live l x && ends_below rows gone x) Unnamed (named_at old x)) (take_all rows at all)

module _ (rows : List Row) (gone x : ℕ) (named : Named) where
  -- a live id ends with itself
  pub itself_goes : is_live rows gone ≡ true → cond (x == gone) Unnamed named ≡ cond (is_ended false rows gone x) Unnamed named
  itself_goes live = ap (λ b. cond b Unnamed named) (at (x == gone) refl)
    where
      at : (b : Bool) → (x == gone) ≡ b → b ≡ (is_live rows x && (b || false))
      at true is = sym (and_true (is_live rows x) ∙ ap (is_live rows) (one_id x gone is) ∙ live)
      at false is = sym (and_false (is_live rows x))

  -- one that isn't live takes none with it
  pub none_goes : is_live rows gone ≡ false → named ≡ cond (is_ended false rows gone x) Unnamed named
  none_goes none = ap (λ b. cond b Unnamed named) (sym (at (x == gone) refl))
    where
      at : (b : Bool) → (x == gone) ≡ b → (is_live rows x && (b || false)) ≡ false
      at true is = and_true (is_live rows x) ∙ ap (is_live rows) (one_id x gone is) ∙ none
      at false is = and_false (is_live rows x)

-- under subtree an id without children ends alone
pub alone : (rows : List Row) (gone : ℕ) (subtree : Bool) → (subtree ≡ true → has_child rows gone ≡ false) → (x : ℕ) → is_ended false rows gone x ≡ is_ended subtree rows gone x
alone rows gone false none x = refl
alone rows gone true none x = ap (λ b. is_live rows x && ((x == gone) || b)) (sym (childless gone rows x (none refl)))

-- ---- names that go

-- a service id is that of a name
real_named : (known : List (ℕ × Standing)) (id : ℕ) → real_of (named_at known id) ≡ real_at known id
real_named known id = at (lookup (nat_eq id) known)
  where
    by : (done : Option ℕ) (real : ℕ) → real_of (name_by done real) ≡ Some real
    by None real = refl
    by (Some n) real = refl

    at : (o : Option Standing) → real_of (name_of o) ≡ option_map (λ s. s.real) o
    at None = refl
    at (Some s) = by s.done s.real

module _ (old new : List (ℕ × Standing)) (gone : ℕ → Bool) (names : (id : ℕ) → named_at new id ≡ cond (gone id) Unnamed (named_at old id)) where
  real_before : (id real : ℕ) → real_at new id ≡ Some real → real_at old id ≡ Some real
  real_before id real is = at (gone id) (sym (ap real_of (names id)) ∙ real_named new id ∙ is)
    where
      at : (b : Bool) → real_of (cond b Unnamed (named_at old id)) ≡ Some real → real_at old id ≡ Some real
      at true is = absurd (cc is)
      at false is = sym (real_named old id) ∙ is

  -- the service ids that are left were given
  pub given_left : (running : Option Object) → AreGiven running old → AreGiven running new
  given_left None given = tt
  given_left (Some held) given = λ id real is. given id real (real_before id real is)

  -- the descriptors that are left are in their walks
  pub walks_left : AreInWalks old → AreInWalks new
  walks_left walks id real done is = at (gone id) (sym (names id) ∙ is)
    where
      at : (b : Bool) → cond b Unnamed (named_at old id) ≡ Partial real done → done < most_calls
      at true is = absurd (cc is)
      at false is = walks id real done is

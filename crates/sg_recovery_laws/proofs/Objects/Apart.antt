-- What an answered call of one client leaves of another's rows, and what it does to its own: both are told by that client's rows alone.
use Rattle.std.proofs.Common.{◌≡◌, ℕ, zero, suc, ◌+◌, ◌≤◌, Bool, true, false, cond, not, List, [], ◌∷◌, ◌++◌, None, Some, map, filter, refl, sym, ◌∙◌, ap, subst, inl, inr, ◌⊎◌, arith}
use Rattle.std.specs.Prelude.{◌==◌, ◌||◌, ◌&&◌}
use Rattle.std.specs.List.{list_any}
use Rattle.std.specs.declared.option.Option.{Option}
use Rattle.std.proofs.lemmas.Bool.Decides.{eqb_tells}
use Rattle.sg_facts.specs.sg_base.Lists.{Each}
use Rattle.sg_facts.specs.sg_base.declared.call.Call.{Call}
use Rattle.sg_facts.specs.sg_base.declared.reply.Good.{Good}
use Rattle.sg_facts.specs.declared.row.Row.{Row}
use Rattle.sg_facts.specs.Facts.{Facts, fun_at}
use Rattle.sg_facts.specs.Sound.{AreRows}
use Rattle.sg_facts.specs.Track.{ancestors, is_ancestor, nearest, new_row, row_at, rows_after}
use Rattle.sg_facts.specs.Inside.Rows.{row_after}
use Rattle.sg_facts.proofs.RowLists.{id_of_row, row_at-left, row_at-more}
use Rattle.sg_recovery_laws.specs.Objects.Apart.{AreOwn, HasOwnParent, SameFor}
use Rattle.sg_facts.proofs.Replaying.Above.{one_above}
use Rattle.sg_recovery_laws.proofs.Objects.Changed.{change_at}
use Rattle.sg_facts.proofs.Replaying.Found.{above, from_left, from_map, from_more, last_found, other_test, same_test, to_map}
use Rattle.sg_recovery_laws.proofs.Objects.Left.{stays}

-- ---- the same rows

pub same_self : (c : ℕ) (rows : List Row) → SameFor c rows rows
same_self c rows = record { there = λ id r there own. there; back = λ id r there own. there }

pub same_back : (c : ℕ) (rows rows' : List Row) → SameFor c rows rows' → SameFor c rows' rows
same_back c rows rows' same = record { there = same.back; back = same.there }

pub same_on : (c : ℕ) (rows rows' rows'' : List Row) → SameFor c rows rows' → SameFor c rows' rows'' → SameFor c rows rows''
same_on c rows rows' rows'' one two = record {
  there = λ id r there own. two.there id r (one.there id r there own) own;
  back = λ id r there own. one.back id r (two.back id r there own) own;
}

-- rows are the same where they are so for each client
pub found_same : (rows rows' : List Row) → ((c : ℕ) → SameFor c rows rows') → (id : ℕ) → row_at rows' id ≡ row_at rows id
found_same rows rows' same id = at (row_at rows id) refl (row_at rows' id) refl
  where
    at : (x : Option Row) → row_at rows id ≡ x → (y : Option Row) → row_at rows' id ≡ y → row_at rows' id ≡ row_at rows id
    at None none None also = also ∙ sym none
    at None none (Some s) is = let back : row_at rows id ≡ Some s = (same s.creator).back id s is refl in absurd (cc (back, none))
    at (Some r) is y also = (same r.creator).there id r is refl ∙ sym is

abbrev pub Ascends : ℕ → ℕ → List Row → Type 0
Ascends low high rows = AreRows (λ r. Unit {0}) low high rows

first_gone : (low high : ℕ) (r : Row) (rows : List Row) → Ascends low high rows → r.id ≤ low → row_at rows r.id ≡ None
first_gone low high r [] are le = refl
first_gone low high r (x ∷ rows) are le =
    ap (λ b. cond b (Some x) (row_at rows r.id)) (other_test x.id r.id (λ is. absurd (omega (arith, is, le, are.0)))) ∙ first_gone x.id high r rows are.3 (omega (arith, le, are.0))

-- ascending rows are told by what is found by each id
pub rows_same : (low high low' high' : ℕ) (rows rows' : List Row) → Ascends low high rows → Ascends low' high' rows' → ((id : ℕ) → row_at rows' id ≡ row_at rows id) → rows' ≡ rows
rows_same low high low' high' [] [] are also same = refl
rows_same low high low' high' [] (y ∷ ys) are also same =
    let is : cond (y.id == y.id) (Some y) (row_at ys y.id) ≡ None = same y.id in
    let found : Some y ≡ None = sym (ap (λ b. cond b (Some y) (row_at ys y.id)) (same_test y.id y.id refl)) ∙ is in
    absurd (cc found)
rows_same low high low' high' (x ∷ xs) [] are also same =
    let is : None ≡ cond (x.id == x.id) (Some x) (row_at xs x.id) = same x.id in
    let found : None ≡ Some x = is ∙ ap (λ b. cond b (Some x) (row_at xs x.id)) (same_test x.id x.id refl) in
    absurd (cc found)
rows_same low high low' high' (x ∷ xs) (y ∷ ys) are also same =
    let at_x : row_at (y ∷ ys) x.id ≡ Some x = same x.id ∙ ap (λ b. cond b (Some x) (row_at xs x.id)) (same_test x.id x.id refl) in
    let at_y : row_at (x ∷ xs) y.id ≡ Some y = sym (same y.id) ∙ ap (λ b. cond b (Some y) (row_at ys y.id)) (same_test y.id y.id refl) in
    let one : y ≡ x = elim (eqb_tells y.id x.id) [
      | inl is ↦ let both : Some y ≡ Some x = sym (ap (λ b. cond b (Some y) (row_at ys x.id)) is.0) ∙ at_x in cc both
      | inr apart ↦
          let later_x : row_at ys x.id ≡ Some x = sym (ap (λ b. cond b (Some y) (row_at ys x.id)) apart.0) ∙ at_x in
          let later_y : row_at xs y.id ≡ Some y = sym (ap (λ b. cond b (Some x) (row_at xs y.id)) (other_test x.id y.id (λ is. apart.1 (sym is)))) ∙ at_y in
          let lx = above (λ r. Unit {0}) y.id high' x.id ys x also.3 later_x in
          let ly = above (λ r. Unit {0}) x.id high y.id xs y are.3 later_y in
          absurd (omega (arith, lx, ly))
    ] in
    ap (λ z. z ∷ ys) one ∙ ap (λ l. x ∷ l) (rows_same x.id high y.id high' xs ys are.3 also.3 (λ id. rest one id (eqb_tells x.id id)))
  where
    rest : y ≡ x → (id : ℕ) → ((x.id == id) ≡ true) × (x.id ≡ id) ⊎ ((x.id == id) ≡ false) × (x.id ≡ id → ⊥) → row_at ys id ≡ row_at xs id
    rest one id (inl is) =
        ap (row_at ys) (sym is.1) ∙ first_gone y.id high' x ys also.3 (omega (arith, ap (λ r. r.id) one)) ∙ sym (first_gone x.id high x xs are.3 (omega arith)) ∙ ap (row_at xs) is.1
    rest one id (inr apart) =
        sym (ap (λ b. cond b (Some y) (row_at ys id)) (ap (λ r. r.id == id) one ∙ apart.0)) ∙ same id ∙ ap (λ b. cond b (Some x) (row_at xs id)) apart.0

-- ---- what stands above a client's row

-- its rows alone
pub record IsOwnRow (rows : List Row) (c id : ℕ) : Type 0 where
  pub row : Row
  pub of : row_at rows id ≡ Some row
  pub own : row.creator ≡ c

pub above_own : (rows : List Row) (n id : ℕ) (r : Row) → AreOwn rows → row_at rows id ≡ Some r → Each (IsOwnRow rows r.creator) (nearest rows n id)
above_own rows zero id r own there = tt
above_own rows (suc n) id r own there = subst (Each (IsOwnRow rows r.creator)) (sym (one_above rows n id r there)) (at (r.parent == 0) refl (own id r there) (λ x of. above_own rows n r.parent x own of))
  where
    at : (b : Bool) → (r.parent == 0) ≡ b → (r.parent ≡ 0) ⊎ HasOwnParent rows r → ((x : Row) → row_at rows r.parent ≡ Some x → Each (IsOwnRow rows x.creator) (nearest rows n r.parent))
        → Each (IsOwnRow rows r.creator) (cond b [] (r.parent ∷ nearest rows n r.parent))
    at true is its rest = tt
    at false is (inl none) rest = absurd (let test = same_test r.parent 0 none in cc (is, test))
    at false is (inr has) rest =
        (record { row = has.row; of = has.of; own = has.own }, subst (λ c. Each (IsOwnRow rows c) (nearest rows n r.parent)) has.own (rest has.row has.of))

pub none_above : (rows : List Row) (c desc : ℕ) (ids : List ℕ) → Each (IsOwnRow rows c) ids → ((r : Row) → row_at rows desc ≡ Some r → r.creator ≡ c → ⊥) → list_any (λ a. a == desc) ids ≡ false
none_above rows c desc [] each not_own = refl
none_above rows c desc (a ∷ ids) each not_own =
    ap (λ b. b || list_any (λ a. a == desc) ids) (other_test a desc (λ is. not_own each.0.row (ap (row_at rows) (sym is) ∙ each.0.of) each.0.own)) ∙ none_above rows c desc ids each.1 not_own

pub nearest_same : (rows rows' : List Row) (n id : ℕ) (r : Row) → AreOwn rows → SameFor r.creator rows rows' → row_at rows id ≡ Some r → nearest rows' n id ≡ nearest rows n id
nearest_same rows rows' zero id r own same there = refl
nearest_same rows rows' (suc n) id r own same there =
    one_above rows' n id r (same.there id r there refl) ∙ at (r.parent == 0) refl (own id r there) (λ x so of. nearest_same rows rows' n r.parent x own so of) ∙ sym (one_above rows n id r there)
  where
    at : (b : Bool) → (r.parent == 0) ≡ b → (r.parent ≡ 0) ⊎ HasOwnParent rows r
        → ((x : Row) → SameFor x.creator rows rows' → row_at rows r.parent ≡ Some x → nearest rows' n r.parent ≡ nearest rows n r.parent)
        → cond b [] (r.parent ∷ nearest rows' n r.parent) ≡ cond b [] (r.parent ∷ nearest rows n r.parent)
    at true is its rest = refl
    at false is (inl none) rest = absurd (let test = same_test r.parent 0 none in cc (is, test))
    at false is (inr has) rest = ap (λ l. r.parent ∷ l) (rest has.row (subst (λ c. SameFor c rows rows') (sym has.own) same) has.of)

pub stays_same : (facts : Facts) (rows rows' : List Row) (desc id : ℕ) (r : Row) → AreOwn rows → SameFor r.creator rows rows' → row_at rows id ≡ Some r
    → stays facts rows' desc id ≡ stays facts rows desc id
stays_same facts rows rows' desc id r own same there =
    ap (λ ids. not ((id == desc) || (facts.subtree && list_any (λ a. a == desc) ids))) (nearest_same rows rows' id id r own same there)

-- ---- an answered call

module _ (facts : Facts) (call : Call) (good : Good) where
  -- what it does, by what its function is
  pub query_keeps : (rows : List Row) → (fun_at facts.funs call.fun).query ≡ true → rows_after facts rows call good ≡ rows
  query_keeps rows query = rw query refl

  pub makes_row : (rows : List Row) → (fun_at facts.funs call.fun).query ≡ false → (fun_at facts.funs call.fun).creation ≡ true → rows_after facts rows call good ≡ rows ++ new_row facts call good ∷ []
  makes_row rows row makes = rw (row, makes) refl

  pub ends_rows : (rows : List Row) → (fun_at facts.funs call.fun).query ≡ false → (fun_at facts.funs call.fun).creation ≡ false → (fun_at facts.funs call.fun).terminal ≡ true
      → rows_after facts rows call good ≡ filter (λ r. stays facts rows call.desc r.id) rows
  ends_rows rows row makes ends = rw (row, makes, ends) refl

  pub changes_row : (rows : List Row) → (fun_at facts.funs call.fun).query ≡ false → (fun_at facts.funs call.fun).creation ≡ false → (fun_at facts.funs call.fun).terminal ≡ false
      → rows_after facts rows call good ≡ map (change_at facts call good) rows
  changes_row rows row makes ends = rw (row, makes, ends) refl

  -- it is called on a row of its client's, or makes a row
  pub record IsOnOwn (rows : List Row) (given : ℕ) : Type 0 where
    pub on : (fun_at facts.funs call.fun).query ≡ false → (fun_at facts.funs call.fun).creation ≡ false → IsOwnRow rows call.client call.desc
    pub next : (fun_at facts.funs call.fun).creation ≡ true → good.desc ≡ given + 1

  -- what it keeps of the row that it changes, it keeps of each
  kept_at : (part : Row → ℕ) → ((r : Row) → part (row_after facts call good r) ≡ part r) → (r : Row) → part (change_at facts call good r) ≡ part r
  kept_at part keeps r = at (r.id == call.desc)
    where
      at : (b : Bool) → part (cond b (row_after facts call good r) r) ≡ part r
      at true = keeps r
      at false = refl

  same_id_at : (r : Row) → (change_at facts call good r).id ≡ r.id
  same_id_at = kept_at (λ r. r.id) (λ r. refl)

  same_creator_at : (r : Row) → (change_at facts call good r).creator ≡ r.creator
  same_creator_at = kept_at (λ r. r.creator) (λ r. refl)

  same_parent_at : (r : Row) → (change_at facts call good r).parent ≡ r.parent
  same_parent_at = kept_at (λ r. r.parent) (λ r. refl)

  -- it leaves the rows of others
  module _ (rows : List Row) (given d : ℕ) (own : AreOwn rows) (acts : IsOnOwn rows given) (other : call.client ≡ d → ⊥) where
    not_on : IsOwnRow rows call.client call.desc → (id : ℕ) (r : Row) → row_at rows id ≡ Some r → r.creator ≡ d → id ≡ call.desc → ⊥
    not_on on id r there its same =
        let one : Some on.row ≡ Some r = sym on.of ∙ ap (row_at rows) (sym same) ∙ there in
        let rows_are : on.row ≡ r = cc one in
        other (sym on.own ∙ ap (λ x. x.creator) rows_are ∙ its)

    pub leaves_others : SameFor d rows (rows_after facts rows call good)
    leaves_others = by_query (fun_at facts.funs call.fun).query refl
      where
        made : (fun_at facts.funs call.fun).query ≡ false → (fun_at facts.funs call.fun).creation ≡ true → SameFor d rows (rows_after facts rows call good)
        made row makes = subst (SameFor d rows) (sym (makes_row rows row makes)) (record {
          there = λ id r there its. row_at-more rows (new_row facts call good) r id there;
          back = λ id r there its. elim (from_more (λ x. Unit {0}) 0 0 rows (new_row facts call good) r id there) [
            | inl old ↦ old
            | inr new ↦ absurd (other (sym (ap (λ x. x.creator) new.0) ∙ its))
          ];
        })

        ended : (fun_at facts.funs call.fun).query ≡ false → (fun_at facts.funs call.fun).creation ≡ false → (fun_at facts.funs call.fun).terminal ≡ true → SameFor d rows (rows_after facts rows call good)
        ended row makes ends =
            let on = acts.on row makes in
            subst (SameFor d rows) (sym (ends_rows rows row makes ends)) (record {
              there = λ id r there its.
                  let above : list_any (λ a. a == call.desc) (ancestors rows id) ≡ false
                  = none_above rows r.creator call.desc (ancestors rows id) (above_own rows id id r own there)
                  (λ x of its_own. let one : Some x ≡ Some on.row = sym of ∙ on.of in let same : x ≡ on.row = cc one in other (sym on.own ∙ sym (ap (λ y. y.creator) same) ∙ its_own ∙ its)) in
                  let stay : stays facts rows call.desc id ≡ true
                  = ap (λ b. not (b || (facts.subtree && is_ancestor rows call.desc id))) (other_test id call.desc (not_on on id r there its))
                  ∙ ap (λ b. not (facts.subtree && b)) above ∙ no_more facts.subtree in
                  row_at-left (stays facts rows call.desc) rows id stay ∙ there;
              back = λ id r there its. (from_left (stays facts rows call.desc) rows id r there).there;
            })
          where
            no_more : (s : Bool) → not (s && false) ≡ true
            no_more true = refl
            no_more false = refl

        changes : (fun_at facts.funs call.fun).query ≡ false → (fun_at facts.funs call.fun).creation ≡ false → (fun_at facts.funs call.fun).terminal ≡ false → SameFor d rows (rows_after facts rows call good)
        changes row makes ends =
            let on = acts.on row makes in
            subst (SameFor d rows) (sym (changes_row rows row makes ends)) (record {
              there = λ id r there its.
                  let id_is : r.id ≡ id = id_of_row rows id r there in
                  to_map (change_at facts call good) same_id_at rows id r there
                  ∙ ap (λ b. Some (cond b (row_after facts call good r) r)) (other_test r.id call.desc (λ is. not_on on id r there its (sym id_is ∙ is)));
              back = λ id r there its.
                  let was = from_map (change_at facts call good) same_id_at rows id r there in
                  let creator : was.row.creator ≡ d = sym (same_creator_at was.row) ∙ ap (λ x. x.creator) was.is ∙ its in
                  let id_is : was.row.id ≡ id = id_of_row rows id was.row was.there in
                  let same : was.row ≡ r
                  = sym (ap (λ b. cond b (row_after facts call good was.row) was.row) (other_test was.row.id call.desc (λ is. not_on on id was.row was.there creator (sym id_is ∙ is)))) ∙ was.is in
                  was.there ∙ ap (λ x. Some x) same;
            })

        by_terminal : (b : Bool) → (fun_at facts.funs call.fun).query ≡ false → (fun_at facts.funs call.fun).creation ≡ false → (fun_at facts.funs call.fun).terminal ≡ b → SameFor d rows (rows_after facts rows call good)
        by_terminal true row makes ends = ended row makes ends
        by_terminal false row makes ends = changes row makes ends

        by_creation : (b : Bool) → (fun_at facts.funs call.fun).query ≡ false → (fun_at facts.funs call.fun).creation ≡ b → SameFor d rows (rows_after facts rows call good)
        by_creation true row makes = made row makes
        by_creation false row makes = by_terminal (fun_at facts.funs call.fun).terminal row makes refl

        by_query : (b : Bool) → (fun_at facts.funs call.fun).query ≡ b → SameFor d rows (rows_after facts rows call good)
        by_query true query = subst (SameFor d rows) (sym (query_keeps rows query)) (same_self d rows)
        by_query false row = by_creation (fun_at facts.funs call.fun).creation row refl

  -- what it does to the rows of its client is told by these
  pub acts_alike : (rows rows' : List Row) (given : ℕ) → Ascends 0 given rows → Ascends 0 given rows' → AreOwn rows → AreOwn rows' → IsOnOwn rows given → SameFor call.client rows rows'
      → SameFor call.client (rows_after facts rows call good) (rows_after facts rows' call good)
  acts_alike rows rows' given are are' own own' acts same = by_query (fun_at facts.funs call.fun).query refl
    where
      both : (xs ys : List Row) → rows_after facts rows call good ≡ xs → rows_after facts rows' call good ≡ ys → SameFor call.client xs ys → SameFor call.client (rows_after facts rows call good) (rows_after facts rows' call good)
      both xs ys one two so = subst (λ v. SameFor call.client v (rows_after facts rows' call good)) (sym one) (subst (SameFor call.client xs) (sym two) so)

      made_there : (xs ys : List Row) → Ascends 0 given ys → good.desc ≡ given + 1 → SameFor call.client xs ys → (id : ℕ) (r : Row) → row_at (xs ++ new_row facts call good ∷ []) id ≡ Some r → r.creator ≡ call.client
          → row_at (ys ++ new_row facts call good ∷ []) id ≡ Some r
      made_there xs ys are next so id r there its = elim (from_more (λ x. Unit {0}) 0 given xs (new_row facts call good) r id there) [
        | inl old ↦ row_at-more ys (new_row facts call good) r id (so.there id r old its)
        | inr new ↦ ap (row_at (ys ++ new_row facts call good ∷ [])) (sym new.1) ∙ last_found (λ x. Unit {0}) 0 given ys (new_row facts call good) are (omega (arith, next)) ∙ ap (λ x. Some x) (sym new.0)
      ]

      left_there : (xs ys : List Row) → AreOwn xs → SameFor call.client xs ys → (id : ℕ) (r : Row) → row_at (filter (λ x. stays facts xs call.desc x.id) xs) id ≡ Some r → r.creator ≡ call.client
          → row_at (filter (λ x. stays facts ys call.desc x.id) ys) id ≡ Some r
      left_there xs ys own so id r there its =
          let was = from_left (stays facts xs call.desc) xs id r there in
          let stay : stays facts ys call.desc id ≡ true = stays_same facts xs ys call.desc id r own (subst (λ c. SameFor c xs ys) (sym its) so) was.there ∙ was.stays in
          row_at-left (stays facts ys call.desc) ys id stay ∙ so.there id r was.there its

      changed_there : (xs ys : List Row) → SameFor call.client xs ys → (id : ℕ) (r : Row) → row_at (map (change_at facts call good) xs) id ≡ Some r → r.creator ≡ call.client
          → row_at (map (change_at facts call good) ys) id ≡ Some r
      changed_there xs ys so id r there its =
          let was = from_map (change_at facts call good) same_id_at xs id r there in
          let creator : was.row.creator ≡ call.client = sym (same_creator_at was.row) ∙ ap (λ x. x.creator) was.is ∙ its in
          to_map (change_at facts call good) same_id_at ys id was.row (so.there id was.row was.there creator) ∙ ap (λ x. Some x) was.is

      back : SameFor call.client rows' rows
      back = same_back call.client rows rows' same

      by_terminal : (b : Bool) → (fun_at facts.funs call.fun).query ≡ false → (fun_at facts.funs call.fun).creation ≡ false → (fun_at facts.funs call.fun).terminal ≡ b
          → SameFor call.client (rows_after facts rows call good) (rows_after facts rows' call good)
      by_terminal true row makes ends = both (filter (λ x. stays facts rows call.desc x.id) rows) (filter (λ x. stays facts rows' call.desc x.id) rows')
          (ends_rows rows row makes ends) (ends_rows rows' row makes ends) (record {
            there = left_there rows rows' own same;
            back = left_there rows' rows own' (same_back call.client rows rows' same);
          })
      by_terminal false row makes ends = both (map (change_at facts call good) rows) (map (change_at facts call good) rows')
          (changes_row rows row makes ends) (changes_row rows' row makes ends) (record {
            there = changed_there rows rows' same;
            back = changed_there rows' rows (same_back call.client rows rows' same);
          })

      by_creation : (b : Bool) → (fun_at facts.funs call.fun).query ≡ false → (fun_at facts.funs call.fun).creation ≡ b → SameFor call.client (rows_after facts rows call good) (rows_after facts rows' call good)
      by_creation true row makes = both (rows ++ new_row facts call good ∷ []) (rows' ++ new_row facts call good ∷ []) (makes_row rows row makes) (makes_row rows' row makes) (record {
        there = made_there rows rows' are' (acts.next makes) same;
        back = made_there rows' rows are (acts.next makes) (same_back call.client rows rows' same);
      })
      by_creation false row makes = by_terminal (fun_at facts.funs call.fun).terminal row makes refl

      by_query : (b : Bool) → (fun_at facts.funs call.fun).query ≡ b → SameFor call.client (rows_after facts rows call good) (rows_after facts rows' call good)
      by_query true query = both rows rows' (query_keeps rows query) (query_keeps rows' query) same
      by_query false row = by_creation (fun_at facts.funs call.fun).creation row refl

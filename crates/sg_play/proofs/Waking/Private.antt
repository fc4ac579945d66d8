-- In a private service no answered call of one client wakes another.
use Rattle.std.proofs.Common.{◌≡◌, ◌≢◌, ◌⊎◌, ℕ, zero, suc, ◌+◌, ◌≤◌, Bool, true, false, cond, not, ◌&&◌, ◌||◌, List, [], ◌∷◌, ◌++◌, None, Some, length, map, filter, refl, sym, ◌∙◌, ap, subst, inl, inr, arith}
use Rattle.std.specs.Prelude.{◌==◌, slice_get, unwrap_or}
use Rattle.std.specs.List.{list_all, list_any}
use Rattle.std.specs.declared.option.Option.{Option}
use Rattle.sg_facts.specs.sg_base.declared.call.Call.{Call}
use Rattle.sg_facts.specs.sg_base.declared.reply.Code.{Code}
use Rattle.sg_facts.specs.sg_base.declared.reply.Good.{Good}
use Rattle.sg_facts.specs.sg_base.declared.reply.Reply.{Reply}
use Rattle.sg_facts.specs.sg_base.declared.reply.Reply.TheVariants.{Ok, Refused}
use Rattle.sg_facts.specs.declared.entry.Entry.{Entry}
use Rattle.sg_facts.specs.declared.row.Row.{Row}
use Rattle.sg_facts.specs.Facts.{Facts, Fun, fun_at, no_fun, takes_desc, takes_parent}
use Rattle.sg_facts.specs.Guard.{guard}
use Rattle.sg_facts.specs.Interface.{Declared}
use Rattle.sg_facts.specs.Legal.{LegalFrom, Table, answer}
use Rattle.sg_facts.specs.Inside.Rows.{refused_or, object_from, parent_in}
use Rattle.sg_facts.specs.Object.{Object, after, empty_object, object_of}
use Rattle.sg_facts.specs.Track.{is_ancestor, nearest, new_row, row_at, rows_after}
use Rattle.sg_world.proofs.sg_recovery_laws.Objects.Apart.{IsOwnRow, changes_row, ends_rows, makes_row, query_keeps}
use Rattle.sg_world.proofs.sg_recovery_laws.Objects.Changed.{change_at, same_parent_at}
use Rattle.sg_world.proofs.sg_recovery_laws.Objects.Commute.{given_with, same_creator_at, same_id_at}
use Rattle.sg_world.proofs.sg_recovery_laws.Objects.Guarded.{ActsOnOne, acts, each_fun, keeps, let_pass, own_desc, own_parent}
use Rattle.sg_world.proofs.sg_recovery_laws.Objects.Left.{stays}
use Rattle.sg_world.specs.sg_recovery_laws.Objects.Serving.{IsService}
use Rattle.sg_plain.specs.sg_clients.WorldView.{wakes_seat}
use Rattle.sg_plain.specs.Answering.{no_query_waits}
use Rattle.sg_facts.proofs.Replaying.Found.{from_left, from_map, from_more, other_test}
use Rattle.sg_world.proofs.sg_world_laws.Waits.{block_keeps, waits_both}

-- ---- rows of clients

-- a row's parent is its creator's, if it has a row, and all ids of rows and parents were given
record IsOwnTree (rows : List Row) (given : ℕ) : Type 0 where
  own : (id : ℕ) (r x : Row) → row_at rows id ≡ Some r → row_at rows r.parent ≡ Some x → x.creator ≡ r.creator
  first : (id : ℕ) (r : Row) → row_at rows id ≡ Some r → 1 ≤ id
  last : (id : ℕ) (r : Row) → row_at rows id ≡ Some r → id ≤ given
  parent : (id : ℕ) (r : Row) → row_at rows id ≡ Some r → r.parent ≤ given

more_given : (rows : List Row) (given now : ℕ) → given ≤ now → IsOwnTree rows given → IsOwnTree rows now
more_given rows given now more is = record {
  own = is.own;
  first = is.first;
  last = λ id r there. omega (arith, more, is.last id r there);
  parent = λ id r there. omega (arith, more, is.parent id r there);
}

-- an Ok keeps them so
module _ (facts : Facts) (call : Call) (good : Good) (rows : List Row) (given : ℕ) (is : IsOwnTree rows given) (next : (fun_at facts.funs call.fun).creation ≡ true → good.desc ≡ given + 1)
    (parent : (fun_at facts.funs call.fun).query ≡ false → (fun_at facts.funs call.fun).creation ≡ true → takes_parent (fun_at facts.funs call.fun) ≡ true → (call.desc ≡ 0) ⊎ IsOwnRow rows call.client call.desc) where
  abbrev new : Row
  new = new_row facts call good

  none_at : (x : Row) → row_at rows 0 ≡ Some x → ⊥
  none_at x there = omega (arith, is.first 0 x there)

  tree_made : (fun_at facts.funs call.fun).query ≡ false → (fun_at facts.funs call.fun).creation ≡ true → IsOwnTree (rows ++ new ∷ []) (given + 1)
  tree_made row makes = record {
    own = λ id r x there up. own (from_more (λ y. Unit {0}) 0 0 rows new r id there) (from_more (λ y. Unit {0}) 0 0 rows new x r.parent up);
    first = λ id r there. elim (from_more (λ y. Unit {0}) 0 0 rows new r id there) [ inl old ↦ is.first id r old | inr made ↦ omega (arith, next makes, made.1) ];
    last = λ id r there. elim (from_more (λ y. Unit {0}) 0 0 rows new r id there) [ inl old ↦ omega (arith, is.last id r old) | inr made ↦ omega (arith, next makes, made.1) ];
    parent = λ id r there. elim (from_more (λ y. Unit {0}) 0 0 rows new r id there) [
      | inl old ↦ omega (arith, is.parent id r old)
      | inr made ↦ omega (arith, ap (λ y. y.parent) made.0, few (takes_parent (fun_at facts.funs call.fun)) (parent row makes))
    ];
  }
    where
      few : (b : Bool) → (b ≡ true → (call.desc ≡ 0) ⊎ IsOwnRow rows call.client call.desc) → cond b call.desc 0 ≤ given
      few false may = omega arith
      few true may = elim (may refl) [ inl none ↦ omega (arith, none) | inr its ↦ is.last call.desc its.row its.of ]

      above : (b : Bool) (x : Row) → (b ≡ true → (call.desc ≡ 0) ⊎ IsOwnRow rows call.client call.desc) → row_at rows (cond b call.desc 0) ≡ Some x → x.creator ≡ call.client
      above false x may up = absurd (none_at x up)
      above true x may up = elim (may refl) [
        | inl none ↦ absurd (none_at x (ap (row_at rows) (sym none) ∙ up))
        | inr its ↦ (let same : x ≡ its.row = let both : Some x ≡ Some its.row = sym up ∙ its.of in cc both in ap (λ y. y.creator) same ∙ its.own)
      ]

      own : {id : ℕ} {r x : Row} → (row_at rows id ≡ Some r) ⊎ ((r ≡ new) × (new.id ≡ id)) → (row_at rows r.parent ≡ Some x) ⊎ ((x ≡ new) × (new.id ≡ r.parent)) → x.creator ≡ r.creator
      own {id = id} {r = r} {x = x} (inl old) (inl up) = is.own id r x old up
      own {id = id} {r = r} {x = x} (inl old) (inr up) = absurd (omega (arith, next makes, up.1, is.parent id r old))
      own {id = id} {r = r} {x = x} (inr made) (inl up) =
          above (takes_parent (fun_at facts.funs call.fun)) x (parent row makes) (ap (λ (y : Row). row_at rows y.parent) (sym made.0) ∙ up) ∙ ap (λ y. y.creator) (sym made.0)
      own {id = id} {r = r} {x = x} (inr made) (inr up) = ap (λ y. y.creator) (up.0 ∙ sym made.0)

  tree_ended : IsOwnTree (filter (λ r. stays facts rows call.desc r.id) rows) given
  tree_ended = record {
    own = λ id r x there up. is.own id r x (from_left (stays facts rows call.desc) rows id r there).there (from_left (stays facts rows call.desc) rows r.parent x up).there;
    first = λ id r there. is.first id r (from_left (stays facts rows call.desc) rows id r there).there;
    last = λ id r there. is.last id r (from_left (stays facts rows call.desc) rows id r there).there;
    parent = λ id r there. is.parent id r (from_left (stays facts rows call.desc) rows id r there).there;
  }

  tree_changed : IsOwnTree (map (change_at facts call good) rows) given
  tree_changed = record {
    own = λ id r x there up.
        let was = from_map (change_at facts call good) (same_id_at facts call good) rows id r there in
        let over = from_map (change_at facts call good) (same_id_at facts call good) rows r.parent x up in
        let parent_is : r.parent ≡ was.row.parent = ap (λ y. y.parent) (sym was.is) ∙ same_parent_at facts call good was.row in
        ap (λ y. y.creator) (sym over.is) ∙ same_creator_at facts call good over.row
        ∙ is.own id was.row over.row was.there (ap (row_at rows) (sym parent_is) ∙ over.there)
        ∙ sym (same_creator_at facts call good was.row) ∙ ap (λ y. y.creator) was.is;
    first = λ id r there. let was = from_map (change_at facts call good) (same_id_at facts call good) rows id r there in is.first id was.row was.there;
    last = λ id r there. let was = from_map (change_at facts call good) (same_id_at facts call good) rows id r there in is.last id was.row was.there;
    parent = λ id r there.
        let was = from_map (change_at facts call good) (same_id_at facts call good) rows id r there in
        omega (arith, ap (λ y. y.parent) (sym was.is) ∙ same_parent_at facts call good was.row, is.parent id was.row was.there);
  }

  tree_after : IsOwnTree (rows_after facts rows call good) (given_with facts call given)
  tree_after = by_query (fun_at facts.funs call.fun).query refl
    where
      at_least : (b : Bool) → given ≤ cond b (given + 1) given
      at_least true = omega arith
      at_least false = omega arith

      by_terminal : (b : Bool) → (fun_at facts.funs call.fun).query ≡ false → (fun_at facts.funs call.fun).creation ≡ false → (fun_at facts.funs call.fun).terminal ≡ b → IsOwnTree (rows_after facts rows call good) given
      by_terminal true row makes ends = subst (λ l. IsOwnTree l given) (sym (ends_rows facts call good rows row makes ends)) tree_ended
      by_terminal false row makes ends = subst (λ l. IsOwnTree l given) (sym (changes_row facts call good rows row makes ends)) tree_changed

      by_creation : (b : Bool) → (fun_at facts.funs call.fun).query ≡ false → (fun_at facts.funs call.fun).creation ≡ b → IsOwnTree (rows_after facts rows call good) (cond b (given + 1) given)
      by_creation true row makes = subst (λ l. IsOwnTree l (given + 1)) (sym (makes_row facts call good rows row makes)) (tree_made row makes)
      by_creation false row makes = by_terminal (fun_at facts.funs call.fun).terminal row makes refl

      by_query : (b : Bool) → (fun_at facts.funs call.fun).query ≡ b → IsOwnTree (rows_after facts rows call good) (given_with facts call given)
      by_query true query =
          subst (λ l. IsOwnTree l (given_with facts call given)) (sym (query_keeps facts call good rows query))
          (more_given rows given (given_with facts call given) (at_least (fun_at facts.funs call.fun).creation) is)
      by_query false row = by_creation (fun_at facts.funs call.fun).creation row refl

-- ---- what is on which row

-- a function with a flag is one of the service's
in_range : (flag : Fun → Bool) (funs : List Fun) (n : ℕ) → flag no_fun ≡ false → flag (fun_at funs n) ≡ true → (1 ≤ n) × (n ≤ length funs)
in_range flag funs zero none is = absurd (cc (none, is))
in_range flag funs (suc n) none is = (omega arith, at funs n is)
  where
    at : (l : List Fun) (k : ℕ) → flag (unwrap_or (slice_get l k) no_fun) ≡ true → suc k ≤ length l
    at [] k has = absurd (cc (none, has))
    at (f ∷ l) zero has = omega arith
    at (f ∷ l) (suc k) has = omega (arith, at l k has)

ok_parts : (g : Option Code) (a : Option Reply) (good : Good) → refused_or g a ≡ Some (Ok good) → (g ≡ None) × (a ≡ Some (Ok good))
ok_parts None a good is = (refl, is)
ok_parts (Some code) a good is = absurd (cc is)

-- what is known of the function and the descriptor of a call that a client may make
pub record IsFitCall (facts : Facts) (call : Call) : Type 0 where
  pub first : 1 ≤ call.fun
  pub last : call.fun ≤ length facts.funs
  pub desc : takes_desc (fun_at facts.funs call.fun) ≡ false → takes_parent (fun_at facts.funs call.fun) ≡ false → call.desc ≡ 0

module _ (i : Declared) (ask : Table) (sound : Object → Type 0) (law : IsService i.facts ask sound) (alone : i.facts.global ≡ false) where
  made_well : (call : Call) → (fun_at i.facts.funs call.fun).creation ≡ true → ActsOnOne i.facts (fun_at i.facts.funs call.fun)
  made_well call makes = let range = in_range (λ f. f.creation) i.facts.funs call.fun refl makes in acts i.facts call.fun law.shape.shape range.0 range.1

  tree_next : (o : Object) (call : Call) (reply : Reply) → IsOwnTree o.rows o.given → answer i ask o call ≡ Some reply → IsOwnTree (after i.facts o call reply).rows (after i.facts o call reply).given
  tree_next o call (Refused code) tree legal = tree
  tree_next o call (Ok good) tree legal =
      let both = ok_parts (guard i o call) (ask o call) good legal in
      tree_after i.facts call good o.rows o.given tree (λ makes. law.keeps.next o call good both.1 makes)
      (λ row makes takes. own_parent i o call law.shape.shape alone (made_well call makes) (let_pass i o call row both.0) takes)

  tree_from : (o : Object) (history : List Entry) → IsOwnTree o.rows o.given → LegalFrom i ask o history → IsOwnTree (object_from i.facts o history).rows (object_from i.facts o history).given
  tree_from o [] tree legal = tree
  tree_from o (e ∷ history) tree legal = tree_from (after i.facts o e.call e.reply) history (tree_next o e.call e.reply tree legal.0) legal.1

  tree_of : (history : List Entry) → LegalFrom i ask empty_object history → IsOwnTree (object_of i.facts history).rows (object_of i.facts history).given
  tree_of history legal =
      tree_from empty_object history (record { own = λ id r x there up. absurd (cc there); first = λ id r there. absurd (cc there); last = λ id r there. absurd (cc there); parent = λ id r there. absurd (cc there) }) legal

  -- a call that passes is on a row of its client's, or on none
  own_or_none : (o : Object) (call : Call) → IsFitCall i.facts call → guard i o call ≡ None → (call.desc ≡ 0) ⊎ IsOwnRow o.rows call.client call.desc
  own_or_none o call fit passes = by_query (fun_at i.facts.funs call.fun).query refl
    where
      well : ActsOnOne i.facts (fun_at i.facts.funs call.fun)
      well = acts i.facts call.fun law.shape.shape fit.first fit.last

      by_parent : (b : Bool) → (fun_at i.facts.funs call.fun).query ≡ false → (fun_at i.facts.funs call.fun).creation ≡ true → takes_parent (fun_at i.facts.funs call.fun) ≡ b → (call.desc ≡ 0) ⊎ IsOwnRow o.rows call.client call.desc
      by_parent true row makes takes = own_parent i o call law.shape.shape alone well (let_pass i o call row passes) takes
      by_parent false row makes takes = inl (fit.desc (well.makes makes).2 takes)

      by_creation : (b : Bool) → (fun_at i.facts.funs call.fun).query ≡ false → (fun_at i.facts.funs call.fun).creation ≡ b → (call.desc ≡ 0) ⊎ IsOwnRow o.rows call.client call.desc
      by_creation true row makes = by_parent (takes_parent (fun_at i.facts.funs call.fun)) row makes refl
      by_creation false row makes = inr (own_desc i o call alone (let_pass i o call row passes) (well.on makes row).0)

      by_query : (b : Bool) → (fun_at i.facts.funs call.fun).query ≡ b → (call.desc ≡ 0) ⊎ IsOwnRow o.rows call.client call.desc
      by_query true query = let none = (keeps i.facts call.fun law.shape.shape fit.first fit.last).query query in inl (fit.desc none.0 none.1)
      by_query false row = by_creation (fun_at i.facts.funs call.fun).creation row refl

  -- who waits does so on a row of its own
  waits_on_own : (o : Object) (call : Call) → no_query_waits i.facts ≡ true → IsFitCall i.facts call → guard i o call ≡ None → ask o call ≡ None → IsOwnRow o.rows call.client call.desc
  waits_on_own o call queries fit passes none =
      let blocks : (fun_at i.facts.funs call.fun).block ≡ true = law.shape.blocks o call none in
      let makes = (block_keeps i.facts call.fun law.shape.shape fit.first fit.last blocks).0 in
      let each : list_all (λ f. not (f.query && f.block)) i.facts.funs ≡ true = sym (ap (λ g. g || list_all (λ f. not (f.query && f.block)) i.facts.funs) alone) ∙ queries in
      let row : (fun_at i.facts.funs call.fun).query ≡ false
      = no_query (fun_at i.facts.funs call.fun).query (fun_at i.facts.funs call.fun).block (each_fun (λ f. not (f.query && f.block)) i.facts.funs call.fun each fit.first fit.last) blocks in
      own_desc i o call alone (let_pass i o call row passes) ((acts i.facts call.fun law.shape.shape fit.first fit.last).on makes row).0
    where
      no_query : (q b : Bool) → not (q && b) ≡ true → b ≡ true → q ≡ false
      no_query false b is blocks = refl
      no_query true true is blocks = absurd (cc is)
      no_query true false is blocks = absurd (cc blocks)

-- ---- nobody is woken

-- none, or a row of another client's
record IsNotOf (rows : List Row) (client id : ℕ) : Type 0 where
  either : (id ≡ 0) ⊎ ((y : Row) × (row_at rows id ≡ Some y) × (y.creator ≡ client → ⊥))

none_above : (rows : List Row) (given n id d : ℕ) (r : Row) → IsOwnTree rows given → row_at rows id ≡ Some r → IsNotOf rows r.creator d → list_any (λ a. a == d) (nearest rows n id) ≡ false
none_above rows given zero id d r tree there not_of = refl
none_above rows given (suc n) id d r tree there not_of =
    ap (λ o. list_any (λ a. a == d) (cond (parent_in o == 0) [] (parent_in o ∷ nearest rows n (parent_in o)))) there
    ∙ by (r.parent == 0) refl (over n (row_at rows r.parent) refl (λ x up. none_above rows given n r.parent d x tree up (subst (λ c. IsNotOf rows c d) (sym (tree.own id r x there up)) not_of)))
  where
    over : (m : ℕ) (o : Option Row) → row_at rows r.parent ≡ o → ((x : Row) → row_at rows r.parent ≡ Some x → list_any (λ a. a == d) (nearest rows m r.parent) ≡ false) → list_any (λ a. a == d) (nearest rows m r.parent) ≡ false
    over m (Some x) is rest = rest x is
    over zero None is rest = refl
    over (suc m) None is rest = ap (λ o. list_any (λ a. a == d) (cond (parent_in o == 0) [] (parent_in o ∷ nearest rows m (parent_in o)))) is

    apart : (r.parent == 0) ≡ false → r.parent ≡ d → ⊥
    apart some same = elim not_of.either [
      | inl none ↦ (let wrong : r.parent ≡ 0 = same ∙ none in let test : (r.parent == 0) ≡ true = ap (λ n. n == 0) wrong in cc (some, test))
      | inr other ↦ other.2 (tree.own id r other.0 there (ap (row_at rows) same ∙ other.1))
    ]

    by : (b : Bool) → (r.parent == 0) ≡ b → list_any (λ a. a == d) (nearest rows n r.parent) ≡ false → list_any (λ a. a == d) (cond (r.parent == 0) [] (r.parent ∷ nearest rows n r.parent)) ≡ false
    by true is rest = ap (λ b. list_any (λ a. a == d) (cond b [] (r.parent ∷ nearest rows n r.parent))) is
    by false is rest =
        ap (λ b. list_any (λ a. a == d) (cond b [] (r.parent ∷ nearest rows n r.parent))) is
        ∙ ap (λ b. b || list_any (λ a. a == d) (nearest rows n r.parent)) (other_test r.parent d (apart is)) ∙ rest

-- so in a private service who waits isn't woken by an answered call of another client
pub unwoken : (i : Declared) (ask : Table) (sound : Object → Type 0) → IsService i.facts ask sound → i.facts.global ≡ false → no_query_waits i.facts ≡ true → (history : List Entry) → LegalFrom i ask empty_object history
    → (call other : Call) (reply : Reply) → IsFitCall i.facts call → IsFitCall i.facts other → call.client ≢ other.client
    → answer i ask (object_of i.facts history) call ≡ Some reply → answer i ask (object_of i.facts history) other ≡ None
    → wakes_seat i.facts (object_of i.facts history).rows call reply other ≡ false
unwoken i ask sound law alone queries history legal call other (Refused code) fit fit_other apart answered waits = refl
unwoken i ask sound law alone queries history legal call other (Ok good) fit fit_other apart answered waits =
    let o = object_of i.facts history in
    let tree = tree_of i ask sound law alone history legal in
    let passes = ok_parts (guard i o call) (ask o call) good answered in
    let passes_other = waits_both (guard i o other) (ask o other) waits in
    let its = waits_on_own i ask sound law alone o other queries fit_other passes_other.0 passes_other.1 in
    let not_of : IsNotOf o.rows its.row.creator call.desc = record { either = by_row o its (own_or_none i ask sound law alone o call fit passes.0) } in
    let differ : call.desc ≡ other.desc → ⊥ = λ same. elim not_of.either [
      | inl none ↦ omega (arith, none, same, tree.first other.desc its.row its.of)
      | inr y ↦ y.2 (let two : Some y.0 ≡ Some its.row = sym y.1 ∙ ap (row_at o.rows) same ∙ its.of in let one : y.0 ≡ its.row = cc two in ap (λ x. x.creator) one)
    ] in
    let f = fun_at i.facts.funs call.fun in
    ap (λ b. (f.wakeup && b) || (f.terminal && ((other.desc == call.desc) || (i.facts.subtree && is_ancestor o.rows call.desc other.desc)))) (other_test call.desc other.desc differ)
    ∙ ap (λ b. (f.wakeup && false) || (f.terminal && (b || (i.facts.subtree && is_ancestor o.rows call.desc other.desc)))) (other_test other.desc call.desc (λ same. differ (sym same)))
    ∙ ap (λ b. (f.wakeup && false) || (f.terminal && (false || (i.facts.subtree && b)))) (none_above o.rows o.given other.desc other.desc call.desc its.row tree its.of not_of)
    ∙ nobody f.wakeup f.terminal i.facts.subtree
  where
    by_row : (o : Object) (its : IsOwnRow o.rows other.client other.desc) → (call.desc ≡ 0) ⊎ IsOwnRow o.rows call.client call.desc
        → (call.desc ≡ 0) ⊎ ((y : Row) × (row_at o.rows call.desc ≡ Some y) × (y.creator ≡ its.row.creator → ⊥))
    by_row o its (inl none) = inl none
    by_row o its (inr own) = inr (own.row, own.of, λ same. apart (sym own.own ∙ same ∙ its.own))

    nobody : (w t u : Bool) → ((w && false) || (t && (false || (u && false)))) ≡ false
    nobody true true true = refl
    nobody true true false = refl
    nobody true false u = refl
    nobody false true true = refl
    nobody false true false = refl
    nobody false false u = refl

-- Answered calls of two clients, each on rows of its own, come to the same rows in either order.
use Rattle.std.proofs.Common.{◌≡◌, ℕ, ◌+◌, Bool, true, false, cond, List, [], ◌∷◌, ◌++◌, map, filter, refl, sym, ◌∙◌, ap, subst, inl, inr, ◌⊎◌, arith}
use Rattle.std.specs.Prelude.{◌==◌, if◌then◌else◌}
use Rattle.std.proofs.lemmas.Bool.Decides.{eqb_tells}
use Rattle.sg_facts.specs.sg_base.declared.call.Call.{Call}
use Rattle.sg_facts.specs.sg_base.declared.reply.Good.{Good}
use Rattle.sg_facts.specs.declared.row.Row.{Row}
use Rattle.sg_facts.specs.Facts.{Facts, fun_at, takes_parent}
use Rattle.sg_facts.specs.Object.{Object}
use Rattle.sg_facts.specs.Sound.{IsSound}
use Rattle.sg_facts.specs.Track.{new_row, row_at, rows_after}
use Rattle.sg_facts.specs.Inside.Rows.{has_child, row_after}
use Rattle.sg_facts.proofs.RowLists.{changed, id_of_row, left, more, row_at-left, row_at-more, wider}
use Rattle.sg_recovery_laws.specs.Objects.Apart.{AreOwn, HasOwnParent, SameFor}
use Rattle.sg_recovery_laws.proofs.Objects.Apart.{Ascends, IsOnOwn, IsOwnRow, acts_alike, changes_row, ends_rows, found_same, leaves_others, makes_row, query_keeps, rows_same, same_back, same_on}
use Rattle.sg_recovery_laws.proofs.Objects.Changed.{change_at}
use Rattle.sg_facts.proofs.Replaying.Found.{from_left, from_map, from_more, to_map}
use Rattle.sg_recovery_laws.proofs.Objects.Left.{parent_stays, stays}

-- the number of ids given after it
abbrev pub given_with : Facts → Call → ℕ → ℕ
given_with facts call given = if (fun_at facts.funs call.fun).creation then given + 1 else given

module _ (facts : Facts) (call : Call) (good : Good) where
  pub same_id_at : (r : Row) → (change_at facts call good r).id ≡ r.id
  same_id_at r = at (r.id == call.desc)
    where
      at : (b : Bool) → (cond b (row_after facts call good r) r).id ≡ r.id
      at true = refl
      at false = refl

  same_parent_at : (r : Row) → (change_at facts call good r).parent ≡ r.parent
  same_parent_at r = at (r.id == call.desc)
    where
      at : (b : Bool) → (cond b (row_after facts call good r) r).parent ≡ r.parent
      at true = refl
      at false = refl

  pub same_creator_at : (r : Row) → (change_at facts call good r).creator ≡ r.creator
  same_creator_at r = at (r.id == call.desc)
    where
      at : (b : Bool) → (cond b (row_after facts call good r) r).creator ≡ r.creator
      at true = refl
      at false = refl

  -- rows still ascend
  pub ascends_after : (rows : List Row) (given : ℕ) → Ascends 0 given rows → ((fun_at facts.funs call.fun).creation ≡ true → good.desc ≡ given + 1)
      → Ascends 0 (given_with facts call given) (rows_after facts rows call good)
  ascends_after rows given are next = by_query (fun_at facts.funs call.fun).query refl
    where
      at_least : Ascends 0 given rows → (b : Bool) → Ascends 0 (cond b (given + 1) given) rows
      at_least are true = wider (λ r. Unit {0}) 0 0 given (given + 1) rows (omega arith) (omega arith) are
      at_least are false = are

      by_terminal : (b : Bool) → (fun_at facts.funs call.fun).query ≡ false → (fun_at facts.funs call.fun).creation ≡ false → (fun_at facts.funs call.fun).terminal ≡ b
          → Ascends 0 given (rows_after facts rows call good)
      by_terminal true row makes ends = subst (Ascends 0 given) (sym (ends_rows facts call good rows row makes ends)) (left (λ r. Unit {0}) (λ r. stays facts rows call.desc r.id) 0 given rows are)
      by_terminal false row makes ends = subst (Ascends 0 given) (sym (changes_row facts call good rows row makes ends))
          (changed (λ r. Unit {0}) (λ r. Unit {0}) (change_at facts call good) same_id_at (λ r is. is) 0 given rows are)

      by_creation : (b : Bool) → (fun_at facts.funs call.fun).query ≡ false → (fun_at facts.funs call.fun).creation ≡ b → Ascends 0 (cond b (given + 1) given) (rows_after facts rows call good)
      by_creation true row makes = subst (Ascends 0 (given + 1)) (sym (makes_row facts call good rows row makes))
          (subst (λ n. Ascends 0 n (rows ++ new_row facts call good ∷ [])) (next makes)
          (more (λ r. Unit {0}) 0 given rows (new_row facts call good) are (omega (arith, next makes)) (omega (arith, next makes)) tt))
      by_creation false row makes = by_terminal (fun_at facts.funs call.fun).terminal row makes refl

      by_query : (b : Bool) → (fun_at facts.funs call.fun).query ≡ b → Ascends 0 (given_with facts call given) (rows_after facts rows call good)
      by_query true query = subst (Ascends 0 (given_with facts call given)) (sym (query_keeps facts call good rows query)) (at_least are (fun_at facts.funs call.fun).creation)
      by_query false row = by_creation (fun_at facts.funs call.fun).creation row refl

  -- each row's parent is still its creator's
  pub own_after : (o : Object) → IsSound facts o → AreOwn o.rows → IsOnOwn facts call good o.rows o.given
      → ((fun_at facts.funs call.fun).creation ≡ true → takes_parent (fun_at facts.funs call.fun) ≡ true → (call.desc ≡ 0) ⊎ IsOwnRow o.rows call.client call.desc)
      → ((fun_at facts.funs call.fun).terminal ≡ true → facts.subtree ≡ false → has_child o.rows call.desc ≡ false)
      → AreOwn (rows_after facts o.rows call good)
  own_after o sound own acts parent alone = by_query (fun_at facts.funs call.fun).query refl
    where
      made : (fun_at facts.funs call.fun).creation ≡ true → AreOwn (o.rows ++ new_row facts call good ∷ [])
      made makes id r there = elim (from_more (λ x. Unit {0}) 0 0 o.rows (new_row facts call good) r id there) [
        | inl old ↦ elim (own id r old) [
          | inl none ↦ inl none
          | inr has ↦ inr (record { row = has.row; of = row_at-more o.rows (new_row facts call good) has.row r.parent has.of; own = has.own })
        ]
        | inr new ↦ subst (λ x. (x.parent ≡ 0) ⊎ HasOwnParent (o.rows ++ new_row facts call good ∷ []) x) (sym new.0) (at (takes_parent (fun_at facts.funs call.fun)) (parent makes))
      ]
        where
          at : (b : Bool) → (b ≡ true → (call.desc ≡ 0) ⊎ IsOwnRow o.rows call.client call.desc)
              → (cond b call.desc 0 ≡ 0) ⊎ HasOwnParent (o.rows ++ new_row facts call good ∷ []) (record (new_row facts call good) { parent = cond b call.desc 0 })
          at false is = inl refl
          at true is = elim (is refl) [
            | inl root ↦ inl root
            | inr its ↦ inr (record { row = its.row; of = row_at-more o.rows (new_row facts call good) its.row call.desc its.of; own = its.own })
          ]

      ended : (fun_at facts.funs call.fun).terminal ≡ true → AreOwn (filter (λ r. stays facts o.rows call.desc r.id) o.rows)
      ended ends id r there =
          let was = from_left (stays facts o.rows call.desc) o.rows id r there in
          let id_is : r.id ≡ id = id_of_row o.rows id r was.there in
          elim (eqb_tells r.parent 0) [
            | inl none ↦ inl none.1
            | inr some ↦ elim (own id r was.there) [
              | inl none ↦ inl none
              | inr has ↦
                  let up : stays facts o.rows call.desc r.parent ≡ true
                  = parent_stays facts o call.desc r sound (alone ends) (ap (row_at o.rows) id_is ∙ was.there) some.1 (ap (stays facts o.rows call.desc) id_is ∙ was.stays) in
                  inr (record { row = has.row; of = row_at-left (stays facts o.rows call.desc) o.rows r.parent up ∙ has.of; own = has.own })
            ]
          ]

      changes : AreOwn (map (change_at facts call good) o.rows)
      changes id r there =
          let was = from_map (change_at facts call good) same_id_at o.rows id r there in
          let parent_is : r.parent ≡ was.row.parent = ap (λ x. x.parent) (sym was.is) ∙ same_parent_at was.row in
          let creator_is : was.row.creator ≡ r.creator = sym (same_creator_at was.row) ∙ ap (λ x. x.creator) was.is in
          elim (own id was.row was.there) [
            | inl none ↦ inl (parent_is ∙ none)
            | inr has ↦ inr (record {
              row = change_at facts call good has.row;
              of = ap (row_at (map (change_at facts call good) o.rows)) parent_is ∙ to_map (change_at facts call good) same_id_at o.rows was.row.parent has.row has.of;
              own = same_creator_at has.row ∙ has.own ∙ creator_is;
            })
          ]

      by_terminal : (b : Bool) → (fun_at facts.funs call.fun).query ≡ false → (fun_at facts.funs call.fun).creation ≡ false → (fun_at facts.funs call.fun).terminal ≡ b → AreOwn (rows_after facts o.rows call good)
      by_terminal true row makes ends = subst AreOwn (sym (ends_rows facts call good o.rows row makes ends)) (ended ends)
      by_terminal false row makes ends = subst AreOwn (sym (changes_row facts call good o.rows row makes ends)) changes

      by_creation : (b : Bool) → (fun_at facts.funs call.fun).query ≡ false → (fun_at facts.funs call.fun).creation ≡ b → AreOwn (rows_after facts o.rows call good)
      by_creation true row makes = subst AreOwn (sym (makes_row facts call good o.rows row makes)) (made makes)
      by_creation false row makes = by_terminal (fun_at facts.funs call.fun).terminal row makes refl

      by_query : (b : Bool) → (fun_at facts.funs call.fun).query ≡ b → AreOwn (rows_after facts o.rows call good)
      by_query true query = subst AreOwn (sym (query_keeps facts call good o.rows query)) own
      by_query false row = by_creation (fun_at facts.funs call.fun).creation row refl

-- a call is still on its own row after another's
pub on_own_after : (facts : Facts) (p e : Call) (gp ge : Good) (rows : List Row) (given given' : ℕ) → AreOwn rows → IsOnOwn facts p gp rows given → IsOnOwn facts e ge rows given
    → (p.client ≡ e.client → ⊥) → ((fun_at facts.funs e.fun).creation ≡ true → ge.desc ≡ given' + 1) → IsOnOwn facts e ge (rows_after facts rows p gp) given'
on_own_after facts p e gp ge rows given given' own acts_p acts_e apart next = record {
  on = λ row makes.
      let on = acts_e.on row makes in
      record { row = on.row; of = (leaves_others facts p gp rows given e.client own acts_p apart).there e.desc on.row on.of on.own; own = on.own };
  next = next;
}

-- the order of two answered calls makes no difference where one of them makes no descriptor
pub commute : (facts : Facts) (p e : Call) (gp ge : Good) (rows : List Row) (given : ℕ) → Ascends 0 given rows → AreOwn rows
    → AreOwn (rows_after facts rows p gp) → AreOwn (rows_after facts rows e ge) → IsOnOwn facts p gp rows given → IsOnOwn facts e ge rows given
    → (p.client ≡ e.client → ⊥) → (fun_at facts.funs p.fun).creation ≡ false
    → rows_after facts (rows_after facts rows e ge) p gp ≡ rows_after facts (rows_after facts rows p gp) e ge
commute facts p e gp ge rows given are own own_p own_e acts_p acts_e apart hidden =
    let rp : List Row = rows_after facts rows p gp in
    let re : List Row = rows_after facts rows e ge in
    let apart' : e.client ≡ p.client → ⊥ = λ is. apart (sym is) in
    let none : (n : ℕ) → (fun_at facts.funs p.fun).creation ≡ true → gp.desc ≡ n + 1 = λ n makes. absurd (cc (makes, hidden)) in
    let acts_p' : IsOnOwn facts p gp re (given_with facts e given) = on_own_after facts e p ge gp rows given (given_with facts e given) own acts_e acts_p apart' (none (given_with facts e given)) in
    let acts_e' : IsOnOwn facts e ge rp given = on_own_after facts p e gp ge rows given given own acts_p acts_e apart acts_e.next in
    let are_p : Ascends 0 given rp = subst (λ n. Ascends 0 n rp) (ap (λ b. cond b (given + 1) given) hidden) (ascends_after facts p gp rows given are (none given)) in
    let are_e : Ascends 0 (given_with facts e given) re = ascends_after facts e ge rows given are acts_e.next in
    let are_x : Ascends 0 (given_with facts e given) (rows_after facts rp e ge) = ascends_after facts e ge rp given are_p acts_e.next in
    let are_y : Ascends 0 (given_with facts p (given_with facts e given)) (rows_after facts re p gp) = ascends_after facts p gp re (given_with facts e given) are_e (none (given_with facts e given)) in
    let wide : Ascends 0 (given_with facts e given) rows = at_least given are (fun_at facts.funs e.fun).creation in
    let acts_pw : IsOnOwn facts p gp rows (given_with facts e given) = record { on = acts_p.on; next = none (given_with facts e given) } in
    let ours : SameFor p.client (rows_after facts rp e ge) (rows_after facts re p gp)
    = same_on p.client (rows_after facts rp e ge) rp (rows_after facts re p gp)
    (same_back p.client rp (rows_after facts rp e ge) (leaves_others facts e ge rp given p.client own_p acts_e' apart'))
    (acts_alike facts p gp rows re (given_with facts e given) wide are_e own own_e acts_pw (leaves_others facts e ge rows given p.client own acts_e apart')) in
    let theirs : SameFor e.client (rows_after facts rp e ge) (rows_after facts re p gp)
    = same_on e.client (rows_after facts rp e ge) re (rows_after facts re p gp)
    (same_back e.client re (rows_after facts rp e ge) (acts_alike facts e ge rows rp given are are_p own own_p acts_e (leaves_others facts p gp rows given e.client own acts_p apart)))
    (leaves_others facts p gp re (given_with facts e given) e.client own_e acts_p' apart) in
    let others : (c : ℕ) → (p.client ≡ c → ⊥) → (e.client ≡ c → ⊥) → SameFor c (rows_after facts rp e ge) (rows_after facts re p gp)
    = λ c not_p not_e.
    same_on c (rows_after facts rp e ge) rp (rows_after facts re p gp) (same_back c rp (rows_after facts rp e ge) (leaves_others facts e ge rp given c own_p acts_e' not_e))
    (same_on c rp rows (rows_after facts re p gp) (same_back c rows rp (leaves_others facts p gp rows given c own acts_p not_p))
    (same_on c rows re (rows_after facts re p gp) (leaves_others facts e ge rows given c own acts_e not_e) (leaves_others facts p gp re (given_with facts e given) c own_e acts_p' not_p))) in
    let each : (c : ℕ) → SameFor c (rows_after facts rp e ge) (rows_after facts re p gp)
    = λ c. elim (eqb_tells p.client c) [
      | inl is ↦ subst (λ n. SameFor n (rows_after facts rp e ge) (rows_after facts re p gp)) is.1 ours
      | inr not_p ↦ elim (eqb_tells e.client c) [
        | inl is ↦ subst (λ n. SameFor n (rows_after facts rp e ge) (rows_after facts re p gp)) is.1 theirs
        | inr not_e ↦ others c not_p.1 not_e.1
      ]
    ] in
    rows_same 0 (given_with facts e given) 0 (given_with facts p (given_with facts e given)) (rows_after facts rp e ge) (rows_after facts re p gp) are_x are_y
    (found_same (rows_after facts rp e ge) (rows_after facts re p gp) each)
  where
    at_least : (given : ℕ) → Ascends 0 given rows → (b : Bool) → Ascends 0 (cond b (given + 1) given) rows
    at_least given are true = wider (λ r. Unit {0}) 0 0 given (given + 1) rows (omega arith) (omega arith) are
    at_least given are false = are

-- What the guard lets pass of a client, it lets pass after replies held by others too: also a creation, as those make no rows.
use Rattle.std.proofs.Common.{◌≡◌, ℕ, suc, ◌≤◌, Bool, true, false, cond, not, List, [], ◌∷◌, None, Some, length, map, filter, refl, sym, ◌∙◌, ap, inl, inr, ◌⊎◌, arith}
use Rattle.std.specs.Prelude.{◌==◌, ◌||◌, ◌&&◌, nat_le, if◌then◌else◌}
use Rattle.std.proofs.lemmas.Bool.Decides.{nat_tests}
use Rattle.sg_facts.specs.sg_base.declared.call.Call.{Call}
use Rattle.sg_facts.specs.sg_base.declared.reply.Code.TheVariants.{NoDesc, NoParent, BadState, HasChildren, Full}
use Rattle.sg_facts.specs.sg_base.declared.reply.Reply.{Reply}
use Rattle.sg_facts.specs.sg_base.declared.reply.Reply.TheVariants.{Ok, Refused}
use Rattle.sg_facts.specs.declared.entry.Entry.{Entry}
use Rattle.sg_facts.specs.declared.row.Row.{Row}
use Rattle.sg_facts.specs.declared.shape.Parents.{Parents}
use Rattle.sg_facts.specs.declared.shape.Parents.TheVariants.{Never, Same, Cross}
use Rattle.sg_facts.specs.Allowed.{is_cross, is_never}
use Rattle.sg_facts.specs.Facts.{Facts, fun_at, takes_desc, takes_parent}
use Rattle.sg_facts.specs.Guard.{guard}
use Rattle.sg_facts.specs.Inside.Guards.{in_state, is_own, may_be_parent, may_use, refusal}
use Rattle.sg_facts.specs.Limits.{most_live}
use Rattle.sg_facts.specs.Interface.{Declared}
use Rattle.sg_facts.specs.Legal.{Table}
use Rattle.sg_facts.specs.Object.{Object, after}
use Rattle.sg_facts.specs.Inside.Rows.{object_from, has_child, row_after}
use Rattle.sg_facts.specs.Track.{ends_with, row_at, rows_after}
use Rattle.sg_recovery_laws.specs.Objects.Apart.{SameFor}
use Rattle.sg_recovery_laws.specs.Objects.Serving.{HasTime, IsLegalObject, IsService}
use Rattle.sg_recovery_laws.specs.Objects.Waiting.{AreWaiting, NoneBy}
use Rattle.sg_recovery_laws.proofs.Objects.Apart.{IsOwnRow}
use Rattle.sg_recovery_laws.proofs.Objects.Guarded.{ActsOnOne, IsLetPass, acts, let_pass, own_parent, private_parents}
use Rattle.sg_recovery_laws.proofs.Objects.Narrow.{guard_stays}
use Rattle.sg_recovery_laws.proofs.Objects.Waiting.{after_same, good_later, hidden_is}

few_filter : (test : Row → Bool) (rows : List Row) → length (filter test rows) ≤ length rows
few_filter test [] = omega arith
few_filter test (r ∷ rows) = at (test r) (few_filter test rows)
  where
    at : (b : Bool) → length (filter test rows) ≤ length rows → length (cond b (r ∷ filter test rows) (filter test rows)) ≤ suc (length rows)
    at true few = omega (arith, few)
    at false few = omega (arith, few)

same_map : (f : Row → Row) (rows : List Row) → length (map f rows) ≡ length rows
same_map f [] = refl
same_map f (r ∷ rows) = ap suc (same_map f rows)

-- a call that makes no descriptor leaves no more rows
few_after : (facts : Facts) (o : Object) (call : Call) (reply : Reply) → (fun_at facts.funs call.fun).creation ≡ false → length (after facts o call reply).rows ≤ length o.rows
few_after facts o call (Refused code) makes = omega arith
few_after facts o call (Ok good) makes = by (fun_at facts.funs call.fun).query (fun_at facts.funs call.fun).terminal refl refl
  where
    by : (q t : Bool) → (fun_at facts.funs call.fun).query ≡ q → (fun_at facts.funs call.fun).terminal ≡ t → length (rows_after facts o.rows call good) ≤ length o.rows
    by true t q_is t_is =
        let is : rows_after facts o.rows call good ≡ o.rows = rw (q_is) refl in
        let n : length (rows_after facts o.rows call good) ≡ length o.rows = ap length is in omega (arith, n)
    by false true q_is t_is =
        let is : rows_after facts o.rows call good ≡ filter (λ r. not (ends_with facts o.rows call.desc r.id)) o.rows = rw (q_is, makes, t_is) refl in
        let n : length (rows_after facts o.rows call good) ≡ length (filter (λ r. not (ends_with facts o.rows call.desc r.id)) o.rows) = ap length is in
        let m = few_filter (λ r. not (ends_with facts o.rows call.desc r.id)) o.rows in omega (arith, n, m)
    by false false q_is t_is =
        let is : rows_after facts o.rows call good ≡ map (λ r. if r.id == call.desc then row_after facts call good r else r) o.rows = rw (q_is, makes, t_is) refl in
        let n : length (rows_after facts o.rows call good) ≡ length (map (λ r. if r.id == call.desc then row_after facts call good r else r) o.rows) = ap length is in
        let m = same_map (λ r. if r.id == call.desc then row_after facts call good r else r) o.rows in omega (arith, n, m)

pub few_later : (facts : Facts) (ask : Table) (o : Object) (held : Object) (es : List Entry) → AreWaiting facts ask o es → length (object_from facts held es).rows ≤ length held.rows
few_later facts ask o held [] all = omega arith
few_later facts ask o held (p ∷ es) all =
    let one = few_after facts held p.call p.reply (hidden_is facts p.call.fun all.0.hidden).makes in
    let rest = few_later facts ask o (after facts held p.call p.reply) es all.2 in
    omega (arith, one, rest)

less_room : (m n : ℕ) → n ≤ m → nat_le most_live m ≡ false → nat_le most_live n ≡ false
less_room m n le is = grind (arith, nat_tests, le, is)

module _ (j : Declared) (ask : Table) (sound : Object → Type 0) (law : IsService j.facts ask sound) where
  -- a creation passes where a client's rows are the same, and there are no more than there were
  guard_makes : (o o' : Object) (call : Call) → j.facts.global ≡ false → ActsOnOne j.facts (fun_at j.facts.funs call.fun) → SameFor call.client o.rows o'.rows
      → (fun_at j.facts.funs call.fun).creation ≡ true → length o'.rows ≤ length o.rows → guard j o call ≡ None → guard j o' call ≡ None
  guard_makes o o' call alone acting same makes few passes =
      let none = acting.makes makes in
      let pass = let_pass j o call none.0 passes in
      let may : (takes_parent (fun_at j.facts.funs call.fun) && not (may_be_parent j.facts.parents (row_at o'.rows call.desc) call.desc call.client)) ≡ false = parent_may (takes_parent (fun_at j.facts.funs call.fun)) refl pass in
      let room : nat_le most_live (length o'.rows) ≡ false = less_room (length o.rows) (length o'.rows) few (pass.room makes) in
      ap (λ b. cond b None (refusal j (fun_at j.facts.funs call.fun) o' call)) none.0
      ∙ shape (takes_parent (fun_at j.facts.funs call.fun) && not (may_be_parent j.facts.parents (row_at o'.rows call.desc) call.desc call.client)) ((fun_at j.facts.funs call.fun).creation && nat_le most_live (length o'.rows))
      (takes_desc (fun_at j.facts.funs call.fun)) (fun_at j.facts.funs call.fun).terminal (may_use j.facts (row_at o'.rows call.desc) call.client) (in_state j (row_at o'.rows call.desc) call.fun)
      j.facts.subtree (has_child o'.rows call.desc) may (no_room (fun_at j.facts.funs call.fun).creation (nat_le most_live (length o'.rows)) room) none.2 none.1
    where
      no_room : (c r : Bool) → r ≡ false → (c && r) ≡ false
      no_room true r is = is
      no_room false r is = refl

      shape : (p c d t usable state sub child : Bool) → p ≡ false → c ≡ false → d ≡ false → t ≡ false
          → (if p then Some NoParent else if c then Some Full else if d && not usable then Some NoDesc else if d && not state then Some BadState else if t && not sub && child then Some HasChildren else None) ≡ None
      shape false false false false usable state sub child p c d t = refl
      shape true c d t usable state sub child p_is c_is d_is t_is = absurd (cc p_is)
      shape false true d t usable state sub child p_is c_is d_is t_is = absurd (cc c_is)
      shape false false true t usable state sub child p_is c_is d_is t_is = absurd (cc d_is)
      shape false false false true usable state sub child p_is c_is d_is t_is = absurd (cc t_is)

      zero_row : (facts : Facts) → call.desc ≡ 0 → may_be_parent Same (row_at o'.rows call.desc) call.desc call.client ≡ true
      zero_row facts root = ap (λ n. (n == 0) || is_own (row_at o'.rows call.desc) call.client) root

      parent_may : (b : Bool) → takes_parent (fun_at j.facts.funs call.fun) ≡ b → IsLetPass j o call
          → (takes_parent (fun_at j.facts.funs call.fun) && not (may_be_parent j.facts.parents (row_at o'.rows call.desc) call.desc call.client)) ≡ false
      parent_may false takes pass = ap (λ b. b && not (may_be_parent j.facts.parents (row_at o'.rows call.desc) call.desc call.client)) takes
      parent_may true takes pass =
          ap (λ b. takes_parent (fun_at j.facts.funs call.fun) && not b) (same_may (own_parent j o call law.shape.shape alone acting pass takes) j.facts.parents refl (pass.parent takes)) ∙ last (takes_parent (fun_at j.facts.funs call.fun))
        where
          last : (b : Bool) → (b && false) ≡ false
          last true = refl
          last false = refl

          same_may : (call.desc ≡ 0) ⊎ IsOwnRow o.rows call.client call.desc → (ps : Parents) → j.facts.parents ≡ ps → may_be_parent j.facts.parents (row_at o.rows call.desc) call.desc call.client ≡ true
              → may_be_parent j.facts.parents (row_at o'.rows call.desc) call.desc call.client ≡ true
          same_may (inr on) ps is may = ap (λ r. may_be_parent j.facts.parents r call.desc call.client) (same.there call.desc on.row on.of on.own ∙ sym on.of) ∙ may
          same_may (inl root) Same is may = ap (λ q. may_be_parent q (row_at o'.rows call.desc) call.desc call.client) is ∙ zero_row j.facts root
          same_may (inl root) Never is may = absurd (let none = acting.never (ap is_never is) in cc (none, takes))
          same_may (inl root) Cross is may = absurd (let none = private_parents j.facts law.shape.shape alone in let c : is_cross j.facts.parents ≡ true = ap is_cross is in cc (none, c))

  -- so after replies held by others
  pub guard_after : (o : Object) (es : List Entry) (call : Call) → IsLegalObject j.facts sound o → HasTime j.facts (length es) o → AreWaiting j.facts ask o es → NoneBy call.client es
      → 1 ≤ call.fun → call.fun ≤ length j.facts.funs → guard j o call ≡ None → guard j (object_from j.facts o es) call ≡ None
  guard_after o [] call ok time all none first last passes = passes
  guard_after o (p ∷ es) call ok time all none first last passes =
      let hidden = hidden_is j.facts p.call.fun all.0.hidden in
      let same = after_same j.facts ask sound law o (p ∷ es) call.client ok time all none in
      let acting = acts j.facts call.fun law.shape.shape first last in
      by (fun_at j.facts.funs call.fun).creation refl hidden.alone same.0 acting
    where
      by : (b : Bool) → (fun_at j.facts.funs call.fun).creation ≡ b → j.facts.global ≡ false → SameFor call.client o.rows (object_from j.facts o (p ∷ es)).rows → ActsOnOne j.facts (fun_at j.facts.funs call.fun)
          → guard j (object_from j.facts o (p ∷ es)) call ≡ None
      by true makes alone same acting = guard_makes o (object_from j.facts o (p ∷ es)) call alone acting same makes (few_later j.facts ask o o (p ∷ es) all) passes
      by false makes alone same acting =
          guard_stays j ask sound law o (object_from j.facts o (p ∷ es)) call alone ok (good_later j.facts ask sound law o (p ∷ es) ok time all) acting same makes passes

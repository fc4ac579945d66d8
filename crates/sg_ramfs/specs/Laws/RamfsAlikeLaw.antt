-- The file service answers alike under other ids.
use Rattle.std.proofs.Common.{◌≡◌, ℕ, zero, suc, ◌+◌, ◌<◌, ◌≤◌, Bool, true, false, cond, List, [], ◌∷◌, ◌++◌, Some, length, take, drop, refl, sym, ◌∙◌, ap, subst, inl, inr, ◌⊎◌, arith}
use Rattle.std.specs.Prelude.{◌==◌, ◌||◌, ◌-◌, nat_lt}
use Rattle.std.specs.List.{list_any}
use Rattle.sg_facts.specs.sg_base.Lists.{Each}
use Rattle.sg_facts.specs.sg_base.declared.value.Value.{Value}
use Rattle.sg_facts.specs.sg_base.declared.call.Call.{Call}
use Rattle.sg_facts.specs.sg_base.declared.reply.Code.TheVariants.{NoParent, NoDesc, Full, BadName, Gap, TooBig}
use Rattle.sg_facts.specs.sg_base.declared.reply.Reply.TheVariants.{Refused}
use Rattle.sg_facts.specs.declared.row.Row.{Row}
use Rattle.sg_facts.specs.Alike.{HasAlike, SameReply, Serves, named}
use Rattle.sg_facts.specs.Facts.{fun_at}
use Rattle.sg_facts.specs.Laws.{AnswersAlike, Passes}
use Rattle.sg_facts.specs.Legal.{done}
use Rattle.sg_facts.specs.Limits.{most_file, most_path}
use Rattle.sg_facts.specs.Object.{Object, file_at, first_text, path_of, place_in, place_of}
use Rattle.sg_facts.specs.Inside.Rows.{step_to, parent_in}
use Rattle.sg_facts.specs.Sound.{AreRows, IsRow}
use Rattle.sg_facts.specs.Track.{arg_at, is_ancestor, nearest, row_at, word_of}
use Rattle.sg_facts.proofs.RowLists.{id_of_row, row_of_live}
use Rattle.sg_slots.proofs.RowLaws.{alike_row, row_of_call, same_done}
use Rattle.sg_slots.proofs.SoundRows.{none_applies}
use Rattle.sg_facts.proofs.Replaying.Found.{above, met, other_test, same_test}
use Rattle.sg_facts.proofs.Replaying.Above.{one_above}
use Rattle.sg_ramfs.specs.RamfsFacts.{ramfs_facts}
use Rattle.sg_ramfs.specs.Inside.RamfsAnswer.{tread, twrite, most_read, read_answer, seek_answer, split_answer, write_answer}
use Rattle.sg_ramfs.specs.Inside.RamfsPaths.{IsBelow, SameStep, below, no_path, same_path}
use Rattle.sg_ramfs.specs.RamfsSound.{IsRamfsSound}
use Rattle.sg_ramfs.specs.Laws.RamfsSoundLaw.{parent_lives, parent_row, rows_below}
use Rattle.sg_ramfs.specs.RamfsTable.{file_of, is_bad_name, moved, ramfs_table, ramfs_answer}

-- ---- answers that say the same

same_split : (names : List (ℕ × ℕ)) (given given' : ℕ) (path name : List ℕ) → SameReply names true (split_answer given path name) (split_answer given' path name)
same_split names given given' path name = at (is_bad_name name) (nat_lt most_path (length (path ++ 47 ∷ name)))
  where
    at : (bad long : Bool) → SameReply names true (cond bad (Some (Refused BadName)) (cond long (Some (Refused TooBig)) (done (given + 1)))) (cond bad (Some (Refused BadName)) (cond long (Some (Refused TooBig)) (done (given' + 1))))
    at true long = refl
    at false true = refl
    at false false = (refl, refl)

same_read : (names : List (ℕ × ℕ)) → named names 0 ≡ 0 → (file : List ℕ) (from n : ℕ) → SameReply names false (read_answer file from n) (read_answer file from n)
same_read names none file from n = at (nat_lt most_read n)
  where
    bytes : List ℕ
    bytes = take n (drop from file)

    at : (much : Bool) → SameReply names false (cond much (Some (Refused TooBig)) (moved (length bytes) bytes)) (cond much (Some (Refused TooBig)) (moved (length bytes) bytes))
    at true = refl
    at false = (refl, refl, sym none)

same_write : (names : List (ℕ × ℕ)) → named names 0 ≡ 0 → (file : List ℕ) (from : ℕ) (bytes : List ℕ) → SameReply names false (write_answer file from bytes) (write_answer file from bytes)
same_write names none file from bytes = at (nat_lt (length file) from) (nat_lt most_file (from + length bytes))
  where
    at : (behind big : Bool) → SameReply names false (cond behind (Some (Refused Gap)) (cond big (Some (Refused TooBig)) (moved (length bytes) [])))
        (cond behind (Some (Refused Gap)) (cond big (Some (Refused TooBig)) (moved (length bytes) [])))
    at true big = refl
    at false true = refl
    at false false = (refl, refl, sym none)

same_seek : (names : List (ℕ × ℕ)) → named names 0 ≡ 0 → (place : ℕ) → SameReply names false (seek_answer place) (seek_answer place)
same_seek names none place = at (nat_lt most_file place)
  where
    at : (big : Bool) → SameReply names false (cond big (Some (Refused TooBig)) (done 0)) (cond big (Some (Refused TooBig)) (done 0))
    at true = refl
    at false = same_done names none

-- ---- the path of a parent

-- each of some ids is among them
among : (all : List ℕ) → Each (λ a. list_any (λ id. id == a) all ≡ true) all
among [] = tt
among (x ∷ all) = (ap (λ b. b || list_any (λ id. id == x) all) (same_test x x refl), further all (among all))
  where
    further : (some : List ℕ) → Each (λ a. list_any (λ id. id == a) all ≡ true) some → Each (λ a. ((x == a) || list_any (λ id. id == a) all) ≡ true) some
    further [] each = tt
    further (y ∷ some) each = (ap (λ b. (x == y) || b) each.0 ∙ any (x == y), further some each.1)
      where
        any : (b : Bool) → (b || true) ≡ true
        any true = refl
        any false = refl

each_turned : (P Q : ℕ → Type 0) → ((a : ℕ) → P a → Q a) → (ids : List ℕ) → Each P ids → Each Q ids
each_turned P Q turn [] each = tt
each_turned P Q turn (a ∷ ids) each = (turn a each.0, each_turned P Q turn ids each.1)

module _ (names : List (ℕ × ℕ)) (o held : Object) (client seq desc : ℕ) (args : List Value) (sound : IsRamfsSound o) where
  abbrev call_of : ℕ → Call
  call_of fun = record { client = client; seq = seq; fun = fun; desc = desc; args = args }

  -- the row of an id, where it is live, is in the service
  abbrev HasOwn : ℕ → Type 0
  HasOwn id = (r : Row) → row_at o.rows id ≡ Some r → HasAlike names held r

  -- an id is of a row that the service has, and so are as many of its ancestors as there can be
  record IsServed (id : ℕ) : Type 0 where
    row : Row
    there : row_at o.rows id ≡ Some row
    alike : HasAlike names held row
    most : ℕ
    few : id ≤ most
    above_it : Each HasOwn (nearest o.rows most id)

  -- the ancestors of a descriptor are needed
  ancestors_own : Serves ramfs_facts names o held (call_of 1) → Each HasOwn (nearest o.rows desc desc)
  ancestors_own serves = each_turned (λ a. is_ancestor o.rows a desc ≡ true) HasOwn turn (nearest o.rows desc desc) (among (nearest o.rows desc desc))
    where
      turn : (a : ℕ) → is_ancestor o.rows a desc ≡ true → HasOwn a
      turn a is r found =
          let its = id_of_row o.rows a r found in
          serves.needed r (ap (row_at o.rows) its ∙ found) (ap (λ n. (n == desc) || is_ancestor o.rows n desc) its ∙ ap (λ b. (a == desc) || b) is ∙ any (a == desc))
        where
          any : (b : Bool) → (b || true) ≡ true
          any true = refl
          any false = refl

  module _ (serves : Serves ramfs_facts names o held (call_of 1)) where
    under : AreRows IsBelow 0 o.given o.rows
    under = rows_below o.rows o.given sound.general.rows

    under_held : AreRows IsBelow 0 held.given held.rows
    under_held = rows_below held.rows held.given (let h = serves.held_sound in h.rows)

    -- each of these has the same step and the same parent in the service
    step_served : (id : ℕ) → IsServed id → SameStep (named names) IsServed o.rows held.rows id
    step_served id served =
        let r = served.row in
        let v = served.alike.row in
        let its : r.id ≡ id = id_of_row o.rows id r served.there in
        let found : row_at held.rows (named names id) ≡ Some v = ap (λ n. row_at held.rows (named names n)) (sym its) ∙ served.alike.there in
        let name : v.id ≡ named names id = id_of_row held.rows (named names id) v found in
        let low = above IsBelow 0 o.given id o.rows r under served.there in
        let low_v = above IsBelow 0 held.given (named names id) held.rows v under_held found in
        let parent : parent_in (row_at held.rows (named names id)) ≡ named names (parent_in (row_at o.rows id)) =
        ap parent_in found ∙ served.alike.alike.parent ∙ ap (λ x. named names (parent_in x)) (sym served.there) in
        let less = below held.given (named names id) held.rows under_held (omega (arith, low_v, name)) in
        record {
          low = omega (arith, low, its);
          low_name = omega (arith, low_v, name);
          step = ap step_to found ∙ ap (λ fields. 47 ∷ first_text fields) served.alike.alike.fields ∙ sym (ap step_to served.there);
          parent = parent;
          below = below o.given id o.rows under (omega (arith, low, its));
          below_name = omega (arith, less, parent);
          stands = λ has. subst (λ x. IsServed (parent_in x)) (sym served.there) (up r served.there (subst (λ x. 0 < parent_in x) served.there has));
        }
      where
        up : (r : Row) → row_at o.rows id ≡ Some r → 0 < r.parent → IsServed r.parent
        up r there has =
            let its = id_of_row o.rows id r there in
            let row = met (IsRow ramfs_facts o.rows) 0 o.given id o.rows r sound.general.rows there in
            let less = met IsBelow 0 o.given id o.rows r under there in
            let parent = row_of_live o.rows r.parent (parent_lives o.rows r row has) in
            let fuel : served.most ≡ suc (served.most - 1) = omega (arith, its, less, served.few) in
            let ids : nearest o.rows served.most id ≡ r.parent ∷ nearest o.rows (served.most - 1) r.parent =
            ap (λ k. nearest o.rows k id) fuel ∙ one_above o.rows (served.most - 1) id r there
            ∙ ap (λ b. cond b [] (r.parent ∷ nearest o.rows (served.most - 1) r.parent)) (other_test r.parent 0 (λ none. absurd (omega (arith, none, has)))) in
            let all : Each HasOwn (r.parent ∷ nearest o.rows (served.most - 1) r.parent) = subst (Each HasOwn) ids served.above_it in
            record { row = parent.0; there = parent.1; alike = all.0 parent.0 parent.1; most = served.most - 1; few = omega (arith, its, less, served.few); above_it = all.1 }

    -- so the path of a parent is the same
    parent_path : (desc ≡ 0) ⊎ ((r : Row) × (row_at o.rows desc ≡ Some r)) → path_of held.rows (named names desc) ≡ path_of o.rows desc
    parent_path (inl root) =
        ap (λ n. path_of held.rows (named names n)) root ∙ ap (path_of held.rows) serves.names_are.none ∙ no_path IsBelow held.given held.rows under_held
        ∙ sym (ap (path_of o.rows) root ∙ no_path IsBelow o.given o.rows under)
    parent_path (inr has) =
        let its = id_of_row o.rows desc has.0 has.1 in
        let alike = serves.needed has.0 (ap (row_at o.rows) its ∙ has.1) (ap (λ b. b || is_ancestor o.rows has.0.id desc) (same_test has.0.id desc its)) in
        same_path (named names) serves.names_are.none IsServed o.rows held.rows step_served desc (named names desc) desc
        (record { row = has.0; there = has.1; alike = alike; most = desc; few = omega arith; above_it = ancestors_own serves }) (omega arith) (omega arith)

  -- the place of a row is the same
  same_place : (fun : ℕ) → Serves ramfs_facts names o held (call_of fun) → (r : Row) × (row_at o.rows desc ≡ Some r)
      → place_of (fun_at ramfs_facts.funs fun) (row_at held.rows (named names desc)) ≡ place_of (fun_at ramfs_facts.funs fun) (row_at o.rows desc)
  same_place fun serves found =
      let alike = alike_row ramfs_facts names o held (call_of fun) found.0 serves found.1 in
      ap (place_of (fun_at ramfs_facts.funs fun)) alike.1 ∙ ap (place_in (fun_at ramfs_facts.funs fun).effects) alike.2 ∙ sym (ap (place_of (fun_at ramfs_facts.funs fun)) found.1)

  alike_at : (fun : ℕ) → Passes ramfs_facts o (call_of fun) → Serves ramfs_facts names o held (call_of fun)
      → SameReply names (fun_at ramfs_facts.funs fun).creation (ramfs_answer fun o (call_of fun)) (ramfs_answer fun held (record (call_of fun) { desc = named names desc }))
  alike_at zero passes serves = refl
  alike_at (suc zero) passes serves =
      let may = parent_row desc client (row_at o.rows desc) (none_applies _ _ false NoParent Full NoDesc passes.guarded).0 in
      subst (λ path. SameReply names true (split_answer o.given (path_of o.rows desc) (first_text args)) (split_answer held.given path (first_text args))) (sym (parent_path serves may))
      (same_split names o.given held.given (path_of o.rows desc) (first_text args))
  alike_at (suc (suc zero)) passes serves =
      let place = same_place 2 serves (row_of_call ramfs_facts o (call_of 2) passes refl refl) in
      let file : file_of held (named names desc) ≡ file_of o desc = ap (file_at held.files) serves.file.0 ∙ serves.file.1 in
      let n : ℕ = word_of (arg_at (call_of 2) 0) in
      subst (λ f. SameReply names false (read_answer (file_of o desc) (place_of tread (row_at o.rows desc)) n) (read_answer f (place_of tread (row_at held.rows (named names desc))) n)) (sym file)
      (subst (λ p. SameReply names false (read_answer (file_of o desc) (place_of tread (row_at o.rows desc)) n) (read_answer (file_of o desc) p n)) (sym place)
      (same_read names serves.names_are.none (file_of o desc) (place_of tread (row_at o.rows desc)) n))
  alike_at (suc (suc (suc zero))) passes serves =
      let place = same_place 3 serves (row_of_call ramfs_facts o (call_of 3) passes refl refl) in
      let file : file_of held (named names desc) ≡ file_of o desc = ap (file_at held.files) serves.file.0 ∙ serves.file.1 in
      let from : ℕ = place_of twrite (row_at o.rows desc) in
      subst (λ f. SameReply names false (write_answer (file_of o desc) from (first_text args)) (write_answer f (place_of twrite (row_at held.rows (named names desc))) (first_text args))) (sym file)
      (subst (λ p. SameReply names false (write_answer (file_of o desc) from (first_text args)) (write_answer (file_of o desc) p (first_text args))) (sym place)
      (same_write names serves.names_are.none (file_of o desc) from (first_text args)))
  alike_at (suc (suc (suc (suc zero)))) passes serves = same_seek names serves.names_are.none (word_of (arg_at (call_of 4) 0))
  alike_at (suc (suc (suc (suc (suc zero))))) passes serves = same_done names serves.names_are.none
  alike_at (suc (suc (suc (suc (suc (suc n)))))) passes serves = refl

-- the file service gives a call the same answer from whatever serves it, under other ids too
pub ramfs_answers_alike : AnswersAlike ramfs_facts ramfs_table IsRamfsSound
ramfs_answers_alike = record {
  alike = λ names o held call sound passes serves. alike_at names o held call.client call.seq call.desc call.args sound call.fun passes serves;
}

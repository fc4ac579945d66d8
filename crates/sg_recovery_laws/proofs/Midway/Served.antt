-- A call whose needs are whole gets from the service the answer at the object of the history, whatever replies of others are held, and the
-- service stands as before: its rows for those of the object after the call and the held replies.
use Rattle.std.proofs.Common.{◌≡◌, ℕ, suc, ◌+◌, Bool, true, false, cond, List, [], ◌∷◌, None, Some, length, refl, sym, ◌∙◌, ap, subst, inl, inr, ◌⊎◌, arith}
use Rattle.std.specs.Prelude.{◌==◌, ◌||◌, ◌&&◌, ◌≢◌, if◌then◌else◌}
use Rattle.std.specs.List.{list_any}
use Rattle.std.specs.declared.option.Option.{Option}
use Rattle.std.proofs.lemmas.Bool.Decides.{nat_tests}
use Rattle.sg_facts.specs.sg_base.declared.call.Call.{Call}
use Rattle.sg_facts.specs.sg_base.declared.reply.Good.{Good}
use Rattle.sg_facts.specs.sg_base.declared.reply.Reply.{Reply}
use Rattle.sg_facts.specs.sg_base.declared.reply.Reply.TheVariants.{Ok, Refused}
use Rattle.sg_facts.specs.declared.entry.Entry.{Entry}
use Rattle.sg_facts.specs.declared.outcome.Patch.{Patch}
use Rattle.sg_facts.specs.declared.row.Row.{Row}
use Rattle.sg_facts.specs.declared.shape.Parents.{Parents}
use Rattle.sg_facts.specs.declared.shape.Parents.TheVariants.{Never, Same, Cross}
use Rattle.sg_facts.specs.declared.tables.WalkLine.{WalkLine}
use Rattle.sg_facts.specs.Alike.{HasAlike, SameReply, Serves, named, under_names}
use Rattle.sg_facts.specs.Facts.{Facts, fun_at, is_text_kind, takes_desc, takes_parent, writes}
use Rattle.sg_facts.specs.Inside.Guards.{is_own, is_there, may_be_parent}
use Rattle.sg_facts.specs.Interface.{Declared}
use Rattle.sg_facts.specs.Laws.{Passes, whole}
use Rattle.sg_facts.specs.Legal.{Table}
use Rattle.sg_facts.specs.Needs.{is_needed}
use Rattle.sg_facts.specs.Object.{Object, after, file_at, first_text, over, patch_of, path_of, place_in, place_of}
use Rattle.sg_facts.specs.Inside.Rows.{object_from, patch_at, patched, has_child}
use Rattle.sg_facts.specs.Sound.{IsRow, IsSound}
use Rattle.sg_facts.specs.Track.{is_ancestor, new_row, row_at}
use Rattle.sg_facts.proofs.RowLists.{id_of_row, row_at-more, row_of_live}
use Rattle.sg_recovery_laws.specs.Midway.Progress.{HasFile, IsSoFar, IsInRecovery, Told, fresh, begun, complete}
use Rattle.sg_recovery_laws.specs.Objects.Serving.{HasTime, IsAnsweredAt, IsLegalObject, IsService}
use Rattle.sg_recovery_laws.specs.Midway.Stepping.{present_with, told_with}
use Rattle.sg_recovery_laws.specs.Objects.Waiting.{AreWaiting, NoneBy}
use Rattle.sg_track.specs.Tracked.{HasLowerParent}
use Rattle.sg_facts.proofs.Replaying.Above.{low_real}
use Rattle.sg_recovery_laws.proofs.Objects.Answered.{child_same}
use Rattle.sg_recovery_laws.proofs.Objects.Apart.{makes_row, query_keeps}
use Rattle.sg_recovery_laws.proofs.Objects.Files.{set_other, set_own}
use Rattle.sg_facts.proofs.Replaying.Files.{told as which}
use Rattle.sg_facts.proofs.Replaying.Found.{from_more, met, other_test, same_test, within}
use Rattle.sg_recovery_laws.proofs.Objects.Found.{lower_parents}
use Rattle.sg_recovery_laws.proofs.Objects.Guarded.{ActsOnOne, acts, keeps, let_pass, own_desc}
use Rattle.sg_recovery_laws.proofs.Midway.Rest.{kept_beside, so_far_more, so_far_same, stays_there}
use Rattle.sg_recovery_laws.proofs.Objects.Left.{stays, stays_in}
use Rattle.sg_recovery_laws.proofs.Objects.Serve.{IsWholeRow, holds_served, names_served, new_served, whole_served}
use Rattle.sg_recovery_laws.proofs.Objects.Serves.{desc_row, needed_after, path_after, path_held, serves_now}
use Rattle.sg_recovery_laws.proofs.Objects.Steady.{after_good, ascends, fewer_after}
use Rattle.sg_recovery_laws.proofs.Objects.Waiting.{acting_is, after_same, good_later, hidden_is, less_time, past_waiting, time_after, waiting_after}

-- the reply of an object that says the same as the service's
pub record HasReply (facts : Facts) (ask : Table) (names : List (ℕ × ℕ)) (o held : Object) (call : Call) (other : Reply) : Type 0 where
  pub reply : Reply
  pub answered : ask o call ≡ Some reply
  pub same : SameReply names (fun_at facts.funs call.fun).creation (Some reply) (Some other)

pub reply_of : (facts : Facts) (ask : Table) (names : List (ℕ × ℕ)) (o held : Object) (call : Call) (other : Reply)
    → SameReply names (fun_at facts.funs call.fun).creation (ask o call) (ask held (under_names names call)) → ask held (under_names names call) ≡ Some other → HasReply facts ask names o held call other
reply_of facts ask names o held call other same is = at (ask o call) refl (subst (SameReply names (fun_at facts.funs call.fun).creation (ask o call)) is same)
  where
    none : (b : Bool) → SameReply names b None (Some other) → ⊥
    none true s = s
    none false s = s

    at : (x : Option Reply) → ask o call ≡ x → SameReply names (fun_at facts.funs call.fun).creation x (Some other) → HasReply facts ask names o held call other
    at None is s = absurd (none (fun_at facts.funs call.fun).creation s)
    at (Some reply) is s = record { reply = reply; answered = is; same = s }

-- what two Oks share
pub same_words : (names : List (ℕ × ℕ)) (b : Bool) (good other : Good) → SameReply names b (Some (Ok good)) (Some (Ok other)) → (other.words ≡ good.words) × (other.bytes ≡ good.bytes)
same_words names true good other same = (same.0, same.1)
same_words names false good other same = (same.0, same.1)

module _ (i : Declared) (ask : Table) (sound : Object → Type 0) (walks : List WalkLine) (names : List (ℕ × ℕ)) (told : ℕ → Told) (present : List ℕ → Bool) (o held : Object) (es : List Entry)
    (law : IsService i.facts ask sound) (ok : IsLegalObject i.facts sound o) (waiting : AreWaiting i.facts ask o es) (time : HasTime i.facts (suc (suc (length es))) o)
    (under : IsInRecovery i walks names told present (object_from i.facts o es) held) (call : Call) (passes : Passes i.facts o call) (none_by : NoneBy call.client es)
    (needed : (r : Row) → row_at o.rows r.id ≡ Some r → is_needed i.facts o.rows call r ≡ true → told r.id ≡ complete)
    (file : (fun_at i.facts.funs call.fun).uses_file ≡ true → (present (path_of o.rows call.desc) ≡ true) ⊎ (file_at o.files (path_of o.rows call.desc) ≡ [])) where
  abbrev behind : Object
  behind = object_from i.facts o es

  abbrev fun_is : ℕ
  fun_is = call.fun

  time_es : HasTime i.facts (length es) o
  time_es = less_time i.facts ask sound law (suc (suc (length es))) (length es) o (omega arith) time

  good_o : IsLegalObject i.facts sound (object_from i.facts o es)
  good_o = good_later i.facts ask sound law o es ok time_es waiting

  sound_o : IsSound i.facts (object_from i.facts o es)
  sound_o = law.keeps.general (object_from i.facts o es) good_o.is_sound

  files_o : (object_from i.facts o es).files ≡ o.files
  files_o = (after_same i.facts ask sound law o es call.client ok time_es waiting none_by).1

  given_o : (object_from i.facts o es).given ≡ o.given
  given_o = (after_same i.facts ask sound law o es call.client ok time_es waiting none_by).2

  whole_needed : (r : Row) → row_at o.rows r.id ≡ Some r → is_needed i.facts o.rows call r ≡ true → HasAlike names held r
  whole_needed r there need =
      subst (IsSoFar i walks names held r) (needed r there need) (under.rows r (needed_after i.facts ask sound law o es call r ok time_es waiting none_by passes there need))

  -- the needed file is the same
  file_same : (fun_at i.facts.funs call.fun).uses_file ≡ true → file_at held.files (path_of o.rows call.desc) ≡ file_at o.files (path_of o.rows call.desc)
  file_same uses = at (file uses) (present (path_of o.rows call.desc)) refl (under.files (path_of o.rows call.desc))
    where
      at : (present (path_of o.rows call.desc) ≡ true) ⊎ (file_at o.files (path_of o.rows call.desc) ≡ []) → (b : Bool) → present (path_of o.rows call.desc) ≡ b
          → HasFile b (path_of o.rows call.desc) (object_from i.facts o es) held → file_at held.files (path_of o.rows call.desc) ≡ file_at o.files (path_of o.rows call.desc)
      at x true is has = has ∙ ap (λ fs. file_at fs (path_of o.rows call.desc)) files_o
      at (inl yes_it) false is has = absurd (cc (yes_it, is))
      at (inr empty) false is has = has ∙ sym empty

  pub serves_it : Serves i.facts names o held call
  serves_it = serves_now i.facts ask sound law i names o held es call refl ok time_es waiting none_by under.holds passes whole_needed file_same

  -- the service answers as the object would
  pub same_answer : SameReply names (fun_at i.facts.funs call.fun).creation (ask o call) (ask held (under_names names call))
  same_answer = law.alike.alike names o held call ok.is_sound passes serves_it

  -- a call that the service lets wait would wait at the object
  pub blocks_alike : ask held (under_names names call) ≡ None → ask o call ≡ None
  blocks_alike is = at (ask o call) refl (subst (SameReply names (fun_at i.facts.funs call.fun).creation (ask o call)) is same_answer)
    where
      none : (b : Bool) (reply : Reply) → SameReply names b (Some reply) None → ⊥
      none true (Ok good) s = s
      none true (Refused code) s = s
      none false (Ok good) s = s
      none false (Refused code) s = s

      at : (x : Option Reply) → ask o call ≡ x → SameReply names (fun_at i.facts.funs call.fun).creation x None → ask o call ≡ None
      at None is s = is
      at (Some reply) is s = absurd (none (fun_at i.facts.funs call.fun).creation reply s)

  -- ---- the rows that the call is on

  its_own : (r : Row) → r.id ≡ call.desc → is_needed i.facts o.rows call r ≡ true
  its_own r same =
      let is : (r.id == call.desc) ≡ true = same_test r.id call.desc same in
      ap (λ b. (fun_at i.facts.funs call.fun).all || b || is_ancestor o.rows r.id call.desc) is ∙ at (fun_at i.facts.funs call.fun).all
    where
      at : (a : Bool) → (a || true || is_ancestor o.rows r.id call.desc) ≡ true
      at true = refl
      at false = refl

  whole_row : (r : Row) → row_at o.rows call.desc ≡ Some r → IsWholeRow names (object_from i.facts o es) held call.desc
  whole_row r of =
      let id : r.id ≡ call.desc = id_of_row o.rows call.desc r of in
      let there : row_at o.rows r.id ≡ Some r = ap (row_at o.rows) id ∙ of in
      record {
        row = r;
        of = ap (row_at (object_from i.facts o es).rows) (sym id) ∙ needed_after i.facts ask sound law o es call r ok time_es waiting none_by passes there (its_own r id);
        whole = whole_needed r there (its_own r id);
      }

  acts_it : ActsOnOne i.facts (fun_at i.facts.funs call.fun)
  acts_it = acts i.facts call.fun law.shape.shape passes.is_call.first passes.is_call.last

  on_row : (fun_at i.facts.funs call.fun).query ≡ false → (fun_at i.facts.funs call.fun).creation ≡ false → (r : Row) × (row_at o.rows call.desc ≡ Some r)
  unfolding acts_it
  on_row row makes = desc_row i.facts ask sound law o call passes (acts_it.on makes row).0 row

  on_whole : (fun_at i.facts.funs call.fun).query ≡ false → (fun_at i.facts.funs call.fun).creation ≡ false → IsWholeRow names (object_from i.facts o es) held call.desc
  on_whole row makes = let r = on_row row makes in whole_row r.0 r.1

  parent_whole : takes_parent (fun_at i.facts.funs call.fun) ≡ true → (call.desc ≡ 0) ⊎ IsWholeRow names (object_from i.facts o es) held call.desc
  unfolding acts_it
  parent_whole takes = by_query (fun_at i.facts.funs call.fun).query refl
    where
      either : (a b : Bool) → (a || b) ≡ true → (a ≡ true) ⊎ (b ≡ true)
      either true b is = inl refl
      either false b is = inr is

      own : (x : Option Row) → row_at o.rows call.desc ≡ x → is_own x call.client ≡ true → IsWholeRow names (object_from i.facts o es) held call.desc
      own None of is = absurd (cc is)
      own (Some r) of is = whole_row r of

      there : (x : Option Row) → row_at o.rows call.desc ≡ x → is_there x ≡ true → IsWholeRow names (object_from i.facts o es) held call.desc
      there None of is = absurd (cc is)
      there (Some r) of is = whole_row r of

      at : (p : Parents) → may_be_parent p (row_at o.rows call.desc) call.desc call.client ≡ true → (call.desc ≡ 0) ⊎ IsWholeRow names (object_from i.facts o es) held call.desc
      at Never may = inr (there (row_at o.rows call.desc) refl may)
      at Same may = elim (either (call.desc == 0) (is_own (row_at o.rows call.desc) call.client) may) [
        | inl root ↦ inl (grind (arith, nat_tests, root))
        | inr is ↦ inr (own (row_at o.rows call.desc) refl is)
      ]
      at Cross may = inr (there (row_at o.rows call.desc) refl may)

      by_query : (b : Bool) → (fun_at i.facts.funs call.fun).query ≡ b → (call.desc ≡ 0) ⊎ IsWholeRow names (object_from i.facts o es) held call.desc
      by_query true query = absurd (let none = ((keeps i.facts call.fun law.shape.shape passes.is_call.first passes.is_call.last).query query).1 in cc (takes, none))
      by_query false row = at i.facts.parents ((let_pass (whole i.facts) o call row passes.guarded).parent takes)

  no_children : (fun_at i.facts.funs call.fun).query ≡ false → (fun_at i.facts.funs call.fun).creation ≡ false → (fun_at i.facts.funs call.fun).terminal ≡ true → i.facts.subtree ≡ false
      → has_child (object_from i.facts o es).rows call.desc ≡ false
  unfolding acts_it
  no_children row makes ends alone = by_held es refl waiting
    where
      by_held : (l : List Entry) → l ≡ es → AreWaiting i.facts ask o l → has_child (object_from i.facts o l).rows call.desc ≡ false
      by_held [] is all = (let_pass (whole i.facts) o call row passes.guarded).children ends alone
      by_held (p ∷ l) is all =
          let hidden = hidden_is i.facts p.call.fun all.0.hidden in
          let own = own_desc (whole i.facts) o call hidden.alone (let_pass (whole i.facts) o call row passes.guarded) (acts_it.on makes row).0 in
          let same = (after_same i.facts ask sound law o es call.client ok time_es waiting none_by).0 in
          ap (λ x. has_child (object_from i.facts o x).rows call.desc) is
          ∙ child_same call.client o.rows (object_from i.facts o es).rows o.given (object_from i.facts o es).given call.desc (ascends i.facts o (law.keeps.general o ok.is_sound)) (ascends i.facts (object_from i.facts o es) sound_o)
          (ok.own hidden.alone) (good_o.own hidden.alone) same own
          ∙ (let_pass (whole i.facts) o call row passes.guarded).children ends alone

  -- ---- the order of the held replies and the call

  pub past_held : (reply : Reply) → ask o call ≡ Some reply → object_from i.facts (after i.facts o call reply) es ≡ after i.facts (object_from i.facts o es) call reply
  past_held reply is = by es refl waiting none_by time
    where
      by : (l : List Entry) → l ≡ es → AreWaiting i.facts ask o l → NoneBy call.client l → HasTime i.facts (suc (suc (length l))) o → object_from i.facts (after i.facts o call reply) l ≡ after i.facts (object_from i.facts o l) call reply
      by [] l_is all none time = refl
      by (p ∷ l) l_is all none time =
          let hidden = hidden_is i.facts p.call.fun all.0.hidden in
          let answered : IsAnsweredAt i.facts ask o call reply = record { passes = passes; answered = is } in
          let later = time_after i.facts ask sound law (suc (length (p ∷ l))) o call reply ok answered time in
          past_waiting i.facts ask sound law o call reply (p ∷ l) ok (after_good i.facts ask sound law o call reply ok answered) (acting_is i.facts ask sound law o call reply hidden.alone answered) none
          (less_time i.facts ask sound law (suc (suc (length (p ∷ l)))) (suc (length (p ∷ l))) o (omega arith) time)
          (less_time i.facts ask sound law (suc (length (p ∷ l))) (length (p ∷ l)) (after i.facts o call reply) (omega arith) later) all
          (waiting_after i.facts ask sound law o call reply (p ∷ l) ok answered (less_time i.facts ask sound law (suc (length (p ∷ l))) 0 (after i.facts o call reply) (omega arith) later) none all)

  sound_after : (reply : Reply) → ask o call ≡ Some reply → IsSound i.facts (after i.facts (object_from i.facts o es) call reply)
  sound_after reply is =
      let answered : IsAnsweredAt i.facts ask o call reply = record { passes = passes; answered = is } in
      let later = time_after i.facts ask sound law (suc (length es)) o call reply ok answered time in
      subst (IsSound i.facts) (past_held reply is) (law.keeps.general (object_from i.facts (after i.facts o call reply) es)
      (good_later i.facts ask sound law (after i.facts o call reply) es (after_good i.facts ask sound law o call reply ok answered)
      (less_time i.facts ask sound law (suc (length es)) (length es) (after i.facts o call reply) (omega arith) later)
      (waiting_after i.facts ask sound law o call reply es ok answered (less_time i.facts ask sound law (suc (length es)) 0 (after i.facts o call reply) (omega arith) later) none_by waiting)).is_sound)

  -- ---- what the service holds after an Ok

  module _ (good other : Good) (is : ask o call ≡ Some (Ok good)) (is_h : ask held (under_names names call) ≡ Some (Ok other)) (words : other.words ≡ good.words) where
    abbrev o1 : Object
    o1 = after i.facts (object_from i.facts o es) call (Ok good)

    abbrev h1 : Object
    h1 = after i.facts held (under_names names call) (Ok other)

    abbrev names1 : List (ℕ × ℕ)
    names1 = names_served i.facts names call good other

    next_it : (fun_at i.facts.funs call.fun).creation ≡ true → (good.desc ≡ (object_from i.facts o es).given + 1) × (other.desc ≡ held.given + 1)
    next_it makes = (law.keeps.next o call good is makes ∙ ap (λ n. n + 1) (sym given_o), law.keeps.next held (under_names names call) other is_h makes)

    -- a row that isn't whole isn't the one that the call is on
    not_on : (r : Row) → row_at o.rows call.desc ≡ Some r → told call.desc ≡ complete
    not_on r of =
        let id : r.id ≡ call.desc = id_of_row o.rows call.desc r of in
        ap told (sym id) ∙ needed r (ap (row_at o.rows) id ∙ of) (its_own r id)

    -- such a row stays as it is, and so does its row in the service
    record Stays (r r' : Row) : Type 0 where
      same : r' ≡ r
      kept : (w : Row) → row_at held.rows (named names r.id) ≡ Some w → row_at h1.rows (named names r.id) ≡ Some w

    some_name : (r : Row) → row_at o.rows call.desc ≡ Some r → named names call.desc ≡ 0 → ⊥
    some_name r of none =
        let w = whole_row r of in
        let id : w.row.id ≡ call.desc = id_of_row (object_from i.facts o es).rows call.desc w.row w.of in
        let low = low_real i names (object_from i.facts o es) held under.holds sound_o (named names w.row.id) w.whole.row w.whole.there in
        let name = id_of_row held.rows (named names w.row.id) w.whole.row w.whole.there in
        absurd (omega (arith, low, name, ap (named names) id, none))

    stays_it : (r r' : Row) → (told r.id ≡ complete → ⊥) → row_at (object_from i.facts o es).rows r.id ≡ Some r → row_at o1.rows r.id ≡ Some r' → Stays r r'
    stays_it r r' part there there' = by_query (fun_at i.facts.funs call.fun).query refl
      where
        one : row_at o1.rows r.id ≡ Some r → r' ≡ r
        one is = let same : Some r' ≡ Some r = sym there' ∙ is in cc same

        beside : (fun_at i.facts.funs call.fun).query ≡ false → (fun_at i.facts.funs call.fun).creation ≡ false → Stays r r'
        beside row makes =
            let on = on_row row makes in
            let apart : r.id ≢ call.desc = λ same. part (ap told same ∙ not_on on.0 on.1) in
            let stay : (fun_at i.facts.funs call.fun).terminal ≡ true → stays i.facts (object_from i.facts o es).rows call.desc r.id ≡ true
            = λ ends. stays_there i.facts (object_from i.facts o es).rows call good r.id r' row makes ends there' in
            record {
              same = one (kept_beside i.facts (object_from i.facts o es).rows call good r.id r there apart stay);
              kept = λ w found. kept_beside i.facts held.rows (under_names names call) other (named names r.id) w found
                  (λ same. elim (under.holds.names_are.apart r.id call.desc same) [
                    | inl none ↦ some_name on.0 on.1 (sym same ∙ none)
                    | inr is_it ↦ apart is_it
                  ])
                  (λ ends. stays_in i names (object_from i.facts o es) held call.desc under.holds sound_o (some_name on.0 on.1) r w there found ∙ stay ends);
            }

        by_creation : (b : Bool) → (fun_at i.facts.funs call.fun).query ≡ false → (fun_at i.facts.funs call.fun).creation ≡ b → Stays r r'
        by_creation true row makes = record {
          same = one (ap (λ rs. row_at rs r.id) (makes_row i.facts call good (object_from i.facts o es).rows row makes) ∙ row_at-more (object_from i.facts o es).rows (new_row i.facts call good) r r.id there);
          kept = λ w found. ap (λ ws. row_at ws (named names r.id)) (makes_row i.facts (under_names names call) other held.rows row makes)
              ∙ row_at-more held.rows (new_row i.facts (under_names names call) other) w (named names r.id) found;
        }
        by_creation false row makes = beside row makes

        by_query : (b : Bool) → (fun_at i.facts.funs call.fun).query ≡ b → Stays r r'
        by_query true query = record {
          same = one (ap (λ rs. row_at rs r.id) (query_keeps i.facts call good (object_from i.facts o es).rows query) ∙ there);
          kept = λ w found. ap (λ ws. row_at ws (named names r.id)) (query_keeps i.facts (under_names names call) other held.rows query) ∙ found;
        }
        by_query false row = by_creation (fun_at i.facts.funs call.fun).creation row refl

    part_on : (r r' : Row) (t : Told) → (t ≡ complete → ⊥) → told r.id ≡ t → row_at (object_from i.facts o es).rows r.id ≡ Some r → row_at o1.rows r.id ≡ Some r' → IsSoFar i walks names1 h1 r' t
    part_on r r' t part told_is there there' =
        let s = stays_it r r' (λ full. part (sym told_is ∙ full)) there there' in
        subst (λ x. IsSoFar i walks names1 h1 x t) (sym s.same) (by (fun_at i.facts.funs call.fun).creation refl s.kept (subst (IsSoFar i walks names held r) told_is (under.rows r there)))
      where
        by : (b : Bool) → (fun_at i.facts.funs call.fun).creation ≡ b → ((w : Row) → row_at held.rows (named names r.id) ≡ Some w → row_at h1.rows (named names r.id) ≡ Some w)
            → IsSoFar i walks names held r t → IsSoFar i walks (cond b ((good.desc, other.desc) ∷ names) names) h1 r t
        by false makes kept far = so_far_same i walks names held h1 r t kept far
        by true makes kept far =
            let next = (next_it makes).0 in
            let most = within (IsRow i.facts (object_from i.facts o es).rows) 0 (object_from i.facts o es).given r.id (object_from i.facts o es).rows r sound_o.rows there in
            let lower = met HasLowerParent 0 (object_from i.facts o es).given r.id (object_from i.facts o es).rows r (lower_parents i.facts (object_from i.facts o es).rows 0 (object_from i.facts o es).given (object_from i.facts o es).rows sound_o.rows) there in
            so_far_more i walks names held h1 good.desc other.desc r t (λ same. absurd (omega (arith, same, next, most)))
            (λ w found same. absurd (omega (arith, same, next, most, lower))) kept far

    rows_on : (r' : Row) → row_at o1.rows r'.id ≡ Some r' → IsSoFar i walks names1 h1 r' (told_with i.facts call good told r'.id)
    rows_on r' there' = by (row_at (object_from i.facts o es).rows r'.id) refl
      where
        full : HasAlike names1 h1 r' → told_with i.facts call good told r'.id ≡ complete → IsSoFar i walks names1 h1 r' (told_with i.facts call good told r'.id)
        full has told_is = subst (IsSoFar i walks names1 h1 r') (sym told_is) has

        new_told : row_at (object_from i.facts o es).rows r'.id ≡ None → (b : Bool) → (fun_at i.facts.funs call.fun).creation ≡ b → cond (b && (r'.id == good.desc)) complete (told r'.id) ≡ complete
        new_told none false makes =
            let live = fewer_after i.facts (object_from i.facts o es).rows call good makes r'.id r' there' in
            let found = row_of_live (object_from i.facts o es).rows r'.id live in
            absurd (let x = found.1 in cc (none, x))
        new_told none true makes =
            elim (from_more (IsRow i.facts (object_from i.facts o es).rows) 0 (object_from i.facts o es).given (object_from i.facts o es).rows (new_row i.facts call good) r' r'.id
            (ap (λ rs. row_at rs r'.id) (sym (makes_row i.facts call good (object_from i.facts o es).rows (acts_is.makes makes).0 makes)) ∙ there')) [
              | inl old ↦ absurd (cc (none, old))
              | inr last ↦ ap (λ b. cond b complete (told r'.id)) (same_test r'.id good.desc (sym last.1))
            ]
          where
            acts_is : ActsOnOne i.facts (fun_at i.facts.funs call.fun)
            acts_is = acts i.facts call.fun law.shape.shape passes.is_call.first passes.is_call.last

        old_told : (r : Row) → row_at (object_from i.facts o es).rows r'.id ≡ Some r → told_with i.facts call good told r'.id ≡ told r'.id
        old_told r there = at (fun_at i.facts.funs call.fun).creation refl
          where
            at : (b : Bool) → (fun_at i.facts.funs call.fun).creation ≡ b → cond (b && (r'.id == good.desc)) complete (told r'.id) ≡ told r'.id
            at false makes = refl
            at true makes =
                let next = (next_it makes).0 in
                let most = within (IsRow i.facts (object_from i.facts o es).rows) 0 (object_from i.facts o es).given r'.id (object_from i.facts o es).rows r sound_o.rows there in
                let its = id_of_row (object_from i.facts o es).rows r'.id r there in
                ap (λ b. cond b complete (told r'.id)) (other_test r'.id good.desc (λ same. absurd (omega (arith, same, next, most, its))))

        by : (x : Option Row) → row_at (object_from i.facts o es).rows r'.id ≡ x → IsSoFar i walks names1 h1 r' (told_with i.facts call good told r'.id)
        by None none = full (new_served i names (object_from i.facts o es) held call good other under.holds sound_o (sound_after (Ok good) is) (acts i.facts call.fun law.shape.shape passes.is_call.first passes.is_call.last) words next_it on_whole (λ takes. parent_whole takes) no_children r' there' none)
            (new_told none (fun_at i.facts.funs call.fun).creation refl)
        by (Some r) there =
            let its : r.id ≡ r'.id = id_of_row (object_from i.facts o es).rows r'.id r there in
            let there_r : row_at (object_from i.facts o es).rows r.id ≡ Some r = ap (row_at (object_from i.facts o es).rows) its ∙ there in
            let there_r' : row_at o1.rows r.id ≡ Some r' = ap (row_at o1.rows) its ∙ there' in
            subst (IsSoFar i walks names1 h1 r') (sym (old_told r there)) (at (told r'.id) (ap told its) there_r there_r')
          where
            at : (t : Told) → told r.id ≡ t → row_at (object_from i.facts o es).rows r.id ≡ Some r → row_at o1.rows r.id ≡ Some r' → IsSoFar i walks names1 h1 r' t
            at fresh t_is there_r there_r' = part_on r r' fresh (λ bad. not_fresh bad) t_is there_r there_r'
              where
                kind : Told → Bool
                kind fresh = true
                kind (begun n) = true
                kind complete = false

                not_fresh : fresh ≡ complete → ⊥
                not_fresh bad = let wrong : true ≡ false = ap kind bad in cc wrong
            at (begun n) t_is there_r there_r' = part_on r r' (begun n) (λ bad. not_begun bad) t_is there_r there_r'
              where
                kind : Told → Bool
                kind fresh = true
                kind (begun n) = true
                kind complete = false

                not_begun : begun n ≡ complete → ⊥
                not_begun bad = let wrong : true ≡ false = ap kind bad in cc wrong
            at complete t_is there_r there_r' =
                whole_served i names (object_from i.facts o es) held call good other under.holds sound_o (sound_after (Ok good) is) (acts i.facts call.fun law.shape.shape passes.is_call.first passes.is_call.last) words next_it on_whole (λ takes. parent_whole takes) no_children r r'
                there_r (subst (IsSoFar i walks names held r) t_is (under.rows r there_r)) there_r'

    -- the patch is the same
    abbrev patch_from : Bool → List ℕ → Option Row → Option Patch
    patch_from b path row = if b then patch_at path (place_of (fun_at i.facts.funs call.fun) row) (first_text call.args) else None

    uses : (u w : Bool) → (u && w) ≡ true → u ≡ true
    uses true w it = refl
    uses false w it = absurd (cc it)

    not_so : (b : Bool) → (b ≡ true → ⊥) → b ≡ false
    not_so true isn't = absurd (isn't refl)
    not_so false isn't = refl

    record Writes : Type 0 where
      uses_file : (fun_at i.facts.funs call.fun).uses_file ≡ true
      takes : takes_desc (fun_at i.facts.funs call.fun) ≡ true
      no_query : (fun_at i.facts.funs call.fun).query ≡ false
      no_make : (fun_at i.facts.funs call.fun).creation ≡ false

    writes_it : writes (fun_at i.facts.funs call.fun) ≡ true → Writes
    writes_it w =
        let k = keeps i.facts call.fun law.shape.shape passes.is_call.first passes.is_call.last in
        let a = acts i.facts call.fun law.shape.shape passes.is_call.first passes.is_call.last in
        let u = uses (fun_at i.facts.funs call.fun).uses_file (list_any is_text_kind (fun_at i.facts.funs call.fun).kinds) w in
        let takes = k.file u in
        record {
          uses_file = u;
          takes = takes;
          no_query = not_so (fun_at i.facts.funs call.fun).query (λ q. let no_desc = (k.query q).0 in cc (takes, no_desc));
          no_make = not_so (fun_at i.facts.funs call.fun).creation (λ c. let no_desc = (a.makes c).2 in cc (takes, no_desc));
        }

    same_in : (b : Bool) → writes (fun_at i.facts.funs call.fun) ≡ b
        → (patch_from b (path_of held.rows (named names call.desc)) (row_at held.rows (named names call.desc)) ≡ patch_from b (path_of o.rows call.desc) (row_at o.rows call.desc))
        × (patch_from b (path_of (object_from i.facts o es).rows call.desc) (row_at (object_from i.facts o es).rows call.desc) ≡ patch_from b (path_of o.rows call.desc) (row_at o.rows call.desc))
    unfolding whole_row
    same_in false w = (refl, refl)
    same_in true w =
        let k = writes_it w in
        let r = on_row k.no_query k.no_make in
        let f = whole_row r.0 r.1 in
        let id : f.row.id ≡ call.desc = id_of_row (object_from i.facts o es).rows call.desc f.row f.of in
        let path_o : path_of (object_from i.facts o es).rows call.desc ≡ path_of o.rows call.desc
        = path_after i.facts ask sound law o es call ok time_es waiting none_by passes k.takes k.no_query in
        let there : row_at (object_from i.facts o es).rows f.row.id ≡ Some f.row = ap (row_at (object_from i.facts o es).rows) id ∙ f.of in
        let path_h : path_of held.rows (named names call.desc) ≡ path_of (object_from i.facts o es).rows call.desc
        = ap (λ n. path_of held.rows (named names n)) (sym id) ∙ path_held i names (object_from i.facts o es) held f.row under.holds sound_o there f.whole ∙ ap (path_of (object_from i.facts o es).rows) id in
        let row_o : row_at (object_from i.facts o es).rows call.desc ≡ row_at o.rows call.desc = f.of ∙ same_row r.0 r.1 in
        let row_h : place_of (fun_at i.facts.funs call.fun) (row_at held.rows (named names call.desc)) ≡ place_of (fun_at i.facts.funs call.fun) (row_at (object_from i.facts o es).rows call.desc)
        = ap (λ n. place_of (fun_at i.facts.funs call.fun) (row_at held.rows (named names n))) (sym id) ∙ ap (place_of (fun_at i.facts.funs call.fun)) f.whole.there
        ∙ ap (λ fs. place_in (fun_at i.facts.funs call.fun).effects fs) f.whole.alike.fields ∙ ap (place_of (fun_at i.facts.funs call.fun)) (sym f.of) in (
          ap (λ p. patch_at p (place_of (fun_at i.facts.funs call.fun) (row_at held.rows (named names call.desc))) (first_text call.args)) (path_h ∙ path_o)
              ∙ ap (λ n. patch_at (path_of o.rows call.desc) n (first_text call.args)) (row_h ∙ ap (place_of (fun_at i.facts.funs call.fun)) row_o),
          ap (λ p. patch_at p (place_of (fun_at i.facts.funs call.fun) (row_at (object_from i.facts o es).rows call.desc)) (first_text call.args)) path_o
              ∙ ap (λ x. patch_at (path_of o.rows call.desc) (place_of (fun_at i.facts.funs call.fun) x) (first_text call.args)) row_o,
        )
      where
        same_row : (r : Row) → (of : row_at o.rows call.desc ≡ Some r) → Some (whole_row r of).row ≡ row_at o.rows call.desc
        same_row r of = sym of

    pub same_patch_h : patch_of i.facts held (under_names names call) (Ok other) ≡ patch_of i.facts o call (Ok good)
    same_patch_h = (same_in (writes (fun_at i.facts.funs call.fun)) refl).0

    same_patch_o : patch_of i.facts (object_from i.facts o es) call (Ok good) ≡ patch_of i.facts o call (Ok good)
    same_patch_o = (same_in (writes (fun_at i.facts.funs call.fun)) refl).1

    -- a patch is of the needed file
    patch_key : (path : List ℕ) (from : ℕ) (bytes : List ℕ) (p : Patch) → patch_at path from bytes ≡ Some p → p.key ≡ path
    patch_key path from [] p it = absurd (cc it)
    patch_key path from (b ∷ bytes) p it = let one : (let x : Patch = record { key = path; from = from; bytes = b ∷ bytes } in x) ≡ p = cc it in sym (ap (λ x. x.key) one)

    key_is : (p : Patch) → patch_of i.facts o call (Ok good) ≡ Some p → (p.key ≡ path_of o.rows call.desc) × ((fun_at i.facts.funs call.fun).uses_file ≡ true)
    key_is p it = at (writes (fun_at i.facts.funs call.fun)) refl it
      where
        at : (b : Bool) → writes (fun_at i.facts.funs call.fun) ≡ b → patch_from b (path_of o.rows call.desc) (row_at o.rows call.desc) ≡ Some p → (p.key ≡ path_of o.rows call.desc) × ((fun_at i.facts.funs call.fun).uses_file ≡ true)
        at true w it = (patch_key (path_of o.rows call.desc) (place_of (fun_at i.facts.funs call.fun) (row_at o.rows call.desc)) (first_text call.args) p it, (writes_it w).uses_file)
        at false w it = absurd (cc it)

    files_on : (path : List ℕ) → HasFile (present_with (patch_of i.facts o call (Ok good)) present path) path o1 h1
    files_on path =
        let patched_h : h1.files ≡ patched held.files (patch_of i.facts o call (Ok good)) = ap (patched held.files) same_patch_h in
        let patched_o : o1.files ≡ patched (object_from i.facts o es).files (patch_of i.facts o call (Ok good)) = ap (patched (object_from i.facts o es).files) same_patch_o in
        at (patch_of i.facts o call (Ok good)) refl patched_h patched_o
      where
        plain : (b : Bool) (fs gs : List (List ℕ × List ℕ)) → h1.files ≡ fs → o1.files ≡ gs → file_at fs path ≡ file_at held.files path → file_at gs path ≡ file_at (object_from i.facts o es).files path
            → HasFile b path (object_from i.facts o es) held → HasFile b path o1 h1
        plain true fs gs h g same_h same_o has = ap (λ x. file_at x path) h ∙ same_h ∙ has ∙ sym (ap (λ x. file_at x path) g ∙ same_o)
        plain false fs gs h g same_h same_o has = ap (λ x. file_at x path) h ∙ same_h ∙ has

        or_true : (b : Bool) → (b || true) ≡ true
        or_true true = refl
        or_true false = refl

        or_false : (b : Bool) → (b || false) ≡ b
        or_false true = refl
        or_false false = refl

        at : (x : Option Patch) → patch_of i.facts o call (Ok good) ≡ x → h1.files ≡ patched held.files x → o1.files ≡ patched (object_from i.facts o es).files x → HasFile (present_with x present path) path o1 h1
        at None none h g = plain (present path) held.files (object_from i.facts o es).files h g refl refl (under.files path)
        at (Some p) some h g = elim (which p.key path) [
          | inl same ↦
              let k = key_is p some in
              let same_old : file_at held.files p.key ≡ file_at (object_from i.facts o es).files p.key
              = ap (file_at held.files) k.0 ∙ file_same k.1 ∙ ap (λ fs. file_at fs (path_of o.rows call.desc)) (sym files_o) ∙ ap (file_at (object_from i.facts o es).files) (sym k.0) in
              let new_h : file_at h1.files path ≡ over (file_at held.files p.key) p.from p.bytes
              = ap (λ x. file_at x path) h ∙ ap (file_at (patched held.files (Some p))) (sym same.1) ∙ set_own held.files p.key (over (file_at held.files p.key) p.from p.bytes) in
              let new_o : file_at o1.files path ≡ over (file_at (object_from i.facts o es).files p.key) p.from p.bytes
              = ap (λ x. file_at x path) g ∙ ap (file_at (patched (object_from i.facts o es).files (Some p))) (sym same.1)
              ∙ set_own (object_from i.facts o es).files p.key (over (file_at (object_from i.facts o es).files p.key) p.from p.bytes) in
              subst (λ b. HasFile b path o1 h1) (sym (ap (λ b. present path || b) same.0 ∙ or_true (present path)))
              (new_h ∙ ap (λ f. over f p.from p.bytes) same_old ∙ sym new_o)
          | inr apart ↦
              subst (λ b. HasFile b path o1 h1) (sym (ap (λ b. present path || b) apart.0 ∙ or_false (present path)))
              (plain (present path) (patched held.files (Some p)) (patched (object_from i.facts o es).files (Some p)) h g
              (set_other held.files p.key (over (file_at held.files p.key) p.from p.bytes) path apart.1)
              (set_other (object_from i.facts o es).files p.key (over (file_at (object_from i.facts o es).files p.key) p.from p.bytes) path apart.1)
              (under.files path))
        ]

    -- the service stands as before, at the object after the call and the held replies
    pub under_served : IsInRecovery i walks names1 (told_with i.facts call good told) (present_with (patch_of i.facts o call (Ok good)) present) (object_from i.facts (after i.facts o call (Ok good)) es) h1
    under_served = subst (λ x. IsInRecovery i walks names1 (told_with i.facts call good told) (present_with (patch_of i.facts o call (Ok good)) present) x h1) (sym (past_held (Ok good) is)) (record {
      holds = holds_served i names (object_from i.facts o es) held call good other under.holds sound_o (sound_after (Ok good) is) (acts i.facts call.fun law.shape.shape passes.is_call.first passes.is_call.last) words next_it on_whole (λ takes. parent_whole takes) no_children;
      rows = rows_on;
      files = files_on;
    })

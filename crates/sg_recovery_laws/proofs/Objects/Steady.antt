-- In a private service an answered call of one client leaves that of another what it is, and their order makes no difference.
use Rattle.std.proofs.Common.{◌≡◌, ℕ, ◌≤◌, Bool, true, false, cond, not, List, [], ◌∷◌, ◌++◌, None, Some, length, refl, sym, ◌∙◌, ap, subst, inl, inr, ◌⊎◌, arith}
use Rattle.std.specs.Prelude.{◌&&◌, nat_le, if◌then◌else◌}
use Rattle.std.specs.declared.option.Option.{Option}
use Rattle.sg_facts.specs.sg_base.declared.call.Call.{Call}
use Rattle.sg_facts.specs.sg_base.declared.reply.Code.{Code}
use Rattle.sg_facts.specs.sg_base.declared.reply.Code.TheVariants.{NoDesc, NoParent, BadState, HasChildren, Full}
use Rattle.sg_facts.specs.sg_base.declared.reply.Good.{Good}
use Rattle.sg_facts.specs.sg_base.declared.reply.Reply.{Reply}
use Rattle.sg_facts.specs.sg_base.declared.reply.Reply.TheVariants.{Ok, Refused}
use Rattle.sg_facts.specs.declared.row.Row.{Row}
use Rattle.sg_facts.specs.Facts.{Facts, Fun, fun_at, takes_desc, takes_parent}
use Rattle.sg_facts.specs.Guard.{guard}
use Rattle.sg_facts.specs.Inside.Guards.{in_state, may_be_parent, may_use, refusal}
use Rattle.sg_facts.specs.Limits.{most_live}
use Rattle.sg_facts.specs.Laws.{Passes, whole}
use Rattle.sg_facts.specs.Legal.{Table}
use Rattle.sg_facts.specs.Object.{Object, after, path_of}
use Rattle.sg_facts.specs.Sound.{IsRow, IsSound}
use Rattle.sg_facts.specs.Track.{is_live, new_row, row_at, rows_after}
use Rattle.sg_facts.specs.Inside.Rows.{has_child}
use Rattle.sg_facts.proofs.RowLists.{id_of_row, live_of_row, row_at-more, other}
use Rattle.sg_recovery_laws.specs.Objects.Apart.{AreOwn, SameFor}
use Rattle.sg_recovery_laws.specs.Objects.Serving.{HasTime, IsAnsweredAt, IsLegalObject, IsService}
use Rattle.sg_recovery_laws.proofs.Objects.Answered.{child_same, needed_none, needed_own}
use Rattle.sg_recovery_laws.proofs.Objects.Apart.{Ascends, IsOnOwn, IsOwnRow, changes_row, ends_rows, leaves_others, makes_row, query_keeps, same_back, same_self}
use Rattle.sg_recovery_laws.proofs.Objects.Changed.{change_at}
use Rattle.sg_facts.specs.Alike.{SameFile}
use Rattle.sg_recovery_laws.proofs.Objects.Commute.{own_after, same_id_at}
use Rattle.sg_facts.proofs.Replaying.Found.{from_left, from_map, within}
use Rattle.sg_recovery_laws.proofs.Objects.Guarded.{ActsOnOne, KeepsTo, acts, keeps, let_pass, looks_at_own, own_desc, own_parent}
use Rattle.sg_recovery_laws.proofs.Objects.Left.{stays}
use Rattle.sg_recovery_laws.proofs.Objects.Same.{NeedsSame, ask_same}

-- rows ascend
pub ascends : (facts : Facts) (o : Object) → IsSound facts o → Ascends 0 o.given o.rows
ascends facts o sound = other (IsRow facts o.rows) (λ r. Unit {0}) (λ r is. tt) 0 o.given o.rows sound.rows

-- an Ok of what makes no descriptor leaves no row under a new id
pub fewer_after : (facts : Facts) (rows : List Row) (call : Call) (good : Good) → (fun_at facts.funs call.fun).creation ≡ false → (id : ℕ) (w : Row) → row_at (rows_after facts rows call good) id ≡ Some w → is_live rows id ≡ true
fewer_after facts rows call good makes id w there = by_query (fun_at facts.funs call.fun).query refl
  where
    by_terminal : (b : Bool) → (fun_at facts.funs call.fun).query ≡ false → (fun_at facts.funs call.fun).terminal ≡ b → is_live rows id ≡ true
    by_terminal true row ends =
        let was = from_left (stays facts rows call.desc) rows id w (ap (λ l. row_at l id) (sym (ends_rows facts call good rows row makes ends)) ∙ there) in
        live_of_row rows id w was.there
    by_terminal false row ends =
        let was = from_map (change_at facts call good) (same_id_at facts call good) rows id w (ap (λ l. row_at l id) (sym (changes_row facts call good rows row makes ends)) ∙ there) in
        live_of_row rows id was.row was.there

    by_query : (b : Bool) → (fun_at facts.funs call.fun).query ≡ b → is_live rows id ≡ true
    by_query true query = live_of_row rows id w (ap (λ l. row_at l id) (sym (query_keeps facts call good rows query)) ∙ there)
    by_query false row = by_terminal (fun_at facts.funs call.fun).terminal row refl

module _ (facts : Facts) (ask : Table) (sound : Object → Type 0) (law : IsService facts ask sound) where
  acting : (o : Object) (call : Call) (reply : Reply) → IsAnsweredAt facts ask o call reply → ActsOnOne facts (fun_at facts.funs call.fun)
  acting o call reply is = acts facts call.fun law.shape.shape is.passes.is_call.first is.passes.is_call.last

  -- a private call is on its client's own row
  pub on_own : (o : Object) (call : Call) (good : Good) → facts.global ≡ false → IsAnsweredAt facts ask o call (Ok good) → IsOnOwn facts call good o.rows o.given
  on_own o call good alone is = record {
    on = λ row makes.
        let pass = let_pass (whole facts) o call row is.passes.guarded in
        own_desc (whole facts) o call alone pass ((acting o call (Ok good) is).on makes row).0;
    next = λ makes. law.keeps.next o call good is.answered makes;
  }

  -- an object of legal histories stays one
  pub after_good : (o : Object) (call : Call) (reply : Reply) → IsLegalObject facts sound o → IsAnsweredAt facts ask o call reply → IsLegalObject facts sound (after facts o call reply)
  after_good o call (Refused code) good is = good
  after_good o call (Ok g) good is = record {
    is_sound = law.keeps.keeps o call g good.is_sound is.passes is.answered;
    own = λ alone. by alone (fun_at facts.funs call.fun).query refl;
  }
    where
      by : facts.global ≡ false → (b : Bool) → (fun_at facts.funs call.fun).query ≡ b → AreOwn (rows_after facts o.rows call g)
      by alone true query = subst AreOwn (sym (query_keeps facts call g o.rows query)) (good.own alone)
      by alone false row =
          let pass = let_pass (whole facts) o call row is.passes.guarded in
          own_after facts call g o (law.keeps.general o good.is_sound) (good.own alone) (on_own o call g alone is)
          (λ makes takes. own_parent (whole facts) o call law.shape.shape alone (acting o call (Ok g) is) pass takes) pass.children

  -- it leaves the rows of others
  pub others_stay : (o : Object) (call : Call) (reply : Reply) (d : ℕ) → facts.global ≡ false → IsLegalObject facts sound o → IsAnsweredAt facts ask o call reply → (call.client ≡ d → ⊥)
      → SameFor d o.rows (after facts o call reply).rows
  others_stay o call (Refused code) d alone good is apart = same_self d o.rows
  others_stay o call (Ok g) d alone good is apart = leaves_others facts call g o.rows o.given d (good.own alone) (on_own o call g alone is) apart

  -- two objects in which a client's rows are the same let its calls pass alike, but for the room
  guard_same : (o o' : Object) (call : Call) → facts.global ≡ false → IsLegalObject facts sound o → IsLegalObject facts sound o' → ActsOnOne facts (fun_at facts.funs call.fun) → SameFor call.client o.rows o'.rows
      → (fun_at facts.funs call.fun).creation ≡ false → guard (whole facts) o call ≡ None → guard (whole facts) o' call ≡ None
  guard_same o o' call alone good good' acts same makes passes = by (fun_at facts.funs call.fun).query refl
    where
      f : Fun
      f = fun_at facts.funs call.fun

      told : (row : Option Row) (room : Bool) (child : Bool) → Option Code
      told row room child =
          if takes_parent (fun_at facts.funs call.fun) && not (may_be_parent facts.parents row call.desc call.client) then Some NoParent
          else if (fun_at facts.funs call.fun).creation && room then Some Full
          else if takes_desc (fun_at facts.funs call.fun) && not (may_use facts row call.client) then Some NoDesc
          else if takes_desc (fun_at facts.funs call.fun) && not (in_state (whole facts) row call.fun) then Some BadState
          else if (fun_at facts.funs call.fun).terminal && not facts.subtree && child then Some HasChildren
          else None

      no_room : (a b : Bool) (row : Option Row) (child : Bool) → told row a child ≡ told row b child
      no_room a b row child = ap (λ c.
          if takes_parent (fun_at facts.funs call.fun) && not (may_be_parent facts.parents row call.desc call.client) then Some NoParent
          else if c && a then Some Full
          else if takes_desc (fun_at facts.funs call.fun) && not (may_use facts row call.client) then Some NoDesc
          else if takes_desc (fun_at facts.funs call.fun) && not (in_state (whole facts) row call.fun) then Some BadState
          else if (fun_at facts.funs call.fun).terminal && not facts.subtree && child then Some HasChildren
          else None) makes ∙ sym (ap (λ c.
          if takes_parent (fun_at facts.funs call.fun) && not (may_be_parent facts.parents row call.desc call.client) then Some NoParent
          else if c && b then Some Full
          else if takes_desc (fun_at facts.funs call.fun) && not (may_use facts row call.client) then Some NoDesc
          else if takes_desc (fun_at facts.funs call.fun) && not (in_state (whole facts) row call.fun) then Some BadState
          else if (fun_at facts.funs call.fun).terminal && not facts.subtree && child then Some HasChildren
          else None) makes)

      by : (b : Bool) → (fun_at facts.funs call.fun).query ≡ b → guard (whole facts) o' call ≡ None
      by true query = ap (λ b. cond b None (refusal (whole facts) (fun_at facts.funs call.fun) o' call)) query
      by false row =
          let pass = let_pass (whole facts) o call row passes in
          let on = own_desc (whole facts) o call alone pass (acts.on makes row).0 in
          let rows : row_at o'.rows call.desc ≡ row_at o.rows call.desc = same.there call.desc on.row on.of on.own ∙ sym on.of in
          let child : has_child o'.rows call.desc ≡ has_child o.rows call.desc
          = child_same call.client o.rows o'.rows o.given o'.given call.desc (ascends facts o (law.keeps.general o good.is_sound)) (ascends facts o' (law.keeps.general o' good'.is_sound)) (good.own alone) (good'.own alone) same on in
          let was : refusal (whole facts) (fun_at facts.funs call.fun) o call ≡ None = sym (ap (λ b. cond b None (refusal (whole facts) (fun_at facts.funs call.fun) o call)) row) ∙ passes in
          ap (λ b. cond b None (refusal (whole facts) (fun_at facts.funs call.fun) o' call)) row
          ∙ ap (λ r. told r (nat_le most_live (length o'.rows)) (has_child o'.rows call.desc)) rows
          ∙ ap (λ c. told (row_at o.rows call.desc) (nat_le most_live (length o'.rows)) c) child
          ∙ no_room (nat_le most_live (length o'.rows)) (nat_le most_live (length o.rows)) (row_at o.rows call.desc) (has_child o.rows call.desc) ∙ was

  -- the descriptor is one of the ids given
  low_desc : (o : Object) (call : Call) → facts.global ≡ false → IsLegalObject facts sound o → Passes facts o call → ActsOnOne facts (fun_at facts.funs call.fun) → KeepsTo facts (fun_at facts.funs call.fun)
      → (fun_at facts.funs call.fun).creation ≡ false → (call.desc ≡ 0) ⊎ IsOwnRow o.rows call.client call.desc
  low_desc o call alone good passes acts keeps makes = by (fun_at facts.funs call.fun).query refl
    where
      by : (b : Bool) → (fun_at facts.funs call.fun).query ≡ b → (call.desc ≡ 0) ⊎ IsOwnRow o.rows call.client call.desc
      by true query = inl (passes.is_call.fits.desc (keeps.query query).0 (keeps.query query).1)
      by false row = inr (own_desc (whole facts) o call alone (let_pass (whole facts) o call row passes.guarded) (acts.on makes row).0)

  -- what a client's hidden call needs is the same where its rows are
  needs_same : (o o' : Object) (call : Call) → facts.global ≡ false → IsLegalObject facts sound o → Passes facts o call → SameFor call.client o.rows o'.rows
      → (fun_at facts.funs call.fun).creation ≡ false → (fun_at facts.funs call.fun).uses_file ≡ false
      → ((id : ℕ) (w : Row) → row_at o'.rows id ≡ Some w → is_live o.rows id ≡ true) → NeedsSame facts o o' call
  needs_same o o' call alone good passes same makes no_file fewer =
      let acts_it = acts facts call.fun law.shape.shape passes.is_call.first passes.is_call.last in
      let keeps_it = keeps facts call.fun law.shape.shape passes.is_call.first passes.is_call.last in
      let none = looks_at_own facts call.fun law.shape.shape alone passes.is_call.first passes.is_call.last in
      let general = law.keeps.general o good.is_sound in
      record {
        fewer = fewer;
        needed = λ r there need. elim (low_desc o call alone good passes acts_it keeps_it makes) [
          | inl root ↦ absurd (let is_not = needed_none facts o.rows o.given call r none (ascends facts o general) root there in cc (need, is_not))
          | inr on ↦ same.there r.id r there (needed_own facts o.rows call r none (good.own alone) on there need)
        ];
        file = subst (λ b. SameFile o o' call.desc call.desc (if b then Some (path_of o.rows call.desc) else None)) (sym no_file) tt;
      }

  desc_within : (o : Object) (call : Call) → IsSound facts o → (call.desc ≡ 0) ⊎ IsOwnRow o.rows call.client call.desc → call.desc ≤ o.given
  desc_within o call general (inl root) = omega (arith, root)
  desc_within o call general (inr on) =
      let most = within (IsRow facts o.rows) 0 o.given call.desc o.rows on.row general.rows on.of in
      let its = id_of_row o.rows call.desc on.row on.of in
      omega (arith, most, its)

  -- a hidden answered call stays one after another client's
  pub still_answered : (o : Object) (e p : Call) (re rp : Reply) → facts.global ≡ false → IsLegalObject facts sound o → IsAnsweredAt facts ask o e re → IsAnsweredAt facts ask o p rp → (e.client ≡ p.client → ⊥)
      → (fun_at facts.funs p.fun).creation ≡ false → (fun_at facts.funs p.fun).uses_file ≡ false → HasTime facts 0 (after facts o e re) → IsAnsweredAt facts ask (after facts o e re) p rp
  still_answered o e p re rp alone good is_e is_p apart makes no_file time =
      let o' : Object = after facts o e re in
      let good' = after_good o e re good is_e in
      let same = others_stay o e re p.client alone good is_e apart in
      let acts_p = acts facts p.fun law.shape.shape is_p.passes.is_call.first is_p.passes.is_call.last in
      let keeps_p = keeps facts p.fun law.shape.shape is_p.passes.is_call.first is_p.passes.is_call.last in
      let passes : Passes facts o' p = record {
        is_call = is_p.passes.is_call;
        words = is_p.passes.words;
        within = record {
          client_first = is_p.passes.within.client_first;
          client_last = is_p.passes.within.client_last;
          counted = omega (arith, time.counted);
          given = omega (arith, time.given);
        };
        guarded = guard_same o o' p alone good good' acts_p same makes is_p.passes.guarded;
      } in
      let general = law.keeps.general o good.is_sound in
      let general' = law.keeps.general o' good'.is_sound in
      record { passes = passes; answered = by re refl passes good' same acts_p keeps_p general general' }
    where
      by : (reply : Reply) → re ≡ reply → Passes facts (after facts o e re) p → IsLegalObject facts sound (after facts o e re) → SameFor p.client o.rows (after facts o e re).rows → ActsOnOne facts (fun_at facts.funs p.fun)
          → KeepsTo facts (fun_at facts.funs p.fun) → IsSound facts o → IsSound facts (after facts o e re) → ask (after facts o e re) p ≡ Some rp
      by (Refused code) is passes good' same acts_p keeps_p general general' = ap (λ r. ask (after facts o e r) p) is ∙ is_p.answered
      by (Ok g) is passes good' same acts_p keeps_p general general' = at (fun_at facts.funs e.fun).creation refl
        where
          rows_are : (after facts o e re).rows ≡ rows_after facts o.rows e g
          rows_are = ap (λ r. (after facts o e r).rows) is

          at : (b : Bool) → (fun_at facts.funs e.fun).creation ≡ b → ask (after facts o e re) p ≡ Some rp
          at false keeps_ids =
              ask_same facts ask sound law.alike o (after facts o e re) p good.is_sound general general' is_p.passes
              (needs_same o (after facts o e re) p alone good is_p.passes same makes no_file
              (λ id w there. fewer_after facts o.rows e g keeps_ids id w (ap (λ l. row_at l id) (sym rows_are) ∙ there))) makes
              (desc_within o p general (low_desc o p alone good is_p.passes acts_p keeps_p makes))
              ∙ is_p.answered
          at true makes_id =
              let acts_e = acts facts e.fun law.shape.shape is_e.passes.is_call.first is_e.passes.is_call.last in
              let rows : rows_after facts o.rows e g ≡ o.rows ++ new_row facts e g ∷ [] = makes_row facts e g o.rows (acts_e.makes makes_id).0 makes_id in
              sym (ask_same facts ask sound law.alike (after facts o e re) o p good'.is_sound general' general passes
              (needs_same (after facts o e re) o p alone good' passes (same_back p.client o.rows (after facts o e re).rows same) makes no_file
              (λ id w there. live_of_row (after facts o e re).rows id w (ap (λ l. row_at l id) (rows_are ∙ rows) ∙ row_at-more o.rows (new_row facts e g) w id there))) makes
              (desc_within (after facts o e re) p general' (low_desc (after facts o e re) p alone good' passes acts_p keeps_p makes)))
              ∙ is_p.answered

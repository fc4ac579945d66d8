-- Held replies come to the same object in any order, with or without an answered call of another client before them.
use Rattle.std.proofs.Common.{◌≡◌, ℕ, suc, ◌+◌, ◌^◌, ◌<◌, ◌≤◌, Bool, true, false, cond, List, [], ◌∷◌, None, Some, length, refl, sym, ◌∙◌, ap, subst, arith}
use Rattle.std.specs.Prelude.{◌||◌, ◌&&◌}
use Rattle.std.specs.List.{list_any}
use Rattle.sg_facts.specs.sg_base.declared.call.Call.{Call}
use Rattle.sg_facts.specs.sg_base.declared.reply.Good.{Good}
use Rattle.sg_facts.specs.sg_base.declared.reply.Reply.{Reply}
use Rattle.sg_facts.specs.sg_base.declared.reply.Reply.TheVariants.{Ok, Refused}
use Rattle.sg_facts.specs.declared.entry.Entry.{Entry}
use Rattle.sg_facts.specs.declared.row.Row.{Row}
use Rattle.sg_facts.specs.Facts.{Facts, fun_at, is_text_kind, is_visible, takes_desc, writes}
use Rattle.sg_facts.specs.Kinds.{IsCall}
use Rattle.sg_facts.specs.Legal.{Table}
use Rattle.sg_facts.specs.Object.{Object, after, first_text, patch_of, path_of, place_of}
use Rattle.sg_facts.specs.Inside.Rows.{given_after, object_from, patch_at, patched}
use Rattle.sg_facts.specs.Track.{row_at, rows_after}
use Rattle.sg_recovery_laws.specs.Objects.Apart.{AreOwn, SameFor}
use Rattle.sg_recovery_laws.specs.Objects.Serving.{HasTime, IsAnsweredAt, IsLegalObject, IsService}
use Rattle.sg_recovery_laws.specs.Objects.Waiting.{AreWaiting, NoneBy}
use Rattle.sg_recovery_laws.proofs.Objects.Answered.{path_own}
use Rattle.sg_recovery_laws.proofs.Objects.Apart.{IsOnOwn, leaves_others, same_on, same_self}
use Rattle.sg_recovery_laws.proofs.Objects.Commute.{commute, on_own_after}
use Rattle.sg_recovery_laws.proofs.Objects.Guarded.{acts, keeps}
use Rattle.sg_recovery_laws.proofs.Objects.Steady.{after_good, ascends, on_own, others_stay, still_answered}

-- a hidden function: what isn't visible
pub record IsHidden (facts : Facts) (fun : ℕ) : Type 0 where
  pub alone : facts.global ≡ false
  pub no_file : (fun_at facts.funs fun).uses_file ≡ false
  pub makes : (fun_at facts.funs fun).creation ≡ false

pub hidden_is : (facts : Facts) (fun : ℕ) → is_visible facts fun ≡ false → IsHidden facts fun
hidden_is facts fun is = at facts.global (fun_at facts.funs fun).uses_file (fun_at facts.funs fun).creation refl refl refl is
  where
    at : (g u c : Bool) → facts.global ≡ g → (fun_at facts.funs fun).uses_file ≡ u → (fun_at facts.funs fun).creation ≡ c → (g || u || c) ≡ false → IsHidden facts fun
    at false false false g u c is = record { alone = g; no_file = u; makes = c }
    at true u c g_is u_is c_is is = absurd (cc is)
    at false true c g_is u_is c_is is = absurd (cc is)
    at false false true g_is u_is c_is is = absurd (cc is)

-- a call acts on its client's own rows
pub record IsActing (facts : Facts) (o : Object) (call : Call) (reply : Reply) : Type 0 where
  pub is_call : IsCall facts call
  pub on : (good : Good) → reply ≡ Ok good → IsOnOwn facts call good o.rows o.given

object_is : (rows rows' : List Row) (files files' : List (List ℕ × List ℕ)) (given given' : ℕ) → rows ≡ rows' → files ≡ files' → given ≡ given'
    → (let a : Object = record { rows = rows; files = files; given = given } in a) ≡ record { rows = rows'; files = files'; given = given' }
object_is rows rows' files files' given given' r f g =
    ap (λ x. of x files given) r ∙ ap (λ x. of rows' x given) f ∙ ap (λ x. of rows' files' x) g
  where
    of : List Row → List (List ℕ × List ℕ) → ℕ → Object
    of rows files given = record { rows = rows; files = files; given = given }

module _ (facts : Facts) (ask : Table) (sound : Object → Type 0) (law : IsService facts ask sound) where
  pub acting_is : (o : Object) (call : Call) (reply : Reply) → facts.global ≡ false → IsAnsweredAt facts ask o call reply → IsActing facts o call reply
  acting_is o call reply alone is = record {
    is_call = is.passes.is_call;
    on = λ good reply_is. on_own facts ask sound law o call good alone (record { passes = is.passes; answered = is.answered ∙ ap (λ r. Some r) reply_is });
  }

  -- a hidden call writes no file
  no_patch : (o : Object) (call : Call) (reply : Reply) → (fun_at facts.funs call.fun).uses_file ≡ false → patch_of facts o call reply ≡ None
  no_patch o call (Refused code) no_file = refl
  no_patch o call (Ok good) no_file = ap (λ b. cond (b && list_any is_text_kind (fun_at facts.funs call.fun).kinds) (patch_at (path_of o.rows call.desc) (place_of (fun_at facts.funs call.fun) (row_at o.rows call.desc)) (first_text call.args)) None) no_file

  -- a patch is told by its client's own rows
  same_patch : (o o' : Object) (call : Call) (good : Good) → facts.global ≡ false → AreOwn o.rows → IsActing facts o call (Ok good) → SameFor call.client o.rows o'.rows
      → patch_of facts o' call (Ok good) ≡ patch_of facts o call (Ok good)
  same_patch o o' call good alone own is same = at (writes (fun_at facts.funs call.fun)) refl
    where
      uses : (u w : Bool) → (u && w) ≡ true → u ≡ true
      uses true w is = refl
      uses false w is = absurd (cc is)

      at : (b : Bool) → writes (fun_at facts.funs call.fun) ≡ b
          → cond b (patch_at (path_of o'.rows call.desc) (place_of (fun_at facts.funs call.fun) (row_at o'.rows call.desc)) (first_text call.args)) None
          ≡ cond b (patch_at (path_of o.rows call.desc) (place_of (fun_at facts.funs call.fun) (row_at o.rows call.desc)) (first_text call.args)) None
      at false w = refl
      at true w =
          let acts_it = acts facts call.fun law.shape.shape is.is_call.first is.is_call.last in
          let keeps_it = keeps facts call.fun law.shape.shape is.is_call.first is.is_call.last in
          let takes : takes_desc (fun_at facts.funs call.fun) ≡ true = keeps_it.file (uses (fun_at facts.funs call.fun).uses_file (list_any is_text_kind (fun_at facts.funs call.fun).kinds) w) in
          let no_query : (fun_at facts.funs call.fun).query ≡ false = not_so (fun_at facts.funs call.fun).query (λ q. let none = (keeps_it.query q).0 in cc (takes, none)) in
          let no_make : (fun_at facts.funs call.fun).creation ≡ false = not_so (fun_at facts.funs call.fun).creation (λ c. let none = (acts_it.makes c).2 in cc (takes, none)) in
          let on = (is.on good refl).on no_query no_make in
          ap (λ p. patch_at p (place_of (fun_at facts.funs call.fun) (row_at o'.rows call.desc)) (first_text call.args)) (path_own call.client o.rows o'.rows call.desc own same on)
          ∙ ap (λ r. patch_at (path_of o.rows call.desc) (place_of (fun_at facts.funs call.fun) r) (first_text call.args)) (same.there call.desc on.row on.of on.own ∙ sym on.of)
        where
          not_so : (b : Bool) → (b ≡ true → ⊥) → b ≡ false
          not_so true isn't = absurd (isn't refl)
          not_so false isn't = refl

  -- the order of a hidden call and another client's makes no difference
  pub swap : (o : Object) (e p : Call) (re rp : Reply) → IsLegalObject facts sound o → IsLegalObject facts sound (after facts o e re) → IsLegalObject facts sound (after facts o p rp)
      → IsHidden facts p.fun → IsActing facts o e re → IsActing facts o p rp → (e.client ≡ p.client → ⊥) → after facts (after facts o e re) p rp ≡ after facts (after facts o p rp) e re
  swap o e p (Refused code) rp good good_e good_p hidden is_e is_p apart = refl
  swap o e p (Ok ge) (Refused code) good good_e good_p hidden is_e is_p apart = refl
  swap o e p (Ok ge) (Ok gp) good good_e good_p hidden is_e is_p apart =
      let general = law.keeps.general o good.is_sound in
      let same : SameFor e.client o.rows (after facts o p (Ok gp)).rows = leaves_others facts p gp o.rows o.given e.client (good.own hidden.alone) (is_p.on gp refl) (λ is. apart (sym is)) in
      object_is (rows_after facts (rows_after facts o.rows e ge) p gp) (rows_after facts (rows_after facts o.rows p gp) e ge)
      (patched (patched o.files (patch_of facts o e (Ok ge))) (patch_of facts (after facts o e (Ok ge)) p (Ok gp)))
      (patched (patched o.files (patch_of facts o p (Ok gp))) (patch_of facts (after facts o p (Ok gp)) e (Ok ge)))
      (given_after facts (given_after facts o.given e (Ok ge)) p (Ok gp)) (given_after facts (given_after facts o.given p (Ok gp)) e (Ok ge))
      (commute facts p e gp ge o.rows o.given (ascends facts o general) (good.own hidden.alone) (good_p.own hidden.alone) (good_e.own hidden.alone) (is_p.on gp refl) (is_e.on ge refl) (λ is. apart (sym is)) hidden.makes)
      (ap (λ x. patched (patched o.files (patch_of facts o e (Ok ge))) x) (no_patch (after facts o e (Ok ge)) p (Ok gp) hidden.no_file)
      ∙ ap (patched o.files) (sym (same_patch o (after facts o p (Ok gp)) e ge hidden.alone (good.own hidden.alone) is_e same))
      ∙ ap (λ x. patched (patched o.files x) (patch_of facts (after facts o p (Ok gp)) e (Ok ge))) (sym (no_patch o p (Ok gp) hidden.no_file)))
      (given (fun_at facts.funs e.fun).creation (fun_at facts.funs p.fun).creation hidden.makes)
    where
      given : (a b : Bool) → b ≡ false → cond b (cond a (o.given + 1) o.given + 1) (cond a (o.given + 1) o.given) ≡ cond a (cond b (o.given + 1) o.given + 1) (cond b (o.given + 1) o.given)
      given a true is = absurd (cc is)
      given true false is = refl
      given false false is = refl

  -- numbers go up slowly
  pub time_after : (n : ℕ) (o : Object) (call : Call) (reply : Reply) → IsLegalObject facts sound o → IsAnsweredAt facts ask o call reply → HasTime facts (suc n) o → HasTime facts n (after facts o call reply)
  time_after n o call (Refused code) good is time = record { counted = omega (arith, time.counted); given = omega (arith, time.given) }
  time_after n o call (Ok g) good is time =
      let slowly = law.counts.calls o call g good.is_sound is.passes is.answered in
      record { counted = omega (arith, slowly, time.counted); given = given (fun_at facts.funs call.fun).creation }
    where
      given : (b : Bool) → cond b (o.given + 1) o.given + n < 2 ^ 63
      given true = omega (arith, time.given)
      given false = omega (arith, time.given)

  pub less_time : (n m : ℕ) (o : Object) → m ≤ n → HasTime facts n o → HasTime facts m o
  less_time n m o le time = record { counted = omega (arith, time.counted, le); given = omega (arith, time.given, le) }

  -- replies that are held stay so after an answered call of another client
  pub waiting_after : (o : Object) (e : Call) (re : Reply) (es : List Entry) → IsLegalObject facts sound o → IsAnsweredAt facts ask o e re → HasTime facts 0 (after facts o e re) → NoneBy e.client es
      → AreWaiting facts ask o es → AreWaiting facts ask (after facts o e re) es
  waiting_after o e re [] good is time none all = tt
  waiting_after o e re (p ∷ es) good is time none all =
      let hidden = hidden_is facts p.call.fun all.0.hidden in (
        record {
          hidden = all.0.hidden;
          answered = still_answered facts ask sound law o e p.call re p.reply hidden.alone good is all.0.answered (λ same. none.0 (sym same)) hidden.makes hidden.no_file time;
        },
        all.1,
        waiting_after o e re es good is time none.1 all.2,
      )

  -- the object after held replies is one of legal histories
  pub good_later : (o : Object) (es : List Entry) → IsLegalObject facts sound o → HasTime facts (length es) o → AreWaiting facts ask o es → IsLegalObject facts sound (object_from facts o es)
  good_later o [] good time all = good
  good_later o (p ∷ es) good time all =
      let later = time_after (length es) o p.call p.reply good all.0.answered time in
      good_later (after facts o p.call p.reply) es (after_good facts ask sound law o p.call p.reply good all.0.answered) later
      (waiting_after o p.call p.reply es good all.0.answered (less_time (length es) 0 (after facts o p.call p.reply) (omega arith) later) all.1 all.2)

  -- an answered call before held replies of others is as one after them
  pub past_waiting : (o : Object) (e : Call) (re : Reply) (es : List Entry) → IsLegalObject facts sound o → IsLegalObject facts sound (after facts o e re) → IsActing facts o e re → NoneBy e.client es
      → HasTime facts (suc (length es)) o → HasTime facts (length es) (after facts o e re) → AreWaiting facts ask o es → AreWaiting facts ask (after facts o e re) es
      → object_from facts (after facts o e re) es ≡ after facts (object_from facts o es) e re
  past_waiting o e re [] good good_e is none time time_e all all_e = refl
  past_waiting o e re (p ∷ es) good good_e is none time time_e all all_e =
      let hidden = hidden_is facts p.call.fun all.0.hidden in
      let good_p = after_good facts ask sound law o p.call p.reply good all.0.answered in
      let both = swap o e p.call re p.reply good good_e good_p hidden is (acting_is o p.call p.reply hidden.alone all.0.answered) (λ same. none.0 (sym same)) in
      let time_p = time_after (suc (length es)) o p.call p.reply good all.0.answered time in
      let time_ep = time_after (length es) (after facts o e re) p.call p.reply good_e all_e.0.answered time_e in
      let later_p = waiting_after o p.call p.reply es good all.0.answered (less_time (suc (length es)) 0 (after facts o p.call p.reply) (omega arith) time_p) all.1 all.2 in
      let later_ep = waiting_after (after facts o e re) p.call p.reply es good_e all_e.0.answered (less_time (length es) 0 (after facts (after facts o e re) p.call p.reply) (omega arith) time_ep) all_e.1 all_e.2 in
      ap (λ x. object_from facts x es) both
      ∙ past_waiting (after facts o p.call p.reply) e re es good_p
      (subst (IsLegalObject facts sound) both (after_good facts ask sound law (after facts o e re) p.call p.reply good_e all_e.0.answered))
      (record {
        is_call = is.is_call;
        on = λ g reply_is. on_after hidden.alone p.reply refl g reply_is;
      })
      none.1 time_p (subst (HasTime facts (length es)) both time_ep) later_p (subst (λ x. AreWaiting facts ask x es) both later_ep)
    where
      on_after : facts.global ≡ false → (rp : Reply) → p.reply ≡ rp → (g : Good) → re ≡ Ok g → IsOnOwn facts e g (after facts o p.call p.reply).rows (after facts o p.call p.reply).given
      on_after alone (Refused code) rp_is g reply_is = subst (λ r. IsOnOwn facts e g (after facts o p.call r).rows (after facts o p.call r).given) (sym rp_is) (is.on g reply_is)
      on_after alone (Ok gp) rp_is g reply_is =
          let acts_p = (acting_is o p.call p.reply alone all.0.answered).on gp rp_is in
          let hidden = hidden_is facts p.call.fun all.0.hidden in
          let given : (after facts o p.call (Ok gp)).given ≡ o.given = ap (λ b. cond b (o.given + 1) o.given) hidden.makes in
          subst (λ r. IsOnOwn facts e g (after facts o p.call r).rows (after facts o p.call r).given) (sym rp_is)
          (subst (IsOnOwn facts e g (rows_after facts o.rows p.call gp)) (sym given)
          (on_own_after facts p.call e gp g o.rows o.given o.given (good.own alone) acts_p (is.on g reply_is) (λ same. none.0 same) (is.on g reply_is).next))

  -- other clients' rows, the files and the ids given are as before
  pub after_same : (o : Object) (es : List Entry) (d : ℕ) → IsLegalObject facts sound o → HasTime facts (length es) o → AreWaiting facts ask o es → NoneBy d es
      → SameFor d o.rows (object_from facts o es).rows × ((object_from facts o es).files ≡ o.files) × ((object_from facts o es).given ≡ o.given)
  after_same o [] d good time all none = (same_self d o.rows, refl, refl)
  after_same o (p ∷ es) d good time all none =
      let hidden = hidden_is facts p.call.fun all.0.hidden in
      let later = time_after (length es) o p.call p.reply good all.0.answered time in
      let o' : Object = after facts o p.call p.reply in
      let rest = after_same o' es d (after_good facts ask sound law o p.call p.reply good all.0.answered) later
      (waiting_after o p.call p.reply es good all.0.answered (less_time (length es) 0 o' (omega arith) later) all.1 all.2) none.1 in (
        same_on d o.rows o'.rows (object_from facts o' es).rows (others_stay facts ask sound law o p.call p.reply d hidden.alone good all.0.answered none.0) rest.0,
        rest.1 ∙ ap (patched o.files) (no_patch o p.call p.reply hidden.no_file),
        rest.2 ∙ given p.reply hidden.makes,
      )
    where
      given : (reply : Reply) → (fun_at facts.funs p.call.fun).creation ≡ false → given_after facts o.given p.call reply ≡ o.given
      given (Refused code) makes = refl
      given (Ok g) makes = ap (λ b. cond b (o.given + 1) o.given) makes

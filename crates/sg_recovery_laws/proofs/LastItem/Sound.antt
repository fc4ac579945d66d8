-- The object of a legal history is sound, and its numbers are no more than its calls can have made.
use Rattle.std.proofs.Common.{◌≡◌, ℕ, ◌+◌, ◌<◌, ◌≤◌, Bool, true, false, cond, List, [], ◌∷◌, None, Some, length, refl, sym, ◌∙◌, ap, subst, arith}
use Rattle.std.specs.Prelude.{max}
use Rattle.std.specs.declared.option.Option.{Option}
use Rattle.sg_facts.specs.sg_base.Lists.{Each}
use Rattle.sg_facts.specs.sg_base.declared.call.Call.{Call}
use Rattle.sg_facts.specs.sg_base.declared.reply.Code.{Code}
use Rattle.sg_facts.specs.sg_base.declared.reply.Good.{Good}
use Rattle.sg_facts.specs.sg_base.declared.reply.Reply.{Reply}
use Rattle.sg_facts.specs.sg_base.declared.reply.Reply.TheVariants.{Ok, Refused}
use Rattle.sg_facts.specs.declared.entry.Entry.{Entry}
use Rattle.sg_facts.specs.Counted.{most_counted}
use Rattle.sg_facts.specs.Facts.{fun_at}
use Rattle.sg_facts.specs.Fits.{Fits}
use Rattle.sg_facts.specs.Guard.{guard}
use Rattle.sg_facts.specs.Interface.{Declared}
use Rattle.sg_facts.specs.Laws.{AnswersAndKeeps, CountsSlowly, Passes, slow}
use Rattle.sg_facts.specs.Legal.{LegalFrom, Table, answer}
use Rattle.sg_facts.specs.Inside.Rows.{refused_or, object_from}
use Rattle.sg_facts.specs.Limits.{end_of_counts}
use Rattle.sg_facts.specs.Object.{Object, after, empty_object, object_of}
use Rattle.sg_recovery_laws.proofs.Midway.Tabled.{passes_whole}
use Rattle.sg_recovery_laws.specs.LastItem.Asked.{IsComeTo}
use Rattle.sg_hist.specs.Clients.{IsClientsCall}

module _ (i : Declared) (ask : Table) (sound : Object → Type 0) (fits : Fits i) (keeps : AnswersAndKeeps i.facts ask sound) (counts : CountsSlowly i.facts ask sound) where
  -- a call that passes is one of those that the laws speak of
  passes : (n : ℕ) (o : Object) (call : Call) → IsComeTo i.facts sound n o → slow + n < end_of_counts → IsClientsCall i.facts call → guard i o call ≡ None → Passes i.facts o call
  passes n o call come few asked lets = record {
    is_call = asked.is_call;
    words = asked.words;
    within = record { client_first = asked.client_first; client_last = asked.client_last; counted = omega (arith, come.counted, few); given = omega (arith, come.given, few) };
    guarded = passes_whole i o call fits lets;
  }

  -- an Ok gives one id at most
  given_ok : (n : ℕ) (o : Object) (call : Call) (good : Good) → o.given ≤ n → (after i.facts o call (Ok good)).given ≤ n + 1
  given_ok n o call good few = by (fun_at i.facts.funs call.fun).creation
    where
      by : (b : Bool) → cond b (o.given + 1) o.given ≤ n + 1
      by true = omega (arith, few)
      by false = omega (arith, few)

  at_most : (m n k : ℕ) → m ≤ max slow (k + 1) → k ≤ slow + n → m ≤ slow + (n + 1)
  at_most m n k least few = omega (arith, least, few)

  -- one call more
  pub come_on : (n : ℕ) (o : Object) (call : Call) (reply : Reply) → IsComeTo i.facts sound n o → slow + n < end_of_counts → IsClientsCall i.facts call → answer i ask o call ≡ Some reply
      → IsComeTo i.facts sound (n + 1) (after i.facts o call reply)
  come_on n o call reply come few asked legal = by (guard i o call) refl reply legal
    where
      refused : (code : Code) → IsComeTo i.facts sound (n + 1) (after i.facts o call (Refused code))
      refused code = record { is_sound = come.is_sound; given = omega (arith, come.given); counted = omega (arith, come.counted) }

      ok : (good : Good) → guard i o call ≡ None → ask o call ≡ Some (Ok good) → IsComeTo i.facts sound (n + 1) (after i.facts o call (Ok good))
      ok good lets answered =
          let pass = passes n o call come few asked lets in
          record {
            is_sound = keeps.keeps o call good come.is_sound pass answered;
            given = given_ok n o call good come.given;
            counted = at_most (most_counted i.facts (after i.facts o call (Ok good)).rows) n (most_counted i.facts o.rows) (counts.calls o call good come.is_sound pass answered) come.counted;
          }

      by : (g : Option Code) → guard i o call ≡ g → (r : Reply) → refused_or (guard i o call) (ask o call) ≡ Some r → IsComeTo i.facts sound (n + 1) (after i.facts o call r)
      by g is (Refused code) legal = refused code
      by None is (Ok good) legal = ok good is (sym (ap (λ g. refused_or g (ask o call)) is) ∙ legal)
      by (Some code) is (Ok good) legal = absurd (let both : Some (Refused code) ≡ Some (Ok good) = sym (ap (λ g. refused_or g (ask o call)) is) ∙ legal in cc both)

  -- so all calls of a legal history, from an object on
  come_from : (n : ℕ) (o : Object) (history : List Entry) → IsComeTo i.facts sound n o → slow + (n + length history) < end_of_counts → Each (λ e. IsClientsCall i.facts e.call) history → LegalFrom i ask o history
      → IsComeTo i.facts sound (n + length history) (object_from i.facts o history)
  come_from n o [] come few asked legal = subst (λ m. IsComeTo i.facts sound m o) (let same : n ≡ n + 0 = omega arith in same) come
  come_from n o (e ∷ history) come few asked legal =
      subst (λ m. IsComeTo i.facts sound m (object_from i.facts o (e ∷ history))) (let same : (n + 1) + length history ≡ n + length (e ∷ history) = omega arith in same)
      (come_from (n + 1) (after i.facts o e.call e.reply) history (come_on n o e.call e.reply come (omega (arith, few)) asked.0 legal.0) (omega (arith, few)) asked.1 legal.1)

  pub nothing_yet : IsComeTo i.facts sound 0 empty_object
  nothing_yet = record { is_sound = keeps.empty; given = omega arith; counted = omega arith }

  pub come_to : (history : List Entry) → slow + length history < end_of_counts → Each (λ e. IsClientsCall i.facts e.call) history → LegalFrom i ask empty_object history
      → IsComeTo i.facts sound (length history) (object_of i.facts history)
  come_to history few asked legal =
      subst (λ m. IsComeTo i.facts sound m (object_of i.facts history)) (let same : 0 + length history ≡ length history = omega arith in same)
      (come_from 0 empty_object history nothing_yet (omega (arith, few)) asked legal)

-- A described service answers alike under other ids.
use Rattle.std.proofs.Common.{◌≡◌, ℕ, ◌+◌, Bool, true, false, cond, not, List, None, Some, length, refl, sym, ◌∙◌, ap, subst, arith}
use Rattle.std.specs.Prelude.{◌==◌, ◌||◌}
use Rattle.std.specs.declared.option.Option.{Option}
use Rattle.std.proofs.lemmas.Bool.Decides.{nat_tests}
use Rattle.sg_facts.specs.sg_base.declared.call.Call.{Call}
use Rattle.sg_facts.specs.sg_base.declared.value.Value.{Value}
use Rattle.sg_facts.specs.declared.row.Row.{Row}
use Rattle.sg_facts.specs.Alike.{named, Serves, SameReply, under_names}
use Rattle.sg_facts.specs.Facts.{fun_at}
use Rattle.sg_facts.specs.Laws.{AnswersAlike, Passes}
use Rattle.sg_facts.specs.Object.{Object}
use Rattle.sg_facts.specs.Track.{row_at}
use Rattle.sg_facts.proofs.RowLists.{id_of_row}
use Rattle.sg_slots.proofs.RowLaws.{row_of_call}
use Rattle.sg_described.specs.declared.description.Verdict.{Verdict}
use Rattle.sg_described.specs.declared.description.Verdict.TheVariants.{Refuse, Wait, Give}
use Rattle.sg_described.specs.Described.{Described, rules_at}
use Rattle.sg_described.specs.DescribedSound.{IsDescribedSound}
use Rattle.sg_described.specs.Meaning.{Env, answer_in, answer_of, described_table, env_of, judged, leaves_fit, said, verdict_of, words_in}
use Rattle.sg_described.specs.Safe.{IsPlain}
use Rattle.sg_described.proofs.Keeping.Answering.{IsPlainFun, plain_fun}

-- the row of a call's descriptor is needed
its_own : (a c : Bool) (m n : ℕ) → m ≡ n → (a || (m == n) || c) ≡ true
its_own a c m n same =
    let is : (m == n) ≡ true = grind (arith, nat_tests) in
    ap (λ b. a || b || c) is ∙ at a
  where
    at : (a : Bool) → (a || true || c) ≡ true
    at true = refl
    at false = refl

-- the same verdict gives the same reply
same_judged : (names : List (ℕ × ℕ)) (makes : Bool) (desc desc' : ℕ) (words : List ℕ) (v : Option Verdict) (fit : Bool) → (makes ≡ false → desc' ≡ named names desc)
    → SameReply names makes (judged v fit (said desc words)) (judged v fit (said desc' words))
same_judged names true desc desc' words None true same = (refl, refl)
same_judged names false desc desc' words None true same = (refl, refl, same refl)
same_judged names makes desc desc' words None false same = refl
same_judged names true desc desc' words (Some (Give t)) true same = (refl, refl)
same_judged names false desc desc' words (Some (Give t)) true same = (refl, refl, same refl)
same_judged names makes desc desc' words (Some (Give t)) false same = refl
same_judged names makes desc desc' words (Some (Refuse code)) fit same = refl
same_judged names makes desc desc' words (Some Wait) fit same = tt

module _ (d : Described) (plain : IsPlain d) (names : List (ℕ × ℕ)) (o held : Object) (call : Call) (passes : Passes d.facts o call) (serves : Serves d.facts names o held call) where
  its : IsPlainFun d call.fun (fun_at d.facts.funs call.fun)
  its = plain_fun d plain call.fun passes.is_call.first passes.is_call.last

  alike_with : (makes : Bool) (desc desc' : ℕ) (e : Env) → (makes ≡ false → desc' ≡ named names desc) → SameReply names makes (answer_in d call.fun desc e) (answer_in d call.fun desc' e)
  alike_with makes desc desc' e same =
      same_judged names makes desc desc' (words_in e (verdict_of e (rules_at d call.fun))) (verdict_of e (rules_at d call.fun))
      (leaves_fit d call.fun e (verdict_of e (rules_at d call.fun))) same

  abbrev seen : ℕ → List Value → Env
  seen state fields = record { client = call.client; args = call.args; state = state; fields = fields }

  alike_at : (makes : Bool) → (fun_at d.facts.funs call.fun).creation ≡ makes
      → SameReply names makes (answer_of d call makes o.given (row_at o.rows call.desc)) (answer_of d (under_names names call) makes held.given (row_at held.rows (named names call.desc)))
  alike_at true makes = alike_with true (o.given + 1) (held.given + 1) (env_of d call true (row_at o.rows call.desc)) (λ no. absurd (cc no))
  alike_at false makes =
      let found = row_of_call d.facts o call passes its.no_query (its.on makes) in
      let r = found.0 in
      let id = id_of_row o.rows call.desc r found.1 in
      let needed = serves.needed r (ap (row_at o.rows) id ∙ found.1) (its_own _ _ r.id call.desc id) in
      let v = needed.row in
      let there : row_at held.rows (named names call.desc) ≡ Some v = ap (λ n. row_at held.rows (named names n)) (sym id) ∙ needed.there in
      let same : answer_in d call.fun 0 (seen v.state v.fields) ≡ answer_in d call.fun 0 (seen r.state r.fields)
      = ap (λ s. answer_in d call.fun 0 (seen s v.fields)) needed.alike.state ∙ ap (λ fields. answer_in d call.fun 0 (seen r.state fields)) needed.alike.fields in
      let one : SameReply names false (answer_in d call.fun 0 (seen r.state r.fields)) (answer_in d call.fun 0 (seen r.state r.fields))
      = alike_with false 0 0 (seen r.state r.fields) (λ no. sym serves.names_are.none) in
      let held_row = row_at held.rows (named names call.desc) in
      subst (λ row. SameReply names false (answer_of d call false o.given row) (answer_of d (under_names names call) false held.given held_row)) {y = row_at o.rows call.desc} (sym found.1)
      (subst (λ row. SameReply names false (answer_in d call.fun 0 (seen r.state r.fields)) (answer_of d (under_names names call) false held.given row)) {y = held_row} (sym there)
      (subst (λ reply. SameReply names false (answer_in d call.fun 0 (seen r.state r.fields)) reply) {y = answer_in d call.fun 0 (seen v.state v.fields)} (sym same) one))

  pub alike : SameReply names (fun_at d.facts.funs call.fun).creation (described_table d o call) (described_table d held (under_names names call))
  alike = alike_at (fun_at d.facts.funs call.fun).creation refl

-- a described service gives a call the same answer, but for ids, from whatever it holds that serves the call
pub described_answers_alike : (d : Described) → IsPlain d → AnswersAlike d.facts (described_table d) (IsDescribedSound d)
described_answers_alike d plain = record { alike = λ names o held call sound passes serves. alike d plain names o held call passes serves }

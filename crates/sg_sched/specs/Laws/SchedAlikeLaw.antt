-- The thread service answers alike under other ids.
use Rattle.std.proofs.Common.{◌≡◌, ℕ, zero, suc, ◌≤◌, Bool, true, false, cond, not, ◌-◌, List, [], ◌∷◌, None, Some, refl, sym, ◌∙◌, ap, subst, arith}
use Rattle.std.specs.Prelude.{◌==◌, ◌||◌}
use Rattle.std.specs.declared.option.Option.{Option}
use Rattle.sg_facts.specs.sg_base.declared.value.Value.{Value}
use Rattle.sg_facts.specs.sg_base.declared.call.Call.{Call}
use Rattle.sg_facts.specs.sg_base.declared.reply.Code.TheVariants.{NoDesc, BadState, HasChildren}
use Rattle.sg_facts.specs.sg_base.declared.reply.Reply.TheVariants.{Ok}
use Rattle.sg_facts.specs.declared.row.Row.{Row}
use Rattle.sg_facts.specs.Facts.{fun_at}
use Rattle.sg_facts.specs.Inside.Guards.{is_there}
use Rattle.sg_facts.specs.Track.{row_at, is_ancestor, word_of, field_at}
use Rattle.sg_facts.specs.Object.{Object}
use Rattle.sg_facts.specs.Sound.{IsRow}
use Rattle.sg_facts.specs.Alike.{named, IsAlike, Serves, SameReply}
use Rattle.sg_facts.specs.Laws.{AnswersAlike, Passes, state_in}
use Rattle.sg_facts.proofs.RowLists.{id_of_row}
use Rattle.sg_facts.proofs.Replaying.Served.{row_held, row_live}
use Rattle.sg_slots.proofs.SoundRows.{none_applies}
use Rattle.sg_sched.specs.SchedFacts.{sched_facts}
use Rattle.sg_sched.specs.SchedTable.{sched_table, first_ready, next_rank, rank_of, sched_answer}
use Rattle.sg_sched.specs.Inside.SchedAnswer.{sched_wait_answer, next_answer, prio_of, is_ready}
use Rattle.sg_sched.specs.SchedSound.{IsSchedSound}
use Rattle.sg_slots.proofs.FoundRows.{all_rows, same_test}
use Rattle.sg_slots.proofs.Alike.{StandForOne, same_first}
use Rattle.sg_sched.specs.Inside.SchedRanks.{most_within, found_most}

-- a call that passes finds its row
there : (found : Option Row) → not (is_there found) ≡ false → (r : Row) × (found ≡ Some r)
there None is = absurd (cc is)
there (Some r) is = (r, refl)

module _ (names : List (ℕ × ℕ)) (o held : Object) (client seq desc : ℕ) (args : List Value) (sound : IsSchedSound o) where
  abbrev call_of : ℕ → Call
  call_of fun = record { client = client; seq = seq; fun = fun; desc = desc; args = args }

  same_rank : (r v : Row) → IsAlike names r v → rank_of v ≡ rank_of r
  same_rank r v alike = ap (λ fields. word_of (field_at fields 1)) alike.fields

  same_prio : (r v : Row) → IsAlike names r v → prio_of v ≡ prio_of r
  same_prio r v alike = ap (λ fields. word_of (field_at fields 0)) alike.fields

  ready_too : (r v : Row) → IsAlike names r v → is_ready v ≡ is_ready r
  ready_too r v alike = ap (λ s. s == 1) alike.state

  module _ (call : Call) (serves : Serves sched_facts names o held call) (all : (fun_at sched_facts.funs call.fun).all ≡ true) where
    -- the next rank is the same
    same_next : next_rank held.rows ≡ next_rank o.rows
    same_next =
        let up = most_within 0 held.given 0 (next_rank o.rows - 1) held.rows (omega arith)
        (all_rows (IsRow sched_facts held.rows) (λ v. rank_of v ≤ next_rank o.rows - 1) 0 held.given held.rows serves.held_sound.rows
        (λ v found. let p = row_live sched_facts names o held call serves all v found in let m = found_most 0 o.rows p.0.id p.0 p.1.live in let s = same_rank p.0 v p.1.alike in omega (arith, m, s))) in
        let down = most_within 0 o.given 0 (next_rank held.rows - 1) o.rows (omega arith)
        (all_rows (IsRow sched_facts o.rows) (λ r. rank_of r ≤ next_rank held.rows - 1) 0 o.given o.rows sound.general.rows
        (λ r here. let p = row_held sched_facts names o held call serves all r here in let m = found_most 0 held.rows p.0.id p.0 p.1.held_there in let s = same_rank r p.0 p.1.alike in omega (arith, m, s))) in
        omega (arith, up, down)

    -- the first of both is one
    same_next_thread : SameReply names false (next_answer (first_ready o.rows)) (next_answer (first_ready held.rows))
    same_next_thread = at (first_ready o.rows) (first_ready held.rows) (same_first sched_facts names o held call serves all sound.general prio_of rank_of is_ready same_prio same_rank ready_too sound.apart)
      where
        at : (m n : Option Row) → StandForOne names m n → SameReply names false (next_answer m) (next_answer n)
        at None None one = refl
        at (Some r) (Some v) one = (refl, refl, one)
        at None (Some v) one = absurd one
        at (Some r) None one = absurd one

  -- the state is the same
  same_state : (r : Row) → row_at o.rows desc ≡ Some r → Serves sched_facts names o held (call_of 5) → state_in (row_at held.rows (named names desc)) ≡ state_in (row_at o.rows desc)
  same_state r found serves =
      let id = id_of_row o.rows desc r found in
      let alike = serves.needed r (ap (row_at o.rows) id ∙ found) (ap (λ b. b || is_ancestor o.rows r.id desc) (same_test r.id desc id)) in
      ap (λ n. state_in (row_at held.rows (named names n))) (sym id) ∙ ap state_in alike.there ∙ alike.alike.state ∙ sym (ap state_in found)

  same_wait : (state : ℕ) → named names 0 ≡ 0 → SameReply names false (sched_wait_answer state) (sched_wait_answer state)
  same_wait state none = at (state == 3)
    where
      at : (b : Bool) → SameReply names false (cond b None (Some (Ok (record { desc = 0; words = []; bytes = [] })))) (cond b None (Some (Ok (record { desc = 0; words = []; bytes = [] }))))
      at true = tt
      at false = (refl, refl, sym none)

  alike_at : (fun : ℕ) → Passes sched_facts o (call_of fun) → Serves sched_facts names o held (call_of fun)
      → SameReply names (fun_at sched_facts.funs fun).creation (sched_answer fun o (call_of fun)) (sched_answer fun held (record (call_of fun) { desc = named names desc }))
  alike_at zero passes serves = refl
  alike_at (suc zero) passes serves =
      let next = same_next (call_of 1) serves refl in
      (ap (λ n. n ∷ []) next, refl)
  alike_at (suc (suc zero)) passes serves =
      let next = same_next (call_of 2) serves refl in
      (ap (λ n. n ∷ []) next, refl, sym serves.names_are.none)
  alike_at (suc (suc (suc zero))) passes serves = (refl, refl, sym serves.names_are.none)
  alike_at (suc (suc (suc (suc zero)))) passes serves = (refl, refl, sym serves.names_are.none)
  alike_at (suc (suc (suc (suc (suc zero))))) passes serves =
      let found = there (row_at o.rows desc) (none_applies _ _ false NoDesc BadState HasChildren passes.guarded).0 in
      subst (λ s. SameReply names false (sched_wait_answer (state_in (row_at o.rows desc))) (sched_wait_answer s)) (sym (same_state found.0 found.1 serves))
      (same_wait (state_in (row_at o.rows desc)) serves.names_are.none)
  alike_at (suc (suc (suc (suc (suc (suc zero)))))) passes serves = same_next_thread (call_of 6) serves refl
  alike_at (suc (suc (suc (suc (suc (suc (suc zero))))))) passes serves = (refl, refl, sym serves.names_are.none)
  alike_at (suc (suc (suc (suc (suc (suc (suc (suc zero)))))))) passes serves = (refl, refl, sym serves.names_are.none)
  alike_at (suc (suc (suc (suc (suc (suc (suc (suc (suc n))))))))) passes serves = refl

-- the thread service gives a call the same answer from whatever serves it, under other ids too
pub sched_answers_alike : AnswersAlike sched_facts sched_table IsSchedSound
sched_answers_alike = record {
  alike = λ names o held call sound passes serves. alike_at names o held call.client call.seq call.desc call.args sound call.fun passes serves;
}

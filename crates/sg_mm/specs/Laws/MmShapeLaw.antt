-- The shape of the memory mapping service, and its answers, keep to what every shape allows; and no returned word counts.
use Rattle.std.proofs.Common.{ℕ, zero, suc, ◌+◌, Bool, true, false, cond, List, [], None, Some, refl, sym, ◌∙◌, subst}
use Rattle.std.specs.declared.option.Option.{Option}
use Rattle.std.specs.List.{list_any}
use Rattle.sg_facts.specs.sg_base.declared.call.Call.{Call}
use Rattle.sg_facts.specs.sg_base.declared.reply.Code.TheVariants.{Occupied}
use Rattle.sg_facts.specs.sg_base.declared.reply.Reply.TheVariants.{Ok, Refused}
use Rattle.sg_facts.specs.declared.row.Row.{Row}
use Rattle.sg_facts.specs.Object.{Object}
use Rattle.sg_facts.specs.Laws.{CountsSlowly, ShapeAllows}
use Rattle.sg_slots.proofs.RowLaws.{NotGuards, never_counts, wants_none}
use Rattle.sg_mm.specs.Laws.MmBlockedLaw.{never_waits}
use Rattle.sg_mm.specs.MmFacts.{mm_facts}
use Rattle.sg_mm.specs.MmSound.{IsMmSound}
use Rattle.sg_mm.specs.MmTable.{is_at, mm_table, number_at, page_answer, mm_answer}
use Rattle.sg_mm.specs.Inside.MmAnswer.{find_answer, page_at}

-- its refusals are none of the guard's
page_refuses : (rows : List Row) (given space addr : ℕ) → NotGuards (page_answer rows given space addr)
page_refuses rows given space addr = at (list_any (is_at space addr) rows)
  where
    at : (b : Bool) → NotGuards (cond b (Some (Refused Occupied)) (Some (Ok (record { desc = given + 1; words = []; bytes = [] }))))
    at true = refl
    at false = tt

find_refuses : (found : Option ℕ) → NotGuards (find_answer found)
find_refuses None = refl
find_refuses (Some id) = tt

refuses_at : (fun : ℕ) (o : Object) (call : Call) → NotGuards (mm_answer fun o call)
refuses_at zero o call = refl
refuses_at (suc zero) o call = page_refuses o.rows o.given call.client (number_at call 0)
refuses_at (suc (suc zero)) o call = page_refuses o.rows o.given (number_at call 0) (number_at call 1)
refuses_at (suc (suc (suc zero))) o call = tt
refuses_at (suc (suc (suc (suc zero)))) o call = find_refuses (page_at o.rows (number_at call 0) (number_at call 1))
refuses_at (suc (suc (suc (suc (suc n))))) o call = refl

-- the memory mapping service has a shape that is allowed, no call blocks, no refusal is the guard's,
-- and an Ok has a word where a field takes one
pub mm_shape_allows : ShapeAllows mm_facts mm_table
mm_shape_allows = record {
  shape = refl;
  blocks = λ o call is. absurd (never_waits call.fun o call is);
  refuses = λ o call code is. subst NotGuards is (refuses_at call.fun o call);
  words = λ o call good is wants. absurd (cc (sym (wants_none mm_facts refl call.fun) ∙ wants));
}

-- the counted words of the memory mapping service rise slowly: it has none
pub mm_counts_slowly : CountsSlowly mm_facts mm_table IsMmSound
mm_counts_slowly = never_counts mm_facts refl mm_table IsMmSound

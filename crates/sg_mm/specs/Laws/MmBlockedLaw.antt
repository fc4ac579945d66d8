-- Nobody waits for a page.
use Rattle.std.proofs.Common.{◌≡◌, ℕ, zero, suc, ◌+◌, Bool, true, false, cond, List, [], None, Some}
use Rattle.std.specs.declared.option.Option.{Option}
use Rattle.std.specs.List.{list_any}
use Rattle.sg_facts.specs.sg_base.declared.call.Call.{Call}
use Rattle.sg_facts.specs.sg_base.declared.reply.Code.TheVariants.{Occupied}
use Rattle.sg_facts.specs.sg_base.declared.reply.Reply.TheVariants.{Ok, Refused}
use Rattle.sg_facts.specs.declared.row.Row.{Row}
use Rattle.sg_facts.specs.Object.{Object}
use Rattle.sg_facts.specs.Laws.{BlockedStays}
use Rattle.sg_mm.specs.MmFacts.{mm_facts}
use Rattle.sg_mm.specs.MmSound.{IsMmSound}
use Rattle.sg_mm.specs.MmTable.{is_at, mm_table, number_at, page_answer, mm_answer}
use Rattle.sg_mm.specs.Inside.MmAnswer.{find_answer, page_at}

page_is_told : (rows : List Row) (given space addr : ℕ) → page_answer rows given space addr ≡ None → ⊥
page_is_told rows given space addr is = at (list_any (is_at space addr) rows) is
  where
    at : (b : Bool) → cond b (Some (Refused Occupied)) (Some (Ok (record { desc = given + 1; words = []; bytes = [] }))) ≡ None → ⊥
    at true is = cc is
    at false is = cc is

find_is_told : (found : Option ℕ) → find_answer found ≡ None → ⊥
find_is_told None is = cc is
find_is_told (Some id) is = cc is

-- each call is answered
pub never_waits : (fun : ℕ) (o : Object) (call : Call) → mm_answer fun o call ≡ None → ⊥
never_waits zero o call is = cc is
never_waits (suc zero) o call is = page_is_told o.rows o.given call.client (number_at call 0) is
never_waits (suc (suc zero)) o call is = page_is_told o.rows o.given (number_at call 0) (number_at call 1) is
never_waits (suc (suc (suc zero))) o call is = cc is
never_waits (suc (suc (suc (suc zero)))) o call is = find_is_told (page_at o.rows (number_at call 0) (number_at call 1)) is
never_waits (suc (suc (suc (suc (suc n))))) o call is = cc is

-- who is blocked at the memory mapping service stays blocked: nobody ever is
pub mm_blocked_stays : BlockedStays mm_facts mm_table IsMmSound
mm_blocked_stays = record {
  blocked = λ o other call good sound passes waits passes_too is leaves. absurd (never_waits other.fun o other waits);
  state = λ o other call good sound passes waits passes_too is leaves. absurd (never_waits other.fun o other waits);
}

-- What the orders of the queue tell of the timers' rows.
use Rattle.std.proofs.Common.{◌≡◌, ℕ, Bool, true, List, [], ◌∷◌, None, Some, refl, ap}
use Rattle.std.specs.Prelude.{◌==◌, ◌||◌}
use Rattle.std.specs.List.{list_any}
use Rattle.sg_slots.specs.Slots.{rows_of}
use Rattle.sg_slots.proofs.FirstRows.{Agrees}
use Rattle.sg_timer.specs.declared.timer.Timer.{Timer}
use Rattle.sg_timer.specs.TimerRow.{timer_body}
use Rattle.sg_timer.specs.TimerTable.{left_of, tag_of}
use Rattle.sg_timer.specs.Inside.TimerFirst.{any_row}
use Rattle.sg_timer.specs.Inside.TimerOrders.{by_left, by_tag}

-- a timer stands in the first order as its row does
pub left_agrees : Agrees timer_body by_left left_of tag_of any_row
left_agrees = record {
  inside = λ id t is. refl;
  outside = λ id t none. absurd (cc none);
  passes = λ id t s some. refl;
}

-- a timer with a tag stands for a row with it
pub tag_taken : (es : List (ℕ × Timer)) (tag : ℕ) → list_any (λ e. (by_tag e.1).first == tag) es ≡ list_any (λ r. tag_of r == tag) (rows_of timer_body es)
tag_taken [] tag = refl
tag_taken (e ∷ es) tag = ap (λ b. (e.1.tag == tag) || b) (tag_taken es tag)

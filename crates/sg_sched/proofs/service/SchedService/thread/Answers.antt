-- The row of an id is that of its thread, and no thread has a parent.
use Rattle.std.proofs.Common.{◌≡◌, ℕ, ◌<◌, true, false, List, [], ◌∷◌, None, Some, Bor, refl, sym, ◌∙◌, ap, arith}
use Rattle.std.specs.declared.option.Option.{Option}
use Rattle.std.specs.Option.{option_map, option_copied, is_some}
use Rattle.std.proofs.lemmas.Bool.Decides.{nat_tests}
use Rattle.sg_facts.specs.Inside.Rows.{has_child}
use Rattle.sg_slots.specs.Slots.{row_with, rows_of}
use Rattle.sg_slots.proofs.Ids.{above_low}
use Rattle.sg_slots.proofs.Rows.{row_at-rows_of}
use Rattle.sg_sched.specs.SchedRow.{thread_body}
use Rattle.sg_sched.specs.declared.thread.Thread.{Thread}
use Rattle.sg_sched.proofs.service.SchedService.thread.Goals as goal

-- a thread that is lent is there
lent : (found : Option (Bor Thread)) → is_some found ≡ true → is_some (option_copied found) ≡ true
lent None is = absurd (cc is)
lent (Some t) is = refl

-- no thread is a child
childless : (threads : List (ℕ × Thread)) (parent : ℕ) → 0 < parent → has_child (rows_of thread_body threads) parent ≡ false
childless [] parent named = refl
childless (t ∷ threads) parent named = grind (arith, nat_tests, childless threads parent named)

pub returns : goal.returns
returns c =
    let threads = c.args.self.now.queue in
    record {
      row = row_at-rows_of thread_body threads.entries c.args.id ∙ ap (option_map (λ t. row_with c.args.id (thread_body t))) (sym c.get.ensures.entry);
      id = λ some. above_low 0 threads.given c.args.id threads.entries c.get.ensures.ascending (ap is_some (sym c.get.ensures.entry) ∙ lent c.get.result some);
      childless = childless threads.entries;
    }

-- What the service decides is what its table says.
use Rattle.std.proofs.Common.{◌≡◌, ℕ, zero, suc, ◌+◌, ◌≤◌, Bool, true, false, cond, List, [], ◌∷◌, ◌++◌, None, Some, refl, sym, ◌∙◌, ap, subst, arith}
use Rattle.std.specs.Prelude.{◌==◌, nat_lt}
use Rattle.std.specs.declared.option.Option.{Option}
use Rattle.std.specs.List.{list_any}
use Rattle.std.specs.Option.{option_map}
use Rattle.sg_facts.specs.sg_base.declared.value.Value.{Value}
use Rattle.sg_facts.specs.sg_base.declared.value.Value.TheVariants.{Word, Text}
use Rattle.sg_facts.specs.sg_base.declared.call.Call.{Call}
use Rattle.sg_facts.specs.sg_base.declared.reply.Code.TheVariants.{NotOwner, Occupied, Overflow, TooBig}
use Rattle.sg_facts.specs.sg_base.declared.reply.Good.{Good}
use Rattle.sg_facts.specs.sg_base.declared.reply.Reply.{Reply}
use Rattle.sg_facts.specs.sg_base.declared.reply.Reply.TheVariants.{Ok, Refused}
use Rattle.sg_facts.specs.declared.row.Row.{Row}
use Rattle.sg_facts.specs.Facts.{fun_at, takes_desc}
use Rattle.sg_facts.specs.Kinds.{kinds_fit}
use Rattle.sg_facts.specs.Object.{Object, patch_of}
use Rattle.sg_facts.specs.Track.{row_at, arg_at, word_of}
use Rattle.sg_slots.specs.declared.decision.Decision.{Decision}
use Rattle.sg_slots.specs.declared.decision.Decision.TheVariants.{Refuse, Block, Enlist, Set, Remove}
use Rattle.sg_slots.specs.Slots.{Held, AreIds, entry_at, object_of, rows_of, row_with}
use Rattle.sg_slots.specs.Decide.{Decides}
use Rattle.sg_slots.proofs.Rows.{row_at-rows_of, rows_of-more}
use Rattle.sg_slots.proofs.Deciding.{plain, refuse_right, block_right, set_right, set_word_right, remove_right}
use Rattle.sg_timer.specs.declared.timer.Timer.{Timer}
use Rattle.sg_timer.specs.TimerFacts.{timer_facts}
use Rattle.sg_timer.specs.TimerTable.{timer_table, timer_parts, first_timer, most_ticks, skipped, tag_of, worded}
use Rattle.sg_timer.specs.TimerRow.{timer_body}
use Rattle.sg_timer.specs.Inside.TimerAnswer.{create_answer, first_answer, free_answer, free_of, skip_of, tick_answer, tick_of, timer_wait_answer, wait_of}
use Rattle.sg_timer.specs.Inside.TimerDecision.{new_timer, on_create, on_tick, on_timer_wait, on_place, on_first, on_skip, on_free}

-- ---- arguments

-- a number as the first argument
first_word_arg : (args : List Value) → kinds_fit (fun_at timer_facts.funs 4).kinds args ≡ true → (call : Call) → call.args ≡ args → arg_at call 0 ≡ Word (word_of (arg_at call 0))
first_word_arg [] fit call is = absurd (cc fit)
first_word_arg (Text bytes ∷ args) fit call is = absurd (cc fit)
first_word_arg (Word n ∷ args) fit call is = subst (λ values. arg_at (record call { args = values }) 0 ≡ Word (word_of (arg_at (record call { args = values }) 0))) (sym is) refl

-- two numbers as arguments
record AreWordArgs (call : Call) : Type 0 where
  first : arg_at call 0 ≡ Word (word_of (arg_at call 0))
  second : arg_at call 1 ≡ Word (word_of (arg_at call 1))

two_words : (args : List Value) → kinds_fit (fun_at timer_facts.funs 1).kinds args ≡ true → (call : Call) → call.args ≡ args → AreWordArgs call
two_words [] fit call is = absurd (cc fit)
two_words (Text bytes ∷ args) fit call is = absurd (cc fit)
two_words (Word n ∷ []) fit call is = absurd (cc fit)
two_words (Word n ∷ Text bytes ∷ args) fit call is = absurd (cc fit)
two_words (Word n ∷ Word m ∷ args) fit call is = subst (λ values. AreWordArgs (record call { args = values })) (sym is) (record { first = refl; second = refl })

module _ (held : Held Timer) (client seq desc : ℕ) (args : List Value) where
  abbrev call_of : ℕ → Call
  call_of fun = record { client = client; seq = seq; fun = fun; desc = desc; args = args }

  abbrev IsRight : ℕ → Decision Timer → Type 0
  IsRight fun decision = Decides timer_facts timer_table timer_parts timer_body held (call_of fun) decision

  abbrev rows : List Row
  rows = rows_of timer_body held.entries

  -- no call writes a file
  unwritten : (fun : ℕ) (reply : Reply) → patch_of timer_facts (object_of timer_body held) (call_of fun) reply ≡ None
  unwritten fun (Refused code) = refl
  unwritten zero (Ok g) = refl
  unwritten (suc zero) (Ok g) = refl
  unwritten (suc (suc zero)) (Ok g) = refl
  unwritten (suc (suc (suc zero))) (Ok g) = refl
  unwritten (suc (suc (suc (suc zero)))) (Ok g) = refl
  unwritten (suc (suc (suc (suc (suc zero))))) (Ok g) = refl
  unwritten (suc (suc (suc (suc (suc (suc zero)))))) (Ok g) = refl
  unwritten (suc (suc (suc (suc (suc (suc (suc zero))))))) (Ok g) = refl
  unwritten (suc (suc (suc (suc (suc (suc (suc (suc n)))))))) (Ok g) = refl

  -- ---- making

  abbrev period : ℕ
  period = word_of (arg_at (call_of 1) 0)

  abbrev tag : ℕ
  tag = word_of (arg_at (call_of 1) 1)

  abbrev taken : Bool
  taken = list_any (λ r. tag_of r == tag) rows

  -- the table's answer, by its two tests
  abbrev answers : Bool → Bool → Type 0
  answers great is_taken = create_answer held.given period taken ≡ cond great (Some (Refused TooBig)) (cond is_taken (Some (Refused Occupied)) (worded (held.given + 1) period))

  answers_so : (a b : Bool) → nat_lt most_ticks period ≡ a → taken ≡ b → answers a b
  answers_so a b great is_taken =
      ap (λ c. cond c (Some (Refused TooBig)) (cond taken (Some (Refused Occupied)) (worded (held.given + 1) period))) great
      ∙ ap (λ c. cond a (Some (Refused TooBig)) (cond c (Some (Refused Occupied)) (worded (held.given + 1) period))) is_taken

  -- the row of a new timer
  new_row_is : AreWordArgs (call_of 1)
      → rows ++ row_with (held.given + 1) (timer_body (new_timer client period tag)) ∷ []
      ≡ rows ++ record { id = held.given + 1; made = 1; creator = client; parent = 0; state = 1; fields = Word client ∷ arg_at (call_of 1) 0 ∷ arg_at (call_of 1) 1 ∷ Word 0 ∷ Word period ∷ [] } ∷ []
  new_row_is are =
      ap (λ v. rows ++ record { id = held.given + 1; made = 1; creator = client; parent = 0; state = 1; fields = Word client ∷ v ∷ Word tag ∷ Word 0 ∷ Word period ∷ [] } ∷ []) (sym are.first)
      ∙ ap (λ v. rows ++ record { id = held.given + 1; made = 1; creator = client; parent = 0; state = 1; fields = Word client ∷ arg_at (call_of 1) 0 ∷ v ∷ Word 0 ∷ Word period ∷ [] } ∷ []) (sym are.second)

  create_at : AreWordArgs (call_of 1) → (a b : Bool) → nat_lt most_ticks period ≡ a → taken ≡ b → IsRight 1 (cond a (Refuse TooBig) (cond b (Refuse Occupied) (Enlist (new_timer client period tag) (Some period))))
  create_at are true b great is_taken = record { about = tt; answered = answers_so true b great is_taken; changed = refl; parted = refl; unwritten = unwritten 1 }
  create_at are false true great is_taken = record { about = tt; answered = answers_so false true great is_taken; changed = refl; parted = refl; unwritten = unwritten 1 }
  create_at are false false great is_taken = record {
    about = tt;
    answered = answers_so false false great is_taken;
    changed = ap (λ list. record { rows = list; files = []; given = held.given + 1 }) (rows_of-more timer_body held.entries (held.given + 1) (new_timer client period tag) ∙ new_row_is are);
    parted = refl;
    unwritten = unwritten 1;
  }

  pub create_right : kinds_fit (fun_at timer_facts.funs 1).kinds args ≡ true → IsRight 1 (on_create client period tag taken)
  create_right fit = create_at (two_words args fit (call_of 1) refl) (nat_lt most_ticks period) taken refl refl

  -- ---- asking

  pub first_right : IsRight 5 (on_first (option_map (λ r. r.id) (first_timer rows)))
  first_right = at (first_timer rows) refl
    where
      at : (found : Option Row) → first_timer rows ≡ found → IsRight 5 (on_first (option_map (λ r. r.id) found))
      at None is = record { about = tt; answered = ap first_answer is; changed = refl; parted = refl; unwritten = unwritten 5 }
      at (Some r) is = record { about = tt; answered = ap first_answer is; changed = refl; parted = refl; unwritten = unwritten 5 }

  -- ---- on a timer

  module _ (ids : AreIds 0 held.given held.entries) (t : Timer) (there : entry_at held.entries desc ≡ Some t) where
    -- the row of the timer
    row_is : row_at rows desc ≡ Some (row_with desc (timer_body t))
    row_is = row_at-rows_of timer_body held.entries desc ∙ ap (option_map (λ e. row_with desc (timer_body e))) there

    abbrev ticks : ℕ
    ticks = word_of (arg_at (call_of 2) 0)

    tick_at : (b : Bool) → nat_lt most_ticks (t.time + ticks) ≡ b → IsRight 2 (cond b (Refuse Overflow) (Set (record t { time = t.time + ticks }) None))
    tick_at true over =
        refuse_right timer_facts timer_table timer_parts timer_body held (call_of 2) refl Overflow (ap (λ row. tick_of row ticks) row_is ∙ ap (λ b. cond b (Some (Refused Overflow)) (Some (Ok plain))) over)
    tick_at false fits =
        set_right timer_facts timer_table timer_parts timer_body held (call_of 2) refl ids t there refl refl refl
        (ap (λ row. tick_of row ticks) row_is ∙ ap (λ b. cond b (Some (Refused Overflow)) (Some (Ok plain))) fits) (record t { time = t.time + ticks }) refl refl

    pub tick_right : IsRight 2 (on_tick t ticks)
    tick_right = tick_at (nat_lt most_ticks (t.time + ticks)) refl

    wait_at : (b : Bool) → nat_lt t.time t.due ≡ b → IsRight 3 (cond b Block (Set (record t { due = t.due + t.period }) (Some t.period)))
    wait_at true before = block_right timer_facts timer_table timer_parts timer_body held (call_of 3) refl (ap wait_of row_is ∙ ap (λ b. cond b None (worded 0 t.period)) before)
    wait_at false reached =
        set_word_right timer_facts timer_table timer_parts timer_body held (call_of 3) refl ids t there refl refl refl (Some t.period) (record t { due = t.due + t.period })
        (ap wait_of row_is ∙ ap (λ b. cond b None (worded 0 t.period)) reached) refl refl

    pub wait_right : IsRight 3 (on_timer_wait t)
    wait_right = wait_at (nat_lt t.time t.due) refl

    pub place_right : kinds_fit (fun_at timer_facts.funs 4).kinds args ≡ true → IsRight 4 (on_place t (word_of (arg_at (call_of 4) 0)))
    place_right fit =
        set_right timer_facts timer_table timer_parts timer_body held (call_of 4) refl ids t there refl refl refl refl (record t { due = word_of (arg_at (call_of 4) 0) }) refl
        (ap (λ v. record { id = desc; made = 1; creator = t.owner; parent = 0; state = 1; fields = Word t.owner ∷ Word t.period ∷ Word t.tag ∷ Word t.time ∷ v ∷ [] }) (first_word_arg args fit (call_of 4) refl))

    pub skip_right : IsRight 6 (on_skip t)
    skip_right =
        set_word_right timer_facts timer_table timer_parts timer_body held (call_of 6) refl ids t there refl refl refl (Some (skipped t.time t.due t.period))
        (record t { due = t.due + skipped t.time t.due t.period }) (ap skip_of row_is) refl refl

    free_at : (b : Bool) → (t.owner == client) ≡ b → IsRight 7 (cond b Remove (Refuse NotOwner))
    free_at true own =
        remove_right timer_facts timer_table timer_parts timer_body held (call_of 7) refl ids t there refl refl refl
        (ap (λ row. free_of row client) row_is ∙ ap (λ b. cond b (Some (Ok plain)) (Some (Refused NotOwner))) own) refl refl
    free_at false other =
        refuse_right timer_facts timer_table timer_parts timer_body held (call_of 7) refl NotOwner (ap (λ row. free_of row client) row_is ∙ ap (λ b. cond b (Some (Ok plain)) (Some (Refused NotOwner))) other)

    pub free_right : IsRight 7 (on_free t client)
    free_right = free_at (t.owner == client) refl

-- every function but the first and the fifth is called on a timer
pub on_timer : (fun : ℕ) → (fun ≡ 1 → ⊥) → (fun ≡ 5 → ⊥) → 1 ≤ fun → fun ≤ 7 → takes_desc (fun_at timer_facts.funs fun) ≡ true
on_timer zero one five first last = absurd (omega arith)
on_timer (suc zero) one five first last = absurd (one refl)
on_timer (suc (suc zero)) one five first last = refl
on_timer (suc (suc (suc zero))) one five first last = refl
on_timer (suc (suc (suc (suc zero)))) one five first last = refl
on_timer (suc (suc (suc (suc (suc zero))))) one five first last = absurd (five refl)
on_timer (suc (suc (suc (suc (suc (suc zero)))))) one five first last = refl
on_timer (suc (suc (suc (suc (suc (suc (suc zero))))))) one five first last = refl
on_timer (suc (suc (suc (suc (suc (suc (suc (suc n)))))))) one five first last = absurd (omega arith)

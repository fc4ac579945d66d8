-- What may be asked of timers that were asked little, and what it leaves.
use Rattle.std.proofs.Common.{◌≡◌, ℕ, zero, suc, ◌+◌, ◌^◌, ◌<◌, ◌≤◌, Bool, true, false, cond, not, List, [], ◌∷◌, None, Some, Bor, length, refl, sym, ◌∙◌, ap, arith}
use Rattle.std.specs.Prelude.{nat_le}
use Rattle.std.specs.declared.option.Option.{Option}
use Rattle.std.specs.Option.{option_map, option_copied, is_some}
use Rattle.std.proofs.lemmas.Bool.Decides.{nat_tests}
use Rattle.test_asking.specs.sg_facts.sg_base.declared.value.Value.{Value}
use Rattle.test_asking.specs.sg_facts.sg_base.declared.value.Value.TheVariants.{Word}
use Rattle.test_asking.specs.sg_facts.sg_base.declared.call.Call.{Call}
use Rattle.test_asking.specs.sg_facts.sg_base.declared.reply.Code.TheVariants.{NoDesc, BadState, HasChildren, Full}
use Rattle.test_asking.specs.sg_facts.sg_base.declared.reply.Reply.{Reply}
use Rattle.test_asking.specs.sg_facts.sg_base.declared.reply.Reply.TheVariants.{Ok, Refused}
use Rattle.test_asking.specs.sg_facts.declared.row.Row.{Row}
use Rattle.test_asking.specs.sg_facts.Facts.{fun_at, takes_parent}
use Rattle.test_asking.specs.sg_facts.Inside.Guards.{in_state}
use Rattle.test_asking.specs.sg_facts.Inside.Rows.{has_child}
use Rattle.test_asking.specs.sg_facts.Interface.{moves_on}
use Rattle.test_asking.specs.sg_facts.Kinds.{IsWithin, MayAsk}
use Rattle.test_asking.specs.sg_facts.Laws.{Passes, whole}
use Rattle.test_asking.specs.sg_facts.Limits.{most_live}
use Rattle.test_asking.specs.sg_facts.Object.{Object, after, empty_object}
use Rattle.test_asking.specs.sg_facts.Track.{row_at, is_live}
use Rattle.test_asking.proofs.sg_facts.RowLists.{live_of_row}
use Rattle.test_asking.specs.sg_slots.Slots.{row_with}
use Rattle.sg_timer.specs.TimerFacts.{timer_facts}
use Rattle.sg_timer.specs.TimerRow.{timer_body}
use Rattle.sg_timer.specs.TimerTable.{timer_table}
use Rattle.sg_timer.specs.declared.timer.Timer.{Timer}
use Rattle.sg_timer.specs.Laws.TimerCountLaw.{timer_counts_slowly}
use Rattle.sg_timer.specs.Laws.TimerSoundLaw.{timer_answers_and_keeps}
use Rattle.test_timers.specs.Small.{AreSmall, is_on}

-- ---- what an answer leaves

-- there are no timers at first
pub none_small : AreSmall 0 empty_object
none_small = record { sound = timer_answers_and_keeps.empty; counted = omega arith; given = omega arith }

-- at most one id is given
one_more : (b : Bool) (given : ℕ) → cond b (given + 1) given ≤ given + 1
one_more true given = omega arith
one_more false given = omega arith

-- who waits leaves them as they were
pub small_later : (calls : ℕ) (o : Object) → AreSmall calls o → AreSmall (calls + 1) o
small_later calls o small = record { sound = small.sound; counted = omega (arith, small.counted); given = omega (arith, small.given) }

-- an answer leaves timers that were asked one call more
pub small_after : (calls : ℕ) (o : Object) (call : Call) (reply : Reply) → Passes timer_facts o call → AreSmall calls o → timer_table o call ≡ Some reply
    → AreSmall (calls + 1) (after timer_facts o call reply)
small_after calls o call (Refused code) passes small is = record { sound = small.sound; counted = omega (arith, small.counted); given = omega (arith, small.given) }
small_after calls o call (Ok good) passes small is =
    let bound = timer_counts_slowly.calls o call good small.sound passes is in
    let given = one_more (fun_at timer_facts.funs call.fun).creation o.given in
    record {
      sound = timer_answers_and_keeps.keeps o call good small.sound passes is;
      counted = omega (arith, bound, small.counted);
      given = omega (arith, given, small.given);
    }

-- ---- the guard

-- not too many timers are live
not_full : (full : Bool) → full ≡ false → cond full (Some Full) None ≡ None
not_full true is = absurd (cc is)
not_full false is = refl

-- a timer is there, may be called so, and nothing that is called for has children
no_cause : (there moves children : Bool) → there ≡ true → moves ≡ true → children ≡ false
    → cond (not there) (Some NoDesc) (cond (not moves) (Some BadState) (cond children (Some HasChildren) None)) ≡ None
no_cause false moves children a b c = absurd (cc a)
no_cause true false children a b c = absurd (cc b)
no_cause true true true a b c = absurd (cc c)
no_cause true true false a b c = refl

-- no function takes a parent
no_parent : (fun : ℕ) → takes_parent (fun_at timer_facts.funs fun) ≡ false
no_parent zero = refl
no_parent (suc zero) = refl
no_parent (suc (suc zero)) = refl
no_parent (suc (suc (suc zero))) = refl
no_parent (suc (suc (suc (suc zero)))) = refl
no_parent (suc (suc (suc (suc (suc zero))))) = refl
no_parent (suc (suc (suc (suc (suc (suc zero)))))) = refl
no_parent (suc (suc (suc (suc (suc (suc (suc zero))))))) = refl
no_parent (suc (suc (suc (suc (suc (suc (suc (suc n)))))))) = refl

-- ---- a timer that is there

-- its row is found
pub record IsThere (rows : List Row) (id : ℕ) : Type 0 where
  pub timer : Timer
  pub found : row_at rows id ≡ Some (row_with id (timer_body timer))

-- one that is lent is there
pub there_where_lent : (rows : List Row) (id : ℕ) (lent : Option (Bor Timer)) → row_at rows id ≡ option_map (λ t. row_with id (timer_body t)) (option_copied lent)
    → is_some lent ≡ true → IsThere rows id
there_where_lent rows id None found is = absurd (cc is)
there_where_lent rows id (Some t) found is = record { timer = t.now; found = found }

-- ---- what may be asked

module _ (calls : ℕ) (o : Object) (few : calls < 2 ^ 32) (small : AreSmall calls o) where
  -- the numbers are far from their ends
  within : (call : Call) → 1 ≤ call.client → call.client ≤ 64 → IsWithin timer_facts o call
  within call first last = record {
    client_first = first;
    client_last = last;
    counted = omega (arith, few, small.counted);
    given = omega (arith, few, small.given);
  }

  -- a call on no timer
  abbrev alone : ℕ → List Value → Call
  alone fun args = record { client = 1; seq = 1; fun = fun; desc = 0; args = args }

  pub passes_make : (period tag : ℕ) → period < 2 ^ 64 → tag < 2 ^ 64 → length o.rows < 1024 → Passes timer_facts o (alone 1 (Word period ∷ Word tag ∷ []))
  passes_make period tag period_is tag_is room =
      let free : nat_le most_live (length o.rows) ≡ false = grind (arith, nat_tests, room) in
      record {
        is_call = record { first = omega arith; last = omega arith; fits = record { args = refl; desc = λ no_desc no_parent. refl } };
        words = (period_is, (tag_is, tt));
        within = within (alone 1 (Word period ∷ Word tag ∷ [])) (omega arith) (omega arith);
        guarded = not_full (nat_le most_live (length o.rows)) free;
      }

  pub may_make : (period tag : ℕ) → MayAsk timer_facts o (alone 1 (Word period ∷ Word tag ∷ []))
  may_make period tag = record {
    is_call = record { first = omega arith; last = omega arith; fits = record { args = refl; desc = λ no_desc no_parent. refl } };
    within = within (alone 1 (Word period ∷ Word tag ∷ [])) (omega arith) (omega arith);
    desc = λ is. absurd (cc is);
    parent = λ is. absurd (cc is);
    children = λ row is whole. absurd (cc is);
  }

  pub passes_first : Passes timer_facts o (alone 5 [])
  passes_first = record {
    is_call = record { first = omega arith; last = omega arith; fits = record { args = refl; desc = λ no_desc no_parent. refl } };
    words = tt;
    within = within (alone 5 []) (omega arith) (omega arith);
    guarded = refl;
  }

  pub may_first : MayAsk timer_facts o (alone 5 [])
  may_first = record {
    is_call = record { first = omega arith; last = omega arith; fits = record { args = refl; desc = λ no_desc no_parent. refl } };
    within = within (alone 5 []) (omega arith) (omega arith);
    desc = λ is. absurd (cc is);
    parent = λ is. absurd (cc is);
    children = λ row is whole. absurd (cc is);
  }

  module _ (client id : ℕ) (first : 1 ≤ client) (last : client ≤ 64) (there : IsThere o.rows id) (childless : has_child o.rows id ≡ false) where
    -- a call of the client on the timer
    abbrev call_on : ℕ → List Value → Call
    call_on fun args = record { client = client; seq = 1; fun = fun; desc = id; args = args }

    live : is_live o.rows id ≡ true
    live = live_of_row o.rows id (row_with id (timer_body there.timer)) there.found

    -- its row is there, and in the one state that there is
    has_row : is_some (row_at o.rows id) ≡ true
    has_row = ap is_some there.found

    may_move : (fun : ℕ) → moves_on (whole timer_facts) 1 fun ≡ true → in_state (whole timer_facts) (row_at o.rows id) fun ≡ true
    may_move fun is = ap (λ row. in_state (whole timer_facts) row fun) there.found ∙ is

    -- what the service may be asked, as far as the rows go
    may_on : (fun : ℕ) (args : List Value) → Passes timer_facts o (call_on fun args) → MayAsk timer_facts o (call_on fun args)
    may_on fun args passes = record {
      is_call = passes.is_call;
      within = passes.within;
      desc = λ is. live;
      parent = λ is. absurd (cc (sym (no_parent fun) ∙ is));
      children = λ row is whole. childless;
    }

    pub passes_tick : (ticks : ℕ) → ticks < 2 ^ 64 → Passes timer_facts o (call_on 2 (Word ticks ∷ []))
    passes_tick ticks ticks_is = record {
      is_call = record { first = omega arith; last = omega arith; fits = record { args = refl; desc = λ no_desc. absurd (cc no_desc) } };
      words = (ticks_is, tt);
      within = within (call_on 2 (Word ticks ∷ [])) first last;
      guarded = no_cause (is_some (row_at o.rows id)) (in_state (whole timer_facts) (row_at o.rows id) 2) false has_row (may_move 2 refl) refl;
    }

    pub may_tick : (ticks : ℕ) → ticks < 2 ^ 64 → MayAsk timer_facts o (call_on 2 (Word ticks ∷ []))
    may_tick ticks ticks_is = may_on 2 (Word ticks ∷ []) (passes_tick ticks ticks_is)

    passes_wait : Passes timer_facts o (call_on 3 [])
    passes_wait = record {
      is_call = record { first = omega arith; last = omega arith; fits = record { args = refl; desc = λ no_desc. absurd (cc no_desc) } };
      words = tt;
      within = within (call_on 3 []) first last;
      guarded = no_cause (is_some (row_at o.rows id)) (in_state (whole timer_facts) (row_at o.rows id) 3) false has_row (may_move 3 refl) refl;
    }

    passes_skip : Passes timer_facts o (call_on 6 [])
    passes_skip = record {
      is_call = record { first = omega arith; last = omega arith; fits = record { args = refl; desc = λ no_desc. absurd (cc no_desc) } };
      words = tt;
      within = within (call_on 6 []) first last;
      guarded = no_cause (is_some (row_at o.rows id)) (in_state (whole timer_facts) (row_at o.rows id) 6) false has_row (may_move 6 refl) refl;
    }

    passes_free : Passes timer_facts o (call_on 7 [])
    passes_free = record {
      is_call = record { first = omega arith; last = omega arith; fits = record { args = refl; desc = λ no_desc. absurd (cc no_desc) } };
      words = tt;
      within = within (call_on 7 []) first last;
      guarded = no_cause (is_some (row_at o.rows id)) (in_state (whole timer_facts) (row_at o.rows id) 7) (has_child o.rows id) has_row (may_move 7 refl) childless;
    }

    pub passes_on : (fun : ℕ) → is_on fun ≡ true → Passes timer_facts o (call_on fun [])
    passes_on zero on = absurd (cc on)
    passes_on (suc zero) on = absurd (cc on)
    passes_on (suc (suc zero)) on = absurd (cc on)
    passes_on (suc (suc (suc zero))) on = passes_wait
    passes_on (suc (suc (suc (suc zero)))) on = absurd (cc on)
    passes_on (suc (suc (suc (suc (suc zero))))) on = absurd (cc on)
    passes_on (suc (suc (suc (suc (suc (suc zero)))))) on = passes_skip
    passes_on (suc (suc (suc (suc (suc (suc (suc zero))))))) on = passes_free
    passes_on (suc (suc (suc (suc (suc (suc (suc (suc n)))))))) on = absurd (cc on)

    pub may_call : (fun : ℕ) → is_on fun ≡ true → MayAsk timer_facts o (call_on fun [])
    may_call fun on = may_on fun [] (passes_on fun on)

    -- a walk may place it
    pub may_place : (due : ℕ) → MayAsk timer_facts o (call_on 4 (Word due ∷ []))
    may_place due = record {
      is_call = record { first = omega arith; last = omega arith; fits = record { args = refl; desc = λ no_desc. absurd (cc no_desc) } };
      within = within (call_on 4 (Word due ∷ [])) first last;
      desc = λ is. live;
      parent = λ is. absurd (cc is);
      children = λ row is whole. childless;
    }

-- What may be asked of threads that were asked little, and what it leaves.
use Rattle.std.proofs.Common.{◌≡◌, ℕ, zero, suc, ◌+◌, ◌^◌, ◌<◌, ◌≤◌, Bool, true, false, cond, List, [], ◌∷◌, None, Some, Bor, refl, sym, ◌∙◌, arith}
use Rattle.std.specs.Prelude.{◌&&◌}
use Rattle.std.specs.declared.option.Option.{Option}
use Rattle.std.specs.Option.{option_map, option_copied, is_some}
use Rattle.test_asking.specs.sg_facts.sg_base.declared.value.Value.TheVariants.{Word}
use Rattle.test_asking.specs.sg_facts.sg_base.declared.call.Call.{Call}
use Rattle.test_asking.specs.sg_facts.sg_base.declared.reply.Reply.{Reply}
use Rattle.test_asking.specs.sg_facts.sg_base.declared.reply.Reply.TheVariants.{Ok, Refused}
use Rattle.test_asking.specs.sg_facts.declared.row.Row.{Row}
use Rattle.test_asking.specs.sg_facts.Facts.{fun_at, takes_desc, takes_parent}
use Rattle.test_asking.specs.sg_facts.Kinds.{MayAsk, IsWithin, kinds_fit}
use Rattle.test_asking.specs.sg_facts.Laws.{most_set}
use Rattle.test_asking.specs.sg_facts.Object.{Object, after}
use Rattle.test_asking.specs.sg_facts.Track.{row_at, is_live, arg_at, word_of}
use Rattle.test_asking.specs.sg_facts.Inside.Rows.{has_child}
use Rattle.test_asking.proofs.sg_facts.RowLists.{live_of_row}
use Rattle.sg_sched.specs.SchedFacts.{sched_facts}
use Rattle.sg_sched.specs.SchedTable.{sched_table}
use Rattle.sg_sched.specs.Laws.SchedShapeLaw.{replays_at}
use Rattle.test_threads.specs.Small.{AreSmall, is_on}

-- no function sets a rank to more than its argument
set_to_argument : (fun : ℕ) (call : Call) → most_set sched_facts call (fun_at sched_facts.funs fun).effects ≤ word_of (arg_at call 0)
set_to_argument zero call = omega arith
set_to_argument (suc zero) call = omega arith
set_to_argument (suc (suc zero)) call = omega arith
set_to_argument (suc (suc (suc zero))) call = omega arith
set_to_argument (suc (suc (suc (suc zero)))) call = omega arith
set_to_argument (suc (suc (suc (suc (suc zero))))) call = omega arith
set_to_argument (suc (suc (suc (suc (suc (suc zero)))))) call = omega arith
set_to_argument (suc (suc (suc (suc (suc (suc (suc zero))))))) call = omega arith
set_to_argument (suc (suc (suc (suc (suc (suc (suc (suc zero)))))))) call = omega arith
set_to_argument (suc (suc (suc (suc (suc (suc (suc (suc (suc n))))))))) call = omega arith

-- at most one id is given
one_more : (b : Bool) (given : ℕ) → cond b (given + 1) given ≤ given + 1
one_more true given = omega arith
one_more false given = omega arith

-- an answer leaves threads that were asked one call more
pub small_after : (calls : ℕ) (o : Object) (call : Call) (reply : Reply) → word_of (arg_at call 0) ≤ 2 ^ 34 → AreSmall calls o → sched_table o call ≡ Some reply → AreSmall (calls + 1) (after sched_facts o call reply)
small_after calls o call (Refused code) low small is = record { counted = omega (arith, small.counted); given = omega (arith, small.given) }
small_after calls o call (Ok good) low small is =
    let bound = replays_at call.client call.seq call.desc call.args call.fun o good is in
    let set = set_to_argument call.fun call in
    let given = one_more (fun_at sched_facts.funs call.fun).creation o.given in
    record { counted = omega (arith, bound, set, low, small.counted); given = omega (arith, given, small.given) }

-- no function takes a parent
no_parent : (fun : ℕ) → takes_parent (fun_at sched_facts.funs fun) ≡ false
no_parent zero = refl
no_parent (suc zero) = refl
no_parent (suc (suc zero)) = refl
no_parent (suc (suc (suc zero))) = refl
no_parent (suc (suc (suc (suc zero)))) = refl
no_parent (suc (suc (suc (suc (suc zero))))) = refl
no_parent (suc (suc (suc (suc (suc (suc zero)))))) = refl
no_parent (suc (suc (suc (suc (suc (suc (suc zero))))))) = refl
no_parent (suc (suc (suc (suc (suc (suc (suc (suc zero)))))))) = refl
no_parent (suc (suc (suc (suc (suc (suc (suc (suc (suc n))))))))) = refl

-- a function on a thread is one of the service's
among : (fun : ℕ) → takes_desc (fun_at sched_facts.funs fun) ≡ true → (1 ≤ fun) × (fun ≤ 8)
among zero is = absurd (cc is)
among (suc zero) is = (omega arith, omega arith)
among (suc (suc zero)) is = (omega arith, omega arith)
among (suc (suc (suc zero))) is = (omega arith, omega arith)
among (suc (suc (suc (suc zero)))) is = (omega arith, omega arith)
among (suc (suc (suc (suc (suc zero))))) is = (omega arith, omega arith)
among (suc (suc (suc (suc (suc (suc zero)))))) is = (omega arith, omega arith)
among (suc (suc (suc (suc (suc (suc (suc zero))))))) is = (omega arith, omega arith)
among (suc (suc (suc (suc (suc (suc (suc (suc zero)))))))) is = (omega arith, omega arith)
among (suc (suc (suc (suc (suc (suc (suc (suc (suc n))))))))) is = absurd (cc is)

-- two tests, each
all : (a b : Bool) → (a && b) ≡ true → (a ≡ true) × (b ≡ true)
all true true is = (refl, refl)
all true false is = absurd (cc is)
all false b is = absurd (cc is)

module _ (calls : ℕ) (o : Object) (few : calls < 2 ^ 32) (small : AreSmall calls o) where
  -- the numbers are far from their ends
  within : (call : Call) → call.client ≡ 1 → IsWithin sched_facts o call
  within call client = record {
    client_first = omega (arith, client);
    client_last = omega (arith, client);
    counted = omega (arith, few, small.counted);
    given = omega (arith, few, small.given);
  }

  pub may_make : (prio : ℕ) → MayAsk sched_facts o (record { client = 1; seq = 1; fun = 1; desc = 0; args = Word prio ∷ [] })
  may_make prio = record {
    is_call = record { first = omega arith; last = omega arith; fits = record { args = refl; desc = λ no_desc no_parent. refl } };
    within = within (record { client = 1; seq = 1; fun = 1; desc = 0; args = Word prio ∷ [] }) refl;
    desc = λ is. absurd (cc is);
    parent = λ is. absurd (cc is);
    children = λ row is whole. absurd (cc is);
  }

  pub may_next : MayAsk sched_facts o (record { client = 1; seq = 1; fun = 6; desc = 0; args = [] })
  may_next = record {
    is_call = record { first = omega arith; last = omega arith; fits = record { args = refl; desc = λ no_desc no_parent. refl } };
    within = within (record { client = 1; seq = 1; fun = 6; desc = 0; args = [] }) refl;
    desc = λ is. absurd (cc is);
    parent = λ is. absurd (cc is);
    children = λ row is whole. absurd (cc is);
  }

  module _ (id : ℕ) (live : is_live o.rows id ≡ true) (childless : has_child o.rows id ≡ false) where
    pub may_place : (rank : ℕ) → MayAsk sched_facts o (record { client = 1; seq = 1; fun = 7; desc = id; args = Word rank ∷ [] })
    may_place rank = record {
      is_call = record { first = omega arith; last = omega arith; fits = record { args = refl; desc = λ no_desc. absurd (cc no_desc) } };
      within = within (record { client = 1; seq = 1; fun = 7; desc = id; args = Word rank ∷ [] }) refl;
      desc = λ is. live;
      parent = λ is. absurd (cc is);
      children = λ row is whole. childless;
    }

    pub may_call : (fun : ℕ) → is_on fun ≡ true → MayAsk sched_facts o (record { client = 1; seq = 1; fun = fun; desc = id; args = [] })
    may_call fun on =
        let fits = all (takes_desc (fun_at sched_facts.funs fun)) (kinds_fit (fun_at sched_facts.funs fun).kinds []) on in
        let one_of = among fun fits.0 in
        record {
          is_call = record { first = one_of.0; last = one_of.1; fits = record { args = fits.1; desc = λ no_desc. absurd (cc (sym fits.0 ∙ no_desc)) } };
          within = within (record { client = 1; seq = 1; fun = fun; desc = id; args = [] }) refl;
          desc = λ is. live;
          parent = λ is. absurd (cc (sym (no_parent fun) ∙ is));
          children = λ row is whole. childless;
        }

-- a row that is lent is live
pub live_where_lent : {E : Type 0} (rows : List Row) (id : ℕ) (row : E → Row) (found : Option E) → row_at rows id ≡ option_map row found → is_some found ≡ true → is_live rows id ≡ true
live_where_lent rows id row None is some = absurd (cc some)
live_where_lent rows id row (Some e) is some = live_of_row rows id (row e) is

-- a thread that is lent is there
pub lent : {E : Type 0} (found : Option (Bor E)) → is_some found ≡ true → is_some (option_copied found) ≡ true
lent None is = absurd (cc is)
lent (Some e) is = refl

-- The play without stops, turn after turn: its history grows, and once nobody can take a turn it stays as it is.
use Rattle.std.proofs.Common.{◌≡◌, ◌⊎◌, ℕ, zero, suc, ◌+◌, ◌-◌, ◌<◌, ◌≤◌, Bool, true, false, cond, List, [], ◌∷◌, ◌++◌, None, Some, refl, sym, ◌∙◌, ap, subst, inl, inr, arith, append-nil, append_assoc}
use Rattle.std.specs.declared.option.Option.{Option}
use Rattle.std.proofs.lemmas.Bool.{cases_lt}
use Rattle.sg_facts.specs.sg_base.declared.call.Call.{Call}
use Rattle.sg_facts.specs.sg_base.declared.reply.Code.{Code}
use Rattle.sg_facts.specs.sg_base.declared.reply.Reply.{Reply}
use Rattle.sg_facts.specs.sg_base.declared.reply.Reply.TheVariants.{Refused}
use Rattle.sg_facts.specs.declared.entry.Entry.{Entry}
use Rattle.sg_facts.specs.Facts.{is_visible}
use Rattle.sg_facts.specs.Guard.{guard}
use Rattle.sg_facts.specs.Interface.{Declared}
use Rattle.sg_facts.specs.Legal.{Table}
use Rattle.sg_facts.specs.Object.{object_of}
use Rattle.sg_plain.specs.Calls.{call_after}
use Rattle.sg_plain.specs.OneService.{one_service, workload_of}
use Rattle.sg_plain.specs.Plain.{PlainPhase, Stage, appended, at_phase, blocked, first_stage, holding, left_schedule, next_stage, next_turn, player_of, ready, replied, stage_from, through, turned}
use Rattle.sg_plain.specs.Inside.Turns.{IsPlainPlay, after_call, after_guard, after_turn, handed_over, served, stage_after}
use Rattle.sg_plain.specs.sg_script.declared.script.Script.{Script}

-- a list begins with another
pub record Begins (front whole : List Entry) : Type 0 where
  pub rest : List Entry
  pub is : whole ≡ front ++ rest

begins_same : (l : List Entry) → Begins l l
begins_same l = record { rest = []; is = sym (append-nil l) }

begins_on : (a b c : List Entry) → Begins a b → Begins b c → Begins a c
begins_on a b c x y = record { rest = x.rest ++ y.rest; is = y.is ∙ ap (λ l. l ++ y.rest) x.is ∙ append_assoc a x.rest y.rest }

module _ (i : Declared) (ask : Table) (script : Script) where
  -- one turn more at the end
  from_more : (s : Stage Entry) (n : ℕ) → stage_from (one_service i ask script) (workload_of script) s (suc n) ≡ next_stage (one_service i ask script) (workload_of script) (stage_from (one_service i ask script) (workload_of script) s n)
  from_more s zero = refl
  from_more s (suc n) = from_more (next_stage (one_service i ask script) (workload_of script) s) n

  pub after_more : (n : ℕ) (s : Stage Entry) → s ≡ stage_after i ask script n → next_stage (one_service i ask script) (workload_of script) s ≡ stage_after i ask script (suc n)
  after_more n s is = ap (next_stage (one_service i ask script) (workload_of script)) is ∙ sym (from_more (first_stage (workload_of script)) n)

  -- ---- the history grows

  own : (s : Stage Entry) (call : Call) (reply : Reply) → Begins s.history (s.history ++ record { call = call; reply = reply } ∷ [])
  own s call reply = record { rest = record { call = call; reply = reply } ∷ []; is = refl }

  grows_guarded : (c : ℕ) (s : Stage Entry) (call : Call) (code : Option Code) → Begins s.history (after_guard (one_service i ask script) (workload_of script) c s call code).history
  grows_guarded c s call (Some code) = own s call (Refused code)
  grows_guarded c s call None = by (ask (object_of i.facts s.history) call)
    where
      by : (reply : Option Reply) → Begins s.history (served (one_service i ask script) c s call reply).history
      by None = begins_same s.history
      by (Some reply) = at (is_visible i.facts call.fun)
        where
          at : (b : Bool) → Begins s.history (cond b (at_phase c replied (appended (one_service i ask script) s call reply)) (at_phase c (holding reply) s)).history
          at true = own s call reply
          at false = begins_same s.history

  grows_called : (c : ℕ) (s : Stage Entry) (call : Option Call) → Begins s.history (after_call (one_service i ask script) (workload_of script) c s call).history
  grows_called c s None = begins_same s.history
  grows_called c s (Some call) = grows_guarded c s call (guard i (object_of i.facts s.history) call)

  grows_handed : (c : ℕ) (s : Stage Entry) (reply : Reply) (call : Option Call) → Begins s.history (handed_over (one_service i ask script) (workload_of script) c s reply call).history
  grows_handed c s reply None = begins_same s.history
  grows_handed c s reply (Some call) = own s call reply

  grows_turned : (c : ℕ) (s : Stage Entry) (p : PlainPhase) → Begins s.history (turned (one_service i ask script) (workload_of script) c s p).history
  grows_turned c s ready = grows_called c s (call_after i.facts script s.history c (player_of s c).done)
  grows_turned c s replied = begins_same s.history
  grows_turned c s (holding reply) = grows_handed c s reply (call_after i.facts script s.history c (player_of s c).done)
  grows_turned c s blocked = begins_same s.history
  grows_turned c s through = begins_same s.history

  grows_next : (s : Stage Entry) → Begins s.history (next_stage (one_service i ask script) (workload_of script) s).history
  grows_next s = by (next_turn (workload_of script) s)
    where
      by : (turn : Option ℕ) → Begins s.history (after_turn (one_service i ask script) (workload_of script) s turn).history
      by None = begins_same s.history
      by (Some c) = grows_turned c (record s { schedule = left_schedule (workload_of script) s; last = c }) (player_of s c).phase

  grows_from : (s : Stage Entry) (n : ℕ) → Begins s.history (stage_from (one_service i ask script) (workload_of script) s n).history
  grows_from s zero = begins_same s.history
  grows_from s (suc n) = begins_on s.history (next_stage (one_service i ask script) (workload_of script) s).history (stage_from (one_service i ask script) (workload_of script) (next_stage (one_service i ask script) (workload_of script) s) n).history (grows_next s) (grows_from (next_stage (one_service i ask script) (workload_of script) s) n)

  -- ---- nobody can take a turn

  stays : (s : Stage Entry) (n : ℕ) → next_turn (workload_of script) s ≡ None → stage_from (one_service i ask script) (workload_of script) s n ≡ s
  stays s zero over = refl
  stays s (suc n) over = let same : next_stage (one_service i ask script) (workload_of script) s ≡ s = ap (after_turn (one_service i ask script) (workload_of script) s) over in ap (λ t. stage_from (one_service i ask script) (workload_of script) t n) same ∙ stays s n over

  split : (s : Stage Entry) (m n : ℕ) → stage_from (one_service i ask script) (workload_of script) s (m + n) ≡ stage_from (one_service i ask script) (workload_of script) (stage_from (one_service i ask script) (workload_of script) s m) n
  split s zero n = ap (stage_from (one_service i ask script) (workload_of script) s) (let same : 0 + n ≡ n = omega arith in same)
  split s (suc m) n = ap (stage_from (one_service i ask script) (workload_of script) s) (let same : suc m + n ≡ suc (m + n) = omega arith in same) ∙ split (next_stage (one_service i ask script) (workload_of script) s) m n

  later_than : (m n : ℕ) → m ≤ n → stage_after i ask script n ≡ stage_from (one_service i ask script) (workload_of script) (stage_after i ask script m) (n - m)
  later_than m n least = ap (stage_after i ask script) (let same : n ≡ m + (n - m) = omega (arith, least) in same) ∙ split (first_stage (workload_of script)) m (n - m)

  ends_at : (m n : ℕ) → m ≤ n → next_turn (workload_of script) (stage_after i ask script m) ≡ None → stage_after i ask script n ≡ stage_after i ask script m
  ends_at m n least over = later_than m n least ∙ stays (stage_after i ask script m) (n - m) over

  -- each stage's history is a front of that of a play
  pub front_of_play : (n : ℕ) (plain : List Entry) → IsPlainPlay i ask script plain → Begins (stage_after i ask script n).history plain
  front_of_play n plain play = by (cases_lt n play.turns)
    where
      short : n ≤ play.turns → Begins (stage_after i ask script n).history plain
      short least = subst (Begins (stage_after i ask script n).history) (sym (ap (λ s. s.history) (later_than n play.turns least)) ∙ sym play.is) (grows_from (stage_after i ask script n) (play.turns - n))

      by : (n < play.turns) ⊎ (play.turns ≤ n) → Begins (stage_after i ask script n).history plain
      by (inl least) = short (omega (arith, least))
      by (inr most) = subst (Begins (stage_after i ask script n).history) (ap (λ s. s.history) (ends_at play.turns n most play.over) ∙ sym play.is) (begins_same (stage_after i ask script n).history)

  -- and all of it where nobody can take a turn
  pub whole_play : (n : ℕ) (plain : List Entry) → next_turn (workload_of script) (stage_after i ask script n) ≡ None → IsPlainPlay i ask script plain → plain ≡ (stage_after i ask script n).history
  whole_play n plain over play = play.is ∙ by (cases_lt n play.turns)
    where
      by : (n < play.turns) ⊎ (play.turns ≤ n) → (stage_after i ask script play.turns).history ≡ (stage_after i ask script n).history
      by (inl least) = ap (λ s. s.history) (ends_at n play.turns (omega (arith, least)) over)
      by (inr most) = ap (λ s. s.history) (sym (ends_at play.turns n most play.over))

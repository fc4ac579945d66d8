-- One player's change, and what is left then.
use Rattle.std.proofs.Common.{◌≡◌, ℕ, zero, suc, ◌+◌, ◌-◌, ◌*◌, ◌<◌, ◌≤◌, Bool, true, false, List, [], ◌∷◌, Some, length, refl, sym, ◌∙◌, ap, subst, arith, slice_set}
use Rattle.std.specs.Prelude.{slice_get}
use Rattle.sg_facts.specs.sg_base.declared.call.Call.{Call}
use Rattle.sg_facts.specs.sg_base.declared.reply.Reply.{Reply}
use Rattle.sg_facts.specs.Facts.{Facts}
use Rattle.sg_facts.specs.declared.entry.Entry.{Entry}
use Rattle.sg_facts.specs.declared.row.Row.{Row}
use Rattle.sg_plain.specs.Calls.{call_after, script_calls}
use Rattle.sg_plain.specs.Plain.{PlainPhase, Player, after_wakes, blocked, holding, ready, replied, through, woken_phase}
use Rattle.sg_plain.specs.Inside.Turns.{is_woken_by, waits_on}
use Rattle.sg_clients.specs.sg_hist.Wakes.{wakes}
use Rattle.sg_plain.specs.Ending.Left.{FitScript, FitsCalls, all_before, all_to_come, entries_to_come, turns_before}
use Rattle.sg_script.specs.declared.script.Script.{Script}
use Rattle.sg_script.specs.declared.script.ScriptCall.{ScriptCall}

-- ---- one changes

pub length_set : (players : List Player) (k : ℕ) (q : Player) → length (slice_set players k q) ≡ length players
length_set [] k q = refl
length_set (p ∷ players) zero q = refl
length_set (p ∷ players) (suc k) q = ap suc (length_set players k q)

pub to_come_set : (script : Script) (n : ℕ) (players : List Player) (k : ℕ) (p q : Player) → slice_get players k ≡ Some p
    → all_to_come script n (slice_set players k q) + entries_to_come (length (script_calls script (n + k)) - p.done) p.phase
    ≡ all_to_come script n players + entries_to_come (length (script_calls script (n + k)) - q.done) q.phase
to_come_set script n [] k p q there = absurd (cc there)
to_come_set script n (x ∷ players) zero p q there =
    let same : x ≡ p = cc there in
    let here : n ≡ n + 0 = omega arith in
    let was = ap (λ y. entries_to_come (length (script_calls script (n + 0)) - y.done) y.phase) (sym same) in
    omega (arith, was, ap (λ m. entries_to_come (length (script_calls script m) - x.done) x.phase) here, ap (λ m. entries_to_come (length (script_calls script m) - q.done) q.phase) here)
to_come_set script n (x ∷ players) (suc k) p q there =
    let next : n + 1 + k ≡ n + suc k = omega arith in
    let rest = to_come_set script (n + 1) players k p q there in
    omega (arith, rest, ap (λ m. entries_to_come (length (script_calls script m) - p.done) p.phase) next, ap (λ m. entries_to_come (length (script_calls script m) - q.done) q.phase) next)

pub before_set : (players : List Player) (k : ℕ) (p q : Player) → slice_get players k ≡ Some p → all_before (slice_set players k q) + turns_before p.phase ≡ all_before players + turns_before q.phase
before_set [] k p q there = absurd (cc there)
before_set (x ∷ players) zero p q there = let same : x ≡ p = cc there in omega (arith, ap (λ y. turns_before y.phase) same)
before_set (x ∷ players) (suc k) p q there = omega (arith, before_set players k p q there)

pub fit_set : (facts : Facts) (script : Script) (n : ℕ) (players : List Player) (k : ℕ) (q : Player) → FitScript facts script n players → FitsCalls facts (script_calls script (n + k)) q.done q.phase
    → FitScript facts script n (slice_set players k q)
fit_set facts script n [] k q all new = tt
fit_set facts script n (x ∷ players) zero q all new = (subst (λ m. FitsCalls facts (script_calls script m) q.done q.phase) (omega arith) new, all.1)
fit_set facts script n (x ∷ players) (suc k) q all new = (all.0, fit_set facts script (n + 1) players k q all.1 (subst (λ m. FitsCalls facts (script_calls script m) q.done q.phase) (omega arith) new))

pub fit_at : (facts : Facts) (script : Script) (n : ℕ) (players : List Player) (k : ℕ) (p : Player) → slice_get players k ≡ Some p → FitScript facts script n players → FitsCalls facts (script_calls script (n + k)) p.done p.phase
fit_at facts script n [] k p there all = absurd (cc there)
fit_at facts script n (x ∷ players) zero p there all =
    let same : x ≡ p = cc there in
    subst (λ y. FitsCalls facts (script_calls script (n + 0)) y.done y.phase) same (subst (λ m. FitsCalls facts (script_calls script m) x.done x.phase) (omega arith) all.0)
fit_at facts script n (x ∷ players) (suc k) p there all = subst (λ m. FitsCalls facts (script_calls script m) p.done p.phase) (omega arith) (fit_at facts script (n + 1) players k p there all.1)

-- ---- some are woken

-- what stays of a phase that is woken
record StaysSo (facts : Facts) (calls : List ScriptCall) (done : ℕ) (was now : PlainPhase) : Type 0 where
  fits : FitsCalls facts calls done was → FitsCalls facts calls done now
  to_come : (left : ℕ) → entries_to_come left now ≡ entries_to_come left was
  before : turns_before now ≤ 3

there_below : (calls : List ScriptCall) (k : ℕ) (c : ScriptCall) → slice_get calls k ≡ Some c → k < length calls
there_below [] k c there = absurd (cc there)
there_below (d ∷ calls) zero c there = omega arith
there_below (d ∷ calls) (suc k) c there = omega (arith, there_below calls k c there)

woken_stays : (facts : Facts) (calls : List ScriptCall) (done : ℕ) (woke : Bool) (p : PlainPhase) → StaysSo facts calls done p (woken_phase woke p)
woken_stays facts calls done true blocked = record { fits = λ waits. there_below calls done waits.call waits.there; to_come = λ left. refl; before = omega arith }
woken_stays facts calls done false blocked = record { fits = λ waits. waits; to_come = λ left. refl; before = omega arith }
woken_stays facts calls done woke ready = record { fits = λ is. is; to_come = λ left. refl; before = omega arith }
woken_stays facts calls done woke replied = record { fits = λ is. is; to_come = λ left. refl; before = omega arith }
woken_stays facts calls done woke (holding reply) = record { fits = λ is. is; to_come = λ left. refl; before = omega arith }
woken_stays facts calls done woke through = record { fits = λ is. is; to_come = λ left. refl; before = omega arith }

module _ (facts : Facts) (script : Script) (history : List Entry) (rows : List Row) (call : Call) (reply : Reply) where
  abbrev pub woken_from : ℕ → List Player → List Player
  woken_from n players = after_wakes (is_woken_by facts script history rows call reply) n players

  abbrev woke : ℕ → Player → Bool
  woke n p = wakes facts rows call reply (waits_on (call_after facts script history n p.done))

  pub length_woken : (n : ℕ) (players : List Player) → length (woken_from n players) ≡ length players
  length_woken n [] = refl
  length_woken n (p ∷ players) = ap suc (length_woken (n + 1) players)

  pub to_come_woken : (n : ℕ) (players : List Player) → all_to_come script n (woken_from n players) ≡ all_to_come script n players
  to_come_woken n [] = refl
  to_come_woken n (p ∷ players) =
      omega (arith, to_come_woken (n + 1) players, (woken_stays facts (script_calls script n) p.done (woke n p) p.phase).to_come (length (script_calls script n) - p.done))

  pub before_woken : (n : ℕ) (players : List Player) → all_before (woken_from n players) ≤ 3 * length players
  before_woken n [] = omega arith
  before_woken n (p ∷ players) = omega (arith, before_woken (n + 1) players, (woken_stays facts (script_calls script n) p.done (woke n p) p.phase).before)

  pub fit_woken : (n : ℕ) (players : List Player) → FitScript facts script n players → FitScript facts script n (woken_from n players)
  fit_woken n [] all = tt
  fit_woken n (p ∷ players) all = ((woken_stays facts (script_calls script n) p.done (woke n p) p.phase).fits all.0, fit_woken (n + 1) players all.1)

  -- who doesn't wait isn't woken
  pub woken_at : (n : ℕ) (players : List Player) (k : ℕ) (p : Player) → slice_get players k ≡ Some p → ((b : Bool) → woken_phase b p.phase ≡ p.phase) → slice_get (woken_from n players) k ≡ Some p
  woken_at n [] k p there stays = absurd (cc there)
  woken_at n (x ∷ players) zero p there stays =
      let same : x ≡ p = cc there in
      ap (λ f. Some (record x { phase = f })) (ap (λ y. woken_phase (woke n x) y.phase) same ∙ stays (woke n x) ∙ ap (λ y. y.phase) (sym same)) ∙ ap (λ y. Some y) same
  woken_at n (x ∷ players) (suc k) p there stays = woken_at (n + 1) players k p there stays

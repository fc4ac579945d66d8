-- What the log of a named world tells, in the words of its world.
use Rattle.std.proofs.Common.{◌≡◌, ◌⊎◌, ℕ, ◌≤◌, Bool, true, false, ◌&&◌, List, [], ◌∷◌, ◌++◌, map, length, Option, None, Some, Result, Ok, Err, refl, sym, ap, ◌∙◌, subst, inl, inr, true≢false}
use Rattle.std.specs.List.{list_all}
use Rattle.std.specs.Result.{IfOk}
use Rattle.sg_turn.specs.sg_facts.sg_base.declared.call.Call.{Call}
use Rattle.sg_turn.specs.Told.{Standing, AllRest, asking, entries_by, entries_in, idle, mark_by, standing_in}
use Rattle.sg_turn.specs.declared.log.LogMarkKind.TheVariants.{Withdraw}
use Rattle.sg_world.specs.Marked.{TellsAll, IsPhaseAfter, last_kind}
use Rattle.sg_world.specs.sg_recovery_laws.sg_hist.Clients.{calls_of}
use Rattle.sg_world.specs.sg_clients.WorldView.{Seat, WorldView, seat_of, is_offered, is_at_rest, is_resting, MayWithdraw, happened, withdrawn_by}
use Rattle.sg_world.specs.sg_clients.declared.mark.MarkKind.{MarkKind}
use Rattle.sg_world.specs.sg_clients.declared.mark.MarkKind.TheVariants.{Offer, Entry as Entered, Answer, Withdraw as Withdrew, Leave}
use Rattle.sg_world.specs.sg_clients.declared.phase.Phase.{Phase}
use Rattle.sg_world.specs.sg_clients.declared.phase.Phase.TheVariants.{Idle, Asked, Held, Receipted, Blocked, Left}
use Rattle.sg_log.specs.Log.{call_in, log_of, phase_number}
use Rattle.sg_log.specs.Names.{IsSeatOf, TellsWorld, phases_of}
use Rattle.sg_log.proofs.Offering.{withdraw_log, entries_told, own_told, own_gone_told, withdrawals_told}
use Rattle.sg_log.proofs.Standing.{Says, says}
use Rattle.sg_log.proofs.Stepping.{phase_told, seat_call, stands_under}

-- ---- what the log tells

pub history_told : (w : WorldView) → TellsAll w → entries_in (log_of w) ≡ w.history
history_told w t = entries_told (call_in w.seats) w.marks w.history w.withdrawn t.entries t.withdrawals

pub own_count : (w : WorldView) (c : ℕ) → TellsAll w → length (entries_by c (log_of w)) ≡ length (calls_of w.history c)
own_count w c t = ap (λ l. length l) (own_told (call_in w.seats) c w.marks w.history w.withdrawn t.entries t.withdrawals)

-- a client's seat is as the client stands
seat_told : (w : WorldView) (c : ℕ) → 1 ≤ c → c ≤ length w.seats → TellsAll w → IsSeatOf (standing_in c (log_of w)) (seat_of w c)
seat_told w c first last t = go (last_kind w.marks c) (phase_told w c first last t) (standing_in c (log_of w)) (says (call_in w.seats) c w.marks w.history w.withdrawn idle t.entries t.withdrawals)
  where
    go : (l : Option MarkKind) → IsPhaseAfter l (seat_of w c).phase → (st : Standing) → Says (call_in w.seats) c w.history idle l st → IsSeatOf st (seat_of w c)
    go None a st x = subst (λ y. IsSeatOf y (seat_of w c)) (sym x) a
    go (Some Offer) a st x = subst (λ y. IsSeatOf y (seat_of w c)) (sym x) (a, seat_call w c first)
    go (Some Entered) a st x = subst (λ y. IsSeatOf y (seat_of w c)) (sym x.2) a
    go (Some Answer) a st x = subst (λ y. IsSeatOf y (seat_of w c)) (sym x) a
    go (Some Withdrew) a st x = subst (λ y. IsSeatOf y (seat_of w c)) (sym x) a
    go (Some Leave) a st x = subst (λ y. IsSeatOf y (seat_of w c)) (sym x) a

pub tells_world : (w : WorldView) → TellsAll w → TellsWorld w
tells_world w t = record {
  entries = history_told w t;
  own = λ c. own_told (call_in w.seats) c w.marks w.history w.withdrawn t.entries t.withdrawals;
  withdrawals = withdrawals_told (call_in w.seats) w.marks w.history w.withdrawn t.entries t.withdrawals;
  own_withdrawals = λ c. own_gone_told (call_in w.seats) c w.marks w.history w.withdrawn t.entries t.withdrawals;
  stands = λ c is. seat_told w c is.0 is.1 t;
}

-- ---- a withdrawal

pub withdrawn_offers : (p : Phase) → MayWithdraw p → is_offered p ≡ true
withdrawn_offers Asked m = refl
withdrawn_offers Blocked m = refl
withdrawn_offers Idle m = absurd m
withdrawn_offers Left m = absurd m
withdrawn_offers Held m = absurd m
withdrawn_offers Receipted m = absurd m

pub withdraws : (w : WorldView) (c : ℕ) → 1 ≤ c → c ≤ length w.seats → TellsAll w → MayWithdraw (seat_of w c).phase → (call : Call) → standing_in c (log_of w) ≡ asking call
    → log_of (happened (withdrawn_by w c)) ≡ log_of w ++ mark_by c (Withdraw call (phases_of w) (length (entries_in (log_of w)))) ∷ []
withdraws w c first last t may call stood =
    let e : asking (seat_of w c).call ≡ asking call = sym (stands_under w c first last t (withdrawn_offers (seat_of w c).phase may)) ∙ stood in
    let same : (seat_of w c).call ≡ call = cc in
    withdraw_log w c first t ∙ (λ i. log_of w ++ mark_by c (Withdraw (same i) (phases_of w) (length (sym (history_told w t) i))) ∷ [])

-- ---- all wait or have left

rest_one : (p : Phase) → is_resting p ≡ true → (phase_number p ≡ 4) ⊎ (phase_number p ≡ 5)
rest_one Blocked e = inl refl
rest_one Left e = inr refl
rest_one Idle e = absurd (true≢false (sym e))
rest_one Asked e = absurd (true≢false (sym e))
rest_one Held e = absurd (true≢false (sym e))
rest_one Receipted e = absurd (true≢false (sym e))

both_hold : (a b : Bool) → (a && b) ≡ true → (a ≡ true) × (b ≡ true)
both_hold true b e = (refl, e)
both_hold false b e = absurd (true≢false (sym e))

pub all_rest : (seats : List Seat) → list_all is_at_rest seats ≡ true → AllRest (map phase_number (map (λ (s : Seat). s.phase) seats))
all_rest [] e = tt
all_rest (s ∷ seats) e = let t = both_hold (is_resting s.phase) (list_all is_at_rest seats) e in (rest_one s.phase t.0, all_rest seats t.1)

-- ---- results

pub if_ok : {A E : Type 0} {P Q : A → Type 0} (r : Result A E) → ((a : A) → P a → Q a) → IfOk r P → IfOk r Q
if_ok (Ok a) so is = so a is
if_ok (Err e) so is = tt

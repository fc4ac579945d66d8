-- What an offer, a withdrawal, a leave and a step without memory add to the log, and what the log tells of the history.
use Rattle.std.proofs.Common.{◌≡◌, ◌≢◌, ℕ, zero, suc, ◌-◌, ◌≤◌, Bool, true, false, cond, eqb, List, [], ◌∷◌, ◌++◌, map, get_or, slice_set, length, Option, None, Some, refl, sym, ap, ◌∙◌, subst, inl, inr, true≢false, append-nil, arith}
use Rattle.sg_turn.specs.sg_facts.sg_base.declared.call.Call.{Call}
use Rattle.sg_turn.specs.sg_facts.declared.entry.Entry.{Entry}
use Rattle.sg_world.specs.sg_recovery_laws.sg_hist.Clients.{calls_of}
use Rattle.sg_world.specs.sg_clients.WorldView.{Seat, WorldView, seat_of, IsFree, is_offered, is_left_phase, happened, in_phase, offered, withdrawn_by, with_leave, with_mark}
use Rattle.sg_world.specs.sg_clients.declared.mark.Mark.{Mark}
use Rattle.sg_world.specs.sg_clients.declared.mark.MarkKind.{MarkKind}
use Rattle.sg_world.specs.sg_clients.declared.mark.MarkKind.TheVariants.{Offer, Entry as Entered, Answer, Withdraw, Leave}
use Rattle.sg_world.specs.sg_clients.declared.phase.Phase.{Phase}
use Rattle.sg_world.specs.sg_clients.declared.phase.Phase.TheVariants.{Idle, Asked, Held, Receipted, Blocked, Left}
use Rattle.sg_world.specs.sg_clients.declared.withdrawn.Withdrawn.{Withdrawn}
use Rattle.sg_world.specs.Marked.{TellsAll, IsPhaseAfter, last_kind, marked_as, is_entry_mark, is_withdrawal_mark}
use Rattle.sg_world.specs.Steps.{LackedMemory}
use Rattle.sg_world.specs.sg_world_laws.Setting.{Setting}
use Rattle.sg_turn.specs.declared.log.LogMark.{LogMark}
use Rattle.sg_turn.specs.declared.log.LogMarkKind.TheVariants.{Offer as TOffer, Withdraw as TWithdraw}
use Rattle.sg_turn.specs.Logs.{marks_of}
use Rattle.sg_turn.specs.Hosts.{AddsLeave}
use Rattle.sg_turn.specs.Told.{idle, HasNoCall, entry_of, entries_in, withdrawals_in, mark_by, standing_in, GivenUp, withdrawal_of}
use Rattle.sg_log.specs.Log.{call_in, entries_after, given_up, log_from, log_of, phase_number, withdrawn_after}
use Rattle.sg_log.specs.Names.{withdrawn_of}
use Rattle.sg_log.proofs.Growing.{Starts, aligned, step_aligned, clients_of, clients_gone}
use Rattle.sg_log.proofs.Events.{set_call, marked, offers}
use Rattle.sg_log.proofs.Standing.{Says, says}
use Rattle.sg_log.proofs.Stepping.{phase_told, free_offers_not, seat_call}

-- ---- events

not_offered : (l : Option MarkKind) (p : Phase) → IsPhaseAfter l p → IsFree p → l ≢ Some Offer
not_offered l p a f e = free_offers_not p f (subst (λ k. IsPhaseAfter k p) e a)

pub offer_log : (w : WorldView) (c : ℕ) (call : Call) → 1 ≤ c → c ≤ length w.seats → TellsAll w → IsFree (seat_of w c).phase
    → log_of (happened (offered w c call)) ≡ log_of w ++ mark_by c (TOffer call) ∷ []
offer_log w zero call first last t f = absurd (omega arith)
offer_log w (suc k) call first last t f =
    let a = aligned w.marks w.history w.withdrawn t.entries t.withdrawals in
    let e : suc k - 1 ≡ k = omega arith in
    let s : Seat = record (seat_of w (suc k)) { phase = Asked; call = call } in
    let l = not_offered (last_kind w.marks (suc k)) (seat_of w (suc k)).phase (phase_told w (suc k) first last t) f in
    ap (λ j. log_from (call_in (slice_set w.seats j s)) (w.marks ++ record { client = suc k; kind = Offer } ∷ []) w.history w.withdrawn) e
    ∙ offers w.seats k s w.marks w.history w.withdrawn a (omega arith) l

pub withdraw_log : (w : WorldView) (c : ℕ) → 1 ≤ c → TellsAll w
    → log_of (happened (withdrawn_by w c)) ≡ log_of w ++ mark_by c (TWithdraw (seat_of w c).call (map phase_number (map (λ (s : Seat). s.phase) w.seats)) (length w.history)) ∷ []
withdraw_log w c first t =
    let a = aligned w.marks w.history w.withdrawn t.entries t.withdrawals in
    let v = withdrawn_by w c in
    ap (λ h. log_from (call_in v.seats) v.marks h v.withdrawn) (sym (append-nil w.history))
    ∙ marked w.seats v.seats w.marks w.history [] w.withdrawn (record { call = (seat_of w c).call; phases = map (λ (s : Seat). s.phase) w.seats; at = length w.history } ∷ []) (record { client = c; kind = Withdraw }) a
    (set_call w.seats (c - 1) _ refl) (λ _. seat_call w c first)

left_last : (l : Option MarkKind) (p : Phase) → IsPhaseAfter l p → p ≡ Left → l ≡ Some Leave
left_last None p a e = absurd (cc)
left_last (Some Offer) p a e = absurd (true≢false (sym a ∙ ap is_offered e))
left_last (Some Entered) p a e = absurd (cc)
left_last (Some Answer) p a e = absurd (cc)
left_last (Some Withdraw) p a e = absurd (cc)
left_last (Some Leave) p a e = refl

is_left : (p : Phase) → is_left_phase p ≡ true → p ≡ Left
is_left Left e = refl
is_left Idle e = absurd (true≢false (sym e))
is_left Asked e = absurd (true≢false (sym e))
is_left Held e = absurd (true≢false (sym e))
is_left Receipted e = absurd (true≢false (sym e))
is_left Blocked e = absurd (true≢false (sym e))

pub leave_log : (w : WorldView) (c : ℕ) → 1 ≤ c → c ≤ length w.seats → TellsAll w → IsFree (seat_of w c).phase → AddsLeave c (log_of w) (log_of (happened (with_leave w c)))
leave_log w c first last t f = go (is_left_phase (seat_of w c).phase) refl
  where
    gone : WorldView
    gone = with_mark (in_phase w c Left) c Leave

    go : (b : Bool) → is_left_phase (seat_of w c).phase ≡ b → AddsLeave c (log_of w) (log_of (happened (cond b w (with_mark (in_phase w c Left) c Leave))))
    go true e =
        let l = left_last (last_kind w.marks c) (seat_of w c).phase (phase_told w c first last t) (is_left (seat_of w c).phase e) in
        inr (subst (λ k. Says (call_in w.seats) c w.history idle k (standing_in c (log_of w))) l (says (call_in w.seats) c w.marks w.history w.withdrawn idle t.entries t.withdrawals), refl)
    go false e =
        let a = aligned w.marks w.history w.withdrawn t.entries t.withdrawals in
        let v = with_mark (in_phase w c Left) c Leave in
        let l = not_offered (last_kind w.marks c) (seat_of w c).phase (phase_told w c first last t) f in
        inl ((λ i. log_from (call_in v.seats) v.marks (sym (append-nil w.history) i) (sym (append-nil w.withdrawn) i))
        ∙ marked w.seats v.seats w.marks w.history [] w.withdrawn [] (record { client = c; kind = Leave }) a (set_call w.seats (c - 1) _ refl) (λ p. absurd (l p)))

pub wants_log : (z : Setting) (w : WorldView) (c : ℕ) (now : WorldView) → LackedMemory z w c now → log_of now ≡ log_of w
wants_log z w c now s = ap log_of s.counted

-- ---- what the log tells

pub free_stand : (w : WorldView) (c : ℕ) → 1 ≤ c → c ≤ length w.seats → TellsAll w → HasNoCall (standing_in c (log_of w)) → IsFree (seat_of w c).phase
free_stand w c first last t f = go (last_kind w.marks c) (phase_told w c first last t) (says (call_in w.seats) c w.marks w.history w.withdrawn idle t.entries t.withdrawals)
  where
    go : (l : Option MarkKind) → IsPhaseAfter l (seat_of w c).phase → Says (call_in w.seats) c w.history idle l (standing_in c (log_of w)) → IsFree (seat_of w c).phase
    go None a x = subst IsFree (sym a) tt
    go (Some Offer) a x = absurd (subst HasNoCall x f)
    go (Some Entered) a x = absurd (subst HasNoCall x.2 f)
    go (Some Answer) a x = subst IsFree (sym a) tt
    go (Some Withdraw) a x = subst IsFree (sym a) tt
    go (Some Leave) a x = subst IsFree (sym a) tt

entries_at : (calls : ℕ → Call) (k : MarkKind) (d : ℕ) (ms : List Mark) (h : List Entry) (x : List Withdrawn) → Starts k h x
    → entries_in (log_from calls ms (entries_after k h) (withdrawn_after k x)) ≡ entries_after k h → entries_in (log_from calls (record { client = d; kind = k } ∷ ms) h x) ≡ h
entries_at calls Entered d ms [] x s ih = absurd (let e = s.2 in (cc))
entries_at calls Entered d ms (e ∷ h) x s ih = ap (λ l. e ∷ l) ih
entries_at calls Offer d ms h x s ih = ih
entries_at calls Answer d ms h x s ih = ih
entries_at calls Withdraw d ms h x s ih = ih
entries_at calls Leave d ms h x s ih = ih

-- the entries of the log are the history
pub entries_told : (calls : ℕ → Call) (ms : List Mark) (h : List Entry) (x : List Withdrawn) → marked_as is_entry_mark ms ≡ clients_of h → marked_as is_withdrawal_mark ms ≡ clients_gone x
    → entries_in (log_from calls ms h x) ≡ h
entries_told calls [] h x e w = sym (aligned [] h x e w).0
entries_told calls (n ∷ ms) h x e w =
    let t = step_aligned n.kind n.client ms h x e w in
    entries_at calls n.kind n.client ms h x t.0 (entries_told calls ms (entries_after n.kind h) (withdrawn_after n.kind x) t.1 t.2)

own_entered : (b : Bool) (t : LogMark) (m : List LogMark) (e : Entry) (f : List Entry) → entry_of t.kind ≡ e ∷ [] → entries_in m ≡ f → entries_in (cond b (t ∷ m) m) ≡ cond b (e ∷ f) f
own_entered true t m e f i ih = ap (λ l. l ++ entries_in m) i ∙ ap (λ l. e ∷ l) ih
own_entered false t m e f i ih = ih

own_quiet : (b : Bool) (t : LogMark) (m : List LogMark) (f : List Entry) → entry_of t.kind ≡ [] → entries_in m ≡ f → entries_in (cond b (t ∷ m) m) ≡ f
own_quiet true t m f i ih = ap (λ l. l ++ entries_in m) i ∙ ih
own_quiet false t m f i ih = ih

own_at : (calls : ℕ → Call) (c : ℕ) (k : MarkKind) (d : ℕ) (ms : List Mark) (h : List Entry) (x : List Withdrawn) → marked_as is_entry_mark (record { client = d; kind = k } ∷ ms) ≡ clients_of h
    → entries_in (marks_of c (log_from calls ms (entries_after k h) (withdrawn_after k x))) ≡ calls_of (entries_after k h) c
    → entries_in (marks_of c (log_from calls (record { client = d; kind = k } ∷ ms) h x)) ≡ calls_of h c
own_at calls c Entered d ms [] x e ih = absurd (cc)
own_at calls c Entered d ms (f ∷ h) x e ih =
    own_entered (eqb d c) _ _ f (calls_of h c) refl ih ∙ ap (λ n. cond (eqb n c) (f ∷ calls_of h c) (calls_of h c)) (ap (λ l. get_or l 0 0) e)
own_at calls c Offer d ms h x e ih = own_quiet (eqb d c) _ _ (calls_of h c) refl ih
own_at calls c Answer d ms h x e ih = own_quiet (eqb d c) _ _ (calls_of h c) refl ih
own_at calls c Withdraw d ms h x e ih = own_quiet (eqb d c) _ _ (calls_of h c) refl ih
own_at calls c Leave d ms h x e ih = own_quiet (eqb d c) _ _ (calls_of h c) refl ih

-- and those of a client's marks are the client's entries
pub own_told : (calls : ℕ → Call) (c : ℕ) (ms : List Mark) (h : List Entry) (x : List Withdrawn) → marked_as is_entry_mark ms ≡ clients_of h → marked_as is_withdrawal_mark ms ≡ clients_gone x
    → entries_in (marks_of c (log_from calls ms h x)) ≡ calls_of h c
own_told calls c [] h x e w = sym (ap (λ l. calls_of l c) (aligned [] h x e w).0)
own_told calls c (n ∷ ms) h x e w =
    let t = step_aligned n.kind n.client ms h x e w in
    own_at calls c n.kind n.client ms h x e (own_told calls c ms (entries_after n.kind h) (withdrawn_after n.kind x) t.1 t.2)

withdrawals_at : (calls : ℕ → Call) (k : MarkKind) (d : ℕ) (ms : List Mark) (h : List Entry) (x : List Withdrawn) → Starts k h x
    → withdrawals_in (log_from calls ms (entries_after k h) (withdrawn_after k x)) ≡ map given_up (withdrawn_after k x)
    → withdrawals_in (log_from calls (record { client = d; kind = k } ∷ ms) h x) ≡ map given_up x
withdrawals_at calls Withdraw d ms h [] s ih = absurd (let e = s.2 in (cc))
withdrawals_at calls Withdraw d ms h (y ∷ x) s ih = ap (λ l. given_up y ∷ l) ih
withdrawals_at calls Entered d ms h x s ih = ih
withdrawals_at calls Offer d ms h x s ih = ih
withdrawals_at calls Answer d ms h x s ih = ih
withdrawals_at calls Leave d ms h x s ih = ih

-- the withdrawn calls of the log are those of the world
pub withdrawals_told : (calls : ℕ → Call) (ms : List Mark) (h : List Entry) (x : List Withdrawn) → marked_as is_entry_mark ms ≡ clients_of h → marked_as is_withdrawal_mark ms ≡ clients_gone x
    → withdrawals_in (log_from calls ms h x) ≡ map given_up x
withdrawals_told calls [] h x e w = sym (ap (map given_up) (aligned [] h x e w).1)
withdrawals_told calls (n ∷ ms) h x e w =
    let t = step_aligned n.kind n.client ms h x e w in
    withdrawals_at calls n.kind n.client ms h x t.0 (withdrawals_told calls ms (entries_after n.kind h) (withdrawn_after n.kind x) t.1 t.2)

own_withdrew : (b : Bool) (t : LogMark) (m : List LogMark) (y : GivenUp) (f : List GivenUp) → withdrawal_of t.kind ≡ y ∷ [] → withdrawals_in m ≡ f → withdrawals_in (cond b (t ∷ m) m) ≡ cond b (y ∷ f) f
own_withdrew true t m y f i ih = ap (λ l. l ++ withdrawals_in m) i ∙ ap (λ l. y ∷ l) ih
own_withdrew false t m y f i ih = ih

own_stayed : (b : Bool) (t : LogMark) (m : List LogMark) (f : List GivenUp) → withdrawal_of t.kind ≡ [] → withdrawals_in m ≡ f → withdrawals_in (cond b (t ∷ m) m) ≡ f
own_stayed true t m f i ih = ap (λ l. l ++ withdrawals_in m) i ∙ ih
own_stayed false t m f i ih = ih

map_cond : (b : Bool) (y : Withdrawn) (l : List Withdrawn) → cond b (given_up y ∷ map given_up l) (map given_up l) ≡ map given_up (cond b (y ∷ l) l)
map_cond true y l = refl
map_cond false y l = refl

own_gone_at : (calls : ℕ → Call) (c : ℕ) (k : MarkKind) (d : ℕ) (ms : List Mark) (h : List Entry) (x : List Withdrawn) → marked_as is_withdrawal_mark (record { client = d; kind = k } ∷ ms) ≡ clients_gone x
    → withdrawals_in (marks_of c (log_from calls ms (entries_after k h) (withdrawn_after k x))) ≡ map given_up (withdrawn_of (withdrawn_after k x) c)
    → withdrawals_in (marks_of c (log_from calls (record { client = d; kind = k } ∷ ms) h x)) ≡ map given_up (withdrawn_of x c)
own_gone_at calls c Withdraw d ms h [] e ih = absurd (cc)
own_gone_at calls c Withdraw d ms h (y ∷ x) e ih =
    own_withdrew (eqb d c) _ _ (given_up y) (map given_up (withdrawn_of x c)) refl ih
    ∙ ap (λ n. cond (eqb n c) (given_up y ∷ map given_up (withdrawn_of x c)) (map given_up (withdrawn_of x c))) (ap (λ l. get_or l 0 0) e)
    ∙ map_cond (eqb y.call.client c) y (withdrawn_of x c)
own_gone_at calls c Entered d ms h x e ih = own_stayed (eqb d c) _ _ (map given_up (withdrawn_of x c)) refl ih
own_gone_at calls c Offer d ms h x e ih = own_stayed (eqb d c) _ _ (map given_up (withdrawn_of x c)) refl ih
own_gone_at calls c Answer d ms h x e ih = own_stayed (eqb d c) _ _ (map given_up (withdrawn_of x c)) refl ih
own_gone_at calls c Leave d ms h x e ih = own_stayed (eqb d c) _ _ (map given_up (withdrawn_of x c)) refl ih

-- and the withdrawn calls of a client's marks are the client's
pub own_gone_told : (calls : ℕ → Call) (c : ℕ) (ms : List Mark) (h : List Entry) (x : List Withdrawn) → marked_as is_entry_mark ms ≡ clients_of h → marked_as is_withdrawal_mark ms ≡ clients_gone x
    → withdrawals_in (marks_of c (log_from calls ms h x)) ≡ map given_up (withdrawn_of x c)
own_gone_told calls c [] h x e w = sym (ap (λ l. map given_up (withdrawn_of l c)) (aligned [] h x e w).1)
own_gone_told calls c (n ∷ ms) h x e w =
    let t = step_aligned n.kind n.client ms h x e w in
    own_gone_at calls c n.kind n.client ms h x w (own_gone_told calls c ms (entries_after n.kind h) (withdrawn_after n.kind x) t.1 t.2)

-- What each line of a step adds to the log.
use Rattle.std.proofs.Common.{◌≡◌, ◌≢◌, ℕ, zero, suc, ◌+◌, ◌-◌, ◌<◌, ◌≤◌, true, cond, eqb, List, [], ◌∷◌, ◌++◌, length, Option, None, Some, refl, sym, ap, ◌∙◌, subst, inl, inr, ⊎_elim, eq-eqb, true≢false, append-nil, append_assoc, arith, slice_get, unwrap_or}
use Rattle.sg_turn.specs.sg_facts.sg_base.declared.call.Call.{Call}
use Rattle.sg_turn.specs.sg_facts.sg_base.declared.reply.Reply.{Reply}
use Rattle.sg_turn.specs.sg_facts.declared.entry.Entry.{Entry}
use Rattle.sg_turn.specs.sg_facts.Facts.{Facts}
use Rattle.sg_turn.specs.sg_facts.sg_base.Stops.{asked_after}
use Rattle.sg_world.specs.sg_recovery_laws.sg_hist.Clients.{calls_of}
use Rattle.sg_world.specs.sg_recovery_laws.sg_hist.Inside.Reads.{after_item}
use Rattle.sg_world.specs.sg_clients.WorldView.{Seat, WorldView, no_seat, seat_of, is_offered, IsFree, happened, committed, given_to, answered_to, reply_handed_over, service_is, item_noted, with_points, struck_at}
use Rattle.sg_world.specs.sg_clients.declared.mark.Mark.{Mark}
use Rattle.sg_world.specs.sg_clients.declared.mark.MarkKind.{MarkKind}
use Rattle.sg_world.specs.sg_clients.declared.mark.MarkKind.TheVariants.{Offer, Entry as Entered, Answer, Withdraw, Leave}
use Rattle.sg_world.specs.sg_clients.declared.phase.Phase.{Phase}
use Rattle.sg_world.specs.sg_clients.declared.phase.Phase.TheVariants.{Idle, Asked, Held, Receipted, Blocked, Left}
use Rattle.sg_world.specs.sg_clients.declared.withdrawn.Withdrawn.{Withdrawn}
use Rattle.sg_world.specs.Marked.{TellsAll, AreTold, IsPhaseAfter, last_kind, or_later}
use Rattle.sg_world.specs.Steps.{HasStepped}
use Rattle.sg_world.specs.declared.did.Did.{Did}
use Rattle.sg_world.specs.declared.did.Did.TheVariants.{Answered, Blocked as Waits, Booted, Loaded, Lost, Replayed, Served, Skipped, Struck}
use Rattle.sg_world.specs.sg_world_laws.Seats.{last_of}
use Rattle.sg_world.specs.sg_world_laws.Setting.{Setting}
use Rattle.sg_turn.specs.declared.log.LogMarkKind.TheVariants.{Entry as TEntry, Answer as TAnswer}
use Rattle.sg_turn.specs.Hosts.{AddsEntryAtMost, AddsAnswer, AddsStep}
use Rattle.sg_turn.specs.Told.{idle, asking, has_reply, mark_by, standing_in}
use Rattle.sg_log.specs.Dids.{stepped_of}
use Rattle.sg_log.specs.Log.{call_at, call_in, entries_after, withdrawn_after, log_from, log_of}
use Rattle.sg_log.proofs.Growing.{Starts, Aligned, aligned, log_same, entries_push}
use Rattle.sg_log.proofs.Events.{SameCalls, same_in, set_call, woken_call, marked}
use Rattle.sg_log.proofs.Standing.{Says, says}

-- ---- phases and last marks

told_at : (marks : List Mark) (start : ℕ) (seats : List Seat) (i : ℕ) → AreTold marks start seats → i < length seats → IsPhaseAfter (last_kind marks (start + i)) (unwrap_or (slice_get seats i) no_seat).phase
told_at marks start [] i t near = absurd (omega arith)
told_at marks start (s ∷ seats) zero t near = let e : start ≡ start + 0 = omega arith in subst (λ n. IsPhaseAfter (last_kind marks n) s.phase) e t.0
told_at marks start (s ∷ seats) (suc i) t near =
    let e : start + 1 + i ≡ start + suc i = omega arith in
    subst (λ n. IsPhaseAfter (last_kind marks n) (unwrap_or (slice_get seats i) no_seat).phase) e (told_at marks (start + 1) seats i t.1 (omega arith))

pub phase_told : (w : WorldView) (c : ℕ) → 1 ≤ c → c ≤ length w.seats → TellsAll w → IsPhaseAfter (last_kind w.marks c) (seat_of w c).phase
phase_told w c first last t =
    let e : 1 + (c - 1) ≡ c = omega arith in
    subst (λ n. IsPhaseAfter (last_kind w.marks n) (seat_of w c).phase) e (told_at w.marks 1 w.seats (c - 1) t.phases (omega arith))

pub free_offers_not : (p : Phase) → IsFree p → is_offered p ≡ true → ⊥
free_offers_not Idle f e = true≢false (sym e)
free_offers_not Left f e = true≢false (sym e)
free_offers_not Asked f e = f
free_offers_not Held f e = f
free_offers_not Receipted f e = f
free_offers_not Blocked f e = f

offered_last : (l : Option MarkKind) (p : Phase) → IsPhaseAfter l p → is_offered p ≡ true → l ≡ Some Offer
offered_last None p a e = absurd (true≢false (sym e ∙ ap is_offered a))
offered_last (Some Offer) p a e = refl
offered_last (Some Entered) p a e = absurd (true≢false (sym e ∙ ap is_offered a))
offered_last (Some Answer) p a e = absurd (true≢false (sym e ∙ ap is_offered a))
offered_last (Some Withdraw) p a e = absurd (true≢false (sym e ∙ ap is_offered a))
offered_last (Some Leave) p a e = absurd (true≢false (sym e ∙ ap is_offered a))

receipted_last : (l : Option MarkKind) (p : Phase) → IsPhaseAfter l p → p ≡ Receipted → l ≡ Some Entered
receipted_last None p a e = absurd (cc)
receipted_last (Some Offer) p a e = absurd (true≢false (sym a ∙ ap is_offered e))
receipted_last (Some Entered) p a e = refl
receipted_last (Some Answer) p a e = absurd (cc)
receipted_last (Some Withdraw) p a e = absurd (cc)
receipted_last (Some Leave) p a e = absurd (cc)

pub seat_call : (w : WorldView) (c : ℕ) → 1 ≤ c → (seat_of w c).call ≡ call_in w.seats c
seat_call w zero first = absurd (omega arith)
seat_call w (suc k) first = let e : suc k - 1 ≡ k = omega arith in ap (call_at w.seats) e

-- a client whose call isn't answered stands with it
pub stands_under : (w : WorldView) (c : ℕ) → 1 ≤ c → c ≤ length w.seats → TellsAll w → is_offered (seat_of w c).phase ≡ true → standing_in c (log_of w) ≡ asking (seat_of w c).call
stands_under w c first last t off =
    let l = offered_last (last_kind w.marks c) (seat_of w c).phase (phase_told w c first last t) off in
    subst (λ k. Says (call_in w.seats) c w.history idle k (standing_in c (log_of w))) l (says (call_in w.seats) c w.marks w.history w.withdrawn idle t.entries t.withdrawals) ∙ ap asking (sym (seat_call w c first))

-- a client that has a receipt stands with its last entry
stands_with : (w : WorldView) (c : ℕ) → 1 ≤ c → c ≤ length w.seats → TellsAll w → (seat_of w c).phase ≡ Receipted → (call : Call) (reply : Reply)
    → last_of (calls_of w.history c) ≡ Some (record { call = call; reply = reply }) → standing_in c (log_of w) ≡ has_reply call reply
stands_with w c first last t is call reply entry =
    let l = receipted_last (last_kind w.marks c) (seat_of w c).phase (phase_told w c first last t) is in
    let x = subst (λ k. Says (call_in w.seats) c w.history idle k (standing_in c (log_of w))) l (says (call_in w.seats) c w.marks w.history w.withdrawn idle t.entries t.withdrawals) in
    let same : x.0 ≡ record { call = call; reply = reply } = some_same _ _ (sym x.1 ∙ entry) in
    x.2 ∙ ap (λ (e : Entry). has_reply e.call e.reply) same
  where
    or_entry : Entry → Option Entry → Entry
    or_entry d None = d
    or_entry d (Some e) = e

    some_same : (a b : Entry) → Some a ≡ Some b → a ≡ b
    some_same a b e = ap (or_entry a) e

-- ---- changes of a world

pub record Quiet (w : WorldView) (v : WorldView) : Type 0 where
  pub marks : v.marks ≡ w.marks
  pub history : v.history ≡ w.history
  pub withdrawn : v.withdrawn ≡ w.withdrawn
  pub calls : SameCalls w.seats v.seats

pub quiet_log : (w v : WorldView) → Quiet w v → log_of v ≡ log_of w
quiet_log w v q = (λ i. log_from (call_in v.seats) (q.marks i) (q.history i) (q.withdrawn i)) ∙ log_same (call_in w.seats) (call_in v.seats) w.marks w.history w.withdrawn (λ c _. same_in w.seats v.seats q.calls c)

-- one mark more of a client, with what it is of
pub record Marks (w : WorldView) (v : WorldView) (c : ℕ) (kind : MarkKind) (h : List Entry) : Type 0 where
  pub marks : v.marks ≡ w.marks ++ record { client = c; kind = kind } ∷ []
  pub history : v.history ≡ w.history ++ h
  pub withdrawn : v.withdrawn ≡ w.withdrawn
  pub calls : SameCalls w.seats v.seats

entry_log : (w v : WorldView) (c : ℕ) (e : Entry) → Aligned w.marks w.history w.withdrawn → e.call ≡ call_in w.seats c → Marks w v c Entered (e ∷ []) → log_of v ≡ log_of w ++ mark_by c (TEntry e.call e.reply) ∷ []
entry_log w v c e a own m =
    (λ i. log_from (call_in v.seats) (m.marks i) (m.history i) ((m.withdrawn ∙ sym (append-nil w.withdrawn)) i))
    ∙ marked w.seats v.seats w.marks w.history (e ∷ []) w.withdrawn [] (record { client = c; kind = Entered }) a m.calls (λ _. own)

answer_log : (w v : WorldView) (c : ℕ) → Aligned w.marks w.history w.withdrawn → last_kind w.marks c ≢ Some Offer → Marks w v c Answer [] → log_of v ≡ log_of w ++ mark_by c TAnswer ∷ []
answer_log w v c a other m =
    (λ i. log_from (call_in v.seats) (m.marks i) (m.history i) ((m.withdrawn ∙ sym (append-nil w.withdrawn)) i))
    ∙ marked w.seats v.seats w.marks w.history [] w.withdrawn [] (record { client = c; kind = Answer }) a m.calls (λ p. absurd (other p))

-- after an entry's mark the marks are aligned still, and it is its client's last
entered_start : (k : MarkKind) (h : List Entry) (x : List Withdrawn) (e : Entry) → Starts k h x → Starts k (h ++ e ∷ []) x
entered_start Entered h x e s = (s.0, s.1 ++ e ∷ [], ap (λ l. l ++ e ∷ []) s.2)
entered_start Withdraw h x e s = s
entered_start Offer h x e s = tt
entered_start Answer h x e s = tt
entered_start Leave h x e s = tt

aligned_entered : (c : ℕ) (e : Entry) (ms : List Mark) (h : List Entry) (x : List Withdrawn) → Aligned ms h x → Aligned (ms ++ record { client = c; kind = Entered } ∷ []) (h ++ e ∷ []) x
aligned_entered c e [] h x a =
    let l : h ++ e ∷ [] ≡ e ∷ [] = ap (λ y. y ++ e ∷ []) a.0 in
    ((e, [], l), (ap (entries_after Entered) l, a.1))
aligned_entered c e (n ∷ ms) h x a =
    (entered_start n.kind h x e a.0, subst (λ l. Aligned (ms ++ record { client = c; kind = Entered } ∷ []) l (withdrawn_after n.kind x)) (sym (entries_push n.kind h (e ∷ []) x a.0)) (aligned_entered c e ms (entries_after n.kind h) (withdrawn_after n.kind x) a.1))

last_entered : (c : ℕ) (ms : List Mark) → last_kind (ms ++ record { client = c; kind = Entered } ∷ []) c ≡ Some Entered
last_entered c [] = ap (λ b. or_later (cond b (Some Entered) None) None) (eq-eqb c c refl)
last_entered c (n ∷ ms) = ap (or_later (cond (eqb n.client c) (Some n.kind) None)) (last_entered c ms)

entered_not_offered : (l : Option MarkKind) → l ≡ Some Entered → l ≢ Some Offer
entered_not_offered l a b = let e : Some Entered ≡ Some Offer = sym a ∙ b in absurd (cc)

-- ---- the lines of a step

-- nothing is told
quiet_line : (w later now : WorldView) (X : WorldView) → later ≡ X → now ≡ happened later → Quiet w (happened X) → log_of now ≡ log_of w
quiet_line w later now X is counted q = ap log_of (counted ∙ ap happened is) ∙ quiet_log w (happened X) q

-- the entry of the client's call
entry_line : (w now : WorldView) (c : ℕ) (e : Entry) → 1 ≤ c → c ≤ length w.seats → TellsAll w → is_offered (seat_of w c).phase ≡ true → e.call ≡ (seat_of w c).call
    → Marks w now c Entered (e ∷ []) → AddsEntryAtMost c (log_of w) (log_of now)
entry_line w now c e first last t off own m =
    let a = aligned w.marks w.history w.withdrawn t.entries t.withdrawals in
    inr (e.call, e.reply, stands_under w c first last t off ∙ ap asking (sym own), entry_log w now c e a (own ∙ seat_call w c first) m)

-- the entry, and the answer after it
both_line : (w v now : WorldView) (c : ℕ) (e : Entry) → 1 ≤ c → c ≤ length w.seats → TellsAll w → is_offered (seat_of w c).phase ≡ true → e.call ≡ (seat_of w c).call
    → Marks w v c Entered (e ∷ []) → Marks v now c Answer [] → AddsAnswer c e.reply (log_of w) (log_of now)
both_line w v now c e first last t off own m n =
    let a = aligned w.marks w.history w.withdrawn t.entries t.withdrawals in
    let a' : Aligned v.marks v.history v.withdrawn = subst (λ (p : List Mark × List Entry × List Withdrawn). Aligned p.0 p.1 p.2) (λ i. (sym m.marks i, sym m.history i, sym m.withdrawn i)) (aligned_entered c e w.marks w.history w.withdrawn a) in
    let l = ap (λ ms. last_kind ms c) m.marks ∙ last_entered c w.marks in
    inr (
      e.call,
      stands_under w c first last t off ∙ ap asking (sym own),
      answer_log v now c a' (entered_not_offered (last_kind v.marks c) l) n ∙ ap (λ log. log ++ mark_by c TAnswer ∷ []) (entry_log w v c e a (own ∙ seat_call w c first) m) ∙ append_assoc (log_of w) (mark_by c (TEntry e.call e.reply) ∷ []) (mark_by c TAnswer ∷ []),
    )

module _ (z : Setting) (w : WorldView) (c : ℕ) (first : 1 ≤ c) (last : c ≤ length w.seats) (t : TellsAll w)
    (its : is_offered (seat_of w c).phase ≡ true → (seat_of w c).call.client ≡ c)
    (receipt : (seat_of w c).phase ≡ Receipted → last_of (calls_of w.history c) ≡ Some (record { call = (seat_of w c).call; reply = (seat_of w c).reply })) where
  asked_offers : (seat_of w c).phase ≡ Asked → is_offered (seat_of w c).phase ≡ true
  asked_offers e = ap is_offered e

  held_offers : (seat_of w c).phase ≡ Held → is_offered (seat_of w c).phase ≡ true
  held_offers e = ap is_offered e

  abbrev entry_with : Reply → Entry
  entry_with reply = record { call = (seat_of w c).call; reply = reply }

  -- a commit, of a world that has the same seats, marks and history
  commits : (facts : Facts) (u : WorldView) (reply : Reply) → u.marks ≡ w.marks → u.history ≡ w.history → u.withdrawn ≡ w.withdrawn → u.seats ≡ w.seats → is_offered (seat_of w c).phase ≡ true
      → Marks w (committed facts u (entry_with reply)) c Entered (entry_with reply ∷ [])
  commits facts u reply m h x s off = record {
    marks = λ i. m i ++ record { client = its off i; kind = Entered } ∷ [];
    history = ap (λ l. l ++ entry_with reply ∷ []) h;
    withdrawn = x;
    calls = λ j. woken_call _ u.seats j ∙ ap (λ l. call_at l j) s;
  }

  -- the receipt's phase and number change no call
  receipts : (v : WorldView) (e : Entry) → Marks w v c Entered (e ∷ []) → Marks w (given_to v e) c Entered (e ∷ [])
  receipts v e m = record { marks = m.marks; history = m.history; withdrawn = m.withdrawn; calls = λ j. set_call v.seats (e.call.client - 1) _ refl j ∙ m.calls j }

  answers : (v : WorldView) (e : Entry) → e.call.client ≡ c → Marks v (answered_to v e) c Answer []
  answers v e is = record {
    marks = ap (λ n. v.marks ++ record { client = n; kind = Answer } ∷ []) is;
    history = sym (append-nil v.history);
    withdrawn = refl;
    calls = set_call v.seats (e.call.client - 1) _ refl;
  }

  answered_line : (reply : Reply) (now : WorldView) → is_offered (seat_of w c).phase ≡ true → now ≡ happened (answered_to (committed z.iface.facts w (entry_with reply)) (entry_with reply))
      → AddsAnswer c reply (log_of w) (log_of now)
  answered_line reply now off is =
      let e = entry_with reply in
      let v = committed z.iface.facts w e in
      let n = answers v e (its off) in
      let n' : Marks v (happened (answered_to v e)) c Answer [] = record { marks = n.marks; history = n.history; withdrawn = n.withdrawn; calls = n.calls } in
      both_line w v now c e first last t off refl (commits z.iface.facts w reply refl refl refl refl off) (subst (λ y. Marks v y c Answer []) (sym is) n')

  pub steps_log : (did : Did) (now : WorldView) → HasStepped z w c did now → AddsStep c (log_of w) (stepped_of did) (log_of now)
  steps_log Skipped now s = inl (quiet_line w s.later now w s.steps.now s.counted record { marks = refl; history = refl; withdrawn = refl; calls = λ j. refl })
  steps_log Lost now s = inl (quiet_line w s.later now _ s.steps.now s.counted record { marks = refl; history = refl; withdrawn = refl; calls = set_call w.seats (c - 1) _ refl })
  steps_log Booted now s = inl (quiet_line w s.later now _ s.steps.now s.counted record { marks = refl; history = refl; withdrawn = refl; calls = woken_call _ w.seats })
  steps_log Replayed now s = inl (quiet_line w s.later now _ s.steps.now s.counted record { marks = refl; history = refl; withdrawn = refl; calls = λ j. refl })
  steps_log Loaded now s = inl (quiet_line w s.later now _ s.steps.now s.counted record { marks = refl; history = refl; withdrawn = refl; calls = λ j. refl })
  steps_log Waits now s = inl (quiet_line w s.later now _ s.steps.now s.counted record { marks = refl; history = refl; withdrawn = refl; calls = set_call w.seats (c - 1) _ refl })
  steps_log Served now s =
      ⊎_elim
      (λ x.
      let k = x.commits in
      let off = asked_offers k.asks.reaches.uses.let_in.phase in
      let u = service_is (item_noted w k.asks.item) (after_item z.iface.facts k.asks.service k.asks.item) in
      let e = entry_with k.reply in
      let v = given_to (committed z.iface.facts u e) e in
      let m = receipts (committed z.iface.facts u e) e (commits z.iface.facts u k.reply refl refl refl refl off) in
      let n = asked_after v.run.points 1 in
      let m' : Marks w (happened (with_points v n)) c Entered (e ∷ []) = record { marks = m.marks; history = m.history; withdrawn = m.withdrawn; calls = m.calls } in
      let is : now ≡ happened (with_points v n) = s.counted ∙ ap happened (x.now ∙ ap (λ b. with_points b (asked_after b.run.points 1)) k.now) in
      entry_line w now c e first last t off refl (subst (λ y. Marks w y c Entered (e ∷ [])) (sym is) m'))
      (λ x. inl (quiet_line w s.later now _ x.now s.counted record { marks = refl; history = refl; withdrawn = refl; calls = set_call w.seats (c - 1) _ refl }))
      s.steps
  steps_log Struck now s =
      ⊎_elim
      (λ x. inl (quiet_line w s.later now _ x.now s.counted record { marks = refl; history = refl; withdrawn = refl; calls = λ j. refl }))
      (⊎_elim
      (λ x. inl (quiet_line w s.later now _ x.now s.counted record { marks = refl; history = refl; withdrawn = refl; calls = λ j. refl }))
      (⊎_elim
      (λ x. inl (quiet_line w s.later now _ x.now s.counted record { marks = refl; history = refl; withdrawn = refl; calls = λ j. refl }))
      (λ x.
      let k = x.commits in
      let off = asked_offers k.asks.reaches.uses.let_in.phase in
      let u = service_is (item_noted w k.asks.item) (after_item z.iface.facts k.asks.service k.asks.item) in
      let e = entry_with k.reply in
      let v = given_to (committed z.iface.facts u e) e in
      let m = receipts (committed z.iface.facts u e) e (commits z.iface.facts u k.reply refl refl refl refl off) in
      let n = asked_after v.run.points 1 in
      let m' : Marks w (happened (struck_at v n)) c Entered (e ∷ []) = record { marks = m.marks; history = m.history; withdrawn = m.withdrawn; calls = m.calls } in
      let is : now ≡ happened (struck_at v n) = s.counted ∙ ap happened (x.now ∙ ap (λ b. struck_at b (asked_after b.run.points 1)) k.now) in
      entry_line w now c e first last t off refl (subst (λ y. Marks w y c Entered (e ∷ [])) (sym is) m'))))
      s.steps
  steps_log (Answered reply) now s =
      ⊎_elim
      (λ x.
      let a = aligned w.marks w.history w.withdrawn t.entries t.withdrawals in
      let l = receipted_last (last_kind w.marks c) (seat_of w c).phase (phase_told w c first last t) x.phase in
      let m : Marks w (happened (reply_handed_over w c)) c Answer [] = record { marks = refl; history = sym (append-nil w.history); withdrawn = refl; calls = set_call w.seats (c - 1) _ refl } in
      let is : now ≡ happened (reply_handed_over w c) = s.counted ∙ ap happened x.now in
      inl (
        (seat_of w c).call,
        stands_with w c first last t x.phase (seat_of w c).call (seat_of w c).reply (receipt x.phase) ∙ ap (has_reply (seat_of w c).call) (sym x.its),
        answer_log w now c a (entered_not_offered (last_kind w.marks c) l) (subst (λ y. Marks w y c Answer []) (sym is) m),
      ))
      (⊎_elim
      (λ x. answered_line reply now (held_offers x.phase) (s.counted ∙ ap happened x.now))
      (λ x. answered_line reply now (asked_offers x.phase) (s.counted ∙ ap happened x.now)))
      s.steps

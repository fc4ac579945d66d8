-- What a hold makes of a call that is under way.
use Rattle.std.proofs.Common.{◌≡◌, ℕ, ◌+◌, cond, List, [], ◌∷◌, ◌++◌, length, map, Result, Ok, Err, OnOk, OnErr, refl, sym, ap, ◌∙◌, subst, inl, inr, ⊎_elim, arith, append_assoc, append-nil, eq-eqb}
use Rattle.std.proofs.lemmas.Grind.{flat_map-append}
use Rattle.sg_facts.specs.sg_base.declared.call.Call.{Call}
use Rattle.sg_facts.specs.sg_base.declared.reply.Reply.{Reply}
use Rattle.sg_facts.specs.sg_base.declared.value.Value.{Value}
use Rattle.sg_facts.specs.sg_base.Lists.{Each}
use Rattle.sg_facts.specs.declared.entry.Entry.{Entry as HistoryEntry}
use Rattle.sg_turn.specs.declared.log.LogMark.{LogMark}
use Rattle.sg_turn.specs.declared.log.LogMarkKind.{LogMarkKind}
use Rattle.sg_turn.specs.declared.log.LogMarkKind.TheVariants.{Offer, Entry, Answer, Withdraw, Leave}
use Rattle.sg_turn.specs.Logs.{marks_of, AllBy}
use Rattle.sg_turn.specs.Seats.{SeatView, TurnView, HasLearnt}
use Rattle.sg_turn.proofs.Logs.{marks_of-append}
use Rattle.sg_turn.specs.Hosts.{AddsEntryAtMost, AddsLeave, AddsAnswer}
use Rattle.sg_turn.specs.Inside.Calls.{GaveBack, GaveBackWith, HasOwnMore, IsOffered, IsEntered, IsUnderWay}
use Rattle.sg_turn.specs.Passes.{seen_by, own_marks, standing_of, call_by, Grows, StaysIn, HasAnswer, HasNoMemory, HasBlocked, HasStayed}
use Rattle.sg_turn.specs.Told.{Standing, idle, left, asking, has_reply, after_mark, standing_after, standing_in, AllRest, entry_of, entries_in, withdrawal_of, withdrawals_in, mark_by}

-- ---- what logs tell that were joined

pub entries_in-append : (xs ys : List LogMark) → entries_in (xs ++ ys) ≡ entries_in xs ++ entries_in ys
entries_in-append xs ys = flat_map-append (λ m. entry_of m.kind) xs ys

pub withdrawals_in-append : (xs ys : List LogMark) → withdrawals_in (xs ++ ys) ≡ withdrawals_in xs ++ withdrawals_in ys
withdrawals_in-append xs ys = flat_map-append (λ m. withdrawal_of m.kind) xs ys

standing_after-append : (s : Standing) (xs ys : List LogMark) → standing_after s (xs ++ ys) ≡ standing_after (standing_after s xs) ys
standing_after-append s [] ys = refl
standing_after-append s (x ∷ xs) ys = standing_after-append (after_mark x.kind) xs ys

-- ---- a hold

-- what a client adds are its own marks
marks_of-own : (c : ℕ) (ms : List LogMark) → AllBy c ms → marks_of c ms ≡ ms
marks_of-own c [] by = refl
marks_of-own c (m ∷ ms) by = ap (λ b. cond b (m ∷ marks_of c ms) (marks_of c ms)) (eq-eqb m.client c by.0) ∙ ap (λ l. m ∷ l) (marks_of-own c ms by.1)

pub own_learnt : (p q : SeatView) → HasLearnt p q → own_marks q ≡ own_marks p
own_learnt p q l = ap (λ n. marks_of n q.face.log) l.learns.number ∙ l.learns.own

own_gave : (p q : SeatView) (more : List LogMark) → GaveBackWith p q more → AllBy p.number more → own_marks q ≡ own_marks p ++ more
own_gave p q more g by =
    ap (λ n. marks_of n q.face.log) g.0.number ∙ ap (marks_of p.number) g.1 ∙ marks_of-append p.number p.face.log more ∙ ap (λ l. marks_of p.number p.face.log ++ l) (marks_of-own p.number more by)

pub grows_learnt : (p q : SeatView) → HasLearnt p q → Grows p q
grows_learnt p q l = record { number = l.learns.number; turn = l.turn; last = l.last; known = l.learns.known; log = l.learns.face.log }

grows_gave : (p q : SeatView) (more : List LogMark) → GaveBackWith p q more → Grows p q
grows_gave p q more g = record { number = g.0.number; turn = g.0.turn; last = g.0.last; known = g.0.known; log = (more, sym g.1) }

pub grows_on : (o p q : SeatView) → Grows o p → Grows p q → Grows o q
grows_on o p q a b = record {
  number = b.number ∙ a.number;
  turn = b.turn ∙ a.turn;
  last = b.last ∙ a.last;
  known = let x = a.known in let y = b.known in omega arith;
  log = (a.log.0 ++ b.log.0, sym (append_assoc o.face.log a.log.0 b.log.0) ∙ ap (λ l. l ++ b.log.0) a.log.1 ∙ b.log.1);
}

-- the seat p takes what is shared as q, and gives it back as r with these marks more
pub record Holds (o p q r : SeatView) (more : List LogMark) : Type 0 where
  pub before : Grows o p
  pub learnt : HasLearnt p q
  pub gave : GaveBackWith q r more
  pub by : AllBy o.number more

hold_grows : (o p q r : SeatView) (more : List LogMark) → Holds o p q r more → Grows o r
hold_grows o p q r more h = grows_on o p r h.before (grows_on p q r (grows_learnt p q h.learnt) (grows_gave q r more h.gave))

same_number : (o p q r : SeatView) (more : List LogMark) → Holds o p q r more → q.number ≡ o.number
same_number o p q r more h = h.learnt.learns.number ∙ h.before.number

-- the client's marks are those that it had, and what was added
hold_own : (o p q r : SeatView) (more : List LogMark) → Holds o p q r more → own_marks r ≡ own_marks p ++ more
hold_own o p q r more h =
    own_gave q r more h.gave (subst (λ n. AllBy n more) (sym (same_number o p q r more h)) h.by) ∙ ap (λ l. l ++ more) (own_learnt p q h.learnt)

-- from the client's marks before the call on
pub hold_more : (o p q r : SeatView) (before more : List LogMark) → own_marks p ≡ own_marks o ++ before → Holds o p q r more → HasOwnMore o r (before ++ more)
hold_more o p q r before more was h = record {
  grows = hold_grows o p q r more h;
  own_more = hold_own o p q r more h ∙ ap (λ l. l ++ more) was ∙ append_assoc (own_marks o) before more;
}

all_by : (c : ℕ) (kinds : List LogMarkKind) → AllBy c (map (mark_by c) kinds)
all_by c [] = tt
all_by c (k ∷ kinds) = (refl, all_by c kinds)

-- ---- how the client stands

stands_after : (o p : SeatView) (before : List LogMark) → own_marks p ≡ own_marks o ++ before → standing_of p ≡ standing_after (standing_of o) before
stands_after o p before was = ap (standing_after idle) was ∙ standing_after-append idle (own_marks o) before

pub stands_learnt : (p q : SeatView) → HasLearnt p q → standing_of q ≡ standing_of p
stands_learnt p q l = ap (standing_after idle) (own_learnt p q l)

-- who asks has offered just this call
pub is_offered : (o p q : SeatView) (call call' : Call) → IsUnderWay o call p → HasLearnt p q → standing_of q ≡ asking call' → IsOffered o call p × (call' ≡ call)
is_offered o p q call call' u l stands =
    ⊎_elim
    (λ (x : IsOffered o call p). let e : asking call ≡ asking call' = sym (stands_after o p (mark_by o.number (Offer call) ∷ []) x.own_more) ∙ sym (stands_learnt p q l) ∙ stands in (x, (cc)))
    (λ (x : IsEntered o call p). let e : has_reply call x.0 ≡ asking call' = sym (stands_after o p (mark_by o.number (Offer call) ∷ mark_by o.number (Entry call x.0) ∷ []) x.1.own_more) ∙ sym (stands_learnt p q l) ∙ stands in absurd (cc))
    u

-- who has a reply has an entry of just this call, with that reply
pub is_entered : (o p q : SeatView) (call call' : Call) (reply : Reply) → IsUnderWay o call p → HasLearnt p q → standing_of q ≡ has_reply call' reply
    → HasOwnMore o p (mark_by o.number (Offer call) ∷ mark_by o.number (Entry call reply) ∷ [])
is_entered o p q call call' reply u l stands =
    ⊎_elim
    (λ (x : IsOffered o call p). let e : asking call ≡ has_reply call' reply = sym (stands_after o p (mark_by o.number (Offer call) ∷ []) x.own_more) ∙ sym (stands_learnt p q l) ∙ stands in absurd (cc))
    (λ (x : IsEntered o call p). let e : has_reply call x.0 ≡ has_reply call' reply = sym (stands_after o p (mark_by o.number (Offer call) ∷ mark_by o.number (Entry call x.0) ∷ []) x.1.own_more) ∙ sym (stands_learnt p q l) ∙ stands in
    let same : x.0 ≡ reply = cc in subst (λ y. HasOwnMore o p (mark_by o.number (Offer call) ∷ mark_by o.number (Entry call y) ∷ [])) same x.1)
    u

-- ---- what a call comes to

pub answered : (legal : List HistoryEntry → Type 0) (o r : SeatView) (call : Call) (reply : Reply)
    → HasOwnMore o r (mark_by o.number (Offer call) ∷ mark_by o.number (Entry call reply) ∷ mark_by o.number Answer ∷ []) → legal (seen_by r) → HasAnswer legal o call reply r
answered legal o r call reply h ok = record {
  grows = h.grows;
  entries = ap entries_in h.own_more ∙ entries_in-append (own_marks o) _;
  given_up = ap withdrawals_in h.own_more ∙ withdrawals_in-append (own_marks o) _ ∙ append-nil _;
  stands = stands_after o r _ h.own_more;
  legal_seen = ok;
}

pub withdrawn : (o r : SeatView) (call : Call) (phases : List ℕ) (at : ℕ)
    → HasOwnMore o r (mark_by o.number (Offer call) ∷ mark_by o.number (Withdraw call phases at) ∷ []) → HasNoMemory o call r
withdrawn o r call phases at h = record {
  grows = h.grows;
  entries = ap entries_in h.own_more ∙ entries_in-append (own_marks o) _ ∙ append-nil _;
  given_up = inr (record { call = call; phases = phases; at = at }, refl, ap withdrawals_in h.own_more ∙ withdrawals_in-append (own_marks o) _);
  stands = inr (stands_after o r _ h.own_more);
}

pub refused : (o r : SeatView) (call : Call) → HasOwnMore o r [] → HasNoMemory o call r
refused o r call h = record {
  grows = h.grows;
  entries = ap entries_in (h.own_more ∙ append-nil _);
  given_up = inl (ap withdrawals_in (h.own_more ∙ append-nil _));
  stands = inl (ap (standing_after idle) (h.own_more ∙ append-nil _));
}

pub blocked : (waits : List HistoryEntry → Call → Type 0) (o q r : SeatView) (call : Call) (phases : List ℕ)
    → HasOwnMore o r (mark_by o.number (Offer call) ∷ mark_by o.number (Withdraw call phases (length (seen_by q))) ∷ []) → seen_by r ≡ seen_by q
    → waits (seen_by q) call → AllRest phases → HasBlocked waits o call r
blocked waits o q r call phases h same wait rests = record {
  grows = h.grows;
  entries = ap entries_in h.own_more ∙ entries_in-append (own_marks o) _ ∙ append-nil _;
  given_up = (record { call = call; phases = phases; at = length (seen_by q) }, refl, ap length (sym same), rests, ap withdrawals_in h.own_more ∙ withdrawals_in-append (own_marks o) _);
  stands = stands_after o r _ h.own_more;
  unanswered = subst (λ l. waits l call) (sym same) wait;
}

learns_same : (p : SeatView) → HasLearnt p p
learns_same p = record {
  turn = refl;
  last = refl;
  learns = record { number = refl; known = omega arith; face = record { log = ([], append-nil p.face.log); events = omega arith }; own = refl };
}

-- a call that has no answer stays under way
pub stayed : (waits : List HistoryEntry → Call → Type 0) (o r : SeatView) (call call' : Call) → IsUnderWay o call r → standing_of r ≡ asking call' → waits (seen_by r) call' → HasStayed waits o call r
stayed waits o r call call' u stands wait =
    let t = is_offered o r r call call' u (learns_same r) stands in
    record {
      grows = t.0.grows;
      entries = ap entries_in t.0.own_more ∙ entries_in-append (own_marks o) _ ∙ append-nil _;
      given_up = ap withdrawals_in t.0.own_more ∙ withdrawals_in-append (own_marks o) _ ∙ append-nil _;
      stands = stands_after o r _ t.0.own_more;
      unanswered = subst (waits (seen_by r)) t.1 wait;
    }

-- ---- a hold of a call that is under way, by what was done in it

module _ (o p q r : SeatView) (call : Call) (c : ℕ) (u : IsUnderWay o call p) (l : HasLearnt p q) (e : c ≡ q.number) where
  grown : Grows o p
  grown = ⊎_elim (λ (x : IsOffered o call p). x.grows) (λ (x : IsEntered o call p). x.1.grows) u

  number : c ≡ o.number
  number = e ∙ l.learns.number ∙ grown.number

  -- these marks of the client were added
  added : (kinds : List LogMarkKind) → GaveBack q r → r.face.log ≡ q.face.log ++ map (mark_by c) kinds → Holds o p q r (map (mark_by o.number) kinds)
  added kinds g log = record {
    before = grown;
    learnt = l;
    gave = (g, log ∙ ap (λ n. q.face.log ++ map (mark_by n) kinds) number);
    by = all_by o.number kinds;
  }

  -- the call was withdrawn, which adds no entry
  pub gave_up : (call' : Call) (phases : List ℕ) (at : ℕ) → standing_of q ≡ asking call' → GaveBack q r → r.face.log ≡ q.face.log ++ mark_by c (Withdraw call' phases at) ∷ []
      → HasOwnMore o r (mark_by o.number (Offer call) ∷ mark_by o.number (Withdraw call phases at) ∷ []) × (call' ≡ call) × (seen_by r ≡ seen_by q)
  gave_up call' phases at stands g log =
      let t = is_offered o p q call call' u l stands in
      let h = hold_more o p q r _ _ t.0.own_more (added (Withdraw call' phases at ∷ []) g log) in (
        subst (λ k. HasOwnMore o r (mark_by o.number (Offer call) ∷ mark_by o.number (Withdraw k phases at) ∷ [])) t.1 h,
        t.1,
        ap entries_in log ∙ entries_in-append q.face.log _ ∙ append-nil _,
      )

  -- it has no reply yet, or isn't handed one
  pub went_on : GaveBack q r → AddsEntryAtMost c q.face.log r.face.log → IsUnderWay o call r
  went_on g on =
      ⊎_elim
      (λ (same : r.face.log ≡ q.face.log).
      let h = added [] g (same ∙ sym (append-nil _)) in
      ⊎_elim (λ (x : IsOffered o call p). inl (hold_more o p q r _ [] x.own_more h)) (λ (x : IsEntered o call p). inr (x.0, hold_more o p q r _ [] x.1.own_more h)) u)
      (λ (y : (call' : Call) × (reply : Reply) × (standing_in c q.face.log ≡ asking call') × (r.face.log ≡ q.face.log ++ mark_by c (Entry call' reply) ∷ [])).
      let t = is_offered o p q call y.0 u l (ap (λ n. standing_in n q.face.log) (sym e) ∙ y.2) in
      let h = hold_more o p q r _ _ t.0.own_more (added (Entry y.0 y.1 ∷ []) g y.3) in
      inr (y.1, subst (λ k. HasOwnMore o r (mark_by o.number (Offer call) ∷ mark_by o.number (Entry k y.1) ∷ [])) t.1 h))
      on

  -- its reply was handed over
  pub went_home : (reply : Reply) → GaveBack q r → AddsAnswer c reply q.face.log r.face.log
      → HasOwnMore o r (mark_by o.number (Offer call) ∷ mark_by o.number (Entry call reply) ∷ mark_by o.number Answer ∷ [])
  went_home reply g over =
      ⊎_elim
      (λ (y : (call' : Call) × (standing_in c q.face.log ≡ has_reply call' reply) × (r.face.log ≡ q.face.log ++ mark_by c Answer ∷ [])).
      hold_more o p q r _ _ (is_entered o p q call y.0 reply u l (ap (λ n. standing_in n q.face.log) (sym e) ∙ y.1)).own_more (added (Answer ∷ []) g y.2))
      (λ (y : (call' : Call) × (standing_in c q.face.log ≡ asking call') × (r.face.log ≡ q.face.log ++ mark_by c (Entry call' reply) ∷ mark_by c Answer ∷ [])).
      let t = is_offered o p q call y.0 u l (ap (λ n. standing_in n q.face.log) (sym e) ∙ y.1) in
      let h = hold_more o p q r _ _ t.0.own_more (added (Entry y.0 reply ∷ Answer ∷ []) g y.2) in
      subst (λ k. HasOwnMore o r (mark_by o.number (Offer call) ∷ mark_by o.number (Entry k reply) ∷ mark_by o.number Answer ∷ [])) t.1 h)
      over

-- ---- an offer, a leave, and progress

own_since : (p q r : SeatView) (more : List LogMark) → HasLearnt p q → GaveBackWith q r more → AllBy q.number more → HasOwnMore p r more
own_since p q r more l g by = record {
  grows = grows_on p q r (grows_learnt p q l) (grows_gave q r more g);
  own_more = own_gave q r more g by ∙ ap (λ o. o ++ more) (own_learnt p q l);
}

-- the next call is the same before and after the client learns
same_next : (p q : SeatView) (fun desc : ℕ) (args : List Value) → HasLearnt p q → call_by q fun desc args ≡ call_by p fun desc args
same_next p q fun desc args l = λ i. record { client = l.learns.number i; seq = length (entries_in (own_learnt p q l i)) + 1; fun = fun; desc = desc; args = args }

pub offers : (p q r : SeatView) (c fun desc : ℕ) (args : List Value) → HasLearnt p q → c ≡ q.number → GaveBackWith q r (mark_by c (Offer (call_by q fun desc args)) ∷ [])
    → IsOffered p (call_by p fun desc args) r
offers p q r c fun desc args l e g =
    let n : c ≡ p.number = e ∙ l.learns.number in
    let h = own_since p q r _ l g (e, tt) in
    subst (λ k. HasOwnMore p r (mark_by p.number (Offer k) ∷ [])) (same_next p q fun desc args l) (subst (λ x. HasOwnMore p r (mark_by x (Offer (call_by q fun desc args)) ∷ [])) n h)

pub lacked_memory : (p q r : SeatView) (call : Call) → HasLearnt p q → GaveBackWith q r [] → HasNoMemory p call r
lacked_memory p q r call l g = refused p r call (own_since p q r [] l g tt)

pub learns_more : (p q : SeatView) → HasLearnt p q → StaysIn p q
learns_more p q l = record { grows = grows_learnt p q l; entries = ap entries_in (own_learnt p q l); given_up = ap withdrawals_in (own_learnt p q l) }

pub leaves : (p q r : SeatView) (c : ℕ) → HasLearnt p q → c ≡ q.number → GaveBack q r → AddsLeave c q.face.log r.face.log → StaysIn p r × (standing_of r ≡ left)
leaves p q r c l e g gone =
    ⊎_elim
    (λ (log : r.face.log ≡ q.face.log ++ mark_by c Leave ∷ []).
    let h = own_since p q r _ l (g, log) (e, tt) in (
      record {
        grows = h.grows;
        entries = ap entries_in h.own_more ∙ entries_in-append (own_marks p) _ ∙ append-nil _;
        given_up = ap withdrawals_in h.own_more ∙ withdrawals_in-append (own_marks p) _ ∙ append-nil _;
      },
      stands_after p r _ h.own_more,
    ))
    (λ (same : (standing_in c q.face.log ≡ left) × (r.face.log ≡ q.face.log)).
    let h = own_since p q r [] l (g, same.1 ∙ sym (append-nil _)) tt in
    let kept : own_marks r ≡ own_marks p = h.own_more ∙ append-nil _ in (
      record { grows = h.grows; entries = ap entries_in kept; given_up = ap withdrawals_in kept },
      ap (standing_after idle) kept ∙ sym (stands_learnt p q l) ∙ ap (λ n. standing_in n q.face.log) (sym e) ∙ same.0,
    ))
    gone

-- ---- results, and lists of passes

pub on_ok : {A E : Type 0} {P Q : Type 0} (r : Result A E) → (P → Q) → OnOk r P → OnOk r Q
on_ok (Ok a) f h = f h
on_ok (Err e) f h = h

pub on_err : {A E : Type 0} {P Q : Type 0} (r : Result A E) → (P → Q) → OnErr r P → OnErr r Q
on_err (Ok a) f h = h
on_err (Err e) f h = f h

pub of_others : (t : TurnView) (ps : List SeatView) (p : SeatView) → Each (λ (s : SeatView). s.turn ≡ t.id) (ps ++ p ∷ []) → Each (λ (s : SeatView). s.turn ≡ t.id) ps × (p.turn ≡ t.id)
of_others t [] p f = (tt, f.0)
of_others t (r ∷ ps) p f = let h = of_others t ps p f.1 in ((f.0, h.0), h.1)

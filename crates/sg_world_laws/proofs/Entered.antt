-- The seats of a world after an entry: its client has it as its last, and the others wait on, or are woken.
use Rattle.std.proofs.Common.{Bool, List, Some, [], ap, append-nil, append_assoc, arith, cond, length, length-append, map, refl, subst, suc, sym, ℕ, ◌++◌, ◌+◌, ◌<◌, ◌==◌, ◌^◌, ◌∙◌, ◌∷◌, ◌≡◌, ◌≢◌, ◌≤◌}
use Rattle.std.proofs.lemmas.List.Elements.{filter-append}
use Rattle.sg_facts.specs.sg_base.Lists.{Each}
use Rattle.sg_facts.specs.sg_base.declared.call.Call.{Call}
use Rattle.sg_facts.specs.sg_base.declared.reply.Reply.{Reply}
use Rattle.sg_facts.specs.Laws.{slow}
use Rattle.sg_facts.specs.Legal.{answer}
use Rattle.sg_facts.specs.Object.{object_of}
use Rattle.sg_facts.specs.declared.entry.Entry.{Entry}
use Rattle.sg_recovery_laws.specs.sg_hist.Clients.{AreNumbered, MayBeMade, calls_of}
use Rattle.sg_recovery_laws.proofs.Lists.{each_append, each_map, each_split}
use Rattle.sg_clients.specs.WorldView.{Seat, wakes_seat, woken_seat}
use Rattle.sg_clients.specs.declared.phase.Phase.{Phase}
use Rattle.sg_clients.specs.declared.phase.Phase.TheVariants.{Asked, Blocked, Held, Idle, Left, Receipted}
use Rattle.sg_clients.specs.declared.withdrawn.Withdrawn.{Withdrawn}
use Rattle.sg_facts.proofs.Replaying.Apart.{apart}
use Rattle.sg_facts.proofs.Replaying.Found.{same_test}
use Rattle.sg_world_laws.proofs.Onseat.{seat_on}
use Rattle.sg_world_laws.proofs.Orders.{far}
use Rattle.sg_world_laws.proofs.Seating.{gone_is, length_at, seat_is, seated_append, seated_split, seqs_at}
use Rattle.sg_world_laws.proofs.Woken.{few_woken, length_woken, seq_woken, seqs_woken}
use Rattle.sg_world_laws.specs.Keeping.{IsSettledObject}
use Rattle.sg_world_laws.specs.Seats.{AreGone, AreSeated, HaveSeats, IsSeated, last_of}
use Rattle.sg_world_laws.specs.Setting.{IsSetting, Setting}

pub last_push : (xs : List Entry) (e : Entry) → last_of (xs ++ e ∷ []) ≡ Some e
last_push [] e = refl
last_push (x ∷ []) e = refl
last_push (x ∷ y ∷ xs) e = last_push (y ∷ xs) e

-- the entries of its own client are one more
pub own_calls : (h : List Entry) (e : Entry) (client : ℕ) → e.call.client ≡ client → calls_of (h ++ e ∷ []) client ≡ calls_of h client ++ e ∷ []
own_calls h e client its = filter-append (λ x. x.call.client == client) h (e ∷ []) ∙ ap (λ b. calls_of h client ++ cond b (e ∷ []) []) (same_test e.call.client client its)

pub numbered_push : (before h : List Entry) (e : Entry) → AreNumbered before h → e.call.seq ≡ length (calls_of (before ++ h) e.call.client) + 1 → AreNumbered before (h ++ e ∷ [])
numbered_push before [] e numbered next = (next ∙ ap (λ l. length (calls_of l e.call.client) + 1) (append-nil before), tt)
numbered_push before (x ∷ h) e numbered next =
    (numbered.0, numbered_push (before ++ x ∷ []) h e numbered.1 (next ∙ ap (λ l. length (calls_of l e.call.client) + 1) (sym (append_assoc before (x ∷ []) h))))

-- no entry of a client has a greater number than the client has entries
pub numbers_below : (before h : List Entry) (client : ℕ) → AreNumbered before h → Each (λ e. e.call.client ≡ client → e.call.seq ≤ length (calls_of (before ++ h) client)) h
numbers_below before [] client numbered = tt
numbers_below before (e ∷ h) client numbered =
    (own, subst (λ l. Each (λ x. x.call.client ≡ client → x.call.seq ≤ length (calls_of l client)) h) (append_assoc before (e ∷ []) h) (numbers_below (before ++ e ∷ []) h client numbered.1))
  where
    own : e.call.client ≡ client → e.call.seq ≤ length (calls_of (before ++ e ∷ h) client)
    own its =
        let all : length (calls_of (before ++ e ∷ h) client) ≡ length (calls_of before client) + length (calls_of (e ∷ h) client)
        = ap length (filter-append (λ x. x.call.client == client) before (e ∷ h)) ∙ length-append (calls_of before client) (calls_of (e ∷ h) client) in
        let one : length (calls_of (e ∷ h) client) ≡ suc (length (calls_of h client)) = ap (λ b. length (cond b (e ∷ calls_of h client) (calls_of h client))) (same_test e.call.client client its) in
        let next : e.call.seq ≡ length (calls_of before client) + 1 = numbered.0 ∙ ap (λ c. length (calls_of before c) + 1) its in
        omega (arith, all, one, next)

-- a client has an answered call: its reply is handed over, or to be handed over
abbrev pub IsAnsweredSeat : Reply → Phase → Reply → Type 0
IsAnsweredSeat given Idle reply = Unit {0}
IsAnsweredSeat given Receipted reply = reply ≡ given
IsAnsweredSeat given Asked reply = ⊥
IsAnsweredSeat given Held reply = ⊥
IsAnsweredSeat given Blocked reply = ⊥
IsAnsweredSeat given Left reply = ⊥

module _ (z : Setting) (set : IsSetting z) (h : List Entry) (withdrawn : List Withdrawn) (boots : ℕ) (front back : List Seat) (s : Seat) (have : HaveSeats z h withdrawn boots (front ++ s ∷ back))
    (object : IsSettledObject z h) (e : Entry) (its : e.call.client ≡ length front + 1) (next : e.call.seq ≡ s.seq + 1) (fits : e.call.seq < 2 ^ 32) (own : s.call ≡ e.call)
    (answered : answer z.iface z.ask (object_of z.iface.facts h) e.call ≡ Some e.reply) (may : MayBeMade z.iface e.call) (phase : Phase) (reply : Reply) (done : IsAnsweredSeat e.reply phase reply) where
  abbrev test : Call → Bool
  test = wakes_seat z.iface.facts (object_of z.iface.facts h).rows e.call e.reply

  abbrev new : Seat
  new = record s { phase = phase; seq = e.call.seq; reply = reply }

  far_h : slow + length h + 256 < 2 ^ 63
  far_h = let many = far z h withdrawn boots (front ++ s ∷ back) have in omega (arith, many)

  new_seated : IsSeated z (h ++ e ∷ []) (length front + 1) (record s { phase = phase; seq = e.call.seq; reply = reply })
  new_seated = by phase done
    where
      count : e.call.seq ≡ length (calls_of (h ++ e ∷ []) (length front + 1))
      count =
          let was = (seat_is z h withdrawn boots front back s have).count in
          let more : length (calls_of (h ++ e ∷ []) (length front + 1)) ≡ length (calls_of h (length front + 1)) + 1 = ap length (own_calls h e (length front + 1) its) ∙ length-append (calls_of h (length front + 1)) (e ∷ []) in
          omega (arith, was, more, next)

      by : (p : Phase) → IsAnsweredSeat e.reply p reply → IsSeated z (h ++ e ∷ []) (length front + 1) (record s { phase = p; seq = e.call.seq; reply = reply })
      by Idle is = record { its = λ isn't. absurd (cc isn't); next = λ isn't. absurd (cc isn't); may = λ isn't. absurd (cc isn't); waits = λ isn't. absurd (cc isn't); receipt = λ isn't. absurd (cc isn't); count = count; few = fits }
      by Receipted is = record {
        its = λ isn't. absurd (cc isn't);
        next = λ isn't. absurd (cc isn't);
        may = λ isn't. absurd (cc isn't);
        waits = λ isn't. absurd (cc isn't);
        receipt = λ one. ap last_of (own_calls h e (length front + 1) its) ∙ last_push (calls_of h (length front + 1)) e ∙ ap (λ c. Some (record { call = c; reply = e.reply })) (sym own) ∙ ap (λ r. Some (record { call = s.call; reply = r })) (sym is);
        count = count;
        few = fits;
      }
      by Asked is = absurd is
      by Held is = absurd is
      by Blocked is = absurd is
      by Left is = absurd is

  -- the others, from a number on
  others : (client : ℕ) (seats : List Seat) → ((k : ℕ) → k < length seats → client + k ≢ length front + 1) → AreSeated z h withdrawn client seats → AreSeated z (h ++ e ∷ []) withdrawn client (map (woken_seat (wakes_seat z.iface.facts (object_of z.iface.facts h).rows e.call e.reply)) seats)
  others client [] apart all = tt
  others client (x ∷ seats) apart all =
      let other : e.call.client ≢ client = λ same. apart 0 (omega arith) (let one : client + 0 ≡ length front + 1 = omega (arith, same, its) in one) in (
        seat_on z set h e object far_h answered may client x other all.0,
        subst (λ n. Each (λ y. y.call.client ≡ client → y.call.seq ≤ n + 1) withdrawn) (sym (seq_woken test x)) all.1,
        others (client + 1) seats (λ k less same. apart (suc k) (omega (arith, less)) (omega (arith, same))) all.2,
      )

  pub seats_entered : HaveSeats z (h ++ e ∷ []) withdrawn boots (map (woken_seat (wakes_seat z.iface.facts (object_of z.iface.facts h).rows e.call e.reply)) front ++ record s { phase = phase; seq = e.call.seq; reply = reply }
      ∷ map (woken_seat (wakes_seat z.iface.facts (object_of z.iface.facts h).rows e.call e.reply)) back)
  seats_entered =
      let parts = seated_split z h withdrawn 1 front (s ∷ back) have.each in
      let b = each_split (λ x. x.boot ≤ boots) front (s ∷ back) have.boots_few in
      let at_it : length front + 1 ≡ 1 + length front = omega arith in
      let n : length (map (woken_seat test) front) ≡ length front = length_woken test front in
      record {
        each = seated_append z (h ++ e ∷ []) withdrawn 1 (map (woken_seat test) front) (new ∷ map (woken_seat test) back) (others 1 front (λ k less. omega (arith, less)) parts.0)
            (subst (λ m. AreSeated z (h ++ e ∷ []) withdrawn (1 + m) (new ∷ map (woken_seat test) back)) (sym n)
            (subst (λ m. IsSeated z (h ++ e ∷ []) m new) at_it new_seated, subst (λ m. AreGone withdrawn m new) at_it gone_new, others ((1 + length front) + 1) back (λ k less. omega (arith, less)) parts.1.2));
        numbered = numbered_push [] h e have.numbered (let was = (seat_is z h withdrawn boots front back s have).count in next ∙ ap (λ x. x + 1) was ∙ ap (λ c. length (calls_of h c) + 1) (sym its));
        total =
            let one = seqs_at front back s in
            let two = seqs_at (map (woken_seat test) front) (map (woken_seat test) back) new in
            let x = seqs_woken test front in
            let y = seqs_woken test back in
            let l : length (h ++ e ∷ []) ≡ length h + 1 = length-append h (e ∷ []) in
            let total = have.total in
            omega (arith, one, two, x, y, l, total, next);
        few =
            let one = length_at front back s in
            let two = length_at (map (woken_seat test) front) (map (woken_seat test) back) new in
            let y = length_woken test back in
            let few = have.few in
            omega (arith, one, two, n, y, few);
        boots_few = each_append (λ x. x.boot ≤ boots) (map (woken_seat test) front) (new ∷ map (woken_seat test) back) (few_woken boots test front b.0) (b.1.0, few_woken boots test back b.1.1);
      }
    where
      gone_new : AreGone withdrawn (length front + 1) (record s { phase = phase; seq = e.call.seq; reply = reply })
      gone_new = each_map (λ x. x.call.client ≡ length front + 1 → x.call.seq ≤ s.seq + 1) (λ x. x.call.client ≡ length front + 1 → x.call.seq ≤ e.call.seq + 1) withdrawn
          (λ x so own_it. let less = so own_it in omega (arith, less, next)) (gone_is z h withdrawn boots front back s have)

-- Whoever an answered call wakes is found by the rows that are left after it.
use Rattle.std.proofs.Common.{Bool, List, [], ap, arith, cond, false, filter, inl, inr, map, not, refl, subst, suc, sym, true, zero, ℕ, length, ◌&&◌, ◌++◌, ◌-◌, ◌≤◌, ◌==◌, ◌||◌, ◌∙◌, ◌∷◌, ◌≡◌, ◌<◌}
use Rattle.std.specs.List.{list_any}
use Rattle.std.specs.Prelude.{nat_lt, slice_set}
use Rattle.std.proofs.lemmas.Bool.Decides.{eqb_tells, nat_tests}
use Rattle.sg_clients.specs.declared.phase.Phase.TheVariants.{Asked}
use Rattle.sg_facts.specs.sg_base.Lists.{Each}
use Rattle.sg_facts.specs.sg_base.declared.call.Call.{Call}
use Rattle.sg_facts.specs.sg_base.declared.reply.Good.{Good}
use Rattle.sg_facts.specs.sg_base.declared.reply.Code.{Code}
use Rattle.sg_facts.specs.sg_base.declared.reply.Reply.{Reply}
use Rattle.sg_facts.specs.sg_base.declared.reply.Reply.TheVariants.{Ok, Refused}
use Rattle.sg_facts.proofs.RowLists.{is_live-left}
use Rattle.sg_facts.specs.Allowed.{is_allowed}
use Rattle.sg_facts.specs.Facts.{Facts, Fun, fun_at}
use Rattle.sg_facts.specs.Kinds.{IsCall}
use Rattle.sg_facts.specs.Track.{ends_with, is_ancestor, is_live, nearest, new_row, row_at, rows_after}
use Rattle.sg_facts.specs.Inside.Rows.{parent_in, row_after, track}
use Rattle.sg_facts.specs.declared.row.Row.{Row}
use Rattle.sg_world_laws.specs.sg_recovery_laws.Midway.Progress.{IsNone}
use Rattle.sg_world_laws.proofs.sg_recovery_laws.Objects.Guarded.{acts, keeps}
use Rattle.sg_world_laws.proofs.sg_recovery_laws.Lists.{each_map}
use Rattle.sg_clients.specs.WorldView.{Seat, is_blocked_phase, seat_in, wakes_seat, woken_seat}
use Rattle.sg_world_laws.proofs.sg_clients.Lines.{seat_here}
use Rattle.sg_facts.proofs.Replaying.Found.{other_test, same_test}
use Rattle.sg_world.specs.Inside.Waiting.{WaitOnLive, refuses}

-- ---- seats that are woken

-- two tests that answer alike for whoever waits wake the same
woken_alike : (t u : Call → Bool) (seats : List Seat) → Each (λ s. is_blocked_phase s.phase ≡ true → t s.call ≡ u s.call) seats → map (woken_seat t) seats ≡ map (woken_seat u) seats
woken_alike t u [] alike = refl
woken_alike t u (s ∷ seats) alike = ap (λ x. x ∷ map (woken_seat t) seats) (at (is_blocked_phase s.phase) alike.0) ∙ ap (λ l. woken_seat u s ∷ l) (woken_alike t u seats alike.1)
  where
    at : (b : Bool) → (b ≡ true → t s.call ≡ u s.call) → cond (b && t s.call) (record s { phase = Asked }) s ≡ cond (b && u s.call) (record s { phase = Asked }) s
    at true same = ap (λ q. cond q (record s { phase = Asked }) s) (same refl)
    at false same = refl

-- a test that nothing meets wakes nobody
pub woken_none : (seats : List Seat) → map (woken_seat (λ c. false)) seats ≡ seats
woken_none [] = refl
woken_none (s ∷ seats) = ap (λ x. x ∷ map (woken_seat (λ c. false)) seats) (at (is_blocked_phase s.phase)) ∙ ap (λ l. s ∷ l) (woken_none seats)
  where
    at : (b : Bool) → cond (b && false) (record s { phase = Asked }) s ≡ s
    at true = refl
    at false = refl

-- one test after the other wakes whoever meets one of them
woken_twice : (t u : Call → Bool) (seats : List Seat) → map (woken_seat u) (map (woken_seat t) seats) ≡ map (woken_seat (λ c. t c || u c)) seats
woken_twice t u [] = refl
woken_twice t u (s ∷ seats) = ap (λ x. x ∷ map (woken_seat u) (map (woken_seat t) seats)) (at (is_blocked_phase s.phase) refl (t s.call)) ∙ ap (λ l. woken_seat (λ c. t c || u c) s ∷ l) (woken_twice t u seats)
  where
    at : (b : Bool) → is_blocked_phase s.phase ≡ b → (q : Bool) → woken_seat u (cond (b && q) (record s { phase = Asked }) s) ≡ cond (b && (q || u s.call)) (record s { phase = Asked }) s
    at true is true = refl
    at true is false = ap (λ b. cond (b && u s.call) (record s { phase = Asked }) s) is
    at false is q = ap (λ b. cond (b && u s.call) (record s { phase = Asked }) s) is

-- ---- tests

pub on_true : {A : Type 0} (b : Bool) (x y z : A) → b ≡ true → x ≡ y → x ≡ cond b y z
on_true b x y z is same = same ∙ sym (ap (λ q. cond q y z) is)

pub on_false : {A : Type 0} (b : Bool) (x y z : A) → b ≡ false → x ≡ z → x ≡ cond b y z
on_false b x y z is same = same ∙ sym (ap (λ q. cond q y z) is)

pub or_first : (a b : Bool) → a ≡ true → (a || b) ≡ true
or_first a b is = ap (λ q. q || b) is

pub or_second : (a b : Bool) → b ≡ true → (a || b) ≡ true
or_second true b is = refl
or_second false b is = is

pub or_none : (a b : Bool) → a ≡ false → b ≡ false → (a || b) ≡ false
or_none a b first second = ap (λ q. q || b) first ∙ second

pub and_both : (a b : Bool) → a ≡ true → b ≡ true → (a && b) ≡ true
and_both a b first second = ap (λ q. q && b) first ∙ second

pub and_not_first : (a b : Bool) → a ≡ false → (a && b) ≡ false
and_not_first a b is = ap (λ q. q && b) is

pub and_not_second : (a b : Bool) → b ≡ false → (a && b) ≡ false
and_not_second true b is = is
and_not_second false b is = refl

pub flip : (none some live : Bool) → some ≡ not none → some ≡ live → none ≡ not live
flip true some live is same = sym (ap not (sym same ∙ is))
flip false some live is same = sym (ap not (sym same ∙ is))

pub above_none : (d : ℕ) → 0 < d → nat_lt 0 d ≡ true
above_none d above = grind (arith, nat_tests, above)

-- ---- what a call ends

swap : (a b : ℕ) → (a == b) ≡ (b == a)
swap a b = elim (eqb_tells a b) [
  | inl same ↦ same.0 ∙ sym (same_test b a (sym same.1))
  | inr apart ↦ apart.0 ∙ sym (other_test b a (λ same. apart.1 (sym same)))
]

-- no ancestor is 0
never_zero : (rows : List Row) (most id : ℕ) → list_any (λ x. x == 0) (nearest rows most id) ≡ false
never_zero rows zero id = refl
never_zero rows (suc most) id = at (never_zero rows most (parent_in (row_at rows id))) (parent_in (row_at rows id) == 0) refl
  where
    at : list_any (λ x. x == 0) (nearest rows most (parent_in (row_at rows id))) ≡ false → (b : Bool) → (parent_in (row_at rows id) == 0) ≡ b → list_any (λ x. x == 0) (cond b [] (parent_in (row_at rows id) ∷ nearest rows most (parent_in (row_at rows id)))) ≡ false
    at rest true is = refl
    at rest false is = ap (λ q. q || list_any (λ x. x == 0) (nearest rows most (parent_in (row_at rows id)))) is ∙ rest

-- a descriptor is one, and has no row any more
abbrev pub is_gone : List Row → ℕ → Bool
is_gone rows d = nat_lt 0 d && not (is_live rows d)

-- an id that isn't left is nowhere among the rows that are left
none_left : (test : ℕ → Bool) (rows : List Row) (id : ℕ) → test id ≡ false → is_live (filter (λ r. test r.id) rows) id ≡ false
none_left test [] id out = refl
none_left test (r ∷ rows) id out = at (none_left test rows id out) (test r.id) refl
  where
    at : is_live (filter (λ x. test x.id) rows) id ≡ false → (b : Bool) → test r.id ≡ b → is_live (cond b (r ∷ filter (λ x. test x.id) rows) (filter (λ x. test x.id) rows)) id ≡ false
    at rest false is = rest
    at rest true is =
        ap (λ q. q || is_live (filter (λ x. test x.id) rows) id) (other_test r.id id (λ same. let wrong : true ≡ false = sym is ∙ ap test same ∙ out in absurd (cc wrong)))
        ∙ rest

-- a live id is live among the rows that are left where it is left
live_left : (test : ℕ → Bool) (rows : List Row) (id : ℕ) → is_live rows id ≡ true → is_live (filter (λ r. test r.id) rows) id ≡ test id
live_left test rows id live = at (test id) refl
  where
    at : (b : Bool) → test id ≡ b → is_live (filter (λ r. test r.id) rows) id ≡ test id
    at true is = is_live-left test rows id is ∙ live ∙ sym is
    at false is = none_left test rows id is ∙ sym is

module _ (facts : Facts) (rows : List Row) (call : Call) (good : Good) (allowed : is_allowed facts ≡ true) (is_call : IsCall facts call) where
  abbrev f : Fun
  f = fun_at facts.funs call.fun

  -- what ends a descriptor makes none
  no_make : (fun_at facts.funs call.fun).terminal ≡ true → (fun_at facts.funs call.fun).creation ≡ false
  no_make ends = at f.creation refl
    where
      at : (b : Bool) → (fun_at facts.funs call.fun).creation ≡ b → b ≡ false
      at false is = refl
      at true is = let none = ((acts facts call.fun allowed is_call.first is_call.last).makes is).1 in let wrong : true ≡ false = sym ends ∙ none in absurd (cc wrong)

  -- a query is on no descriptor
  asks_none : (fun_at facts.funs call.fun).query ≡ true → call.desc ≡ 0
  asks_none asks = let none = (keeps facts call.fun allowed is_call.first is_call.last).query asks in is_call.fits.desc none.0 none.1

  left_rows : (fun_at facts.funs call.fun).query ≡ false → (fun_at facts.funs call.fun).terminal ≡ true → rows_after facts rows call good ≡ filter (λ r. not (ends_with facts rows call.desc r.id)) rows
  left_rows asks ends =
      ap (λ b. cond b rows (cond f.creation (rows ++ new_row facts call good ∷ []) (cond f.terminal (filter (λ r. not (ends_with facts rows call.desc r.id)) rows) (map (λ r. cond (r.id == call.desc) (row_after facts call good r) r) rows)))) asks
      ∙ ap (λ b. cond b (rows ++ new_row facts call good ∷ []) (cond f.terminal (filter (λ r. not (ends_with facts rows call.desc r.id)) rows) (map (λ r. cond (r.id == call.desc) (row_after facts call good r) r) rows))) (no_make ends)
      ∙ ap (λ b. cond b (filter (λ r. not (ends_with facts rows call.desc r.id)) rows) (map (λ r. cond (r.id == call.desc) (row_after facts call good r) r) rows)) ends

  kept_rows : (fun_at facts.funs call.fun).query ≡ true → rows_after facts rows call good ≡ rows
  kept_rows asks = ap (λ b. cond b rows (cond f.creation (rows ++ new_row facts call good ∷ []) (cond f.terminal (filter (λ r. not (ends_with facts rows call.desc r.id)) rows) (map (λ r. cond (r.id == call.desc) (row_after facts call good r) r) rows)))) asks

  -- under subtree a live descriptor ends below the call's where it is gone
  gone_is : (fun_at facts.funs call.fun).terminal ≡ true → facts.subtree ≡ true → (d : ℕ) → IsNone rows d
      → ((call.desc == d) || is_gone (rows_after facts rows call good) d) ≡ ((call.desc == d) || is_ancestor rows call.desc d)
  gone_is ends under zero none = refl
  gone_is ends under (suc m) (inl none) = absurd (omega (arith, none))
  gone_is ends under (suc m) (inr live) = at f.query refl
    where
      above : nat_lt 0 (suc m) ≡ true
      above = grind (arith, nat_tests)

      double : (s a : Bool) → (s || not (not (s || a))) ≡ (s || a)
      double true a = refl
      double false true = refl
      double false false = refl

      at : (b : Bool) → (fun_at facts.funs call.fun).query ≡ b → ((call.desc == suc m) || (nat_lt 0 (suc m) && not (is_live (rows_after facts rows call good) (suc m)))) ≡ ((call.desc == suc m) || is_ancestor rows call.desc (suc m))
      at true asks =
          ap (λ l. (call.desc == suc m) || (nat_lt 0 (suc m) && not (is_live l (suc m)))) (kept_rows asks)
          ∙ ap (λ q. (call.desc == suc m) || (q && not (is_live rows (suc m)))) above
          ∙ ap (λ q. (call.desc == suc m) || not q) live
          ∙ ap (λ q. (call.desc == suc m) || q) (sym (ap (λ n. is_ancestor rows n (suc m)) (asks_none asks) ∙ never_zero rows (suc m) (suc m)))
      at false asks =
          ap (λ l. (call.desc == suc m) || (nat_lt 0 (suc m) && not (is_live l (suc m)))) (left_rows asks ends)
          ∙ ap (λ q. (call.desc == suc m) || (q && not (is_live (filter (λ r. not (ends_with facts rows call.desc r.id)) rows) (suc m)))) above
          ∙ ap (λ q. (call.desc == suc m) || not q) (live_left (λ n. not (ends_with facts rows call.desc n)) rows (suc m) live)
          ∙ ap (λ q. (call.desc == suc m) || not (not (q || (facts.subtree && is_ancestor rows call.desc (suc m))))) (swap (suc m) call.desc)
          ∙ ap (λ q. (call.desc == suc m) || not (not ((call.desc == suc m) || (q && is_ancestor rows call.desc (suc m))))) under
          ∙ double (call.desc == suc m) (is_ancestor rows call.desc (suc m))

  abbrev first : ℕ → Bool
  first d = (f.wakeup || f.terminal) && (call.desc == d)

  abbrev second : ℕ → Bool
  second d = (f.terminal && facts.subtree) && is_gone (rows_after facts rows call good) d

  -- so both tests together are that of the world
  both_are : (other : Call) → IsNone rows other.desc
      → ((((fun_at facts.funs call.fun).wakeup || (fun_at facts.funs call.fun).terminal) && (call.desc == other.desc)) || (((fun_at facts.funs call.fun).terminal && facts.subtree) && is_gone (rows_after facts rows call good) other.desc))
      ≡ wakes_seat facts rows call (Ok good) other
  both_are other none =
      by f.wakeup f.terminal facts.subtree (call.desc == other.desc) (is_gone (rows_after facts rows call good) other.desc) (is_ancestor rows call.desc other.desc) (λ t u. gone_is t u other.desc none) refl refl
      ∙ ap (λ q. (f.wakeup && (call.desc == other.desc)) || (f.terminal && (q || (facts.subtree && is_ancestor rows call.desc other.desc)))) (swap call.desc other.desc)
    where
      by : (w t u s g a : Bool) → ((fun_at facts.funs call.fun).terminal ≡ true → facts.subtree ≡ true → (s || g) ≡ (s || a)) → (fun_at facts.funs call.fun).terminal ≡ t → facts.subtree ≡ u
          → (((w || t) && s) || ((t && u) && g)) ≡ ((w && s) || (t && (s || (u && a))))
      by true false u s g a so t_is u_is = refl
      by false false u s g a so t_is u_is = refl
      by false true false s g a so t_is u_is = refl
      by false true true s g a so t_is u_is = so t_is u_is
      by true true false true g a so t_is u_is = refl
      by true true false false g a so t_is u_is = refl
      by true true true true g a so t_is u_is = refl
      by true true true false g a so t_is u_is = so t_is u_is

  -- whoever the call wakes, by one test after the other
  pub woken_so : (seats between later : List Seat) → Each (λ s. is_blocked_phase s.phase ≡ true → IsNone rows s.call.desc) seats
      → between ≡ cond ((fun_at facts.funs call.fun).wakeup || (fun_at facts.funs call.fun).terminal) (map (woken_seat (λ c. call.desc == c.desc)) seats) seats
      → later ≡ cond ((fun_at facts.funs call.fun).terminal && facts.subtree) (map (woken_seat (λ c. is_gone (rows_after facts rows call good) c.desc)) between) between
      → later ≡ map (woken_seat (wakes_seat facts rows call (Ok good))) seats
  woken_so seats between later each one two =
      two ∙ when (f.terminal && facts.subtree) (λ c. is_gone (rows_after facts rows call good) c.desc) between
      ∙ ap (map (woken_seat (λ c. second c.desc))) (one ∙ when (f.wakeup || f.terminal) (λ c. call.desc == c.desc) seats)
      ∙ woken_twice (λ c. first c.desc) (λ c. second c.desc) seats
      ∙ woken_alike (λ c. first c.desc || second c.desc) (wakes_seat facts rows call (Ok good)) seats
      (each_map (λ s. is_blocked_phase s.phase ≡ true → IsNone rows s.call.desc) (λ s. is_blocked_phase s.phase ≡ true → (first s.call.desc || second s.call.desc) ≡ wakes_seat facts rows call (Ok good) s.call) seats
      (λ s none blocked. both_are s.call (none blocked)) each)
    where
      when : (b : Bool) (t : Call → Bool) (l : List Seat) → cond b (map (woken_seat t) l) l ≡ map (woken_seat (λ c. b && t c)) l
      when true t l = refl
      when false t l = sym (woken_none l)

-- the same for an answered call, by the rows that are tracked after it
pub woken_by : (facts : Facts) (rows tracked : List Row) (call : Call) (reply : Reply) (seats between later : List Seat) (good : Good) → reply ≡ Ok good → tracked ≡ track facts rows call reply → WaitOnLive facts rows call seats
    → between ≡ cond ((fun_at facts.funs call.fun).wakeup || (fun_at facts.funs call.fun).terminal) (map (woken_seat (λ c. call.desc == c.desc)) seats) seats
    → later ≡ cond ((fun_at facts.funs call.fun).terminal && facts.subtree) (map (woken_seat (λ c. is_gone tracked c.desc)) between) between
    → later ≡ map (woken_seat (wakes_seat facts rows call reply)) seats
woken_by facts rows tracked call reply seats between later good is now waits one two =
    subst (λ r. later ≡ map (woken_seat (wakes_seat facts rows call r)) seats) (sym is)
    (woken_so facts rows call good waits.allowed waits.is_call seats between later waits.each one
    (subst (λ l. later ≡ cond ((fun_at facts.funs call.fun).terminal && facts.subtree) (map (woken_seat (λ c. is_gone l c.desc)) between) between) (now ∙ ap (track facts rows call) is) two))

-- a refusal wakes nobody
pub refusal_wakes : (facts : Facts) (rows : List Row) (call : Call) (reply : Reply) (seats : List Seat) (code : Code) → reply ≡ Refused code → seats ≡ map (woken_seat (wakes_seat facts rows call reply)) seats
refusal_wakes facts rows call reply seats code is = subst (λ r. seats ≡ map (woken_seat (wakes_seat facts rows call r)) seats) (sym is) (sym (woken_none seats))

-- where a reply refuses, it wakes nobody
pub refused_wakes : (facts : Facts) (rows : List Row) (call : Call) (reply : Reply) (seats : List Seat) → refuses reply ≡ true → seats ≡ map (woken_seat (wakes_seat facts rows call reply)) seats
refused_wakes facts rows call (Ok good) seats is = absurd (cc is)
refused_wakes facts rows call (Refused code) seats is = refusal_wakes facts rows call (Refused code) seats code refl

-- a reply that doesn't refuse is an Ok
pub answered_ok : (reply : Reply) → refuses reply ≡ false → (good : Good) × (reply ≡ Ok good)
answered_ok (Ok good) is = (good, refl)
answered_ok (Refused code) is = absurd (cc is)

pub refuses_so : (reply : Reply) (code : Code) → reply ≡ Refused code → refuses reply ≡ true
refuses_so reply code is = ap refuses is

-- the client's last call is the same where its seat was set, and not its call
pub same_call : (seats later : List Seat) (client : ℕ) (new : Seat) (got : Call) → 1 ≤ client → client ≤ length seats → later ≡ slice_set seats (client - 1) new → got ≡ (seat_in later client).call → got ≡ new.call
same_call seats later client new got first last set is = is ∙ ap (λ l. (seat_in l client).call) set ∙ ap (λ s. s.call) (seat_here seats client new first last)

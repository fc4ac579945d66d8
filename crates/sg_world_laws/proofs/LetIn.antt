-- A client's turn: its offered call is let in where the guard lets it pass.

-- ---- what others hold

-- what is held among seats is held by their clients, who offer it
use Rattle.std.proofs.Common.{Bool, List, None, Option, Some, [], ap, arith, cond, false, flat_map, if◌then◌else◌, inl, inr, length, map, refl, subst, sym, true, ℕ, ◌&&◌, ◌++◌, ◌+◌, ◌<◌, ◌==◌, ◌||◌, ◌∙◌, ◌∷◌, ◌≡◌, ◌≢◌, ◌≤◌}
use Rattle.std.proofs.lemmas.Bool.Decides.{nat_tests}
use Rattle.std.specs.List.{Contains}
use Rattle.sg_facts.specs.sg_base.Lists.{Each}
use Rattle.sg_facts.specs.sg_base.declared.call.Call.{Call}
use Rattle.sg_facts.proofs.RowLists.{live_of_row}
use Rattle.sg_facts.specs.Allowed.{is_allowed}
use Rattle.sg_facts.specs.Facts.{fun_at, takes_desc, takes_parent}
use Rattle.sg_facts.specs.Guard.{guard}
use Rattle.sg_facts.specs.Inside.Guards.{is_own, is_there, may_be_parent}
use Rattle.sg_facts.specs.Interface.{Declared}
use Rattle.sg_facts.specs.Kinds.{IsCall}
use Rattle.sg_facts.specs.Object.{Object, object_of}
use Rattle.sg_facts.specs.Trace.{Boot}
use Rattle.sg_facts.specs.Track.{is_live, row_at}
use Rattle.sg_facts.specs.WalkArray.{back}
use Rattle.sg_facts.specs.declared.entry.Entry.{Entry}
use Rattle.sg_facts.specs.declared.row.Row.{Row}
use Rattle.sg_facts.specs.declared.shape.Parents.{Parents}
use Rattle.sg_facts.specs.declared.shape.Parents.TheVariants.{Never, Same, Cross}
use Rattle.sg_recovery_laws.specs.Midway.Progress.{IsNone}
use Rattle.sg_recovery_laws.specs.sg_hist.Clients.{calls_of}
use Rattle.sg_recovery_laws.proofs.Objects.Guarded.{IsLetPass, keeps, let_pass}
use Rattle.sg_recovery_laws.specs.Objects.Waiting.{NoneBy}
use Rattle.sg_recovery_laws.proofs.Lists.{each_append, each_map}
use Rattle.sg_clients.specs.WorldView.{Seat, WorldView, held_in, held_replies, is_held_in, is_held_phase, is_offered, offered_by}
use Rattle.sg_clients.specs.declared.phase.Phase.{Phase}
use Rattle.sg_clients.specs.declared.phase.Phase.TheVariants.{Asked, Blocked, Held, Idle, Left, Receipted}
use Rattle.sg_clients.specs.declared.withdrawn.Withdrawn.{Withdrawn}
use Rattle.sg_world_laws.proofs.Entered.{numbers_below}
use Rattle.sg_world_laws.proofs.Lasts.{last_offered}
use Rattle.sg_world_laws.proofs.Onseat.{seat_passes}
use Rattle.sg_world_laws.proofs.Orders.{far_now}
use Rattle.sg_world_laws.proofs.Seating.{held_at, own_offered, seat_is, seated_split}
use Rattle.sg_world_laws.specs.Keeping.{KeepsPromise, Stub, standing}
use Rattle.sg_world_laws.specs.Seats.{AreSeated, HaveSeats, IsSeated}
use Rattle.sg_world_laws.specs.Setting.{IsSetting, Setting}
use Rattle.sg_world_laws.specs.Turns.{IsLetIn}

held_clients : (z : Setting) (h : List Entry) (withdrawn : List Withdrawn) (boot client : ℕ) (seats : List Seat) → AreSeated z h withdrawn client seats
    → Each (λ e. (client ≤ e.call.client) × (e.call.client < client + length seats)) (held_in boot seats)
held_clients z h withdrawn boot client [] all = tt
held_clients z h withdrawn boot client (s ∷ seats) all = at (is_held_in boot s) refl (wider (held_clients z h withdrawn boot (client + 1) seats all.2))
  where
    wider : Each (λ e. ((client + 1) ≤ e.call.client) × (e.call.client < (client + 1) + length seats)) (held_in boot seats) → Each (λ e. (client ≤ e.call.client) × (e.call.client < client + length (s ∷ seats))) (held_in boot seats)
    wider = each_map (λ e. ((client + 1) ≤ e.call.client) × (e.call.client < (client + 1) + length seats)) (λ e. (client ≤ e.call.client) × (e.call.client < client + length (s ∷ seats))) (held_in boot seats)
        (λ e within. let low = within.0 in let high = within.1 in (omega (arith, low), omega (arith, high)))

    offers : (p : Phase) → is_held_in boot (record s { phase = p }) ≡ true → is_offered p ≡ true
    offers Held is = refl
    offers Asked is = refl
    offers Blocked is = refl
    offers Idle is = absurd (cc is)
    offers Receipted is = absurd (cc is)
    offers Left is = absurd (cc is)

    at : (q : Bool) → is_held_in boot s ≡ q → Each (λ e. (client ≤ e.call.client) × (e.call.client < client + length (s ∷ seats))) (held_in boot seats)
        → Each (λ e. (client ≤ e.call.client) × (e.call.client < client + length (s ∷ seats))) (if q then record { call = s.call; reply = s.reply } ∷ held_in boot seats else held_in boot seats)
    at false is rest = rest
    at true is rest = let its = all.0.its (offers s.phase is) in ((omega (arith, its), omega (arith, its)), rest)

-- a client that holds nothing has no reply among those that are held
pub none_held_by : (z : Setting) (h : List Entry) (withdrawn : List Withdrawn) (boot : ℕ) (front back : List Seat) (s : Seat) → AreSeated z h withdrawn 1 (front ++ s ∷ back) → is_held_in boot s ≡ false
    → NoneBy (length front + 1) (held_in boot (front ++ s ∷ back))
none_held_by z h withdrawn boot front back s all isn't =
    let parts = seated_split z h withdrawn 1 front (s ∷ back) all in
    subst (NoneBy (length front + 1)) (sym (held_at boot front back s ∙ ap (λ q. held_in boot front ++ ((if q then record { call = s.call; reply = s.reply } ∷ [] else []) ++ held_in boot back)) isn't))
    (each_append (λ e. e.call.client ≢ length front + 1) (held_in boot front) (held_in boot back)
    (each_map (λ e. (1 ≤ e.call.client) × (e.call.client < 1 + length front)) (λ e. e.call.client ≢ length front + 1) (held_in boot front) (λ e within same. let high = within.1 in omega (arith, high, same)) (held_clients z h withdrawn boot 1 front parts.0))
    (each_map (λ e. ((1 + length front) + 1 ≤ e.call.client) × (e.call.client < ((1 + length front) + 1) + length back)) (λ e. e.call.client ≢ length front + 1) (held_in boot back)
    (λ e within same. let low = within.0 in omega (arith, low, same)) (held_clients z h withdrawn boot ((1 + length front) + 1) back parts.1.2)))

-- ---- let in

module _ (z : Setting) (set : IsSetting z) (w : WorldView) (b : Boot) (boots : List Boot) (running : Option Object) (stub : Stub) (k : KeepsPromise z (standing w b boots running) stub)
    (front back : List Seat) (s : Seat) (is : w.seats ≡ front ++ s ∷ back) (offers : is_offered s.phase ≡ true) (isn't : is_held_phase s.phase ≡ false) where
  have : HaveSeats z w.history w.withdrawn (length (b ∷ boots)) (front ++ s ∷ back)
  have = subst (HaveSeats z w.history w.withdrawn (length (b ∷ boots))) is k.seats

  seated : IsSeated z w.history (length front + 1) s
  seated = seat_is z w.history w.withdrawn (length (b ∷ boots)) front back s have

  none : NoneBy (length front + 1) (held_replies (standing w b boots running))
  none = by running
    where
      by : (r : Option Object) → NoneBy (length front + 1) (held_replies (standing w b boots r))
      by None = tt
      by (Some v) = subst (λ l. NoneBy (length front + 1) (held_in (length (b ∷ boots)) l)) (sym is)
          (none_held_by z w.history w.withdrawn (length (b ∷ boots)) front back s have.each (ap (λ q. q && (s.boot == length (b ∷ boots))) isn't))

  -- the client's call, which the guard lets pass, is under way and its last
  pub let_in : guard z.iface (object_of z.iface.facts w.history) s.call ≡ None → IsLetIn z (standing w b boots running) s.call
  let_in lets = record {
    passes = seat_passes z set w.history s.call k.object (let many = far_now z set w b boots running stub k in omega (arith, many)) (seated.may offers) lets;
    guarded = lets;
    may = seated.may offers;
    none_by = subst (λ c. NoneBy c (held_replies (standing w b boots running))) (sym its) none;
    above = each_append (λ e. e.call.client ≡ s.call.client → e.call.seq < s.call.seq) w.history (held_replies (standing w b boots running)) below (each_map (λ e. e.call.client ≢ length front + 1) (λ e. e.call.client ≡ s.call.client → e.call.seq < s.call.seq)
        (held_replies (standing w b boots running)) (λ e other same. absurd (other (same ∙ its))) none);
    made = subst (λ l. Contains (flat_map offered_by l ++ map (λ x. x.call) w.withdrawn) s.call) (sym is) (own_offered front back s (map (λ x. x.call) w.withdrawn) offers);
    last = λ x has own. last_offered z w.history w.withdrawn (length (b ∷ boots)) front back s have offers x (subst (λ l. Contains (flat_map offered_by l ++ map (λ y. y.call) w.withdrawn) x) is has) own;
  }
    where
      its : s.call.client ≡ length front + 1
      its = seated.its offers

      next : s.call.seq ≡ s.seq + 1
      next = seated.next offers

      below : Each (λ e. e.call.client ≡ s.call.client → e.call.seq < s.call.seq) w.history
      below = each_map (λ e. e.call.client ≡ length front + 1 → e.call.seq ≤ length (calls_of w.history (length front + 1))) (λ e. e.call.client ≡ s.call.client → e.call.seq < s.call.seq) w.history
          (λ e so same. let few = so (same ∙ its) in let count = seated.count in omega (arith, few, count, next)) (numbers_below [] w.history (length front + 1) have.numbered)

-- ---- its descriptor

-- the descriptor or parent of a call that is let in is none, or live
pub desc_there : (i : Declared) (o : Object) (call : Call) → IsCall i.facts call → is_allowed i.facts ≡ true → guard i o call ≡ None → IsNone o.rows call.desc
desc_there i o call is_call allowed lets = by_query (fun_at i.facts.funs call.fun).query refl
  where
    by_query : (q : Bool) → (fun_at i.facts.funs call.fun).query ≡ q → IsNone o.rows call.desc
    by_query true query = let k = (keeps i.facts call.fun allowed is_call.first is_call.last).query query in inl (is_call.fits.desc k.0 k.1)
    by_query false row = by_takes (takes_parent (fun_at i.facts.funs call.fun)) (takes_desc (fun_at i.facts.funs call.fun)) refl refl
      where
        pass : IsLetPass i o call
        pass = let_pass i o call row lets

        by_takes : (p d : Bool) → takes_parent (fun_at i.facts.funs call.fun) ≡ p → takes_desc (fun_at i.facts.funs call.fun) ≡ d → IsNone o.rows call.desc
        by_takes p true takes_p takes_d = inr (used i.facts.global (row_at o.rows call.desc) refl (pass.desc takes_d))
          where
            used : (g : Bool) (found : Option Row) → row_at o.rows call.desc ≡ found → cond g (is_there found) (is_own found call.client) ≡ true → is_live o.rows call.desc ≡ true
            used g (Some r) is may = live_of_row o.rows call.desc r is
            used true None is may = absurd (cc may)
            used false None is may = absurd (cc may)
        by_takes false false takes_p takes_d = inl (is_call.fits.desc takes_d takes_p)
        by_takes true false takes_p takes_d = parent i.facts.parents (row_at o.rows call.desc) refl (pass.parent takes_p)
          where
            zero : (n : ℕ) → (n == 0) ≡ true → n ≡ 0
            zero n is = grind (arith, nat_tests, is)

            parent : (ps : Parents) (found : Option Row) → row_at o.rows call.desc ≡ found → may_be_parent ps found call.desc call.client ≡ true → IsNone o.rows call.desc
            parent ps (Some r) is may = inr (live_of_row o.rows call.desc r is)
            parent Never None is may = absurd (cc may)
            parent Cross None is may = absurd (cc may)
            parent Same None is may = inl (zero call.desc (or_false (call.desc == 0) may))
              where
                or_false : (a : Bool) → (a || false) ≡ true → a ≡ true
                or_false true is = refl
                or_false false is = absurd (cc is)

-- What a step of a world does to the calls of a play.
use Rattle.std.proofs.Common.{◌≡◌, ℕ, ◌+◌, ◌-◌, ◌≤◌, true, false, cond, List, [], ◌∷◌, ◌++◌, length, map, refl, sym, ◌∙◌, ap, subst, inl, inr, arith, slice_set}
use Rattle.sg_facts.specs.sg_base.declared.reply.Reply.{Reply}
use Rattle.sg_facts.specs.declared.entry.Entry.{Entry}
use Rattle.sg_facts.specs.Object.{object_of}
use Rattle.sg_plain.specs.sg_clients.WorldView.{Seat, WorldView, answered_to, committed, given_to, is_offered, no_reply, seat_in, seat_of, wakes_seat, with_seat, woken_seat}
use Rattle.sg_plain.specs.sg_clients.declared.phase.Phase.{Phase}
use Rattle.sg_plain.specs.sg_clients.declared.phase.Phase.TheVariants.{Idle, Asked, Held, Receipted, Blocked, Left}
use Rattle.sg_world.specs.declared.did.Did.{Did}
use Rattle.sg_world.specs.declared.did.Did.TheVariants.{Answered, Blocked as Waits, Booted, Loaded, Lost, Replayed, Served, Skipped, Struck}
use Rattle.sg_world.specs.Steps.{Boots, Commits, Loses, Skips, Steps}
use Rattle.sg_world.specs.sg_world_laws.Setting.{Setting}
use Rattle.sg_plain.specs.Playing.Callers.{EntersCall, EntersNothing, StepsOn, handed, is_receipted}
use Rattle.sg_plain.proofs.Playing.Lines.{line_entered, line_same, line_set, line_woken, handed_woken}
use Rattle.sg_plain.proofs.sg_clients.Lines.{seat_here, length_map, seat_woken}

-- who offers a call has no receipt
offers_none : (p : Phase) → is_offered p ≡ true → is_receipted p ≡ false
offers_none Idle is = refl
offers_none Asked is = refl
offers_none Held is = refl
offers_none Receipted is = absurd (cc is)
offers_none Blocked is = refl
offers_none Left is = refl

handed_offering : (s : Seat) → is_offered s.phase ≡ true → handed s ≡ s.seq
handed_offering s is = ap (λ b. cond b (s.seq - 1) s.seq) (offers_none s.phase is)

-- a step that hands nothing over
pub record IsQuiet (w : WorldView) (c : ℕ) (later : WorldView) : Type 0 where
  pub on : StepsOn w.history w.seats c later.history later.seats
  pub same : handed (seat_of later c) ≡ handed (seat_of w c)

-- a step that hands a reply over
pub record IsHandedTo (w : WorldView) (c : ℕ) (later : WorldView) : Type 0 where
  pub on : StepsOn w.history w.seats c later.history later.seats
  pub one_more : handed (seat_of later c) ≡ handed (seat_of w c) + 1
  pub idle : (seat_of later c).phase ≡ Idle

module _ (z : Setting) (w : WorldView) (c : ℕ) (first : 1 ≤ c) (last : c ≤ length w.seats) (its : is_offered (seat_of w c).phase ≡ true → (seat_of w c).call.client ≡ c)
    (number : is_offered (seat_of w c).phase ≡ true → (seat_of w c).call.seq ≡ (seat_of w c).seq + 1) where
  abbrev s : Seat
  s = seat_of w c

  quiet_same : IsQuiet w c w
  quiet_same = record { on = inl (line_same w.history w.seats c); same = refl }

  -- the client's seat changes, while its call isn't answered
  quiet_set : (p : Phase) (boot : ℕ) (reply : Reply) → is_offered s.phase ≡ true → is_receipted p ≡ false → IsQuiet w c (with_seat w c (record s { phase = p; boot = boot; reply = reply }))
  quiet_set p boot reply offers none =
      let new : Seat = record s { phase = p; boot = boot; reply = reply } in
      let here : seat_in (slice_set w.seats (c - 1) new) c ≡ new = seat_here w.seats c new first last in
      let handed_new : handed new ≡ s.seq = ap (λ b. cond b (s.seq - 1) s.seq) none in
      let same : handed new ≡ handed s = handed_new ∙ sym (handed_offering s offers) in
      record {
        on = inl (line_set w.history w.seats c new first last (record { offered = λ is. offers; call = refl; seq = refl }) (omega (arith, same)));
        same = ap handed here ∙ same;
      }

  -- ---- an entry

  abbrev entry_with : Reply → Entry
  entry_with reply = record { call = s.call; reply = reply }

  abbrev woken : Reply → List Seat
  woken reply = map (woken_seat (wakes_seat z.iface.facts (object_of z.iface.facts w.history).rows s.call reply)) w.seats

  within : (reply : Reply) → c ≤ length (woken reply)
  within reply = omega (arith, last, length_map (woken_seat (wakes_seat z.iface.facts (object_of z.iface.facts w.history).rows s.call reply)) w.seats)

  -- the client's seat after the entry
  abbrev behind : Reply → Phase → Reply → Seat
  behind reply p kept = record (seat_in (woken reply) c) { phase = p; seq = s.call.seq; reply = kept }

  entered : (reply : Reply) (p : Phase) (kept : Reply) → is_offered s.phase ≡ true → is_offered p ≡ false → handed s ≤ handed (behind reply p kept)
      → EntersCall w.history w.seats c (w.history ++ entry_with reply ∷ []) (slice_set (woken reply) (c - 1) (behind reply p kept))
  entered reply p kept offers not more =
      line_entered w.history w.seats c (wakes_seat z.iface.facts (object_of z.iface.facts w.history).rows s.call reply) reply (behind reply p kept) first last offers not refl more

  commit_quiet : (reply : Reply) → is_offered s.phase ≡ true → (later : WorldView) → later.history ≡ w.history ++ entry_with reply ∷ []
      → later.seats ≡ slice_set (woken reply) (c - 1) (behind reply Receipted reply) → IsQuiet w c later
  commit_quiet reply offers later history seats =
      let new = behind reply Receipted reply in
      let same : handed new ≡ handed s = ap (λ n. n - 1) (number offers) ∙ omega arith ∙ sym (handed_offering s offers) in
      record {
        on = inr (subst (λ h. EntersCall w.history w.seats c h later.seats) (sym history) (subst (EntersCall w.history w.seats c (w.history ++ entry_with reply ∷ [])) (sym seats)
            (entered reply Receipted reply offers refl (omega (arith, same)))));
        same = ap (λ l. handed (seat_in l c)) seats ∙ ap handed (seat_here (woken reply) c new first (within reply)) ∙ same;
      }

  commit_handed : (reply : Reply) → is_offered s.phase ≡ true → (later : WorldView) → later.history ≡ w.history ++ entry_with reply ∷ []
      → later.seats ≡ slice_set (woken reply) (c - 1) (behind reply Idle no_reply) → IsHandedTo w c later
  commit_handed reply offers later history seats =
      let new = behind reply Idle no_reply in
      let here = ap (λ l. seat_in l c) seats ∙ seat_here (woken reply) c new first (within reply) in
      let more : handed new ≡ handed s + 1 = number offers ∙ ap (λ n. n + 1) (sym (handed_offering s offers)) in
      record {
        on = inr (subst (λ h. EntersCall w.history w.seats c h later.seats) (sym history) (subst (EntersCall w.history w.seats c (w.history ++ entry_with reply ∷ [])) (sym seats)
            (entered reply Idle no_reply offers refl (omega (arith, more)))));
        one_more = ap handed here ∙ more;
        idle = ap (λ x. x.phase) here;
      }

  -- the seats of a world with an entry, whose client has its reply to be handed over, or handed over
  given_seats : (reply : Reply) → is_offered s.phase ≡ true → (given_to (committed z.iface.facts w (entry_with reply)) (entry_with reply)).seats ≡ slice_set (woken reply) (c - 1) (behind reply Receipted reply)
  given_seats reply offers = ap (λ n. slice_set (woken reply) (n - 1) (record (seat_in (woken reply) n) { phase = Receipted; seq = s.call.seq; reply = reply })) (its offers)

  answered_seats : (reply : Reply) → is_offered s.phase ≡ true → (answered_to (committed z.iface.facts w (entry_with reply)) (entry_with reply)).seats ≡ slice_set (woken reply) (c - 1) (behind reply Idle no_reply)
  answered_seats reply offers = ap (λ n. slice_set (woken reply) (n - 1) (record (seat_in (woken reply) n) { phase = Idle; seq = s.call.seq; reply = no_reply })) (its offers)

  -- ---- the lines

  offers_by : (p : Phase) → s.phase ≡ p → is_offered p ≡ true → is_offered s.phase ≡ true
  offers_by p is offers = ap is_offered is ∙ offers

  skips : (later : WorldView) → Skips z w c later → IsQuiet w c later
  skips later l = subst (IsQuiet w c) (sym l.now) quiet_same

  loses : (later : WorldView) → Loses z w c later → IsQuiet w c later
  loses later l = subst (IsQuiet w c) (sym l.now) (quiet_set Asked s.boot s.reply (offers_by Held l.phase refl) refl)

  boots : (later : WorldView) → Boots z w c later → IsQuiet w c later
  boots later l = subst (IsQuiet w c) (sym l.now) (record {
    on = inl (line_woken w.history w.seats c (λ call. true));
    same = ap handed (seat_woken (λ call. true) w.seats c) ∙ handed_woken (λ call. true) s;
  })

  -- only the service and its run change
  used : (later : WorldView) → later.history ≡ w.history → later.seats ≡ w.seats → IsQuiet w c later
  used later history seats = record {
    on = inl (subst (λ h. EntersNothing w.history w.seats c h later.seats) (sym history) (subst (EntersNothing w.history w.seats c w.history) (sym seats) (line_same w.history w.seats c)));
    same = ap (λ l. handed (seat_in l c)) seats;
  }

  -- and the seat of the client
  used_set : (later : WorldView) (p : Phase) (boot : ℕ) (reply : Reply) → is_offered s.phase ≡ true → is_receipted p ≡ false → later.history ≡ w.history
      → later.seats ≡ slice_set w.seats (c - 1) (record s { phase = p; boot = boot; reply = reply }) → IsQuiet w c later
  used_set later p boot reply offers none history seats =
      let q = quiet_set p boot reply offers none in
      record {
        on = subst (λ h. StepsOn w.history w.seats c h later.seats) (sym history) (subst (StepsOn w.history w.seats c w.history) (sym seats) q.on);
        same = ap (λ l. handed (seat_in l c)) seats ∙ q.same;
      }

  commits : (between : WorldView) → Commits z w c between → IsQuiet w c between
  commits between l =
      let offers = offers_by Asked l.asks.reaches.uses.let_in.phase refl in
      commit_quiet l.reply offers between (ap (λ x. x.history) l.now) (ap (λ x. x.seats) l.now ∙ given_seats l.reply offers)

  pub quiet_step : (did : Did) (later : WorldView) → ((reply : Reply) → did ≡ Answered reply → ⊥) → Steps z w c did later → IsQuiet w c later
  quiet_step Skipped later none l = skips later l
  quiet_step (Answered reply) later none l = absurd (none reply refl)
  quiet_step Lost later none l = loses later l
  quiet_step Booted later none l = boots later l
  quiet_step Struck later none (inl l) = used later (ap (λ x. x.history) l.now) (ap (λ x. x.seats) l.now)
  quiet_step Struck later none (inr (inl l)) = used later (ap (λ x. x.history) l.now) (ap (λ x. x.seats) l.now)
  quiet_step Struck later none (inr (inr (inl l))) = used later (ap (λ x. x.history) l.now) (ap (λ x. x.seats) l.now)
  quiet_step Struck later none (inr (inr (inr l))) =
      let q = commits l.between l.commits in
      record {
        on = subst (λ (x : WorldView). StepsOn w.history w.seats c x.history x.seats) (sym l.now) q.on;
        same = ap (λ x. handed (seat_of x c)) l.now ∙ q.same;
      }
  quiet_step Replayed later none l = used later (ap (λ x. x.history) l.now) (ap (λ x. x.seats) l.now)
  quiet_step Loaded later none l = used later (ap (λ x. x.history) l.now) (ap (λ x. x.seats) l.now)
  quiet_step Waits later none l = used_set later Blocked s.boot s.reply (offers_by Asked l.asks.reaches.uses.let_in.phase refl) refl (ap (λ x. x.history) l.now) (ap (λ x. x.seats) l.now)
  quiet_step Served later none (inl l) =
      let q = commits l.between l.commits in
      record {
        on = subst (λ (x : WorldView). StepsOn w.history w.seats c x.history x.seats) (sym l.now) q.on;
        same = ap (λ x. handed (seat_of x c)) l.now ∙ q.same;
      }
  quiet_step Served later none (inr l) =
      used_set later Held (length w.run.boots) l.reply (offers_by Asked l.asks.reaches.uses.let_in.phase refl) refl (ap (λ x. x.history) l.now) (ap (λ x. x.seats) l.now)

  pub handed_step : (reply : Reply) (later : WorldView) → (later.history ≡ w.history → 1 ≤ s.seq) → Steps z w c (Answered reply) later → IsHandedTo w c later
  handed_step reply later some (inl l) =
      let new : Seat = record s { phase = Idle; reply = no_reply } in
      let seats : later.seats ≡ slice_set w.seats (c - 1) new = ap (λ x. x.seats) l.now in
      let here : seat_of later c ≡ new = ap (λ x. seat_in x c) seats ∙ seat_here w.seats c new first last in
      let receipted : is_receipted s.phase ≡ true = ap is_receipted l.phase in
      let was : handed s ≡ s.seq - 1 = ap (λ b. cond b (s.seq - 1) s.seq) receipted in
      let more : s.seq ≡ handed s + 1 = omega (arith, was, some (ap (λ x. x.history) l.now)) in
      record {
        on = inl (subst (λ h. EntersNothing w.history w.seats c h later.seats) (sym (ap (λ x. x.history) l.now)) (subst (EntersNothing w.history w.seats c w.history) (sym seats)
            (line_set w.history w.seats c new first last (record { offered = λ is. absurd (cc is); call = refl; seq = refl }) (omega (arith, more)))));
        one_more = ap handed here ∙ more;
        idle = ap (λ x. x.phase) here;
      }
  handed_step reply later some (inr (inl l)) =
      let offers = offers_by Held l.phase refl in
      commit_handed reply offers later (ap (λ x. x.history) l.now) (ap (λ x. x.seats) l.now ∙ answered_seats reply offers)
  handed_step reply later some (inr (inr l)) =
      let offers = offers_by Asked l.phase refl in
      commit_handed reply offers later (ap (λ x. x.history) l.now) (ap (λ x. x.seats) l.now ∙ answered_seats reply offers)

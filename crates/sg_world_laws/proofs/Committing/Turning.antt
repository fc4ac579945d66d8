-- The seats of a world after a client's turn in which its call was served: its reply is given to it with its entry, or it holds it.
use Rattle.std.proofs.Common.{◌≡◌, ℕ, ◌+◌, ◌^◌, ◌<◌, Bool, true, false, List, [], ◌∷◌, ◌++◌, Some, length, map, refl, sym, ◌∙◌, ap, subst, inl, inr, ◌⊎◌, arith}
use Rattle.std.specs.Prelude.{◌==◌, ◌&&◌, if◌then◌else◌}
use Rattle.std.specs.List.{Contains, flat_map}
use Rattle.std.specs.declared.option.Option.{Option}
use Rattle.sg_facts.specs.sg_base.declared.call.Call.{Call}
use Rattle.sg_facts.specs.sg_base.declared.reply.Reply.{Reply}
use Rattle.sg_world_laws.specs.Committing.Serving.{IsCommittedIn, IsHeldBy, IsServedCall}
use Rattle.sg_facts.specs.declared.entry.Entry.{Entry}
use Rattle.sg_facts.specs.declared.outcome.Patch.{Patch}
use Rattle.sg_facts.specs.declared.trace.Item.{Item}
use Rattle.sg_facts.specs.Alike.{under_names}
use Rattle.sg_facts.specs.Inside.Rows.{refused_or}
use Rattle.sg_facts.specs.Object.{Object, after, object_of}
use Rattle.sg_facts.specs.Trace.{Boot}
use Rattle.sg_recovery_laws.specs.sg_hist.Growing.{noted}
use Rattle.sg_clients.specs.WorldView.{Seat, WorldView, held_in, is_held_in, is_held_phase, is_offered, offered_by, unanswered, wakes_seat, woken_seat}
use Rattle.sg_clients.specs.declared.phase.Phase.{Phase}
use Rattle.sg_clients.specs.declared.phase.Phase.TheVariants.{Asked, Blocked, Held, Idle, Left, Receipted}
use Rattle.sg_world_laws.specs.Keeping.{KeepsPromise, Stub, standing}
use Rattle.sg_world_laws.specs.Seats.{HaveSeats, IsSeated}
use Rattle.sg_world_laws.specs.Setting.{IsSetting, Setting}
use Rattle.sg_world_laws.proofs.Entered.{IsAnsweredSeat, seats_entered}
use Rattle.sg_facts.proofs.Replaying.Found.{same_test}
use Rattle.sg_world_laws.proofs.Seating.{gone_is, held_at, offered_at, one_is, own_offered, seat_is, seats_set, still_offered}
use Rattle.sg_world_laws.proofs.Woken.{held_woken, offered_woken}

module _ (z : Setting) (set : IsSetting z) (w : WorldView) (b : Boot) (boots : List Boot) (v : Object) (stub : Stub) (k : KeepsPromise z (standing w b boots (Some v)) stub)
    (front back : List Seat) (st : Seat) (is : w.seats ≡ front ++ st ∷ back) (offers : is_offered st.phase ≡ true) (isn't : is_held_phase st.phase ≡ false)
    (item : Item) (reply other : Reply) (patch : Option Patch) (s : IsServedCall z (standing w b boots (Some v)) stub v st.call item reply other patch) where
  abbrev n : ℕ
  n = length (b ∷ boots)

  abbrev e : Entry
  e = record { call = st.call; reply = reply }

  abbrev test : Call → Bool
  test = wakes_seat z.iface.facts (object_of z.iface.facts w.history).rows st.call reply

  have : HaveSeats z w.history w.withdrawn (length (b ∷ boots)) (front ++ st ∷ back)
  have = subst (HaveSeats z w.history w.withdrawn n) is k.seats

  seated : IsSeated z w.history (length front + 1) st
  seated = seat_is z w.history w.withdrawn n front back st have

  -- it held nothing
  held_before : held_in (length (b ∷ boots)) w.seats ≡ held_in (length (b ∷ boots)) front ++ held_in (length (b ∷ boots)) back
  held_before = ap (held_in n) is ∙ held_at n front back st
      ∙ ap (λ q. held_in n front ++ ((if q && (st.boot == n) then record { call = st.call; reply = st.reply } ∷ [] else []) ++ held_in n back)) isn't

  -- a call that isn't answered stays so, but for its own
  others_left : (new : Seat) (x : Call) → Contains (unanswered (standing w b boots (Some v))) x
      → (x ≡ st.call) ⊎ Contains (flat_map offered_by (front ++ new ∷ back) ++ map (λ y. y.call) w.withdrawn) x
  others_left new x has =
      elim (still_offered front back st new (map (λ y. y.call) w.withdrawn) (map (λ y. y.call) w.withdrawn) x (λ y is. is) (subst (λ l. Contains (flat_map offered_by l ++ map (λ y. y.call) w.withdrawn) x) is has)) [
        | inl mine ↦ inl (one_is st.call x (subst (λ q. Contains (if q then st.call ∷ [] else []) x) offers mine))
        | inr rest ↦ inr rest
      ]

  -- ---- its reply is given to it with its entry

  module _ (fits : st.call.seq < 2 ^ 32) (phase : Phase) (given : Reply) (done : IsAnsweredSeat reply phase given) (w' : WorldView)
      (history : w'.history ≡ w.history ++ (record { call = st.call; reply = reply }) ∷ []) (grown : w'.run.boots ≡ noted (b ∷ boots) item) (running : w'.running ≡ Some (after z.iface.facts v (under_names stub.names st.call) other))
      (withdrawn : w'.withdrawn ≡ w.withdrawn)
      (seats : w'.seats ≡ map (woken_seat (wakes_seat z.iface.facts (object_of z.iface.facts w.history).rows st.call reply)) front ++ record st { phase = phase; seq = st.call.seq; reply = given }
      ∷ map (woken_seat (wakes_seat z.iface.facts (object_of z.iface.facts w.history).rows st.call reply)) back) where
    abbrev new : Seat
    new = record st { phase = phase; seq = st.call.seq; reply = given }

    none_new : is_held_in (length (b ∷ boots)) new ≡ false
    none_new = by phase done
      where
        by : (p : Phase) → IsAnsweredSeat reply p given → is_held_in n (record st { phase = p; seq = st.call.seq; reply = given }) ≡ false
        by Idle done = refl
        by Receipted done = refl
        by Asked done = absurd done
        by Held done = absurd done
        by Blocked done = absurd done
        by Left done = absurd done

    held_now : held_in (length (b ∷ boots)) w'.seats ≡ held_in (length (b ∷ boots)) w.seats
    held_now =
        ap (held_in n) seats ∙ held_at n (map (woken_seat test) front) (map (woken_seat test) back) new
        ∙ ap (λ q. held_in n (map (woken_seat test) front) ++ ((if q then record { call = new.call; reply = new.reply } ∷ [] else []) ++ held_in n (map (woken_seat test) back))) none_new
        ∙ ap (λ l. l ++ held_in n (map (woken_seat test) back)) (held_woken n test front) ∙ ap (λ l. held_in n front ++ l) (held_woken n test back) ∙ sym held_before

    seats_now : HaveSeats z w'.history w'.withdrawn (length (b ∷ boots)) w'.seats
    seats_now =
        subst (λ l. HaveSeats z l w'.withdrawn n w'.seats) (sym history) (subst (λ l. HaveSeats z (w.history ++ e ∷ []) l n w'.seats) (sym withdrawn) (subst (HaveSeats z (w.history ++ e ∷ []) w.withdrawn n) (sym seats)
        (seats_entered z set w.history w.withdrawn n front back st have k.object e (seated.its offers) (seated.next offers) fits refl
        (ap (λ g. refused_or g (z.ask (object_of z.iface.facts w.history) st.call)) s.let_in.guarded ∙ s.replied.answered) s.let_in.may phase given done)))

    offered_now : flat_map offered_by (front ++ new ∷ back) ≡ flat_map offered_by w'.seats
    offered_now =
        offered_at front back new ∙ ap (λ l. l ++ (offered_by new ++ flat_map offered_by back)) (sym (offered_woken test front))
        ∙ ap (λ l. flat_map offered_by (map (woken_seat test) front) ++ (offered_by new ++ l)) (sym (offered_woken test back))
        ∙ sym (offered_at (map (woken_seat test) front) (map (woken_seat test) back) new) ∙ ap (flat_map offered_by) (sym seats)

    pub given_back : IsCommittedIn z (standing w b boots (Some v)) stub v st.call item reply other w'
    given_back = record {
      history = history;
      boots = grown;
      running = running;
      held = held_now;
      seats = seats_now;
      left = λ x has. elim (others_left new x has) [
        | inl its ↦ inl its
        | inr rest ↦ inr (subst (λ l. Contains (l ++ map (λ y. y.call) w'.withdrawn) x) offered_now (subst (λ l. Contains (flat_map offered_by (front ++ new ∷ back) ++ map (λ y. y.call) l) x) (sym withdrawn) rest))
      ];
    }

  -- ---- it holds its reply

  module _ (w' : WorldView) (history : w'.history ≡ w.history) (grown : w'.run.boots ≡ noted (b ∷ boots) item) (running : w'.running ≡ Some (after z.iface.facts v (under_names stub.names st.call) other))
      (withdrawn : w'.withdrawn ≡ w.withdrawn) (seats : w'.seats ≡ front ++ record st { phase = Held; boot = length (b ∷ boots); reply = reply } ∷ back) where
    abbrev holder : Seat
    holder = record st { phase = Held; boot = length (b ∷ boots); reply = reply }

    held_with : held_in (length (b ∷ boots)) w'.seats ≡ held_in (length (b ∷ boots)) front ++ e ∷ held_in (length (b ∷ boots)) back
    held_with = ap (held_in n) seats ∙ held_at n front back holder
        ∙ ap (λ q. held_in n front ++ ((if q then e ∷ [] else []) ++ held_in n back)) (same_test n n refl)

    seats_held : HaveSeats z w.history w'.withdrawn (length (b ∷ boots)) w'.seats
    seats_held =
        subst (λ l. HaveSeats z w.history l n w'.seats) (sym withdrawn) (subst (HaveSeats z w.history w.withdrawn n) (sym seats)
        (seats_set z w.history w.withdrawn n front back st have w.withdrawn holder (λ d x other are. are)
        (record {
          its = λ held. seated.its offers;
          next = λ held. seated.next offers;
          may = λ held. seated.may offers;
          waits = λ isn't. absurd (cc isn't);
          receipt = λ isn't. absurd (cc isn't);
          count = seated.count;
          few = seated.few;
        })
        (gone_is z w.history w.withdrawn n front back st have) refl (omega arith)))

    pub holds_back : IsHeldBy z (standing w b boots (Some v)) stub v st.call item reply other (held_in (length (b ∷ boots)) front) (held_in (length (b ∷ boots)) back) w'
    holds_back = record {
      history = history;
      boots = grown;
      running = running;
      held_before = held_before;
      held = held_with;
      seats = seats_held;
      left = λ x has.
          subst (λ l. Contains (flat_map offered_by l ++ map (λ y. y.call) w'.withdrawn) x) (sym seats) (subst (λ l. Contains (flat_map offered_by (front ++ holder ∷ back) ++ map (λ y. y.call) l) x) (sym withdrawn)
          (elim (others_left holder x has) [
            | inl its ↦ subst (Contains (flat_map offered_by (front ++ holder ∷ back) ++ map (λ y. y.call) w.withdrawn)) (sym its) (own_offered front back holder (map (λ y. y.call) w.withdrawn) refl)
            | inr rest ↦ rest
          ]));
    }

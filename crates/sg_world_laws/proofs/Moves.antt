-- The events that change one seat and no history: an offer, a withdrawal, a client that leaves, a reply that is handed over, and one that
-- was lost.

-- a seat holds nothing that counts in a boot
use Rattle.std.proofs.Common.{List, None, Option, Some, [], ap, arith, false, flat_map, if◌then◌else◌, inl, inr, length, map, refl, slice_get, slice_set, subst, sym, ℕ, ◌++◌, ◌+◌, ◌-◌, ◌∙◌, ◌∷◌, ◌≡◌, ◌≢◌, ◌≤◌, ◌⊎◌}
use Rattle.std.proofs.lemmas.List.Elements.{Contains-append_left, Contains-append_right}
use Rattle.std.specs.List.{Contains}
use Rattle.sg_facts.specs.sg_base.declared.call.Call.{Call}
use Rattle.sg_facts.specs.Limits.{last_client}
use Rattle.sg_facts.specs.Object.{Object}
use Rattle.sg_facts.specs.WalkArray.{back}
use Rattle.sg_clients.specs.declared.mark.Mark.{Mark}
use Rattle.sg_recovery_laws.proofs.Lists.{each_split}
use Rattle.sg_clients.specs.WorldView.{Seat, WorldView, held_in, held_replies, is_held_in, offered_by, unanswered}
use Rattle.sg_clients.specs.declared.withdrawn.Withdrawn.{Withdrawn}
use Rattle.sg_world_laws.proofs.Reseated.{reseated}
use Rattle.sg_world_laws.proofs.Seating.{HasSeat, client_last, gone_is, has_seat, held_at, offered_at, seat_is, seats_set, still_offered}
use Rattle.sg_world_laws.specs.Keeping.{KeepsPromise, Stub}
use Rattle.sg_world_laws.specs.Seats.{AreGone, HaveSeats, IsSeated}
use Rattle.sg_world_laws.specs.Setting.{Setting}

abbrev HoldsNone : ℕ → Seat → Type 0
HoldsNone boot s = is_held_in boot s ≡ false

-- what is held stays where a seat that holds nothing comes to hold nothing
held_stays : (boot : ℕ) (front back : List Seat) (s new : Seat) → is_held_in boot s ≡ false → is_held_in boot new ≡ false → held_in boot (front ++ new ∷ back) ≡ held_in boot (front ++ s ∷ back)
held_stays boot front back s new was is =
    held_at boot front back new ∙ ap (λ q. held_in boot front ++ ((if q then record { call = new.call; reply = new.reply } ∷ [] else []) ++ held_in boot back)) is
    ∙ sym (held_at boot front back s ∙ ap (λ q. held_in boot front ++ ((if q then record { call = s.call; reply = s.reply } ∷ [] else []) ++ held_in boot back)) was)

-- a seat holds no reply of the running boot
abbrev pub HoldsNoneNow : WorldView → Seat → Type 0
HoldsNoneNow w s = holds w.running
  where
    holds : Option Object → Type 0
    holds None = Unit {0}
    holds (Some v) = is_held_in (length w.run.boots) s ≡ false

module _ (z : Setting) (w : WorldView) (stub : Stub) (k : KeepsPromise z w stub) (client : ℕ) (s : Seat) (there : slice_get w.seats (client - 1) ≡ Some s) (first : 1 ≤ client) (new : Seat) (later : List Withdrawn)
    (marks : List Mark) (events refused : ℕ) where
  abbrev moved : WorldView
  moved = record w { seats = slice_set w.seats (client - 1) new; withdrawn = later; marks = marks; events = events; refused = refused }

  at_it : HasSeat w.seats (client - 1) s
  at_it = has_seat w.seats (client - 1) s there

  its_place : length at_it.front + 1 ≡ client
  unfolding at_it
  its_place = let p = at_it.place in omega (arith, p, first)

  have : HaveSeats z w.history w.withdrawn (length w.run.boots) (at_it.front ++ s ∷ at_it.back)
  have = subst (HaveSeats z w.history w.withdrawn (length w.run.boots)) at_it.is k.seats

  -- its seat, as the world keeps it
  pub its_seat : IsSeated z w.history client s
  its_seat = subst (λ n. IsSeated z w.history n s) its_place (seat_is z w.history w.withdrawn (length w.run.boots) at_it.front at_it.back s have)

  pub its_gone : AreGone w.withdrawn client s
  its_gone = subst (λ n. AreGone w.withdrawn n s) its_place (gone_is z w.history w.withdrawn (length w.run.boots) at_it.front at_it.back s have)

  pub its_boot : s.boot ≤ length w.run.boots
  its_boot = (each_split (λ x. x.boot ≤ length w.run.boots) at_it.front (s ∷ at_it.back) have.boots_few).1.0

  pub its_client : client ≤ last_client
  its_client = let n = client_last z w.history w.withdrawn (length w.run.boots) at_it.front at_it.back s have in let p = its_place in omega (arith, n, p)

  -- one seat changes, and no history
  pub moves : IsSeated z w.history client new → ((d : ℕ) (x : Seat) → d ≢ client → AreGone w.withdrawn d x → AreGone later d x) → AreGone later client new → new.seq ≡ s.seq → new.boot ≤ length w.run.boots → HoldsNoneNow w s → HoldsNoneNow w new
      → ((x : Call) → Contains (offered_by s) x → Contains (offered_by new) x ⊎ Contains (map (λ y. y.call) later) x) → ((x : Call) → Contains (map (λ y. y.call) w.withdrawn) x → Contains (map (λ y. y.call) later) x)
      → KeepsPromise z (record w { seats = slice_set w.seats (client - 1) new; withdrawn = later; marks = marks; events = events; refused = refused }) stub
  moves is others gone seq boot was none own still = reseated z w moved stub refl refl refl held seats kept k
    where
      set : slice_set w.seats (client - 1) new ≡ at_it.front ++ new ∷ at_it.back
      set = at_it.set new

      held : held_replies moved ≡ held_replies w
      held = by w.running was none
        where
          by : (r : Option Object) → HoldsNoneNow (record w { running = r }) s → HoldsNoneNow (record w { running = r }) new → held_replies (record moved { running = r }) ≡ held_replies (record w { running = r })
          by None was none = refl
          by (Some v) was none = ap (held_in (length w.run.boots)) set ∙ held_stays (length w.run.boots) at_it.front at_it.back s new was none ∙ ap (held_in (length w.run.boots)) (sym at_it.is)

      seats : HaveSeats z w.history later (length w.run.boots) (slice_set w.seats (client - 1) new)
      seats = subst (HaveSeats z w.history later (length w.run.boots)) (sym set)
          (seats_set z w.history w.withdrawn (length w.run.boots) at_it.front at_it.back s have later new (λ d x other. others d x (λ same. other (same ∙ sym its_place)))
          (subst (λ n. IsSeated z w.history n new) (sym its_place) is) (subst (λ n. AreGone later n new) (sym its_place) gone) seq boot)

      kept : (x : Call) → Contains (unanswered w) x → Contains (unanswered moved) x
      kept x has =
          subst (λ l. Contains (flat_map offered_by l ++ map (λ y. y.call) later) x) (sym set)
          (elim (still_offered at_it.front at_it.back s new (map (λ y. y.call) w.withdrawn) (map (λ y. y.call) later) x still (subst (λ l. Contains (flat_map offered_by l ++ map (λ y. y.call) w.withdrawn) x) at_it.is has)) [
            | inl mine ↦ elim (own x mine) [
              | inl offers ↦ Contains-append_left (flat_map offered_by (at_it.front ++ new ∷ at_it.back)) (map (λ y. y.call) later) x
                  (subst (λ l. Contains l x) (sym (offered_at at_it.front at_it.back new))
                  (Contains-append_right (flat_map offered_by at_it.front) (offered_by new ++ flat_map offered_by at_it.back) x (Contains-append_left (offered_by new) (flat_map offered_by at_it.back) x offers)))
              | inr gone_it ↦ Contains-append_right (flat_map offered_by (at_it.front ++ new ∷ at_it.back)) (map (λ y. y.call) later) x gone_it
            ]
            | inr rest ↦ rest
          ])

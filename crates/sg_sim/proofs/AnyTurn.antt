-- A turn of a client, whatever the schedule says: whether the client can take it, and what stays after it.
use Rattle.std.proofs.Common.{◌≡◌, ◌⊎◌, inl, inr, ℕ, zero, suc, ◌-◌, ◌<◌, ◌≤◌, Bool, true, false, ◌&&◌, List, [], ◌∷◌, ◌++◌, None, Some, length, sym, ◌∙◌, ap, subst, arith, slice_set}
use Rattle.std.specs.declared.option.Option.{Option}
use Rattle.std.specs.Prelude.{nat_le, nat_lt, slice_get, unwrap_or}
use Rattle.std.proofs.lemmas.Bool.{cases_lt}
use Rattle.std.proofs.lemmas.Bool.Decides.{nat_tests}
use Rattle.std.proofs.lemmas.List.{length-append}
use Rattle.sg_facts.specs.Interface.{Declared}
use Rattle.sg_facts.specs.declared.entry.Entry.{Entry}
use Rattle.sg_play.specs.sg_plain.Calls.{script_calls}
use Rattle.sg_play.specs.sg_plain.Playing.Callers.{handed, is_setting_up}
use Rattle.sg_play.specs.sg_plain.Playing.Given.{given_in, with_handed}
use Rattle.sg_play.specs.sg_plain.Playing.Plays.{IsPlaying}
use Rattle.sg_play.specs.sg_plain.Playing.Turns.{may_go, may_take_turn}
use Rattle.sg_play.specs.sg_script.declared.script.Script.{Script}
use Rattle.sg_play.specs.sg_clients.WorldView.{Seat, WorldView, happened, seat_in, seat_of}
use Rattle.sg_sim.proofs.Beginning.{clients_from_one, given_count}
use Rattle.sg_sim.specs.Inside.Taken.{MissesTurn, TakesTurn, after_offer}
use Rattle.sg_sim.specs.Playing.{Playing, can_step}
use Rattle.sg_play.specs.sg_world.Steps.{LackedMemory}
use Rattle.sg_play.specs.sg_world_laws.Setting.{Setting}

-- ---- whether a client can step

within_both : (client n : ℕ) (may : Bool) → 1 ≤ client → client ≤ n → (nat_le 1 client && nat_le client n && may) ≡ may
within_both client n may first last = grind (arith, nat_tests)

not_below : (client n : ℕ) (may : Bool) → client < 1 → (nat_le 1 client && nat_le client n && may) ≡ false
not_below client n may below = grind (arith, nat_tests)

not_beyond : (client n : ℕ) (may : Bool) → n < client → (nat_le 1 client && nat_le client n && may) ≡ false
not_beyond client n may beyond = grind (arith, nat_tests)

from_first : (client n : ℕ) (may : Bool) → (nat_le 1 client && nat_le client n && may) ≡ true → 1 ≤ client
from_first client n may can = grind (arith, nat_tests)

to_last : (client n : ℕ) (may : Bool) → (nat_le 1 client && nat_le client n && may) ≡ true → client ≤ n
to_last client n may can = grind (arith, nat_tests)

module _ (p : Playing) (client : ℕ) where
  abbrev may : Bool
  may = may_take_turn p.script client (seat_of p.view client)

  pub can_first : can_step p client ≡ true → 1 ≤ client
  can_first can = from_first client (length p.view.seats) may can

  pub can_last : can_step p client ≡ true → client ≤ length p.view.seats
  can_last can = to_last client (length p.view.seats) may can

  -- one of the play's can step where it may take a turn
  pub can_so : 1 ≤ client → client ≤ length p.view.seats → (b : Bool) → b ≡ may → b ≡ can_step p client
  can_so first last b goes = goes ∙ sym (within_both client (length p.view.seats) may first last)

  -- who is none of them can't
  pub can_not : (1 ≤ client → length p.view.seats < client) → false ≡ can_step p client
  can_not beyond = by (cases_lt client 1)
    where
      by : (client < 1) ⊎ (1 ≤ client) → false ≡ can_step p client
      by (inl below) = sym (not_below client (length p.view.seats) may below)
      by (inr from) = sym (not_beyond client (length p.view.seats) may (beyond from))

-- ---- the setup stays done

longer : (given : List (List ℕ)) (k j id : ℕ) → length (unwrap_or (slice_get given j) []) ≤ length (unwrap_or (slice_get (slice_set given k (unwrap_or (slice_get given k) [] ++ id ∷ [])) j) [])
longer [] k j id = omega arith
longer (l ∷ given) zero zero id = omega (arith, length-append l (id ∷ []))
longer (l ∷ given) zero (suc j) id = omega arith
longer (l ∷ given) (suc k) zero id = omega arith
longer (l ∷ given) (suc k) (suc j) id = longer given k j id

gave_more : (given : List (List ℕ)) (client : ℕ) (told : Option ℕ) → length (given_in given 1) ≤ length (given_in (with_handed given client told) 1)
gave_more given client None = omega arith
gave_more given client (Some id) = longer given (client - 1) 0 id

past : (a b n : ℕ) → a ≤ b → nat_lt a n ≡ false → nat_lt b n ≡ false
past a b n more not = grind (arith, nat_tests)

-- client 1 was given no less, so that the setup stays done
module _ (i : Declared) (script : Script) (history now : List Entry) (seats later : List Seat) (given gave : List (List ℕ)) (was : IsPlaying i script history seats given) (is : IsPlaying i script now later gave) where
  first_was : 1 ≤ length seats
  first_was = omega (arith, was.clients, clients_from_one 0 script.clients was.playable.clients)

  first_is : 1 ≤ length later
  first_is = omega (arith, is.clients, clients_from_one 0 script.clients is.playable.clients)

  pub still_settled : length (given_in given 1) ≤ length (given_in gave 1) → is_setting_up script seats ≡ false → is_setting_up script later ≡ false
  still_settled more settled =
      let before = given_count i script history seats given was 1 (omega arith) first_was in
      let behind = given_count i script now later gave is 1 (omega arith) first_is in
      past (handed (seat_in seats 1)) (handed (seat_in later 1)) (length script.setup) (omega (arith, more, before, behind)) settled

-- ---- after a turn

module _ (z : Setting) (script : Script) (w : WorldView) (given : List (List ℕ)) (client : ℕ) (was : IsPlaying z.iface script w.history w.seats given) where
  pub settled_taken : (told : Option ℕ) (now : WorldView) (gave : List (List ℕ)) → TakesTurn z script w given client told now gave → is_setting_up script w.seats ≡ false → is_setting_up script now.seats ≡ false
  settled_taken told now gave t settled =
      still_settled z.iface script w.history now.history w.seats now.seats given gave was t.playing
      (subst (λ l. length (given_in given 1) ≤ length (given_in l 1)) (sym t.gives) (gave_more given client told)) settled

  pub settled_missed : (now : WorldView) (gave : List (List ℕ)) → MissesTurn z script w given client now gave → is_setting_up script w.seats ≡ false → is_setting_up script now.seats ≡ false
  settled_missed now gave m settled = still_settled z.iface script w.history now.history w.seats now.seats given given was m.playing (omega arith) settled

  pub clients_taken : (told : Option ℕ) (now : WorldView) (gave : List (List ℕ)) → TakesTurn z script w given client told now gave → length now.seats ≡ length w.seats
  clients_taken told now gave t = t.playing.clients ∙ sym was.clients

  pub clients_missed : (now : WorldView) (gave : List (List ℕ)) → MissesTurn z script w given client now gave → length now.seats ≡ length w.seats
  clients_missed now gave m = m.playing.clients ∙ sym was.clients

  -- a turn that wanted memory may be made again
  may_again : (now : WorldView) (gave : List (List ℕ)) → MissesTurn z script w given client now gave → may_take_turn script client (seat_of w client) ≡ true → may_take_turn script client (seat_of now client) ≡ true
  may_again now gave m may = by m.missed
    where
      by : (now ≡ w) ⊎ (now ≡ happened w) ⊎ (IsPlaying z.iface script (after_offer z script w given client).history (after_offer z script w given client).seats given × LackedMemory z (after_offer z script w given client) client now)
          → may_take_turn script client (seat_of now client) ≡ true
      by (inl same) = ap (λ x. may_take_turn script client (seat_of x client)) same ∙ may
      by (inr (inl same)) = ap (λ x. may_take_turn script client (seat_of x client)) same ∙ may
      by (inr (inr both)) =
          ap (λ x. may_take_turn script client (seat_of x client)) both.1.counted
          ∙ ap (λ ph. may_go ph (nat_lt (seat_of (after_offer z script w given client) client).seq (length (script_calls script client)))) both.1.let_in.phase

  pub can_again : (now : WorldView) (gave : List (List ℕ)) → MissesTurn z script w given client now gave
      → (nat_le 1 client && nat_le client (length w.seats) && may_take_turn script client (seat_of w client)) ≡ true → (nat_le 1 client && nat_le client (length now.seats) && may_take_turn script client (seat_of now client)) ≡ true
  can_again now gave m can =
      let first = from_first client (length w.seats) (may_take_turn script client (seat_of w client)) can in
      let last = to_last client (length w.seats) (may_take_turn script client (seat_of w client)) can in
      let may = sym (within_both client (length w.seats) (may_take_turn script client (seat_of w client)) first last) ∙ can in
      within_both client (length now.seats) (may_take_turn script client (seat_of now client)) first (omega (arith, last, clients_missed now gave m)) ∙ may_again now gave m may

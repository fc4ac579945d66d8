-- What small changes of the clients' seats do to their calls.
use Rattle.std.proofs.Common.{◌≡◌, ◌≢◌, ◌⊎◌, ℕ, ◌-◌, ◌≤◌, Bool, true, false, cond, List, [], ◌∷◌, ◌++◌, length, map, refl, sym, ◌∙◌, ap, subst, inl, inr, arith, slice_set}
use Rattle.std.specs.Prelude.{◌&&◌}
use Rattle.sg_facts.specs.sg_base.declared.call.Call.{Call}
use Rattle.sg_facts.specs.sg_base.declared.reply.Reply.{Reply}
use Rattle.sg_facts.specs.declared.entry.Entry.{Entry}
use Rattle.sg_clients.specs.WorldView.{Seat, is_blocked_phase, is_offered, seat_in, woken_seat}
use Rattle.sg_clients.specs.declared.phase.Phase.{Phase}
use Rattle.sg_clients.specs.declared.phase.Phase.TheVariants.{Idle, Asked, Held, Receipted, Blocked, Left}
use Rattle.sg_clients.proofs.Lines.{length_map, length_set, same_or_other, seat_here, seat_there, seat_woken}
use Rattle.sg_plain.specs.Playing.Callers.{EntersCall, EntersNothing, KeepsCall, handed, is_receipted}

was_offered : (p : Phase) → is_blocked_phase p ≡ true → is_offered p ≡ true
was_offered Blocked is = refl
was_offered Idle is = absurd (cc is)
was_offered Asked is = refl
was_offered Held is = refl
was_offered Receipted is = absurd (cc is)
was_offered Left is = absurd (cc is)

not_receipted : (p : Phase) → is_blocked_phase p ≡ true → is_receipted p ≡ false
not_receipted Blocked is = refl
not_receipted Idle is = refl
not_receipted Asked is = refl
not_receipted Held is = refl
not_receipted Receipted is = absurd (cc is)
not_receipted Left is = refl

pub keeps_woken : (f : Call → Bool) (s : Seat) → KeepsCall s (woken_seat f s)
keeps_woken f s = by (is_blocked_phase s.phase) refl (f s.call)
  where
    by : (b : Bool) → is_blocked_phase s.phase ≡ b → (t : Bool) → KeepsCall s (cond (b && t) (record s { phase = Asked }) s)
    by true blocked true = record { offered = λ offers. was_offered s.phase blocked; call = refl; seq = refl }
    by true blocked false = record { offered = λ offers. offers; call = refl; seq = refl }
    by false blocked t = record { offered = λ offers. offers; call = refl; seq = refl }

pub handed_woken : (f : Call → Bool) (s : Seat) → handed (woken_seat f s) ≡ handed s
handed_woken f s = by (is_blocked_phase s.phase) refl (f s.call)
  where
    by : (b : Bool) → is_blocked_phase s.phase ≡ b → (t : Bool) → handed (cond (b && t) (record s { phase = Asked }) s) ≡ handed s
    by true blocked true = ap (λ r. cond r (s.seq - 1) s.seq) (sym (not_receipted s.phase blocked))
    by true blocked false = refl
    by false blocked t = refl

same_call : (s : Seat) → KeepsCall s s
same_call s = record { offered = λ offers. offers; call = refl; seq = refl }

-- ---- no entry

-- nothing changes
pub line_same : (history : List Entry) (seats : List Seat) (c : ℕ) → EntersNothing history seats c history seats
line_same history seats c = record {
  same = refl;
  clients = refl;
  each = λ client from. same_call (seat_in seats client);
  handed_on = record { own = omega arith; others = λ client from other. refl };
}

-- one seat changes, and not its call
pub line_set : (history : List Entry) (seats : List Seat) (c : ℕ) (new : Seat) → 1 ≤ c → c ≤ length seats → KeepsCall (seat_in seats c) new → handed (seat_in seats c) ≤ handed new
    → EntersNothing history seats c history (slice_set seats (c - 1) new)
line_set history seats c new first last keeps more = record {
  same = refl;
  clients = length_set seats (c - 1) new;
  each = λ client from. by client from (same_or_other client c);
  handed_on = record {
    own = subst (λ s. handed (seat_in seats c) ≤ handed s) (sym (seat_here seats c new first last)) more;
    others = λ client from other. ap handed (seat_there seats c client new first from other);
  };
}
  where
    by : (client : ℕ) → 1 ≤ client → (client ≡ c) ⊎ (client ≢ c) → KeepsCall (seat_in seats client) (seat_in (slice_set seats (c - 1) new) client)
    by client from (inl same) = subst (λ n. KeepsCall (seat_in seats n) (seat_in (slice_set seats (c - 1) new) n)) (sym same) (subst (KeepsCall (seat_in seats c)) (sym (seat_here seats c new first last)) keeps)
    by client from (inr other) = subst (KeepsCall (seat_in seats client)) (sym (seat_there seats c client new first from other)) (same_call (seat_in seats client))

-- whoever waits is woken where a test is met
pub line_woken : (history : List Entry) (seats : List Seat) (c : ℕ) (f : Call → Bool) → EntersNothing history seats c history (map (woken_seat f) seats)
line_woken history seats c f = record {
  same = refl;
  clients = length_map (woken_seat f) seats;
  each = λ client from. subst (KeepsCall (seat_in seats client)) (sym (seat_woken f seats client)) (keeps_woken f (seat_in seats client));
  handed_on = record {
    own = omega (arith, ap handed (seat_woken f seats c) ∙ handed_woken f (seat_in seats c));
    others = λ client from other. ap handed (seat_woken f seats client) ∙ handed_woken f (seat_in seats client);
  };
}

-- ---- an entry

-- a call is entered with a reply, clients are woken, and its client's seat is another then
pub line_entered : (history : List Entry) (seats : List Seat) (c : ℕ) (f : Call → Bool) (reply : Reply) (new : Seat) → 1 ≤ c → c ≤ length seats → is_offered (seat_in seats c).phase ≡ true
    → is_offered new.phase ≡ false → new.seq ≡ (seat_in seats c).call.seq → handed (seat_in seats c) ≤ handed new
    → EntersCall history seats c (history ++ record { call = (seat_in seats c).call; reply = reply } ∷ []) (slice_set (map (woken_seat f) seats) (c - 1) new)
line_entered history seats c f reply new first last offers answered number more =
    let woken = map (woken_seat f) seats in
    let within : c ≤ length woken = omega (arith, last, length_map (woken_seat f) seats) in
    record {
      reply = reply;
      entered = refl;
      clients = length_set woken (c - 1) new ∙ length_map (woken_seat f) seats;
      offered = offers;
      answered = ap (λ s. is_offered s.phase) (seat_here woken c new first within) ∙ answered;
      number = ap (λ s. s.seq) (seat_here woken c new first within) ∙ number;
      others = λ client from other. subst (KeepsCall (seat_in seats client)) (sym (seat_there woken c client new first from other ∙ seat_woken f seats client)) (keeps_woken f (seat_in seats client));
      handed_on = record {
        own = subst (λ s. handed (seat_in seats c) ≤ handed s) (sym (seat_here woken c new first within)) more;
        others = λ client from other. ap handed (seat_there woken c client new first from other ∙ seat_woken f seats client) ∙ handed_woken f (seat_in seats client);
      };
    }

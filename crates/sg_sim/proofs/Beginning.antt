-- Where a play begins.
use Rattle.std.proofs.Common.{◌≡◌, ℕ, zero, suc, ◌-◌, ◌≤◌, Bool, true, false, cond, List, [], ◌∷◌, length, map, refl, sym, ◌∙◌, ap, subst, arith, replicate, take}
use Rattle.std.specs.Prelude.{slice_get, unwrap_or}
use Rattle.std.proofs.lemmas.List.{length-replicate}
use Rattle.sg_facts.specs.Interface.{Declared}
use Rattle.sg_facts.specs.Limits.{last_client}
use Rattle.sg_facts.specs.declared.entry.Entry.{Entry}
use Rattle.sg_play.specs.sg_hist.Clients.{calls_of}
use Rattle.sg_play.specs.sg_hist.Inside.Reads.{desc_of}
use Rattle.sg_play.specs.sg_plain.Calls.{most_client}
use Rattle.sg_play.specs.sg_plain.Playing.Callers.{IsCaller, all_of_first, handed, is_receipted}
use Rattle.sg_play.specs.sg_plain.Playing.Given.{given_in}
use Rattle.sg_play.specs.sg_plain.Playing.Playable.{AreClients, IsPlayable}
use Rattle.sg_play.specs.sg_plain.Playing.Plays.{IsPlaying}
use Rattle.sg_play.specs.sg_script.declared.script.Script.{Script}
use Rattle.sg_play.specs.sg_script.declared.script.ScriptCall.{ScriptCall}
use Rattle.sg_play.specs.sg_clients.WorldView.{Seat, is_offered, no_seat, seat_in}

-- there is a first client, and no more than there may be
pub clients_from_one : (above : ℕ) (clients : List (ℕ × List ScriptCall)) → AreClients above clients → 1 ≤ most_client clients
clients_from_one above [] are = omega arith
clients_from_one above (c ∷ []) are = omega (arith, are.0)
clients_from_one above (c ∷ other ∷ clients) are = clients_from_one c.0 (other ∷ clients) are.2

pub few_clients : (above : ℕ) (clients : List (ℕ × List ScriptCall)) → AreClients above clients → most_client clients ≤ last_client
few_clients above [] are = omega arith
few_clients above (c ∷ []) are = are.1
few_clients above (c ∷ other ∷ clients) are = few_clients c.0 (other ∷ clients) are.2

-- ---- new seats

seat_at : (n k : ℕ) → unwrap_or (slice_get (replicate n no_seat) k) no_seat ≡ no_seat
seat_at zero k = refl
seat_at (suc n) zero = refl
seat_at (suc n) (suc k) = seat_at n k

pub new_seat : (n client : ℕ) → seat_in (replicate n no_seat) client ≡ no_seat
new_seat n client = seat_at n (client - 1)

abbrev nothing : List ℕ
nothing = []

given_at : (n k : ℕ) → unwrap_or (slice_get (replicate n nothing) k) [] ≡ []
given_at zero k = refl
given_at (suc n) zero = refl
given_at (suc n) (suc k) = given_at n k

no_front : (n : ℕ) → all_of_first (take n []) ≡ true
no_front zero = refl
no_front (suc n) = refl

none_given : (n : ℕ) → map (λ (e : Entry). desc_of e.reply) (take n []) ≡ []
none_given zero = refl
none_given (suc n) = refl

-- a play begins
pub playing_new : (i : Declared) (script : Script) → IsPlayable i script → IsPlaying i script [] (replicate (most_client script.clients) no_seat) (replicate (most_client script.clients) [])
playing_new i script playable =
    let n = most_client script.clients in
    record {
      playable = playable;
      clients = length-replicate n no_seat;
      callers = record {
        each = λ client first last. subst (IsCaller i.facts script [] client) (sym (new_seat n client)) (record { made = tt; count = refl; next = λ offers. absurd (cc offers) });
        none_else = λ client some. absurd (some refl);
      };
      first = record {
        front = no_front (length script.setup);
        all = λ is. refl;
        others = λ is client first other. ap (λ (s : Seat). is_offered s.phase) (new_seat n client);
      };
      have_given = record {
        clients = length-replicate n [] ∙ sym (length-replicate n no_seat);
        each = λ client first last. none_given (handed (seat_in (replicate n no_seat) client)) ∙ sym (given_at n (client - 1));
      };
    }

-- ---- ids

length_map : (es : List Entry) → length (map (λ (e : Entry). desc_of e.reply) es) ≡ length es
length_map [] = refl
length_map (e ∷ es) = ap suc (length_map es)

length_taken : (es : List Entry) (n : ℕ) → n ≤ length es → length (take n es) ≡ n
length_taken es zero few = refl
length_taken [] (suc n) few = absurd (omega (arith, few))
length_taken (e ∷ es) (suc n) few = ap suc (length_taken es n (omega (arith, few)))

-- no more replies are handed over than calls are made
pub few_handed : (s : Seat) → handed s ≤ s.seq
few_handed s = by (is_receipted s.phase)
  where
    by : (b : Bool) → cond b (s.seq - 1) s.seq ≤ s.seq
    by true = omega arith
    by false = omega arith

-- a client was given as many ids as replies were handed over to it
pub given_count : (i : Declared) (script : Script) (history : List Entry) (seats : List Seat) (given : List (List ℕ)) → IsPlaying i script history seats given → (client : ℕ) → 1 ≤ client → client ≤ length seats
    → length (given_in given client) ≡ handed (seat_in seats client)
given_count i script history seats given is client first last =
    let s = seat_in seats client in
    ap (λ (l : List ℕ). length l) (sym (is.have_given.each client first last)) ∙ length_map (take (handed s) (calls_of history client))
    ∙ length_taken (calls_of history client) (handed s) (omega (arith, few_handed s, (is.callers.each client first last).count))

-- A play keeps what it keeps, at an offer and at a step.
use Rattle.std.proofs.Common.{◌≡◌, ◌≢◌, ◌⊎◌, ℕ, ◌≤◌, true, List, None, Some, length, map, take, sym, ◌∙◌, ap, subst, inl, inr, arith}
use Rattle.std.specs.declared.option.Option.{Option}
use Rattle.sg_facts.specs.declared.entry.Entry.{Entry}
use Rattle.sg_facts.specs.Interface.{Declared}
use Rattle.sg_clients.specs.sg_hist.Clients.{calls_of}
use Rattle.sg_clients.specs.sg_hist.Inside.Reads.{desc_of}
use Rattle.sg_plain.specs.Calls.{call_after}
use Rattle.sg_plain.specs.Promises.{AreScriptsCalls}
use Rattle.sg_script.specs.declared.script.Script.{Script}
use Rattle.sg_clients.specs.WorldView.{Seat, is_offered, seat_in}
use Rattle.sg_clients.proofs.Lines.{same_or_other}
use Rattle.sg_plain.specs.Playing.Callers.{EntersNothing, StepsOn, handed, is_setting_up}
use Rattle.sg_plain.specs.Playing.Given.{HandsToClient, with_handed}
use Rattle.sg_plain.specs.Playing.Plays.{IsPlaying}
use Rattle.sg_plain.proofs.Playing.Calling.{callers_offer, callers_step, its_client}
use Rattle.sg_plain.proofs.Playing.Giving.{given_step}
use Rattle.sg_plain.proofs.Playing.Setting.{setup_offer, setup_step, setup_still}
use Rattle.sg_plain.proofs.Playing.Whole.{scripts_calls}

module _ (i : Declared) (script : Script) (history : List Entry) (seats : List Seat) (given : List (List ℕ)) (c : ℕ) (first : 1 ≤ c) (last : c ≤ length seats)
    (turn : is_setting_up script seats ≡ true → c ≡ 1) (is : IsPlaying i script history seats given) where
  one_client : 1 ≤ length seats
  one_client = omega (arith, first, last)

  -- a step of a client, which is client 1 while the setup goes on
  pub playing_step : (now : List Entry) (later : List Seat) (told : Option ℕ) → StepsOn history seats c now later → HandsToClient seats c now later told → IsPlaying i script now later (with_handed given c told)
  playing_step now later told steps hands = record {
    playable = is.playable;
    clients = by steps ∙ is.clients;
    callers = callers_step i script history now seats later c is.playable first last is.callers steps;
    first = setup_step script history now seats later c turn (is.callers.each 1 (omega arith) one_client).count
        (λ offers. its_client i.facts script history c (length (calls_of history c)) (seat_in seats c).call ((is.callers.each c first last).next offers)) is.first steps;
    have_given = given_step i script history now seats later c given is.playable first last is.callers is.have_given steps told hands;
  }
    where
      by : StepsOn history seats c now later → length later ≡ length seats
      by (inl enters) = enters.clients
      by (inr enters) = enters.clients

  -- a client that has no call under way offers its next
  pub playing_offer : (later : List Seat) → length later ≡ length seats → call_after i.facts script history c (length (calls_of history c)) ≡ Some (seat_in later c).call
      → (seat_in later c).seq ≡ (seat_in seats c).seq → handed (seat_in later c) ≡ handed (seat_in seats c)
      → ((client : ℕ) → 1 ≤ client → client ≢ c → seat_in later client ≡ seat_in seats client) → IsPlaying i script history later given
  playing_offer later clients next number same others = record {
    playable = is.playable;
    clients = clients ∙ is.clients;
    callers = callers_offer i.facts script history seats later c is.callers clients next number (λ client from to. others client from);
    first = setup_offer script history seats later c turn (handed_at 1 (omega arith) (same_or_other 1 c)) (λ client from other. ap (λ s. is_offered s.phase) (others client from other)) is.first;
    have_given = record {
      clients = is.have_given.clients ∙ sym clients;
      each = λ client from to.
          ap (λ n. map (λ e. desc_of e.reply) (take n (calls_of history client))) (handed_at client from (same_or_other client c))
          ∙ is.have_given.each client from (subst (λ n. client ≤ n) clients to);
    };
  }
    where
      handed_at : (client : ℕ) → 1 ≤ client → (client ≡ c) ⊎ (client ≢ c) → handed (seat_in later client) ≡ handed (seat_in seats client)
      handed_at client from (inl it) = subst (λ n. handed (seat_in later n) ≡ handed (seat_in seats n)) (sym it) same
      handed_at client from (inr other) = ap handed (others client from other)

-- where a client makes no entry and is handed nothing
pub playing_still : (i : Declared) (script : Script) (history now : List Entry) (seats later : List Seat) (given : List (List ℕ)) (c : ℕ) → 1 ≤ c → c ≤ length seats → IsPlaying i script history seats given
    → EntersNothing history seats c now later → handed (seat_in later c) ≡ handed (seat_in seats c) → IsPlaying i script now later given
playing_still i script history now seats later given c first last is enters same = record {
  playable = is.playable;
  clients = enters.clients ∙ is.clients;
  callers = callers_step i script history now seats later c is.playable first last is.callers (inl enters);
  first = setup_still script history now seats later c is.first enters;
  have_given = given_step i script history now seats later c given is.playable first last is.callers is.have_given (inl enters) None same;
}

-- the entries are the script's calls
pub playing_calls : (i : Declared) (script : Script) (history : List Entry) (seats : List Seat) (given : List (List ℕ)) → IsPlaying i script history seats given → AreScriptsCalls i.facts script history
playing_calls i script history seats given is = scripts_calls i.facts script history seats is.clients is.callers is.first

-- Whose the calls of seats are.
use Rattle.std.proofs.Common.{◌≡◌, ℕ, ◌+◌, true, List, length, sym, ◌∙◌, ap}
use Rattle.sg_facts.specs.declared.entry.Entry.{Entry}
use Rattle.sg_facts.specs.Facts.{Facts}
use Rattle.sg_plain.specs.sg_hist.Clients.{calls_of}
use Rattle.sg_plain.proofs.Playing.Calling.{its_client, next_of}
use Rattle.sg_plain.specs.Playing.Callers.{IsCaller}
use Rattle.sg_plain.specs.sg_script.declared.script.Script.{Script}
use Rattle.sg_plain.specs.sg_clients.WorldView.{Seat, is_offered}

-- a call that isn't answered is its client's, under the next number
pub call_is_own : (facts : Facts) (script : Script) (history : List Entry) (client : ℕ) (s : Seat) → IsCaller facts script history client s → is_offered s.phase ≡ true → s.call.client ≡ client
call_is_own facts script history client s is offers = its_client facts script history client (length (calls_of history client)) s.call (is.next offers)

pub call_is_next : (facts : Facts) (script : Script) (history : List Entry) (client : ℕ) (s : Seat) → IsCaller facts script history client s → is_offered s.phase ≡ true → s.call.seq ≡ s.seq + 1
call_is_next facts script history client s is offers =
    ap (λ c. c.seq) (next_of facts script history client (length (calls_of history client)) s.call (is.next offers)).is ∙ ap (λ n. n + 1) (sym is.count)
